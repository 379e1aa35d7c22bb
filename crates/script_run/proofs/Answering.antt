-- The answer of SELECT over a table that was opened, and over the files.
use Rattle.std.proofs.Common.{◌≡◌, ℕ, Bool, false, List, [], ◌∷◌, length, map, Option, Some, None, Result, Ok, Err, refl, sym, subst, ap, ◌∙◌}
use Rattle.std.specs.Prelude.{All, filter}
use Rattle.std.specs.List.{AllByRecursion, range_with_len}
use Rattle.std.proofs.lemmas.List.Elements.{All-from_recursion, recursion_from_All}
use Rattle.std.proofs.lemmas.List.{length-map}
use Rattle.std.proofs.lemmas.List.FromFn.{length-range_with_len}
use Rattle.column_vectors.specs.Cells.{Cells}
use Rattle.delta_schema.specs.declared.schema.ColumnDef.{ColumnDef}
use Rattle.dm_store.specs.Causes.{Counts, StopCause}
use Rattle.dm_store.specs.Files.{Files, WhereTold}
use Rattle.dm_types.specs.Ranges.{IsWellFormed}
use Rattle.dm_types.specs.declared.refusal.Refused.TheVariants as refused
use Rattle.dm_types.specs.declared.refusal.StatementRefusal.{StatementRefusal}
use Rattle.dm_types.specs.declared.refusal.Stop.{Stop}
use Rattle.dm_types.specs.declared.refusal.Stop.TheVariants as stop
use Rattle.dm_types.specs.declared.value.DataType.{DataType}
use Rattle.row_tracking.specs.Order.{in_id_order}
use Rattle.script_run.specs.RowLines.{lines_text}
use Rattle.script_run.specs.Selected.{TellsAnswer, item_names, item_values, names_line, query_text, scope_of, select, selected, values_line}
use Rattle.script_run.specs.ShownRows.{in_line_order}
use Rattle.script_run.specs.StepsRows.{IsPrintable}
use Rattle.script_run.specs.StepsSelected.{answer_of, is_kept, kept_rows, text_of, values_at}
use Rattle.select_rows.specs.Answers.{Decides, DecidesAs}
use Rattle.select_rows.specs.Queries.{typed_query, unless_broken}
use Rattle.select_rows.specs.Rows.{columns_of, errors_in, flags_where, holds_on, rows_of}
use Rattle.select_rows.specs.declared.query.Query.{Query}
use Rattle.select_rows.specs.declared.query.QueryItem.{QueryItem}
use Rattle.select_rows.proofs.ByPlace.{told_value}
use Rattle.sql_statements.specs.declared.SelectItems.{SelectItems}
use Rattle.sql_tree.specs.declared.tree.Expr.{Expr}
use Rattle.table_load.specs.Held.{Opened, held_at, opened_at, state_of}
use Rattle.table_load.specs.Loaded.{IsLoaded, opened_for, seen}
use Rattle.table_load.specs.Properties.{tracks_rows}
use Rattle.table_load.specs.Tells.{TellsAs}
use Rattle.table_load.specs.declared.loaded.Loaded.{Loaded}
use Rattle.table_load.specs.declared.loaded.Purpose.TheVariants as purpose
use Rattle.typed_expr.specs.Fits.{AreWellFormed, kinds_in}
use Rattle.typed_expr.specs.declared.scope.ScopeColumn.{ScopeColumn}
use Rattle.typed_expr.specs.declared.tree.TypedExpr.{TypedExpr}
use Rattle.vector_eval.specs.Batches.{IsRanged, found_or, kinds_of}
use Rattle.vector_eval.specs.Rows as rows
use Rattle.script_run.proofs.Selecting as by_rows
use Rattle.script_run.proofs.ShowingRows.{not_opened, opened, printable}

-- ---- what was loaded

columns_printable : (loaded : Loaded) → IsLoaded loaded → All (λ column. length column.values ≡ loaded.batch.rows) loaded.batch.columns → All (IsPrintable (length loaded.ids)) loaded.batch.columns
columns_printable loaded was even =
    subst (λ (n : ℕ). All (IsPrintable n) loaded.batch.columns) (sym was.ids) (printable loaded.head.schema loaded.batch.columns loaded.batch.rows was.types was.ranges even)

pub all_printable : (loaded : Loaded) → IsLoaded loaded → All (IsPrintable (length loaded.ids)) loaded.batch.columns
all_printable loaded was = columns_printable loaded was loaded.batch.even

columns_ranged : (loaded : Loaded) → IsLoaded loaded → All IsRanged loaded.batch.columns
columns_ranged loaded was k d within = (all_printable loaded was k d within).ranges

pub values_printable : (loaded : Loaded) (rows : ℕ) (columns : List Cells) → IsLoaded loaded → rows ≡ loaded.batch.rows → All (λ column. length column.values ≡ rows) columns → (All IsRanged loaded.batch.columns → All IsRanged columns)
    → All (IsPrintable (length loaded.ids)) columns
values_printable loaded rows columns was same even ranges k d within = record {
  rows = even k d within ∙ same ∙ sym was.ids;
  ranges = ranges (columns_ranged loaded was) k d within;
}

scope_kinds : (table : List ℕ) (columns : List ColumnDef) → kinds_in (scope_of table columns) ≡ map (λ column. column.kind) columns
scope_kinds table [] = refl
scope_kinds table (column ∷ columns) = ap (λ (ks : List DataType). column.kind ∷ ks) (scope_kinds table columns)

pub kinds_same : (table : List ℕ) (loaded : Loaded) (scope : List ScopeColumn) → scope ≡ scope_of table loaded.head.schema → IsLoaded loaded → kinds_in scope ≡ kinds_of loaded.batch.columns
kinds_same table loaded scope are was = ap kinds_in are ∙ scope_kinds table loaded.head.schema ∙ sym was.types

formed_scope : (table : List ℕ) (columns : List ColumnDef) → AllByRecursion (λ column. IsWellFormed column.kind) columns → AllByRecursion (λ column. IsWellFormed column.kind) (scope_of table columns)
formed_scope table [] all = tt
formed_scope table (column ∷ columns) all = (all.0, formed_scope table columns all.1)

pub well_formed : (table : List ℕ) (loaded : Loaded) (scope : List ScopeColumn) → scope ≡ scope_of table loaded.head.schema → IsLoaded loaded → AreWellFormed scope
well_formed table loaded scope are was =
    subst AreWellFormed (sym are)
    (All-from_recursion (λ (column : ScopeColumn). IsWellFormed column.kind) (scope_of table loaded.head.schema)
    (formed_scope table loaded.head.schema (recursion_from_All (λ (column : ColumnDef). IsWellFormed column.kind) loaded.head.schema was.kinds)))

-- ---- the items on the rows that are kept

flags_are : (loaded : Loaded) (conjuncts : List TypedExpr) (kept : List Bool) → IsLoaded loaded → flags_where conjuncts (rows_of loaded.batch.columns loaded.batch.rows) ≡ Ok kept
    → map (found_or false) (map (holds_on conjuncts) (rows_of loaded.batch.columns (length loaded.ids))) ≡ kept
flags_are loaded conjuncts kept was e =
    ap (λ (n : ℕ). map (found_or false) (map (holds_on conjuncts) (rows_of loaded.batch.columns n))) was.ids
    ∙ (told_value (errors_in (map (holds_on conjuncts) (rows_of loaded.batch.columns loaded.batch.rows))) (map (found_or false) (map (holds_on conjuncts) (rows_of loaded.batch.columns loaded.batch.rows))) kept e).1

module _ (loaded : Loaded) (was : IsLoaded loaded) (conjuncts : List TypedExpr) (kept : List Bool) (passed : flags_where conjuncts (rows_of loaded.batch.columns loaded.batch.rows) ≡ Ok kept) where
  abbrev columns : List Cells
  columns = loaded.batch.columns

  abbrev places : List ℕ
  places = range_with_len 0 (length loaded.ids)

  pub flags_long : length kept ≡ length loaded.ids
  flags_long =
      sym (ap (length {A = Bool}) (flags_are loaded conjuncts kept was passed))
      ∙ length-map (map (holds_on conjuncts) (rows_of columns (length loaded.ids))) (found_or false)
      ∙ length-map (rows_of columns (length loaded.ids)) (holds_on conjuncts)
      ∙ length-map places (rows.row_at columns)
      ∙ length-range_with_len 0 (length loaded.ids)

  text_is : (items : Option (List QueryItem)) (names : List (List ℕ)) (found : List Cells) (text : List ℕ) → names ≡ item_names loaded.head.schema items
      → map (values_at found) (filter (is_kept kept) (in_id_order loaded.ids)) ≡ map (λ row. values_line (item_values items row)) (kept_rows loaded kept)
      → text ≡ text_of loaded names found kept → text ≡ query_text (state_of (seen loaded)) items (kept_rows loaded kept)
  text_is items names found text named lines is =
      is
      ∙ ap (λ (ns : List (List ℕ)). lines_text (names_line ns ∷ in_line_order (tracks_rows loaded.head.snapshot) (map (values_at found) (filter (is_kept kept) (in_id_order loaded.ids))))) named
      ∙ ap (λ (ls : List (List ℕ)). lines_text (names_line (item_names loaded.head.schema items) ∷ in_line_order (tracks_rows loaded.head.snapshot) ls)) lines

  pub all_answered : (names : List (List ℕ)) (text : List ℕ) → names ≡ item_names loaded.head.schema None → text ≡ text_of loaded names columns kept → answer_of loaded None kept ≡ Ok text
  all_answered names text named is =
      ap Ok (sym (text_is None names columns text named (by_rows.lines_of_all columns loaded.ids (filter (is_kept kept) (in_id_order loaded.ids))) is))

  module _ (items : List QueryItem) where
    abbrev trees : List TypedExpr
    trees = map (λ (item : QueryItem). item.value) items

    pub items_answered : (names : List (List ℕ)) (found : List Cells) (text : List ℕ) → names ≡ item_names loaded.head.schema (Some items) → columns_of columns kept trees ≡ Ok found
        → text ≡ text_of loaded names found kept → answer_of loaded (Some items) kept ≡ Ok text
    items_answered names found text named read is =
        let flags = flags_are loaded conjuncts kept was passed in
        let (are, told) = by_rows.values_are columns loaded.ids conjuncts kept flags items found read in
        let lines = ap (λ (cs : List Cells). map (values_at cs) (filter (is_kept kept) (in_id_order loaded.ids))) are ∙ by_rows.lines_of columns loaded.ids conjuncts kept flags items in
        told (List ℕ) (query_text (state_of (seen loaded)) (Some items) (kept_rows loaded kept)) ∙ ap Ok (sym (text_is (Some items) names found text named lines is))

    pub items_refused : (refusal : StatementRefusal) → columns_of columns kept trees ≡ Err refusal → answer_of loaded (Some items) kept ≡ Err refusal
    items_refused refusal e =
        by_rows.no_values columns loaded.ids conjuncts kept (flags_are loaded conjuncts kept was passed) items (query_text (state_of (seen loaded)) (Some items) (kept_rows loaded kept)) refusal e

-- ---- a refusal goes on

pub refused_on : {X A B : Type 0} (view : X → A) (first : Result A StatementRefusal) (whole : Result B StatementRefusal) (e : Stop) (answer : Result B Stop) → answer ≡ Err e
    → ((refusal : StatementRefusal) → first ≡ Err refusal → whole ≡ Err refusal) → DecidesAs view first (Err e) → Decides whole answer
refused_on {X} {A} {B} view first whole e answer is so told = subst (λ (r : Result B Stop). Decides whole r) (sym is) (by e told)
  where
    by : (e : Stop) → DecidesAs view first (Err e) → Decides whole (Err e)
    by (stop.Refused (refused.Statement refusal)) told = so refusal told
    by (stop.Refused (refused.Table refusal)) told = told
    by (stop.Refused (refused.Put refusal)) told = told
    by stop.Store told = told
    by stop.Names told = told
    by stop.Memory told = tt

-- ---- the state of the table

module _ (table : List ℕ) (items : SelectItems) (x : Option Expr) (loaded : Loaded) (was : IsLoaded loaded) where
  abbrev the_query : Result Query StatementRefusal
  the_query = unless_broken (typed_query (scope_of table loaded.head.schema) items x)

  pub query_refused : (refusal : StatementRefusal) → the_query ≡ Err refusal → selected table items x (state_of (seen loaded)) ≡ Err refusal
  unfolding selected
  query_refused refusal e = rw e refl

  pub rows_refused : (query : Query) → the_query ≡ Ok query → (refusal : StatementRefusal) → flags_where query.conjuncts (rows_of loaded.batch.columns loaded.batch.rows) ≡ Err refusal
      → selected table items x (state_of (seen loaded)) ≡ Err refusal
  unfolding selected
  rows_refused query typed refusal e =
      let whole : flags_where query.conjuncts (rows_of loaded.batch.columns (length loaded.ids)) ≡ Err refusal = ap (λ (n : ℕ). flags_where query.conjuncts (rows_of loaded.batch.columns n)) was.ids ∙ e in
      rw (typed, by_rows.not_kept loaded.batch.columns loaded.ids query.conjuncts refusal whole) refl

  pub query_answered : (query : Query) (kept : List Bool) → the_query ≡ Ok query → flags_where query.conjuncts (rows_of loaded.batch.columns loaded.batch.rows) ≡ Ok kept
      → (answer : Result (List ℕ) Stop) → Decides (answer_of loaded query.items kept) answer → Decides (selected table items x (state_of (seen loaded))) answer
  unfolding selected
  query_answered query kept typed passed answer told =
      let whole : flags_where query.conjuncts (rows_of loaded.batch.columns (length loaded.ids)) ≡ Ok kept = ap (λ (n : ℕ). flags_where query.conjuncts (rows_of loaded.batch.columns n)) was.ids ∙ passed in
      rw (typed, by_rows.are_kept loaded.batch.columns loaded.ids query.conjuncts kept whole) told

-- ---- the files

pub answer_told : (told : Option Files) (folder table : List ℕ) (asked : Option ℕ) (items : SelectItems) (x : Option Expr) (it : Opened) (answer : Result (List ℕ) Stop)
    → WhereTold told (λ files. opened_for purpose.Read folder asked files ≡ Ok it) → Decides (selected table items x (state_of it)) answer → TellsAnswer told (λ files. select folder table asked items x files) answer
unfolding select held_at opened_for
answer_told None folder table asked items x it (Ok text) loaded decided = tt
answer_told (Some files) folder table asked items x it (Ok text) loaded decided = rw (opened (opened_at folder asked files) it loaded, decided) refl
answer_told None folder table asked items x it (Err (stop.Refused (refused.Statement refusal))) loaded decided = tt
answer_told (Some files) folder table asked items x it (Err (stop.Refused (refused.Statement refusal))) loaded decided = rw (opened (opened_at folder asked files) it loaded, decided) refl
answer_told told folder table asked items x it (Err (stop.Refused (refused.Table refusal))) loaded decided = absurd decided
answer_told told folder table asked items x it (Err (stop.Refused (refused.Put refusal))) loaded decided = absurd decided
answer_told told folder table asked items x it (Err stop.Store) loaded decided = tt
answer_told told folder table asked items x it (Err stop.Names) loaded decided = decided
answer_told told folder table asked items x it (Err stop.Memory) loaded decided = tt

refused_told : {X : Type 0} (view : X → Opened) (told : Option Files) (folder table : List ℕ) (asked : Option ℕ) (items : SelectItems) (x : Option Expr) (why : Stop)
    → TellsAs view told (λ files. opened_for purpose.Read folder asked files) (Err why) → TellsAnswer told (λ files. select folder table asked items x files) (Err why)
unfolding select held_at opened_for
refused_told view told folder table asked items x stop.Store loaded = tt
refused_told view told folder table asked items x stop.Names loaded = loaded
refused_told view told folder table asked items x stop.Memory loaded = tt
refused_told view None folder table asked items x (stop.Refused (refused.Table refusal)) loaded = tt
refused_told view (Some files) folder table asked items x (stop.Refused (refused.Table refusal)) loaded = rw (not_opened (opened_at folder asked files) refusal loaded) refl
refused_told view told folder table asked items x (stop.Refused (refused.Statement refusal)) loaded = absurd loaded
refused_told view told folder table asked items x (stop.Refused (refused.Put refusal)) loaded = absurd loaded

pub not_answered : {X : Type 0} (view : X → Opened) (told : Option Files) (folder table : List ℕ) (asked : Option ℕ) (items : SelectItems) (x : Option Expr) (why : Stop) (answer : Result (List ℕ) Stop) → answer ≡ Err why
    → TellsAs view told (λ files. opened_for purpose.Read folder asked files) (Err why) → TellsAnswer told (λ files. select folder table asked items x files) answer
not_answered view told folder table asked items x why answer is loaded =
    subst (λ (r : Result (List ℕ) Stop). TellsAnswer told (λ files. select folder table asked items x files) r) (sym is) (refused_told view told folder table asked items x why loaded)

-- the store isn't asked behind the loading
pub counts_on : {A : Type 0} (known : Result A StatementRefusal) (answer : Result A Stop) (before now : ℕ) → now ≡ before → Decides known answer → Counts StopCause before now answer
counts_on known (Ok value) before now same told = same
counts_on known (Err (stop.Refused refusal)) before now same told = same
counts_on known (Err stop.Store) before now same told = absurd told
counts_on known (Err stop.Names) before now same told = absurd told
counts_on known (Err stop.Memory) before now same told = same
