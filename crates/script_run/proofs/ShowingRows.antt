-- The answer of SHOW ROWS, from the table that was opened.
use Rattle.std.proofs.Common.{◌≡◌, ◌⊎◌, ℕ, ◌<◌, ◌≤◌, List, [], ◌∷◌, ◌++◌, length, get_or, map, Option, Some, None, Result, Ok, Err, refl, sym, subst, ap, ◌∙◌, arith, inl, inr, append-nil, append_assoc}
use Rattle.std.specs.Prelude.{OnOk, codes, slice_get}
use Rattle.std.specs.declared.alloc.AllocError.{AllocError}
use Rattle.std.specs.List.{All, flat_map, join_with_byte}
use Rattle.std.proofs.lemmas.List.{get_or-map, length-map}
use Rattle.std.proofs.lemmas.Option.{slice_get-get_or, slice_get_cases}
use Rattle.column_vectors.specs.Cells.{Cells}
use Rattle.data_file.specs.Answers.{AreRanged, HasTypes}
use Rattle.delta_schema.specs.declared.schema.ColumnDef.{ColumnDef}
use Rattle.dm_store.specs.Files.{Files, WhereTold}
use Rattle.dm_text.specs.Printing.{field}
use Rattle.dm_types.specs.Ranges.{IsNullOrInRange}
use Rattle.dm_types.specs.Then.{go}
use Rattle.dm_types.specs.declared.refusal.Refused.TheVariants as refused
use Rattle.dm_types.specs.declared.refusal.Stop.{Stop}
use Rattle.dm_types.specs.declared.refusal.Stop.TheVariants as stop
use Rattle.dm_types.specs.declared.refusal.TableRefusal.{TableRefusal}
use Rattle.dm_types.specs.declared.value.DataType.{DataType}
use Rattle.row_tracking.specs.Order.{in_id_order}
use Rattle.row_tracking.specs.declared.row_id.RowId.{RowId}
use Rattle.script_run.specs.RowLines.{lines_text, row_line}
use Rattle.script_run.specs.ShownRows.{head_line, in_line_order, rows_text, show_rows}
use Rattle.script_run.specs.StepsRows.{IsPrintable, line_at}
use Rattle.table_load.specs.Held.{Opened, held_at, opened_at, row_at, state_of}
use Rattle.table_load.specs.Loaded.{opened_for, permitted}
use Rattle.table_load.specs.Properties.{tracks_rows}
use Rattle.table_load.specs.Tells.{Tells, TellsAs}
use Rattle.table_load.specs.declared.loaded.Purpose.TheVariants as purpose

-- ---- reading asks for no more than opening

abbrev pub read : Result Opened TableRefusal → Result Opened TableRefusal
read all = go all (λ it. go (permitted purpose.Read it.head.snapshot) (λ _. Ok it))

pub opened : (all : Result Opened TableRefusal) (it : Opened) → read all ≡ Ok it → all ≡ Ok it
opened (Ok other) it is = is
opened (Err refusal) it is = is

pub not_opened : (all : Result Opened TableRefusal) (refusal : TableRefusal) → read all ≡ Err refusal → all ≡ Err refusal
not_opened (Ok other) refusal is = absurd cc
not_opened (Err other) refusal is = cc

pub shown : (told : Option Files) (table : List ℕ) (asked : Option ℕ) (it : Opened) (text : List ℕ) → WhereTold told (λ files. opened_for purpose.Read table asked files ≡ Ok it) → text ≡ rows_text (state_of it) → WhereTold told (λ files. show_rows table asked files ≡ Ok text)
unfolding show_rows held_at opened_for
shown None table asked it text loaded lines = tt
shown (Some files) table asked it text loaded lines = rw (opened (opened_at table asked files) it loaded, lines) refl

refused_told : {X : Type 0} (view : X → Opened) (told : Option Files) (table : List ℕ) (asked : Option ℕ) (why : Stop) → TellsAs view told (λ files. opened_for purpose.Read table asked files) (Err why) → Tells told (λ files. show_rows table asked files) (Err why)
unfolding show_rows held_at opened_for
refused_told view told table asked stop.Store loaded = tt
refused_told view told table asked stop.Names loaded = loaded
refused_told view told table asked stop.Memory loaded = tt
refused_told view None table asked (stop.Refused (refused.Table refusal)) loaded = tt
refused_told view (Some files) table asked (stop.Refused (refused.Table refusal)) loaded = rw (not_opened (opened_at table asked files) refusal loaded) refl
refused_told view told table asked (stop.Refused (refused.Statement refusal)) loaded = loaded
refused_told view told table asked (stop.Refused (refused.Put refusal)) loaded = loaded

pub not_shown : {X : Type 0} (view : X → Opened) (told : Option Files) (table : List ℕ) (asked : Option ℕ) (why : Stop) (answer : Result (List ℕ) Stop) → answer ≡ Err why → TellsAs view told (λ files. opened_for purpose.Read table asked files) (Err why) → Tells told (λ files. show_rows table asked files) answer
not_shown view told table asked why answer is loaded =
    subst (λ (r : Result (List ℕ) Stop). Tells told (λ files. show_rows table asked files) r) (sym is) (refused_told view told table asked why loaded)

-- ---- the text of a table that was opened

lines_of : (columns : List Cells) (ids : List RowId) (places : List ℕ) → map (λ row. row_line row.id row.values) (map (row_at columns ids) places) ≡ map (line_at columns ids) places
lines_of columns ids [] = refl
lines_of columns ids (place ∷ places) = ap (λ (lines : List (List ℕ)). line_at columns ids place ∷ lines) (lines_of columns ids places)

pub text_of : (it : Opened) (text : List ℕ) → text ≡ lines_text (head_line it.head.schema ∷ []) ++ lines_text (in_line_order (tracks_rows it.head.snapshot) (map (line_at it.columns it.ids) (in_id_order it.ids))) → text ≡ rows_text (state_of it)
unfolding rows_text
text_of it text is =
    is
    ∙ ap (λ (lead : List ℕ). lead ++ lines_text (in_line_order (tracks_rows it.head.snapshot) (map (line_at it.columns it.ids) (in_id_order it.ids)))) (append-nil (head_line it.head.schema ++ 10 ∷ []))
    ∙ ap (λ (lines : List (List ℕ)). (head_line it.head.schema ++ 10 ∷ []) ++ lines_text (in_line_order (tracks_rows it.head.snapshot) lines)) (sym (lines_of it.columns it.ids (in_id_order it.ids)))

-- ---- the line of names

names_behind : (columns : List ColumnDef) (x : List ℕ) → join_with_byte 9 (x ∷ map (λ column. field column.name) columns) ≡ x ++ flat_map (λ column. 9 ∷ field column.name) columns
names_behind [] x = sym (append-nil x)
names_behind (column ∷ columns) x = ap (λ (rest : List ℕ). x ++ 9 ∷ rest) (names_behind columns (field column.name))

pub head_text : (columns : List ColumnDef) → lines_text (head_line columns ∷ []) ≡ ((codes "id" ++ 9 ∷ codes "version") ++ flat_map (λ column. 9 ∷ field column.name) columns) ++ 10 ∷ []
head_text columns =
    append-nil (head_line columns ++ 10 ∷ [])
    ∙ ap (λ (rest : List ℕ). (codes "id" ++ 9 ∷ rest) ++ 10 ∷ []) (names_behind columns (codes "version"))

-- ---- what is loaded can be printed

pub printable : (schema : List ColumnDef) (columns : List Cells) (rows : ℕ) → HasTypes schema columns → AreRanged schema columns → All (λ column. length column.values ≡ rows) columns → All (IsPrintable rows) columns
printable schema columns rows types ranges even k d within = by (slice_get_cases schema k).1
  where
    counted : length columns ≡ length schema
    counted = sym (length-map columns (λ (cells : Cells). cells.kind)) ∙ ap length types ∙ length-map schema (λ (column : ColumnDef). column.kind)

    alike : (column : ColumnDef) → get_or schema k column ≡ column → k < length schema → (get_or columns k d).kind ≡ column.kind
    alike column is low =
        sym (get_or-map (λ (cells : Cells). cells.kind) columns k d column.kind within)
        ∙ ap (λ (kinds : List DataType). get_or kinds k column.kind) types
        ∙ get_or-map (λ (column : ColumnDef). column.kind) schema k column column.kind low
        ∙ ap (λ (column : ColumnDef). column.kind) is

    ranged : (column : ColumnDef) → k < length schema → slice_get schema k ≡ Some column → get_or schema k column ≡ column → All (IsNullOrInRange (get_or columns k d).kind) (get_or columns k d).values
    ranged column low at is =
        rw (alike column is low) (ranges k column (get_or columns k d) at (slice_get-get_or columns k d within)).ranges

    by : (((column : ColumnDef) × (k < length schema) × (slice_get schema k ≡ Some column) × (get_or schema k column ≡ column)) ⊎ ((length schema ≤ k) × (slice_get schema k ≡ None))) → IsPrintable rows (get_or columns k d)
    by (inl found) = record { rows = even k d within; ranges = ranged found.0 found.1 found.2 found.3 }
    by (inr past) = let low = past.0 in absurd (omega (arith, counted))

pub head_added : (result : Result (Unit {0}) AllocError) (out lead names all : List ℕ) (columns : List ColumnDef) → lead ≡ out ++ (codes "id" ++ 9 ∷ codes "version") → names ≡ lead ++ flat_map (λ column. 9 ∷ field column.name) columns → OnOk result (all ≡ names ++ 10 ∷ [])
    → OnOk result (all ≡ out ++ lines_text (head_line columns ∷ []))
head_added (Err e) out lead names all columns led named pushed = tt
head_added (Ok u) out lead names all columns led named pushed =
    let fields : List ℕ = flat_map (λ column. 9 ∷ field column.name) columns in
    let numbers : List ℕ = codes "id" ++ 9 ∷ codes "version" in
    pushed
    ∙ ap (λ (t : List ℕ). t ++ 10 ∷ []) (named ∙ ap (λ (t : List ℕ). t ++ fields) led ∙ append_assoc out numbers fields)
    ∙ append_assoc out (numbers ++ fields) (10 ∷ [])
    ∙ ap (λ (t : List ℕ). out ++ t) (sym (head_text columns))
