-- The laws of statements and scripts: each is read by its reader; each front of it begins it; what begins it goes on to it;
-- and the script holds what it holds.
use Rattle.std.proofs.Common.{ℕ, Bool, List, [], length, refl}
use Rattle.std.specs.Prelude.{◌||◌}
use Rattle.std.specs.List.{All, AllByRecursion}
use Rattle.std.proofs.lemmas.List.Elements.{All-from_recursion}
use Rattle.token_lang.specs.Lang.{Lang, both, valued}
use Rattle.token_lang.specs.Run.{run_both}
use Rattle.token_lang.specs.Exact.{Grows}
use Rattle.token_lang.specs.Meets.{Plain, Meets, Leads}
use Rattle.token_lang.proofs.All.{one_leads, goes_leads, valued_leads, both_leads, then_maybe_leads, either_leads, many_meets, maybe_meets, one_plain, valued_plain, both_plain, either_plain, many_plain, maybe_plain}
use Rattle.token_lang.proofs.Grow.{valued_grows, both_grows, either_grows, many_grows}
use Rattle.token_lang.proofs.Place.{one_local}
use Rattle.token_lang.proofs.Keeps.{valued_keeps, both_keeps, either_keeps, many_keeps, maybe_keeps}
use Rattle.sql_tree.specs.Kinds.{is, any, names, is_table}
use Rattle.sql_tree.proofs.KindLaws.{apart, among}
use Rattle.sql_tree.specs.declared.token.Kind.TheVariants as k
use Rattle.sql_tree.specs.declared.token.Token.{Token}
use Rattle.sql_tree.specs.declared.tree.Expr.{Expr}
use Rattle.sql_statements.specs.declared.SelectItems.TheVariants as i
use Rattle.sql_statements.specs.declared.Stmt.{Stmt}
use Rattle.sql_lex.specs.Content.{AreMeant}
use Rattle.sql_lex.specs.Stand.{AreParts}
use Rattle.sql_grammar.specs.Grammar as g
use Rattle.sql_grammar.specs.Held.{HoldsName, HoldsExpr}
use Rattle.sql_grammar.specs.Reading as r
use Rattle.sql_grammar.specs.Reading.{first_expr}
use Rattle.sql_grammar.specs.Statements as s
use Rattle.sql_grammar.specs.Statements.{HoldsItem, HoldsItems, HoldsStmt}
use Rattle.sql_grammar.proofs.Create.{after_create, create_leads, create_plain, create_grows, create}
use Rattle.sql_grammar.proofs.Fronts.{token_plain, commas_plain, at_version_plain, any_expr_plain, expression_plain}
use Rattle.sql_grammar.proofs.Growth.{class_grows, token_grows, token_local, maybe_grows, commas_grows, at_version_grows, any_expr_grows, expression_grows}
use Rattle.sql_grammar.proofs.Holding.{name_held, table_held}
use Rattle.sql_grammar.proofs.Keeping.{Keep, token, class, commas, at_version, expression, stand}
use Rattle.sql_grammar.proofs.Readers.{none, after_expr, token_leads, commas_leads, at_version_leads, expression_leads}

-- ---- readers

-- what an item of a SELECT, its items, and the whole of it may go on with
abbrev after_item : Token → Bool
after_item t = is k.As t || after_expr t

abbrev after_items : Token → Bool
after_items t = is k.Comma t || after_item t

abbrev after_select : Token → Bool
after_select t = is k.Version t || (is k.Where t || after_expr t)

-- .. and a statement
abbrev after_statement : Token → Bool
after_statement t = after_create t || after_select t

module _ (script : List ℕ) where
  pub show_files_leads : Leads (s.show_files_of script (g.expression script)) (s.run_show_files script) (is k.Files) none
  show_files_leads = valued_leads (s.show_files script) (both_leads (token_leads k.Files) (one_leads (any is_table)) (λ t _. refl))

  pub show_rows_leads : Leads (s.show_rows_of script (g.expression script)) (s.run_show_rows script) (is k.Rows) (is k.Version)
  show_rows_leads = goes_leads (is k.Version) (among _ _ (λ s. refl)) (valued_leads (s.show_rows script) (both_leads (token_leads k.Rows)
      (then_maybe_leads (one_leads (any is_table)) (maybe_meets (at_version_leads script)) (λ t _. refl)) (λ t _. refl)))

  pub show_leads : Leads (s.show_of script (g.expression script)) (s.run_show script) (is k.Show) (is k.Version)
  show_leads = valued_leads g.second (both_leads (token_leads k.Show) (goes_leads (is k.Version) (among _ _ (λ s. refl)) (either_leads show_files_leads show_rows_leads (apart _ _ (λ s. refl)))) (λ t _. refl))

  alias_leads : Leads (s.alias_of script (g.expression script)) (s.run_alias script) (is k.As) none
  alias_leads = valued_leads (s.alias script) (both_leads (token_leads k.As) (one_leads (any names)) (λ t _. refl))

  pub select_item_leads : Leads (s.select_item_of script (g.expression script)) (s.run_select_item script) first_expr after_item
  select_item_leads = goes_leads after_item (among _ _ (λ s. refl)) (valued_leads s.select_item
      (then_maybe_leads (expression_leads script) (maybe_meets alias_leads) (apart _ _ (λ s. refl))))

  listed_leads : Leads (valued i.Listed (g.commas (s.select_item_of script (g.expression script)))) (r.run_valued i.Listed (s.run_listed script)) first_expr after_items
  listed_leads = goes_leads after_items (among _ _ (λ s. refl)) (valued_leads i.Listed (commas_leads select_item_leads (apart _ _ (λ s. refl))))

  select_items_leads : Leads (s.select_items_of script (g.expression script)) (s.run_select_items script) (λ t. is k.Star t || first_expr t) after_items
  select_items_leads = goes_leads after_items (among _ _ (λ s. refl)) (either_leads (valued_leads s.select_all (token_leads k.Star)) listed_leads (apart _ _ (λ s. refl)))

  where_leads : Leads (s.where_of script (g.expression script)) (s.run_where script) (is k.Where) after_expr
  where_leads = valued_leads g.second (both_leads (token_leads k.Where) (expression_leads script) (λ t _. refl))

  -- the table, and what stands behind it
  from_leads : Leads (both (both g.table (g.maybe (g.at_version script))) (g.maybe (s.where_of script (g.expression script))))
      (run_both (run_both r.run_table (r.run_maybe_at_version script)) (s.run_maybe_where script)) (any is_table) after_select
  from_leads = goes_leads after_select (among _ _ (λ s. refl)) (then_maybe_leads
      (then_maybe_leads (one_leads (any is_table)) (maybe_meets (at_version_leads script)) (λ t _. refl)) (maybe_meets where_leads) (apart _ _ (λ s. refl)))

  select_leads : Leads (s.select_of script (g.expression script)) (s.run_select script) (is k.Select) after_select
  select_leads = valued_leads (s.select script) (both_leads (token_leads k.Select) (both_leads select_items_leads
      (both_leads (token_leads k.From) from_leads (λ t _. refl)) (apart _ _ (λ s. refl))) (λ t _. refl))

  pub delete_leads : Leads (s.delete_of script (g.expression script)) (s.run_delete script) (is k.Delete) none
  delete_leads = valued_leads (s.delete script) (both_leads (token_leads k.Delete) (both_leads (token_leads k.From) (one_leads (any is_table)) (λ t _. refl)) (λ t _. refl))

  pub statement_leads : Leads (s.statement_of script (g.expression script)) (s.run_statement script) s.first_statement after_statement
  statement_leads = goes_leads after_statement (among _ _ (λ s. refl)) (either_leads show_leads
      (either_leads select_leads (either_leads delete_leads (create_leads script) (apart _ _ (λ s. refl))) (apart _ _ (λ s. refl))) (apart _ _ (λ s. refl)))

  pub ended_leads : Leads (s.ended_of script (g.expression script)) (s.run_ended script) s.first_statement none
  ended_leads = valued_leads _ (both_leads statement_leads (token_leads k.Semicolon) (apart _ _ (λ s. refl)))

  pub script_meets : Meets (s.script script) (s.run_script script) s.first_statement (λ t. s.first_statement t || none t)
  script_meets = many_meets ended_leads (λ t _. refl)

-- ---- fronts

module _ (script : List ℕ) {C : Lang Token Expr} (x : Plain C) where
  pub show_files_plain : Plain (s.show_files_of script C)
  show_files_plain = valued_plain (s.show_files script) (both_plain (token_plain k.Files) (one_plain (any is_table)))

  pub show_rows_plain : Plain (s.show_rows_of script C)
  show_rows_plain = valued_plain (s.show_rows script) (both_plain (token_plain k.Rows) (both_plain (one_plain (any is_table)) (maybe_plain (at_version_plain script))))

  pub show_plain : Plain (s.show_of script C)
  show_plain = valued_plain g.second (both_plain (token_plain k.Show) (either_plain show_files_plain show_rows_plain))

  alias_plain : Plain (s.alias_of script C)
  alias_plain = valued_plain (s.alias script) (both_plain (token_plain k.As) (one_plain (any names)))

  pub select_item_plain : Plain (s.select_item_of script C)
  select_item_plain = valued_plain s.select_item (both_plain x (maybe_plain alias_plain))

  pub select_items_plain : Plain (s.select_items_of script C)
  select_items_plain = either_plain (valued_plain s.select_all (token_plain k.Star)) (valued_plain i.Listed (commas_plain select_item_plain))

  where_plain : Plain (s.where_of script C)
  where_plain = valued_plain g.second (both_plain (token_plain k.Where) x)

  pub table_at_plain : Plain (both g.table (g.maybe (g.at_version script)))
  table_at_plain = both_plain (one_plain (any is_table)) (maybe_plain (at_version_plain script))

  select_plain : Plain (s.select_of script C)
  select_plain = valued_plain (s.select script) (both_plain (token_plain k.Select) (both_plain select_items_plain
      (both_plain (token_plain k.From) (both_plain table_at_plain (maybe_plain where_plain)))))

  pub delete_plain : Plain (s.delete_of script C)
  delete_plain = valued_plain (s.delete script) (both_plain (token_plain k.Delete) (both_plain (token_plain k.From) (one_plain (any is_table))))

  pub statement_plain : Plain (s.statement_of script C)
  statement_plain = either_plain show_plain (either_plain select_plain (either_plain delete_plain (create_plain script x)))

  pub ended_plain : Plain (s.ended_of script C)
  ended_plain = valued_plain _ (both_plain statement_plain (token_plain k.Semicolon))

  pub script_plain : Plain (s.script_of script C)
  script_plain = many_plain ended_plain

-- ---- growth

module _ (script : List ℕ) {C C' : Lang Token Expr} (x : Grows C C') (l : Plain C') where
  show_files_grows : Grows (s.show_files_of script C) (s.show_files_of script C')
  show_files_grows = valued_grows (s.show_files script) (both_grows (token_grows k.Files refl) (class_grows is_table k.Table refl) (token_local k.Files))

  show_rows_grows : Grows (s.show_rows_of script C) (s.show_rows_of script C')
  show_rows_grows = valued_grows (s.show_rows script) (both_grows (token_grows k.Rows refl)
      (both_grows (class_grows is_table k.Table refl) (maybe_grows (at_version_grows script)) (one_local (any is_table))) (token_local k.Rows))

  show_grows : Grows (s.show_of script C) (s.show_of script C')
  show_grows = valued_grows g.second (both_grows (token_grows k.Show refl) (either_grows show_files_grows show_rows_grows) (token_local k.Show))

  alias_grows : Grows (s.alias_of script C) (s.alias_of script C')
  alias_grows = valued_grows (s.alias script) (both_grows (token_grows k.As refl) (class_grows names k.Name refl) (token_local k.As))

  select_item_grows : Grows (s.select_item_of script C) (s.select_item_of script C')
  select_item_grows = valued_grows s.select_item (both_grows x (maybe_grows alias_grows) l.local)

  select_items_grows : Grows (s.select_items_of script C) (s.select_items_of script C')
  select_items_grows = either_grows (valued_grows s.select_all (token_grows k.Star refl))
      (valued_grows i.Listed (commas_grows select_item_grows (select_item_plain script l)))

  where_grows : Grows (s.where_of script C) (s.where_of script C')
  where_grows = valued_grows g.second (both_grows (token_grows k.Where refl) x (token_local k.Where))

  table_at_grows : Grows (both g.table (g.maybe (g.at_version script))) (both g.table (g.maybe (g.at_version script)))
  table_at_grows = both_grows (class_grows is_table k.Table refl) (maybe_grows (at_version_grows script)) (one_local (any is_table))

  select_grows : Grows (s.select_of script C) (s.select_of script C')
  select_grows = valued_grows (s.select script) (both_grows (token_grows k.Select refl) (both_grows select_items_grows
      (both_grows (token_grows k.From refl) (both_grows table_at_grows (maybe_grows where_grows) (table_at_plain script l).local) (token_local k.From))
      (select_items_plain script l).local) (token_local k.Select))

  delete_grows : Grows (s.delete_of script C) (s.delete_of script C')
  delete_grows = valued_grows (s.delete script) (both_grows (token_grows k.Delete refl) (both_grows (token_grows k.From refl) (class_grows is_table k.Table refl) (token_local k.From)) (token_local k.Delete))

  statement_grows : Grows (s.statement_of script C) (s.statement_of script C')
  statement_grows = either_grows show_grows (either_grows select_grows (either_grows delete_grows (create_grows script x l)))

  pub script_grows : Grows (s.script_of script C) (s.script_of script C')
  script_grows = many_grows (valued_grows _ (both_grows statement_grows (token_grows k.Semicolon refl) (statement_plain script l).local)) (ended_plain script l).local

pub scripts_grow : (bytes : List ℕ) → Grows (s.script bytes) (s.any_script bytes)
scripts_grow bytes = script_grows bytes (expression_grows bytes) (any_expr_plain bytes)

pub any_scripts_grow : (bytes : List ℕ) → Grows (s.any_script bytes) (s.any_script bytes)
any_scripts_grow bytes = script_grows bytes (any_expr_grows bytes) (any_expr_plain bytes)

pub scripts_plain : (bytes : List ℕ) → Plain (s.script bytes)
scripts_plain bytes = script_plain bytes (expression_plain bytes)

pub any_scripts_plain : (bytes : List ℕ) → Plain (s.any_script bytes)
any_scripts_plain bytes = script_plain bytes (any_expr_plain bytes)

-- ---- what the script holds

module _ (script : List ℕ) {C : Lang Token Expr} (x : Keep script C (HoldsExpr script)) where
  show_files : Keep script (s.show_files_of script C) (HoldsStmt script)
  show_files = valued_keeps (both_keeps (token script k.Files) (class script is_table)) (s.show_files script) (λ p h. table_held script p.1 h.1.0 h.1.1)

  show_rows : Keep script (s.show_rows_of script C) (HoldsStmt script)
  show_rows = valued_keeps (both_keeps (token script k.Rows) (both_keeps (class script is_table) (maybe_keeps (at_version script)))) (s.show_rows script)
      (λ p h. (table_held script p.1.0 h.1.0.0 h.1.0.1, h.1.1))

  show : Keep script (s.show_of script C) (HoldsStmt script)
  show = valued_keeps (both_keeps (token script k.Show) (either_keeps show_files show_rows)) g.second (λ p h. h.1)

  alias : Keep script (s.alias_of script C) (HoldsName script)
  alias = valued_keeps (both_keeps (token script k.As) (class script names)) (s.alias script) (λ p h. name_held script p.1 h.1.0 h.1.1)

  select_item : Keep script (s.select_item_of script C) (HoldsItem script)
  select_item = valued_keeps (both_keeps x (maybe_keeps alias)) s.select_item (λ p h. record { expr = h.0; alias = h.1 })

  select_items : Keep script (s.select_items_of script C) (HoldsItems script)
  select_items = either_keeps (valued_keeps (token script k.Star) s.select_all (λ t h. tt))
      (valued_keeps (commas script select_item) i.Listed (λ listed h. All-from_recursion (HoldsItem script) listed h))

  where_condition : Keep script (s.where_of script C) (HoldsExpr script)
  where_condition = valued_keeps (both_keeps (token script k.Where) x) g.second (λ p h. h.1)

  select : Keep script (s.select_of script C) (HoldsStmt script)
  select = valued_keeps (both_keeps (token script k.Select) (both_keeps select_items (both_keeps (token script k.From)
      (both_keeps (both_keeps (class script is_table) (maybe_keeps (at_version script))) (maybe_keeps where_condition))))) (s.select script)
      (λ p h. (h.1.0, table_held script p.1.1.1.0.0 h.1.1.1.0.0.0 h.1.1.1.0.0.1, h.1.1.1.0.1, h.1.1.1.1))

  delete : Keep script (s.delete_of script C) (HoldsStmt script)
  delete = valued_keeps (both_keeps (token script k.Delete) (both_keeps (token script k.From) (class script is_table))) (s.delete script) (λ p h. table_held script p.1.1 h.1.1.0 h.1.1.1)

  scripts : Keep script (s.script_of script C) (AllByRecursion (HoldsStmt script))
  scripts = many_keeps (valued_keeps (both_keeps (either_keeps show (either_keeps select (either_keeps delete (create script x)))) (token script k.Semicolon)) (λ p. p.0) (λ p h. h.0))

pub script_held : (script : List ℕ) (ts : List Token) (all : List Stmt) → AreMeant script ts → AreParts 0 (length script) ts → (s.script script).reads ts all [] → All (HoldsStmt script) all
script_held script ts all meant parts r =
    All-from_recursion (HoldsStmt script) all ((scripts script (expression script)).keeps ts all [] (stand script ts meant parts) r).0
