-- The grammar of statements and scripts: the tree of each statement, what it holds of the script, its production, and
-- the reader of this production.
use Rattle.std.specs.Prelude.{ℕ, Bool, ◌||◌, List, All, Option, IfSome, ⊤}
use Rattle.token_lang.specs.Lang.{Lang, both, either, valued, many}
use Rattle.token_lang.specs.Run.{Reader, run_both, run_either}
use Rattle.sql_tree.specs.declared.token.Kind.TheVariants as k
use Rattle.sql_tree.specs.declared.token.Token.{Token}
use Rattle.sql_tree.specs.declared.tree.Name.{Name}
use Rattle.sql_tree.specs.declared.tree.Expr.{Expr}
use Rattle.sql_statements.specs.declared.SelectItem.{SelectItem}
use Rattle.sql_statements.specs.declared.SelectItems.{SelectItems}
use Rattle.sql_statements.specs.declared.SelectItems.TheVariants as items
use Rattle.sql_statements.specs.declared.Stmt.{Stmt}
use Rattle.sql_statements.specs.declared.Stmt.TheVariants.{ShowFiles, ShowRows, Select, Delete, Create}
use Rattle.sql_tree.specs.Kinds.{is}
use Rattle.sql_grammar.specs.Create.{HoldsCreate, create_of, run_create}
use Rattle.sql_grammar.specs.Grammar.{second, token, name, table, maybe, commas, at_version, any_expr, expression}
use Rattle.sql_grammar.specs.Held.{HoldsName, HoldsTable, HoldsVersion, HoldsExpr}
use Rattle.sql_grammar.specs.Reading.{run_token, run_valued, run_all, run_name, run_table, run_maybe, run_commas, run_maybe_at_version, run_expression}
use Rattle.sql_grammar.specs.Tree.{name_at, table_at}

-- ---- what the script holds

-- an item's expression, and its name
pub record HoldsItem (script : List ℕ) (item : SelectItem) : Type 0 where
  pub expr : HoldsExpr script item.expr
  pub alias : IfSome item.alias (HoldsName script)

abbrev pub HoldsItems : List ℕ → SelectItems → Type 0
HoldsItems script items.All = ⊤
HoldsItems script (items.Listed listed) = All (HoldsItem script) listed

abbrev pub HoldsStmt : List ℕ → Stmt → Type 0
HoldsStmt script (ShowFiles table) = HoldsTable script table
HoldsStmt script (ShowRows table version) = HoldsTable script table × IfSome version (HoldsVersion script)
HoldsStmt script (Select items table version condition) = HoldsItems script items × HoldsTable script table ×
    IfSome version (HoldsVersion script) × IfSome condition (HoldsExpr script)
HoldsStmt script (Delete table) = HoldsTable script table
HoldsStmt script (Create stmt) = HoldsCreate script stmt

-- ---- trees

abbrev pub show_files : List ℕ → Token × Token → Stmt
show_files script p = ShowFiles (table_at script (p.1).span)

abbrev pub show_rows : List ℕ → Token × (Token × Option ℕ) → Stmt
show_rows script p = ShowRows (table_at script (p.1.0).span) p.1.1

-- behind AS
abbrev pub alias : List ℕ → Token × Token → Name
alias script p = name_at script (p.1).span

abbrev pub select_item : Expr × Option Name → SelectItem
select_item p = record { expr = p.0; alias = p.1 }

abbrev pub select_all : Token → SelectItems
select_all t = items.All

abbrev pub select : List ℕ → Token × (SelectItems × (Token × ((Token × Option ℕ) × Option Expr))) → Stmt
select script p = Select p.1.0 (table_at script (p.1.1.1.0.0).span) p.1.1.1.0.1 p.1.1.1.1

abbrev pub delete : List ℕ → Token × (Token × Token) → Stmt
delete script p = Delete (table_at script (p.1.1).span)

-- ---- productions, over the expressions that may stand in them

module _ (bytes : List ℕ) (expr : Lang Token Expr) where
  -- FILES table, behind SHOW
  abbrev pub show_files_of : Lang Token Stmt
  show_files_of = valued (show_files bytes) (both (token k.Files) table)

  -- ROWS table [at], behind SHOW
  abbrev pub show_rows_of : Lang Token Stmt
  show_rows_of = valued (show_rows bytes) (both (token k.Rows) (both table (maybe (at_version bytes))))

  -- SHOW FILES table | SHOW ROWS table [at]
  abbrev pub show_of : Lang Token Stmt
  show_of = valued second (both (token k.Show) (either show_files_of show_rows_of))

  -- AS name
  abbrev pub alias_of : Lang Token Name
  alias_of = valued (alias bytes) (both (token k.As) name)

  -- expr [AS name]
  abbrev pub select_item_of : Lang Token SelectItem
  select_item_of = valued select_item (both expr (maybe alias_of))

  -- items = "*" | expr [AS name] {"," expr [AS name]}
  abbrev pub select_items_of : Lang Token SelectItems
  select_items_of = either (valued select_all (token k.Star)) (valued items.Listed (commas select_item_of))

  -- WHERE expr
  abbrev pub where_of : Lang Token Expr
  where_of = valued second (both (token k.Where) expr)

  -- SELECT items FROM table [at] [WHERE expr]
  abbrev pub select_of : Lang Token Stmt
  select_of = valued (select bytes) (both (token k.Select) (both select_items_of (both (token k.From) (both
      (both table (maybe (at_version bytes))) (maybe where_of)))))

  -- DELETE FROM table
  abbrev pub delete_of : Lang Token Stmt
  delete_of = valued (delete bytes) (both (token k.Delete) (both (token k.From) table))

  abbrev pub statement_of : Lang Token Stmt
  statement_of = either show_of (either select_of (either delete_of (create_of bytes expr)))

  -- statement ";"
  abbrev pub ended_of : Lang Token Stmt
  ended_of = valued (λ p. p.0) (both statement_of (token k.Semicolon))

  -- script = {statement ";"}
  abbrev pub script_of : Lang Token (List Stmt)
  script_of = many ended_of

-- the scripts of the grammar, with no limits
abbrev pub any_script : List ℕ → Lang Token (List Stmt)
any_script bytes = script_of bytes (any_expr bytes)

-- those whose expressions are within the limits
abbrev pub script : List ℕ → Lang Token (List Stmt)
script bytes = script_of bytes (expression bytes)

-- ---- readers

abbrev pub first_statement : Token → Bool
first_statement t = is k.Show t || (is k.Select t || (is k.Delete t || is k.Create t))

module _ (bytes : List ℕ) where
  abbrev pub run_show_files : Reader Token Stmt
  run_show_files = run_valued (show_files bytes) (run_both (run_token k.Files) run_table)

  abbrev pub run_show_rows : Reader Token Stmt
  run_show_rows = run_valued (show_rows bytes) (run_both (run_token k.Rows) (run_both run_table
      (run_maybe_at_version bytes)))

  abbrev pub run_shown : Reader Token Stmt
  run_shown = run_either (is k.Files) run_show_files run_show_rows

  abbrev pub run_show : Reader Token Stmt
  run_show = run_valued second (run_both (run_token k.Show) run_shown)

  abbrev pub run_alias : Reader Token Name
  run_alias = run_valued (alias bytes) (run_both (run_token k.As) run_name)

  abbrev pub run_maybe_alias : Reader Token (Option Name)
  run_maybe_alias = run_maybe (is k.As) run_alias

  abbrev pub run_select_item : Reader Token SelectItem
  run_select_item = run_valued select_item (run_both (run_expression bytes) run_maybe_alias)

  abbrev pub run_listed : Reader Token (List SelectItem)
  run_listed = run_commas run_select_item

  abbrev pub run_select_items : Reader Token SelectItems
  run_select_items = run_either (is k.Star) (run_valued select_all (run_token k.Star))
      (run_valued items.Listed run_listed)

  abbrev pub run_where : Reader Token Expr
  run_where = run_valued second (run_both (run_token k.Where) (run_expression bytes))

  abbrev pub run_maybe_where : Reader Token (Option Expr)
  run_maybe_where = run_maybe (is k.Where) run_where

  abbrev pub run_select : Reader Token Stmt
  run_select = run_valued (select bytes) (run_both (run_token k.Select) (run_both run_select_items (run_both
      (run_token k.From) (run_both (run_both run_table (run_maybe_at_version bytes)) run_maybe_where))))

  abbrev pub run_delete : Reader Token Stmt
  run_delete = run_valued (delete bytes) (run_both (run_token k.Delete) (run_both (run_token k.From) run_table))

  abbrev pub run_statement : Reader Token Stmt
  run_statement = run_either (is k.Show) run_show (run_either (is k.Select) run_select
      (run_either (is k.Delete) run_delete (run_create bytes)))

  abbrev pub run_ended : Reader Token Stmt
  run_ended = run_valued (λ p. p.0) (run_both run_statement (run_token k.Semicolon))

  abbrev pub run_script : Reader Token (List Stmt)
  run_script = run_all first_statement run_ended
