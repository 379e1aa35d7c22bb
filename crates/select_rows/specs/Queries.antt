-- What a SELECT asks of each row: its items and its condition, with their types.
use Rattle.std.specs.Prelude.{ℕ, ◌+◌, ◌++◌, List, [], ◌∷◌, codes, slice_get, Option, Some, None, Result, Ok, Err}
use Rattle.std.specs.Fmt.{decimal}
use Rattle.dm_types.specs.declared.refusal.StatementRefusal.{StatementRefusal}
use Rattle.dm_types.specs.declared.refusal.StatementRefusal.TheVariants as statement
use Rattle.select_rows.specs.declared.query.Query.{Query}
use Rattle.select_rows.specs.declared.query.QueryItem.{QueryItem}
use Rattle.sql_statements.specs.declared.SelectItem.{SelectItem}
use Rattle.sql_statements.specs.declared.SelectItems.{SelectItems}
use Rattle.sql_statements.specs.declared.SelectItems.TheVariants.{All, Listed}
use Rattle.sql_tree.specs.declared.tree.Expr.{Expr}
use Rattle.sql_tree.specs.declared.tree.Name.{Name}
use Rattle.typed_expr.specs.declared.scope.ScopeColumn.{ScopeColumn}
use Rattle.typed_expr.specs.declared.tree.TypedExpr.{TypedExpr, out-TypedExpr}
use Rattle.typed_expr.specs.declared.tree.TypedExpr.TheOpen.{TypedExpr-F}
use Rattle.typed_expr.specs.Kinds.{TypedLayer}
use Rattle.typed_expr.specs.Rules.{Typing, all, both, ◌>>=◌}
use Rattle.typed_expr.specs.Typing.{condition, typing}

-- ---- names of items

-- `_c` and the place of the item, from 0
abbrev pub numbered : ℕ → List ℕ
numbered place = codes "_c" ++ decimal place

abbrev pub column_name : ℕ → Option ScopeColumn → List ℕ
column_name place None = numbered place
column_name place (Some column) = column.name

-- the place of the column that an expression is
abbrev pub column_place : TypedLayer → Option ℕ
column_place (TypedExpr-F.Column kind at) = Some at
column_place other = None

-- the name of the column that the item is, as the scope spells it, else its number
abbrev pub own_name : List ScopeColumn → ℕ → Option ℕ → List ℕ
own_name scope place None = numbered place
own_name scope place (Some at) = column_name place (slice_get scope at)

-- the alias, else the item's own name
abbrev pub item_name : List ScopeColumn → ℕ → Option Name → TypedExpr → List ℕ
item_name scope place None tree = own_name scope place (column_place (out-TypedExpr tree))
item_name scope place (Some alias) tree = alias.text

-- ---- types

abbrev pub typed_item : List ScopeColumn → ℕ → SelectItem → Typing QueryItem
typed_item scope place item =
    typing scope item.expr >>= λ tree. Ok (record { name = item_name scope place item.alias tree; value = tree })

-- items from a place on
abbrev pub items_from : List ScopeColumn → ℕ → List SelectItem → List (Typing QueryItem)
items_from scope place [] = []
items_from scope place (item ∷ more) = typed_item scope place item ∷ items_from scope (place + 1) more

abbrev pub typed_list : List ScopeColumn → List SelectItem → Typing (List QueryItem)
typed_list scope items = all (items_from scope 0 items)

-- the items, none for `*`
abbrev pub typed_items : List ScopeColumn → SelectItems → Typing (Option (List QueryItem))
typed_items scope All = Ok None
typed_items scope (Listed items) = typed_list scope items >>= λ found. Ok (Some found)

-- the conjuncts of the condition, none where there is no condition
abbrev pub typed_condition : List ScopeColumn → Option Expr → Typing (List TypedExpr)
typed_condition scope None = Ok []
typed_condition scope (Some x) = condition scope x

-- the items and the condition, or of all that is broken in them the rule at the least place, and there the least
abbrev pub typed_query : List ScopeColumn → SelectItems → Option Expr → Typing Query
typed_query scope items x =
    both (typed_items scope items) (typed_condition scope x) >>= λ p.
    Ok (record { items = p.0; conjuncts = p.1 })

-- a rule that is broken is the statement's refusal
abbrev pub unless_broken : {A : Type 0} → Typing A → Result A StatementRefusal
unless_broken (Ok a) = Ok a
unless_broken (Err broken) = Err (statement.DoesNotType broken.rule broken.at)
