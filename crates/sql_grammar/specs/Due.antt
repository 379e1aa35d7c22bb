-- Where tables stand among tokens.
use Rattle.std.specs.Prelude.{◌≡◌, List, [], ◌∷◌}
use Rattle.sql_tree.specs.Kinds.{is_table}
use Rattle.sql_tree.specs.declared.token.Token.{Token}
use Rattle.sql_lex.specs.declared.lexer.Before.{Before}
use Rattle.sql_lex.specs.Tokens.{after, is_table_due}

-- from a state on, the tokens are tables exactly where a table is due by the tokens before them
abbrev pub HasTablesWhereDue : Before → List Token → Type 0
HasTablesWhereDue state [] = Unit {0}
HasTablesWhereDue state (t ∷ ts) = (is_table t.kind ≡ is_table_due state) × HasTablesWhereDue (after state t.kind) ts
