-- The words of the grammar.
use Rattle.std.specs.Prelude.{ℕ, Bool, false, ◌||◌, if◌then◌else◌, List, [], ◌∷◌, ◌++◌, take, codes}
use Rattle.std.specs.Str.{str_eq_ignore_ascii_case}
use Rattle.sql_tree.specs.declared.token.Kind.{Kind}
use Rattle.sql_tree.specs.declared.token.Kind.TheVariants as k
use Rattle.sql_lex.specs.declared.bytes.Class.TheVariants as class
use Rattle.sql_lex.specs.declared.bytes.Piece.{Piece}
use Rattle.sql_lex.specs.Bytes.{run}

-- the kind under which a word stands in a list, in either case
abbrev pub kind_in : List (List ℕ × Kind) → List ℕ → Kind
kind_in [] word = k.Name
kind_in (entry ∷ more) word = if str_eq_ignore_ascii_case word entry.0 then entry.1 else kind_in more word

-- the reserved words, which are no names
unfoldable pub reserved : List (List ℕ × Kind)
reserved =
    (codes "ALTER", k.Alter) ∷ (codes "AND", k.And) ∷ (codes "AS", k.As) ∷ (codes "BETWEEN", k.Between) ∷
    (codes "BY", k.By) ∷ (codes "CASE", k.Case) ∷ (codes "CAST", k.Cast) ∷ (codes "CHECK", k.Check) ∷
    (codes "CONSTRAINT", k.Constraint) ∷ (codes "CREATE", k.Create) ∷ (codes "DELETE", k.Delete) ∷
    (codes "DIV", k.Div) ∷ (codes "ELSE", k.Else) ∷ (codes "END", k.End) ∷ (codes "FALSE", k.False) ∷
    (codes "FROM", k.From) ∷ (codes "IN", k.In) ∷ (codes "INSERT", k.Insert) ∷ (codes "INTO", k.Into) ∷
    (codes "IS", k.Is) ∷ (codes "MATCHED", k.Matched) ∷ (codes "MERGE", k.Merge) ∷ (codes "NOT", k.Not) ∷
    (codes "NULL", k.Null) ∷ (codes "ON", k.On) ∷ (codes "OR", k.Or) ∷ (codes "SELECT", k.Select) ∷
    (codes "SET", k.Set) ∷ (codes "SHOW", k.Show) ∷ (codes "TABLE", k.TableWord) ∷ (codes "THEN", k.Then) ∷
    (codes "TO", k.To) ∷ (codes "TRUE", k.True) ∷ (codes "UPDATE", k.Update) ∷ (codes "USING", k.Using) ∷
    (codes "VALUES", k.Values) ∷ (codes "VERIFY", k.Verify) ∷ (codes "WHEN", k.When) ∷
    (codes "WHERE", k.Where) ∷ []

-- the other words with a place in the grammar, which are names too
unfoldable pub placed : List (List ℕ × Kind)
placed =
    (codes "FILES", k.Files) ∷ (codes "IDENTITIES", k.Identities) ∷ (codes "ROWS", k.Rows) ∷
    (codes "FEED", k.Feed) ∷ (codes "VERSION", k.Version) ∷ (codes "OF", k.Of) ∷
    (codes "PARTITIONED", k.Partitioned) ∷ (codes "TBLPROPERTIES", k.TblProperties) ∷
    (codes "GENERATED", k.Generated) ∷ (codes "ALWAYS", k.Always) ∷ (codes "DEFAULT", k.Default) ∷
    (codes "IDENTITY", k.Identity) ∷ (codes "START", k.Start) ∷ (codes "WITH", k.With) ∷
    (codes "INCREMENT", k.Increment) ∷ (codes "TARGET", k.Target) ∷ (codes "SOURCE", k.Source) ∷
    (codes "BOOLEAN", k.Boolean) ∷ (codes "TINYINT", k.TinyInt) ∷ (codes "SMALLINT", k.SmallInt) ∷
    (codes "INT", k.Int) ∷ (codes "BIGINT", k.BigInt) ∷ (codes "STRING", k.String) ∷
    (codes "BINARY", k.Binary) ∷ (codes "DATE", k.Date) ∷ (codes "TIMESTAMP", k.Timestamp) ∷
    (codes "DECIMAL", k.DecimalWord) ∷ (codes "ENABLE", k.Enable) ∷ (codes "ROW", k.Row) ∷
    (codes "TRACKING", k.Tracking) ∷ (codes "ADD", k.Add) ∷ (codes "COLUMN", k.Column) ∷
    (codes "RENAME", k.Rename) ∷ (codes "DROP", k.Drop) ∷ (codes "OPTIMIZE", k.Optimize) ∷
    (codes "RESTORE", k.Restore) ∷ (codes "STATS", k.Stats) ∷ []

-- the word stands in a list, in either case
abbrev pub is_listed : List (List ℕ × Kind) → List ℕ → Bool
is_listed [] word = false
is_listed (entry ∷ more) word = str_eq_ignore_ascii_case word entry.0 || is_listed more word

abbrev pub is_reserved : List ℕ → Bool
is_reserved word = is_listed reserved word

-- a word that is in neither list is a name
unfoldable pub word_kind : List ℕ → Kind
word_kind word = kind_in (reserved ++ placed) word

-- the word at the front
abbrev pub word : List ℕ → Piece
word z = record { kind = word_kind (take (run class.Word z) z); len = run class.Word z }
