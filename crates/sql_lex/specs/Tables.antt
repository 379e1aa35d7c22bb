-- Names of tables.
use Rattle.std.specs.Prelude.{ℕ, suc, Bool, not, ◌&&◌, ◌||◌, nat_lt, nat_le, if◌then◌else◌, List, [], ◌∷◌, length, take, codes}
use Rattle.std.specs.Str.{str_eq_ignore_ascii_case}
use Rattle.sql_tree.specs.declared.token.Kind.{Kind}
use Rattle.sql_tree.specs.declared.token.Kind.TheVariants as k
use Rattle.sql_lex.specs.declared.bytes.Class.TheVariants as class
use Rattle.sql_lex.specs.declared.bytes.Piece.{Piece}
use Rattle.sql_lex.specs.Bytes.{is_in, are_in, begins_with, begins_comment}

-- 1 to 100 letters, digits, `_`, `-` and `.`, of which the first isn't `.`
abbrev pub is_table_name : List ℕ → Bool
is_table_name z = nat_lt 0 (length z) && (nat_le (length z) 100 && (not (begins_with 46 z) && are_in class.Table z))

-- the longest run of these bytes at the front, cut before a comment
abbrev pub table_len : List ℕ → ℕ
table_len [] = 0
table_len (b ∷ z) = if not (is_in class.Table b) || begins_comment (b ∷ z) then 0 else suc (table_len z)

-- `table_changes`, in either case, is a word of the grammar too
abbrev pub table_kind : List ℕ → Kind
table_kind z =
    if not (is_table_name z) then k.Bad
    else (if str_eq_ignore_ascii_case z (codes "table_changes") then k.TableChanges else k.Table)

-- the table's name at the front
abbrev pub table : List ℕ → Piece
table z = record { kind = table_kind (take (table_len z) z); len = table_len z }
