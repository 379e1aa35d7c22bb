-- Texts, names in backquotes and bytes.
use Rattle.std.specs.Prelude.{ℕ, ◌+◌, ◌-◌, ◌%◌, Bool, false, not, ◌&&◌, ◌==◌, nat_lt, if◌then◌else◌, List, [], ◌∷◌, length, take, drop, Option, Some, None}
use Rattle.std.specs.Str.{is_utf8}
use Rattle.sql_tree.specs.declared.token.Kind.{Kind}
use Rattle.sql_tree.specs.declared.token.Kind.TheVariants as k
use Rattle.sql_lex.specs.declared.bytes.Class.TheVariants as class
use Rattle.sql_lex.specs.declared.bytes.Piece.{Piece}
use Rattle.sql_lex.specs.Bytes.{run, are_in, begins_with}
use Rattle.sql_lex.specs.Tables.{is_table_name}

-- How many bytes stand up to the quote that ends a quoted text, with it. A quote behind which another
-- one stands is no end, and neither is that one. `second` says that the byte in front is such a one.
abbrev pub closing : ℕ → Bool → ℕ → List ℕ → Option ℕ
closing q second at [] = None
closing q second at (b ∷ z) =
    if not second && (b == q && not (begins_with q z)) then Some (at + 1)
    else closing q (not second && b == q) (at + 1) z

-- what stands between the first byte and the last
abbrev pub inside : List ℕ → List ℕ
inside z = take (length z - 2) (drop 1 z)

-- a text in quotes, by whether it is a table's name
abbrev pub text_kind : List ℕ → Kind
text_kind z = if not (is_utf8 z) then k.Bad else (if is_table_name (inside z) then k.TableText else k.Text)

-- a name in backquotes isn't empty
abbrev pub name_kind : List ℕ → Kind
name_kind z = if is_utf8 z && nat_lt 2 (length z) then k.Name else k.Bad

-- 96 is the backquote
abbrev pub quoted_kind : ℕ → List ℕ → Kind
quoted_kind q z = if q == 96 then name_kind z else text_kind z

abbrev pub closed : ℕ → List ℕ → Option ℕ → Piece
closed q z None = record { kind = k.Bad; len = length z }
closed q z (Some len) = record { kind = quoted_kind q (take (len + 1) z); len = len + 1 }

-- the quoted text or name at the front; one that doesn't end is bad up to the end of the script
abbrev pub quoted : ℕ → List ℕ → Piece
quoted q z = closed q z (closing q false 0 (drop 1 z))

-- the digits of bytes, between X' and the last quote
abbrev pub hex_digits : List ℕ → List ℕ
hex_digits z = take (length z - 3) (drop 2 z)

-- hexadecimal digits, of which there is an even number
abbrev pub bytes_kind : List ℕ → Kind
bytes_kind z = if are_in class.Hex (hex_digits z) && length (hex_digits z) % 2 == 0 then k.Bytes else k.Bad

-- the bytes at the front, which end at the next quote
abbrev pub bytes : List ℕ → Piece
bytes z =
    let n = run class.Inner (drop 2 z) in
    if n + 2 == length z then record { kind = k.Bad; len = length z }
    else record { kind = bytes_kind (take (n + 3) z); len = n + 3 }
