-- Numbers: digits, or digits, a point and digits.
use Rattle.std.specs.Prelude.{ℕ, ◌+◌, ◌-◌, ◌*◌, ◌^◌, ◌&&◌, ◌==◌, nat_lt, if◌then◌else◌, List, [], ◌∷◌, take, drop, count_by}
use Rattle.std.specs.Char.{is_ascii_digit}
use Rattle.sql_tree.specs.declared.token.Kind.{Kind}
use Rattle.sql_tree.specs.declared.token.Kind.TheVariants as k
use Rattle.sql_lex.specs.declared.bytes.Class.TheVariants as class
use Rattle.sql_lex.specs.declared.bytes.Piece.{Piece}
use Rattle.sql_lex.specs.Bytes.{run, are_in}

-- how many bytes a point and the digits behind it have at the front, 0 where no digit follows a point
abbrev pub fraction_len : List ℕ → ℕ
fraction_len [] = 0
fraction_len (b ∷ z) = if b == 46 && nat_lt 0 (run class.Digit z) then run class.Digit z + 1 else 0

-- the longest number at the front
abbrev pub number_len : List ℕ → ℕ
number_len z = run class.Digit z + fraction_len (drop (run class.Digit z) z)

abbrev pub digits : List ℕ → ℕ
digits z = count_by is_ascii_digit z

-- how many digits a number has behind its leading zeros, the point left out
abbrev pub significant : List ℕ → ℕ
significant z = digits (drop (run class.Lead z) z)

-- a number with one more digit; what is no digit is left out
abbrev pub with_byte : ℕ → ℕ → ℕ
with_byte n b = if is_ascii_digit b then 10 * n + (b - 48) else n

-- the number that the digits go on to spell behind those of n
abbrev pub spelled_from : ℕ → List ℕ → ℕ
spelled_from n [] = n
spelled_from n (b ∷ z) = spelled_from (with_byte n b) z

-- the number that the digits spell, the point left out
unfoldable pub unscaled : List ℕ → ℕ
unscaled z = spelled_from 0 z

-- a whole number that is the grammar's n, or one above
abbrev pub whole_kind : ℕ → Kind
whole_kind n = if nat_lt n (2 ^ 63) then k.Whole else k.LargeWhole

-- at most 38 digits stand behind the leading zeros
abbrev pub number_kind : List ℕ → Kind
number_kind z = if nat_lt 38 (significant z) then k.Bad else (if are_in class.Digit z then whole_kind
    (unscaled z) else k.Decimal)

-- the number at the front
abbrev pub number : List ℕ → Piece
number z = record { kind = number_kind (take (number_len z) z); len = number_len z }
