-- Bytes by their class, and how many of a class stand at the front.
use Rattle.std.specs.Prelude.{ℕ, Bool, false, not, ◌&&◌, ◌||◌, ◌==◌, List, [], ◌∷◌, length}
use Rattle.std.specs.Char.{is_ascii_digit, is_ascii_hexdigit, is_ascii_alphabetic, is_ascii_alphanumeric}
use Rattle.std.specs.List.{prefix_len}
use Rattle.sql_lex.specs.declared.bytes.Class.{Class}
use Rattle.sql_lex.specs.declared.bytes.Class.TheVariants as class

-- 9 is a tab, 10 a line feed, 13 a carriage return, 32 a space; 39 is ', 45 -, 46 ., 48 the digit 0, 95 _
abbrev pub is_in : Class → ℕ → Bool
is_in class.Blank b = b == 32 || (b == 9 || (b == 13 || b == 10))
is_in class.Line b = not (b == 10)
is_in class.Digit b = is_ascii_digit b
is_in class.Lead b = b == 48 || b == 46
is_in class.Hex b = is_ascii_hexdigit b
is_in class.Inner b = not (b == 39)
is_in class.Letter b = is_ascii_alphabetic b || b == 95
is_in class.Word b = is_ascii_alphanumeric b || b == 95
is_in class.Table b = is_ascii_alphanumeric b || (b == 95 || (b == 45 || b == 46))

-- how many bytes of the class stand at the front
abbrev pub run : Class → List ℕ → ℕ
run c z = prefix_len (is_in c) z

-- each byte is of the class
abbrev pub are_in : Class → List ℕ → Bool
are_in c z = run c z == length z

abbrev pub begins_with : ℕ → List ℕ → Bool
begins_with b [] = false
begins_with b (first ∷ z) = first == b

-- a comment begins with two dashes
abbrev pub begins_comment : List ℕ → Bool
begins_comment [] = false
begins_comment (b ∷ z) = b == 45 && begins_with 45 z

-- bytes begin with an X in either case and a quote
abbrev pub begins_bytes : List ℕ → Bool
begins_bytes [] = false
begins_bytes (b ∷ z) = (b == 88 || b == 120) && begins_with 39 z
