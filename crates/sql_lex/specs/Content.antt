-- What tokens mean: names, texts, numbers and bytes.
use Rattle.std.specs.Prelude.{◌++◌, ◌⊎◌, ◌≢◌, IsUtf8, ◌≡◌, ◌<◌, ◌^◌, IsSome, All, ℕ, ◌+◌, ◌-◌, max, Bool, true, false, ◌&&◌, ◌==◌, nat_lt, nat_le, if◌then◌else◌, List, [], ◌∷◌, length, take, drop, Option, Some, None}
use Rattle.std.specs.Result.{result_ok}
use Rattle.std.specs.Str.{is_utf8}
use Rattle.hex.specs.Hex.{decode_of}
use Rattle.sql_tree.specs.Kinds.{names}
use Rattle.sql_tree.specs.declared.token.Kind.{Kind}
use Rattle.sql_tree.specs.declared.token.Kind.TheVariants as k
use Rattle.sql_tree.specs.declared.token.Token.{Token}
use Rattle.sql_lex.specs.Tables.{is_table_name}
use Rattle.sql_lex.specs.declared.bytes.Class.TheVariants as class
use Rattle.sql_tree.specs.Places.{slice}
use Rattle.sql_tree.specs.declared.tree.Number.{Number}
use Rattle.sql_lex.specs.Bytes.{run, are_in, begins_bytes}
use Rattle.sql_lex.specs.Numbers.{significant, unscaled, number_len, fraction_len}
use Rattle.sql_lex.specs.Quotes.{closing, inside, hex_digits}

-- ---- quotes

-- what stands between quotes: each quote of a content twice
abbrev pub doubled : ℕ → List ℕ → List ℕ
doubled q [] = []
doubled q (b ∷ content) = if b == q then q ∷ q ∷ doubled q content else b ∷ doubled q content

abbrev pub in_quotes : ℕ → List ℕ → List ℕ
in_quotes q content = q ∷ doubled q content ++ q ∷ []

-- the content: of two quotes the second is left out. `second` says that a quote stands in front.
abbrev pub halved : ℕ → Bool → List ℕ → List ℕ
halved q second [] = []
halved q second (b ∷ z) = if second && b == q then halved q false z else b ∷ halved q (b == q) z

-- the quote that ends it is its last byte
abbrev pub ends_at : ℕ → Option ℕ → Bool
ends_at n None = false
ends_at n (Some len) = len == n

abbrev pub is_quoted : ℕ → List ℕ → Bool
is_quoted q [] = false
is_quoted q (b ∷ z) = b == q && ends_at (length z) (closing q false 0 z)

abbrev pub if_text : List ℕ → Option (List ℕ)
if_text z = if is_utf8 z then Some z else None

-- ---- names, texts and bytes

abbrev pub is_word : List ℕ → Bool
is_word z = nat_lt 0 (length z) && are_in class.Word z

-- a word is its own name, the name in backquotes (96) what stands between them
abbrev pub name_of : List ℕ → Option (List ℕ)
name_of z =
    if is_quoted 96 z then (if nat_lt 2 (length z) then if_text (halved 96 false (inside z)) else None)
    else (if is_word z then if_text z else None)

-- all bytes of a table's name
abbrev pub table_of : List ℕ → Option (List ℕ)
table_of z = if is_table_name z then if_text z else None

-- the text between quotes (39)
abbrev pub text_of : List ℕ → Option (List ℕ)
text_of z = if is_quoted 39 z then if_text (halved 39 false (inside z)) else None

abbrev pub decoded : List ℕ → Option (List ℕ)
decoded digits = result_ok (decode_of digits)

-- the bytes of the digits between X' and the last quote
abbrev pub bytes_of : List ℕ → Option (List ℕ)
bytes_of z =
    if begins_bytes z && run class.Inner (drop 2 z) + 3 == length z then decoded (hex_digits z) else None

-- ---- numbers

-- digits, or digits, a point and digits, of which at most 38 stand behind the leading zeros
abbrev pub is_number : List ℕ → Bool
is_number z = nat_lt 0 (run class.Digit z) && (number_len z == length z && nat_le (significant z) 38)

-- how many digits stand before the point
abbrev pub whole_len : List ℕ → ℕ
whole_len z = run class.Digit z

-- how many digits stand behind the point
abbrev pub scale : List ℕ → ℕ
scale z = fraction_len (drop (run class.Digit z) z) - 1

-- .. and how many behind the leading zeros before it, and at least one in all
abbrev pub precision : List ℕ → ℕ
precision z = max 1 (significant (take (run class.Digit z) z) + scale z)

-- the number without its point, its precision and its scale, which is 0 for a whole
abbrev pub number_of : List ℕ → Option Number
number_of z = if is_number z then Some
    (record { unscaled = unscaled z; precision = precision z; scale = scale z }) else None

-- ---- spellings

-- a text in quotes, each quote in it twice
abbrev pub SpellsText : List ℕ → List ℕ → Type 0
SpellsText z text = (z ≡ in_quotes 39 text) × IsUtf8 text

-- a word, or a name in backquotes that isn't empty
abbrev pub SpellsName : List ℕ → List ℕ → Type 0
SpellsName z name = ((is_word z ≡ true) × (z ≡ name)) ⊎ ((z ≡ in_quotes 96 name) × (name ≢ []) × IsUtf8 name)

-- ---- by kinds

-- what bytes of a kind mean
abbrev pub Means : Kind → List ℕ → Type 0
Means k.Whole z = IsSome (number_of z) × (unscaled z < 2 ^ 63)
Means k.LargeWhole z = IsSome (number_of z)
Means k.Decimal z = IsSome (number_of z)
Means k.Text z = IsSome (text_of z)
Means k.TableText z = IsSome (text_of z)
Means k.Bytes z = IsSome (bytes_of z)
Means k.Table z = IsSome (table_of z)
Means k.TableChanges z = IsSome (table_of z)
Means kind z = names kind ≡ true → IsSome (name_of z)

-- each token, taken alone, means what its kind says
abbrev pub AreMeant : List ℕ → List Token → Type 0
AreMeant z ts = All (λ t. Means t.kind (slice z t.span)) ts
