-- The bytes of the text of what was drawn.
use Rattle.std.proofs.Common.{◌≡◌, ◌<◌, ℕ, suc, zero, List, length, Bool, true, false, if◌then◌else◌, refl, arith}
use Rattle.std.specs.List.{All}
use Rattle.std.proofs.lemmas.Bool.Decides.{nat_tests}
use Rattle.std.proofs.lemmas.List.Elements.{All-nil, All-push}
use Rattle.uuid.specs.Text.{by_index, hex_digit, nibble, digit_place, is_hyphen_place, lower}
use Rattle.uuid.proofs.TextLemmas.{by_index_length, nibble_small}
use Rattle.file_names.specs.Names.{name_of, id_of, is_name_byte}

abbrev IsPlain : ℕ → Type 0
IsPlain b = is_name_byte b ≡ true

all_by_index : (n : ℕ) (f : ℕ → ℕ) → ((k : ℕ) → IsPlain (f k)) → All IsPlain (by_index n f)
unfolding by_index
all_by_index zero f each = All-nil IsPlain
all_by_index (suc n) f each = All-push IsPlain (by_index n f) (f n) (all_by_index n f each) (each n)

digit_is_plain : (d : ℕ) → d < 16 → IsPlain (hex_digit lower d)
digit_is_plain d small = grind (arith, nat_tests)

chosen : (b : Bool) (d : ℕ) → d < 16 → IsPlain (if b then 45 else hex_digit lower d)
chosen true d small = refl
chosen false d small = digit_is_plain d small

pub plain : (drawn : List ℕ) → All IsPlain (name_of drawn)
unfolding name_of
plain drawn =
    all_by_index 36 (λ k. if is_hyphen_place k then 45 else hex_digit lower (nibble (id_of drawn) (digit_place k)))
    (λ k. chosen (is_hyphen_place k) (nibble (id_of drawn) (digit_place k)) (nibble_small (id_of drawn) (digit_place k)))

pub long : (drawn : List ℕ) → length (name_of drawn) ≡ 36
unfolding name_of
long drawn = by_index_length 36 _
