-- Truth values that are read and written bit by bit.
use Rattle.std.proofs.Common.{◌≡◌, ℕ, zero, suc, ◌^◌, get_or, cond, eqb, ◌+◌, ◌-◌, ◌*◌, ◌/◌, ◌%◌, ◌<◌, ◌≤◌, List, [], ◌∷◌, ◌++◌, length, take, drop, map, Bool, true, false, ltb, Ok, Err, refl, sym, ap, ◌∙◌, append_assoc, arith}
use Rattle.std.specs.Prelude.{min}
use Rattle.std.specs.List.{range_with_len}
use Rattle.std.specs.Int.{div_ceil}
use Rattle.std.proofs.lemmas.Bool.{le-ltb}
use Rattle.std.proofs.lemmas.List.{length-drop, length-take, take_min, get_or-take, get_or-drop}
use Rattle.std.proofs.lemmas.List.FromFn.{map-range_with_len_more, length-map-range_with_len, get_or-map-range_with_len, fill_by_all}
use Rattle.std.proofs.lemmas.Nat.{shr-shr, mod_below}
use Rattle.plain_values.specs.Flags.{flag_bytes, flag_at, flags_in, AreFlags, flags_at, flag_number, flag_byte, flags_spelling}
use Rattle.plain_values.specs.Meaning.{extra, whole_at, whole}
use Rattle.plain_values.proofs.Turns.{left_over, none_over}

held : (count : ℕ) (bytes : List ℕ) → flag_bytes count ≤ length bytes → whole (flags_at count bytes) ≡ whole_at (flags_in bytes count) (drop (flag_bytes count) bytes)
held count bytes enough =
    let test : ltb (length bytes) (flag_bytes count) ≡ false = le-ltb (length bytes) (flag_bytes count) enough in
    rw test refl

pub flags_extra : (count size : ℕ) (bytes : List ℕ) → size ≡ div_ceil count 8 → size < length bytes → whole (flags_at count bytes) ≡ Err extra
flags_extra count size bytes is more =
    let same : flag_bytes count ≡ size = omega arith in
    held count bytes (omega arith) ∙ left_over (flags_in bytes count) (drop (flag_bytes count) bytes) (omega (arith, length-drop (flag_bytes count) bytes))

pub flags_whole : (count size place : ℕ) (bytes : List ℕ) (flags : List Bool) → size ≡ div_ceil count 8 → length bytes ≡ size → place ≡ count → flags ≡ flags_in bytes place → whole (flags_at count bytes) ≡ Ok flags
flags_whole count size place bytes flags is whole_size end read =
    let same : flag_bytes count ≡ size = omega arith in
    held count bytes (omega arith) ∙ none_over (flags_in bytes count) (drop (flag_bytes count) bytes) (omega (arith, length-drop (flag_bytes count) bytes)) ∙ ap Ok (ap (flags_in bytes) (sym end) ∙ sym read)

pub flag_read : (bytes : List ℕ) (place : ℕ) (flags new : List Bool) (flag : Bool) → flags ≡ flags_in bytes place → flag ≡ flag_at bytes place → new ≡ flags ++ flag ∷ [] → new ≡ flags_in bytes (place + 1)
flag_read bytes place flags new flag read is pushed =
    pushed ∙ ap (λ fs. fs ++ flag ∷ []) read ∙ ap (λ f. flags_in bytes place ++ f ∷ []) is ∙ sym (map-range_with_len_more (flag_at bytes) 0 place place (omega arith))

-- the flags of a byte, as the code cuts them
group : (flags : List Bool) (at end : ℕ) → end ≡ min (length flags) (8 * at + 8) → take (end - 8 * at) (drop (8 * at) flags) ≡ take 8 (drop (8 * at) flags)
group flags at end is =
    let size = length-drop (8 * at) flags in
    let count : end - 8 * at ≡ min 8 (length (drop (8 * at) flags)) = omega arith in
    ap (λ n. take n (drop (8 * at) flags)) count ∙ take_min 8 (drop (8 * at) flags)

pub byte_written : (flags : List Bool) (at end byte : ℕ) (old now new : List ℕ) → end ≡ min (length flags) (8 * at + 8) → byte ≡ flag_number (take (end - 8 * at) (drop (8 * at) flags))
    → now ≡ old ++ map (flag_byte flags) (range_with_len 0 at) → new ≡ now ++ byte ∷ [] → new ≡ old ++ map (flag_byte flags) (range_with_len 0 (at + 1))
byte_written flags at end byte old now new is value written pushed =
    let same : byte ≡ flag_byte flags at = value ∙ ap flag_number (group flags at end is) in
    pushed ∙ ap (λ bs. bs ++ byte ∷ []) written ∙ append_assoc old (map (flag_byte flags) (range_with_len 0 at)) (byte ∷ [])
    ∙ ap (λ b. old ++ (map (flag_byte flags) (range_with_len 0 at) ++ b ∷ [])) same ∙ ap (λ bs. old ++ bs) (sym (map-range_with_len_more (flag_byte flags) 0 at at (omega arith)))

pub all_written : (flags : List Bool) (at count : ℕ) (old new : List ℕ) → count ≡ div_ceil (length flags) 8 → at ≡ count → new ≡ old ++ map (flag_byte flags) (range_with_len 0 at) → new ≡ old ++ flags_spelling flags
unfolding flags_spelling
all_written flags at count old new is end written =
    let same : at ≡ flag_bytes (length flags) = omega arith in
    written ∙ ap (λ n. old ++ map (flag_byte flags) (range_with_len 0 n)) same

-- ---- what is written means the truth values

one_bit : (flag : Bool) (high : ℕ) → eqb ((cond flag 1 0 + 2 * high) / 2 ^ 0 % 2) 1 ≡ flag
one_bit true high =
    let bit : (1 + 2 * high) / 2 ^ 0 % 2 ≡ 1 = omega arith in
    rw bit refl
one_bit false high =
    let bit : (0 + 2 * high) / 2 ^ 0 % 2 ≡ 0 = omega arith in
    rw bit refl

above : (flag : Bool) (high j : ℕ) → (cond flag 1 0 + 2 * high) / 2 ^ suc j ≡ high / 2 ^ j
above flag high j =
    let place : suc j ≡ 1 + j = omega arith in
    let half : (cond flag 1 0 + 2 * high) / 2 ≡ high = half_by flag in
    ap (λ k. (cond flag 1 0 + 2 * high) / 2 ^ k) place ∙ sym (shr-shr (cond flag 1 0 + 2 * high) 1 j) ∙ ap (λ n. n / 2 ^ j) half
  where
    half_by : (bit : Bool) → (cond bit 1 0 + 2 * high) / 2 ≡ high
    half_by true = omega arith
    half_by false = omega arith

number_bit : (flags : List Bool) (j : ℕ) → j < length flags → eqb (flag_number flags / 2 ^ j % 2) 1 ≡ get_or flags j false
number_bit [] j below = absurd (omega arith)
number_bit (flag ∷ flags) zero below = one_bit flag (flag_number flags)
number_bit (flag ∷ flags) (suc j) below = ap (λ n. eqb (n % 2) 1) (above flag (flag_number flags) j) ∙ number_bit flags j (omega arith)

written_bit : (flags : List Bool) (place : ℕ) → place < length flags → flag_at (flags_spelling flags) place ≡ get_or flags place false
unfolding flag_at flags_spelling
written_bit flags place below =
    let group = drop (8 * (place / 8)) flags in
    let byte : get_or (flags_spelling flags) (place / 8) 0 ≡ flag_byte flags (place / 8) =
    get_or-map-range_with_len (flag_byte flags) 0 (flag_bytes (length flags)) (place / 8) (place / 8) 0 (omega arith) (omega arith) in
    let bit : place % 8 < 8 = mod_below place 8 (omega arith) in
    let size : length group ≡ length flags - 8 * (place / 8) = length-drop (8 * (place / 8)) flags in
    let within : place % 8 < length (take 8 group) = front_bit group (place % 8) bit (omega arith) in
    let parts : 8 * (place / 8) + place % 8 ≡ place = omega arith in
    ap (λ n. eqb (n / 2 ^ (place % 8) % 2) 1) byte
    ∙ number_bit (take 8 group) (place % 8) within
    ∙ get_or-take 8 group (place % 8) false bit
    ∙ get_or-drop (8 * (place / 8)) flags (place % 8) false
    ∙ ap (λ k. get_or flags k false) parts
  where
    front_bit : (xs : List Bool) (k : ℕ) → k < 8 → k < length xs → k < length (take 8 xs)
    front_bit xs k small held = omega (arith, length-take 8 xs)

pub flags_written : (flags : List Bool) → AreFlags flags (flags_spelling flags)
unfolding flags_spelling
flags_written flags = record {
  size = length-map-range_with_len (flag_byte flags) 0 (flag_bytes (length flags));
  each = fill_by_all (flag_at (flags_spelling flags)) flags (length flags) false refl (λ k below. sym (written_bit flags k below));
}
