-- Truth values are read as they are written, which the laws of `PlainBoolean` cite.
use Rattle.std.proofs.Common.{◌≡◌, ℕ, ◌+◌, ◌/◌, ◌%◌, ◌^◌, ◌<◌, ◌≤◌, List, [], ◌∷◌, ◌++◌, length, get_or, take, drop, Some, None, Bool, true, false, cond, ltb, eqb, refl, sym, ap, ◌∙◌, length-append, arith}
use Rattle.std.proofs.lemmas.Bool.{ltb-true, ltb-false, le-ltb}
use Rattle.std.proofs.lemmas.List.{drop_at, take-append-drop, length-take-le, length-drop, get_or-take, get_or_append_left}
use Rattle.std.proofs.lemmas.List.FromFn.{length-map-range_with_len, get_or-map-range_with_len, fill_by_all}
use Rattle.plain_values.specs.Meaning.{whole_at, whole, Front, Judges}
use Rattle.plain_values.specs.Flags.{flag_bytes, flag_at, flags_in, AreFlags, flags_at}

-- ---- the bits of bytes of which others stand behind

flag_before : (bytes front : List ℕ) (place : ℕ) → get_or bytes (place / 8) 0 ≡ get_or front (place / 8) 0 → flag_at bytes place ≡ flag_at front place
unfolding flag_at
flag_before bytes front place same = ap (λ n. eqb (n / 2 ^ (place % 8) % 2) 1) same

flags_same : (bytes front : List ℕ) (count : ℕ) → ((place : ℕ) → place < count → flag_at bytes place ≡ flag_at front place) → flags_in bytes count ≡ flags_in front count
flags_same bytes front count same =
    fill_by_all (flag_at front) (flags_in bytes count) count false (length-map-range_with_len (flag_at bytes) 0 count) (λ k below.
    get_or-map-range_with_len (flag_at bytes) 0 count k k false below (omega arith) ∙ same k below)

flags_front : (bytes : List ℕ) (count : ℕ) → flags_in bytes count ≡ flags_in (take (flag_bytes count) bytes) count
flags_front bytes count = flags_same bytes (take (flag_bytes count) bytes) count (λ place below.
    flag_before bytes (take (flag_bytes count) bytes) place (sym (get_or-take (flag_bytes count) bytes (place / 8) 0 (omega arith))))

flags_append : (bytes rest : List ℕ) (count : ℕ) → length bytes ≡ flag_bytes count → flags_in (bytes ++ rest) count ≡ flags_in bytes count
flags_append bytes rest count size = flags_same (bytes ++ rest) bytes count (λ place below.
    flag_before (bytes ++ rest) bytes place (get_or_append_left bytes rest 0 (place / 8) (omega arith)))

-- ---- the laws

tell_held : (count : ℕ) (bytes rest : List ℕ) → flag_bytes count ≤ length bytes → drop (flag_bytes count) bytes ≡ rest → Judges length AreFlags count bytes (whole_at (flags_in bytes count) rest)
tell_held count bytes [] held is =
    let counted = length-map-range_with_len (flag_at bytes) 0 count in
    let sizes = length-drop (flag_bytes count) bytes in
    let none : length (drop (flag_bytes count) bytes) ≡ 0 = ap length is in
    (counted, record { size = omega (arith, ap flag_bytes counted); each = ap (flags_in bytes) (sym counted) })
tell_held count bytes (b ∷ bs) held is =
    let counted = length-map-range_with_len (flag_at bytes) 0 count in
    record {
      values = flags_in bytes count;
      front = take (flag_bytes count) bytes;
      rest = b ∷ bs;
      counted = counted;
      is = record {
        size = length-take-le (flag_bytes count) bytes held ∙ ap flag_bytes (sym counted);
        each = flags_front bytes count ∙ ap (flags_in (take (flag_bytes count) bytes)) (sym counted);
      };
      whole = sym (take-append-drop (flag_bytes count) bytes) ∙ ap (λ r. take (flag_bytes count) bytes ++ r) is;
      left = λ none. absurd cc;
    }

tell_by : (count : ℕ) (bytes : List ℕ) (small : Bool) → ltb (length bytes) (flag_bytes count) ≡ small
    → Judges length AreFlags count bytes (whole (cond {A = Front (List Bool)} small None (Some (flags_in bytes count, drop (flag_bytes count) bytes))))
tell_by count bytes true small = λ values front rest counted means joined.
    let short = ltb-true (length bytes) (flag_bytes count) small in
    let sizes : length bytes ≡ length front + length rest = ap length joined ∙ length-append front rest in
    let size : length front ≡ flag_bytes count = means.size ∙ ap flag_bytes counted in
    absurd (omega arith)
tell_by count bytes false small = tell_held count bytes (drop (flag_bytes count) bytes) (ltb-false (length bytes) (flag_bytes count) small) refl

pub flags_judge : (count : ℕ) (bytes : List ℕ) → Judges length AreFlags count bytes (whole (flags_at count bytes))
flags_judge count bytes = tell_by count bytes (ltb (length bytes) (flag_bytes count)) refl

pub flags_again : (flags : List Bool) (bytes rest : List ℕ) → AreFlags flags bytes → whole (flags_at (length flags) (bytes ++ rest)) ≡ whole_at flags rest
flags_again flags bytes rest are =
    let enough : flag_bytes (length flags) ≤ length (bytes ++ rest) = omega (arith, length-append bytes rest, are.size) in
    let held : ltb (length (bytes ++ rest)) (flag_bytes (length flags)) ≡ false = le-ltb (length (bytes ++ rest)) (flag_bytes (length flags)) enough in
    let same : flags_in (bytes ++ rest) (length flags) ≡ flags = flags_append bytes rest (length flags) are.size ∙ sym are.each in
    rw (held, same, drop_at bytes rest (flag_bytes (length flags)) are.size) refl
