-- Fixed arrays, as they are read one after the other.
use Rattle.std.proofs.Common.{◌≡◌, ℕ, zero, suc, ◌+◌, ◌*◌, ◌<◌, ◌≤◌, List, ◌∷◌, length, take, drop, Some, None, Ok, Err, Bool, true, false, cond, ltb, refl, ap, ◌∙◌, arith}
use Rattle.std.specs.Prelude.{slice_get}
use Rattle.std.proofs.lemmas.Bool.{le-ltb, ltb-false}
use Rattle.std.proofs.lemmas.List.{drop-drop, length-drop}
use Rattle.dm_types.specs.Then.{◌>>=◌}
use Rattle.plain_values.specs.Fixed.{arrays_in}
use Rattle.plain_values.specs.Meaning.{short, extra, Front, with_value, bytes_at, values_at, whole}
use Rattle.plain_values.proofs.Turns.{left_over, none_over}

next_at : (size count : ℕ) → size + count * size ≡ suc count * size
next_at size count = omega arith

pub arrays_counted : (size count : ℕ) (bytes : List ℕ) → length (arrays_in size count bytes) ≡ count
unfolding arrays_in
arrays_counted size zero bytes = refl
arrays_counted size (suc count) bytes = ap suc (arrays_counted size count (drop size bytes))

pub array_got : (size count at : ℕ) (bytes : List ℕ) → at < count → slice_get (arrays_in size count bytes) at ≡ Some (take size (drop (at * size) bytes))
unfolding arrays_in
array_got size zero at bytes below = absurd (omega arith)
array_got size (suc count) zero bytes below = let none : 0 * size ≡ 0 = omega arith in rw none refl
array_got size (suc count) (suc at) bytes below = array_got size count at (drop size bytes) (omega arith) ∙ ap (λ bs. Some (take size bs)) (drop-drop (at * size) size bytes ∙ ap (λ n. drop n bytes) (next_at size at))

pub none_got : (size count at : ℕ) (bytes : List ℕ) → count ≤ at → slice_get (arrays_in size count bytes) at ≡ None
unfolding arrays_in
none_got size zero at bytes past = refl
none_got size (suc count) zero bytes past = absurd (omega arith)
none_got size (suc count) (suc at) bytes past = none_got size count at (drop size bytes) (omega arith)

one_held : (size : ℕ) (bytes : List ℕ) → size ≤ length bytes → bytes_at size bytes ≡ Some (take size bytes, drop size bytes)
one_held size bytes held = let test : ltb (length bytes) size ≡ false = le-ltb (length bytes) size held in rw test refl

pub all_held : (size count : ℕ) (bytes : List ℕ) → count * size ≤ length bytes → values_at (bytes_at size) count bytes ≡ Some (arrays_in size count bytes, drop (count * size) bytes)
unfolding arrays_in values_at
all_held size zero bytes held = let none : 0 * size ≡ 0 = omega arith in rw none refl
all_held size (suc count) bytes held =
    let more : size + count * size ≤ length bytes = omega (arith, next_at size count) in
    let others = all_held size count (drop size bytes) (omega (arith, length-drop size bytes)) in
    let behind : drop (count * size) (drop size bytes) ≡ drop (suc count * size) bytes = drop-drop (count * size) size bytes ∙ ap (λ n. drop n bytes) (next_at size count) in
    ap (λ (known : Front (List ℕ)). known >>= λ first. with_value first.0 (values_at (bytes_at size) count first.1)) (one_held size bytes (omega arith))
    ∙ ap (with_value (take size bytes)) others
    ∙ ap (λ rest. Some (take size bytes ∷ arrays_in size count (drop size bytes), rest)) behind

not_held_by : (size count : ℕ) (bytes : List ℕ) (small : Bool) → (small ≡ false → values_at (bytes_at size) count (drop size bytes) ≡ None)
    → (◌>>=◌ {A = List ℕ × List ℕ} {B = List (List ℕ) × List ℕ} (cond small None (Some (take size bytes, drop size bytes))) (λ first. with_value first.0 (values_at (bytes_at size) count first.1))) ≡ None
not_held_by size count bytes true later = refl
not_held_by size count bytes false later = ap (with_value (take size bytes)) (later refl)

pub not_held : (size count : ℕ) (bytes : List ℕ) → length bytes < count * size → values_at (bytes_at size) count bytes ≡ None
unfolding values_at
not_held size zero bytes fewer = absurd (omega arith)
not_held size (suc count) bytes fewer =
    let less : length bytes < size + count * size = omega (arith, next_at size count) in
    not_held_by size count bytes (ltb (length bytes) size) (λ enough. not_held size count (drop size bytes)
    (let held = ltb-false (length bytes) size enough in omega (arith, length-drop size bytes)))

-- ---- what the reader answers

pub fixed_whole : (size count : ℕ) (bytes : List ℕ) → length bytes ≡ count * size → whole (values_at (bytes_at size) count bytes) ≡ Ok (arrays_in size count bytes)
fixed_whole size count bytes is =
    ap whole (all_held size count bytes (omega arith)) ∙ none_over (arrays_in size count bytes) (drop (count * size) bytes) (omega (arith, length-drop (count * size) bytes))

pub fixed_extra : (size count : ℕ) (bytes : List ℕ) → count * size < length bytes → whole (values_at (bytes_at size) count bytes) ≡ Err extra
fixed_extra size count bytes more =
    ap whole (all_held size count bytes (omega arith)) ∙ left_over (arrays_in size count bytes) (drop (count * size) bytes) (omega (arith, length-drop (count * size) bytes))

pub fixed_short : (size count : ℕ) (bytes : List ℕ) → length bytes < count * size → whole (values_at (bytes_at size) count bytes) ≡ Err short
fixed_short size count bytes fewer = ap whole (not_held size count bytes fewer)
