-- The numbers of a run, as far as there is room.
use Rattle.std.proofs.Common.{◌≡◌, ℕ, ◌*◌, ◌^◌, ◌<◌, ◌≤◌, List, ◌++◌, length, take, drop, replicate, Some, option_map, true, false, ltb, sym, ap, ◌∙◌, ⊎_elim, arith}
use Rattle.std.proofs.Math.Nat.{mul-le-mul_right}
use Rattle.std.specs.Prelude.{min}
use Rattle.std.proofs.lemmas.Bool.{cases_lt, le-ltb, lt-ltb}
use Rattle.std.proofs.lemmas.List.{take_all, take-replicate, length-replicate}
use Rattle.std.proofs.lemmas.List.FromFn.{take-map-range_with_len, length-map-range_with_len}
use Rattle.byteorder.specs.Endian.{little_number}
use Rattle.level_runs.specs.Steps.{joined}
use Rattle.level_runs.specs.Bits.{packed_number, packed_numbers}
use Rattle.level_runs.specs.Reading.{packed_at, repeated_at}
use Rattle.level_runs.specs.Runs.{value_size}

-- how many numbers of a run are taken
abbrev pub IsTaken : ℕ → ℕ → ℕ → Type 0
IsTaken total room count = count ≡ min total room

pub take-packed_numbers : (width total room count : ℕ) (packed : List ℕ) → IsTaken total room count → take room (packed_numbers width packed total) ≡ packed_numbers width packed count
take-packed_numbers width total room count packed is =
    ⊎_elim
    (λ (less : total < room).
    let same : count ≡ total = omega arith in
    take_all room (packed_numbers width packed total) (omega (arith, length-map-range_with_len (packed_number width packed) 0 total)) ∙ ap (packed_numbers width packed) (sym same))
    (λ (most : room ≤ total).
    let same : count ≡ room = omega arith in
    take-map-range_with_len (packed_number width packed) 0 total room most ∙ ap (packed_numbers width packed) (sym same))
    (cases_lt total room)

pub take-repeated : (times room count number : ℕ) → IsTaken times room count → take room (replicate times number) ≡ replicate count number
take-repeated times room count number is =
    ⊎_elim
    (λ (less : times < room).
    let same : count ≡ times = omega arith in
    take_all room (replicate times number) (omega (arith, length-replicate times number)) ∙ ap (λ n. replicate n number) (sym same))
    (λ (most : room ≤ times).
    let same : count ≡ room = omega arith in
    take-replicate room times number most ∙ ap (λ n. replicate n number) (sym same))
    (cases_lt times room)

-- eight numbers in each group have the bits of the group's bytes
pub groups_hold : (groups width count : ℕ) → count ≤ groups * 8 → count * width ≤ 8 * (groups * width)
groups_hold groups width count most =
    let held : count * width ≤ (groups * 8) * width = mul-le-mul_right width most in
    omega arith

-- ---- a run whose bytes are there

pub packed_taken : (width groups room count : ℕ) (bytes old : List ℕ) → groups * width ≤ length bytes → IsTaken (8 * groups) room count
    → option_map (joined old room) (packed_at width groups bytes) ≡ Some (old ++ packed_numbers width (take (groups * width) bytes) count, drop (groups * width) bytes)
unfolding packed_at
packed_taken width groups room count bytes old held is =
    let test : ltb (length bytes) (groups * width) ≡ false = le-ltb (length bytes) (groups * width) held in
    let front = take (groups * width) bytes in
    rw test (ap (λ ns. Some (old ++ ns, drop (groups * width) bytes)) (take-packed_numbers width (8 * groups) room count front is))

pub repeated_taken : (width times room count number : ℕ) (bytes old : List ℕ) → value_size width ≤ length bytes → little_number (value_size width) (take (value_size width) bytes) ≡ number → number < 2 ^ width
    → IsTaken times room count → option_map (joined old room) (repeated_at width times bytes) ≡ Some (old ++ replicate count number, drop (value_size width) bytes)
unfolding repeated_at
repeated_taken width times room count number bytes old held value fits is =
    let test : ltb (length bytes) (value_size width) ≡ false = le-ltb (length bytes) (value_size width) held in
    let narrow : ltb number (2 ^ width) ≡ true = lt-ltb number (2 ^ width) fits in
    rw (test, value, narrow) (ap (λ ns. Some (old ++ ns, drop (value_size width) bytes)) (take-repeated times room count number is))
