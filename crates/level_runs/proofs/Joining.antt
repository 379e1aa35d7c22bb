-- A run as the reader's function has it, and as it is spelled.
use Rattle.std.proofs.Common.{◌≡◌, ℕ, ◌+◌, ◌*◌, ◌/◌, ◌%◌, ◌^◌, ◌<◌, ◌≤◌, List, [], ◌∷◌, ◌++◌, length, take, drop, replicate, Some, None, Bool, true, false, cond, eqb, ltb, inl, inr, refl, sym, ap, ◌∙◌, subst, append_assoc, length-append, arith}
use Rattle.std.specs.Prelude.{option_map}
use Rattle.std.proofs.lemmas.Bool.{ltb-true, ltb-false, lt-ltb, le-ltb, eqb-true, eqb-false}
use Rattle.std.proofs.lemmas.List.{take-append-drop, length-take-le, take_at, drop_at}
use Rattle.byteorder.specs.Endian.{little_number}
use Rattle.dm_types.specs.Then.{◌>>=◌}
use Rattle.level_runs.specs.Bits.{packed_numbers}
use Rattle.level_runs.specs.Reading.{Front, varint_at, packed_at, repeated, repeated_at, body_at, run_at}
use Rattle.level_runs.specs.Runs.{value_size, IsPackedRun, IsRepeatedRun, IsRun}
use Rattle.level_runs.specs.Varint.{IsVarint}
use Rattle.level_runs.proofs.Chains.{varint_found, varint_again}

-- ---- what is found is spelled so

-- a body at the front of bytes
record PackedFound (width groups : ℕ) (bytes numbers rest : List ℕ) : Type 0 where
  packed : List ℕ
  size : length packed ≡ groups * width
  whole : bytes ≡ packed ++ rest
  means : numbers ≡ packed_numbers width packed (8 * groups)

record RepeatedFound (width times : ℕ) (bytes numbers rest : List ℕ) : Type 0 where
  value : List ℕ
  size : length value ≡ value_size width
  fits : little_number (value_size width) value < 2 ^ width
  whole : bytes ≡ value ++ rest
  means : numbers ≡ replicate times (little_number (value_size width) value)

packed_by : (width groups : ℕ) (bytes : List ℕ) (found : List ℕ × List ℕ) (short : Bool) → ltb (length bytes) (groups * width) ≡ short
    → ◌≡◌ {A = Front (List ℕ)} (cond short None (Some (packed_numbers width (take (groups * width) bytes) (8 * groups), drop (groups * width) bytes))) (Some found)
    → PackedFound width groups bytes found.0 found.1
packed_by width groups bytes found true short is = absurd cc
packed_by width groups bytes found false short is =
    let held : groups * width ≤ length bytes = ltb-false (length bytes) (groups * width) short in
    let same : ◌≡◌ {A = List ℕ × List ℕ} (packed_numbers width (take (groups * width) bytes) (8 * groups), drop (groups * width) bytes) found = cc in
    subst (λ (f : List ℕ × List ℕ). PackedFound width groups bytes f.0 f.1) same (record {
      packed = take (groups * width) bytes;
      size = length-take-le (groups * width) bytes held;
      whole = sym (take-append-drop (groups * width) bytes);
      means = refl;
    })

packed_found : (width groups : ℕ) (bytes : List ℕ) (found : List ℕ × List ℕ) → packed_at width groups bytes ≡ Some found → PackedFound width groups bytes found.0 found.1
unfolding packed_at
packed_found width groups bytes found is = packed_by width groups bytes found (ltb (length bytes) (groups * width)) refl is

repeated_fits : (width times : ℕ) (bytes : List ℕ) (found : List ℕ × List ℕ) (fits : Bool) → value_size width ≤ length bytes → ltb (little_number (value_size width) (take (value_size width) bytes)) (2 ^ width) ≡ fits
    → ◌≡◌ {A = Front (List ℕ)} (option_map (λ numbers. (numbers, drop (value_size width) bytes)) (cond fits (Some (replicate times (little_number (value_size width) (take (value_size width) bytes)))) None)) (Some found)
    → RepeatedFound width times bytes found.0 found.1
repeated_fits width times bytes found false held fits is = absurd cc
repeated_fits width times bytes found true held fits is =
    let same : ◌≡◌ {A = List ℕ × List ℕ} (replicate times (little_number (value_size width) (take (value_size width) bytes)), drop (value_size width) bytes) found = cc in
    subst (λ (f : List ℕ × List ℕ). RepeatedFound width times bytes f.0 f.1) same (record {
      value = take (value_size width) bytes;
      size = length-take-le (value_size width) bytes held;
      fits = ltb-true (little_number (value_size width) (take (value_size width) bytes)) (2 ^ width) fits;
      whole = sym (take-append-drop (value_size width) bytes);
      means = refl;
    })

repeated_by : (width times : ℕ) (bytes : List ℕ) (found : List ℕ × List ℕ) (short : Bool) → ltb (length bytes) (value_size width) ≡ short
    → ◌≡◌ {A = Front (List ℕ)} (cond short None (option_map (λ numbers. (numbers, drop (value_size width) bytes)) (repeated width times (little_number (value_size width) (take (value_size width) bytes))))) (Some found)
    → RepeatedFound width times bytes found.0 found.1
repeated_by width times bytes found true short is = absurd cc
repeated_by width times bytes found false short is = repeated_fits width times bytes found _ (ltb-false (length bytes) (value_size width) short) refl is

repeated_found : (width times : ℕ) (bytes : List ℕ) (found : List ℕ × List ℕ) → repeated_at width times bytes ≡ Some found → RepeatedFound width times bytes found.0 found.1
unfolding repeated_at
repeated_found width times bytes found is = repeated_by width times bytes found (ltb (length bytes) (value_size width)) refl is

-- a run at the front of bytes
pub record RunFound (width : ℕ) (bytes numbers rest : List ℕ) : Type 0 where
  pub spelled : List ℕ
  pub is : IsRun width spelled numbers
  pub whole : bytes ≡ spelled ++ rest

body_by : (width header : ℕ) (bytes chain body : List ℕ) (found : List ℕ × List ℕ) (odd : Bool) → eqb (header % 2) 1 ≡ odd → cond odd (packed_at width (header / 2) body) (repeated_at width (header / 2) body) ≡ Some found
    → IsVarint chain header → bytes ≡ chain ++ body → RunFound width bytes found.0 found.1
body_by width header bytes chain body found true odd is varint whole =
    let part = packed_found width (header / 2) body found is in
    let one : header % 2 ≡ 1 = eqb-true (header % 2) 1 odd in
    let number : header ≡ 2 * (header / 2) + 1 = omega arith in
    record {
      spelled = chain ++ part.packed;
      is = inl (record { header = chain; packed = part.packed; groups = header / 2; begins = subst (IsVarint chain) number varint; size = part.size; whole = refl; means = part.means });
      whole = whole ∙ ap (λ bs. chain ++ bs) part.whole ∙ sym (append_assoc chain part.packed found.1);
    }
body_by width header bytes chain body found false even is varint whole =
    let part = repeated_found width (header / 2) body found is in
    let number : header ≡ 2 * (header / 2) = let not_one = eqb-false (header % 2) 1 even in omega arith in
    record {
      spelled = chain ++ part.value;
      is = inr (record { header = chain; value = part.value; times = header / 2; begins = subst (IsVarint chain) number varint; size = part.size; fits = part.fits; whole = refl; means = part.means });
      whole = whole ∙ ap (λ bs. chain ++ bs) part.whole ∙ sym (append_assoc chain part.value found.1);
    }

run_by : (width : ℕ) (bytes : List ℕ) (found : List ℕ × List ℕ) (known : Front ℕ) → varint_at bytes ≡ known → (known >>= λ header. body_at width header.0 header.1) ≡ Some found → RunFound width bytes found.0 found.1
run_by width bytes found None known is = absurd cc
run_by width bytes found (Some header) known is =
    let read = varint_found bytes header known in
    body_by width header.0 bytes read.header header.1 found (eqb (header.0 % 2) 1) refl is read.is read.whole

pub run_found : (width : ℕ) (bytes : List ℕ) (found : List ℕ × List ℕ) → run_at width bytes ≡ Some found → RunFound width bytes found.0 found.1
unfolding run_at
run_found width bytes found is = run_by width bytes found (varint_at bytes) refl is

-- ---- what is spelled so is found

packed_again : (width groups : ℕ) (packed rest : List ℕ) → length packed ≡ groups * width → packed_at width groups (packed ++ rest) ≡ Some (packed_numbers width packed (8 * groups), rest)
unfolding packed_at
packed_again width groups packed rest size =
    let enough : groups * width ≤ length (packed ++ rest) = omega (arith, length-append packed rest) in
    let held : ltb (length (packed ++ rest)) (groups * width) ≡ false = le-ltb (length (packed ++ rest)) (groups * width) enough in
    rw (held, take_at packed rest (groups * width) size, drop_at packed rest (groups * width) size) refl

repeated_again : (width times : ℕ) (value rest : List ℕ) → length value ≡ value_size width → little_number (value_size width) value < 2 ^ width
    → repeated_at width times (value ++ rest) ≡ Some (replicate times (little_number (value_size width) value), rest)
unfolding repeated_at
repeated_again width times value rest size fits =
    let enough : value_size width ≤ length (value ++ rest) = omega (arith, length-append value rest) in
    let held : ltb (length (value ++ rest)) (value_size width) ≡ false = le-ltb (length (value ++ rest)) (value_size width) enough in
    let narrow : ltb (little_number (value_size width) value) (2 ^ width) ≡ true = lt-ltb (little_number (value_size width) value) (2 ^ width) fits in
    rw (held, take_at value rest (value_size width) size, drop_at value rest (value_size width) size, narrow) refl

packed_run_again : (width : ℕ) (spelled numbers rest : List ℕ) → IsPackedRun width spelled numbers → run_at width (spelled ++ rest) ≡ Some (numbers, rest)
unfolding run_at
packed_run_again width spelled numbers rest is =
    let header = varint_again is.header (is.packed ++ rest) (2 * is.groups + 1) is.begins in
    let odd : (2 * is.groups + 1) % 2 ≡ 1 = omega arith in
    let half : (2 * is.groups + 1) / 2 ≡ is.groups = omega arith in
    ap (run_at width) (ap (λ bs. bs ++ rest) is.whole ∙ append_assoc is.header is.packed rest)
    ∙ rw (header, odd, half) (packed_again width is.groups is.packed rest is.size ∙ ap (λ ns. Some (ns, rest)) (sym is.means))

repeated_run_again : (width : ℕ) (spelled numbers rest : List ℕ) → IsRepeatedRun width spelled numbers → run_at width (spelled ++ rest) ≡ Some (numbers, rest)
unfolding run_at
repeated_run_again width spelled numbers rest is =
    let header = varint_again is.header (is.value ++ rest) (2 * is.times) is.begins in
    let even : (2 * is.times) % 2 ≡ 0 = omega arith in
    let half : (2 * is.times) / 2 ≡ is.times = omega arith in
    ap (run_at width) (ap (λ bs. bs ++ rest) is.whole ∙ append_assoc is.header is.value rest)
    ∙ rw (header, even, half) (repeated_again width is.times is.value rest is.size is.fits ∙ ap (λ ns. Some (ns, rest)) (sym is.means))

pub run_again : (width : ℕ) (spelled numbers rest : List ℕ) → IsRun width spelled numbers → run_at width (spelled ++ rest) ≡ Some (numbers, rest)
run_again width spelled numbers rest (inl is) = packed_run_again width spelled numbers rest is
run_again width spelled numbers rest (inr is) = repeated_run_again width spelled numbers rest is

-- ---- a run has a byte

header_some : (chain : List ℕ) (number : ℕ) → IsVarint chain number → 0 < length chain
header_some [] number is = absurd is.chain
header_some (b ∷ bs) number is = omega arith

run_some : (width : ℕ) (spelled numbers : List ℕ) → IsRun width spelled numbers → 0 < length spelled
run_some width spelled numbers (inl is) =
    let some = header_some is.header (2 * is.groups + 1) is.begins in
    let sizes : length spelled ≡ length is.header + length is.packed = ap length is.whole ∙ length-append is.header is.packed in
    omega arith
run_some width spelled numbers (inr is) =
    let some = header_some is.header (2 * is.times) is.begins in
    let sizes : length spelled ≡ length is.header + length is.value = ap length is.whole ∙ length-append is.header is.value in
    omega arith

pub run_shorter : (width : ℕ) (bytes : List ℕ) (found : List ℕ × List ℕ) → run_at width bytes ≡ Some found → length found.1 < length bytes
run_shorter width bytes found is =
    let read = run_found width bytes found is in
    let some = run_some width read.spelled found.0 read.is in
    let sizes : length bytes ≡ length read.spelled + length found.1 = ap length read.whole ∙ length-append read.spelled found.1 in
    omega arith
