-- How numbers are cut into runs that are written.
use Rattle.std.proofs.Common.{◌≡◌, ℕ, zero, suc, ◌+◌, ◌-◌, ◌*◌, ◌^◌, ◌<◌, ◌≤◌, List, [], ◌∷◌, ◌++◌, length, take, drop, replicate, inl, inr, ⊎_elim, refl, sym, ap, ◌∙◌, subst, append_assoc, length-append, arith}
use Rattle.std.specs.Prelude.{slice_index, min}
use Rattle.std.specs.List.{All}
use Rattle.std.proofs.Math.Nat.{pow-suc, mul-le-mul_right}
use Rattle.std.proofs.lemmas.Nat.{pow-add}
use Rattle.std.proofs.lemmas.Bool.{cases_lt}
use Rattle.std.proofs.lemmas.List.{append-nil, take_all, drop_at, drop_all, take-append-drop, length-drop, length-take-le, get_or-take, get_or-append-add, length-replicate}
use Rattle.std.proofs.lemmas.List.FromFn.{length-map-range_with_len, take-map-range_with_len, fill_by_all}
use Rattle.std.proofs.lemmas.List.Elements.{All-drop}
use Rattle.std.specs.Int.{byte_at}
use Rattle.byteorder.specs.Endian.{little_from, little_number, little_bytes}
use Rattle.byteorder.specs.Numbers.{little_from-take, little_number-reads_back}
use Rattle.level_runs.specs.Answers.{AppendsRuns}
use Rattle.level_runs.specs.Steps.{AppendsChain, AppendsPacked, AppendsRun, WritesRun, filled_up}
use Rattle.level_runs.specs.Bits.{packed_numbers}
use Rattle.level_runs.specs.Runs.{value_size, MeansRuns}
use Rattle.level_runs.proofs.Filling.{chain_varint, pow_bound}
use Rattle.level_runs.proofs.Spelling.{means_none, means_more}

-- ---- one run

pub packed_written : (width groups : ℕ) (numbers old now new : List ℕ) → 2 * groups + 1 < 2 ^ 64 → AppendsChain old now (2 * groups + 1) → AppendsPacked width (filled_up numbers groups) now new
    → AppendsRun width (groups * width + 10) (filled_up numbers groups) old new
packed_written width groups numbers old now new small header packed =
    let count : length (filled_up numbers groups) ≡ 8 * groups = length-map-range_with_len (slice_index numbers) 0 (8 * groups) in
    let product : length (filled_up numbers groups) * width ≡ 8 * (groups * width) = ap (λ n. n * width) count ∙ omega arith in
    let size : length packed.written ≡ groups * width = omega (arith, packed.size) in
    let varint = chain_varint old now (2 * groups + 1) small header in
    record {
      written = header.chain ++ packed.written;
      is = inl (record {
        header = header.chain;
        packed = packed.written;
        groups = groups;
        begins = varint;
        size = size;
        whole = refl;
        means = sym packed.means ∙ ap (packed_numbers width packed.written) count;
      });
      size = omega (arith, length-append header.chain packed.written, varint.size);
      joined = packed.joined ∙ ap (λ bs. bs ++ packed.written) header.joined ∙ append_assoc old header.chain packed.written;
    }

bytes_power : (n : ℕ) → 2 ^ (8 * n) ≡ 256 ^ n
bytes_power zero = refl
bytes_power (suc n) =
    let more : 8 * suc n ≡ 8 * n + 8 = omega arith in
    ap (λ k. 2 ^ k) more ∙ pow-add 2 (8 * n) 8 ∙ ap (λ k. k * 256) (bytes_power n) ∙ sym (pow-suc 256 n)

pub value_fits : (width number : ℕ) → number < 2 ^ width → number < 256 ^ value_size width
value_fits width number narrow =
    let room : width ≤ 8 * value_size width = omega arith in
    let power : 2 ^ (8 * value_size width) ≡ 256 ^ value_size width = bytes_power (value_size width) in
    let below = pow_bound number width (8 * value_size width) narrow room in
    omega arith

pub repeated_written : (width times number : ℕ) (old now new value : List ℕ) → 2 * times < 2 ^ 64 → number < 2 ^ width → AppendsChain old now (2 * times) → length value ≡ value_size width → little_number (value_size width) value ≡ number
    → new ≡ now ++ value → AppendsRun width (value_size width + 10) (replicate times number) old new
repeated_written width times number old now new value small narrow header size back joined =
    let varint = chain_varint old now (2 * times) small header in
    record {
      written = header.chain ++ value;
      is = inr (record {
        header = header.chain;
        value = value;
        times = times;
        begins = varint;
        size = size;
        fits = subst (λ n. n < 2 ^ width) (sym back) narrow;
        whole = refl;
        means = ap (replicate times) (sym back);
      });
      size = omega (arith, length-append header.chain value, varint.size);
      joined = joined ∙ ap (λ bs. bs ++ value) header.joined ∙ append_assoc old header.chain value;
    }

-- zeros count nothing
zeros_count : (at n : ℕ) (xs : List ℕ) → ((k : ℕ) → slice_index xs (at + k) ≡ 0) → little_from at n xs ≡ 0
zeros_count at zero xs zeros = refl
zeros_count at (suc n) xs zeros =
    let first : slice_index xs at ≡ 0 = let at_first : at + 0 ≡ at = omega arith in ap (slice_index xs) (sym at_first) ∙ zeros 0 in
    let others = zeros_count (suc at) n xs (λ k. let next : suc at + k ≡ at + suc k = omega arith in ap (slice_index xs) next ∙ zeros (suc k)) in
    rw (first, others) refl

-- four bytes of a number and zeros behind them, read in so many bytes as it fits
wide_back : (size number : ℕ) (zeros : List ℕ) → ((k : ℕ) → slice_index zeros k ≡ 0) → number < 256 ^ 4 → number < 256 ^ size → little_number size (little_bytes 4 number ++ zeros) ≡ number
wide_back zero number zeros none small fits = omega arith
wide_back (suc zero) number zeros none small fits = little_number-reads_back 1 number (byte_at 1 number ∷ byte_at 2 number ∷ byte_at 3 number ∷ zeros) fits
wide_back (suc (suc zero)) number zeros none small fits = little_number-reads_back 2 number (byte_at 2 number ∷ byte_at 3 number ∷ zeros) fits
wide_back (suc (suc (suc zero))) number zeros none small fits = little_number-reads_back 3 number (byte_at 3 number ∷ zeros) fits
wide_back (suc (suc (suc (suc size)))) number zeros none small fits =
    let behind : little_from 4 size (little_bytes 4 number ++ zeros) ≡ 0 = zeros_count 4 size (little_bytes 4 number ++ zeros) (λ k. get_or-append-add (little_bytes 4 number) zeros k 0 ∙ none k) in
    ap (λ n. byte_at 0 number + 256 * (byte_at 1 number + 256 * (byte_at 2 number + 256 * (byte_at 3 number + 256 * n)))) behind ∙ little_number-reads_back 4 number zeros small

all_zeros : (n k : ℕ) → slice_index (replicate n 0) k ≡ 0
all_zeros zero k = refl
all_zeros (suc n) zero = refl
all_zeros (suc n) (suc k) = all_zeros n k

-- the front of a buffer that held zeros, once a number of four bytes is written into it
pub value_written : (size number : ℕ) (buf : List ℕ) → number < 2 ^ 32 → number < 256 ^ size → buf ≡ little_bytes 4 number ++ replicate 28 0 → little_number size (take size buf) ≡ number
value_written size number buf small fits is =
    little_from-take 0 size size buf (omega arith) ∙ ap (little_number size) is ∙ wide_back size number (replicate 28 0) (all_zeros 28) (omega arith) fits

-- ---- the numbers that a run takes

filled_short : (numbers : List ℕ) (groups : ℕ) → length numbers ≤ 8 * groups → take (length numbers) (filled_up numbers groups) ≡ numbers
filled_short numbers groups short =
    take-map-range_with_len (slice_index numbers) 0 (8 * groups) (length numbers) short ∙ sym (fill_by_all (slice_index numbers) numbers (length numbers) 0 refl (λ k below. refl))

filled_long : (numbers : List ℕ) (groups : ℕ) → 8 * groups ≤ length numbers → filled_up numbers groups ≡ take (8 * groups) numbers
filled_long numbers groups long =
    sym (fill_by_all (slice_index numbers) (take (8 * groups) numbers) (8 * groups) 0 (length-take-le (8 * groups) numbers long) (λ k below. get_or-take (8 * groups) numbers k 0 below))

packed_first : (numbers : List ℕ) (groups taken : ℕ) → taken ≡ min (length numbers) (8 * groups) → numbers ≡ take (length numbers) (filled_up numbers groups) ++ drop taken numbers
packed_first numbers groups taken is =
    let count : length (filled_up numbers groups) ≡ 8 * groups = length-map-range_with_len (slice_index numbers) 0 (8 * groups) in
    ⊎_elim
    (λ (long : 8 * groups < length numbers).
    let all : taken ≡ 8 * groups = omega arith in
    let front : take (length numbers) (filled_up numbers groups) ≡ take taken numbers =
    take_all (length numbers) (filled_up numbers groups) (omega arith) ∙ filled_long numbers groups (omega arith) ∙ ap (λ n. take n numbers) (sym all) in
    sym (ap (λ ns. ns ++ drop taken numbers) front ∙ take-append-drop taken numbers))
    (λ (short : length numbers ≤ 8 * groups).
    let all : taken ≡ length numbers = omega arith in
    let nothing : drop taken numbers ≡ [] = drop_all taken numbers (omega arith) in
    sym (ap (λ ns. take (length numbers) (filled_up numbers groups) ++ ns) nothing ∙ append-nil (take (length numbers) (filled_up numbers groups)) ∙ filled_short numbers groups short))
    (cases_lt (8 * groups) (length numbers))

-- the bytes of packed groups, for each number that they take
packed_size : (width groups taken size total left : ℕ) → 0 < groups → 8 * groups < total + 8 → taken ≡ min total (8 * groups) → left ≡ total - taken → 0 < total → size ≤ groups * width + 10
    → size + (width + 10) * left ≤ (width + 10) * total
packed_size width groups taken size total left some within is rest any most =
    let enough : groups ≤ taken = omega arith in
    let each : groups * width ≤ taken * width = mul-le-mul_right width enough in
    let parts : (width + 10) * total ≡ (width + 10) * taken + (width + 10) * left = let sum : total ≡ taken + left = omega arith in ap (λ n. (width + 10) * n) sum ∙ omega arith in
    let product : (width + 10) * taken ≡ taken * width + 10 * taken = omega arith in
    omega arith

pub packed_taken : (width groups taken : ℕ) (numbers rest old new : List ℕ) → 0 < groups → 8 * groups < length numbers + 8 → 0 < length numbers → taken ≡ min (length numbers) (8 * groups) → rest ≡ drop taken numbers
    → AppendsRun width (groups * width + 10) (filled_up numbers groups) old new → WritesRun width numbers rest old new
packed_taken width groups taken numbers rest old new some within any is left run =
    let count : length (filled_up numbers groups) ≡ 8 * groups = length-map-range_with_len (slice_index numbers) 0 (8 * groups) in
    let size : length rest ≡ length numbers - taken = ap length left ∙ length-drop taken numbers in
    record {
      run = filled_up numbers groups;
      written = run.written;
      is = run.is;
      joined = run.joined;
      first = packed_first numbers groups taken is ∙ ap (λ ns. take (length numbers) (filled_up numbers groups) ++ ns) (sym left);
      left = omega arith;
      shorter = omega arith;
      size = packed_size width groups taken (length run.written) (length numbers) (length rest) some within is size any run.size;
    }

-- the bytes of a repeated number, for each number that it takes
repeated_size : (width times size total left : ℕ) → 0 < times → total ≡ times + left → size ≤ value_size width + 10 → size + (width + 10) * left ≤ (width + 10) * total
repeated_size width times size total left some sum most =
    let parts : (width + 10) * total ≡ (width + 10) * times + (width + 10) * left = ap (λ n. (width + 10) * n) sum ∙ omega arith in
    let one : 1 * (width + 10) ≤ times * (width + 10) = mul-le-mul_right (width + 10) (omega arith) in
    let turned : (width + 10) * times ≡ times * (width + 10) = omega arith in
    let narrow : value_size width ≤ width = omega arith in
    omega arith

pub repeated_taken : (width times : ℕ) (numbers rest old new : List ℕ) → 0 < times → times ≤ length numbers → take times numbers ≡ replicate times (slice_index numbers 0) → rest ≡ drop times numbers
    → AppendsRun width (value_size width + 10) (replicate times (slice_index numbers 0)) old new → WritesRun width numbers rest old new
repeated_taken width times numbers rest old new some within equal is run =
    let count : length (replicate times (slice_index numbers 0)) ≡ times = length-replicate times (slice_index numbers 0) in
    let size : length rest ≡ length numbers - times = ap length is ∙ length-drop times numbers in
    record {
      run = replicate times (slice_index numbers 0);
      written = run.written;
      is = run.is;
      joined = run.joined;
      first = sym (ap (λ ns. ns ++ rest) (take_all (length numbers) (replicate times (slice_index numbers 0)) (omega arith) ∙ sym equal) ∙ ap (λ ns. take times numbers ++ ns) is ∙ take-append-drop times numbers);
      left = omega arith;
      shorter = omega arith;
      size = repeated_size width times (length run.written) (length numbers) (length rest) some (omega arith) run.size;
    }

-- ---- all numbers

-- what completes the numbers that are left completes all of them
pub record Completes (width : ℕ) (numbers rest written : List ℕ) : Type 0 where
  pub means : (tail : List ℕ) → MeansRuns width (length rest) tail rest → MeansRuns width (length numbers) (written ++ tail) numbers
  pub size : length written + (width + 10) * length rest ≤ (width + 10) * length numbers

pub completes_none : (width : ℕ) (numbers : List ℕ) → Completes width numbers numbers []
completes_none width numbers = record { means = λ tail means. means; size = omega arith }

pub completes_more : (width : ℕ) (numbers now rest written new : List ℕ) → Completes width numbers now written → 0 < length now → WritesRun width now rest written new → Completes width numbers rest new
completes_more width numbers now rest written new before some run = record {
  means = λ tail means.
      let after : MeansRuns width (length now - length run.run) tail rest = subst (λ n. MeansRuns width n tail rest) run.left means in
      let more = means_more width (length now) run.written run.run tail rest some run.is after in
      let whole = before.means (run.written ++ tail) (subst (λ ns. MeansRuns width (length now) (run.written ++ tail) ns) (sym run.first) more) in
      subst (λ bs. MeansRuns width (length numbers) bs numbers) (sym (append_assoc written run.written tail) ∙ ap (λ bs. bs ++ tail) (sym run.joined)) whole;
  size = let sizes = ap length run.joined ∙ length-append written run.written in omega (arith, sizes, run.size, before.size);
}

pub all_written : (width : ℕ) (numbers rest written old new : List ℕ) → Completes width numbers rest written → rest ≡ [] → new ≡ old ++ written → AppendsRuns width numbers old new
all_written width numbers rest written old new completes nothing joined = record {
  written = written;
  joined = joined;
  means =
      let none : MeansRuns width (length rest) [] rest = subst (λ ns. MeansRuns width (length ns) [] ns) (sym nothing) (means_none width 0 refl) in
      subst (λ bs. MeansRuns width (length numbers) bs numbers) (append-nil written) (completes.means [] none);
  size = omega (arith, completes.size);
}

pub rest_fits : (width : ℕ) (numbers rest old new : List ℕ) → WritesRun width numbers rest old new → All (λ number. number < 2 ^ width) numbers → All (λ number. number < 2 ^ width) rest
rest_fits width numbers rest old new run fit =
    let front = take (length numbers) run.run in
    let behind : drop (length front) numbers ≡ rest = ap (drop (length front)) run.first ∙ drop_at front rest (length front) refl in
    subst (λ ns. All (λ number. number < 2 ^ width) ns) behind (All-drop (λ number. number < 2 ^ width) (length front) numbers fit)
