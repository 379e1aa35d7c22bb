-- What is read of bytes, with the bytes that are used.
use Rattle.std.proofs.Common.{◌≡◌, ◌↔◌, ℕ, zero, suc, ◌+◌, ◌-◌, ◌*◌, ◌/◌, ◌^◌, ◌<◌, ◌≤◌, List, [], ◌∷◌, ◌++◌, length, take, drop, Option, Some, None, Bool, true, false, cond, ltb, inl, inr, refl, sym, ap, ◌∙◌, subst, length-append, arith}
use Rattle.std.specs.List.{AllByRecursion, All, range_with_len}
use Rattle.std.proofs.lemmas.Bool.{ltb-false}
use Rattle.std.proofs.lemmas.List.{append_cancel_right, take_at, take-append-drop, length-take-le}
use Rattle.std.proofs.lemmas.List.Elements.{All-append, All-take, All-map, All-replicate, All-nil}
use Rattle.std.proofs.lemmas.Nat.{pow_pos}
use Rattle.std.proofs.Math.Nat.{pow-suc}
use Rattle.level_runs.specs.Bits.{bits, bits_number, byte_bits, packed_number}
use Rattle.level_runs.specs.Reading.{Front, with_used, runs_at, runs_of}
use Rattle.level_runs.specs.Runs.{IsRun, RunPairs, numbers_of, MeansRuns}
use Rattle.level_runs.proofs.Spelling.{runs_found, runs_again}
use Rattle.level_runs.proofs.Turns.{runs_given}

-- ---- what is read is what a front means

record Opened (width count : ℕ) (bytes numbers : List ℕ) (used : ℕ) : Type 0 where
  narrow : width ≤ 32
  rest : List ℕ
  read : runs_at (length bytes) width count bytes ≡ Some (numbers, rest)
  size : used ≡ length bytes - length rest

opened_by : (width count used : ℕ) (bytes numbers : List ℕ) (known : Front (List ℕ)) → width ≤ 32 → runs_at (length bytes) width count bytes ≡ known → with_used bytes known ≡ Some (numbers, used)
    → Opened width count bytes numbers used
opened_by width count used bytes numbers None narrow read is = absurd cc
opened_by width count used bytes numbers (Some found) narrow read is =
    let same : ◌≡◌ {A = List ℕ × ℕ} (found.0, length bytes - length found.1) (numbers, used) = cc in
    let first : found.0 ≡ numbers = ap (λ (p : List ℕ × ℕ). p.0) same in
    let second : length bytes - length found.1 ≡ used = ap (λ (p : List ℕ × ℕ). p.1) same in
    record { narrow = narrow; rest = found.1; read = read ∙ ap (λ ns. Some (ns, found.1)) first; size = sym second }

opened : (width count used : ℕ) (bytes numbers : List ℕ) (wide : Bool) → ltb 32 width ≡ wide
    → ◌≡◌ {A = Option (List ℕ × ℕ)} (cond wide None (with_used bytes (runs_at (length bytes) width count bytes))) (Some (numbers, used)) → Opened width count bytes numbers used
opened width count used bytes numbers true wide is = absurd cc
opened width count used bytes numbers false wide is = opened_by width count used bytes numbers (runs_at (length bytes) width count bytes) (ltb-false 32 width wide) refl is

-- what was read of bytes
pub record ReadOf (width count : ℕ) (bytes numbers : List ℕ) (used : ℕ) : Type 0 where
  pub narrow : width ≤ 32
  pub within : used ≤ length bytes
  pub means : MeansRuns width count (take used bytes) numbers

pub read_of : (width count used : ℕ) (bytes numbers : List ℕ) → runs_of width count bytes ≡ Some (numbers, used) → ReadOf width count bytes numbers used
unfolding runs_of
read_of width count used bytes numbers is =
    let open' = opened width count used bytes numbers (ltb 32 width) refl is in
    let found = runs_found (length bytes) width count bytes (numbers, open'.rest) open'.read in
    let sizes : length bytes ≡ length found.spelled + length open'.rest = ap length found.whole ∙ length-append found.spelled open'.rest in
    let size : length found.spelled ≡ used = omega (arith, open'.size) in
    let front : take used bytes ≡ found.spelled = ap (take used) found.whole ∙ take_at found.spelled open'.rest used size in
    record { narrow = open'.narrow; within = omega (arith, open'.size); means = subst (λ bs. MeansRuns width count bs numbers) (sym front) found.means }

-- ---- what bytes mean is read of them

pub read_again : (width count : ℕ) (bytes numbers rest : List ℕ) → width ≤ 32 → MeansRuns width count bytes numbers → runs_of width count (bytes ++ rest) ≡ Some (numbers, length bytes)
read_again width count bytes numbers rest narrow means =
    let size : length (bytes ++ rest) - length rest ≡ length bytes = omega (arith, length-append bytes rest) in
    runs_given width count (bytes ++ rest) numbers rest narrow (runs_again (length (bytes ++ rest)) width count bytes numbers rest means (omega arith)) ∙ ap (λ n. Some (numbers, n)) size

pub meaning_once : (width count : ℕ) (front other numbers others rest more : List ℕ) → MeansRuns width count front numbers → MeansRuns width count other others → front ++ rest ≡ other ++ more
    → (front ≡ other) × (numbers ≡ others)
meaning_once width count front other numbers others rest more is too same =
    let one = runs_again (length (front ++ rest)) width count front numbers rest is (omega arith) in
    let two = runs_again (length (front ++ rest)) width count other others more too (omega (arith, ap length same)) in
    let pairs : ◌≡◌ {A = Front (List ℕ)} (Some (numbers, rest)) (Some (others, more)) = sym one ∙ ap (runs_at (length (front ++ rest)) width count) same ∙ two in
    let pair : ◌≡◌ {A = List ℕ × List ℕ} (numbers, rest) (others, more) = cc in
    let behind : rest ≡ more = ap (λ (p : List ℕ × List ℕ). p.1) pair in
    (append_cancel_right front other more (ap (λ bs. front ++ bs) (sym behind) ∙ same), ap (λ (p : List ℕ × List ℕ). p.0) pair)

-- ---- where nothing is read

refused_by : (width count : ℕ) (bytes : List ℕ) (known : Option (List ℕ × ℕ)) → runs_of width count bytes ≡ known → (width ≤ 32 → (used : ℕ) (numbers : List ℕ) → MeansRuns width count (take used bytes) numbers → ⊥)
    → runs_of width count bytes ≡ None
refused_by width count bytes None read none = read
refused_by width count bytes (Some found) read none =
    let is = read_of width count found.1 bytes found.0 read in
    absurd (none is.narrow found.1 found.0 is.means)

pub refused : (width count : ℕ) (bytes : List ℕ) → (runs_of width count bytes ≡ None) ↔ (width ≤ 32 → (used : ℕ) (numbers : List ℕ) → MeansRuns width count (take used bytes) numbers → ⊥)
refused width count bytes = (
  λ (none : runs_of width count bytes ≡ None). λ (narrow : width ≤ 32) (used : ℕ) (numbers : List ℕ) (means : MeansRuns width count (take used bytes) numbers).
      let read = read_again width count (take used bytes) numbers (drop used bytes) narrow means in
      let whole : take used bytes ++ drop used bytes ≡ bytes = take-append-drop used bytes in
      let both : ◌≡◌ {A = Option (List ℕ × ℕ)} (Some (numbers, length (take used bytes))) None = sym read ∙ ap (runs_of width count) whole ∙ none in
      cc,
  λ none. refused_by width count bytes (runs_of width count bytes) refl none,
)

-- ---- how many there are, and how large

abbrev AreBits : List ℕ → Type 0
AreBits bs = AllByRecursion (λ b. b < 2) bs

append_bits : (a b : List ℕ) → AreBits a → AreBits b → AreBits (a ++ b)
append_bits [] b are too = too
append_bits (x ∷ a) b are too = (are.0, append_bits a b are.1 too)

bits_are : (width n : ℕ) → AreBits (bits width n)
unfolding bits
bits_are zero n = tt
bits_are (suc width) n = (omega arith, bits_are width (n / 2))

byte_bits_are : (bytes : List ℕ) → AreBits (byte_bits bytes)
unfolding byte_bits
byte_bits_are [] = tt
byte_bits_are (b ∷ bs) = append_bits (bits 8 b) (byte_bits bs) (bits_are 8 b) (byte_bits_are bs)

drop_bits : (n : ℕ) (bs : List ℕ) → AreBits bs → AreBits (drop n bs)
drop_bits zero bs are = are
drop_bits (suc n) [] are = tt
drop_bits (suc n) (b ∷ bs) are = drop_bits n bs are.1

-- a number of so many bits
few_bits : (width : ℕ) (bs : List ℕ) → AreBits bs → bits_number (take width bs) < 2 ^ width
unfolding bits_number
few_bits zero bs are = omega arith
few_bits (suc width) [] are =
    let some = pow_pos (suc width) in
    omega arith
few_bits (suc width) (b ∷ bs) are =
    let power : 2 ^ suc width ≡ 2 ^ width * 2 = pow-suc 2 width in
    let rest = few_bits width bs are.1 in
    let bit : b < 2 = are.0 in
    omega arith

packed_fits : (width : ℕ) (bytes : List ℕ) (k : ℕ) → packed_number width bytes k < 2 ^ width
unfolding packed_number
packed_fits width bytes k = few_bits width (drop (k * width) (byte_bits bytes)) (drop_bits (k * width) (byte_bits bytes) (byte_bits_are bytes))

abbrev AreNarrow : ℕ → List ℕ → Type 0
AreNarrow width numbers = All (λ number. number < 2 ^ width) numbers

run_fits : (width : ℕ) (bytes numbers : List ℕ) → IsRun width bytes numbers → AreNarrow width numbers
run_fits width bytes numbers (inl is) =
    subst (AreNarrow width) (sym is.means) (All-map (λ number. number < 2 ^ width) (packed_number width is.packed) (range_with_len 0 (8 * is.groups)) (λ k d below. packed_fits width is.packed _))
run_fits width bytes numbers (inr is) = subst (AreNarrow width) (sym is.means) (All-replicate (λ number. number < 2 ^ width) is.times _ is.fits)

runs_fit : (width : ℕ) (runs : RunPairs) → AllByRecursion (λ (run : List ℕ × List ℕ). IsRun width run.0 run.1) runs → AreNarrow width (numbers_of runs)
runs_fit width [] each = All-nil (λ number. number < 2 ^ width)
runs_fit width (run ∷ runs) each = All-append (λ number. number < 2 ^ width) run.1 (numbers_of runs) (run_fits width run.0 run.1 each.0) (runs_fit width runs each.1)

pub means_fit : (width count : ℕ) (bytes numbers : List ℕ) → MeansRuns width count bytes numbers → (length numbers ≡ count) × AreNarrow width numbers
means_fit width count bytes numbers means = (
  ap length means.first ∙ length-take-le count (numbers_of means.runs) means.enough,
  subst (AreNarrow width) (sym means.first) (All-take (λ number. number < 2 ^ width) count (numbers_of means.runs) (runs_fit width means.runs means.each)),
)
