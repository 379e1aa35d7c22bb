-- Runs as the reader's function has them, and as they are spelled.
use Rattle.std.proofs.Common.{◌≡◌, ℕ, zero, suc, ◌+◌, ◌-◌, ◌<◌, ◌≤◌, List, [], ◌∷◌, ◌++◌, length, take, Some, None, Bool, true, false, cond, eqb, refl, sym, ap, ◌∙◌, subst, append_assoc, length-append, arith}
use Rattle.std.specs.List.{AllByRecursion}
use Rattle.std.proofs.lemmas.Bool.{eqb-true, eqb-false}
use Rattle.dm_types.specs.Then.{◌>>=◌}
use Rattle.level_runs.specs.Reading.{Front, run_at, with_numbers, runs_at}
use Rattle.level_runs.specs.Runs.{IsRun, RunPairs, bytes_of, numbers_of, MeansRuns}
use Rattle.level_runs.proofs.Joining.{run_found, run_again}
use Rattle.level_runs.proofs.Turns.{runs_none, runs_next}

take-append : (n : ℕ) (xs ys : List ℕ) → take n (xs ++ ys) ≡ take n xs ++ take (n - length xs) ys
take-append zero [] ys = refl
take-append zero (x ∷ xs) ys =
    let none : 0 - suc (length xs) ≡ 0 = omega arith in
    rw none refl
take-append (suc n) [] ys =
    let all : suc n - 0 ≡ suc n = omega arith in
    rw all refl
take-append (suc n) (x ∷ xs) ys =
    let less : suc n - suc (length xs) ≡ n - length xs = omega arith in
    rw less (ap (λ zs. x ∷ zs) (take-append n xs ys))

-- ---- no runs, and a run before others

pub means_none : (width count : ℕ) → count ≡ 0 → MeansRuns width count [] []
means_none width count none = record {
  runs = [];
  each = tt;
  joined = refl;
  enough = omega arith;
  needed = λ k below. absurd (omega arith);
  first = rw none refl;
}

more_needed : (count k : ℕ) (spelled numbers : List ℕ) (runs : RunPairs) → 0 < count → ((j : ℕ) → j < length runs → length (numbers_of (take j runs)) < count - length numbers) → k < suc (length runs)
    → length (numbers_of (take k ((spelled, numbers) ∷ runs))) < count
more_needed count zero spelled numbers runs some needed below = some
more_needed count (suc k) spelled numbers runs some needed below =
    let rest = needed k (omega arith) in
    omega (arith, length-append numbers (numbers_of (take k runs)))

pub means_more : (width count : ℕ) (spelled numbers tail more : List ℕ) → 0 < count → IsRun width spelled numbers → MeansRuns width (count - length numbers) tail more
    → MeansRuns width count (spelled ++ tail) (take count numbers ++ more)
means_more width count spelled numbers tail more some is means = record {
  runs = (spelled, numbers) ∷ means.runs;
  each = (is, means.each);
  joined = ap (λ bs. spelled ++ bs) means.joined;
  enough = omega (arith, length-append numbers (numbers_of means.runs), means.enough);
  needed = λ k below. more_needed count k spelled numbers means.runs some means.needed below;
  first = ap (λ ns. take count numbers ++ ns) means.first ∙ sym (take-append count numbers (numbers_of means.runs));
}

-- ---- what is found is spelled so

-- runs at the front of bytes
pub record RunsFound (width count : ℕ) (bytes numbers rest : List ℕ) : Type 0 where
  pub spelled : List ℕ
  pub means : MeansRuns width count spelled numbers
  pub whole : bytes ≡ spelled ++ rest

module _ (width count : ℕ) (bytes : List ℕ) (found : List ℕ × List ℕ) (some : 0 < count) (run : List ℕ × List ℕ) (read : run_at width bytes ≡ Some run) where
  found_behind : (known : Front (List ℕ)) → with_numbers (take count run.0) known ≡ Some found
      → ((behind : List ℕ × List ℕ) → known ≡ Some behind → RunsFound width (count - length run.0) run.1 behind.0 behind.1) → RunsFound width count bytes found.0 found.1
  found_behind None is later = absurd cc
  found_behind (Some behind) is later =
      let first = run_found width bytes run read in
      let others = later behind refl in
      let same : ◌≡◌ {A = List ℕ × List ℕ} (take count run.0 ++ behind.0, behind.1) found = cc in
      subst (λ (f : List ℕ × List ℕ). RunsFound width count bytes f.0 f.1) same (record {
        spelled = first.spelled ++ others.spelled;
        means = means_more width count first.spelled run.0 others.spelled behind.0 some first.is others.means;
        whole = first.whole ∙ ap (λ bs. first.spelled ++ bs) others.whole ∙ sym (append_assoc first.spelled others.spelled behind.1);
      })

found_run : (most width count : ℕ) (bytes : List ℕ) (found : List ℕ × List ℕ) → 0 < count → (known : Front (List ℕ)) → run_at width bytes ≡ known
    → (known >>= λ run. with_numbers (take count run.0) (runs_at most width (count - length run.0) run.1)) ≡ Some found
    → ((run behind : List ℕ × List ℕ) → runs_at most width (count - length run.0) run.1 ≡ Some behind → RunsFound width (count - length run.0) run.1 behind.0 behind.1) → RunsFound width count bytes found.0 found.1
found_run most width count bytes found some None read is later = absurd cc
found_run most width count bytes found some (Some run) read is later =
    found_behind width count bytes found some run read (runs_at most width (count - length run.0) run.1) is (λ behind known. later run behind known)

found_nothing : (width count : ℕ) (bytes : List ℕ) (found : List ℕ × List ℕ) → count ≡ 0 → ◌≡◌ {A = Front (List ℕ)} (Some ([], bytes)) (Some found) → RunsFound width count bytes found.0 found.1
found_nothing width count bytes found none is =
    let same : ◌≡◌ {A = List ℕ × List ℕ} ([], bytes) found = cc in
    subst (λ (f : List ℕ × List ℕ). RunsFound width count bytes f.0 f.1) same (record { spelled = []; means = means_none width count none; whole = refl })

found_by : (most width count : ℕ) (bytes : List ℕ) (found : List ℕ × List ℕ) (none : Bool) → eqb count 0 ≡ none
    → ◌≡◌ {A = Front (List ℕ)} (cond none (Some ([], bytes)) (run_at width bytes >>= λ run. with_numbers (take count run.0) (runs_at most width (count - length run.0) run.1))) (Some found)
    → ((run behind : List ℕ × List ℕ) → runs_at most width (count - length run.0) run.1 ≡ Some behind → RunsFound width (count - length run.0) run.1 behind.0 behind.1) → RunsFound width count bytes found.0 found.1
found_by most width count bytes found true none is later = found_nothing width count bytes found (eqb-true count 0 none) is
found_by most width count bytes found false none is later =
    let missing = eqb-false count 0 none in
    found_run most width count bytes found (omega arith) (run_at width bytes) refl is later

nothing_by : (width count : ℕ) (bytes : List ℕ) (found : List ℕ × List ℕ) (none : Bool) → eqb count 0 ≡ none → ◌≡◌ {A = Front (List ℕ)} (cond none (Some ([], bytes)) None) (Some found)
    → RunsFound width count bytes found.0 found.1
nothing_by width count bytes found true none is = found_nothing width count bytes found (eqb-true count 0 none) is
nothing_by width count bytes found false none is = absurd cc

pub runs_found : (most width count : ℕ) (bytes : List ℕ) (found : List ℕ × List ℕ) → runs_at most width count bytes ≡ Some found → RunsFound width count bytes found.0 found.1
unfolding runs_at
runs_found zero width count bytes found is = nothing_by width count bytes found (eqb count 0) refl is
runs_found (suc most) width count bytes found is =
    found_by most width count bytes found (eqb count 0) refl is (λ run behind known. runs_found most width (count - length run.0) run.1 behind known)

-- ---- what is spelled so is found

again_by : (runs : RunPairs) (most width count : ℕ) (rest : List ℕ) → AllByRecursion (λ (run : List ℕ × List ℕ). IsRun width run.0 run.1) runs → count ≤ length (numbers_of runs)
    → ((k : ℕ) → k < length runs → length (numbers_of (take k runs)) < count) → length (bytes_of runs ++ rest) ≤ most
    → runs_at most width count (bytes_of runs ++ rest) ≡ Some (take count (numbers_of runs), rest)
again_by [] most width count rest each enough needed held =
    let none : count ≡ 0 = omega arith in
    rw none (runs_none most width rest)
again_by (run ∷ runs) most width count rest each enough needed held =
    let some : 0 < count = needed 0 (omega arith) in
    let whole : (run.0 ++ bytes_of runs) ++ rest ≡ run.0 ++ (bytes_of runs ++ rest) = append_assoc run.0 (bytes_of runs) rest in
    let sizes : length ((run.0 ++ bytes_of runs) ++ rest) ≡ length run.0 + length (bytes_of runs ++ rest) = ap length whole ∙ length-append run.0 (bytes_of runs ++ rest) in
    let numbers = length-append run.1 (numbers_of runs) in
    let first : run_at width (run.0 ++ (bytes_of runs ++ rest)) ≡ Some (run.1, bytes_of runs ++ rest) = run_again width run.0 run.1 (bytes_of runs ++ rest) each.0 in
    let later : (k : ℕ) → k < length runs → length (numbers_of (take k runs)) < count - length run.1 =
    λ k below. let one = needed (suc k) (omega arith) in omega (arith, length-append run.1 (numbers_of (take k runs))) in
    let others = again_by runs most width (count - length run.1) rest each.1 (omega arith) later (omega arith) in
    ap (runs_at most width count) whole
    ∙ runs_next most width count (run.0 ++ (bytes_of runs ++ rest)) (omega (arith, ap length whole)) some
    ∙ rw (first, others) (ap (λ ns. Some (ns, rest)) (sym (take-append count run.1 (numbers_of runs))))

pub runs_again : (most width count : ℕ) (spelled numbers rest : List ℕ) → MeansRuns width count spelled numbers → length (spelled ++ rest) ≤ most
    → runs_at most width count (spelled ++ rest) ≡ Some (numbers, rest)
runs_again most width count spelled numbers rest means held =
    let whole : spelled ++ rest ≡ bytes_of means.runs ++ rest = ap (λ bs. bs ++ rest) means.joined in
    ap (runs_at most width count) whole ∙ again_by means.runs most width count rest means.each means.enough means.needed (omega (arith, ap length whole)) ∙ ap (λ ns. Some (ns, rest)) (sym means.first)
