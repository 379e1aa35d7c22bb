-- The reader's function run by run.
use Rattle.std.proofs.Common.{◌≡◌, ℕ, zero, suc, ◌+◌, ◌-◌, ◌<◌, ◌≤◌, List, [], ◌++◌, length, take, Option, Some, None, Err, false, cond, eqb, refl, sym, ap, ◌∙◌, append_assoc, length-append, arith}
use Rattle.std.specs.Prelude.{option_map, min}
use Rattle.std.proofs.lemmas.Bool.{ne_eqb, lt-ltb, le-ltb}
use Rattle.std.proofs.lemmas.List.{append-nil, length-take, nil_from_length}
use Rattle.dm_types.specs.Then.{◌>>=◌}
use Rattle.level_runs.specs.Answers.{ReadsRuns}
use Rattle.level_runs.specs.Steps.{joined, TakesRun}
use Rattle.level_runs.specs.Reading.{Front, varint_at, run_at, with_numbers, runs_at, runs_of}
use Rattle.level_runs.specs.declared.fault.RunFault.{RunFault}
use Rattle.level_runs.specs.declared.fault.RunFault.TheVariants as fault
use Rattle.level_runs.proofs.Joining.{run_shorter}

pub bind_same : {A B : Type 0} (o : Option A) (f g : A → Option B) → ((x : A) → o ≡ Some x → f x ≡ g x) → (o >>= f) ≡ (o >>= g)
bind_same None f g same = refl
bind_same (Some x) f g same = same x refl

pub with_numbers-append : (a b : List ℕ) (r : Front (List ℕ)) → with_numbers a (with_numbers b r) ≡ with_numbers (a ++ b) r
with_numbers-append a b None = refl
with_numbers-append a b (Some read) = ap (λ ns. Some (ns, read.1)) (sym (append_assoc a b read.0))

-- nothing stands in no bytes
none_in_nothing : (width : ℕ) → run_at width [] ≡ None
unfolding run_at varint_at
none_in_nothing width = refl

-- as many runs as there are bytes are enough
pub enough_runs : (most other width count : ℕ) (bytes : List ℕ) → length bytes ≤ most → length bytes ≤ other → runs_at most width count bytes ≡ runs_at other width count bytes
unfolding runs_at
enough_runs zero zero width count bytes held too = refl
enough_runs zero (suc other) width count bytes held too =
    let nothing : bytes ≡ [] = nil_from_length bytes (omega arith) in
    rw (nothing, none_in_nothing width) refl
enough_runs (suc most) zero width count bytes held too =
    let nothing : bytes ≡ [] = nil_from_length bytes (omega arith) in
    rw (nothing, none_in_nothing width) refl
enough_runs (suc most) (suc other) width count bytes held too =
    ap (λ o. cond (eqb count 0) (Some ([], bytes)) o) (bind_same (run_at width bytes) _ _ (λ run is.
    let shorter = run_shorter width bytes run is in
    ap (with_numbers (take count run.0)) (enough_runs most other width (count - length run.0) run.1 (omega arith) (omega arith))))

-- no run begins once the numbers are there
pub runs_none : (most width : ℕ) (bytes : List ℕ) → runs_at most width 0 bytes ≡ Some ([], bytes)
unfolding runs_at
runs_none zero width bytes = refl
runs_none (suc most) width bytes = refl

-- where a number is missing, a run begins
pub runs_next : (most width count : ℕ) (bytes : List ℕ) → length bytes ≤ most → 0 < count
    → runs_at most width count bytes ≡ (run_at width bytes >>= λ run. with_numbers (take count run.0) (runs_at most width (count - length run.0) run.1))
unfolding runs_at
runs_next most width count bytes held some =
    let missing : eqb count 0 ≡ false = ne_eqb count 0 (λ none. absurd (omega arith)) in
    enough_runs most (suc most) width count bytes held (omega arith) ∙ rw missing refl

-- ---- a turn of the reader

taken_parts : (old new rest : List ℕ) (room : ℕ) (known : Front (List ℕ)) → option_map (joined old room) known ≡ Some (new, rest)
    → (run : List ℕ × List ℕ) × (known ≡ Some run) × (new ≡ old ++ take room run.0) × (rest ≡ run.1)
taken_parts old new rest room None is = absurd cc
taken_parts old new rest room (Some run) is =
    let same : joined old room run ≡ (new, rest) = cc in
    (run, refl, sym (ap (λ (p : List ℕ × List ℕ). p.0) same), sym (ap (λ (p : List ℕ × List ℕ). p.1) same))

module _ (width count : ℕ) (old new bytes rest : List ℕ) (missing : length old < count) (taken : option_map (joined old (count - length old)) (run_at width bytes) ≡ Some (new, rest)) where
  pub turn_shorter : length rest < length bytes
  turn_shorter =
      let run = taken_parts old new rest (count - length old) (run_at width bytes) taken in
      let shorter = run_shorter width bytes run.0 run.1 in
      omega (arith, ap length run.3)

  pub turn_read : with_numbers old (runs_at (length bytes) width (count - length old) bytes) ≡ with_numbers new (runs_at (length rest) width (count - length new) rest)
  turn_read =
      let run = taken_parts old new rest (count - length old) (run_at width bytes) taken in
      let shorter = run_shorter width bytes run.0 run.1 in
      let next = runs_next (length bytes) width (count - length old) bytes (omega arith) (omega arith) in
      let size : length new ≡ length old + min (count - length old) (length run.0.0) = ap length run.2 ∙ length-append old (take (count - length old) run.0.0) ∙ ap (λ n. length old + n) (length-take (count - length old) run.0.0) in
      let left : count - length old - length run.0.0 ≡ count - length new = omega arith in
      let opened : runs_at (length bytes) width (count - length old) bytes ≡ with_numbers (take (count - length old) run.0.0) (runs_at (length bytes) width (count - length old - length run.0.0) run.0.1) =
      next ∙ ap (λ (known : Front (List ℕ)). known >>= λ found. with_numbers (take (count - length old) found.0) (runs_at (length bytes) width (count - length old - length found.0) found.1)) run.1 in
      ap (with_numbers old) opened
      ∙ with_numbers-append old (take (count - length old) run.0.0) _
      ∙ rw (sym run.2, left, sym run.3) (ap (with_numbers new) (enough_runs (length bytes) (length rest) width (count - length new) rest (omega (arith, ap length run.3)) (omega arith)))

pub turn_broken : (width count : ℕ) (old bytes : List ℕ) → length old < count → run_at width bytes ≡ None → with_numbers old (runs_at (length bytes) width (count - length old) bytes) ≡ None
turn_broken width count old bytes missing broken =
    let nothing : runs_at (length bytes) width (count - length old) bytes ≡ None =
    runs_next (length bytes) width (count - length old) bytes (omega arith) (omega arith) ∙ rw broken refl in
    ap (with_numbers old) nothing

pub all_read : (most width count : ℕ) (numbers rest : List ℕ) → count ≤ length numbers → with_numbers numbers (runs_at most width (count - length numbers) rest) ≡ Some (numbers, rest)
all_read most width count numbers rest enough =
    let none : count - length numbers ≡ 0 = omega arith in
    rw (none, runs_none most width rest) (ap (λ ns. Some (ns, rest)) (append-nil numbers))

with_none : (r : Front (List ℕ)) → r ≡ with_numbers [] r
with_none None = refl
with_none (Some read) = refl

pub none_read : (most width count : ℕ) (bytes : List ℕ) → runs_at most width count bytes ≡ with_numbers [] (runs_at most width (count - 0) bytes)
none_read most width count bytes =
    let all : count - 0 ≡ count = omega arith in
    rw all (with_none (runs_at most width count bytes))

pub too_wide : (width count : ℕ) (bytes : List ℕ) → 32 < width → runs_of width count bytes ≡ None
unfolding runs_of
too_wide width count bytes wide = rw (lt-ltb 32 width wide) refl

pub runs_given : (width count : ℕ) (bytes numbers rest : List ℕ) → width ≤ 32 → runs_at (length bytes) width count bytes ≡ Some (numbers, rest)
    → runs_of width count bytes ≡ Some (numbers, length bytes - length rest)
unfolding runs_of
runs_given width count bytes numbers rest narrow is = rw (le-ltb 32 width narrow, is) refl

pub runs_missing : (width count : ℕ) (bytes : List ℕ) → width ≤ 32 → runs_at (length bytes) width count bytes ≡ None → runs_of width count bytes ≡ None
unfolding runs_of
runs_missing width count bytes narrow is = rw (le-ltb 32 width narrow, is) refl

pub fault_handed : (fault : RunFault) (width count wide room : ℕ) (bytes old now : List ℕ) {Rest : Type 0} (rest : Rest → List ℕ) (new : List ℕ) → width ≤ 32 → length old < count → wide ≡ width → room ≡ count - length old
    → runs_at (length bytes) width count bytes ≡ with_numbers old (runs_at (length now) width (count - length old) now) → TakesRun rest (run_at wide now) room old new (Err fault) → ReadsRuns (runs_of width count bytes) (Err fault)
fault_handed fault.BadRuns width count wide room bytes old now rest new narrow missing same all left broken =
    runs_missing width count bytes narrow (left ∙ turn_broken width count old now missing (ap (λ w. run_at w now) (sym same) ∙ broken))
fault_handed fault.Memory width count wide room bytes old now rest new narrow missing same all left broken = tt
