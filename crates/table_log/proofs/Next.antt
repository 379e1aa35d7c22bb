-- One more commit file behind those of a log.
use Rattle.std.proofs.Common.{◌≡◌, ◌≢◌, ◌⊎◌, ℕ, zero, suc, ◌+◌, ◌<◌, ◌≤◌, max, List, [], ◌∷◌, ◌++◌, Option, Some, None, Result, Ok, Err, inl, inr, refl, ap, sym, ◌∙◌, subst, Bool, true, false, ◌||◌, ◌==◌, cond, nat_lt, arith, add-one}
use Rattle.std.specs.Map as entries
use Rattle.std.proofs.lemmas.List.{map-append}
use Rattle.std.proofs.lemmas.Bool.Decides.{nat_tests}
use Rattle.dm_types.specs.declared.refusal.TableRefusal.{TableRefusal}
use Rattle.dm_types.specs.Then.{go}
use Rattle.delta_actions.specs.Meaning.{commit_of}
use Rattle.log_replay.specs.Numbers.{is_in, greatest, count_of, first_missing, unless_gap, gapless, newest_of}
use Rattle.log_replay.specs.Live.{numbered}
use Rattle.log_replay.specs.declared.commits.Commit.{Commit}
use Rattle.log_replay.specs.declared.numbers.NumberFault.{NumberFault}
use Rattle.log_replay.specs.declared.numbers.NumberFault.TheVariants as fault
use Rattle.log_replay.specs.declared.numbers.TheConstants.{MAX_COMMITS}
use Rattle.log_replay.proofs.Counting.{count_within, greatest-in}
use Rattle.table_log.specs.Log.{Log, bytes_of}
use Rattle.table_log.specs.Versions.{of_numbers, newest_version, commits_below, commits_at, chosen, good_lines}

-- numbers

not_below : (a b : ℕ) → b ≤ a → nat_lt a b ≡ false
not_below a b le = grind (arith, nat_tests)

greatest-push : (ns : List ℕ) (k : ℕ) → greatest (ns ++ k ∷ []) ≡ max (greatest ns) k
unfolding greatest
greatest-push [] k = omega arith
greatest-push (n ∷ ns) k = let e = greatest-push ns k in omega arith

is_in-push : (n k : ℕ) (ns : List ℕ) → n < k → is_in n (ns ++ k ∷ []) ≡ is_in n ns
is_in-push n k [] below = grind (arith, nat_tests)
is_in-push n k (m ∷ ns) below = ap (λ b. (m == n) || b) (is_in-push n k ns below)

missing-push : (ns : List ℕ) (n k : ℕ) → n ≤ k → first_missing (ns ++ k ∷ []) n ≡ first_missing ns n
unfolding first_missing
missing-push ns zero k below = refl
missing-push ns (suc n) k below = rw (missing-push ns n k (omega arith), is_in-push n k ns (omega arith)) refl

no_gap : (missing : Option ℕ) (top newest : ℕ) → unless_gap missing top ≡ Ok newest → (missing ≡ None) × (top ≡ newest)
no_gap None top newest e = (refl, cc)
no_gap (Some k) top newest e = cc

one_more : (ns : List ℕ) (newest : ℕ) → first_missing ns newest ≡ None → is_in newest ns ≡ true → first_missing ns (newest + 1) ≡ None
unfolding first_missing
one_more ns newest below there = rw (add-one newest, below, there) refl

gapless-push : (ns : List ℕ) (newest : ℕ) → gapless ns ≡ Ok newest → gapless (ns ++ (newest + 1) ∷ []) ≡ Ok (newest + 1)
unfolding gapless
gapless-push [] newest e = cc
gapless-push (n ∷ ns) newest e =
    let was = no_gap (first_missing (n ∷ ns) (greatest (n ∷ ns))) (greatest (n ∷ ns)) newest e in
    let top : greatest ((n ∷ ns) ++ (newest + 1) ∷ []) ≡ newest + 1 = greatest-push (n ∷ ns) (newest + 1) ∙ omega (arith, was.1) in
    let below : first_missing (n ∷ ns) newest ≡ None = subst (λ k. first_missing (n ∷ ns) k ≡ None) was.1 was.0 in
    let there : is_in newest (n ∷ ns) ≡ true = subst (λ k. is_in k (n ∷ ns) ≡ true) was.1 (greatest-in n ns) in
    let none : first_missing ((n ∷ ns) ++ (newest + 1) ∷ []) (newest + 1) ≡ None = missing-push (n ∷ ns) (newest + 1) (newest + 1) (omega arith) ∙ one_more (n ∷ ns) newest below there in
    rw (top, none) refl

greatest_is : (ns : List ℕ) (newest : ℕ) → gapless ns ≡ Ok newest → greatest ns ≡ newest
unfolding gapless
greatest_is [] newest e = cc
greatest_is (n ∷ ns) newest e = (no_gap (first_missing (n ∷ ns) (greatest (n ∷ ns))) (greatest (n ∷ ns)) newest e).1

was_gapless : (ns : List ℕ) (newest : ℕ) → newest_of ns ≡ Ok newest → gapless ns ≡ Ok newest
unfolding newest_of
was_gapless ns newest e = by (nat_lt MAX_COMMITS (count_of ns)) e
  where
    by : (many : Bool) → cond many (Err fault.TooMany) (gapless ns) ≡ Ok newest → gapless ns ≡ Ok newest
    by true e = cc
    by false e = e

-- a list with room for one more number takes the next one
numbers-push : (ns : List ℕ) (newest : ℕ) → newest + 1 < MAX_COMMITS → newest_of ns ≡ Ok newest → newest_of (ns ++ (newest + 1) ∷ []) ≡ Ok (newest + 1)
unfolding newest_of
numbers-push ns newest room e =
    let pushed : List ℕ = ns ++ (newest + 1) ∷ [] in
    let top : greatest pushed ≡ newest + 1 = greatest-push ns (newest + 1) ∙ omega (arith, greatest_is ns newest (was_gapless ns newest e)) in
    let few : nat_lt MAX_COMMITS (count_of pushed) ≡ false = not_below MAX_COMMITS (count_of pushed) (omega (arith, top, count_within pushed (greatest pushed + 1))) in
    rw (few, gapless-push ns newest (was_gapless ns newest e)) refl

-- logs

number_from : (r : Result ℕ NumberFault) (newest : ℕ) → of_numbers r ≡ Ok newest → r ≡ Ok newest
number_from (Ok n) newest e = cc
number_from (Err fault.Nothing) newest e = cc
number_from (Err fault.TooMany) newest e = cc
number_from (Err (fault.Gap version)) newest e = cc

newest-push : (log : Log) (newest : ℕ) (bytes : List ℕ) → newest + 1 < MAX_COMMITS → newest_version log ≡ Ok newest → newest_version (log ++ (newest + 1, bytes) ∷ []) ≡ Ok (newest + 1)
unfolding newest_version
newest-push log newest bytes room e =
    rw (map-append (λ (f : ℕ × List ℕ). f.0) log ((newest + 1, bytes) ∷ []), numbers-push (entries.keys_of log) newest room (number_from (newest_of (entries.keys_of log)) newest e)) refl

bytes-push : (n k : ℕ) (bytes : List ℕ) (log : Log) → n < k → bytes_of n (log ++ (k, bytes) ∷ []) ≡ bytes_of n log
bytes-push n k bytes [] below = grind (arith, nat_tests)
bytes-push n k bytes (file ∷ log) below = ap (λ r. cond (file.0 == n) (Some file.1) r) (bytes-push n k bytes log below)

none_above : (n : ℕ) (log : Log) → greatest (entries.keys_of log) < n → bytes_of n log ≡ None
unfolding greatest
none_above n [] above = refl
none_above n (file ∷ log) above =
    let other : (file.0 == n) ≡ false = grind (arith, nat_tests) in
    rw other (none_above n log (omega arith))

bytes-last : (n : ℕ) (bytes : List ℕ) (log : Log) → bytes_of n log ≡ None → bytes_of n (log ++ (n, bytes) ∷ []) ≡ Some bytes
bytes-last n bytes [] none = grind (arith, nat_tests)
bytes-last n bytes (file ∷ log) none = by (file.0 == n) refl (bytes-last n bytes log)
  where
    by : (same : Bool) → (file.0 == n) ≡ same → (bytes_of n log ≡ None → bytes_of n (log ++ (n, bytes) ∷ []) ≡ Some bytes) → bytes_of n (file ∷ log ++ (n, bytes) ∷ []) ≡ Some bytes
    by true e rest = let found : Some file.1 ≡ None = subst (λ (b : Bool). cond b (Some file.1) (bytes_of n log) ≡ None) e none in cc
    by false e rest = rw e (rest (subst (λ (b : Bool). cond b (Some file.1) (bytes_of n log) ≡ None) e none))

commits-push : (log : Log) (n k : ℕ) (bytes : List ℕ) → n ≤ k → commits_below (log ++ (k, bytes) ∷ []) n ≡ commits_below log n
unfolding commits_below
commits-push log zero k bytes below = refl
commits-push log (suc n) k bytes below = rw (commits-push log n k bytes (omega arith), bytes-push n k bytes log (omega arith)) refl

is_below : (a b : ℕ) → a < b → nat_lt a b ≡ true
is_below a b lt = grind (arith, nat_tests)

le_or_lt : (a b : ℕ) → (a ≤ b) ⊎ (b < a)
le_or_lt a b = elim (nat_lt b a) as (λ r. nat_lt b a ≡ r → (a ≤ b) ⊎ (b < a)) [ true ↦ λ e. inr (grind (arith, nat_tests)) | false ↦ λ e. inl (grind (arith, nat_tests)) ] refl

chosen_either : (log : Log) (newest version : ℕ) (bytes : List ℕ) → version ≢ newest + 1 → go (chosen (Some version) (newest + 1)) (λ at. commits_below (log ++ (newest + 1, bytes) ∷ []) (at + 1)) ≡ go (chosen (Some version) newest) (λ at. commits_below log (at + 1))
chosen_either log newest version bytes other =
    elim (le_or_lt version newest) [
      | inl low ↦ rw (not_below newest version low, not_below (newest + 1) version (omega arith)) (commits-push log (version + 1) (newest + 1) bytes (omega arith))
      | inr high ↦ rw (is_below newest version high, is_below (newest + 1) version (omega arith)) refl
    ]

-- the other versions say what they said
pub others_stay : (log : Log) (newest version : ℕ) (bytes : List ℕ) → newest + 1 < MAX_COMMITS → newest_version log ≡ Ok newest → version ≢ newest + 1 → commits_at (Some version) (log ++ (newest + 1, bytes) ∷ []) ≡ commits_at (Some version) log
unfolding commits_at
others_stay log newest version bytes room e other = rw (newest-push log newest bytes room e, e) (chosen_either log newest version bytes other)

-- no commit file is behind the newest
pub next_absent : (log : Log) (newest : ℕ) → newest_version log ≡ Ok newest → bytes_of (newest + 1) log ≡ None
unfolding newest_version
next_absent log newest e =
    let top = greatest_is (entries.keys_of log) newest (was_gapless (entries.keys_of log) newest (number_from (newest_of (entries.keys_of log)) newest e)) in
    none_above (newest + 1) log (omega (arith, top))

newest_said : (log : Log) (newest : ℕ) → newest_version log ≡ Ok newest → commits_at (Some newest) log ≡ commits_below log (newest + 1)
unfolding commits_at
newest_said log newest e = rw (e, not_below newest newest (omega arith)) refl

next_said : (log : Log) (newest : ℕ) (bytes : List ℕ) → newest_version log ≡ Ok newest
    → commits_below (log ++ (newest + 1, bytes) ∷ []) (newest + 1 + 1) ≡ go (commits_below log (newest + 1)) (λ commits. go (good_lines (newest + 1) (commit_of bytes)) (λ actions. Ok (commits ++ numbered (newest + 1) actions ∷ [])))
unfolding commits_below
next_said log newest bytes e =
    rw (add-one (newest + 1), bytes-last (newest + 1) bytes log (next_absent log newest e)) (ap (λ (r : Result (List Commit) TableRefusal). go r (λ commits. go (good_lines (newest + 1) (commit_of bytes)) (λ actions. Ok (commits ++ numbered (newest + 1) actions ∷ [])))) (commits-push log (newest + 1) (newest + 1) bytes (omega arith)))

-- the next version says the commits before it and its own
pub next_says : (log : Log) (newest : ℕ) (bytes : List ℕ) → newest + 1 < MAX_COMMITS → newest_version log ≡ Ok newest
    → commits_at (Some (newest + 1)) (log ++ (newest + 1, bytes) ∷ []) ≡ go (commits_at (Some newest) log) (λ commits. go (good_lines (newest + 1) (commit_of bytes)) (λ actions. Ok (commits ++ numbered (newest + 1) actions ∷ [])))
next_says log newest bytes room e =
    newest_said (log ++ (newest + 1, bytes) ∷ []) (newest + 1) (newest-push log newest bytes room e) ∙ next_said log newest bytes e
    ∙ ap (λ (r : Result (List Commit) TableRefusal). go r (λ commits. go (good_lines (newest + 1) (commit_of bytes)) (λ actions. Ok (commits ++ numbered (newest + 1) actions ∷ [])))) (sym (newest_said log newest e))

-- a lone first version is the newest
first_alone : newest_of (0 ∷ []) ≡ Ok 0
unfolding newest_of gapless first_missing greatest
first_alone =
    let few : nat_lt MAX_COMMITS (count_of (0 ∷ [])) ≡ false = not_below MAX_COMMITS (count_of (0 ∷ [])) (omega (arith, count_within (0 ∷ []) (greatest (0 ∷ []) + 1))) in
    rw few refl

first_newest : (bytes : List ℕ) → newest_version ((0, bytes) ∷ []) ≡ Ok 0
unfolding newest_version
first_newest bytes = ap of_numbers first_alone

-- it says its own commit
pub first_says : (bytes : List ℕ) → commits_at (Some 0) ((0, bytes) ∷ []) ≡ go (good_lines 0 (commit_of bytes)) (λ actions. Ok (numbered 0 actions ∷ []))
unfolding commits_at commits_below
first_says bytes = rw (first_newest bytes) refl
