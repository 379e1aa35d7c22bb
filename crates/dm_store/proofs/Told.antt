-- One more answer of a clock or a source of names.
use Rattle.std.proofs.Common.{◌≡◌, ℕ, suc, ◌+◌, ◌-◌, ◌^◌, ◌<◌, min, ℤ, List, [], ◌∷◌, ◌++◌, Bool, true, false, cond, Some, None, refl, arith, nat_lt, ltb-true, lt-ltb}
use Rattle.dm_store.specs.Given.{Gave}
use Rattle.dm_store.specs.Plan.{is_in}
use Rattle.dm_store.specs.Answers.{told_below, times_until, time_at, names_until, name_at}

gave_cases : {A : Type 0} (was is : Bool) (before now : List A) (x : A) → (is ≡ true → (was ≡ true) × (now ≡ before ++ x ∷ [])) → Gave (cond was (Some before) None) (cond is (Some now) None) x
gave_cases was false before now x told = tt
gave_cases true true before now x told = (told refl).1
gave_cases false true before now x told = let e = (told refl).0 in cc

next_is : (n m : ℕ) → m ≡ min (n + 1) (2 ^ 64 - 1) → m < 2 ^ 64 - 1 → (n < 2 ^ 64 - 1) × (m ≡ suc n)
next_is n m e small = (omega arith, omega arith)

-- a clock gave its answer
pub clock_gave : (answers : List ℤ) (n m : ℕ) (x : ℤ) → m ≡ min (n + 1) (2 ^ 64 - 1) → x ≡ time_at answers n → Gave (told_below n (times_until answers n)) (told_below m (times_until answers m)) x
clock_gave answers n m x e is =
    gave_cases (nat_lt n (2 ^ 64 - 1)) (nat_lt m (2 ^ 64 - 1)) (times_until answers n) (times_until answers m) x (λ told.
    let next = next_is n m e (ltb-true m (2 ^ 64 - 1) told) in
    (lt-ltb n (2 ^ 64 - 1) next.0, rw (next.1, is) refl))

-- a source gave its name at a draw that wasn't to fail
pub names_gave : (names : List (List ℕ)) (failing : List ℕ) (n m : ℕ) (x : List ℕ) → m ≡ min (n + 1) (2 ^ 64 - 1) → is_in m failing ≡ false → x ≡ name_at names m → Gave (told_below n (names_until names failing n)) (told_below m (names_until names failing m)) x
names_gave names failing n m x e answered is =
    gave_cases (nat_lt n (2 ^ 64 - 1)) (nat_lt m (2 ^ 64 - 1)) (names_until names failing n) (names_until names failing m) x (λ told.
    let next = next_is n m e (ltb-true m (2 ^ 64 - 1) told) in
    let last : is_in (suc n) failing ≡ false = rw next.1 at answered in
    (lt-ltb n (2 ^ 64 - 1) next.0, rw (is, next.1, last) refl))
