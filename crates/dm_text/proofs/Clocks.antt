-- Times of the day that are too short, and texts that end in `Z`.
use Rattle.std.proofs.Common.{◌≡◌, ℕ, ◌<◌, List, length, take, Option, Some, None, refl, arith, length-take}
use Rattle.std.specs.Option.{option_and_then}
use Rattle.std.proofs.lemmas.Bool.{ne_eqb}
use Rattle.dm_text.specs.Calendar.{date}
use Rattle.dm_text.specs.Moments.{clock, moment}

no_clock : (time : List ℕ) → length time < 8 → clock (take 8 time) ≡ None
unfolding clock
no_clock time few =
    let apart : (length (take 8 time) ≡ 8) → ⊥ = λ is. omega (arith, is, length-take 8 time) in
    rw (ne_eqb (length (take 8 time)) 8 apart) refl

nothing : {A B C : Type 0} (o : Option A) (s : Option B) (k : A → B → Option C) → s ≡ None → option_and_then (λ n. option_and_then (k n) s) o ≡ None
nothing None s k none = refl
nothing (Some n) s k none = rw none refl

pub no_moment : (day time : List ℕ) → length time < 8 → moment day time ≡ None
unfolding moment
no_moment day time few = nothing (date day) (clock (take 8 time)) _ (no_clock time few)
