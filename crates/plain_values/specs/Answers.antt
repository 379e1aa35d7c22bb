-- What a reader of values returned, beside what its bytes say, and what a writer added.
use Rattle.std.specs.Prelude.{◌≡◌, ⊤, ℕ, List, length, take, map, Result, Ok, Err}
use Rattle.std.specs.Borrow.{Bor}
use Rattle.plain_values.specs.Meaning.{Wrong, short, extra}
use Rattle.plain_values.specs.declared.fault.PlainFault.{PlainFault}
use Rattle.plain_values.specs.declared.fault.PlainFault.TheVariants as fault

-- the values, or which fault it is
abbrev pub ReadsPlain : {A : Type 0} → Result A Wrong → Result A PlainFault → Type 0
ReadsPlain known (Ok values) = known ≡ Ok values
ReadsPlain known (Err fault.Short) = known ≡ Err short
ReadsPlain known (Err fault.Extra) = known ≡ Err extra
ReadsPlain known (Err fault.Memory) = ⊤

-- values that are lent
abbrev pub lent_values : List (Bor (List ℕ)) → List (List ℕ)
lent_values lent = map (λ value. value.now) lent

-- the same of values that are lent
abbrev pub ReadsLent : Result (List (List ℕ)) Wrong → Result (List (Bor (List ℕ))) PlainFault → Type 0
ReadsLent known (Ok lent) = known ≡ Ok (lent_values lent)
ReadsLent known (Err fault.Short) = known ≡ Err short
ReadsLent known (Err fault.Extra) = known ≡ Err extra
ReadsLent known (Err fault.Memory) = ⊤

-- the old list is the front of the new one
abbrev pub BeginsWith : List ℕ → List ℕ → Type 0
BeginsWith old new = take (length old) new ≡ old
