-- What the steps of reading and writing ensure; no public clause cites them.
use Rattle.std.specs.Prelude.{◌≡◌, ⊤, ℕ, ◌==◌, Bool, false, List, [], ◌∷◌, length, take, Result, Ok, Err}
use Rattle.std.specs.Borrow.{Bor}
use Rattle.thrift_compact.specs.Reading.{Outcome}
use Rattle.thrift_compact.specs.declared.fault.Fault.{Fault}
use Rattle.thrift_compact.specs.declared.fault.Fault.TheVariants.{Memory, Refused}

-- the outcome, and what is left then; at a refusal the bytes from the refused one on
abbrev pub StepsTo : {A : Type 0} → Outcome A → Result A Fault → List ℕ → Type 0
StepsTo outcome (Ok a) new = outcome ≡ Ok (a, new)
StepsTo outcome (Err Refused) new = outcome ≡ Err new
StepsTo outcome (Err Memory) new = ⊤

-- the same where no memory is taken
abbrev pub StepsOnlyTo : {A : Type 0} → Outcome A → Result A Fault → List ℕ → Type 0
StepsOnlyTo outcome (Ok a) new = outcome ≡ Ok (a, new)
StepsOnlyTo outcome (Err Refused) new = outcome ≡ Err new
StepsOnlyTo outcome (Err Memory) new = ⊥

-- the same of bytes that are lent
abbrev pub StepsToBytes : Outcome (List ℕ) → Result (Bor (List ℕ)) Fault → List ℕ → Type 0
StepsToBytes outcome (Ok bytes) new = outcome ≡ Ok (bytes.now, new)
StepsToBytes outcome (Err Refused) new = outcome ≡ Err new
StepsToBytes outcome (Err Memory) new = ⊥

-- the bytes behind the first
abbrev pub behind : List ℕ → List ℕ
behind [] = []
behind (b ∷ rest) = rest

-- the byte 0 is next, which ends a struct
abbrev pub is_end : List ℕ → Bool
is_end [] = false
is_end (b ∷ rest) = b == 0

-- the old bytes still stand at the front
pub record KeepsFront (old new : List ℕ) : Type 0 where
  pub kept : take (length old) new ≡ old
