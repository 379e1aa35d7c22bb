-- All that a language and its reader owe, as one fact.
use Rattle.std.specs.Prelude.{Bool}
use Rattle.token_lang.specs.Lang.{Lang}
use Rattle.token_lang.specs.Run.{Reader}
use Rattle.token_lang.specs.Exact.{Exact, Solid, Local, Cuts}

-- what stands behind doesn't matter, and each front of a sentence is a beginning
pub record Plain {T A : Type 0} (L : Lang T A) : Type 0 where
  pub local : Local L
  pub cuts : Cuts L

-- f reads L
pub record Meets {T A : Type 0} (L : Lang T A) (f : Reader T A) (first goes : T → Bool) : Type 0 where
  pub exact : Exact L f first goes
  pub local : Local L

-- the same, where each sentence has a token
pub record Leads {T A : Type 0} (L : Lang T A) (f : Reader T A) (first goes : T → Bool) : Type 0 where
  pub meets : Meets L f first goes
  pub solid : Solid L first
