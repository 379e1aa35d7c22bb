-- What a step of the descent comes to: its reader's outcome, and where it ends, unless memory runs out.
use Rattle.std.specs.Prelude.{◌≡◌, List, Result, Ok, Err}
use Rattle.token_lang.specs.Run.{Outcome}
use Rattle.sql_tree.specs.declared.token.Token.{Token}
use Rattle.sql_reader.specs.declared.fault.Fault.{Fault}
use Rattle.sql_reader.specs.declared.fault.Fault.TheVariants.{Memory, Refused}

abbrev pub Yields : {A : Type 0} → Outcome Token A → Result A Fault → List Token → Type 0
Yields outcome (Ok a) new = outcome ≡ Ok (a, new)
Yields outcome (Err Refused) new = outcome ≡ Err new
Yields outcome (Err Memory) new = Unit {0}
