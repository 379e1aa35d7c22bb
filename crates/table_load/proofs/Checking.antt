-- The checks of a table that is to be written, one behind the other.
use Rattle.std.proofs.Common.{◌≡◌, Option, Result, Ok, Err, refl, ◌∙◌, subst}
use Rattle.dm_types.specs.Then.{go}
use Rattle.dm_types.specs.declared.refusal.Stop.{Stop}
use Rattle.dm_types.specs.declared.refusal.TableRefusal.{TableRefusal}
use Rattle.log_replay.specs.declared.snapshot.Snapshot.{Snapshot}
use Rattle.table_features.specs.Features.{NamedFault, named_fault, read_fault, write_fault}
use Rattle.table_features.specs.declared.checks.FeatureFault.{FeatureFault}
use Rattle.table_load.specs.Head.{unless_fault}
use Rattle.table_load.specs.OpenedForWriting.{has_room, keeps_rules, writable}
use Rattle.table_load.specs.StepsLoading.{Gives}
use Rattle.table_load.proofs.InTurn.{gives_same, gives_stops, goes_on}

abbrev pub protocol_written : Snapshot → Result (Unit {0}) TableRefusal
protocol_written found = unless_fault found.protocol (write_fault found.protocol)

-- the answer of a check on the protocol is that of its definition
pub permitted : (found : Snapshot) (checked : Result (Unit {0}) FeatureFault) (answer : Result (Unit {0}) Stop) → named_fault found.protocol checked ≡ write_fault found.protocol → Gives (unless_fault found.protocol (named_fault found.protocol checked)) answer → Gives (protocol_written found) answer
permitted found checked answer is gives = subst (λ (fault : Option NamedFault). Gives (unless_fault found.protocol fault) answer) is gives

-- .. and for reading
pub readable_by : (found : Snapshot) (checked : Result (Unit {0}) FeatureFault) (answer : Result (Unit {0}) Stop) → named_fault found.protocol checked ≡ read_fault found.protocol → Gives (unless_fault found.protocol (named_fault found.protocol checked)) answer → Gives (unless_fault found.protocol (read_fault found.protocol)) answer
readable_by found checked answer is gives = subst (λ (fault : Option NamedFault). Gives (unless_fault found.protocol fault) answer) is gives

abbrev with_room : Snapshot → Result (Unit {0}) TableRefusal
with_room found = go (has_room found.version) (λ _. keeps_rules found)

writable_is : (found : Snapshot) → writable found ≡ go (protocol_written found) (λ _. with_room found)
unfolding writable
writable_is found = refl

pub unwritten : (found : Snapshot) (why : Stop) (answer : Result (Unit {0}) Stop) → answer ≡ Err why → Gives (protocol_written found) (Err why) → Gives (writable found) answer
unwritten found why answer is gives = gives_stops (Unit {0}) (Unit {0}) (λ value. value) (λ value. value) (protocol_written found) (λ _. with_room found) (writable found) why answer (writable_is found) gives is

behind_protocol : (found : Snapshot) → protocol_written found ≡ Ok tt → writable found ≡ with_room found
behind_protocol found written = writable_is found ∙ goes_on (protocol_written found) (λ _. with_room found) tt written

pub full : (found : Snapshot) (why : Stop) (answer : Result (Unit {0}) Stop) → answer ≡ Err why → protocol_written found ≡ Ok tt → Gives (has_room found.version) (Err why) → Gives (writable found) answer
full found why answer is written gives =
    gives_stops (Unit {0}) (Unit {0}) (λ value. value) (λ value. value) (has_room found.version) (λ _. keeps_rules found) (writable found) why answer (behind_protocol found written) gives is

pub by_rules : (found : Snapshot) (answer : Result (Unit {0}) Stop) → protocol_written found ≡ Ok tt → has_room found.version ≡ Ok tt → Gives (keeps_rules found) answer → Gives (writable found) answer
by_rules found answer written room gives =
    gives_same (Unit {0}) (λ value. value) (keeps_rules found) (writable found) answer (behind_protocol found written ∙ goes_on (has_room found.version) (λ _. keeps_rules found) tt room) gives
