use Rattle.dm_store.proofs.Distinct.{distinct-nil}
use Rattle.dm_store.proofs.sure_store.SureStore.new.Goals as goal

pub invariant_of-result : goal.invariant_of-result
invariant_of-result c = record { distinct = distinct-nil c.new.result c.new.ensures }
