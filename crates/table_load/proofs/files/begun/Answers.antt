use Rattle.table_load.proofs.Ranged.{begun_reading}
use Rattle.table_load.proofs.files.begun.Goals as goal

pub returns-clause-reading : goal.returns-clause-reading
returns-clause-reading c =
    begun_reading c.args.head.now.schema (record { batch = c.in_ok-empty_batch.field-0; ids = c.new.result; files = c.new-2.result; room = c.whole.result }) c.in_ok-empty_batch.ensures.columns c.in_ok-empty_batch.ensures.rows c.new.ensures
