use Rattle.std.proofs.Common.{refl}
use Rattle.table_make.specs.Created.{new_protocol, maps_columns, new_columns, new_configuration}
use Rattle.table_make.proofs.Usable.{reader}
use Rattle.table_make.proofs.laws.created_may_be_used.Goals as goal

pub returns-clause-read : goal.returns-clause-read
returns-clause-read c stmt id =
    c.mapped_may_be_read.ensures (new_protocol stmt id) (reader (maps_columns stmt) (new_columns stmt id) (new_configuration stmt id))

pub returns-clause-write : goal.returns-clause-write
returns-clause-write c stmt id = c.needed_may_be_written.ensures (new_columns stmt id) (new_configuration stmt id) (new_protocol stmt id) refl refl
