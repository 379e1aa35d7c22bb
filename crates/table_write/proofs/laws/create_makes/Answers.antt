use Rattle.table_write.proofs.NewState.{create_makes}
use Rattle.table_write.proofs.laws.create_makes.Goals as goal

pub returns : goal.returns
returns c = create_makes (record { written = c.created_reads_back.ensures; read = c.created_may_be_used.ensures.read; schema = c.created_schema_is_read.ensures; columns = c.sound_definitions_are_good.ensures.columns; properties = c.sound_definitions_are_good.ensures.properties; kept = c.created_has_properties.ensures; mapping = c.created_mapping_is_good.ensures; says = c.says_first.ensures; beside = c.first_version_keeps_states.ensures })
