-- What reading a schema answers.
use Rattle.std.specs.Prelude.{◌≡◌, ⊤, List, Result, Ok, Err}
use Rattle.delta_schema.specs.declared.schema.ColumnDef.{ColumnDef}
use Rattle.delta_schema.specs.declared.fault.SchemaFault.{SchemaFault}
use Rattle.delta_schema.specs.declared.fault.SchemaFault.TheVariants as fault

-- exactly what the text says, unless there was no memory
abbrev pub ReadsSchema : Result (List ColumnDef) SchemaFault → Result (List ColumnDef) SchemaFault → Type 0
ReadsSchema known (Ok columns) = known ≡ Ok columns
ReadsSchema known (Err fault.BadSchema) = known ≡ Err fault.BadSchema
ReadsSchema known (Err (fault.UnsupportedType column)) = known ≡ Err (fault.UnsupportedType column)
ReadsSchema known (Err fault.TooMany) = known ≡ Err fault.TooMany
ReadsSchema known (Err fault.Memory) = ⊤
