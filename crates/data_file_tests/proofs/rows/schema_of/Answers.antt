use Rattle.std.proofs.Common.{sym, subst}
use Rattle.std.specs.Prelude.{All}
use Rattle.std.proofs.lemmas.List.Elements.{All-push}
use Rattle.delta_schema.specs.declared.schema.ColumnDef.{ColumnDef}
use Rattle.dm_types.specs.Ranges.{IsWellFormed}
use Rattle.data_file_tests.proofs.rows.schema_of.Goals as goal

pub loop-column-preserved : goal.loop-column-preserved
loop-column-preserved c =
    let P : ColumnDef → Type 0 = λ column. IsWellFormed column.kind in
    subst (All P) (sym c.in_ok-push.ensures.ok) (All-push P c.loop-column.schema c.in_ok-one.one c.loop-column.invariant c.in_ok-one.ensures)
