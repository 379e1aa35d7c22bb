use Rattle.std.proofs.Common.{sym, ◌∙◌}
use Rattle.parquet_meta.proofs.Rows.{sound}
use Rattle.parquet_meta.proofs.reading.footer.Goals as goal

pub returns-then-groups_fit-clause-sound : goal.returns-then-groups_fit-clause-sound
returns-then-groups_fit-clause-sound c = sound _ (sym c.groups_fit.ensures ∙ c.if-groups_fit.true)
