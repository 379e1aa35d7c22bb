use Rattle.std.proofs.Common.{◌∙◌, ap, sym, length}
use Rattle.column_vectors.specs.Cells.{Cells}
use Rattle.column_vectors.proofs.Shown.{length-shown}
use Rattle.column_vectors.proofs.column.Column.len.Goals as goal

pub returns : goal.returns
returns g c = c.len.ensures ∙ sym (length-shown _ c.self.inside.valid c.self.inside.kept.items) ∙ ap (λ (cells : Cells). length cells.values) c.self.view_is
