use Rattle.std.proofs.Common.{ℕ, subst, sym}
use Rattle.std.specs.Prelude.{All}
use Rattle.script_run.specs.StepsRows.{IsPrintable}
use Rattle.script_run.proofs.ShowingRows.{printable}
use Rattle.script_run.proofs.shown_rows.print_rows.Goals as goal

pub print_by_id-requires : goal.print_by_id-requires
print_by_id-requires c =
    let loaded = c.args.loaded.now in
    subst (λ (n : ℕ). All (IsPrintable n) loaded.batch.columns) (sym c.requires.ids) (printable loaded.head.schema loaded.batch.columns loaded.batch.rows c.requires.types c.requires.ranges loaded.batch.even)

pub print_by_bytes-requires : goal.print_by_bytes-requires
print_by_bytes-requires c =
    let loaded = c.args.loaded.now in
    subst (λ (n : ℕ). All (IsPrintable n) loaded.batch.columns) (sym c.requires.ids) (printable loaded.head.schema loaded.batch.columns loaded.batch.rows c.requires.types c.requires.ranges loaded.batch.even)
