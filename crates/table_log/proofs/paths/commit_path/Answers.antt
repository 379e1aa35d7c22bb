use Rattle.std.proofs.Common.{append_assoc, codes}
use Rattle.table_log.specs.Log.{commit_path}
use Rattle.table_log.proofs.Digits.{padded-width}
use Rattle.table_log.proofs.paths.commit_path.Goals as goal

pub returns : goal.returns
unfolding commit_path
returns c =
    let number = padded-width c.args.version c.ranges.version.fits in
    rw (append_assoc c.args.table.now (codes "/_delta_log")) (rw (c.laid_out.ensures, c.as_str-table.ensures, number) at c.format.ensures.ok)
