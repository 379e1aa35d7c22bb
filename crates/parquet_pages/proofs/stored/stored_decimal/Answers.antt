use Rattle.std.proofs.Common.{sym, w64}
use Rattle.std.specs.Int.{w128}
use Rattle.std.proofs.lemmas.Int.{to_z-of_z}
use Rattle.parquet_pages.proofs.Rows.{decimal_64, decimal_goes, decimal_whole}
use Rattle.parquet_pages.proofs.stored.stored_decimal.Goals as goal

pub overflow_cast-result : goal.overflow_cast-result
overflow_cast-result c =
    let fits = decimal_64 c.args.unscaled c.args.precision c.if-precision-le18.true c.requires.within in
    rw (to_z-of_z w128 c.args.unscaled c.ranges.unscaled) fits

pub returns-then-precision-le18-clause-is : goal.returns-then-precision-le18-clause-is
returns-then-precision-le18-clause-is c =
    let fits = decimal_64 c.args.unscaled c.args.precision c.if-precision-le18.true c.requires.within in
    rw (to_z-of_z w128 c.args.unscaled c.ranges.unscaled, to_z-of_z w64 c.args.unscaled fits) (sym (decimal_whole c.args.precision c.args.unscaled c.if-precision-le18.true))

pub returns-then-precision-le18-clause-goes : goal.returns-then-precision-le18-clause-goes
returns-then-precision-le18-clause-goes c =
    let fits = decimal_64 c.args.unscaled c.args.precision c.if-precision-le18.true c.requires.within in
    rw (to_z-of_z w128 c.args.unscaled c.ranges.unscaled, to_z-of_z w64 c.args.unscaled fits) (decimal_goes c.args.precision c.args.unscaled c.if-precision-le18.true c.requires.within)
