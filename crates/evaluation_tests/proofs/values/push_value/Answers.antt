use Rattle.std.proofs.Common.{sym, subst}
use Rattle.dm_types.specs.Ranges.{IsNullOrInRange}
use Rattle.typed_expr.specs.Fits.{kinds_in}
use Rattle.evaluation_tests.proofs.values.push_value.Goals as goal

pub print_field-requires : goal.print_field-requires
print_field-requires c =
    subst (λ k. IsNullOrInRange k c.in-Ok.value) (sym c.kind.ensures)
    (c.in-Ok.ensures.range (kinds_in c.args.given.now.scope) c.requires.fits c.requires.given.row)
