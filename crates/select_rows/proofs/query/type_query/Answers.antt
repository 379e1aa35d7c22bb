use Rattle.std.proofs.Common.{◌∙◌, sym, ap}
use Rattle.typed_expr.specs.Rules.{both}
use Rattle.select_rows.proofs.Fitted.{query_fits}
use Rattle.select_rows.proofs.query.type_query.Goals as goal

pub returns-in-Ok-clause-fits : goal.returns-in-Ok-clause-fits
returns-in-Ok-clause-fits c = λ formed.
    query_fits c.args.scope.now c.what_reads_is_in_range.ensures formed c.args.items.now c.in_ok-conjuncts.conjuncts c.in-Ok.items c.in-Ok.conjuncts
    (ap (λ found. both found c.in_ok-conjuncts.conjuncts) (sym c.in_ok-items.ensures) ∙ sym c.both.ensures ∙ c.in-Ok.is)
