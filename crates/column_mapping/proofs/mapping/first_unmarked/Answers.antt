use Rattle.std.proofs.Common.{◌≡◌, ◌∙◌, sym, Some, arith, below_more, refl}
use Rattle.std.specs.List.{slice_get}
use Rattle.std.proofs.lemmas.Option.{slice_get_read}
use Rattle.column_mapping.proofs.Firsts.{asked, first_found, none_found}
use Rattle.column_mapping.proofs.mapping.first_unmarked.Goals as goal

pub returns-then-unmarked : goal.returns-then-unmarked
returns-then-unmarked c =
    let there : slice_get c.args.columns.now c.loop-at.at ≡ Some c.index-columns-at.result = slice_get_read _ _ _ _ refl c.loop-at-test.true c.index-columns-at.is in
    first_found c.args.columns.now c.loop-at.at c.loop-at-test.true c.loop-at.invariant (asked c.args.columns.now c.loop-at.at c.index-columns-at.result there ∙ sym c.unmarked.ensures ∙ c.if-unmarked.true)

pub loop-at-preserved : goal.loop-at-preserved
loop-at-preserved c =
    let there : slice_get c.args.columns.now c.loop-at.at ≡ Some c.index-columns-at.result = slice_get_read _ _ _ _ refl c.loop-at-test.true c.index-columns-at.is in
    below_more _ _ c.loop-at.invariant (asked c.args.columns.now c.loop-at.at c.index-columns-at.result there ∙ sym c.unmarked.ensures ∙ c.if-unmarked.false)

pub returns : goal.returns
returns c = none_found c.args.columns.now (λ k lt. c.loop-at.invariant k (omega arith))
