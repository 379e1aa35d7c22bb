use Rattle.std.proofs.Common.{◌≡◌, ◌-◌, refl, ◌∙◌, arith, rules}
use Rattle.thrift_compact.specs.Reading.{varint_of}
use Rattle.thrift_compact.proofs.VarintLoop.{fails, sum_below, sum_fits, last, goes_on, still_fits}
use Rattle.thrift_compact.proofs.number.varint.Goals as goal

pub returns-in_err-byte-clause-number : goal.returns-in_err-byte-clause-number
returns-in_err-byte-clause-number c =
    let at_byte = fails _ c.loop-index.number c.loop-index.index c.loop-index.left c.args.width _ (omega arith) (omega arith) c.loop-index.invariant.number c.loop-index.invariant.fits _ c.in_err-byte.field-0.0 c.in_err-byte.ensures in
    search rules

pub overflow_add-number : goal.overflow_add-number
overflow_add-number c =
    let small = sum_fits _ c.loop-index.number c.loop-index.index c.loop-index.left c.args.width _ (omega arith) (omega arith) c.loop-index.invariant.number c.loop-index.invariant.fits c.in_ok-byte.byte _ c.in_ok-byte.ensures in
    search rules

pub returns-then-not-byte-clause-number : goal.returns-then-not-byte-clause-number
returns-then-not-byte-clause-number c = last _ _ c.loop-index.index c.loop-index.left c.args.width _ (omega arith) (omega arith) c.loop-index.invariant.number c.loop-index.invariant.fits c.in_ok-byte.byte _ c.in_ok-byte.ensures (search rules)

pub returns-then-not-byte-clause-below : goal.returns-then-not-byte-clause-below
returns-then-not-byte-clause-below c = sum_below _ _ c.loop-index.index c.loop-index.left c.args.width _ (omega arith) (omega arith) c.loop-index.invariant.number c.loop-index.invariant.fits c.in_ok-byte.byte _ c.in_ok-byte.ensures

pub loop-index-preserved : goal.loop-index-preserved
loop-index-preserved c =
    record {
      number = rw c.saturating_sub-left.ensures (goes_on _ _ c.loop-index.index c.loop-index.left c.args.width _ (omega arith) (omega arith) c.loop-index.invariant.number c.loop-index.invariant.fits c.in_ok-byte.byte _ c.in_ok-byte.ensures (search rules));
      fits = λ high below. still_fits _ _ c.loop-index.index c.loop-index.left c.args.width _ (omega arith) (omega arith) c.loop-index.invariant.number c.loop-index.invariant.fits c.in_ok-byte.byte _ c.in_ok-byte.ensures high (rw c.saturating_sub-left.ensures at below);
    }

pub returns-clause-number : goal.returns-clause-number
unfolding varint_of
returns-clause-number c =
    let over : 10 - c.loop-index.index ≡ 0 = omega arith in
    c.loop-index.invariant.number ∙ rw over refl
