use Rattle.std.proofs.Common.{◌∙◌, ◌+◌, ◌*◌, ◌++◌, [], length, sym, arith, ◌∷◌, ap}
use Rattle.std.proofs.lemmas.List.{append-nil}
use Rattle.level_runs.proofs.Places.{number_at_front, number_passed, numbers_read, enough_left, none_passed}
use Rattle.level_runs.proofs.packed.unpack.Goals as goal

pub take-requires-clause-enough : goal.take-requires-clause-enough
take-requires-clause-enough c =
    enough_left c.args.width c.loop.counter c.args.count (c.loop.left.have + 8 * length c.loop.left.bytes.now) (8 * length c.args.packed.now) c.loop-test.true c.requires.enough
    c.loop.invariant.size

pub loop-init : goal.loop-init
loop-init c = record { left = none_passed c.args.width c.args.packed.now; size = omega arith; read = sym (append-nil c.args.numbers.now) }

pub loop-preserved : goal.loop-preserved
loop-preserved c =
    let front = sym c.loop.invariant.left ∙ c.take.ensures.taken in
    let number = number_at_front c.args.width c.loop.counter c.take.result c.args.packed.now _ front c.take.ensures.fits in
    record {
      left = number_passed c.args.width c.loop.counter c.take.result c.args.packed.now _ front;
      size = omega (arith, c.take.ensures.left, c.loop.invariant.size);
      read = c.in_ok-push.ensures.ok ∙ ap (λ ns. ns ++ c.take.result ∷ []) c.loop.invariant.read ∙ numbers_read c.args.width c.loop.counter c.take.result c.args.packed.now c.args.numbers.now number;
    }
