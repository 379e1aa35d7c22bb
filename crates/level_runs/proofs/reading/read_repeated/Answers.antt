use Rattle.std.proofs.Common.{◌≡◌, ◌<◌, ◌^◌, ◌∙◌, take, sym, ap, arith, refl}
use Rattle.std.proofs.lemmas.Nat.{one_shl}
use Rattle.byteorder.specs.Endian.{little_number}
use Rattle.level_runs.specs.Runs.{value_size}
use Rattle.level_runs.proofs.Taking.{repeated_taken}
use Rattle.level_runs.proofs.reading.read_repeated.Goals as goal

pub returns : goal.returns
returns c =
    let fits : c.little-number.result < 2 ^ c.args.width = rw (one_shl c.args.width 64 (omega arith)) at c.if-number-width.false in
    let value : little_number (value_size c.args.width) (take (value_size c.args.width) c.args.bytes.now) ≡ c.little-number.result =
    rw (sym c.split_at.ensures.front) (ap (λ n. little_number n c.split_at.result.0.now) (sym c.split_at.ensures.front_len) ∙ sym c.little-number.ensures) in
    repeated_taken c.args.width c.args.times c.args.room c.loop.counter c.little-number.result c.args.bytes.now c.args.numbers.now c.if-bytes-size.false value fits (omega arith)
    ∙ rw (sym c.loop.invariant, sym c.split_at.ensures.back) refl
