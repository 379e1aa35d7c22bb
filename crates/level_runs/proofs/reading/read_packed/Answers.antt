use Rattle.std.proofs.Common.{◌≡◌, ◌≤◌, ◌*◌, ◌∙◌, length, sym, arith, refl}
use Rattle.level_runs.proofs.Taking.{packed_taken, groups_hold}
use Rattle.level_runs.proofs.reading.read_packed.Goals as goal

pub unpack-requires-clause-enough : goal.unpack-requires-clause-enough
unpack-requires-clause-enough c =
    let width : c.from.result ≡ c.args.width = c.from.ensures in
    let size : c.args.groups * c.args.width ≡ c.in-Some.size = rw (sym width) (sym c.in-Some.ensures.1) in
    let held = groups_hold c.args.groups c.args.width c.min-count.result (omega arith) in
    omega (arith, c.split_at.ensures.front_len)

pub returns : goal.returns
returns c =
    let width : c.from.result ≡ c.args.width = c.from.ensures in
    let size : c.args.groups * c.args.width ≡ c.in-Some.size = rw (sym width) (sym c.in-Some.ensures.1) in
    let held : c.args.groups * c.args.width ≤ length c.args.bytes.now = omega (arith, c.if-bytes-size.false) in
    packed_taken c.args.width c.args.groups c.args.room c.min-count.result c.args.bytes.now c.args.numbers.now held (omega arith)
    ∙ rw (size, sym c.split_at.ensures.front, sym c.split_at.ensures.back, c.in_ok-unpack.ensures) refl
