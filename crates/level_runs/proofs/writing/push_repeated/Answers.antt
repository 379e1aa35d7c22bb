use Rattle.std.proofs.Common.{◌≡◌, length, ap, arith}
use Rattle.std.proofs.lemmas.List.{length-take-le}
use Rattle.std.proofs.lemmas.Result.{on_ok_weaker}
use Rattle.level_runs.specs.Runs.{value_size}
use Rattle.level_runs.proofs.Cutting.{repeated_written, value_fits, value_written}
use Rattle.level_runs.proofs.writing.push_repeated.Goals as goal

pub returns : goal.returns
returns c =
    let whole : length c.write_u32.new.buf ≡ 32 = ap length c.write_u32.ensures in
    let held = length-take-le (value_size c.args.width) c.write_u32.new.buf (omega arith) in
    let back = value_written (value_size c.args.width) c.args.number c.write_u32.new.buf (omega arith) (value_fits c.args.width c.args.number c.requires.fits) c.write_u32.ensures in
    on_ok_weaker c.extend_from_slice.result (λ joined. repeated_written c.args.width c.args.times c.args.number c.args.out.now c.push_varint.new.out c.extend_from_slice.new.self _ (omega arith) c.requires.fits (c.in_ok-push_varint.ensures)
    held back joined) c.extend_from_slice.ensures.ok
