use Rattle.std.proofs.Common.{◌-◌, ◌++◌, length, take, drop, sym, ap, subst, ◌∙◌, arith, length-take}
use Rattle.std.proofs.Math.Seq.{take-add, take-take}
use Rattle.std.specs.Io.KnownBytes.{Appends}
use Rattle.std.proofs.KnownBytes.{Appends-trans}
use Rattle.dm_system.proofs.output.write_whole.Goals as goal

-- what was done before, and then what this write took
pub loop-done-preserved : goal.loop-done-preserved
loop-done-preserved g c =
    let piece = c.args.piece.now in
    let done = c.loop-done.done in
    let count = c.in_ok-count.count in
    let before = c.loop-done.invariant in
    let fits = c.in_ok-count.ensures.bound in
    let left = length-take (length piece - done) (drop done piece) in
    let joined = ap (λ front. take done piece ++ front) (take-take count (length piece - done) (drop done piece) (omega arith)) ∙ sym (take-add done count piece) in
    record {
      in_range = omega arith;
      written = subst (Appends _ _) joined (Appends-trans _ _ _ _ _ before.written c.in_ok-count.ensures.bytes);
    }
