use Rattle.std.proofs.Common.{◌≡◌, ◌<◌, ◌∙◌, ◌++◌, [], length, ap, arith, subst}
use Rattle.std.proofs.lemmas.Result.{on_ok_weaker}
use Rattle.std.proofs.lemmas.Grind.{common_steps}
use Rattle.level_runs.specs.Steps.{WritesRun}
use Rattle.level_runs.proofs.Cutting.{completes_none, completes_more, all_written, rest_fits}
use Rattle.level_runs.proofs.writing.write_runs.Goals as goal

pub loop-rest-init : goal.loop-rest-init
loop-rest-init c = rw (c.new-written.ensures, c.as_slice-rest.ensures) (record { completes = completes_none c.args.width c.args.numbers.now; fit = c.requires })

pub loop-rest-preserved : goal.loop-rest-preserved
loop-rest-preserved c =
    let some : 0 < length c.loop-rest.rest.now = grind (arith, common_steps) in
    let run : WritesRun c.args.width c.loop-rest.rest.now c.in_ok-rest.rest.now c.loop-rest.written c.push_run.new.out =
    subst (λ width. WritesRun width c.loop-rest.rest.now c.in_ok-rest.rest.now c.loop-rest.written c.push_run.new.out) c.from.ensures c.in_ok-rest.ensures in
    record {
      completes = completes_more c.args.width c.args.numbers.now c.loop-rest.rest.now c.in_ok-rest.rest.now c.loop-rest.written c.push_run.new.out c.loop-rest.invariant.completes some run;
      fit = rest_fits c.args.width c.loop-rest.rest.now c.in_ok-rest.rest.now c.loop-rest.written c.push_run.new.out run c.loop-rest.invariant.fit;
    }

pub returns-clause-ok : goal.returns-clause-ok
returns-clause-ok c =
    let nothing : c.loop-rest.rest.now ≡ [] = grind (arith, common_steps) in
    on_ok_weaker c.extend_from_slice.result (λ joined. all_written c.args.width c.args.numbers.now c.loop-rest.rest.now c.loop-rest.written c.args.out.now c.extend_from_slice.new.self c.loop-rest.invariant.completes nothing
    (joined ∙ ap (λ bs. c.args.out.now ++ bs) c.as_slice.ensures)) c.extend_from_slice.ensures.ok
