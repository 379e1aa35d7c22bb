use Rattle.std.proofs.Common.{rules, arith, ◌∙◌}
use Rattle.std.proofs.lemmas.Grind.{common_steps}
use Rattle.commit_log.proofs.Putting.{at_place, step, stops, whole}
use Rattle.commit_log.proofs.puts.put_files.Goals as goal

pub returns-in_err-put_file-clause-files : goal.returns-in_err-put_file-clause-files
returns-in_err-put_file-clause-files g c =
    let here = at_place c.args.paths.now c.args.files.now c.loop-index.index c.as_str.result.now _ c.requires.pairs c.requires.distinct (search rules) (grind (arith, common_steps)) (grind (arith, common_steps)) in
    stops _ _ _ _ c.args.paths.now c.args.files.now c.loop-index.index c.as_str.result.now _ c.in_err-put_file.field-0.0 (search rules) here c.loop-index.invariant.put c.in_err-put_file.ensures.files

pub loop-index-preserved : goal.loop-index-preserved
loop-index-preserved g c =
    let here = at_place c.args.paths.now c.args.files.now c.loop-index.index c.as_str.result.now _ c.requires.pairs c.requires.distinct (search rules) (grind (arith, common_steps)) (grind (arith, common_steps)) in
    record {
      put = step _ _ _ c.args.paths.now c.args.files.now c.loop-index.index c.as_str.result.now _ here c.loop-index.invariant.put c.in_ok-put_file.ensures.files;
      faults = c.in_ok-put_file.ensures.cause ∙ c.loop-index.invariant.faults;
      taken = c.in_ok-put_file.ensures.taken ∙ c.loop-index.invariant.taken;
    }

pub returns-clause-files : goal.returns-clause-files
returns-clause-files g c = whole _ _ c.args.paths.now c.args.files.now c.loop-index.index c.requires.pairs (search rules) c.loop-index.invariant.put
