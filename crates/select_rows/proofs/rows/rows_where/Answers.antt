use Rattle.std.proofs.Common.{◌∙◌, ap, sym, map, List, Bool}
use Rattle.std.proofs.Common.{false}
use Rattle.vector_eval.specs.Batches.{faults_from, found_or, truths_on}
use Rattle.select_rows.proofs.Valued.{flags_found, flags_refused}
use Rattle.select_rows.proofs.rows.rows_where.Goals as goal

pub returns-in-Ok : goal.returns-in-Ok
returns-in-Ok c =
    let every_is = c.in_ok-every.ensures in
    let conjuncts = c.args.conjuncts.now in
    let columns = c.args.batch.now.columns in
    record {
      flags = flags_found conjuncts columns c.args.batch.now.rows c.in_ok-held.held.faults (c.in_ok-held.ensures.faults ∙ ap (λ (flags : List Bool). faults_from 0 (truths_on conjuncts columns flags)) every_is) c.in_ok-held.held.kept c.in-Ok.field-0
          (c.in_ok-held.ensures.kept ∙ ap (λ (flags : List Bool). map (found_or false) (truths_on conjuncts columns flags)) every_is) (sym c.unless_error.ensures ∙ c.in-Ok.is);
    }

pub returns : goal.returns
returns c =
    let conjuncts = c.args.conjuncts.now in
    let columns = c.args.batch.now.columns in
    record {
      flags = flags_refused conjuncts columns c.args.batch.now.rows c.in_ok-held.held.faults (c.in_ok-held.ensures.faults ∙ ap (λ (flags : List Bool). faults_from 0 (truths_on conjuncts columns flags)) c.in_ok-every.ensures) c.in-Err.refusal (sym c.unless_error.ensures ∙ c.in-Err.is);
    }
