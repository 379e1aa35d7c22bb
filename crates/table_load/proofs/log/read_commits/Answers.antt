use Rattle.std.proofs.Common.{rules, ◌≡◌, ◌∙◌, ◌++◌, ◌∷◌, [], refl, length-append, arith}
use Rattle.log_replay.specs.Live.{AreNumbered, numbered}
use Rattle.table_load.proofs.Reading.{reading_begins, reading_goes_on, reading_stops}
use Rattle.table_load.proofs.log.read_commits.Goals as goal

pub loop-version-init : goal.loop-version-init
unfolding AreNumbered
loop-version-init g c = record { files = refl; faults = refl; taken = refl; count = rw c.new-commits.ensures refl; numbers = rw c.new-commits.ensures tt; read = rw c.new-commits.ensures (reading_begins (g.S.Store.files c.args.store.now) c.args.table.now) }

pub returns-in_err-actions-clause-commits : goal.returns-in_err-actions-clause-commits
returns-in_err-actions-clause-commits g c =
    reading_stops (g.S.Store.files c.args.store.now) _ c.args.table.now c.loop-version.version c.args.last c.loop-version.commits c.in_err-actions.field-0.0 _ (search rules) c.loop-version.invariant.files (search rules) c.loop-version.invariant.read c.in_err-actions.ensures.commit

pub loop-version-preserved : goal.loop-version-preserved
loop-version-preserved g c =
    let pushed : c.push_commit.new.commits ≡ c.loop-version.commits ++ numbered c.loop-version.version c.in_ok-actions.actions ∷ [] = search rules in
    record {
      files = c.in_ok-actions.ensures.kept ∙ c.loop-version.invariant.files;
      faults = c.in_ok-actions.ensures.cause ∙ c.loop-version.invariant.faults;
      taken = c.in_ok-actions.ensures.taken ∙ c.loop-version.invariant.taken;
      count = rw pushed (omega (arith, length-append c.loop-version.commits (numbered c.loop-version.version c.in_ok-actions.actions ∷ []), c.loop-version.invariant.count));
      numbers = search rules;
      read = reading_goes_on (g.S.Store.files c.args.store.now) _ c.args.table.now c.loop-version.version c.loop-version.commits _ c.in_ok-actions.actions c.loop-version.invariant.files c.loop-version.invariant.read c.in_ok-actions.ensures.commit pushed;
    }
