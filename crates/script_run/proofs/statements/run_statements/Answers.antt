use Rattle.std.proofs.Common.{rules, refl}
use Rattle.table_write.specs.Outside.{Outside}
use Rattle.script_run.proofs.Turns.{accepted_none, accepted_more, accepted_ends, accepted_all}
use Rattle.script_run.proofs.statements.run_statements.Goals as goal

pub returns-in-Err-clause-runs : goal.returns-in-Err-clause-runs
returns-in-Err-clause-runs g c =
    let old : Outside = record { files = g.S.Store.files c.args.store.now; taken = g.S.Store.taken c.args.store.now; names = g.N.NameSource.given c.args.names.now; times = g.C.Clock.given c.args.clock.now } in
    let mid : Outside = record { files = g.S.Store.files c.loop-statement.store; taken = g.S.Store.taken c.loop-statement.store; names = g.N.NameSource.given c.loop-statement.names; times = g.C.Clock.given c.loop-statement.clock } in
    let now : Outside = record { files = g.S.Store.files c.run_numbered.new.store; taken = g.S.Store.taken c.run_numbered.new.store; names = g.N.NameSource.given c.run_numbered.new.names; times = g.C.Clock.given c.run_numbered.new.clock } in
    accepted_ends c.args.statements.now c.loop-statement.statement-index old mid now (g.K.Sink.written c.args.out.now) (g.K.Sink.written c.loop-statement.out) (g.K.Sink.written c.run_numbered.new.out) c.statement-item.result c.in-Err.status (search rules) (search rules) (search rules) (search rules)

pub loop-statement-init : goal.loop-statement-init
loop-statement-init g c = record { number = refl; faults = refl; draws = refl; sink = refl; accepted = accepted_none _ _ _ }

pub loop-statement-preserved : goal.loop-statement-preserved
loop-statement-preserved g c = record {
  number = search rules;
  faults = search rules;
  draws = search rules;
  sink = search rules;
  accepted = accepted_more _ c.loop-statement.statement-index _ _ _ _ _ _ c.statement-item.result c.loop-statement.invariant.accepted (search rules) (search rules) (search rules);
}

pub returns-clause-runs : goal.returns-clause-runs
returns-clause-runs g c = accepted_all _ c.loop-statement.statement-index _ _ _ _ (search rules) (search rules)
