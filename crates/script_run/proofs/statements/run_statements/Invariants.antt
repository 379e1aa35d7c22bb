use Rattle.std.proofs.Common.{◌≡◌}
use Rattle.table_write.specs.Outside.{Outside}
use Rattle.script_run.proofs.Turns.{AreAccepted}
use Rattle.script_run.proofs.statements.run_statements.Given as goal

abbrev pub invariant-loop-statement : goal.invariant-loop-statement
invariant-loop-statement g l =
    let old : Outside = record { files = g.S.Store.files l.fn.store; taken = g.S.Store.taken l.fn.store; names = g.N.NameSource.given l.fn.names; times = g.C.Clock.given l.fn.clock } in
    let now : Outside = record { files = g.S.Store.files l.store; taken = g.S.Store.taken l.store; names = g.N.NameSource.given l.names; times = g.C.Clock.given l.clock } in
    record {
      number : l.number ≡ l.statement-index;
      faults : g.S.Store.faults l.store ≡ g.S.Store.faults l.fn.store;
      draws : g.N.NameSource.faults l.names ≡ g.N.NameSource.faults l.fn.names;
      sink : g.K.Sink.faults l.out ≡ g.K.Sink.faults l.fn.out;
      accepted : AreAccepted l.fn.root l.statement-items l.statement-index old now (g.K.Sink.written l.fn.out) (g.K.Sink.written l.out);
    }
