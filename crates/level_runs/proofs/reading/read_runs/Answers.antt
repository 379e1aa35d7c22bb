use Rattle.std.proofs.Common.{ℕ, List, Bor, ◌≡◌, ◌-◌, ◌∙◌, length, ap, arith}
use Rattle.std.proofs.lemmas.Result.{err_from_is_err_and}
use Rattle.level_runs.proofs.Turns.{turn_shorter, turn_read, all_read, none_read, too_wide, runs_given, fault_handed}
use Rattle.level_runs.proofs.reading.read_runs.Goals as goal

pub returns-then-width-gt-MOST_BITS : goal.returns-then-width-gt-MOST_BITS
returns-then-width-gt-MOST_BITS c = record { reads = too_wide c.args.width c.args.count c.args.bytes.now c.if-width-gt-MOST_BITS.true }

pub returns-in_err-rest : goal.returns-in_err-rest
returns-in_err-rest c =
    let room : c.args.count - c.len-in-loop-numbers.result ≡ c.args.count - length c.loop-numbers.numbers = ap (λ n. c.args.count - n) c.len-in-loop-numbers.ensures in
    let fault = fault_handed c.in_err-rest.field-0.0 c.args.width c.args.count _ _ c.args.bytes.now c.loop-numbers.numbers c.loop-numbers.rest.now {Rest = Bor (List ℕ)} (λ (r : Bor (List ℕ)). r.now) c.read_run.new.numbers c.loop-numbers.invariant.narrow
    (omega arith) c.from.ensures room c.loop-numbers.invariant.left c.in_err-rest.ensures in
    let handed = err_from_is_err_and c.from_residual.result c.from_residual.ensures.1 in
    rw (handed.1, handed.2) (record { reads = fault })

pub loop-numbers-init : goal.loop-numbers-init
loop-numbers-init c = record { behind = omega arith; narrow = c.if-width-gt-MOST_BITS.false; left = rw c.new-numbers.ensures (none_read _ _ _ _) }

pub loop-numbers-smaller : goal.loop-numbers-smaller
loop-numbers-smaller c =
    turn_shorter c.args.width c.args.count c.loop-numbers.numbers c.read_run.new.numbers c.loop-numbers.rest.now c.in_ok-rest.rest.now (omega arith)
    (rw (c.len-in-loop-numbers.ensures, c.from.ensures) at c.in_ok-rest.ensures)

pub loop-numbers-preserved : goal.loop-numbers-preserved
loop-numbers-preserved c =
    let taken = rw (c.len-in-loop-numbers.ensures, c.from.ensures) at c.in_ok-rest.ensures in
    let shorter = turn_shorter c.args.width c.args.count c.loop-numbers.numbers c.read_run.new.numbers c.loop-numbers.rest.now c.in_ok-rest.rest.now (omega arith) taken in
    let read = turn_read c.args.width c.args.count c.loop-numbers.numbers c.read_run.new.numbers c.loop-numbers.rest.now c.in_ok-rest.rest.now (omega arith) taken in
    record { behind = omega arith; narrow = c.loop-numbers.invariant.narrow; left = c.loop-numbers.invariant.left ∙ read }

pub returns : goal.returns
returns c = record {
  reads = runs_given c.args.width c.args.count c.args.bytes.now c.loop-numbers.numbers c.loop-numbers.rest.now c.loop-numbers.invariant.narrow
      (c.loop-numbers.invariant.left ∙ all_read (length c.loop-numbers.rest.now) c.args.width c.args.count c.loop-numbers.numbers c.loop-numbers.rest.now (omega arith));
}
