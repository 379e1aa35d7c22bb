use Rattle.std.proofs.Common.{length, eqb, arith, rules, refl}
use borrow.Author.Tests.{tests}
use Rattle.std.proofs.lemmas.Iterator.Consumers.{YieldsList-at, YieldsList-turn, YieldsList-end}
use Rattle.std.proofs.lemmas.Iterator.Splits.{YieldsList-from_slice_split}
use Rattle.std.proofs.lemmas.List.{length_push}
use Rattle.delta_actions.specs.Meaning.{commit_of, lines, actions_from}
use Rattle.delta_actions.proofs.Turns.{then_more-none, line_read, line_bad, all_read}
use Rattle.delta_actions.proofs.commit.read_commit.Goals as goal

pub loop-line-init : goal.loop-line-init
unfolding commit_of
loop-line-init c = record { number = refl; left = rw c.new-actions.ensures (then_more-none (actions_from 1 (lines c.args.bytes.now))) }

pub loop-line-preserved : goal.loop-line-preserved
loop-line-preserved c =
    let stands = YieldsList-turn (YieldsList-at c.into_iter-line-iterator.ensures.into_iter_gives (YieldsList-from_slice_split _ (λ b. eqb b 10) c.args.bytes.now c.split-line-items.ensures.rest c.split-line-items.ensures.done c.split-line-items.ensures.closure (λ x b q k. search (rules, tests))))
    c.loop-line.yielded _ c.loop-line.yielded_by _ _ c.in-Some.line c.in-Some.is c.next.ensures.steps in
    let passed = length_push c.loop-line.yielded c.in-Some.line in
    record {
      number = omega (arith, c.loop-line.invariant.number, passed);
      left = rw passed (line_read _ _ c.in-Some.line.now stands _ c.loop-line.actions c.loop-line.number c.loop-line.invariant.left _ c.in_ok-add_line.ensures);
    }

pub returns-in_err-add_line : goal.returns-in_err-add_line
returns-in_err-add_line c =
    let stands = YieldsList-turn (YieldsList-at c.into_iter-line-iterator.ensures.into_iter_gives (YieldsList-from_slice_split _ (λ b. eqb b 10) c.args.bytes.now c.split-line-items.ensures.rest c.split-line-items.ensures.done c.split-line-items.ensures.closure (λ x b q k. search (rules, tests))))
    c.loop-line.yielded _ c.loop-line.yielded_by _ _ c.in-Some.line c.in-Some.is c.next.ensures.steps in
    let bad = line_bad _ _ c.in-Some.line.now stands _ c.loop-line.actions c.loop-line.number c.loop-line.invariant.left c.add_line.new.actions c.in_err-add_line.field-0.0 c.in_err-add_line.ensures in
    search rules

pub returns : goal.returns
returns c =
    let all = YieldsList-end (YieldsList-at c.into_iter-line-iterator.ensures.into_iter_gives (YieldsList-from_slice_split _ (λ b. eqb b 10) c.args.bytes.now c.split-line-items.ensures.rest c.split-line-items.ensures.done c.split-line-items.ensures.closure (λ x b q k. search (rules, tests))))
    c.loop-line.yielded _ c.loop-line.yielded_by _ _ c.in-None.is c.next.ensures.steps in
    all_read (lines c.args.bytes.now) (length c.loop-line.yielded) _ _ _ c.loop-line.invariant.left (omega (arith, all.1))
