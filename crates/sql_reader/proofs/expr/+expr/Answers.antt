use Rattle.std.proofs.Common.{◌∙◌, sym, arith}
use Rattle.token_lang.proofs.Loops.{collects_on, collects_shorter}
use Rattle.sql_tree.specs.Kinds.{is}
use Rattle.sql_tree.specs.declared.token.Kind.TheVariants.{Comma, When}
use Rattle.sql_grammar.specs.Reading.{run_inside, run_next, run_branch}
use Rattle.sql_grammar.proofs.Readers.{inside_leads, next_leads, branch_leads}
use Rattle.sql_grammar.proofs.Turns.{inside_none, inside_some, chain_smaller, chain_goes_on, list_begins, ranges, tests}
use Rattle.sql_reader.specs.Classes.{operators}
use Rattle.sql_reader.proofs.Levels.{operand_leads}
use Rattle.sql_reader.proofs.expr.+expr.Goals as goal

pub inside-returns-then-depth-eq0 : goal.inside-returns-then-depth-eq0
inside-returns-then-depth-eq0 t c = inside_none c.args.source.now c.args.depth c.args.tokens.now (omega arith)

pub inside-returns : goal.inside-returns
inside-returns t c = rw (inside_some c.args.source.now c.args.depth c.args.tokens.now (omega arith)) c.chain.ensures

pub chain-items-smaller : goal.chain-items-smaller
chain-items-smaller t c = chain_smaller (operators c.args.level) (operand_leads c.args.source.now c.args.depth c.args.level) _ _ _ _ _ c.in_ok-operator.ensures c.in_ok-right.ensures

pub chain-items-preserved : goal.chain-items-preserved
chain-items-preserved t c =
    let h = operand_leads c.args.source.now c.args.depth c.args.level in
    rw c.in_ok-left-2.ensures (c.items.invariant ∙ chain_goes_on (operators c.args.level) h c.items.left c.items.tokens c.take_operator.new.self c.operand-in-items.new.tokens c.in_ok-operator.operator c.in_ok-right.right (sym c.sees_operator.ensures ∙ c.items-test.true) c.in_ok-operator.ensures c.in_ok-right.ensures)

pub list-items-init : goal.list-items-init
list-items-init t c =
    rw (c.in_ok-push.ensures.ok, c.new-all.ensures)
    (list_begins (run_inside c.args.source.now c.args.depth) (is Comma) (run_next (run_inside c.args.source.now c.args.depth)) c.args.tokens.now c.inside.new.tokens c.in_ok-inside.field-0 c.in_ok-inside.ensures)

pub list-items-smaller : goal.list-items-smaller
list-items-smaller t c =
    let h = next_leads (inside_leads c.args.source.now c.args.depth) in
    collects_shorter _ (run_next (run_inside c.args.source.now c.args.depth)) _ _ h.meets.exact h.solid c.items.tokens c.in_ok-next.field-0 c.next.new.tokens c.in_ok-next.ensures

pub list-items-preserved : goal.list-items-preserved
list-items-preserved t c =
    let h = next_leads (inside_leads c.args.source.now c.args.depth) in
    rw c.in_ok-push-2.ensures.ok (c.items.invariant ∙ collects_on _ (run_next (run_inside c.args.source.now c.args.depth)) _ _ h.meets.exact h.solid c.items.all c.items.tokens c.in_ok-next.field-0 c.next.new.tokens (sym c.sees.ensures ∙ c.items-test.true) c.in_ok-next.ensures)

pub branches-items-init : goal.branches-items-init
branches-items-init t c =
    rw (c.in_ok-push.ensures.ok, c.new-all.ensures)
    (list_begins (run_branch c.args.source.now c.args.depth (run_inside c.args.source.now c.args.depth)) (is When) (run_branch c.args.source.now c.args.depth (run_inside c.args.source.now c.args.depth)) c.args.tokens.now c.branch-source.new.tokens c.in_ok-branch.field-0 c.in_ok-branch.ensures)

pub branches-items-smaller : goal.branches-items-smaller
branches-items-smaller t c =
    let h = branch_leads c.args.source.now c.args.depth (inside_leads c.args.source.now c.args.depth) in
    collects_shorter _ (run_branch c.args.source.now c.args.depth (run_inside c.args.source.now c.args.depth)) _ _ h.meets.exact h.solid c.items.tokens c.in_ok-branch-2.field-0 c.branch-source-in-items.new.tokens c.in_ok-branch-2.ensures

pub branches-items-preserved : goal.branches-items-preserved
branches-items-preserved t c =
    let h = branch_leads c.args.source.now c.args.depth (inside_leads c.args.source.now c.args.depth) in
    rw c.in_ok-push-2.ensures.ok (c.items.invariant ∙ collects_on _ (run_branch c.args.source.now c.args.depth (run_inside c.args.source.now c.args.depth)) _ _ h.meets.exact h.solid c.items.all c.items.tokens c.in_ok-branch-2.field-0 c.branch-source-in-items.new.tokens (sym c.sees.ensures ∙ c.items-test.true) c.in_ok-branch-2.ensures)

pub predicate-returns : goal.predicate-returns
predicate-returns t c =
    rw (ranges c.args.source.now c.args.depth (run_inside c.args.source.now c.args.depth) c.args.operand c.args.tokens.now (sym c.sees_any.ensures ∙ c.if-sees_any.false) (sym c.sees.ensures ∙ c.if-sees.false)) c.range.ensures

pub test-returns-then-sees_predicate : goal.test-returns-then-sees_predicate
test-returns-then-sees_predicate t c =
    rw (tests c.args.source.now c.args.depth (run_inside c.args.source.now c.args.depth) c.args.tokens.now c.chain.new.tokens c.in_ok-operand.operand c.in_ok-operand.ensures (sym c.sees_predicate.ensures ∙ c.if-sees_predicate.true)) c.predicate.ensures
