use Rattle.std.proofs.Common.{◌∙◌, sym}
use Rattle.token_lang.proofs.Loops.{collects, collects_on, collects_shorter}
use Rattle.sql_grammar.specs.Statements.{run_ended, first_statement}
use Rattle.sql_grammar.proofs.Statements.{ended_leads}
use Rattle.sql_reader.proofs.statement.statements.Goals as goal

pub items-init : goal.items-init
items-init c = rw c.new-all.ensures (sym (collects first_statement (run_ended c.args.source.now) c.args.tokens.now))

pub items-smaller : goal.items-smaller
items-smaller c = collects_shorter _ (run_ended c.args.source.now) _ _ (ended_leads c.args.source.now).meets.exact (ended_leads c.args.source.now).solid c.items.tokens c.in_ok-ended.field-0 c.ended.new.tokens c.in_ok-ended.ensures

pub items-preserved : goal.items-preserved
items-preserved c =
    rw c.in_ok-push.ensures.ok (c.items.invariant ∙ collects_on _ (run_ended c.args.source.now) _ _ (ended_leads c.args.source.now).meets.exact (ended_leads c.args.source.now).solid c.items.all c.items.tokens c.in_ok-ended.field-0 c.ended.new.tokens (sym c.sees_statement.ensures ∙ c.items-test.true) c.in_ok-ended.ensures)
