use Rattle.std.proofs.Common.{◌∙◌, sym}
use Rattle.token_lang.proofs.Loops.{collects_on, collects_shorter}
use Rattle.sql_tree.specs.Kinds.{is}
use Rattle.sql_tree.specs.declared.token.Kind.TheVariants.{Comma}
use Rattle.sql_grammar.specs.Reading.{run_next}
use Rattle.sql_grammar.specs.Create.{run_element}
use Rattle.sql_grammar.proofs.Readers.{next_leads}
use Rattle.sql_grammar.proofs.Create.{element_leads}
use Rattle.sql_grammar.proofs.Turns.{list_begins}
use Rattle.sql_reader.proofs.create.elements.Goals as goal

pub items-init : goal.items-init
items-init c =
    rw (c.in_ok-push.ensures.ok, c.new-all.ensures)
    (list_begins (run_element c.args.source.now) (is Comma) (run_next (run_element c.args.source.now)) c.args.tokens.now c.element.new.tokens c.in_ok-element.field-0 c.in_ok-element.ensures)

pub items-smaller : goal.items-smaller
items-smaller c =
    let h = next_leads (element_leads c.args.source.now) in
    collects_shorter _ (run_next (run_element c.args.source.now)) _ _ h.meets.exact h.solid c.items.tokens c.in_ok-next_element.field-0 c.next_element.new.tokens c.in_ok-next_element.ensures

pub items-preserved : goal.items-preserved
items-preserved c =
    let h = next_leads (element_leads c.args.source.now) in
    rw c.in_ok-push-2.ensures.ok (c.items.invariant ∙ collects_on _ (run_next (run_element c.args.source.now)) _ _ h.meets.exact h.solid c.items.all c.items.tokens c.in_ok-next_element.field-0 c.next_element.new.tokens (sym c.sees.ensures ∙ c.items-test.true) c.in_ok-next_element.ensures)
