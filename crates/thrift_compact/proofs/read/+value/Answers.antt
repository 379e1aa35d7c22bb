use Rattle.std.proofs.Common.{◌∙◌, sym, rules, arith}
use Rattle.thrift_compact.proofs.Turns.{turn, fails, done, field_turn, field_shorter, field_fails, fields_done, value_none, value_some}
use Rattle.thrift_compact.proofs.read.+value.Goals as goal

pub elements-returns-in_err-element : goal.elements-returns-in_err-element
elements-returns-in_err-element t c =
    let at_element = fails _ c.args.header.size c.loop.counter _ c.loop.nodes c.loop.cursor c.loop.invariant c.loop-test.true c.in_err-element.field-0.0 c.element.new.cursor c.in_err-element.ensures in
    search rules

pub elements-loop-preserved : goal.elements-loop-preserved
elements-loop-preserved t c = rw c.in_ok-push.ensures.ok (turn _ c.args.header.size c.loop.counter _ c.loop.nodes c.loop.cursor c.loop.invariant c.loop-test.true c.in_ok-element.field-0 c.element.new.cursor c.in_ok-element.ensures)

pub elements-returns : goal.elements-returns
elements-returns t c = done _ c.args.header.size c.loop.counter _ c.loop.nodes c.loop.cursor c.loop.invariant c.loop-test.false

pub entries-returns-in_err-entry : goal.entries-returns-in_err-entry
entries-returns-in_err-entry t c =
    let at_entry = fails _ c.args.size c.loop.counter _ c.loop.pairs c.loop.cursor c.loop.invariant c.loop-test.true c.in_err-entry.field-0.0 c.entry.new.cursor c.in_err-entry.ensures in
    search rules

pub entries-loop-preserved : goal.entries-loop-preserved
entries-loop-preserved t c = rw c.in_ok-push.ensures.ok (turn _ c.args.size c.loop.counter _ c.loop.pairs c.loop.cursor c.loop.invariant c.loop-test.true c.in_ok-entry.field-0 c.entry.new.cursor c.in_ok-entry.ensures)

pub entries-returns : goal.entries-returns
entries-returns t c = done _ c.args.size c.loop.counter _ c.loop.pairs c.loop.cursor c.loop.invariant c.loop-test.false

pub fields-returns-in_err-field : goal.fields-returns-in_err-field
fields-returns-in_err-field t c =
    let at_field = field_fails c.args.left _ _ c.fields.fields c.fields.cursor c.fields.invariant (sym c.is_end.ensures ∙ c.fields-test.true) c.in_err-field.field-0.0 c.field.new.cursor c.in_err-field.ensures in
    search rules

pub fields-fields-smaller : goal.fields-fields-smaller
fields-fields-smaller t c = field_shorter c.args.left _ _ c.fields.fields c.fields.cursor c.fields.invariant c.in_ok-field.field-0 c.field.new.cursor c.in_ok-field.ensures

pub fields-fields-preserved : goal.fields-fields-preserved
fields-fields-preserved t c =
    rw c.in_ok-push.ensures.ok (field_turn c.args.left _ _ c.fields.fields c.fields.cursor c.fields.invariant c.in_ok-field.field-0 c.field.new.cursor c.in_ok-field.ensures)

pub fields-returns : goal.fields-returns
fields-returns t c = rw c.skip.ensures (fields_done c.args.left _ _ c.fields.fields c.fields.cursor c.fields.invariant (sym c.is_end.ensures ∙ c.fields-test.false))

pub value-returns-then-left-eq0 : goal.value-returns-then-left-eq0
value-returns-then-left-eq0 t c = value_none c.args.left c.args.kind c.args.cursor.now c.scalar.new.cursor c.scalar.result (omega arith) c.scalar.ensures

pub value-returns : goal.value-returns
value-returns t c = value_some c.args.left c.args.kind c.args.cursor.now c.container.new.cursor c.container.result (omega arith) c.container.ensures
