use Rattle.std.proofs.Common.{◌≡◌, ◌++◌, ◌∷◌, [], List, ◌∙◌, sym, ap, append_assoc}
use Rattle.sql_statements.specs.declared.CheckElement.{CheckElement}
use Rattle.sql_statements.specs.declared.ColumnElement.{ColumnElement}
use Rattle.sql_statements.specs.declared.Element.{Element}
use Rattle.sql_statements.specs.declared.Element.TheVariants as element
use Rattle.table_make.specs.NewProperties.{Pairs, check_pair, checks_of}
use Rattle.table_make.proofs.Following.{here}
use Rattle.table_make.proofs.configuration.push_checks.Goals as goal
use Rattle.table_make.proofs.configuration.push_checks.Goals.{in-Check+in_ok-check_pair+in_ok-push, in_default}

-- a constraint goes behind the pairs
one_more : (old pairs : Pairs) (elements rest left : List Element) (check : CheckElement)
    → old ++ checks_of elements ≡ pairs ++ checks_of left → left ≡ element.Check check ∷ rest
    → old ++ checks_of elements ≡ (pairs ++ check_pair check ∷ []) ++ checks_of rest
one_more old pairs elements rest left check so_far is =
    so_far ∙ ap (λ (list : List Element). pairs ++ checks_of list) is ∙ sym (append_assoc pairs (check_pair check ∷ []) (checks_of rest))

-- a column adds nothing
passed : (old pairs : Pairs) (elements rest left : List Element) (column : ColumnElement)
    → old ++ checks_of elements ≡ pairs ++ checks_of left → left ≡ element.Column column ∷ rest
    → old ++ checks_of elements ≡ pairs ++ checks_of rest
passed old pairs elements rest left column so_far is = so_far ∙ ap (λ (list : List Element). pairs ++ checks_of list) is

pub loop-element-preserved : goal.loop-element-preserved
loop-element-preserved c =
    let is = here c.args.elements.now c.loop-element.element-index c.element-item.result c.loop-element-test.true c.element-item.is in
    elim c.match-element.branch [
      | in-Check+in_ok-check_pair+in_ok-push w ↦
          rw (w.pairs-is, w.in_ok-push.ensures.ok, w.in_ok-check_pair.ensures)
          (one_more c.args.pairs.now c.loop-element.pairs c.args.elements.now _ _ w.in-Check.check c.loop-element.invariant (rw w.in-Check.is at is))
      | in_default w ↦
          rw w.pairs-is
          (passed c.args.pairs.now c.loop-element.pairs c.args.elements.now _ _ w.in_default.field-0 c.loop-element.invariant (rw w.in_default.is at is))
    ]
