use Rattle.std.proofs.Common.{◌∙◌, sym}
use Rattle.sql_reader.proofs.Behind.{always_computed, always_identity}
use Rattle.sql_reader.proofs.create.always.Goals as goal
use Rattle.sql_reader.proofs.create.always.Goals.{then-sees+in_ok-made, else-sees+in_ok-made-2}

pub returns : goal.returns
returns c =
    elim c.if-sees.branch [
      | then-sees+in_ok-made w ↦ rw (w.made-is, w.tokens-is) (always_computed c.args.source.now c.args.generated c.args.tokens.now c.take.new.self c.take-2.new.self c.in_ok-take.field-0 c.in_ok-take-2.field-0 c.in_ok-take.ensures c.in_ok-take-2.ensures (sym c.sees.ensures ∙ w.if-sees.true)
          ∙ w.in_ok-made.ensures)
      | else-sees+in_ok-made-2 w ↦ rw (w.made-is, w.tokens-is) (always_identity c.args.source.now c.args.generated c.args.tokens.now c.take.new.self c.take-2.new.self c.in_ok-take.field-0 c.in_ok-take-2.field-0 c.in_ok-take.ensures c.in_ok-take-2.ensures (sym c.sees.ensures ∙ w.if-sees.false)
          ∙ w.in_ok-made-2.ensures)
    ]
