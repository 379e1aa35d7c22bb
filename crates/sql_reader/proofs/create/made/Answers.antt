use Rattle.std.proofs.Common.{◌∙◌, sym}
use Rattle.sql_reader.proofs.Behind.{made_always, made_by_default}
use Rattle.sql_reader.proofs.create.made.Goals as goal
use Rattle.sql_reader.proofs.create.made.Goals.{then-sees+in_ok-made, else-sees+in_ok-made-2}

pub returns : goal.returns
returns c =
    elim c.if-sees.branch [
      | then-sees+in_ok-made w ↦ rw (w.made-is, w.tokens-is) (made_always c.args.source.now c.in_ok-generated.generated c.args.tokens.now c.take.new.self c.in_ok-generated.ensures (sym c.sees.ensures ∙ w.if-sees.true)
          ∙ w.in_ok-made.ensures)
      | else-sees+in_ok-made-2 w ↦ rw (w.made-is, w.tokens-is) (made_by_default c.args.source.now c.in_ok-generated.generated c.args.tokens.now c.take.new.self c.in_ok-generated.ensures (sym c.sees.ensures ∙ w.if-sees.false)
          ∙ w.in_ok-made-2.ensures)
    ]
