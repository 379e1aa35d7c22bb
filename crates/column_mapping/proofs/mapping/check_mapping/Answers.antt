use Rattle.std.proofs.Common.{◌∙◌, refl, inl, inr}
use Rattle.column_mapping.proofs.Firsts.{no_mapping, same_in_both}
use Rattle.column_mapping.proofs.mapping.check_mapping.Goals as goal

pub returns-in-Plain : goal.returns-in-Plain
returns-in-Plain c = rw c.in-Plain.is (no_mapping c.args.schema.now)

pub returns-in-ByName : goal.returns-in-ByName
returns-in-ByName c =
    rw (← c.as_slice.ensures) (c.first_unmarked.ensures ∙ elim c.in-ByName.is [
      | inl is ↦ rw is (same_in_both c.as_slice.result.now)
      | inr is ↦ rw is refl
    ])
