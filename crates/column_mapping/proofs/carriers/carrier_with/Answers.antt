use Rattle.std.proofs.Common.{◌∙◌, FitsSigned, w32, rules}
use Rattle.std.proofs.lemmas.Int.{to_z-of_z}
use Rattle.column_mapping.proofs.carriers.carrier_with.Goals as goal

pub returns-in-Some : goal.returns-in-Some
returns-in-Some c =
    let fits : FitsSigned w32 c.in-Some.id = search rules in
    rw c.in-Some.is (c.copied.ensures ∙ simp to_z-of_z at c.get.ensures.value)
