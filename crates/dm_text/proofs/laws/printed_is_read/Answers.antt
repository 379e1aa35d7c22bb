use Rattle.std.proofs.Common.{FitsSigned, w64, arith}
use Rattle.std.proofs.lemmas.Int.{to_z-of_z}
use Rattle.jiff_core.proofs.SignedLemmas.{signed_arith}
use Rattle.dm_text.proofs.Back.{back}
use Rattle.dm_text.proofs.laws.printed_is_read.Goals as goal

pub returns : goal.returns
returns c =
    let fits : FitsSigned w64 c.day_of.result = omega (arith, signed_arith, c.day_of.ensures.range) in
    let parts = simp to_z-of_z at c.date_of.ensures in
    λ read. back c.args.kind.now c.args.value.now _ _ _ c.requires c.text_is_utf8.ensures (rw c.day_of.ensures.value at parts) read
