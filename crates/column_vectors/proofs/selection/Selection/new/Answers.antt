use Rattle.column_vectors.proofs.Bits.{no_rows}
use Rattle.column_vectors.proofs.Tested.{flags_of-none}
use Rattle.column_vectors.proofs.selection.Selection.new.Goals as goal

pub invariant_of-result : goal.invariant_of-result
invariant_of-result c = no_rows c.new.result.items c.new.ensures.items

pub returns : goal.returns
returns c = flags_of-none _
