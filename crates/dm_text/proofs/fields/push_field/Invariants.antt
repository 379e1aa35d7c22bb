use Rattle.std.proofs.Common.{◌≡◌, ◌++◌, take}
use Rattle.dm_text.specs.Printing as spec
use Rattle.dm_text.proofs.fields.push_field.Given as goal

abbrev pub invariant-loop-byte : goal.invariant-loop-byte
invariant-loop-byte l = l.out ≡ l.fn.out ++ spec.field (take l.byte-index l.text)
