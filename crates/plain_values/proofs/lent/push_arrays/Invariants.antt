use Rattle.std.proofs.Common.{◌≡◌, ◌++◌, take}
use Rattle.std.specs.List.{flat_map}
use Rattle.plain_values.specs.Forms.{array_bytes}
use Rattle.plain_values.proofs.lent.push_arrays.Given as goal

abbrev pub invariant-loop-array : goal.invariant-loop-array
invariant-loop-array l = l.out ≡ l.fn.out ++ flat_map (λ array. array_bytes array.now) (take l.array-index l.arrays)
