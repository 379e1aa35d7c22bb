-- Reading elements one after the other.
use Rattle.std.proofs.Common.{List, ◌++◌, Option, option_map}

-- what was collected before, and what is still to come
abbrev pub after : {A : Type 0} → List A → Option (List A) → Option (List A)
after done more = option_map (λ rest. done ++ rest) more
