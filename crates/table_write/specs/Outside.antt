-- What a statement finds of the outside, and what it leaves.
use Rattle.std.specs.Prelude.{ℕ, ℤ, List, Option}
use Rattle.dm_store.specs.Files.{Files}

pub record Outside : Type 0 where
  -- the files of the store, where it tells them
  pub files : Option Files
  -- how often a put found its path taken
  pub taken : ℕ
  -- the names that were drawn, where their source tells them
  pub names : Option (List (List ℕ))
  -- the times that the clock gave, where it tells them
  pub times : Option (List ℤ)

-- these files, so many paths that were found taken, these names and these times
abbrev pub outside : Option Files → ℕ → Option (List (List ℕ)) → Option (List ℤ) → Outside
outside files taken names times = record { files = files; taken = taken; names = names; times = times }
