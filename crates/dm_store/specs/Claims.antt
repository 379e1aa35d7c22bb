-- What a store with claims holds.
use Rattle.std.specs.Prelude.{ℕ, List, Option, None}
use Rattle.dm_store.specs.Files.{Files}
use Rattle.dm_store.specs.declared.memory_store.MemoryStore.{MemoryStore}
use Rattle.dm_store.specs.declared.claim_store.ClaimStore.{ClaimStore}

-- it tells no files
abbrev pub claim_told : ClaimStore → Option Files
claim_told s = None

-- the store that it stands before
abbrev pub claim_inner : ClaimStore → MemoryStore
claim_inner s = s.inner

-- the paths that it takes for taken
abbrev pub claimed_paths : ClaimStore → List (List ℕ)
claimed_paths s = s.claimed

-- the names that it lists besides
abbrev pub added_names : ClaimStore → List (List ℕ)
added_names s = s.added

-- how often a put found its path taken or claimed
abbrev pub claim_taken : ClaimStore → ℕ
claim_taken s = s.taken
