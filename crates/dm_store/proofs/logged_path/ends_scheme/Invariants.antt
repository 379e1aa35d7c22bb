use Rattle.std.proofs.Common.{◌≡◌, drop}
use Rattle.dm_store.specs.LoggedPath.{ends_scheme}
use Rattle.dm_store.proofs.logged_path.ends_scheme.Given as goal

abbrev pub invariant-loop-byte : goal.invariant-loop-byte
invariant-loop-byte l = ends_scheme l.rest ≡ ends_scheme (drop l.byte-index l.rest)
