-- Parts of a script.
use Rattle.std.specs.Prelude.{ℕ, ◌-◌, ◌≤◌, List, take, drop}
use Rattle.sql_tree.specs.declared.token.Span.{Span}

-- the bytes of a part
abbrev pub slice : List ℕ → Span → List ℕ
slice script part = take (part.«end» - part.start) (drop part.start script)

-- the part begins and ends within so many bytes
pub record IsPlaced (size : ℕ) (part : Span) : Type 0 where
  pub starts : part.start ≤ size
  pub ends : part.«end» ≤ size
