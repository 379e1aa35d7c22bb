-- What is asked of a struct that was found, and of the place of a fault.
use Rattle.std.specs.Prelude.{ℕ, ◌+◌, ◌<◌, ◌≤◌, List, ◌++◌, length, take}
use Rattle.thrift_compact.specs.Grammar.{IsVarint, IsStruct}
use Rattle.thrift_compact.specs.declared.tree.Field.{Field}

-- this struct at the front, of so many bytes
pub record IsFront (bytes : List ℕ) (tree : List Field) (size : ℕ) : Type 0 where
  pub within : size ≤ length bytes
  pub spelled : IsStruct (take size bytes) tree

-- this varint at the front, of so many bytes
pub record IsFrontVarint (bytes : List ℕ) (number size : ℕ) : Type 0 where
  pub within : size ≤ length bytes
  pub spelled : IsVarint 64 (take size bytes) number

-- The first place where no struct goes on: the bytes before it can be completed to a struct, and with the byte at
-- it they can't. Where it is the length, every byte goes on, and a struct needs more of them. A size that passes the
-- rest of the bytes is no fault by itself: more bytes might follow, so the fault is the first bad byte among the
-- elements, or the length.
pub record IsPlace (bytes : List ℕ) (at : ℕ) : Type 0 where
  pub within : at ≤ length bytes
  pub goes_on : (more : List ℕ) × (tree : List Field) × IsStruct (take at bytes ++ more) tree
  pub ends : at < length bytes
      → (more : List ℕ) (tree : List Field) → ¬ IsStruct (take (at + 1) bytes ++ more) tree
