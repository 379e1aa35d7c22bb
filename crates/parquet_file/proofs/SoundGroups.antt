-- A sound footer's row groups have a chunk for each leaf.
use Rattle.std.proofs.Common.{◌≡◌, ℕ, ◌<◌, ◌≤ℤ◌, Bool, true, List, length, get_or, ℤ, pos, arith}
use Rattle.std.proofs.lemmas.Bool.{and_parts, eqb-true}
use Rattle.std.proofs.lemmas.Int.{ints}
use Rattle.std.proofs.lemmas.List.Sums.{AllPass-from_list_all}
use Rattle.std.specs.Int.Signed.{le_z}
use Rattle.std.specs.Prelude.{All}
use Rattle.parquet_meta.specs.Meaning.{has_chunks, IsSound}
use Rattle.parquet_meta.specs.declared.metadata.Footer.{Footer}
use Rattle.parquet_meta.specs.declared.metadata.LeafSchema.{LeafSchema}
use Rattle.parquet_meta.specs.declared.metadata.RowGroup.{RowGroup}
use Rattle.parquet_file.specs.Groups.{HasChunk}

not_negative : (z : ℤ) → le_z (pos 0) z ≡ true → pos 0 ≤ℤ z
not_negative z h = grind (arith, ints)

has_chunk : (leaves : List LeafSchema) (i : ℕ) (group : RowGroup) → i < length leaves → has_chunks leaves group ≡ true → le_z (pos 0) group.rows ≡ true → HasChunk i group
has_chunk leaves i group within chunks rows =
    let same : length group.chunks ≡ length leaves = eqb-true (length group.chunks) (length leaves) (and_parts _ _ chunks).0 in
    record { chunk = omega (arith, same, within); rows = not_negative group.rows rows }

pub groups-have : (f : Footer) (i : ℕ) → IsSound f → i < length f.leaves → All (HasChunk i) f.groups
groups-have f i sound within = λ k d l.
    let parts = and_parts _ _ sound.groups in
    let P : RowGroup → Bool = λ group. le_z (pos 0) group.rows in
    has_chunk f.leaves i (get_or f.groups k d) within (AllPass-from_list_all (has_chunks f.leaves) f.groups parts.0 k d l) (AllPass-from_list_all P f.groups (and_parts _ _ parts.1).0 k d l)
