-- A leaf that is named is one of the file's.
use Rattle.std.proofs.Common.{◌≡◌, ℕ, ◌+◌, ◌<◌, List, [], ◌∷◌, length, map, Bool, true, false, cond, refl, ap, subst, zero-add, arith}
use Rattle.std.specs.List.{All, filter, enumerate_from}
use Rattle.std.proofs.lemmas.List.Elements.{All-map, All-same}
use Rattle.delta_schema.specs.declared.schema.ColumnDef.{ColumnDef}
use Rattle.parquet_meta.specs.declared.metadata.LeafSchema.{LeafSchema}
use Rattle.column_mapping.specs.declared.places.PlaceChoice.{PlaceChoice}
use Rattle.column_mapping.specs.declared.places.PlaceChoice.TheVariants as choice
use Rattle.column_mapping.specs.Places.{carriers, choice_of, place_by, IsWithin}

-- the same, behind one more leaf
later_within : (test : LeafSchema → Bool) (n : ℕ) (leaf : LeafSchema) (leaves : List LeafSchema) (first : ℕ × LeafSchema) (more : List (ℕ × LeafSchema)) (passes : Bool) → test leaf ≡ passes
    → filter (λ (it : ℕ × LeafSchema). test it.1) (enumerate_from n (leaf ∷ leaves)) ≡ first ∷ more → ((rest : filter (λ (it : ℕ × LeafSchema). test it.1) (enumerate_from (n + 1) leaves) ≡ first ∷ more) → first.0 < n + 1 + length leaves) → first.0 < n + length (leaf ∷ leaves)
later_within test n leaf leaves first more true is all next =
    let here : (n, leaf) ≡ first = let e = rw is at all in cc in
    let at : n ≡ first.0 = ap (λ (it : ℕ × LeafSchema). it.0) here in
    omega arith
later_within test n leaf leaves first more false is all next =
    let below : first.0 < n + 1 + length leaves = next (rw is at all) in
    omega arith

-- the first of the leaves that pass a test
first_within : (test : LeafSchema → Bool) (n : ℕ) (leaves : List LeafSchema) (first : ℕ × LeafSchema) (more : List (ℕ × LeafSchema)) → filter (λ (it : ℕ × LeafSchema). test it.1) (enumerate_from n leaves) ≡ first ∷ more → first.0 < n + length leaves
first_within test n [] first more all = absurd cc
first_within test n (leaf ∷ leaves) first more all = later_within test n leaf leaves first more (test leaf) refl all (first_within test (n + 1) leaves first more)

single_within : (leaves : List LeafSchema) (at : ℕ) (top : Bool) → at < length leaves → IsWithin leaves (cond top (choice.At at) choice.Wrong)
single_within leaves at true within = within
single_within leaves at false within = tt

missing_within : (leaves : List LeafSchema) (nullable : Bool) → IsWithin leaves (cond nullable choice.Missing choice.Wrong)
missing_within leaves true = tt
missing_within leaves false = tt

choice_within : (test : LeafSchema → Bool) (leaves : List LeafSchema) (nullable : Bool) (all : List (ℕ × LeafSchema)) → carriers test leaves ≡ all → IsWithin leaves (choice_of nullable all)
unfolding carriers
choice_within test leaves nullable [] is = missing_within leaves nullable
choice_within test leaves nullable (one ∷ []) is = single_within leaves one.0 one.1.top (subst (λ (n : ℕ). one.0 < n) (zero-add (length leaves)) (first_within test 0 leaves one [] is))
choice_within test leaves nullable (first ∷ second ∷ more) is = tt

pub carriers_within : (test : LeafSchema → Bool) (leaves : List LeafSchema) (nullable : Bool) → IsWithin leaves (choice_of nullable (carriers test leaves))
carriers_within test leaves nullable = choice_within test leaves nullable (carriers test leaves) refl

unless_partition : (leaves : List LeafSchema) (partition : Bool) (own : PlaceChoice) → IsWithin leaves own → IsWithin leaves (cond partition choice.Partition own)
unless_partition leaves true own within = tt
unless_partition leaves false own within = within

place_within : (test : ColumnDef → LeafSchema → Bool) (leaves : List LeafSchema) (column : ColumnDef) → IsWithin leaves (place_by test leaves column)
place_within test leaves column = unless_partition leaves column.partition (choice_of column.nullable (carriers (test column) leaves)) (carriers_within (test column) leaves column.nullable)

-- the places of columns
pub choices_within : (test : ColumnDef → LeafSchema → Bool) (leaves : List LeafSchema) (columns : List ColumnDef) (choices : List PlaceChoice) → choices ≡ map (place_by test leaves) columns → All (IsWithin leaves) choices
choices_within test leaves columns choices is = All-same (IsWithin leaves) choices (map (place_by test leaves) columns) is (All-map (IsWithin leaves) (place_by test leaves) columns (λ k d within. place_within test leaves _))
