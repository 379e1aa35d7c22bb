-- Schemas as trees in preorder (parquet.thrift, FileMetaData.schema): a group is followed by as many trees as it has
-- children.
use Rattle.std.specs.Prelude.{◌≡◌, ℕ, suc, true, false, List, [], ◌∷◌, ◌++◌, Some}
use Rattle.parquet_meta.specs.declared.elements.Element.{Element}
use Rattle.parquet_meta.specs.declared.metadata.LeafSchema.{LeafSchema}
use Rattle.parquet_meta.specs.Leaves.{count_of, own_leaves}

-- so many trees one after another below the top-level element `owner`, and their leaves
pub data AreInside (owner : Element) : ℕ → List Element → List LeafSchema → Type 0 where
  no_tree : AreInside owner 0 [] []
  tree_inside : (e : Element) (children more : ℕ) (inner others : List Element) (own below rest : List LeafSchema)
      → count_of e.children ≡ Some children → own_leaves false owner e children ≡ Some own
      → AreInside owner children inner below → AreInside owner more others rest
      → AreInside owner (suc more) (e ∷ (inner ++ others)) (own ++ (below ++ rest))

-- so many trees one after another at the top, and their leaves
pub data AreTop : ℕ → List Element → List LeafSchema → Type 0 where
  nothing : AreTop 0 [] []
  tree_at_top : (e : Element) (children more : ℕ) (inner others : List Element) (own below rest : List LeafSchema)
      → count_of e.children ≡ Some children → own_leaves true e e children ≡ Some own
      → AreInside e children inner below → AreTop more others rest
      → AreTop (suc more) (e ∷ (inner ++ others)) (own ++ (below ++ rest))

-- a root, and as many trees at the top as it has children
abbrev pub IsSchema : List Element → List LeafSchema → Type 0
IsSchema [] leaves = ⊥
IsSchema (root ∷ elements) leaves =
    (children : ℕ) × (count_of root.children ≡ Some children) × AreTop children elements leaves
