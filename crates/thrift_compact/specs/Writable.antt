-- Which trees are written.
use Rattle.std.specs.Prelude.{◌≡◌, ◌⊎◌, ⊤, ℕ, zero, suc, ℤ, List, [], ◌∷◌, length, FitsSigned}
use Rattle.std.specs.Int.{w8, w16, w32, w64}
use Rattle.std.specs.List.{AllByRecursion}
use Rattle.thrift_compact.specs.Written.{form_of}
use Rattle.thrift_compact.specs.declared.kind.Kind.{Kind}
use Rattle.thrift_compact.specs.declared.tree.Node.{Node, out-Node}
use Rattle.thrift_compact.specs.declared.tree.Node.TheOpen.{Node-F}
use Rattle.thrift_compact.specs.declared.tree.Field.{Field, out-Field}
use Rattle.thrift_compact.specs.declared.tree.TheConstants.{MAX_INNER}

-- a whole number fits its width, which is 8, 16, 32 or 64 bits
abbrev pub IsWholeOf : ℕ → ℤ → Type 0
IsWholeOf width z =
    ((width ≡ 8) × FitsSigned w8 z)
    ⊎ (((width ≡ 16) × FitsSigned w16 z) ⊎ (((width ≡ 32) × FitsSigned w32 z) ⊎ ((width ≡ 64) × FitsSigned w64 z)))

-- a value that holds no others; only a whole number has a width
abbrev pub IsPlain : ℕ → Node-F Node Field → Type 0
IsPlain width (Node-F.Bool b) = width ≡ 0
IsPlain width (Node-F.Whole z) = IsWholeOf width z
IsPlain width (Node-F.Double bytes) = (width ≡ 0) × (length bytes ≡ 8)
IsPlain width (Node-F.Binary bytes) = width ≡ 0
IsPlain width (Node-F.List nodes) = ⊥
IsPlain width (Node-F.Set nodes) = ⊥
IsPlain width (Node-F.Map pairs) = ⊥
IsPlain width (Node-F.Struct fields) = ⊥

abbrev pub IsNoList : Node-F Node Field → Type 0
IsNoList (Node-F.Bool b) = ⊤
IsNoList (Node-F.Whole z) = ⊤
IsNoList (Node-F.Double bytes) = ⊤
IsNoList (Node-F.Binary bytes) = ⊤
IsNoList (Node-F.List nodes) = ⊥
IsNoList (Node-F.Set nodes) = ⊥
IsNoList (Node-F.Map pairs) = ⊥
IsNoList (Node-F.Struct fields) = ⊤

-- an element of a list whose elements are of this type
pub record IsElement (inner : ℕ → Node → Type 0) (width : ℕ) (kind : Kind) (node : Node) : Type 0 where
  pub alone : IsNoList (out-Node node)
  pub same : (form_of node width).kind ≡ kind
  pub value : inner width node

-- elements of one type, none of them a list, a set or a map; the width is that of whole numbers among them
abbrev pub AreElements : (ℕ → Node → Type 0) → ℕ → List Node → Type 0
AreElements inner width [] = width ≡ 0
AreElements inner width (node ∷ nodes) = (kind : Kind) × AllByRecursion (IsElement inner width kind) (node ∷ nodes)

-- The id is one of 16 bits, as every id of a tree; a law doesn't know this of itself.
pub record IsField (inner : ℕ → Node → Type 0) (field : Field) : Type 0 where
  pub id : FitsSigned w16 (out-Field field).id
  pub value : inner (out-Field field).width (out-Field field).node

-- a value, where `inner` is asked of what is in it; no map is written
abbrev pub IsLevel : (ℕ → Node → Type 0) → ℕ → Node-F Node Field → Type 0
IsLevel inner width (Node-F.List nodes) = AreElements inner width nodes
IsLevel inner width (Node-F.Set nodes) = AreElements inner width nodes
IsLevel inner width (Node-F.Struct fields) = (width ≡ 0) × AllByRecursion (IsField inner) fields
IsLevel inner width node = IsPlain width node

-- a value of this width, where so many structs, lists and sets may be open in it, itself counted
unfoldable pub IsWritableValue : ℕ → ℕ → Node → Type 0
IsWritableValue zero width node = IsPlain width (out-Node node)
IsWritableValue (suc left) width node = IsLevel (IsWritableValue left) width (out-Node node)

-- A tree that is written: it holds no map and no list or set within a list or a set, each list holds one type, its
-- whole numbers fit their width, and it nests no deeper than what is read.
abbrev pub IsWritable : List Field → Type 0
IsWritable tree = AllByRecursion (IsField (IsWritableValue MAX_INNER)) tree
