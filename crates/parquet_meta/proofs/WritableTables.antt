-- Trees that are made of tables are writable.
use Rattle.std.proofs.Common.{ℕ, ◌+◌, ◌<◌, List, [], ◌∷◌, ◌++◌, Option, Some, None, option_map, refl, arith, inl, inr, ℤ, pos}
use Rattle.std.specs.Prelude.{IfSome, FitsSigned}
use Rattle.std.specs.Int.{w16, w32, w64}
use Rattle.std.specs.List.{AllByRecursion}
use Rattle.thrift_compact.specs.Writable.{IsWholeOf, IsField, IsWritableValue, IsElement, AreElements}
use Rattle.thrift_compact.specs.Written.{whole_kind, form_of}
use Rattle.thrift_compact.specs.declared.tree.Node.{Node}
use Rattle.thrift_compact.specs.declared.tree.Node.TheVariants as n
use Rattle.thrift_compact.specs.declared.tree.Field.{Field}
use Rattle.parquet_meta.specs.Written as w

-- The law of thrift_compact on single values. Its types of elements can't be named here: that of a struct is told as the type of the empty one.
pub record WritableValues : Type 0 where
  pub whole : (left width : ℕ) (z : ℤ) → IsWholeOf width z → IsWritableValue left width (n.Whole z)
  pub binary : (left : ℕ) (bytes : List ℕ) → IsWritableValue left 0 (n.Binary bytes)
  pub structs : (left : ℕ) (fields : List Field) → AllByRecursion (IsField (IsWritableValue left)) fields → IsWritableValue (left + 1) 0 (n.Struct fields)
  pub lists : (left width : ℕ) (nodes : List Node) → AreElements (IsWritableValue left) width nodes → IsWritableValue (left + 1) width (n.List nodes)
  pub whole_element : (left width : ℕ) (z : ℤ) → IsWholeOf width z → IsElement (IsWritableValue left) width (whole_kind width) (n.Whole z)
  pub binary_element : (left : ℕ) (bytes : List ℕ) → IsElement (IsWritableValue left) 0 (form_of (n.Binary []) 0).kind (n.Binary bytes)
  pub struct_element : (left : ℕ) (fields : List Field) → AllByRecursion (IsField (IsWritableValue left)) fields → IsElement (IsWritableValue (left + 1)) 0 (form_of (n.Struct []) 0).kind (n.Struct fields)

-- the fields of a struct, in which so many more structs and lists may be open
abbrev pub AreFields : ℕ → List Field → Type 0
AreFields left fields = AllByRecursion (IsField (IsWritableValue left)) fields

pub record IsEntry (left : ℕ) (e : ℤ × Option (ℕ × Node)) : Type 0 where
  pub id : FitsSigned w16 e.0
  pub value : IfSome e.1 (λ v. IsWritableValue left v.0 v.1)

pub all-append : {A : Type 0} (P : A → Type 0) (xs ys : List A) → AllByRecursion P xs → AllByRecursion P ys → AllByRecursion P (xs ++ ys)
all-append P [] ys h k = k
all-append P (x ∷ xs) ys h k = (h.0, all-append P xs ys h.1 k)

entry_writable : (left : ℕ) (id : ℤ) (o : Option (ℕ × Node)) → FitsSigned w16 id → IfSome o (λ v. IsWritableValue left v.0 v.1) → AreFields left (w.entry id o)
entry_writable left id None f h = tt
entry_writable left id (Some v) f h = (record { id = f; value = h }, tt)

onto_writable : (left : ℕ) (fields : List Field) (table : List (ℤ × Option (ℕ × Node))) → AreFields left fields → AllByRecursion (IsEntry left) table → AreFields left (w.onto fields table)
onto_writable left fields [] have h = have
onto_writable left fields (e ∷ es) have h =
    onto_writable left (fields ++ w.entry e.0 e.1) es (all-append (IsField (IsWritableValue left)) fields (w.entry e.0 e.1) have (entry_writable left e.0 e.1 h.0.id h.0.value)) h.1

pub table_writable : (left : ℕ) (table : List (ℤ × Option (ℕ × Node))) → AllByRecursion (IsEntry left) table → AreFields left (w.fields_of table)
table_writable left table h = onto_writable left [] table tt h

pub if_map : {A B : Type 0} (P : A → Type 0) (Q : B → Type 0) (f : A → B) (o : Option A) → ((a : A) → P a → Q (f a)) → IfSome o P → IfSome (option_map f o) Q
if_map P Q f None k h = tt
if_map P Q f (Some a) k h = k a h

pub is_32 : (z : ℤ) → FitsSigned w32 z → IsWholeOf 32 z
is_32 z h = inr (inr (inl (refl, h)))

pub is_64 : (z : ℤ) → FitsSigned w64 z → IsWholeOf 64 z
is_64 z h = inr (inr (inr (refl, h)))

-- ids below 16
pub id_fits : (k : ℕ) → k < 16 → FitsSigned w16 (pos k)
id_fits k h = omega arith

module _ (law : WritableValues) where
  pub entry_32 : (left k : ℕ) (z : ℤ) → k < 16 → FitsSigned w32 z → IsEntry left (pos k, Some (w.whole_32 z))
  entry_32 left k z small h = record { id = id_fits k small; value = law.whole left 32 z (is_32 z h) }

  pub entry_maybe_32 : (left k : ℕ) (o : Option ℤ) → k < 16 → IfSome o (FitsSigned w32) → IsEntry left (pos k, option_map w.whole_32 o)
  entry_maybe_32 left k o small h = record { id = id_fits k small; value = if_map (FitsSigned w32) (λ v. IsWritableValue left v.0 v.1) w.whole_32 o (λ z f. law.whole left 32 z (is_32 z f)) h }

  pub entry_64 : (left k : ℕ) (z : ℤ) → k < 16 → FitsSigned w64 z → IsEntry left (pos k, Some (w.whole_64 z))
  entry_64 left k z small h = record { id = id_fits k small; value = law.whole left 64 z (is_64 z h) }

  pub entry_maybe_64 : (left k : ℕ) (o : Option ℤ) → k < 16 → IfSome o (FitsSigned w64) → IsEntry left (pos k, option_map w.whole_64 o)
  entry_maybe_64 left k o small h = record { id = id_fits k small; value = if_map (FitsSigned w64) (λ v. IsWritableValue left v.0 v.1) w.whole_64 o (λ z f. law.whole left 64 z (is_64 z f)) h }

  pub entry_bytes : (left k : ℕ) (b : List ℕ) → k < 16 → IsEntry left (pos k, Some (w.bytes b))
  entry_bytes left k b small = record { id = id_fits k small; value = law.binary left b }

  pub inner_writable : (left : ℕ) (table : List (ℤ × Option (ℕ × Node))) → AllByRecursion (IsEntry left) table → IsWritableValue (left + 1) 0 (w.inner table)
  inner_writable left table h = law.structs left (w.fields_of table) (table_writable left table h)
