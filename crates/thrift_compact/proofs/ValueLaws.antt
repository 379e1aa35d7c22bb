-- Values of every type are read as they are spelled.
use Rattle.std.proofs.Common.{◌≡◌, inl, inr, ℕ, zero, suc, ◌+◌, ◌*◌, ◌<◌, eqb, ltb, Bool, true, false, cond, List, [], ◌∷◌, ◌++◌, Option, Some, None, refl, sym, ap, subst, ◌∙◌, arith, ℤ, pos}
use Rattle.std.specs.Int.{cast_signed, w8}
use Rattle.std.proofs.lemmas.Bool.{eqb-true, ltb-true}
use Rattle.thrift_compact.specs.Kinds.{code_of, may_stand, is_container}
use Rattle.thrift_compact.specs.Values.{plain, sized, list_width, field_of, truth_of, entry_kinds}
use Rattle.thrift_compact.specs.Grammar as g
use Rattle.thrift_compact.specs.Grammar.{Form, Nothing, Made, Then, Times}
use Rattle.thrift_compact.specs.Reading as r
use Rattle.thrift_compact.specs.Reading.{Outcome, Reader, ◌>>=◌, made, one, times}
use Rattle.thrift_compact.specs.declared.kind.Kind.{Kind}
use Rattle.thrift_compact.specs.declared.kind.Kind.TheVariants as kind
use Rattle.thrift_compact.specs.declared.header.EntryKinds.{EntryKinds}
use Rattle.thrift_compact.specs.declared.value.Value.{Value}
use Rattle.thrift_compact.specs.declared.tree.Node.{Node}
use Rattle.thrift_compact.specs.declared.tree.Node.TheVariants as n
use Rattle.thrift_compact.specs.declared.tree.Field.{Field}
use Rattle.thrift_compact.proofs.Forms.{IsReaderOf, same_reads, made_reads, nothing_reads, then_reads, byte_reads, bytes_reads, times_reads, ByteOf}
use Rattle.thrift_compact.proofs.Numbers.{varint_reads, whole_reads}
use Rattle.thrift_compact.proofs.KindLaws.{code_range}
use Rattle.thrift_compact.proofs.Headers.{field_header_reads, list_header_reads, entry_kinds_reads}
use Rattle.thrift_compact.proofs.FieldLaws.{Starts, fields_read}

-- ---- values that hold no others

truth_by : (b : ℕ) (t : Bool) (one_is zero_is two_is : Bool) → eqb b 1 ≡ one_is → eqb b 0 ≡ zero_is → eqb b 2 ≡ two_is → truth_of b ≡ Some t → g.IsTruth (b ∷ []) t
truth_by b true true z w e f h is = ap (λ c. c ∷ []) (eqb-true b 1 e)
truth_by b false true z w e f h is = absurd (let no_truth : ◌≡◌ {A = Option Bool} (Some true) (Some false) = rw e at is in cc)
truth_by b true false true w e f h is = absurd (let no_truth : ◌≡◌ {A = Option Bool} (Some false) (Some true) = rw (e, f) at is in cc)
truth_by b false false true w e f h is = inr (ap (λ c. c ∷ []) (eqb-true b 0 f))
truth_by b true false false true e f h is = absurd (let no_truth : ◌≡◌ {A = Option Bool} (Some false) (Some true) = rw (e, f, h) at is in cc)
truth_by b false false false true e f h is = inl (ap (λ c. c ∷ []) (eqb-true b 2 h))
truth_by b t false false false e f h is = absurd (let no_truth : ◌≡◌ {A = Option Bool} None (Some t) = rw (e, f, h) at is in cc)

truth_back : (bytes : List ℕ) (t : Bool) → g.IsTruth bytes t → ByteOf truth_of bytes t
truth_back bytes true is = (1, is, refl)
truth_back bytes false (inl is) = (2, is, refl)
truth_back bytes false (inr is) = (0, is, refl)

truth_reads : IsReaderOf g.IsTruth (one truth_of)
truth_reads = same_reads g.IsTruth (byte_reads truth_of 1 true refl) (λ bytes t is. subst (λ z. g.IsTruth z t) (sym is.1) (truth_by is.0 t _ _ _ refl refl refl is.2)) truth_back

signed_byte_reads : IsReaderOf g.IsSignedByte (one r.signed_byte)
signed_byte_reads = same_reads g.IsSignedByte (byte_reads r.signed_byte 0 (cast_signed w8 0) refl)
    (λ bytes z is. (is.0, is.1, let e : ◌≡◌ {A = Option ℤ} (Some (cast_signed w8 is.0)) (Some z) = is.2 in cc))
    (λ bytes z is. (is.0, is.1, ap Some (sym is.2)))

binary_reads : IsReaderOf g.IsBinary r.binary
binary_reads = then_reads (λ x. Unit {0}) (g.IsVarint 64) (r.varint 64) g.IsBytes r.exactly (varint_reads 64) (λ front x is. tt) (λ size p. bytes_reads size)

scalar_reads : (k : Kind) → is_container k ≡ false → IsReaderOf (g.IsScalar k) (r.scalar k)
scalar_reads kind.True h = made_reads (λ t. plain (n.Bool t)) g.IsTruth (one truth_of) truth_reads
scalar_reads kind.False h = made_reads (λ t. plain (n.Bool t)) g.IsTruth (one truth_of) truth_reads
scalar_reads kind.I8 h = made_reads (sized 8) g.IsSignedByte (one r.signed_byte) signed_byte_reads
scalar_reads kind.I16 h = made_reads (sized 16) (g.IsWhole 16) (r.whole 16) (whole_reads 16)
scalar_reads kind.I32 h = made_reads (sized 32) (g.IsWhole 32) (r.whole 32) (whole_reads 32)
scalar_reads kind.I64 h = made_reads (sized 64) (g.IsWhole 64) (r.whole 64) (whole_reads 64)
scalar_reads kind.Double h = made_reads (λ bytes. plain (n.Double bytes)) (g.IsBytes 8) (r.exactly 8) (bytes_reads 8)
scalar_reads kind.Binary h = made_reads (λ bytes. plain (n.Binary bytes)) g.IsBinary r.binary binary_reads
scalar_reads kind.List h = absurd (cc)
scalar_reads kind.Set h = absurd (cc)
scalar_reads kind.Map h = absurd (cc)
scalar_reads kind.Struct h = absurd (cc)

-- ---- a field takes a byte that isn't 0

pub field_starts : (left : ℕ) (inner : Kind → Form Value) (last : ℤ) (front : List ℕ) (x : Field) → g.IsField left inner last front x → Starts front
field_starts left inner last front x (h, a, b, split, (inl (delta, above, whole, id, below), stands), value) = record {
  first = 16 * delta + code_of h.kind;
  behind = b;
  split = split ∙ ap (λ z. z ++ b) whole;
  some = grind (arith, above);
}
field_starts left inner last front x (h, a, b, split, (inr (back, whole, id), stands), value) = record {
  first = code_of h.kind;
  behind = back ++ b;
  split = split ∙ ap (λ z. z ++ b) whole;
  some = let range = code_range h.kind in let above : 0 < code_of h.kind = range.low in grind (arith, above);
}

-- ---- values that hold others

module _ (left : ℕ) (I : Kind → Form Value) (i : Kind → Reader Value) (reads : (k : Kind) → may_stand left k ≡ true → IsReaderOf (I k) (i k)) where
  node_reads : (k : Kind) → may_stand left k ≡ true → IsReaderOf (g.IsNode (I k)) (r.node (i k))
  node_reads k stands = made_reads (λ v. v.node) (I k) (i k) (reads k stands)

  -- no elements are read where none may stand
  no_elements : (k : Kind) → IsReaderOf (Times (g.IsNode (I k)) 0) (times (r.node (i k)) 0)
  unfolding times
  no_elements k = same_reads (Times (g.IsNode (I k)) 0) (nothing_reads []) (λ bytes xs is. subst (λ z. Times (g.IsNode (I k)) 0 bytes z) (sym is.1) (refl, is.0)) back
    where
      back : (bytes : List ℕ) (xs : List Node) → Times (g.IsNode (I k)) 0 bytes xs → Nothing [] bytes xs
      back bytes [] is = (is.1, refl)
      back bytes (x ∷ xs) is = absurd (omega (arith, is.0))

  elements_read : (k : Kind) (count : ℕ) → g.MayHold left k count → IsReaderOf (Times (g.IsNode (I k)) count) (times (r.node (i k)) count)
  elements_read k count (inr stands) = times_reads (g.IsNode (I k)) (r.node (i k)) (node_reads k stands) count
  elements_read k count (inl none) = subst (λ c. IsReaderOf (Times (g.IsNode (I k)) c) (times (r.node (i k)) c)) (sym none) (no_elements k)

  list_reads : IsReaderOf (g.IsList left I) (r.list left i)
  list_reads = then_reads (λ h. g.MayHold left h.kind h.size) (g.IsListHeader left) (r.list_header left)
      (λ h. Made (λ nodes. (nodes, list_width h.kind nodes)) (Times (g.IsNode (I h.kind)) h.size))
      (λ h bytes. made (λ nodes. (nodes, list_width h.kind nodes)) (times (r.node (i h.kind)) h.size bytes))
      (list_header_reads left) (λ front h is. is.1)
      (λ h holds. made_reads (λ nodes. (nodes, list_width h.kind nodes)) (Times (g.IsNode (I h.kind)) h.size) (times (r.node (i h.kind)) h.size) (elements_read h.kind h.size holds))

  entry_reads : (k v : Kind) → may_stand left k ≡ true → may_stand left v ≡ true → IsReaderOf (g.IsEntry (g.IsNode (I k)) (g.IsNode (I v))) (r.entry (r.node (i k)) (r.node (i v)))
  entry_reads k v stands also = then_reads (λ x. Unit {0}) (g.IsNode (I k)) (r.node (i k)) (λ key. Made (λ value. (key, value)) (g.IsNode (I v))) (λ key bytes. made (λ value. (key, value)) (r.node (i v) bytes))
      (node_reads k stands) (λ front x is. tt) (λ key p. made_reads (λ value. (key, value)) (g.IsNode (I v)) (r.node (i v)) (node_reads v also))

  record Stand (kinds : EntryKinds) : Type 0 where
    pub key : may_stand left kinds.key ≡ true
    pub value : may_stand left kinds.value ≡ true

  entries_read : (count : ℕ) → IsReaderOf (g.IsEntries left I count) (r.entries left i count)
  entries_read zero = nothing_reads []
  entries_read (suc more) = then_reads Stand (g.IsEntryKinds left) (one (entry_kinds left))
      (λ kinds. Times (g.IsEntry (g.IsNode (I kinds.key)) (g.IsNode (I kinds.value))) (suc more))
      (λ kinds bytes. times (r.entry (r.node (i kinds.key)) (r.node (i kinds.value))) (suc more) bytes)
      (entry_kinds_reads left) (λ front kinds is. record { key = is.1; value = is.2 })
      (λ kinds stand. times_reads (g.IsEntry (g.IsNode (I kinds.key)) (g.IsNode (I kinds.value))) (r.entry (r.node (i kinds.key)) (r.node (i kinds.value))) (entry_reads kinds.key kinds.value stand.key stand.value) (suc more))

  map_reads : IsReaderOf (g.IsMap left I) (r.map left i)
  map_reads = then_reads (λ x. Unit {0}) (g.IsVarint 64) (r.varint 64) (g.IsEntries left I) (r.entries left i) (varint_reads 64) (λ front x is. tt) (λ size p. entries_read size)

  field_value_reads : (k : Kind) → may_stand left k ≡ true → IsReaderOf (g.IsFieldValue I k) (r.field_value i k)
  field_value_reads kind.True stands = nothing_reads (plain (n.Bool true))
  field_value_reads kind.False stands = nothing_reads (plain (n.Bool false))
  field_value_reads kind.I8 stands = reads kind.I8 stands
  field_value_reads kind.I16 stands = reads kind.I16 stands
  field_value_reads kind.I32 stands = reads kind.I32 stands
  field_value_reads kind.I64 stands = reads kind.I64 stands
  field_value_reads kind.Double stands = reads kind.Double stands
  field_value_reads kind.Binary stands = reads kind.Binary stands
  field_value_reads kind.List stands = reads kind.List stands
  field_value_reads kind.Set stands = reads kind.Set stands
  field_value_reads kind.Map stands = reads kind.Map stands
  field_value_reads kind.Struct stands = reads kind.Struct stands

  pub field_reads : (last : ℤ) → IsReaderOf (g.IsField left I last) (r.field left i last)
  field_reads last = then_reads (λ h. may_stand left h.kind ≡ true) (g.IsFieldHeader left last) (r.field_header left last)
      (λ h. Made (field_of h.id) (g.IsFieldValue I h.kind)) (λ h bytes. made (field_of h.id) (r.field_value i h.kind bytes))
      (field_header_reads left last) (λ front h is. is.1)
      (λ h stands. made_reads (field_of h.id) (g.IsFieldValue I h.kind) (r.field_value i h.kind) (field_value_reads h.kind stands))

  pub struct_reads : (last : ℤ) → IsReaderOf (g.IsFields (g.IsField left I) last) (r.fields left i last)
  struct_reads last = fields_read (g.IsField left I) (r.field left i) field_reads (field_starts left I) last

  level_reads : (k : Kind) → IsReaderOf (g.IsLevel left I k) (r.level left i k)
  level_reads kind.True = scalar_reads kind.True refl
  level_reads kind.False = scalar_reads kind.False refl
  level_reads kind.I8 = scalar_reads kind.I8 refl
  level_reads kind.I16 = scalar_reads kind.I16 refl
  level_reads kind.I32 = scalar_reads kind.I32 refl
  level_reads kind.I64 = scalar_reads kind.I64 refl
  level_reads kind.Double = scalar_reads kind.Double refl
  level_reads kind.Binary = scalar_reads kind.Binary refl
  level_reads kind.List = made_reads (λ l. record { width = l.1; node = n.List l.0 }) (g.IsList left I) (r.list left i) list_reads
  level_reads kind.Set = made_reads (λ l. record { width = l.1; node = n.Set l.0 }) (g.IsList left I) (r.list left i) list_reads
  level_reads kind.Map = made_reads (λ pairs. plain (n.Map pairs)) (g.IsMap left I) (r.map left i) map_reads
  level_reads kind.Struct = made_reads (λ fields. plain (n.Struct fields)) (g.IsFields (g.IsField left I) (pos 0)) (r.fields left i (pos 0)) (struct_reads (pos 0))

-- ---- values at any depth

stands_scalar : (k : Kind) → may_stand 0 k ≡ true → is_container k ≡ false
stands_scalar k stands = by_test (is_container k) refl stands
  where
    by_test : (test : Bool) → is_container k ≡ test → cond test (ltb 0 0) true ≡ true → is_container k ≡ false
    by_test false e h = e
    by_test true e h = absurd (omega (arith, ltb-true 0 0 h))

pub value_reads : (left : ℕ) (k : Kind) → may_stand left k ≡ true → IsReaderOf (g.IsValue left k) (r.value left k)
unfolding g.IsValue r.value
value_reads zero k stands = scalar_reads k (stands_scalar k stands)
value_reads (suc left) k stands = level_reads left (g.IsValue left) (r.value left) (value_reads left) k
