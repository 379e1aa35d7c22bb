-- Which values are writable, one by one.
use Rattle.std.proofs.Common.{◌≡◌, ℕ, zero, suc, ◌+◌, Bool, List, refl, sym, ap, subst, arith, ℤ}
use Rattle.std.specs.List.{AllByRecursion}
use Rattle.thrift_compact.specs.Written as w
use Rattle.thrift_compact.specs.Writable.{IsWholeOf, IsPlain, IsNoList, IsElement, AreElements, IsField, IsLevel, IsWritableValue}
use Rattle.thrift_compact.specs.declared.kind.Kind.TheVariants as kind
use Rattle.thrift_compact.specs.declared.tree.Node.{Node}
use Rattle.thrift_compact.specs.declared.tree.Node.TheOpen.{Node-F}
use Rattle.thrift_compact.specs.declared.tree.Node.TheVariants as n
use Rattle.thrift_compact.specs.declared.tree.Field.{Field}
use Rattle.thrift_compact.proofs.WrittenLaws.{form_is}

pub truth_writable : (left : ℕ) (b : Bool) → IsWritableValue left 0 (n.Bool b)
unfolding IsWritableValue
truth_writable zero b = subst (λ o. IsPlain 0 o) (sym (n.outs-Bool b)) refl
truth_writable (suc left) b = subst (λ o. IsLevel (IsWritableValue left) 0 o) (sym (n.outs-Bool b)) refl

pub whole_writable : (left width : ℕ) (z : ℤ) → IsWholeOf width z → IsWritableValue left width (n.Whole z)
unfolding IsWritableValue
whole_writable zero width z is = subst (λ o. IsPlain width o) (sym (n.outs-Whole z)) is
whole_writable (suc left) width z is = subst (λ o. IsLevel (IsWritableValue left) width o) (sym (n.outs-Whole z)) is

pub binary_writable : (left : ℕ) (bytes : List ℕ) → IsWritableValue left 0 (n.Binary bytes)
unfolding IsWritableValue
binary_writable zero bytes = subst (λ o. IsPlain 0 o) (sym (n.outs-Binary bytes)) refl
binary_writable (suc left) bytes = subst (λ o. IsLevel (IsWritableValue left) 0 o) (sym (n.outs-Binary bytes)) refl

list_at : (left width : ℕ) (nodes : List Node) → AreElements (IsWritableValue left) width nodes → IsWritableValue (suc left) width (n.List nodes)
unfolding IsWritableValue
list_at left width nodes are = subst (λ o. IsLevel (IsWritableValue left) width o) (sym (n.outs-List nodes)) are

pub list_writable : (left width : ℕ) (nodes : List Node) → AreElements (IsWritableValue left) width nodes → IsWritableValue (left + 1) width (n.List nodes)
list_writable left width nodes are = let next : suc left ≡ left + 1 = omega arith in subst (λ l. IsWritableValue l width (n.List nodes)) next (list_at left width nodes are)

struct_at : (left : ℕ) (fields : List Field) → AllByRecursion (IsField (IsWritableValue left)) fields → IsWritableValue (suc left) 0 (n.Struct fields)
unfolding IsWritableValue
struct_at left fields are = subst (λ o. IsLevel (IsWritableValue left) 0 o) (sym (n.outs-Struct fields)) (refl, are)

pub struct_writable : (left : ℕ) (fields : List Field) → AllByRecursion (IsField (IsWritableValue left)) fields → IsWritableValue (left + 1) 0 (n.Struct fields)
struct_writable left fields are = let next : suc left ≡ left + 1 = omega arith in subst (λ l. IsWritableValue l 0 (n.Struct fields)) next (struct_at left fields are)

-- ---- elements

pub whole_element : (left width : ℕ) (z : ℤ) → IsWholeOf width z → IsElement (IsWritableValue left) width (w.whole_kind width) (n.Whole z)
whole_element left width z is = record {
  alone = subst (λ o. IsNoList o) (sym (n.outs-Whole z)) tt;
  same = ap (λ f. (f width).kind) (form_is (n.Whole z) (Node-F.Whole z) (n.outs-Whole z));
  value = whole_writable left width z is;
}

pub binary_element : (left : ℕ) (bytes : List ℕ) → IsElement (IsWritableValue left) 0 kind.Binary (n.Binary bytes)
binary_element left bytes = record {
  alone = subst (λ o. IsNoList o) (sym (n.outs-Binary bytes)) tt;
  same = ap (λ f. (f 0).kind) (form_is (n.Binary bytes) (Node-F.Binary bytes) (n.outs-Binary bytes));
  value = binary_writable left bytes;
}

pub struct_element : (left : ℕ) (fields : List Field) → AllByRecursion (IsField (IsWritableValue left)) fields → IsElement (IsWritableValue (left + 1)) 0 kind.Struct (n.Struct fields)
struct_element left fields are = record {
  alone = subst (λ o. IsNoList o) (sym (n.outs-Struct fields)) tt;
  same = ap (λ f. (f 0).kind) (form_is (n.Struct fields) (Node-F.Struct fields) (n.outs-Struct fields));
  value = struct_writable left fields are;
}
