-- What is written for a writable tree is spelled so.
use Rattle.std.proofs.Common.{◌≡◌, ◌⊎◌, inl, inr, ℕ, zero, suc, ◌+◌, ◌*◌, ◌^◌, ◌<◌, ◌≤◌, ltb, Bool, true, false, cond, List, [], ◌∷◌, ◌++◌, length, Option, Some, None, refl, sym, ap, subst, ◌∙◌, arith, ℤ, pos, ◌+ℤ◌, ◌-ℤ◌, ◌≤ℤ◌, length-append}
use Rattle.std.specs.Prelude.{negsuc, map, FitsSigned}
use Rattle.std.specs.List.{flat_map, AllByRecursion}
use Rattle.std.specs.Int.{w16}
use Rattle.std.proofs.lemmas.Int.{ints}
use Rattle.std.proofs.lemmas.List.Concat.{flat_map-cons}
use Rattle.std.proofs.lemmas.List.{length-map, append-nil}
use Rattle.std.proofs.lemmas.Bool.{ltb-true, lt-ltb}
use Rattle.thrift_compact.specs.Kinds.{code_of, may_stand, is_container, width_of}
use Rattle.thrift_compact.specs.Values.{id_of}
use Rattle.thrift_compact.specs.Grammar as g
use Rattle.thrift_compact.specs.Grammar.{Form, Nothing, Made, Then, Each, Times}
use Rattle.thrift_compact.specs.Written as w
use Rattle.thrift_compact.specs.Writable.{IsWholeOf, IsPlain, IsNoList, IsElement, AreElements, IsField, IsLevel, IsWritableValue, IsWritable}
use Rattle.thrift_compact.specs.declared.kind.Kind.{Kind}
use Rattle.thrift_compact.specs.declared.kind.Kind.TheVariants as kind
use Rattle.thrift_compact.specs.declared.value.Value.{Value}
use Rattle.thrift_compact.specs.declared.tree.Node.{Node, out-Node}
use Rattle.thrift_compact.specs.declared.tree.Node.TheOpen.{Node-F}
use Rattle.thrift_compact.specs.declared.tree.Node.TheViews.{roll-Node, roll-out-Node, roll-out-Field}
use Rattle.thrift_compact.specs.declared.tree.Node.TheFolds.{fold_out-Node, fold_out-Field, map-Node}
use Rattle.thrift_compact.specs.declared.tree.Node.TheVariants as n
use Rattle.thrift_compact.specs.declared.tree.Field.{Field, out-Field}
use Rattle.thrift_compact.proofs.WrittenNumbers.{varint_is, varint_some, fits_16, fits_32, fits_64, signed_byte_is}

abbrev value_of : ℕ → Node → Value
value_of width node = record { width = width; node = node }

-- what is asked of a written value
record Spelled (left width : ℕ) (node : Node) (form : w.Form) : Type 0 where
  pub is : g.IsValue left form.kind form.bytes (value_of width node)
  pub stands : may_stand left form.kind ≡ true
  pub some : 0 < length form.bytes
  pub told : (k : Kind) → form.told ≡ Some k → (may_stand left k ≡ true) × g.IsFieldValue (g.IsValue left) k [] (value_of width node)
  pub untold : form.told ≡ None → g.IsFieldValue (g.IsValue left) form.kind form.bytes (value_of width node)

-- ---- headers

field_short : (left : ℕ) (last id : ℤ) (k : Kind) (o : Option ℕ) → w.short_difference (id -ℤ last) ≡ o → FitsSigned w16 id → may_stand left k ≡ true
    → g.IsFieldHeader left last (w.field_header_by o id k) (record { id = id; kind = k })
field_short left last id k None e fits stands = (inr (w.varint (g.zigzag id), refl, varint_is 16 (g.zigzag id) (omega arith) (fits_16 id fits)), stands)
field_short left last id k (Some delta) e fits stands = (inl (delta, above, refl, next, below), stands)
  where
    difference : (z : ℤ) (delta : ℕ) → w.short_difference z ≡ Some delta → (0 < delta) × (z ≡ pos delta)
    difference (negsuc m) delta e = absurd (cc)
    difference (pos m) delta e = by_test (ltb 0 m) refl (ltb m 16) refl
      where
        by_test : (low : Bool) → ltb 0 m ≡ low → (high : Bool) → ltb m 16 ≡ high → (0 < delta) × (pos m ≡ pos delta)
        by_test false f high h = absurd (let no_room : ◌≡◌ {A = Option ℕ} None (Some delta) = rw f at e in cc)
        by_test true f false h = absurd (let no_room : ◌≡◌ {A = Option ℕ} None (Some delta) = rw (f, h) at e in cc)
        by_test true f true h =
            let both : ◌≡◌ {A = Option ℕ} (Some m) (Some delta) = rw (f, h) at e in
            let same : m ≡ delta = cc in
            (omega (arith, same, ltb-true 0 m f), ap pos same)

    above : 0 < delta
    above = (difference (id -ℤ last) delta e).0

    next : id ≡ last +ℤ pos delta
    next = let d = (difference (id -ℤ last) delta e).1 in omega (arith, ints, d)

    below : id ≤ℤ pos 32767
    below = let high = fits.sfits in omega (arith, ints, fits)

list_header_is : (left size : ℕ) (k : Kind) → size < 2 ^ 64 → g.MayHold left k size → g.IsListHeader left (w.list_header size k) (record { size = size; kind = k })
list_header_is left size k fits holds = by_test (ltb size 15) refl
  where
    by_test : (test : Bool) → ltb size 15 ≡ test → g.IsListHeader left (cond test ((16 * size + code_of k) ∷ []) ((240 + code_of k) ∷ w.varint size)) (record { size = size; kind = k })
    by_test true e = (inl (ltb-true size 15 e, refl), holds)
    by_test false e = (inr (w.varint size, refl, varint_is 64 size (omega arith) fits), holds)

-- ---- what is known of a value one level below

-- a value whose bytes, if a field needs them, aren't too many for a length
abbrev IsSmall : w.Form → Type 0
IsSmall form = form.told ≡ None → length form.bytes < 2 ^ 64

abbrev Below : ℕ → Type 0
Below left = (width : ℕ) (node : Node) → IsWritableValue left width node → IsSmall (w.form_of node width) → Spelled left width node (w.form_of node width)

-- ---- fields

abbrev field_form_at : Field → w.FieldForm
field_form_at f = record { id = (out-Field f).id; form = w.form_of (out-Field f).node (out-Field f).width }

field_form_is : (f : Field) → w.field_form_of f ≡ field_form_at f
field_form_is f = fold_out-Field (ℕ → w.Form) w.FieldForm w.node_form w.field_form f

field_by_is : (left : ℕ) (last : ℤ) (f : Field) → FitsSigned w16 (out-Field f).id → (form : w.Form) → (o : Option Kind) → form.told ≡ o → Spelled left (out-Field f).width (out-Field f).node form
    → g.IsField left (g.IsValue left) last (w.field_by last (out-Field f).id o form) f
field_by_is left last f fits form (Some k) e spelled =
    let told = spelled.told k e in
    let header = field_short left last (out-Field f).id k (w.short_difference ((out-Field f).id -ℤ last)) refl fits told.0 in
    (record { id = (out-Field f).id; kind = k }, w.field_header last (out-Field f).id k, [], sym (append-nil (w.field_header last (out-Field f).id k)), header, (value_of (out-Field f).width (out-Field f).node, told.1, sym (roll-out-Field f)))
field_by_is left last f fits form None e spelled =
    let header = field_short left last (out-Field f).id form.kind (w.short_difference ((out-Field f).id -ℤ last)) refl fits spelled.stands in
    (record { id = (out-Field f).id; kind = form.kind }, w.field_header last (out-Field f).id form.kind, form.bytes, refl, header, (value_of (out-Field f).width (out-Field f).node, spelled.untold e, sym (roll-out-Field f)))

field_small : (last id : ℤ) (o : Option Kind) (form : w.Form) → form.told ≡ o → length (w.field_by last id o form) < 2 ^ 64 → IsSmall form
field_small last id (Some k) form e room none = absurd (let no_kind : ◌≡◌ {A = Option Kind} (Some k) None = sym e ∙ none in cc)
field_small last id None form e room none = omega (arith, length-append (w.field_header last id form.kind) form.bytes, room)

field_is : (left : ℕ) → Below left → (last : ℤ) (f : Field) → IsField (IsWritableValue left) f → length (w.field last (w.field_form_of f)) < 2 ^ 64 → g.IsField left (g.IsValue left) last (w.field last (w.field_form_of f)) f
field_is left below last f is room =
    let form : w.Form = w.form_of (out-Field f).node (out-Field f).width in
    let here : length (w.field last (field_form_at f)) < 2 ^ 64 = subst (λ z. length (w.field last z) < 2 ^ 64) (field_form_is f) room in
    let spelled = below (out-Field f).width (out-Field f).node is.value (field_small last (out-Field f).id form.told form refl here) in
    subst (λ z. g.IsField left (g.IsValue left) last (w.field last z) f) (sym (field_form_is f)) (field_by_is left last f is.id form form.told refl spelled)

fields_are : (left : ℕ) → Below left → (last : ℤ) (fs : List Field) → AllByRecursion (IsField (IsWritableValue left)) fs → length (w.fields last (map w.field_form_of fs)) < 2 ^ 64
    → g.IsFields (g.IsField left (g.IsValue left)) last (w.fields last (map w.field_form_of fs)) fs
fields_are left below last [] all room = refl
fields_are left below last (x ∷ xs) all room =
    let front : List ℕ = w.field last (w.field_form_of x) in
    let back : List ℕ = w.fields (w.field_form_of x).id (map w.field_form_of xs) in
    let lengths : length (front ++ back) ≡ length front + length back = length-append front back in
    let id : (w.field_form_of x).id ≡ id_of x = ap (λ z. z.id) (field_form_is x) in
    let rest : g.IsFields (g.IsField left (g.IsValue left)) (w.field_form_of x).id back xs = fields_are left below (w.field_form_of x).id xs all.1 (omega (arith, lengths, room)) in
    (front, back, refl, field_is left below last x all.0 (omega (arith, lengths, room)), subst (λ z. g.IsFields (g.IsField left (g.IsValue left)) z back xs) id rest)

fields_some : (last : ℤ) (fs : List w.FieldForm) → 0 < length (w.fields last fs)
fields_some last [] = omega arith
fields_some last (f ∷ fs) = omega (arith, length-append (w.field last f) (w.fields f.id fs), fields_some f.id fs)

-- ---- elements

abbrev forms_of : ℕ → List Node → List w.Form
forms_of width nodes = w.at_width width (map w.form_of nodes)

abbrev bytes_of : List w.Form → List ℕ
bytes_of forms = flat_map (λ form. form.bytes) forms

elements_are : (left width : ℕ) (k : Kind) → Below left → (nodes : List Node) → AllByRecursion (IsElement (IsWritableValue left) width k) nodes → length (bytes_of (forms_of width nodes)) < 2 ^ 64
    → Each (g.IsNode (g.IsValue left k)) (bytes_of (forms_of width nodes)) nodes × (length nodes ≤ length (bytes_of (forms_of width nodes)))
elements_are left width k below [] all room = (refl, omega arith)
elements_are left width k below (x ∷ xs) all room =
    let front : List ℕ = (w.form_of x width).bytes in
    let back : List ℕ = bytes_of (forms_of width xs) in
    let split : bytes_of (forms_of width (x ∷ xs)) ≡ front ++ back = flat_map-cons (λ form. form.bytes) (w.form_of x width) (forms_of width xs) in
    let lengths : length (bytes_of (forms_of width (x ∷ xs))) ≡ length front + length back = ap length split ∙ length-append front back in
    let spelled = below width x all.0.value (λ none. omega (arith, lengths, room)) in
    let rest = elements_are left width k below xs all.1 (omega (arith, lengths, room)) in
    let value : g.IsValue left k front (value_of width x) = subst (λ z. g.IsValue left z front (value_of width x)) all.0.same spelled.is in
    ((front, back, split, (value_of width x, value, refl), rest.0), omega (arith, lengths, rest.1, spelled.some))

elements_first : (width : ℕ) (x : Node) (xs : List Node) → length (w.form_of x width).bytes ≤ length (bytes_of (forms_of width (x ∷ xs)))
elements_first width x xs =
    let split : bytes_of (forms_of width (x ∷ xs)) ≡ (w.form_of x width).bytes ++ bytes_of (forms_of width xs) = flat_map-cons (λ form. form.bytes) (w.form_of x width) (forms_of width xs) in
    omega (arith, ap length split, length-append (w.form_of x width).bytes (bytes_of (forms_of width xs)))

list_some : (forms : List w.Form) → 0 < length (w.list forms)
list_some forms = omega (arith, length-append (w.list_header (length forms) (w.element_kind forms)) (bytes_of forms), header_some (length forms) (w.element_kind forms))
  where
    header_some : (size : ℕ) (k : Kind) → 0 < length (w.list_header size k)
    header_some size k = by_test (ltb size 15)
      where
        by_test : (test : Bool) → 0 < length (cond test ((16 * size + code_of k) ∷ []) ((240 + code_of k) ∷ w.varint size))
        by_test true = omega arith
        by_test false = omega arith

-- ---- one level

abbrev pub step_at : Node-F Node Field → ℕ → w.Form
step_at o = w.node_form (map-Node Node Field (ℕ → w.Form) w.FieldForm w.form_of w.field_form_of o)

pub form_is : (node : Node) (o : Node-F Node Field) → out-Node node ≡ o → w.form_of node ≡ step_at o
form_is node o e = fold_out-Node (ℕ → w.Form) w.FieldForm w.node_form w.field_form node ∙ ap step_at e

whole_width : (width : ℕ) (z : ℤ) → IsWholeOf width z → width_of (w.whole_kind width) ≡ width
whole_width width z (inl is) = subst (λ v. width_of (w.whole_kind v) ≡ v) (sym is.0) refl
whole_width width z (inr (inl is)) = subst (λ v. width_of (w.whole_kind v) ≡ v) (sym is.0) refl
whole_width width z (inr (inr (inl is))) = subst (λ v. width_of (w.whole_kind v) ≡ v) (sym is.0) refl
whole_width width z (inr (inr (inr is))) = subst (λ v. width_of (w.whole_kind v) ≡ v) (sym is.0) refl

-- the type of a value that is no list tells its width
width_by : (left width : ℕ) (o : Node-F Node Field) → IsNoList o → IsPlain width o ⊎ ((fields : List Field) × (o ≡ Node-F.Struct fields) × (width ≡ 0)) → width_of (step_at o width).kind ≡ width
width_by left width (Node-F.Bool true) alone (inl is) = sym is
width_by left width (Node-F.Bool false) alone (inl is) = sym is
width_by left width (Node-F.Whole z) alone (inl is) = whole_width width z is
width_by left width (Node-F.Double bytes) alone (inl is) = sym is.0
width_by left width (Node-F.Binary bytes) alone (inl is) = sym is
width_by left width (Node-F.List nodes) alone is = absurd alone
width_by left width (Node-F.Set nodes) alone is = absurd alone
width_by left width (Node-F.Map pairs) alone is = absurd alone
width_by left width (Node-F.Struct fields) alone (inl is) = absurd is
width_by left width (Node-F.Struct fields) alone (inr is) = sym is.2
width_by left width (Node-F.Bool b) alone (inr is) = absurd (cc (is.1))
width_by left width (Node-F.Whole z) alone (inr is) = absurd (cc (is.1))
width_by left width (Node-F.Double bytes) alone (inr is) = absurd (cc (is.1))
width_by left width (Node-F.Binary bytes) alone (inr is) = absurd (cc (is.1))

plain_or_struct : (inner : ℕ → Node → Type 0) (width : ℕ) (o : Node-F Node Field) → IsNoList o → IsLevel inner width o → IsPlain width o ⊎ ((fields : List Field) × (o ≡ Node-F.Struct fields) × (width ≡ 0))
plain_or_struct inner width (Node-F.Bool b) alone is = inl is
plain_or_struct inner width (Node-F.Whole z) alone is = inl is
plain_or_struct inner width (Node-F.Double bytes) alone is = inl is
plain_or_struct inner width (Node-F.Binary bytes) alone is = inl is
plain_or_struct inner width (Node-F.List nodes) alone is = absurd alone
plain_or_struct inner width (Node-F.Set nodes) alone is = absurd alone
plain_or_struct inner width (Node-F.Map pairs) alone is = absurd alone
plain_or_struct inner width (Node-F.Struct fields) alone is = inr (fields, refl, is.0)

kind_width : (left width : ℕ) (node : Node) → IsNoList (out-Node node) → IsWritableValue left width node → width_of (w.form_of node width).kind ≡ width
unfolding IsWritableValue
kind_width zero width node alone is = ap (λ f. width_of (f width).kind) (form_is node (out-Node node) refl) ∙ width_by zero width (out-Node node) alone (inl is)
kind_width (suc left) width node alone is = ap (λ f. width_of (f width).kind) (form_is node (out-Node node) refl) ∙ width_by left width (out-Node node) alone (plain_or_struct (IsWritableValue left) width (out-Node node) alone is)

list_is : (left width : ℕ) → Below left → (nodes : List Node) → AreElements (IsWritableValue left) width nodes → length (w.list (forms_of width nodes)) < 2 ^ 64 → g.IsList left (g.IsValue left) (w.list (forms_of width nodes)) (nodes, width)
list_is left width below [] are room =
    (record { size = 0; kind = kind.Struct }, w.list_header 0 kind.Struct, [], refl, list_header_is left 0 kind.Struct (omega arith) (inl refl), ([], (refl, refl), ap (λ v. ([], v)) are))
list_is left width below (x ∷ xs) some room =
    let are : AllByRecursion (IsElement (IsWritableValue left) width (w.form_of x width).kind) (x ∷ xs) = subst (λ z. AllByRecursion (IsElement (IsWritableValue left) width z) (x ∷ xs)) (sym some.1.0.same) some.1 in
    let k : Kind = (w.form_of x width).kind in
    let back : List ℕ = bytes_of (forms_of width (x ∷ xs)) in
    let size : length (forms_of width (x ∷ xs)) ≡ length (x ∷ xs) = length-map (map w.form_of (x ∷ xs)) (λ (form : ℕ → w.Form). form width) ∙ length-map (x ∷ xs) w.form_of in
    let lengths : length (w.list (forms_of width (x ∷ xs))) ≡ length (w.list_header (length (forms_of width (x ∷ xs))) k) + length back = length-append (w.list_header (length (forms_of width (x ∷ xs))) k) back in
    let each = elements_are left width k below (x ∷ xs) are (omega (arith, lengths, room)) in
    let split : w.list (forms_of width (x ∷ xs)) ≡ w.list_header (length (x ∷ xs)) k ++ back = ap (λ c. w.list_header c k ++ back) size in
    let first = below width x are.0.value (λ none. omega (arith, lengths, room, elements_first width x xs)) in
    let widths : width_of k ≡ width = kind_width left width x are.0.alone are.0.value in (
      record { size = length (x ∷ xs); kind = k },
      w.list_header (length (x ∷ xs)) k,
      back,
      split,
      list_header_is left (length (x ∷ xs)) k (omega (arith, lengths, room, each.1)) (inr first.stands),
      (x ∷ xs, (refl, each.0), ap (λ v. (x ∷ xs, v)) (sym widths)),
    )

-- ---- values

-- a value that holds no others is the same at every depth
scalar_at : (left : ℕ) (k : Kind) → is_container k ≡ false → (bytes : List ℕ) (value : Value) → g.IsScalar k bytes value → g.IsValue left k bytes value
unfolding g.IsValue
scalar_at zero k e bytes value is = is
scalar_at (suc left) kind.True e bytes value is = is
scalar_at (suc left) kind.False e bytes value is = is
scalar_at (suc left) kind.I8 e bytes value is = is
scalar_at (suc left) kind.I16 e bytes value is = is
scalar_at (suc left) kind.I32 e bytes value is = is
scalar_at (suc left) kind.I64 e bytes value is = is
scalar_at (suc left) kind.Double e bytes value is = is
scalar_at (suc left) kind.Binary e bytes value is = is
scalar_at (suc left) kind.List e bytes value is = absurd (cc)
scalar_at (suc left) kind.Set e bytes value is = absurd (cc)
scalar_at (suc left) kind.Map e bytes value is = absurd (cc)
scalar_at (suc left) kind.Struct e bytes value is = absurd (cc)

spelled_plain : (left width : ℕ) (node : Node) (k : Kind) (bytes : List ℕ) → g.IsValue left k bytes (value_of width node) → g.IsFieldValue (g.IsValue left) k bytes (value_of width node) → may_stand left k ≡ true → 0 < length bytes
    → Spelled left width node (w.plain k bytes)
spelled_plain left width node k bytes is field stands some = record { is = is; stands = stands; some = some; told = λ kind e. absurd (cc); untold = λ e. field }

spelled_truth : (left : ℕ) (b : Bool) → Spelled left 0 (n.Bool b) (w.truth b)
spelled_truth left true = record {
  is = scalar_at left kind.False refl (1 ∷ []) (value_of 0 (n.Bool true)) (true, refl, refl);
  stands = refl;
  some = omega arith;
  told = λ k e. let same : kind.True ≡ k = cc in subst (λ z. (may_stand left z ≡ true) × g.IsFieldValue (g.IsValue left) z [] (value_of 0 (n.Bool true))) same (refl, (refl, refl));
  untold = λ e. absurd (cc);
}
spelled_truth left false = record {
  is = scalar_at left kind.False refl (2 ∷ []) (value_of 0 (n.Bool false)) (false, inl refl, refl);
  stands = refl;
  some = omega arith;
  told = λ k e. let same : kind.False ≡ k = cc in subst (λ z. (may_stand left z ≡ true) × g.IsFieldValue (g.IsValue left) z [] (value_of 0 (n.Bool false))) same (refl, (refl, refl));
  untold = λ e. absurd (cc);
}

spelled_whole : (left width : ℕ) (z : ℤ) → IsWholeOf width z → Spelled left width (n.Whole z) (w.plain (w.whole_kind width) (w.whole width z))
spelled_whole left width z (inl is) =
    let byte : g.IsScalar kind.I8 (w.whole 8 z) (value_of 8 (n.Whole z)) = (z, signed_byte_is z is.1, refl) in
    let value = scalar_at left kind.I8 refl (w.whole 8 z) (value_of 8 (n.Whole z)) byte in
    subst (λ v. Spelled left v (n.Whole z) (w.plain (w.whole_kind v) (w.whole v z))) (sym is.0) (spelled_plain left 8 (n.Whole z) kind.I8 (w.whole 8 z) value value refl (omega arith))
spelled_whole left width z (inr (inl is)) =
    let bytes : g.IsScalar kind.I16 (w.whole 16 z) (value_of 16 (n.Whole z)) = (z, varint_is 16 (g.zigzag z) (omega arith) (fits_16 z is.1), refl) in
    let value = scalar_at left kind.I16 refl (w.whole 16 z) (value_of 16 (n.Whole z)) bytes in
    subst (λ v. Spelled left v (n.Whole z) (w.plain (w.whole_kind v) (w.whole v z))) (sym is.0) (spelled_plain left 16 (n.Whole z) kind.I16 (w.whole 16 z) value value refl (varint_some (g.zigzag z)))
spelled_whole left width z (inr (inr (inl is))) =
    let bytes : g.IsScalar kind.I32 (w.whole 32 z) (value_of 32 (n.Whole z)) = (z, varint_is 32 (g.zigzag z) (omega arith) (fits_32 z is.1), refl) in
    let value = scalar_at left kind.I32 refl (w.whole 32 z) (value_of 32 (n.Whole z)) bytes in
    subst (λ v. Spelled left v (n.Whole z) (w.plain (w.whole_kind v) (w.whole v z))) (sym is.0) (spelled_plain left 32 (n.Whole z) kind.I32 (w.whole 32 z) value value refl (varint_some (g.zigzag z)))
spelled_whole left width z (inr (inr (inr is))) =
    let bytes : g.IsScalar kind.I64 (w.whole 64 z) (value_of 64 (n.Whole z)) = (z, varint_is 64 (g.zigzag z) (omega arith) (fits_64 z is.1), refl) in
    let value = scalar_at left kind.I64 refl (w.whole 64 z) (value_of 64 (n.Whole z)) bytes in
    subst (λ v. Spelled left v (n.Whole z) (w.plain (w.whole_kind v) (w.whole v z))) (sym is.0) (spelled_plain left 64 (n.Whole z) kind.I64 (w.whole 64 z) value value refl (varint_some (g.zigzag z)))

spelled_double : (left : ℕ) (bytes : List ℕ) → length bytes ≡ 8 → Spelled left 0 (n.Double bytes) (w.plain kind.Double bytes)
spelled_double left bytes size =
    let scalar : g.IsScalar kind.Double bytes (value_of 0 (n.Double bytes)) = (bytes, (size, refl), refl) in
    let value = scalar_at left kind.Double refl bytes (value_of 0 (n.Double bytes)) scalar in
    spelled_plain left 0 (n.Double bytes) kind.Double bytes value value refl (omega (arith, size))

spelled_binary : (left : ℕ) (bytes : List ℕ) → length (w.varint (length bytes) ++ bytes) < 2 ^ 64 → Spelled left 0 (n.Binary bytes) (w.plain kind.Binary (w.varint (length bytes) ++ bytes))
spelled_binary left bytes room =
    let all : List ℕ = w.varint (length bytes) ++ bytes in
    let lengths : length all ≡ length (w.varint (length bytes)) + length bytes = length-append (w.varint (length bytes)) bytes in
    let size : length bytes < 2 ^ 64 = omega (arith, lengths, room) in
    let binary : g.IsBinary all bytes = (length bytes, w.varint (length bytes), bytes, refl, varint_is 64 (length bytes) (omega arith) size, (refl, refl)) in
    let scalar : g.IsScalar kind.Binary all (value_of 0 (n.Binary bytes)) = (bytes, binary, refl) in
    let value = scalar_at left kind.Binary refl all (value_of 0 (n.Binary bytes)) scalar in
    spelled_plain left 0 (n.Binary bytes) kind.Binary all value value refl (omega (arith, lengths, varint_some (length bytes)))

-- the node is made of what it opens to, and written by one step of that
moved : (left width : ℕ) (node made : Node) (o : Node-F Node Field) → out-Node node ≡ o → roll-Node o ≡ made → Spelled left width made (step_at o width) → Spelled left width node (w.form_of node width)
moved left width node made o e rolls spelled =
    let same : node ≡ made = sym (roll-out-Node node) ∙ ap roll-Node e ∙ rolls in
    subst (λ f. Spelled left width node (f width)) (sym (form_is node o e)) (subst (λ x. Spelled left width x (step_at o width)) (sym same) spelled)

plain_is : (left width : ℕ) (node : Node) (o : Node-F Node Field) → out-Node node ≡ o → IsPlain width o → IsSmall (step_at o width) → Spelled left width node (w.form_of node width)
plain_is left width node (Node-F.Bool b) e is small = moved left width node (n.Bool b) (Node-F.Bool b) e (n.rolls-Bool b) (subst (λ v. Spelled left v (n.Bool b) (w.truth b)) (sym is) (spelled_truth left b))
plain_is left width node (Node-F.Whole z) e is small = moved left width node (n.Whole z) (Node-F.Whole z) e (n.rolls-Whole z) (spelled_whole left width z is)
plain_is left width node (Node-F.Double bytes) e is small = moved left width node (n.Double bytes) (Node-F.Double bytes) e (n.rolls-Double bytes) (subst (λ v. Spelled left v (n.Double bytes) (w.plain kind.Double bytes)) (sym is.0) (spelled_double left bytes is.1))
plain_is left width node (Node-F.Binary bytes) e is small =
    moved left width node (n.Binary bytes) (Node-F.Binary bytes) e (n.rolls-Binary bytes) (subst (λ v. Spelled left v (n.Binary bytes) (w.plain kind.Binary (w.varint (length bytes) ++ bytes))) (sym is) (spelled_binary left bytes (small refl)))
plain_is left width node (Node-F.List nodes) e is small = absurd is
plain_is left width node (Node-F.Set nodes) e is small = absurd is
plain_is left width node (Node-F.Map pairs) e is small = absurd is
plain_is left width node (Node-F.Struct fields) e is small = absurd is

spelled_list : (left width : ℕ) → Below left → (nodes : List Node) → AreElements (IsWritableValue left) width nodes → length (w.list (forms_of width nodes)) < 2 ^ 64 → Spelled (suc left) width (n.List nodes) (w.plain kind.List (w.list (forms_of width nodes)))
unfolding g.IsValue
spelled_list left width below nodes are room =
    let value : g.IsLevel left (g.IsValue left) kind.List (w.list (forms_of width nodes)) (value_of width (n.List nodes)) = ((nodes, width), list_is left width below nodes are room, refl) in
    spelled_plain (suc left) width (n.List nodes) kind.List (w.list (forms_of width nodes)) value value (lt-ltb 0 (suc left) (omega arith)) (list_some (forms_of width nodes))

spelled_set : (left width : ℕ) → Below left → (nodes : List Node) → AreElements (IsWritableValue left) width nodes → length (w.list (forms_of width nodes)) < 2 ^ 64 → Spelled (suc left) width (n.Set nodes) (w.plain kind.Set (w.list (forms_of width nodes)))
unfolding g.IsValue
spelled_set left width below nodes are room =
    let value : g.IsLevel left (g.IsValue left) kind.Set (w.list (forms_of width nodes)) (value_of width (n.Set nodes)) = ((nodes, width), list_is left width below nodes are room, refl) in
    spelled_plain (suc left) width (n.Set nodes) kind.Set (w.list (forms_of width nodes)) value value (lt-ltb 0 (suc left) (omega arith)) (list_some (forms_of width nodes))

spelled_struct : (left : ℕ) → Below left → (fs : List Field) → AllByRecursion (IsField (IsWritableValue left)) fs → length (w.struct fs) < 2 ^ 64 → Spelled (suc left) 0 (n.Struct fs) (w.plain kind.Struct (w.struct fs))
unfolding g.IsValue
spelled_struct left below fs are room =
    let value : g.IsLevel left (g.IsValue left) kind.Struct (w.struct fs) (value_of 0 (n.Struct fs)) = (fs, fields_are left below (pos 0) fs are room, refl) in
    spelled_plain (suc left) 0 (n.Struct fs) kind.Struct (w.struct fs) value value (lt-ltb 0 (suc left) (omega arith)) (fields_some (pos 0) (map w.field_form_of fs))

level_is : (left width : ℕ) → Below left → (node : Node) (o : Node-F Node Field) → out-Node node ≡ o → IsLevel (IsWritableValue left) width o → IsSmall (step_at o width) → Spelled (suc left) width node (w.form_of node width)
level_is left width below node (Node-F.Bool b) e is small = plain_is (suc left) width node (Node-F.Bool b) e is small
level_is left width below node (Node-F.Whole z) e is small = plain_is (suc left) width node (Node-F.Whole z) e is small
level_is left width below node (Node-F.Double bytes) e is small = plain_is (suc left) width node (Node-F.Double bytes) e is small
level_is left width below node (Node-F.Binary bytes) e is small = plain_is (suc left) width node (Node-F.Binary bytes) e is small
level_is left width below node (Node-F.List nodes) e is small = moved (suc left) width node (n.List nodes) (Node-F.List nodes) e (n.rolls-List nodes) (spelled_list left width below nodes is (small refl))
level_is left width below node (Node-F.Set nodes) e is small = moved (suc left) width node (n.Set nodes) (Node-F.Set nodes) e (n.rolls-Set nodes) (spelled_set left width below nodes is (small refl))
level_is left width below node (Node-F.Map pairs) e is small = absurd is
level_is left width below node (Node-F.Struct fs) e is small =
    moved (suc left) width node (n.Struct fs) (Node-F.Struct fs) e (n.rolls-Struct fs) (subst (λ v. Spelled (suc left) v (n.Struct fs) (w.plain kind.Struct (w.struct fs))) (sym is.0) (spelled_struct left below fs is.1 (small refl)))

value_is : (left : ℕ) → Below left
unfolding IsWritableValue
value_is zero width node is small = plain_is zero width node (out-Node node) refl is (subst (λ f. IsSmall (f width)) (form_is node (out-Node node) refl) small)
value_is (suc left) width node is small = level_is left width (value_is left) node (out-Node node) refl is (subst (λ f. IsSmall (f width)) (form_is node (out-Node node) refl) small)

-- what is written for a writable tree, unless it has 2 ^ 64 bytes or more, is spelled so
pub written_is : (tree : List Field) → IsWritable tree → length (w.struct tree) < 2 ^ 64 → g.IsStruct (w.struct tree) tree
written_is tree is room = fields_are 63 (value_is 63) (pos 0) tree is room
