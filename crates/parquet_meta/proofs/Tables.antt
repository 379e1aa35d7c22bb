-- Look-ups in a struct that was made of a table.
use Rattle.std.proofs.Common.{◌≡◌, ℕ, List, [], ◌∷◌, ◌++◌, map, find, Bool, true, false, cond, Option, Some, None, option_map, option_and_then, refl, ap, ◌∙◌, arith, ℤ}
use Rattle.std.specs.Prelude.{IfSome, FitsSigned}
use Rattle.std.specs.Int.{w32}
use Rattle.std.specs.List.{AllByRecursion}
use Rattle.std.specs.Ordering.{int_eq}
use Rattle.std.proofs.lemmas.Int.{ints}
use Rattle.std.proofs.lemmas.List.{append-nil, reverse-append}
use Rattle.thrift_compact.specs.Values.{id_of}
use Rattle.thrift_compact.specs.declared.tree.Node.{Node}
use Rattle.thrift_compact.specs.declared.tree.Node.TheVariants as n
use Rattle.thrift_compact.specs.declared.tree.Field.{Field}
use Rattle.parquet_meta.specs.declared.forms.Shape.{Shape}
use Rattle.parquet_meta.specs.Forms.{Form, last_field, field_value, needed, maybe, optional, maybe_checked, checked, i32, i32_in, is_i32, i64, i64_in, binary, bytes_in, struct, struct_in, nodes_in, list, each}
use Rattle.parquet_meta.specs.Written as w

abbrev pub pick : Bool → ℤ → Option (ℕ × Node) → Option Field → Option Field
pick false id o base = base
pick true id None base = base
pick true id (Some v) base = Some (record { id = id; width = v.0; node = v.1 })

abbrev pub found : ℤ → List (ℤ × Option (ℕ × Node)) → Option Field → Option Field
found id [] base = base
found id (e ∷ es) base = found id es (pick (int_eq e.0 id) e.0 e.1 base)

by_test : (b : Bool) (id : ℤ) (v : ℕ × Node) (base : Option Field) → cond b (Some (record { id = id; width = v.0; node = v.1 })) base ≡ pick b id (Some v) base
by_test true id v base = refl
by_test false id v base = refl

pick-None : (b : Bool) (id : ℤ) (base : Option Field) → base ≡ pick b id None base
pick-None true id base = refl
pick-None false id base = refl

last-entry : (id : ℤ) (fields : List Field) (own : ℤ) (o : Option (ℕ × Node)) → last_field id (fields ++ w.entry own o) ≡ pick (int_eq own id) own o (last_field id fields)
last-entry id fields own None = ap (last_field id) (append-nil fields) ∙ pick-None (int_eq own id) own (last_field id fields)
last-entry id fields own (Some v) =
    ap (find (λ f. int_eq (id_of f) id)) (reverse-append fields ((record { id = own; width = v.0; node = v.1 }) ∷ [])) ∙ by_test (int_eq own id) own v (last_field id fields)

last-onto : (id : ℤ) (fields : List Field) (table : List (ℤ × Option (ℕ × Node))) → last_field id (w.onto fields table) ≡ found id table (last_field id fields)
last-onto id fields [] = refl
last-onto id fields (e ∷ es) = last-onto id (fields ++ w.entry e.0 e.1) es ∙ ap (found id es) (last-entry id fields e.0 e.1)

pub last-table : (id : ℤ) (table : List (ℤ × Option (ℕ × Node))) → last_field id (w.fields_of table) ≡ found id table None
last-table id table = last-onto id [] table

pub needed-table : {A : Type 0} (form : Form A) (id : ℤ) (table : List (ℤ × Option (ℕ × Node))) → needed form id (w.fields_of table) ≡ option_and_then (field_value form) (found id table None)
needed-table form id table = ap (option_and_then (field_value form)) (last-table id table)

pub optional-table : {A : Type 0} (form : Form A) (id : ℤ) (table : List (ℤ × Option (ℕ × Node))) → optional form id (w.fields_of table) ≡ maybe form (found id table None)
optional-table form id table = ap (maybe form) (last-table id table)

pub checked-table : (shape : Shape) (id : ℤ) (table : List (ℤ × Option (ℕ × Node))) → checked shape id (w.fields_of table) ≡ maybe_checked shape (found id table None)
checked-table shape id table = ap (maybe_checked shape) (last-table id table)

-- ---- forms

is_i32-fits : (z : ℤ) → FitsSigned w32 z → is_i32 z ≡ true
is_i32-fits z h = grind (arith, ints)

pub i32_back : (z : ℤ) → FitsSigned w32 z → i32 32 (n.Whole z) ≡ Some z
i32_back z h = ap (i32_in 32) (n.outs-Whole z) ∙ rw (is_i32-fits z h) refl

pub i64_back : (z : ℤ) → i64 64 (n.Whole z) ≡ Some z
i64_back z = ap (i64_in 64) (n.outs-Whole z)

pub binary_back : (b : List ℕ) → binary 0 (n.Binary b) ≡ Some b
binary_back b = ap bytes_in (n.outs-Binary b)

pub struct_back : {A : Type 0} (meaning : List Field → Option A) (fields : List Field) → struct meaning 0 (n.Struct fields) ≡ meaning fields
struct_back meaning fields = ap (λ o. option_and_then meaning (struct_in o)) (n.outs-Struct fields)

pub list_back : {A : Type 0} (form : Form A) (width : ℕ) (nodes : List Node) → list form width (n.List nodes) ≡ each (form width) nodes
list_back form width nodes = ap (λ o. option_and_then (each (form width)) (nodes_in o)) (n.outs-List nodes)

-- elements that are written by `into` are read as `seen`
pub each_back : {A B : Type 0} (form : Node → Option B) (into : A → Node) (seen : A → B) (P : A → Type 0) (back : (a : A) → P a → form (into a) ≡ Some (seen a)) (xs : List A) → AllByRecursion P xs
    → each form (map into xs) ≡ Some (map seen xs)
each_back form into seen P back [] h = refl
each_back form into seen P back (x ∷ xs) h = rw (back x h.0, each_back form into seen P back xs h.1) refl

-- a field that there may be
pub maybe_back : {A : Type 0} (form : Form A) (id : ℤ) (into : A → ℕ × Node) (P : A → Type 0) (back : (a : A) → P a → form (into a).0 (into a).1 ≡ Some a) (o : Option A) → IfSome o P
    → maybe form (pick true id (option_map into o) None) ≡ Some o
maybe_back form id into P back None h = refl
maybe_back form id into P back (Some a) h = ap (option_map Some) (back a h)
