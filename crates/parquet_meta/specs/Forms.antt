-- The fields of a Thrift struct, and what their values must be.
use Rattle.std.specs.Prelude.{⊤, ℕ, ℤ, pos, negsuc, int_le, ◌==◌, ◌&&◌, Bool, true, false, if◌then◌else◌, List, []}
use Rattle.std.specs.Prelude.{◌∷◌, map, reverse, find, Option, Some, None, option_map}
use Rattle.std.specs.List.{list_any, list_all}
use Rattle.std.specs.Ordering.{int_eq}
use Rattle.dm_types.specs.Then.{◌>>=◌}
use Rattle.thrift_compact.specs.Values.{id_of}
use Rattle.thrift_compact.specs.declared.tree.Node.{Node, out-Node}
use Rattle.thrift_compact.specs.declared.tree.Node.TheOpen.{Node-F}
use Rattle.thrift_compact.specs.declared.tree.Field.{Field, out-Field}
use Rattle.parquet_meta.specs.declared.forms.Shape.{Shape}
use Rattle.parquet_meta.specs.declared.forms.Shape.TheVariants as shape

-- what a value of this width says, if it has the form
abbrev pub Form : Type 0 → Type 0
Form A = ℕ → Node → Option A

-- ---- fields; None is a field that hasn't its form

-- of the fields with one id the last counts
abbrev pub last_field : ℤ → List Field → Option Field
last_field id fields = find (λ f. int_eq (id_of f) id) (reverse fields)

abbrev pub field_value : {A : Type 0} → Form A → Field → Option A
field_value form f = form (out-Field f).width (out-Field f).node

-- a field that must be there
abbrev pub needed : {A : Type 0} → Form A → ℤ → List Field → Option A
needed form id fields = last_field id fields >>= field_value form

abbrev pub maybe : {A : Type 0} → Form A → Option Field → Option (Option A)
maybe form None = Some None
maybe form (Some f) = option_map Some (field_value form f)

-- a field that may be absent
abbrev pub optional : {A : Type 0} → Form A → ℤ → List Field → Option (Option A)
optional form id fields = maybe form (last_field id fields)

-- the id of the last field that has one of these ids
abbrev pub last_among : List ℤ → List Field → Option ℤ
last_among ids fields = find (λ id. list_any (λ known. int_eq known id) ids) (map id_of (reverse fields))

-- ---- forms

-- the number is one of 32 bits
abbrev pub is_i32 : ℤ → Bool
is_i32 z = int_le (negsuc 2147483647) z && int_le z (pos 2147483647)

abbrev pub i32_in : ℕ → Node-F Node Field → Option ℤ
i32_in width (Node-F.Whole z) = if width == 32 && is_i32 z then Some z else None
i32_in width _ = None

-- a whole number of 32 bits
abbrev pub i32 : Form ℤ
i32 width node = i32_in width (out-Node node)

abbrev pub i64_in : ℕ → Node-F Node Field → Option ℤ
i64_in width (Node-F.Whole z) = if width == 64 then Some z else None
i64_in width _ = None

-- a whole number of 64 bits
abbrev pub i64 : Form ℤ
i64 width node = i64_in width (out-Node node)

abbrev pub bytes_in : Node-F Node Field → Option (List ℕ)
bytes_in (Node-F.Binary bytes) = Some bytes
bytes_in _ = None

-- bytes, which need not be UTF-8
abbrev pub binary : Form (List ℕ)
binary width node = bytes_in (out-Node node)

abbrev pub struct_in : Node-F Node Field → Option (List Field)
struct_in (Node-F.Struct fields) = Some fields
struct_in _ = None

-- a struct that says this
abbrev pub struct : {A : Type 0} → (List Field → Option A) → Form A
struct meaning width node = struct_in (out-Node node) >>= meaning

abbrev pub nodes_in : Node-F Node Field → Option (List Node)
nodes_in (Node-F.List nodes) = Some nodes
nodes_in _ = None

abbrev pub each : {A : Type 0} → (Node → Option A) → List Node → Option (List A)
each form [] = Some []
each form (node ∷ nodes) = form node >>= λ a. option_map (λ more. a ∷ more) (each form nodes)

-- a list, and no set, each of whose elements has the form
abbrev pub list : {A : Type 0} → Form A → Form (List A)
list form width node = nodes_in (out-Node node) >>= each (form width)

-- ---- fields that aren't kept; they are checked in their type

abbrev pub is_struct_by : Node-F Node Field → Bool
is_struct_by (Node-F.Struct fields) = true
is_struct_by _ = false

abbrev pub is_struct : Node → Bool
is_struct node = is_struct_by (out-Node node)

abbrev pub has_shape_by : Shape → ℕ → Node-F Node Field → Bool
has_shape_by shape.I32 width (Node-F.Whole z) = width == 32
has_shape_by shape.I64 width (Node-F.Whole z) = width == 64
has_shape_by shape.Bool width (Node-F.Bool b) = true
has_shape_by shape.Binary width (Node-F.Binary bytes) = true
has_shape_by shape.Struct width (Node-F.Struct fields) = true
has_shape_by shape.Structs width (Node-F.List nodes) = list_all is_struct nodes
has_shape_by shape width node = false

abbrev pub field_checked : Shape → Field → Option ⊤
field_checked shape f = if has_shape_by shape (out-Field f).width (out-Node (out-Field f).node) then Some tt else None

abbrev pub maybe_checked : Shape → Option Field → Option ⊤
maybe_checked shape None = Some tt
maybe_checked shape (Some f) = field_checked shape f

-- a field that may be absent and isn't kept
abbrev pub checked : Shape → ℤ → List Field → Option ⊤
checked shape id fields = maybe_checked shape (last_field id fields)
