-- The bytes that are written for a tree: of the spellings of the grammar always the shortest.
use Rattle.std.specs.Prelude.{ℕ, zero, suc, ℤ, pos, negsuc, ◌-ℤ◌, ◌+◌, ◌*◌, ◌/◌, ◌%◌, ◌==◌, ◌&&◌, nat_lt, if◌then◌else◌, Bool, true, false, List, [], ◌∷◌, ◌++◌, length, map, Option, Some, None}
use Rattle.std.specs.List.{flat_map}
use Rattle.std.specs.Int.{cast_unsigned, w64}
use Rattle.thrift_compact.specs.Kinds.{code_of}
use Rattle.thrift_compact.specs.Grammar.{zigzag}
use Rattle.thrift_compact.specs.declared.kind.Kind.{Kind}
use Rattle.thrift_compact.specs.declared.kind.Kind.TheVariants as kind
use Rattle.thrift_compact.specs.declared.tree.Node.{Node, fold-Node}
use Rattle.thrift_compact.specs.declared.tree.Node.TheOpen.{Node-F, Field-F}
use Rattle.thrift_compact.specs.declared.tree.Field.{Field, fold-Field}

-- ---- numbers

-- seven bits a byte, the lowest first, and at most so many bytes before the last
unfoldable pub varint_of : ℕ → ℕ → List ℕ
varint_of zero number = number ∷ []
varint_of (suc more) number =
    if nat_lt number 128 then number ∷ []
    else (number % 128 + 128) ∷ varint_of more (number / 128)

-- a varint of as few bytes as the number needs
abbrev pub varint : ℕ → List ℕ
varint number = varint_of number number

-- a whole number: the byte itself in two's complement, or a zigzag varint
abbrev pub whole : ℕ → ℤ → List ℕ
whole width z = if width == 8 then (cast_unsigned w64 z % 256) ∷ [] else varint (zigzag z)

abbrev pub whole_kind : ℕ → Kind
whole_kind width =
    if width == 8 then kind.I8
    else if width == 16 then kind.I16
    else if width == 32 then kind.I32
    else kind.I64

-- ---- values

-- A value as it is written: its type and its bytes as an element, and the type by which a field tells it without
-- bytes, if it is a truth value.
pub record Form : Type 0 where
  pub kind : Kind
  pub told : Option Kind
  pub bytes : List ℕ

abbrev pub plain : Kind → List ℕ → Form
plain kind bytes = record { kind = kind; told = None; bytes = bytes }

-- a field as it is written
pub record FieldForm : Type 0 where
  pub id : ℤ
  pub form : Form

abbrev pub truth : Bool → Form
truth true = record { kind = kind.False; told = Some kind.True; bytes = 1 ∷ [] }
truth false = record { kind = kind.False; told = Some kind.False; bytes = 2 ∷ [] }

-- the type of elements, all of one type; that of no elements is struct
abbrev pub element_kind : List Form → Kind
element_kind [] = kind.Struct
element_kind (form ∷ forms) = form.kind

abbrev pub list_header : ℕ → Kind → List ℕ
list_header size kind = if nat_lt size 15 then (16 * size + code_of kind) ∷ [] else (240 + code_of kind) ∷ varint size

abbrev pub list : List Form → List ℕ
list forms = list_header (length forms) (element_kind forms) ++ flat_map (λ form. form.bytes) forms

-- a difference that the header of a field has room for
abbrev pub short_difference : ℤ → Option ℕ
short_difference (pos n) = if nat_lt 0 n && nat_lt n 16 then Some n else None
short_difference (negsuc n) = None

abbrev pub field_header_by : Option ℕ → ℤ → Kind → List ℕ
field_header_by (Some difference) id kind = (16 * difference + code_of kind) ∷ []
field_header_by None id kind = code_of kind ∷ varint (zigzag id)

abbrev pub field_header : ℤ → ℤ → Kind → List ℕ
field_header last id kind = field_header_by (short_difference (id -ℤ last)) id kind

abbrev pub field_by : ℤ → ℤ → Option Kind → Form → List ℕ
field_by last id (Some kind) form = field_header last id kind
field_by last id None form = field_header last id form.kind ++ form.bytes

-- a field behind one with the id `last`
abbrev pub field : ℤ → FieldForm → List ℕ
field last f = field_by last f.id f.form.told f.form

-- the fields, and the byte 0
abbrev pub fields : ℤ → List FieldForm → List ℕ
fields last [] = 0 ∷ []
fields last (f ∷ fs) = field last f ++ fields f.id fs

-- elements of one width
abbrev pub at_width : ℕ → List (ℕ → Form) → List Form
at_width width forms = map (λ form. form width) forms

-- one level of a tree. Maps are not written: no tree with one is writable.
abbrev pub node_form : Node-F (ℕ → Form) FieldForm → ℕ → Form
node_form (Node-F.Bool b) width = truth b
node_form (Node-F.Whole z) width = plain (whole_kind width) (whole width z)
node_form (Node-F.Double bytes) width = plain kind.Double bytes
node_form (Node-F.Binary bytes) width = plain kind.Binary (varint (length bytes) ++ bytes)
node_form (Node-F.List nodes) width = plain kind.List (list (at_width width nodes))
node_form (Node-F.Set nodes) width = plain kind.Set (list (at_width width nodes))
node_form (Node-F.Map pairs) width = plain kind.Map []
node_form (Node-F.Struct fs) width = plain kind.Struct (fields (pos 0) fs)

abbrev pub field_form : Field-F (ℕ → Form) FieldForm → FieldForm
field_form f = record { id = f.id; form = f.node f.width }

-- a value of this width as it is written
abbrev pub form_of : Node → ℕ → Form
form_of = fold-Node (ℕ → Form) FieldForm node_form field_form

abbrev pub field_form_of : Field → FieldForm
field_form_of = fold-Field (ℕ → Form) FieldForm node_form field_form

-- the bytes of a struct
abbrev pub struct : List Field → List ℕ
struct tree = fields (pos 0) (map field_form_of tree)
