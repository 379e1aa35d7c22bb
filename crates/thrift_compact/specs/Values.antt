-- Values as they stand in a tree, and what single bytes say.
use Rattle.std.specs.Prelude.{ℕ, ℤ, pos, ◌+ℤ◌, ◌/◌, ◌%◌, ◌^◌, ◌==◌, ◌||◌, Bool, true, false, nat_lt, if◌then◌else◌, List, [], ◌∷◌, Option, Some, None}
use Rattle.std.specs.Int.Signed.{lt_z}
use Rattle.thrift_compact.specs.Kinds.{kind_of, may_stand, width_of}
use Rattle.thrift_compact.specs.declared.kind.Kind.{Kind}
use Rattle.thrift_compact.specs.declared.header.FieldStart.{FieldStart}
use Rattle.thrift_compact.specs.declared.header.ListStart.{ListStart}
use Rattle.thrift_compact.specs.declared.header.EntryKinds.{EntryKinds}
use Rattle.thrift_compact.specs.declared.header.VarintByte.{VarintByte}
use Rattle.thrift_compact.specs.declared.value.Value.{Value}
use Rattle.thrift_compact.specs.declared.tree.Node.{Node}
use Rattle.thrift_compact.specs.declared.tree.Node.TheVariants as n
use Rattle.thrift_compact.specs.declared.tree.Field.{Field, out-Field}

-- ---- values

-- a value that has no width
abbrev pub plain : Node → Value
plain node = record { width = 0; node = node }

-- a whole number of this width
abbrev pub sized : ℕ → ℤ → Value
sized width z = record { width = width; node = n.Whole z }

-- the width of whole numbers in a list, which an empty one hasn't
abbrev pub list_width : Kind → List Node → ℕ
list_width kind [] = 0
list_width kind (node ∷ nodes) = width_of kind

abbrev pub field_of : ℤ → Value → Field
field_of id v = record { id = id; width = v.width; node = v.node }

abbrev pub id_of : Field → ℤ
id_of field = (out-Field field).id

-- ---- single bytes

-- a truth value in a list, a set or a map
abbrev pub truth_of : ℕ → Option Bool
truth_of b = if b == 1 then Some true else if b == 0 || b == 2 then Some false else None

-- A byte of a varint: its low seven bits, which are below 2 to the width, and whether it goes on.
unfoldable pub varint_byte : ℕ → Bool → ℕ → Option VarintByte
varint_byte width may_go_on b =
    if nat_lt (b % 128) (2 ^ width) then
    if nat_lt b 128 then Some (record { low = b % 128; more = false })
    else if may_go_on then Some (record { low = b % 128; more = true })
    else None
    else None

-- the id behind `last` by this difference, which is at most 32767
abbrev pub id_after : ℤ → ℕ → Option ℤ
id_after last delta = if lt_z (pos 32767) (last +ℤ pos delta) then None else Some (last +ℤ pos delta)

-- the type, where its values may stand
abbrev pub allowed : ℕ → Option Kind → Option Kind
allowed left None = None
allowed left (Some kind) = if may_stand left kind then Some kind else None

abbrev pub start_with_id : Kind → Option ℤ → Option FieldStart
start_with_id kind None = None
start_with_id kind (Some id) = Some (record { id = Some id; kind = kind })

abbrev pub start_by_kind : ℤ → ℕ → Option Kind → Option FieldStart
start_by_kind last b None = None
start_by_kind last b (Some kind) =
    if b / 16 == 0 then Some (record { id = None; kind = kind })
    else start_with_id kind (id_after last (b / 16))

-- the first byte of a field: the difference of the ids in the upper half, or 0 where the id follows; the type in the
-- lower half
unfoldable pub field_start : ℕ → ℤ → ℕ → Option FieldStart
field_start left last b = start_by_kind last b (allowed left (kind_of (b % 16)))

-- Sizes are below 2 to this width: 64 bits, and none where an element couldn't stand.
abbrev pub size_width : ℕ → Kind → ℕ
size_width left kind = if may_stand left kind then 64 else 0

abbrev pub list_by_kind : ℕ → ℕ → Option Kind → Option ListStart
list_by_kind left b None = None
list_by_kind left b (Some kind) =
    if b / 16 == 15 then Some (record { size = None; kind = kind })
    else if b / 16 == 0 then Some (record { size = Some 0; kind = kind })
    else if nat_lt (b / 16) 15 then
    if may_stand left kind then Some (record { size = Some (b / 16); kind = kind })
    else None
    else None

-- the first byte of a list or a set: the size in the upper half, or 15 where it follows; the type of the elements in
-- the lower half
unfoldable pub list_start : ℕ → ℕ → Option ListStart
list_start left b = list_by_kind left b (kind_of (b % 16))

abbrev pub entry_by_kinds : Option Kind → Option Kind → Option EntryKinds
entry_by_kinds (Some key) (Some value) = Some (record { key = key; value = value })
entry_by_kinds key value = None

-- the types of a map's keys, in the upper half, and of its values
unfoldable pub entry_kinds : ℕ → ℕ → Option EntryKinds
entry_kinds left b = entry_by_kinds (allowed left (kind_of (b / 16))) (allowed left (kind_of (b % 16)))
