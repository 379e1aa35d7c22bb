-- Reading from the front of bytes, as functions on lists.
use Rattle.std.specs.Prelude.{ℕ, zero, suc, ℤ, pos, negsuc, ◌+◌, ◌-◌, ◌*◌, ◌/◌, ◌%◌, ◌==◌, true, false, nat_lt, if◌then◌else◌, List, [], ◌∷◌, length, slice_get, take, drop, Option, Some, None, Result, Ok, Err}
use Rattle.std.specs.Option.{option_map_or}
use Rattle.std.specs.Int.{cast_signed, w8}
use Rattle.thrift_compact.specs.Values.{plain, sized, list_width, field_of, id_of, truth_of, field_start, size_width, list_start, entry_kinds, varint_byte}
use Rattle.thrift_compact.specs.declared.kind.Kind.{Kind}
use Rattle.thrift_compact.specs.declared.kind.Kind.TheVariants as kind
use Rattle.thrift_compact.specs.declared.header.FieldHeader.{FieldHeader}
use Rattle.thrift_compact.specs.declared.header.ListHeader.{ListHeader}
use Rattle.thrift_compact.specs.declared.header.VarintByte.{VarintByte}
use Rattle.thrift_compact.specs.declared.value.Value.{Value}
use Rattle.thrift_compact.specs.declared.tree.Node.{Node}
use Rattle.thrift_compact.specs.declared.tree.Node.TheVariants as n
use Rattle.thrift_compact.specs.declared.tree.Field.{Field}
use Rattle.thrift_compact.specs.declared.number.TheConstants.{MAX_BYTES}
use Rattle.thrift_compact.specs.declared.tree.TheConstants.{MAX_INNER}

-- ---- readers

-- What was read with the bytes behind it, or the bytes from the first one on with which no such value goes on.
abbrev pub Outcome : Type 0 → Type 0
Outcome A = Result (A × List ℕ) (List ℕ)

abbrev pub Reader : Type 0 → Type 0
Reader A = List ℕ → Outcome A

infixl 10 ◌>>=◌
abbrev pub ◌>>=◌ : {A B : Type 0} → Outcome A → (A × List ℕ → Outcome B) → Outcome B
(Ok p) >>= f = f p
(Err rest) >>= f = Err rest

abbrev pub made : {A B : Type 0} → (A → B) → Outcome A → Outcome B
made make (Ok p) = Ok (make p.0, p.1)
made make (Err rest) = Err rest

abbrev pub accepted : {A : Type 0} → Option A → List ℕ → List ℕ → Outcome A
accepted (Some x) all rest = Ok (x, rest)
accepted None all rest = Err all

-- one byte, by what it means
abbrev pub one : {A : Type 0} → (ℕ → Option A) → Reader A
one meaning [] = Err []
one meaning (b ∷ rest) = accepted (meaning b) (b ∷ rest) rest

-- so many bytes; of fewer, each may stand
abbrev pub exactly : ℕ → Reader (List ℕ)
exactly n bytes = if nat_lt (length bytes) n then Err [] else Ok (take n bytes, drop n bytes)

-- so many values, one after another
unfoldable pub times : {A : Type 0} → Reader A → ℕ → Reader (List A)
times f zero bytes = Ok ([], bytes)
times f (suc n) bytes = f bytes >>= λ x. made (λ xs. x.0 ∷ xs) (times f n x.1)

-- ---- numbers

-- the low bits, before those of the bytes behind where it goes on
abbrev pub varint_on : VarintByte → Reader ℕ → Reader ℕ
varint_on byte behind bytes =
    if byte.more then made (λ high. byte.low + 128 * high) (behind bytes) else Ok (byte.low, bytes)

-- a varint of at most so many bytes, below 2 to the width
unfoldable pub varint_of : ℕ → ℕ → Reader ℕ
varint_of zero width bytes = Err bytes
varint_of (suc room) width bytes =
    one (varint_byte width (nat_lt 0 room)) bytes >>= λ byte. varint_on byte.0 (varint_of room (width - 7)) byte.1

abbrev pub varint : ℕ → Reader ℕ
varint width = varint_of MAX_BYTES width

abbrev pub varint_found : ℕ → Outcome ℕ → Option (ℕ × ℕ)
varint_found total (Ok p) = Some (p.0, total - length p.1)
varint_found total (Err rest) = None

-- the varint at the front of bytes, and how many of them it takes
unfoldable pub first_varint : List ℕ → Option (ℕ × ℕ)
first_varint bytes = varint_found (length bytes) (varint 64 bytes)

-- the number of a zigzag code
abbrev pub unzigzag : ℕ → ℤ
unzigzag code = if code % 2 == 0 then pos (code / 2) else negsuc (code / 2)

-- a zigzag varint of the width
abbrev pub whole : ℕ → Reader ℤ
whole width bytes = made unzigzag (varint width bytes)

abbrev pub signed_byte : ℕ → Option ℤ
signed_byte b = Some (cast_signed w8 b)

abbrev pub binary : Reader (List ℕ)
binary bytes = varint 64 bytes >>= λ size. exactly size.0 size.1

-- ---- values without others in them

-- a value of the type, as an element; the values that hold others are read below
abbrev pub scalar : Kind → Reader Value
scalar kind.True bytes = made (λ t. plain (n.Bool t)) (one truth_of bytes)
scalar kind.False bytes = made (λ t. plain (n.Bool t)) (one truth_of bytes)
scalar kind.I8 bytes = made (sized 8) (one signed_byte bytes)
scalar kind.I16 bytes = made (sized 16) (whole 16 bytes)
scalar kind.I32 bytes = made (sized 32) (whole 32 bytes)
scalar kind.I64 bytes = made (sized 64) (whole 64 bytes)
scalar kind.Double bytes = made (λ d. plain (n.Double d)) (exactly 8 bytes)
scalar kind.Binary bytes = made (λ b. plain (n.Binary b)) (binary bytes)
scalar _ bytes = Err bytes

-- ---- lists, sets and maps, over a reader of what is in them

abbrev pub list_size : ℕ → Kind → Option ℕ → Reader ListHeader
list_size left kind (Some size) bytes = Ok (record { size = size; kind = kind }, bytes)
list_size left kind None bytes =
    made (λ size. record { size = size; kind = kind }) (varint (size_width left kind) bytes)

abbrev pub list_header : ℕ → Reader ListHeader
list_header left bytes = one (list_start left) bytes >>= λ start. list_size left start.0.kind start.0.size start.1

-- the value without its width
abbrev pub node : Reader Value → Reader Node
node f bytes = made (λ v. v.node) (f bytes)

-- a list or a set, as its elements and the width of whole numbers among them
abbrev pub list : ℕ → (Kind → Reader Value) → Reader (List Node × ℕ)
list left inner bytes =
    list_header left bytes >>= λ header.
    made (λ nodes. (nodes, list_width header.0.kind nodes)) (times (node (inner header.0.kind)) header.0.size header.1)

abbrev pub entry : Reader Node → Reader Node → Reader (Node × Node)
entry key value bytes = key bytes >>= λ k. made (λ v. (k.0, v)) (value k.1)

-- what follows the size of a map
abbrev pub entries : ℕ → (Kind → Reader Value) → ℕ → Reader (List (Node × Node))
entries left inner zero bytes = Ok ([], bytes)
entries left inner (suc more) bytes =
    one (entry_kinds left) bytes >>= λ kinds.
    times (entry (node (inner kinds.0.key)) (node (inner kinds.0.value))) (suc more) kinds.1

abbrev pub map : ℕ → (Kind → Reader Value) → Reader (List (Node × Node))
map left inner bytes = varint 64 bytes >>= λ size. entries left inner size.0 size.1

-- ---- structs

abbrev pub header_id : Kind → Option ℤ → Reader FieldHeader
header_id kind (Some id) bytes = Ok (record { id = id; kind = kind }, bytes)
header_id kind None bytes = made (λ id. record { id = id; kind = kind }) (whole 16 bytes)

-- the header of a field behind one with the id `last`
abbrev pub field_header : ℕ → ℤ → Reader FieldHeader
field_header left last bytes = one (field_start left last) bytes >>= λ start. header_id start.0.kind start.0.id start.1

-- a field's value: the header itself tells a truth value
abbrev pub field_value : (Kind → Reader Value) → Kind → Reader Value
field_value inner kind.True bytes = Ok (plain (n.Bool true), bytes)
field_value inner kind.False bytes = Ok (plain (n.Bool false), bytes)
field_value inner kind bytes = inner kind bytes

abbrev pub field : ℕ → (Kind → Reader Value) → ℤ → Reader Field
field left inner last bytes =
    field_header left last bytes >>= λ header. made (field_of header.0.id) (field_value inner header.0.kind header.1)

-- the id of the last field, from which the next one is told; 0 before the first
abbrev pub last_id : List Field → ℤ
last_id fields = option_map_or id_of (slice_get fields (length fields - 1)) (pos 0)

-- the fields up to the byte 0, at most so many
unfoldable pub fields_of : (ℤ → Reader Field) → ℕ → ℤ → Reader (List Field)
fields_of f zero last bytes = Err bytes
fields_of f (suc more) last [] = Err []
fields_of f (suc more) last (b ∷ rest) =
    if b == 0 then Ok ([], rest)
    else f last (b ∷ rest) >>= λ x. made (λ xs. x.0 ∷ xs) (fields_of f more (id_of x.0) x.1)

-- the fields up to the byte 0; each takes a byte at least
abbrev pub fields : ℕ → (Kind → Reader Value) → ℤ → Reader (List Field)
fields left inner last bytes = fields_of (field left inner) (length bytes) last bytes

-- ---- values at any depth

-- a value whose elements or fields are read by `inner`, at a place where so many more may still be opened in it
abbrev pub level : ℕ → (Kind → Reader Value) → Kind → Reader Value
level left inner kind.List bytes = made (λ l. record { width = l.1; node = n.List l.0 }) (list left inner bytes)
level left inner kind.Set bytes = made (λ l. record { width = l.1; node = n.Set l.0 }) (list left inner bytes)
level left inner kind.Map bytes = made (λ ps. plain (n.Map ps)) (map left inner bytes)
level left inner kind.Struct bytes = made (λ fs. plain (n.Struct fs)) (fields left inner (pos 0) bytes)
level left inner kind bytes = scalar kind bytes

-- a value of the type, as an element, where so many structs, lists, sets and maps may still be opened
unfoldable pub value : ℕ → Kind → Reader Value
value zero kind bytes = scalar kind bytes
value (suc left) kind bytes = level left (value left) kind bytes

-- the fields of the outermost struct
abbrev pub struct_fields : Reader (List Field)
struct_fields bytes = fields MAX_INNER (value MAX_INNER) (pos 0) bytes

-- the struct and how many bytes it takes, or the place of the fault, of this many bytes in all
abbrev pub placed : {A : Type 0} → ℕ → Outcome A → Result (A × ℕ) ℕ
placed total (Ok p) = Ok (p.0, total - length p.1)
placed total (Err rest) = Err (total - length rest)

-- The struct at the front of bytes and how many of them it takes, or the place of the first byte with which no struct
-- goes on: the length, where the bytes end before.
unfoldable pub read : List ℕ → Result (List Field × ℕ) ℕ
read bytes = placed (length bytes) (struct_fields bytes)
