-- The bytes of a struct, as a relation between bytes and values, after the document of the Thrift compact protocol.
-- Sections: "Base types" (varints, zigzag, doubles, binaries), "Struct encoding", "List and set", "Map".
use Rattle.std.specs.Prelude.{◌≡◌, ◌⊎◌, ℕ, zero, suc, ℤ, pos, negsuc, ◌+ℤ◌, ◌≤ℤ◌, ◌+◌, ◌*◌, ◌%◌, ◌^◌, ◌<◌, ◌≤◌, Bool, true, false, IsTrue, List, [], ◌∷◌, ◌++◌, length}
use Rattle.std.specs.Int.{cast_signed, w8}
use Rattle.thrift_compact.specs.Kinds.{code_of, may_stand}
use Rattle.thrift_compact.specs.Values.{plain, sized, list_width, field_of, id_of}
use Rattle.thrift_compact.specs.declared.kind.Kind.{Kind}
use Rattle.thrift_compact.specs.declared.kind.Kind.TheVariants as kind
use Rattle.thrift_compact.specs.declared.header.FieldHeader.{FieldHeader}
use Rattle.thrift_compact.specs.declared.header.ListHeader.{ListHeader}
use Rattle.thrift_compact.specs.declared.header.EntryKinds.{EntryKinds}
use Rattle.thrift_compact.specs.declared.value.Value.{Value}
use Rattle.thrift_compact.specs.declared.tree.Node.{Node}
use Rattle.thrift_compact.specs.declared.tree.Node.TheVariants as n
use Rattle.thrift_compact.specs.declared.tree.Field.{Field}
use Rattle.thrift_compact.specs.declared.number.TheConstants.{MAX_BYTES}
use Rattle.thrift_compact.specs.declared.tree.TheConstants.{MAX_INNER}

-- ---- how forms are put together

-- which bytes stand for which values
abbrev pub Form : Type 0 → Type 1
Form A = List ℕ → A → Type 0

-- no bytes stand for this value
abbrev pub Nothing : {A : Type 0} → A → Form A
Nothing x bytes y = (bytes ≡ []) × (y ≡ x)

-- the same bytes, for what is made of the value
abbrev pub Made : {A B : Type 0} → (A → B) → Form A → Form B
Made {A} make R bytes y = (x : A) × R bytes x × (y ≡ make x)

-- the bytes of a value, and then bytes whose form the value decides
abbrev pub Then : {A B : Type 0} → Form A → (A → Form B) → Form B
Then {A} R S bytes y = (x : A) × (front : List ℕ) × (back : List ℕ) × (bytes ≡ front ++ back) × R front x × S x back y

-- values one after another
abbrev pub Each : {A : Type 0} → Form A → Form (List A)
Each R bytes [] = bytes ≡ []
Each R bytes (x ∷ xs) = (front : List ℕ) × (back : List ℕ) × (bytes ≡ front ++ back) × R front x × Each R back xs

-- so many of them
abbrev pub Times : {A : Type 0} → Form A → ℕ → Form (List A)
Times R count bytes xs = (length xs ≡ count) × Each R bytes xs

-- ---- numbers

-- ULEB128: seven bits a byte, the lowest first. Each byte but the last has its highest bit set.
abbrev pub IsUleb : Form ℕ
IsUleb [] n = ⊥
IsUleb (b ∷ []) n = (b < 128) × (n ≡ b)
IsUleb (b ∷ c ∷ bytes) n = (128 ≤ b) × ((high : ℕ) × (n ≡ b % 128 + 128 * high) × IsUleb (c ∷ bytes) high)

-- a varint of few enough bytes, below 2 to the width; it may be longer than the number needs
pub record IsVarint (width : ℕ) (bytes : List ℕ) (number : ℕ) : Type 0 where
  pub uleb : IsUleb bytes number
  pub short : length bytes ≤ MAX_BYTES
  pub fits : number < 2 ^ width

-- 0, -1, 1, -2, 2 and so on are 0, 1, 2, 3, 4
abbrev pub zigzag : ℤ → ℕ
zigzag (pos n) = 2 * n
zigzag (negsuc n) = 2 * n + 1

-- a whole number of the width
abbrev pub IsWhole : ℕ → Form ℤ
IsWhole width bytes z = IsVarint width bytes (zigzag z)

-- ---- values that hold no others

-- in a list, a set or a map, true is 1, and false is 2, or 0 by older writers
abbrev pub IsTruth : Form Bool
IsTruth bytes true = bytes ≡ 1 ∷ []
IsTruth bytes false = (bytes ≡ 2 ∷ []) ⊎ (bytes ≡ 0 ∷ [])

-- one byte, in two's complement
abbrev pub IsSignedByte : Form ℤ
IsSignedByte bytes z = (b : ℕ) × (bytes ≡ b ∷ []) × (z ≡ cast_signed w8 b)

-- the bytes themselves, so many
abbrev pub IsBytes : ℕ → Form (List ℕ)
IsBytes count bytes content = (length bytes ≡ count) × (content ≡ bytes)

-- a varint length, and so many bytes
abbrev pub IsBinary : Form (List ℕ)
IsBinary = Then (IsVarint 64) IsBytes

abbrev pub IsScalar : Kind → Form Value
IsScalar kind.True = Made (λ t. plain (n.Bool t)) IsTruth
IsScalar kind.False = Made (λ t. plain (n.Bool t)) IsTruth
IsScalar kind.I8 = Made (sized 8) IsSignedByte
IsScalar kind.I16 = Made (sized 16) (IsWhole 16)
IsScalar kind.I32 = Made (sized 32) (IsWhole 32)
IsScalar kind.I64 = Made (sized 64) (IsWhole 64)
IsScalar kind.Double = Made (λ bytes. plain (n.Double bytes)) (IsBytes 8)
IsScalar kind.Binary = Made (λ bytes. plain (n.Binary bytes)) IsBinary
IsScalar _ = λ bytes value. ⊥

-- ---- lists, sets and maps. `left` is how many structs, lists, sets and maps may be opened in them, and `inner` the
-- ---- form of what is in them.

-- elements of the type may stand there, if there are any
abbrev pub MayHold : ℕ → Kind → ℕ → Type 0
MayHold left kind count = (count ≡ 0) ⊎ IsTrue (may_stand left kind)

-- one byte: the count up to 14 in the upper half, the type of the elements in the lower half
abbrev pub IsShortList : Form ListHeader
IsShortList bytes h = (h.size < 15) × (bytes ≡ (16 * h.size + code_of h.kind) ∷ [])

-- 15 in the upper half, and then the count
abbrev pub IsLongList : Form ListHeader
IsLongList bytes h = (back : List ℕ) × (bytes ≡ (240 + code_of h.kind) ∷ back) × IsVarint 64 back h.size

abbrev pub IsListHeader : ℕ → Form ListHeader
IsListHeader left bytes h = (IsShortList bytes h ⊎ IsLongList bytes h) × MayHold left h.kind h.size

-- a value without its width
abbrev pub IsNode : Form Value → Form Node
IsNode = Made (λ value. value.node)

-- a list or a set, as its elements and the width of whole numbers among them
abbrev pub IsList : ℕ → (Kind → Form Value) → Form (List Node × ℕ)
IsList left inner =
    Then (IsListHeader left) (λ h.
    Made (λ nodes. (nodes, list_width h.kind nodes)) (Times (IsNode (inner h.kind)) h.size))

-- one byte: the type of the keys in the upper half, and that of the values in the lower half
abbrev pub IsEntryKinds : ℕ → Form EntryKinds
IsEntryKinds left bytes kinds =
    (bytes ≡ (16 * code_of kinds.key + code_of kinds.value) ∷ [])
    × IsTrue (may_stand left kinds.key)
    × IsTrue (may_stand left kinds.value)

-- a key, and then its value
abbrev pub IsEntry : Form Node → Form Node → Form (Node × Node)
IsEntry K V = Then K (λ key. Made (λ value. (key, value)) V)

-- an empty map has no byte of types
abbrev pub IsEntries : ℕ → (Kind → Form Value) → ℕ → Form (List (Node × Node))
IsEntries left inner zero = Nothing []
IsEntries left inner (suc more) =
    Then (IsEntryKinds left) (λ kinds.
    Times (IsEntry (IsNode (inner kinds.key)) (IsNode (inner kinds.value))) (suc more))

-- a varint count, the types, and the entries
abbrev pub IsMap : ℕ → (Kind → Form Value) → Form (List (Node × Node))
IsMap left inner = Then (IsVarint 64) (IsEntries left inner)

-- ---- structs

-- one byte: the difference to the id before in the upper half, the type in the lower half
abbrev pub IsShortField : ℤ → Form FieldHeader
IsShortField last bytes h =
    (delta : ℕ)
    × (0 < delta)
    × (bytes ≡ (16 * delta + code_of h.kind) ∷ [])
    × (h.id ≡ last +ℤ pos delta)
    × (h.id ≤ℤ pos 32767)

-- 0 in the upper half, and then the id
abbrev pub IsLongField : Form FieldHeader
IsLongField bytes h = (back : List ℕ) × (bytes ≡ code_of h.kind ∷ back) × IsWhole 16 back h.id

abbrev pub IsFieldHeader : ℕ → ℤ → Form FieldHeader
IsFieldHeader left last bytes h = (IsShortField last bytes h ⊎ IsLongField bytes h) × IsTrue (may_stand left h.kind)

-- the value of a field; a truth value has no bytes, since the type tells it
abbrev pub IsFieldValue : (Kind → Form Value) → Kind → Form Value
IsFieldValue inner kind.True = Nothing (plain (n.Bool true))
IsFieldValue inner kind.False = Nothing (plain (n.Bool false))
IsFieldValue inner kind = inner kind

-- a field behind one with the id `last`
abbrev pub IsField : ℕ → (Kind → Form Value) → ℤ → Form Field
IsField left inner last = Then (IsFieldHeader left last) (λ h. Made (field_of h.id) (IsFieldValue inner h.kind))

-- fields one after another, and the byte 0
abbrev pub IsFields : (ℤ → Form Field) → ℤ → Form (List Field)
IsFields F last bytes [] = bytes ≡ 0 ∷ []
IsFields F last bytes (x ∷ xs) =
    (front : List ℕ)
    × (back : List ℕ)
    × (bytes ≡ front ++ back)
    × F last front x
    × IsFields F (id_of x) back xs

-- ---- values at any depth

-- a value that holds others, in which so many more may be opened, or one that doesn't
abbrev pub IsLevel : ℕ → (Kind → Form Value) → Kind → Form Value
IsLevel left inner kind.List = Made (λ l. record { width = l.1; node = n.List l.0 }) (IsList left inner)
IsLevel left inner kind.Set = Made (λ l. record { width = l.1; node = n.Set l.0 }) (IsList left inner)
IsLevel left inner kind.Map = Made (λ pairs. plain (n.Map pairs)) (IsMap left inner)
IsLevel left inner kind.Struct = Made (λ fields. plain (n.Struct fields)) (IsFields (IsField left inner) (pos 0))
IsLevel left inner kind = IsScalar kind

-- A value of the type, as an element. So many structs, lists, sets and maps may be open in it, itself counted.
unfoldable pub IsValue : ℕ → Kind → Form Value
IsValue zero kind = IsScalar kind
IsValue (suc left) kind = IsLevel left (IsValue left) kind

-- A struct. So many structs, lists, sets and maps may be open in it at once. The first id is told from 0.
abbrev pub IsStruct : Form (List Field)
IsStruct = IsFields (IsField MAX_INNER (IsValue MAX_INNER)) (pos 0)
