-- The types of values (Thrift compact protocol, "Struct encoding" and "List and set").
use Rattle.std.specs.Prelude.{ℕ, Bool, true, false, nat_lt, ◌==◌, if◌then◌else◌, Option, Some, None}
use Rattle.thrift_compact.specs.declared.kind.Kind.{Kind}
use Rattle.thrift_compact.specs.declared.kind.Kind.TheVariants.{True, False, I8, I16, I32, I64, Double, Binary, List, Set, Map, Struct}

-- the type of a number
unfoldable pub kind_of : ℕ → Option Kind
kind_of code =
    if code == 1 then Some True
    else if code == 2 then Some False
    else if code == 3 then Some I8
    else if code == 4 then Some I16
    else if code == 5 then Some I32
    else if code == 6 then Some I64
    else if code == 7 then Some Double
    else if code == 8 then Some Binary
    else if code == 9 then Some List
    else if code == 10 then Some Set
    else if code == 11 then Some Map
    else if code == 12 then Some Struct
    else None

-- the number of a type
abbrev pub code_of : Kind → ℕ
code_of True = 1
code_of False = 2
code_of I8 = 3
code_of I16 = 4
code_of I32 = 5
code_of I64 = 6
code_of Double = 7
code_of Binary = 8
code_of List = 9
code_of Set = 10
code_of Map = 11
code_of Struct = 12

-- values of these types hold others
abbrev pub is_container : Kind → Bool
is_container List = true
is_container Set = true
is_container Map = true
is_container Struct = true
is_container _ = false

-- the bits of a whole number of the type, 0 for the other types
abbrev pub width_of : Kind → ℕ
width_of I8 = 8
width_of I16 = 16
width_of I32 = 32
width_of I64 = 64
width_of _ = 0

-- a value of the type may stand where this many structs, lists, sets and maps may still be opened
abbrev pub may_stand : ℕ → Kind → Bool
may_stand left kind = if is_container kind then nat_lt 0 left else true
