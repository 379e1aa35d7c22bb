-- What the pages of a column chunk mean: entries, or the first fault (parquet.thrift, PageHeader, DataPageHeader,
-- DictionaryPageHeader).
use Rattle.std.specs.Prelude.{ℕ, zero, suc, ℤ, pos, ◌-◌, ◌==◌, ◌&&◌, ◌||◌, not, int_le, unsigned_abs, Bool, true, false, if◌then◌else◌, List, [], ◌∷◌, ◌++◌, length, drop, map, replicate, Option, Some, None, option_map, Result, Ok, Err}
use Rattle.std.specs.Ordering.{int_eq}
use Rattle.byteorder.specs.Endian.{little_number}
use Rattle.dm_types.specs.Then.{go, ◌>>=◌}
use Rattle.dm_types.specs.declared.value.DataType.{DataType}
use Rattle.dm_types.specs.declared.value.Value.{Value}
use Rattle.dm_types.specs.declared.value.Value.TheVariants as value
use Rattle.level_runs.specs.Reading.{runs_of}
use Rattle.plain_values.specs.Meaning.{bytes_at}
use Rattle.parquet_meta.specs.Meaning.{page_header_in}
use Rattle.parquet_meta.specs.declared.numbers.TheConstants.{PLAIN, PLAIN_DICTIONARY, RLE, RLE_DICTIONARY, DATA_PAGE, INDEX_PAGE, DICTIONARY_PAGE}
use Rattle.parquet_meta.specs.declared.headers.PageHeader.{PageHeader}
use Rattle.parquet_meta.specs.declared.headers.PageV1.{PageV1}
use Rattle.parquet_meta.specs.declared.headers.DictionaryPage.{DictionaryPage}
use Rattle.parquet_meta.specs.declared.metadata.LeafSchema.{LeafSchema}
use Rattle.parquet_pages.specs.Physical.{Physical, plain}
use Rattle.parquet_pages.specs.Types.{value_of}
use Rattle.parquet_pages.specs.Entries.{Page, entries, full, all_told, looked_up}
use Rattle.parquet_pages.specs.declared.fault.FileFault.{FileFault}
use Rattle.parquet_pages.specs.declared.fault.FileFault.TheVariants as fault
use Rattle.parquet_pages.specs.declared.pages.Role.{Role}
use Rattle.parquet_pages.specs.declared.pages.Role.TheVariants as role

-- what there is, or the first fault, which is never Memory
abbrev pub Answer : Type 0 → Type 0
Answer A = Result A FileFault

-- what there is, or else the fault
abbrev pub or_else : {A : Type 0} → FileFault → Option A → Answer A
or_else fault (Some found) = Ok found
or_else fault None = Err fault

-- the column that is asked for, and the leaf that holds it
pub record Wanted : Type 0 where
  pub kind : DataType
  pub nullable : Bool
  pub leaf : LeafSchema

-- ---- the body of a data page

-- the levels that the bytes are, as runs of width 1
abbrev pub told_levels : ℕ → List ℕ → Option (List ℕ)
told_levels count bytes =
    runs_of 1 count bytes >>= λ read.
    if read.1 == length bytes then Some read.0 else None

-- levels in the encoding RLE, with their length in four bytes before them, and the bytes behind them
abbrev pub rle_levels : ℕ → List ℕ → Option (List ℕ × List ℕ)
rle_levels count bytes = do
  size ← bytes_at 4 bytes
  parts ← bytes_at (little_number 4 size.0) size.1
  levels ← told_levels count parts.0
  Some (levels, parts.1)

-- an OPTIONAL leaf tells its levels, and another has none: all its entries are full
abbrev pub levels_at : Bool → ℕ → List ℕ → Option (List ℕ × List ℕ)
levels_at optional count bytes = if optional then rle_levels count bytes else Some (replicate count 1, bytes)

-- values in the encoding PLAIN, which the bytes are
abbrev pub plain_values : LeafSchema → ℕ → List ℕ → Option (List Physical)
plain_values leaf count bytes = plain leaf.physical (unsigned_abs leaf.length) count bytes

-- places in the dictionary, as runs behind one byte for their width, which the bytes are
abbrev pub named_values : List Physical → ℕ → List ℕ → Option (List Physical)
named_values dictionary count [] = None
named_values dictionary count (width ∷ bytes) =
    runs_of width count bytes >>= λ read.
    if read.1 == length bytes then looked_up dictionary read.0 else None

-- where no value is to be read, nothing is looked at
abbrev pub dictionary_values : Option (List Physical) → ℕ → List ℕ → Option (List Physical)
dictionary_values None count bytes = None
dictionary_values (Some dictionary) count bytes = if count == 0 then Some [] else named_values dictionary count bytes

abbrev pub is_plain : ℤ → Bool
is_plain e = int_eq e PLAIN

-- PLAIN_DICTIONARY and RLE_DICTIONARY
abbrev pub is_dictionary : ℤ → Bool
is_dictionary e = int_eq e PLAIN_DICTIONARY || int_eq e RLE_DICTIONARY

abbrev pub page_values : LeafSchema → Option (List Physical) → ℤ → ℕ → List ℕ → Option (List Physical)
page_values leaf dictionary e count bytes =
    if is_plain e then plain_values leaf count bytes else dictionary_values dictionary count bytes

-- the encodings that are read: of the levels, RLE
abbrev pub is_known : Bool → PageV1 → Bool
is_known optional header =
    (not optional || int_eq header.definition RLE) && (is_plain header.encoding || is_dictionary header.encoding)

abbrev pub null_value : Bool → Option Value
null_value nullable = if nullable then Some value.Null else None

-- the value of an entry in the column
abbrev pub entry_value : Wanted → Option Physical → Option Value
entry_value wanted None = null_value wanted.nullable
entry_value wanted (Some physical) = value_of wanted.kind wanted.leaf.annotation physical

abbrev pub column_values : Wanted → Page Physical → Option (List Value)
column_values wanted page = all_told (map (entry_value wanted) (entries page))

-- the values of the entries that have these levels and values
abbrev pub entries_of : Wanted → List ℕ → Option (List Physical) → Answer (List Value)
entries_of wanted levels values =
    go (or_else fault.BadParquet values) (λ found.
    or_else fault.Range (column_values wanted (record { levels = levels; values = found })))

-- the entries of a data page
abbrev pub data_page : Wanted → Option (List Physical) → PageV1 → List ℕ → Answer (List Value)
data_page wanted dictionary header bytes =
    if not (is_known wanted.leaf.optional header) then Err fault.Encoding
    else go (or_else fault.BadParquet (levels_at wanted.leaf.optional (unsigned_abs header.values) bytes)) (λ levels.
    entries_of wanted levels.0 (page_values wanted.leaf dictionary header.encoding (full levels.0) levels.1))

-- the values of a dictionary page, PLAIN, which are judged where a data page names them
abbrev pub dictionary_page : LeafSchema → DictionaryPage → List ℕ → Answer (List Physical)
dictionary_page leaf header bytes =
    if is_plain header.encoding || int_eq header.encoding PLAIN_DICTIONARY
    then or_else fault.BadParquet (plain_values leaf (unsigned_abs header.values) bytes)
    else Err fault.Encoding

-- ---- page after page

-- a page: its header, its body, and the bytes behind it
pub record Cut : Type 0 where
  pub header : PageHeader
  pub body : List ℕ
  pub rest : List ℕ

-- sizes that are equal and not negative, and a body that ends within the bytes
abbrev pub cut_page : PageHeader → List ℕ → Option Cut
cut_page header behind =
    if int_le (pos 0) header.packed && int_eq header.packed header.unpacked
    then option_map (λ parts. record { header = header; body = parts.0; rest = parts.1 })
    (bytes_at (unsigned_abs header.packed) behind)
    else None

-- the page at the front of bytes
abbrev pub page_at : List ℕ → Option Cut
page_at bytes = page_header_in bytes >>= λ found. cut_page found.0 (drop found.1 bytes)

-- a data page has no more entries than are left
abbrev pub data_role : ℕ → Option PageV1 → Option Role
data_role left None = None
data_role left (Some page) =
    if int_le (pos 0) page.values && int_le page.values (pos left) then Some (role.Entries page) else None

-- a dictionary page stands first
abbrev pub dictionary_role : Bool → Option DictionaryPage → Option Role
dictionary_role first None = None
dictionary_role first (Some page) =
    if first && int_le (pos 0) page.values then Some (role.Dictionary page) else None

-- what a page is by its type; None where the header is at fault
abbrev pub role_of : Bool → ℕ → PageHeader → Option Role
role_of first left header =
    if int_eq header.kind DATA_PAGE then data_role left header.page
    else if int_eq header.kind INDEX_PAGE then Some role.Index
    else if int_eq header.kind DICTIONARY_PAGE then dictionary_role first header.dictionary
    else Some role.Unknown

-- where the reading of pages stands
pub record State : Type 0 where
  pub first : Bool
  pub dictionary : Option (List Physical)
  pub left : ℕ

abbrev pub begun : ℕ → State
begun rows = record { first = true; dictionary = None; left = rows }

-- the entries of a page, and the state behind it
abbrev pub take_page : Wanted → State → Role → List ℕ → Answer (List Value × State)
take_page wanted state (role.Entries page) body =
    go (data_page wanted state.dictionary page body) (λ values.
    Ok (values, record { first = false; dictionary = state.dictionary; left = state.left - unsigned_abs page.values }))
take_page wanted state role.Index body =
    Ok ([], record { first = false; dictionary = state.dictionary; left = state.left })
take_page wanted state (role.Dictionary page) body =
    go (dictionary_page wanted.leaf page body) (λ values.
    Ok ([], record { first = false; dictionary = Some values; left = state.left }))
take_page wanted state role.Unknown body = Err fault.Encoding

abbrev pub page_entries : Wanted → State → PageHeader → List ℕ → Answer (List Value × State)
page_entries wanted state header body =
    go (or_else fault.BadParquet (role_of state.first state.left header)) (λ role. take_page wanted state role body)

-- the entries of pages, one after the other, until there are as many as the chunk has; each page has a byte, so there
-- are at most as many as bytes
unfoldable pub pages_at : ℕ → Wanted → State → List ℕ → Answer (List Value)
pages_at zero wanted state bytes = if state.left == 0 then Ok [] else Err fault.BadParquet
pages_at (suc most) wanted state bytes =
    if state.left == 0 then Ok []
    else go (or_else fault.BadParquet (page_at bytes)) (λ page.
    go (page_entries wanted state page.header page.body) (λ found.
    go (pages_at most wanted found.1 page.rest) (λ more. Ok (found.0 ++ more))))
