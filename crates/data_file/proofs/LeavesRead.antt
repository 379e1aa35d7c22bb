-- A column that a file holds.
use Rattle.std.proofs.Common.{◌≡◌, ℕ, ◌+◌, ◌-◌, ◌≤◌, pos, Bool, true, false, cond, List, [], ◌∷◌, ◌++◌, Option, Some, None, Ok, Err, replicate, slice_get, refl, sym, ap, ◌∙◌, subst, arith}
use Rattle.std.specs.Prelude.{nat_le, unsigned_abs}
use Rattle.std.proofs.lemmas.Bool.{leb-true}
use Rattle.std.proofs.lemmas.List.{replicate-append-replicate}
use Rattle.std.proofs.lemmas.List.Folds.{sum_by-replicate}
use Rattle.column_mapping.specs.declared.places.PlaceChoice.{PlaceChoice}
use Rattle.column_mapping.specs.declared.places.PlaceChoice.TheVariants as choice
use Rattle.column_vectors.specs.Cells.{Cells}
use Rattle.dm_types.specs.Then.{go}
use Rattle.dm_types.specs.declared.value.DataType.{DataType}
use Rattle.dm_types.specs.declared.value.Value.{Value}
use Rattle.dm_types.specs.declared.value.Value.TheVariants as value
use Rattle.parquet_file.specs.File.{Opened, column_of, leaf_values as file_values}
use Rattle.parquet_meta.specs.declared.metadata.LeafSchema.{LeafSchema}
use Rattle.parquet_pages.specs.Chunk.{within}
use Rattle.parquet_pages.specs.Kept.{text_bytes, text_size}
use Rattle.parquet_pages.specs.Pages.{Answer as FileAnswer, Wanted}
use Rattle.parquet_pages.specs.declared.fault.FileFault.TheVariants as file
use Rattle.data_file.specs.Room.{Answer}
use Rattle.data_file.specs.Stored.{cells, in_leaf, rows_in, stored, told_in, values_at}
use Rattle.data_file.specs.declared.fault.PartColumn.{PartColumn}
use Rattle.data_file.specs.declared.stored.Sought.{Sought}
use Rattle.data_file.proofs.Begun.{went}

-- ---- the same value in each row

pub repeated-more : (old new : Cells) (kind : DataType) (v pushed : Value) (n : ℕ) → old ≡ record { kind = kind; values = replicate n v } → pushed ≡ v → new.kind ≡ old.kind → new.values ≡ old.values ++ pushed ∷ []
    → new ≡ record { kind = kind; values = replicate (n + 1) v }
repeated-more old new kind v pushed n before same kept more =
    let k : new.kind ≡ kind = kept ∙ ap (λ (c : Cells). c.kind) before in
    let vs : new.values ≡ replicate (n + 1) v = more ∙ ap (λ (c : Cells). c.values ++ pushed ∷ []) before ∙ ap (λ (x : Value). replicate n v ++ x ∷ []) same ∙ replicate-append-replicate n 1 v in
    let Made : DataType → List Value → Cells = λ a b. record { kind = a; values = b } in
    ap (λ (a : DataType). Made a new.values) k ∙ ap (Made kind) vs

-- the file's number of rows
pub rows-are : (it : Opened) (rows : ℕ) → pos rows ≡ it.footer.rows → rows ≡ rows_in it
rows-are it rows e = ap unsigned_abs e

-- ---- the room for text

within_by : (left : ℕ) (found values : List Value) (fits : Bool) → nat_le (text_size found) left ≡ fits → ◌≡◌ {A = FileAnswer (List Value)} (cond fits (Ok found) (Err file.TextLimit)) (Ok values) → text_size values ≤ left
within_by left found values true fits e =
    let same : found ≡ values = cc in
    subst (λ (xs : List Value). text_size xs ≤ left) same (leb-true (text_size found) left fits)
within_by left found values false fits e = absurd cc

limited_by : (left : ℕ) (known : FileAnswer (List Value)) (values : List Value) → go known (within left) ≡ Ok values → text_size values ≤ left
limited_by left (Ok found) values e = within_by left found values (nat_le (text_size found) left) refl e
limited_by left (Err f) values e = absurd cc

pub told_ok : (column : PartColumn) (known : FileAnswer (List Value)) (values : List Value) → told_in column known ≡ Ok values → known ≡ Ok values
told_ok column (Ok found) values e = let same : found ≡ values = cc in ap Ok same
told_ok column (Err f) values e = absurd cc

leaf_limited : (it : Opened) (left : ℕ) (sought : Sought) (at : ℕ) (leaf : Option LeafSchema) (values : List Value) → in_leaf it left sought at leaf ≡ Ok values → text_size values ≤ left
unfolding column_of
leaf_limited it left sought at None values e = absurd cc
leaf_limited it left sought at (Some leaf) values e =
    let wanted : Wanted = record { kind = sought.kind; nullable = sought.nullable; leaf = leaf } in
    limited_by left (file_values it at wanted) values (told_ok sought.column (column_of it at wanted left) values e)

nulls_free : (n : ℕ) → text_size (replicate n value.Null) ≡ 0
nulls_free n = sum_by-replicate text_bytes n value.Null ∙ omega arith

place_limited : (it : Opened) (left : ℕ) (sought : Sought) (place : PlaceChoice) (values : List Value) → values_at it left sought place ≡ Ok values → text_size values ≤ left
place_limited it left sought choice.Missing values e =
    let same : replicate (rows_in it) value.Null ≡ values = cc in
    let none : text_size values ≡ 0 = sym (ap text_size same) ∙ nulls_free (rows_in it) in
    omega (arith, none)
place_limited it left sought (choice.At at) values e = leaf_limited it left sought at (slice_get it.footer.leaves at) values e
place_limited it left sought choice.Partition values e = absurd cc
place_limited it left sought choice.Wrong values e = absurd cc

pub cells-limited : (it : Opened) (left : ℕ) (sought : Sought) (column : Cells) → cells sought.kind (values_at it left sought sought.place) ≡ Ok column → text_size column.values ≤ left
cells-limited it left sought column e =
    let values = went (values_at it left sought sought.place) (λ values. Ok (record { kind = sought.kind; values = values })) column e in
    let same : ◌≡◌ {A = Cells} (record { kind = sought.kind; values = values.from }) column = let e = values.gives in cc in
    subst (λ (c : Cells). text_size c.values ≤ left) same (place_limited it left sought sought.place values.from values.is)

-- a column, and the room behind it
abbrev pub with_column : ℕ → Cells → Answer (Cells × ℕ)
with_column left found = Ok (found, left - text_size found.values)

pub stored-is : (it : Opened) (sought : Sought) (left : ℕ) → stored it sought left ≡ go (cells sought.kind (values_at it left sought sought.place)) (with_column left)
unfolding stored
stored-is it sought left = refl
