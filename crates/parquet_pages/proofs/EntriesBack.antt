-- The entries of levels and values that were written are the values of the column.
use Rattle.std.proofs.Common.{◌≡◌, ℕ, zero, suc, ◌<◌, List, [], ◌∷◌, length, get_or, map, Option, Some, None, Bool, true, false, cond, ℤ, refl, sym, ap, ◌∙◌, arith}
use Rattle.std.specs.Prelude.{All, option_map}
use Rattle.std.specs.List.{filter, range_with_len, AllByRecursion}
use Rattle.std.proofs.lemmas.List.{length-map, get_or-map}
use Rattle.std.proofs.lemmas.List.Elements.{recursion_from_All}
use Rattle.std.proofs.lemmas.List.FromFn.{fill_by_all}
use Rattle.dm_types.specs.Ranges.{IsNullOrInRange, IsText}
use Rattle.dm_types.specs.declared.value.DataType.{DataType}
use Rattle.dm_types.specs.declared.value.Value.{Value}
use Rattle.dm_types.specs.declared.value.Value.TheVariants as value
use Rattle.parquet_pages.specs.Entries.{Page, all_told, entries, entry_at, full}
use Rattle.parquet_pages.specs.Pages.{Wanted, column_values, entry_value}
use Rattle.parquet_pages.specs.Physical.{Physical}
use Rattle.parquet_pages.specs.Stored.{is_full, leaf_of, level_of, levels_of, stored, stored_values}
use Rattle.parquet_pages.specs.Storing.{told}
use Rattle.parquet_pages.specs.Writing.{TakesNulls}
use Rattle.parquet_pages.proofs.ValuesBack.{value_back}

abbrev page_of : List ℕ → List Physical → Page Physical
page_of levels values = record { levels = levels; values = values }

-- ---- the k-th entry

here : (k : DataType) (v : Value) (levels : List ℕ) (rest : List Value) (b : Bool) → entry_at (page_of (cond b 1 0 ∷ levels) (map (stored k) (cond b (v ∷ rest) rest))) 0 ≡ cond b (Some (stored k v)) None
here k v levels rest true = refl
here k v levels rest false = refl

later : (k : DataType) (v : Value) (levels : List ℕ) (rest : List Value) (at : ℕ) (b : Bool) → entry_at (page_of (cond b 1 0 ∷ levels) (map (stored k) (cond b (v ∷ rest) rest))) (suc at) ≡ entry_at (page_of levels (map (stored k) rest)) at
later k v levels rest at true = refl
later k v levels rest at false = refl

entry_told : (k : DataType) (values : List Value) (at : ℕ) → at < length values → entry_at (page_of (levels_of values) (stored_values k values)) at ≡ told k (get_or values at value.Null)
entry_told k [] at within = absurd (omega arith)
entry_told k (v ∷ vs) zero within = here k v (levels_of vs) (filter is_full vs) (is_full v)
entry_told k (v ∷ vs) (suc at) within = later k v (levels_of vs) (filter is_full vs) at (is_full v) ∙ entry_told k vs at (omega arith)

entries_told : (k : DataType) (values : List Value) → entries (page_of (levels_of values) (stored_values k values)) ≡ map (told k) values
entries_told k values =
    let page = page_of (levels_of values) (stored_values k values) in
    let count : length (levels_of values) ≡ length values = length-map values level_of in
    ap (λ n. map (entry_at page) (range_with_len 0 n)) count
    ∙ sym (fill_by_all (entry_at page) (map (told k) values) (length values) (told k value.Null) (length-map values (told k)) (λ at within. get_or-map (told k) values at value.Null (told k value.Null) within ∙ sym (entry_told k values at within)))

-- ---- how many are full

count_step : (k : DataType) (v : Value) (levels : List ℕ) (rest : List Value) (b : Bool) → full levels ≡ length (map (stored k) rest) → full (cond b 1 0 ∷ levels) ≡ length (map (stored k) (cond b (v ∷ rest) rest))
count_step k v levels rest true same = ap suc same
count_step k v levels rest false same = same

pub full_count : (k : DataType) (values : List Value) → full (levels_of values) ≡ length (stored_values k values)
full_count k [] = refl
full_count k (v ∷ vs) = count_step k v (levels_of vs) (filter is_full vs) (is_full v) (full_count k vs)

-- ---- their values

-- the column that is read, of the leaf that is written
abbrev pub wanted : DataType → Bool → List ℕ → Option ℤ → Wanted
wanted k nullable name field_id = record { kind = k; nullable = nullable; leaf = leaf_of name field_id k }

entry_back : (k : DataType) (nullable : Bool) (name : List ℕ) (field_id : Option ℤ) (v : Value) → IsNullOrInRange k v → IsText v → (v ≡ value.Null → nullable ≡ true) → entry_value (wanted k nullable name field_id) (told k v) ≡ Some v
entry_back k nullable name field_id value.Null range text null = ap (λ b. cond b (Some value.Null) None) (null refl)
entry_back k nullable name field_id v range text null = value_back k v range text refl

all_back : (k : DataType) (nullable : Bool) (name : List ℕ) (field_id : Option ℤ) (values : List Value) → AllByRecursion (IsNullOrInRange k) values → AllByRecursion IsText values → AllByRecursion (λ v. v ≡ value.Null → nullable ≡ true) values
    → all_told (map (entry_value (wanted k nullable name field_id)) (map (told k) values)) ≡ Some values
unfolding all_told
all_back k nullable name field_id [] range text nulls = refl
all_back k nullable name field_id (v ∷ vs) range text nulls =
    let W = wanted k nullable name field_id in
    let rest = map (entry_value W) (map (told k) vs) in
    ap (λ first. all_told (first ∷ rest)) (entry_back k nullable name field_id v range.0 text.0 nulls.0)
    ∙ ap (option_map (λ more. v ∷ more)) (all_back k nullable name field_id vs range.1 text.1 nulls.1)

pub values_back : (k : DataType) (nullable : Bool) (name : List ℕ) (field_id : Option ℤ) (values : List Value) → All (IsNullOrInRange k) values → All IsText values → TakesNulls nullable values
    → column_values (wanted k nullable name field_id) (record { levels = levels_of values; values = stored_values k values }) ≡ Some values
values_back k nullable name field_id values range text nulls =
    ap (λ told. all_told (map (entry_value (wanted k nullable name field_id)) told)) (entries_told k values)
    ∙ all_back k nullable name field_id values (recursion_from_All (IsNullOrInRange k) values range) (recursion_from_All IsText values text) (recursion_from_All (λ v. v ≡ value.Null → nullable ≡ true) values nulls)
