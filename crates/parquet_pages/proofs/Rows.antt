-- What goes into the lists that are written, row after row.
use Rattle.std.proofs.Common.{◌≡◌, ℕ, ◌+◌, ◌^◌, ◌<◌, ◌≤◌, ℤ, List, [], ◌∷◌, ◌++◌, take, map, Option, Some, None, option_map, Bool, true, false, cond, leb, FitsSigned, unsigned_abs, ◌⊎◌, inl, inr, refl, sym, ap, ◌∙◌, subst, arith}
use Rattle.std.specs.Int.{w32, w64}
use Rattle.std.specs.List.{filter}
use Rattle.std.proofs.lemmas.Int.{fits_signed_from_abs}
use Rattle.std.proofs.lemmas.Bool.{leb-true, leb-false}
use Rattle.std.proofs.lemmas.List.{map-append, take_more}
use Rattle.std.proofs.lemmas.List.Elements.{All-push, filter-append}
use Rattle.std.proofs.lemmas.Option.{slice_get_within, get_or_from_slice_get}
use Rattle.std.proofs.Math.Nat.{pow-le-pow_right}
use Rattle.column_vectors.specs.Cells.{Cells}
use Rattle.dm_types.specs.Ranges.{IsText}
use Rattle.dm_types.specs.declared.value.DataType.{DataType}
use Rattle.dm_types.specs.declared.value.Value.{Value}
use Rattle.parquet_pages.specs.Physical.{Physical, whole_number}
use Rattle.parquet_pages.specs.Stored.{decimal_stored, decimal_type, is_full, level_of, levels_of, stored, stored_values}
use Rattle.parquet_meta.specs.declared.numbers.TheConstants.{INT32, INT64}
use Rattle.parquet_pages.specs.Storing.{IsStored, IsStoredAt, level, listed, physical_of, told, type_in, values_in}
use Rattle.parquet_pages.specs.declared.stored.StoredColumn.{StoredColumn}
use Rattle.parquet_pages.specs.declared.stored.StoredValue.{StoredValue}

-- ---- decimals

digits_below : (n : ℤ) (precision most : ℕ) → precision ≤ most → unsigned_abs n < 10 ^ precision → unsigned_abs n < 10 ^ most
digits_below n precision most few within =
    let wider : 10 ^ precision ≤ 10 ^ most = pow-le-pow_right {n = 10} (omega arith) {i = precision} {j = most} few in
    omega arith

pub decimal_64 : (n : ℤ) (precision : ℕ) → precision ≤ 18 → unsigned_abs n < 10 ^ precision → FitsSigned w64 n
decimal_64 n precision few within =
    let small : unsigned_abs n < 10 ^ 18 = digits_below n precision 18 few within in
    fits_signed_from_abs w64 n (omega arith)

decimal_32 : (n : ℤ) (precision : ℕ) → precision ≤ 9 → unsigned_abs n < 10 ^ precision → FitsSigned w32 n
decimal_32 n precision few within =
    let small : unsigned_abs n < 10 ^ 9 = digits_below n precision 9 few within in
    fits_signed_from_abs w32 n (omega arith)

decimal_whole_by : (precision : ℕ) (n : ℤ) (b d : Bool) → leb precision 9 ≡ b → leb precision 18 ≡ d → precision ≤ 18 → decimal_stored precision n ≡ whole_number n
decimal_whole_by precision n true d is also few = rw is refl
decimal_whole_by precision n false true is also few = rw (is, also) refl
decimal_whole_by precision n false false is also few = absurd (omega (arith, leb-false precision 18 also))

pub decimal_whole : (precision : ℕ) (n : ℤ) → precision ≤ 18 → decimal_stored precision n ≡ whole_number n
decimal_whole precision n few = decimal_whole_by precision n (leb precision 9) (leb precision 18) refl refl few

decimal_goes_by : (precision : ℕ) (n : ℤ) (b d : Bool) → leb precision 9 ≡ b → leb precision 18 ≡ d → precision ≤ 18 → unsigned_abs n < 10 ^ precision
    → ((decimal_type precision ≡ INT32) × FitsSigned w32 n) ⊎ ((decimal_type precision ≡ INT64) × FitsSigned w64 n)
decimal_goes_by precision n true d is also few within = inl (rw is refl, decimal_32 n precision (leb-true precision 9 is) within)
decimal_goes_by precision n false true is also few within = inr (rw (is, also) refl, decimal_64 n precision few within)
decimal_goes_by precision n false false is also few within = absurd (omega (arith, leb-false precision 18 also))

-- a decimal that is a number goes into the list of its type
pub decimal_goes : (precision : ℕ) (n : ℤ) → precision ≤ 18 → unsigned_abs n < 10 ^ precision
    → ((decimal_type precision ≡ INT32) × FitsSigned w32 n) ⊎ ((decimal_type precision ≡ INT64) × FitsSigned w64 n)
decimal_goes precision n few within = decimal_goes_by precision n (leb precision 9) (leb precision 18) refl refl few within

-- ---- a row more

level_cond : (b : Bool) (p : Physical) → level (cond b (Some p) None) ≡ cond b 1 0
level_cond true p = refl
level_cond false p = refl

listed_cond : (k : DataType) (v : Value) (b : Bool) → listed (cond b (Some (stored k v)) None) ≡ map (stored k) (cond b (v ∷ []) [])
listed_cond k v true = refl
listed_cond k v false = refl

levels_more : (k : DataType) (rows : List Value) (v : Value) → levels_of (rows ++ v ∷ []) ≡ levels_of rows ++ level (told k v) ∷ []
levels_more k rows v = map-append level_of rows (v ∷ []) ∙ ap (λ l. levels_of rows ++ l ∷ []) (sym (level_cond (is_full v) (stored k v)))

values_more : (k : DataType) (rows : List Value) (v : Value) → stored_values k (rows ++ v ∷ []) ≡ stored_values k rows ++ listed (told k v)
values_more k rows v =
    ap (map (stored k)) (filter-append is_full rows (v ∷ []))
    ∙ map-append (stored k) (filter is_full rows) (filter is_full (v ∷ []))
    ∙ ap (λ p. stored_values k rows ++ p) (sym (listed_cond k v (is_full v)))

stored_push : (k : DataType) (rows : List Value) (v : Value) (found : Option Physical) (old new : StoredColumn) → IsStored k rows old → found ≡ told k v → IsText v
    → new.levels ≡ old.levels ++ level found ∷ [] → values_in new.values ≡ values_in old.values ++ listed found → type_in new.values ≡ type_in old.values → IsStored k (rows ++ v ∷ []) new
stored_push k rows v found old new so is text levels values kept = record {
  levels = levels ∙ ap (λ l. old.levels ++ level l ∷ []) is ∙ ap (λ ls. ls ++ level (told k v) ∷ []) so.levels ∙ sym (levels_more k rows v);
  values = values ∙ ap (λ p. values_in old.values ++ listed p) is ∙ ap (λ ps. ps ++ listed (told k v)) so.values ∙ sym (values_more k rows v);
  kept = kept ∙ so.kept;
  texts = All-push IsText rows v so.texts text;
}

pub stored_more : (column : Cells) (row : ℕ) (found : Option StoredValue) (old new : StoredColumn) → IsStored column.kind (take row column.values) old → IsStoredAt column row found
    → new.levels ≡ old.levels ++ level (option_map physical_of found) ∷ [] → values_in new.values ≡ values_in old.values ++ listed (option_map physical_of found) → type_in new.values ≡ type_in old.values
    → IsStored column.kind (take (row + 1) column.values) new
stored_more column row found old new so here levels kept same =
    let within = slice_get_within column.values row here.v here.at in
    let grown : take (row + 1) column.values ≡ take row column.values ++ here.v ∷ [] = take_more column.values row here.v within ∙ ap (λ x. take row column.values ++ x ∷ []) (get_or_from_slice_get column.values row here.v here.v here.at) in
    subst (λ rows. IsStored column.kind rows new) (sym grown) (stored_push column.kind (take row column.values) here.v (option_map physical_of found) old new so here.is here.text levels kept same)
