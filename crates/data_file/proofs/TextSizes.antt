-- The bytes of texts, row after row.
use Rattle.std.proofs.Common.{◌≡◌, ℕ, ◌+◌, ◌≤◌, true, false, List, [], ◌∷◌, Some, length, get_or, take, slice_get, refl, sym, ap, ◌∙◌, subst, arith}
use Rattle.std.specs.Prelude.{All}
use Rattle.std.specs.List.{AllByRecursion}
use Rattle.std.proofs.lemmas.List.{take_all, take_more}
use Rattle.std.proofs.lemmas.List.Elements.{recursion_from_All}
use Rattle.std.proofs.lemmas.List.Sums.{sum_by-cons, sum_by-take-le, sum_by_push}
use Rattle.std.proofs.lemmas.Option.{get_or_from_slice_get, slice_get_within}
use Rattle.column_vectors.specs.Cells.{Cells}
use Rattle.column_vectors.specs.Lanes.{IsServed, cells_of, serves}
use Rattle.column_vectors.specs.declared.lane_column.LaneColumn.{LaneColumn}
use Rattle.column_vectors.specs.declared.lane_column.LaneColumn.TheVariants as lane
use Rattle.dm_types.specs.Lanes.{IsNullOrOf, is_bytes, is_text}
use Rattle.dm_types.specs.declared.value.DataType.{DataType}
use Rattle.dm_types.specs.declared.value.DataType.TheVariants as kind
use Rattle.dm_types.specs.declared.value.Value.{Value}
use Rattle.dm_types.specs.declared.value.Value.TheVariants as value
use Rattle.parquet_pages.specs.Kept.{text_bytes, text_size}

-- one row more
pub size-more : (values : List Value) (row : ℕ) (v : Value) → slice_get values row ≡ Some v → text_size (take (row + 1) values) ≡ text_size (take row values) + text_bytes v
size-more values row v is =
    ap text_size (take_more values row v (slice_get_within values row v is)) ∙ sum_by_push text_bytes (take row values) (get_or values row v)
    ∙ ap (λ (x : Value). text_size (take row values) + text_bytes x) (get_or_from_slice_get values row v v is)

-- all rows together
pub size-le : (values : List Value) (row : ℕ) → text_size (take row values) ≤ text_size values
size-le values row = sum_by-take-le text_bytes values row

pub size-all : (values : List Value) (row : ℕ) → length values ≤ row → text_size (take row values) ≡ text_size values
size-all values row past = ap text_size (take_all row values past)

-- ---- columns without text

text_free : (k : DataType) (v : Value) → is_text k ≡ false → is_bytes k ≡ false → IsNullOrOf k v → text_bytes v ≡ 0
text_free kind.Str v no_text no_bytes of = absurd cc
text_free kind.Binary v no_text no_bytes of = absurd cc
text_free k (value.Text t) no_text no_bytes of = absurd of
text_free k (value.Bytes b) no_text no_bytes of = absurd of
text_free k v no_text no_bytes of = refl

all_free : (k : DataType) (values : List Value) → is_text k ≡ false → is_bytes k ≡ false → AllByRecursion (IsNullOrOf k) values → text_size values ≡ 0
all_free k [] no_text no_bytes of = refl
all_free k (v ∷ more) no_text no_bytes of =
    let here : text_bytes v ≡ 0 = text_free k v no_text no_bytes of.0 in
    let later : text_size more ≡ 0 = all_free k more no_text no_bytes of.1 in
    sum_by-cons text_bytes v more ∙ omega (arith, here, later)

text_lane : (it : LaneColumn) → ((t : Cells) → it ≡ lane.Text t → ⊥) → serves it kind.Str ≡ true → ⊥
text_lane (lane.Text t) other served = other t refl
text_lane it other served = absurd cc

bytes_lane : (it : LaneColumn) → ((b : Cells) → it ≡ lane.Bytes b → ⊥) → serves it kind.Binary ≡ true → ⊥
bytes_lane (lane.Bytes b) other served = other b refl
bytes_lane it other served = absurd cc

lane_free : (it : LaneColumn) (k : DataType) → ((t : Cells) → it ≡ lane.Text t → ⊥) → ((b : Cells) → it ≡ lane.Bytes b → ⊥) → serves it k ≡ true → (is_text k ≡ false) × (is_bytes k ≡ false)
lane_free it kind.Str no_text no_bytes served = absurd (text_lane it no_text served)
lane_free it kind.Binary no_text no_bytes served = absurd (bytes_lane it no_bytes served)
lane_free it k no_text no_bytes served = (refl, refl)

-- a column in no lane of texts or bytes has no text
pub no_text : (it : LaneColumn) (column : Cells) → ((t : Cells) → it ≡ lane.Text t → ⊥) → ((b : Cells) → it ≡ lane.Bytes b → ⊥) → IsServed it → cells_of it ≡ column → All (IsNullOrOf column.kind) column.values → 0 ≡ text_size column.values
no_text it column not_text not_bytes served same typed =
    let kept : serves it column.kind ≡ true = subst (λ (c : Cells). serves it c.kind ≡ true) same served in
    let free = lane_free it column.kind not_text not_bytes kept in
    sym (all_free column.kind column.values free.0 free.1 (recursion_from_All (IsNullOrOf column.kind) column.values typed))
