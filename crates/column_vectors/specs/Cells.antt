-- What a column is: a type, and a value for each row.
use Rattle.std.specs.Prelude.{◌≡◌, ℕ, List, [], ◌∷◌, length, map, All, slice_index_or, Bool, true, false, Option, Some, None}
use Rattle.column_vectors.specs.Flags.{count_of}
use Rattle.dm_types.specs.Lanes.{IsNullOrOf}
use Rattle.dm_types.specs.declared.value.DataType.{DataType}
use Rattle.dm_types.specs.declared.value.Value.{Value}
use Rattle.dm_types.specs.declared.value.Value.TheVariants.{Null}

pub record Cells : Type 0 where
  pub kind : DataType
  pub values : List Value

-- the value of each place in turn
abbrev pub gathered : List Value → List ℕ → List Value
gathered values places = map (λ place. slice_index_or values place Null) places

-- the values of the rows: null where a row has none, and else the next of those that are kept
abbrev pub shown : {K : Type 0} → (K → Value) → List Bool → List K → List Value
shown value_at [] kept = []
shown value_at (false ∷ valid) kept = Null ∷ shown value_at valid kept
shown value_at (true ∷ valid) [] = Null ∷ shown value_at valid []
shown value_at (true ∷ valid) (k ∷ kept) = value_at k ∷ shown value_at valid kept

-- the value of what a row has
abbrev pub value_or_null : {K : Type 0} → (K → Value) → Option K → Value
value_or_null value_at None = Null
value_or_null value_at (Some k) = value_at k

-- what every column keeps: one value for each row that has one, a lane that serves the type, and values of the type
pub record IsColumn {K : Type 0} (serves : DataType → Bool) (value_of : K → DataType → Value) (kind : DataType)
    (valid : List Bool) (kept : List K) : Type 0 where
  pub count : length kept ≡ count_of valid
  pub lane : serves kind ≡ true
  pub typed : All (IsNullOrOf kind) (shown (λ k. value_of k kind) valid kept)
