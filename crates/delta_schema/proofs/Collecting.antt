-- Reading the fields of a schema one after the other.
use Rattle.std.proofs.Common.{◌≡◌, ℕ, List, ◌++◌, Bool, Option, Some, option_map, Result, subst, ap}
use Rattle.std.specs.List.{list_all}
use mathlib.Core.Path.{fun_ext}
use Rattle.serde_json.specs.Data.{Data, Items}
use Rattle.delta_schema.specs.Metadata.{metadata_of}
use Rattle.delta_actions.specs.Forms.{each_item}
use Rattle.delta_schema.specs.declared.fault.Fault.{Fault}
use Rattle.delta_schema.specs.declared.schema.ColumnDef.{ColumnDef}
use Rattle.delta_schema.specs.Columns.{column_of, column_with}
use Rattle.delta_schema.specs.Names.{is_among}
use Rattle.delta_schema.specs.StepsReading.{Gives, is_held}

-- what was collected before, and what is still to come
abbrev pub after : {A : Type 0} → List A → Option (List A) → Option (List A)
after done more = option_map (λ rest. done ++ rest) more

-- a set that has the partition names serves for these
pub same_columns : (keys partitions : List (List ℕ)) (ds : Items) (r : Result (List (Result ColumnDef (List ℕ))) Fault) → ((name : List ℕ) → is_held keys name ≡ is_among partitions name)
    → Gives (each_item (column_of (is_held keys)) ds) r → Gives (each_item (column_of (is_among partitions)) ds) r
same_columns keys partitions ds r same found = subst (λ (test : List ℕ → Bool). Gives (each_item (column_of test) ds) r) (fun_ext same) found

pub same_names : (keys others names : List (List ℕ)) → ((name : List ℕ) → is_held keys name ≡ is_among others name) → list_all (is_held keys) names ≡ list_all (is_among others) names
same_names keys others names same = ap (λ (test : List ℕ → Bool). list_all test names) (fun_ext same)

-- the column of a field, by its metadata
pub column_by : (test : List ℕ → Bool) (field metadata : Data) (r : Result (Result ColumnDef (List ℕ)) Fault) → metadata_of field ≡ Some metadata → Gives (column_with test field metadata) r → Gives (column_of test field) r
unfolding column_of
column_by test field metadata r is found = rw is found
