use Rattle.std.proofs.Common.{◌≡◌, true}
use Rattle.dm_types.specs.Ranges.{IsNullOrInRange}
use Rattle.dm_types.specs.declared.value.Value.{Value}
use Rattle.parquet_pages.specs.Stored.{is_full}
use Rattle.parquet_file.proofs.ValuesRanged.{column_holds}
use Rattle.parquet_file.proofs.laws.columns_are_ranged.Goals as goal

pub returns-clause-ranges : goal.returns-clause-ranges
returns-clause-ranges c = λ file at w left values formed is.
    column_holds (IsNullOrInRange w.kind) w (λ pages chunk rows found told. c.values_are_ranged.ensures.ranges pages chunk w rows found formed told) file at left values is

pub returns-clause-full : goal.returns-clause-full
returns-clause-full c = λ file at w left values formed none is.
    column_holds (λ (v : Value). is_full v ≡ true) w (λ pages chunk rows found told. c.values_are_ranged.ensures.full pages chunk w rows found formed none told) file at left values is
