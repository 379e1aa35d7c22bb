-- Which values of a list a page has.
use Rattle.std.specs.Prelude.{◌≡◌, ⊤, ℕ, List, slice_get, slice_index, ◌==◌, if◌then◌else◌, Option, Some, None, Result, Ok, Err}
use Rattle.dm_types.specs.Then.{◌>>=◌}
use Rattle.parquet_pages.specs.Physical.{Physical}
use Rattle.parquet_pages.specs.Views.{chosen}
use Rattle.parquet_pages.specs.declared.fault.FileFault.{FileFault}
use Rattle.parquet_pages.specs.declared.fault.FileFault.TheVariants as fault
use Rattle.parquet_pages.specs.declared.values.Order.{Order}
use Rattle.parquet_pages.specs.declared.values.Order.TheVariants as order

-- the value of the full entry with so many before it
abbrev pub value_at : List Physical → Order → ℕ → Option Physical
value_at values order.InTurn at = slice_get values at
value_at values (order.ByPlace places) at = slice_get places at >>= slice_get values

-- the value of an entry, which so many full ones come before
abbrev pub entry_with : List ℕ → List Physical → Order → ℕ → ℕ → Option Physical
entry_with levels values found at before = if slice_index levels at == 0 then None else value_at values found before

-- an order that gives the values that there are, or BadParquet where there are none
abbrev pub GivesOrder : List Physical → Option (List Physical) → Result Order FileFault → Type 0
GivesOrder values known (Ok found) = (named : List Physical) × (known ≡ Some named) × (chosen values found ≡ Some named)
GivesOrder values known (Err fault.BadParquet) = known ≡ None
GivesOrder values known (Err fault.Memory) = ⊤
GivesOrder values known (Err other) = ⊥
