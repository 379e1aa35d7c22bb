-- What the types of this crate stand for.
use Rattle.std.specs.Prelude.{ℕ, List, map, replicate, Option, Some, option_map}
use Rattle.parquet_meta.specs.declared.metadata.LeafSchema.{LeafSchema}
use Rattle.plain_values.specs.Answers.{lent_values}
use Rattle.parquet_pages.specs.Entries.{looked_up}
use Rattle.parquet_pages.specs.Pages.{Cut, State, Wanted}
use Rattle.parquet_pages.specs.Physical.{Physical, flag, whole_number, raw}
use Rattle.parquet_pages.specs.declared.kept.Reading.{Reading}
use Rattle.parquet_pages.specs.declared.levels.Levels.{Levels}
use Rattle.parquet_pages.specs.declared.levels.Levels.TheVariants as levels
use Rattle.parquet_pages.specs.declared.pages.Cut as lent
use Rattle.parquet_pages.specs.declared.pages.Progress.{Progress}
use Rattle.parquet_pages.specs.declared.physical.PageValues.{PageValues}
use Rattle.parquet_pages.specs.declared.physical.PageValues.TheVariants as page
use Rattle.parquet_pages.specs.declared.physical.PlainList.{PlainList}
use Rattle.parquet_pages.specs.declared.physical.PlainList.TheVariants as plain
use Rattle.parquet_pages.specs.declared.physical.PlainValue.{PlainValue}
use Rattle.parquet_pages.specs.declared.physical.PlainValue.TheVariants as one
use Rattle.parquet_pages.specs.declared.values.Order.{Order}
use Rattle.parquet_pages.specs.declared.values.Order.TheVariants as order

-- a value that is lent
abbrev pub seen : PlainValue → Physical
seen (one.Flag b) = flag b
seen (one.Whole n) = whole_number n
seen (one.Raw bytes) = raw bytes.now

-- a list of values
abbrev pub physicals : PlainList → List Physical
physicals (plain.Flags flags) = map flag flags
physicals (plain.Whole32 numbers) = map whole_number numbers
physicals (plain.Whole64 numbers) = map whole_number numbers

-- the values of a page
abbrev pub page_values : PageValues → List Physical
page_values (page.Own values) = physicals values
page_values (page.Lent arrays) = map raw (lent_values arrays)
page_values (page.Fixed arrays) = map raw arrays

-- the level of each entry
abbrev pub level_list : Levels → List ℕ
level_list (levels.Full count) = replicate count 1
level_list (levels.Told told) = told

-- a page's values: a list in its order, or those at places in it
abbrev pub chosen : List Physical → Order → Option (List Physical)
chosen values order.InTurn = Some values
chosen values (order.ByPlace places) = looked_up values places

-- the column that is read, of a leaf
abbrev pub wanted : Reading → LeafSchema → Wanted
wanted reading leaf = record { kind = reading.kind; nullable = reading.nullable; leaf = leaf }

abbrev pub state_of : Progress → State
state_of progress = record {
  first = progress.first;
  dictionary = option_map page_values progress.dictionary;
  left = progress.left;
}

abbrev pub cut_of : lent.Cut → Cut
cut_of page = record { header = page.header; body = page.body.now; rest = page.rest.now }
