use Rattle.std.proofs.Common.{rules}
use Rattle.parquet_pages.proofs.Looked.{looked_up_all, looked_up_none}
use Rattle.parquet_pages.specs.Views.{page_values}
use Rattle.parquet_pages.proofs.values.check_places.Goals as goal

pub returns-then-not-are_below : goal.returns-then-not-are_below
returns-then-not-are_below c = looked_up_none (page_values c.args.dictionary.now) c.args.places (search rules)

pub returns : goal.returns
returns c =
    let found = looked_up_all (page_values c.args.dictionary.now) c.args.places (search rules) in
    (found.0, found.1, found.1)
