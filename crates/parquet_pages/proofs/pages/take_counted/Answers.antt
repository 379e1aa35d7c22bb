use Rattle.std.proofs.Common.{rules, ◌≡◌, ◌-◌, false, Err}
use Rattle.std.specs.Prelude.{option_map, unsigned_abs}
use Rattle.parquet_pages.specs.Pages.{data_page}
use Rattle.parquet_pages.specs.Views.{page_values, state_of, wanted}
use Rattle.parquet_pages.proofs.PageByPage.{data_failed}
use Rattle.parquet_pages.proofs.pages.take_counted.Goals as goal

pub returns-in_err-take_data : goal.returns-in_err-take_data
returns-in_err-take_data c =
    let failed : c.from_residual.result ≡ Err c.in_err-take_data.field-0.0 = search rules in
    rw failed (data_failed (Unit {0}) (data_page (wanted c.args.reading.now c.args.leaf.now) (option_map page_values c.args.progress.now.dictionary) c.args.page.now c.args.body.now) c.args.reading.now c.take_data.new.reading (record { first = false; dictionary = option_map page_values c.args.progress.now.dictionary; left = c.args.progress.now.left - unsigned_abs c.args.page.now.values }) (state_of c.args.progress.now) c.in_err-take_data.field-0.0 (search rules))
