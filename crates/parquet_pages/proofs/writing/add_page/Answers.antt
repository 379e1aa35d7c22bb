use Rattle.std.proofs.Common.{subst}
use Rattle.level_runs.specs.Answers.{AppendsRuns}
use Rattle.parquet_pages.specs.Stored.{length_of}
use Rattle.parquet_pages.proofs.Spelled.{on_ok_with}
use Rattle.parquet_pages.proofs.Standing.{levels_fit, values_few, values_stand, page_short, page_made}
use Rattle.parquet_pages.proofs.writing.add_page.Goals as goal

pub write_runs-requires : goal.write_runs-requires
write_runs-requires c = levels_fit c.args.column.now.kind c.args.column.now.values c.in_ok-stored.stored c.in_ok-stored.ensures

pub size_of-size-requires : goal.size_of-size-requires
size_of-size-requires c = values_few c.args.column.now c.in_ok-stored.stored c.requires c.in_ok-stored.ensures

pub begin_page-requires-clause-size : goal.begin_page-requires-clause-size
begin_page-requires-clause-size c =
    let runs = subst (λ old. AppendsRuns 1 c.in_ok-stored.stored.levels old c.write_runs.new.out) c.new-levels.ensures c.in_ok-write_runs.ensures.ok in
    page_short c.args.column.now c.in_ok-stored.stored c.write_runs.new.out c.size_of-size.result c.requires c.in_ok-stored.ensures runs c.size_of-size.ensures

pub write_values-requires : goal.write_values-requires
write_values-requires c = (length_of c.args.column.now.kind, values_stand c.args.column.now c.in_ok-stored.stored c.requires c.in_ok-stored.ensures)

pub returns-clause-page : goal.returns-clause-page
returns-clause-page c =
    let column = c.args.column.now in
    let it = c.in_ok-stored.stored in
    let runs = subst (λ old. AppendsRuns 1 it.levels old c.write_runs.new.out) c.new-levels.ensures c.in_ok-write_runs.ensures.ok in
    let stand = values_stand column it c.requires c.in_ok-stored.ensures in
    on_ok_with c.write_values.result (λ plain. page_made column c.len.result it c.write_runs.new.out c.size_of-size.result c.args.out.now c.begin_page.new.out c.write_values.new.out c.requires c.in_ok-stored.ensures c.len.ensures runs c.size_of-size.ensures
    c.in_ok-begin_page.ensures.begun c.in_ok-begin_page.ensures.header (plain (length_of column.kind) stand)) c.write_values.ensures.ok
