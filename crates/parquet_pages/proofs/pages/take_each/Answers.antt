use Rattle.std.proofs.Common.{rules, ◌≡◌, length, ◌-◌, ◌+◌, suc, Err, arith}
use Rattle.parquet_pages.specs.Pages.{pages_at}
use Rattle.parquet_pages.specs.Views.{cut_of, state_of, wanted}
use Rattle.parquet_pages.specs.declared.pages.Cut as lent
use Rattle.parquet_pages.proofs.PageByPage.{is_left, reached_last, reached_short, cut_failed, page_failed, reached_next}
use Rattle.parquet_pages.proofs.pages.take_each.Goals as goal

pub returns-then-progress-eq0 : goal.returns-then-progress-eq0
returns-then-progress-eq0 c =
    reached_last c.args.leaf.now (pages_at (length c.args.bytes.now) (wanted c.args.reading.now c.args.leaf.now) (state_of c.args.progress.now) c.args.bytes.now) (length c.args.bytes.now - c.loop.counter) (state_of c.loop.progress) c.loop.rest.now c.args.reading.now c.loop.reading (tt {0}) c.loop.invariant (search rules)

pub returns-in_err-page : goal.returns-in_err-page
returns-in_err-page c =
    let failed : c.from_residual.result ≡ Err c.in_err-page.field-0.0 = search rules in
    let more : length c.args.bytes.now - c.loop.counter ≡ suc (length c.args.bytes.now - (c.loop.counter + 1)) = search (rules, arith) in
    rw failed (cut_failed lent.Cut (Unit {0}) c.args.leaf.now (pages_at (length c.args.bytes.now) (wanted c.args.reading.now c.args.leaf.now) (state_of c.args.progress.now) c.args.bytes.now) (length c.args.bytes.now - (c.loop.counter + 1)) (state_of c.loop.progress) c.loop.rest.now cut_of c.in_err-page.field-0.0 c.args.reading.now c.loop.reading (rw more at c.loop.invariant) (search rules) (search rules))

pub returns-in_err-take_page : goal.returns-in_err-take_page
returns-in_err-take_page c =
    let failed : c.from_residual-in_err-take_page.result ≡ Err c.in_err-take_page.field-0.0 = search rules in
    let more : length c.args.bytes.now - c.loop.counter ≡ suc (length c.args.bytes.now - (c.loop.counter + 1)) = search (rules, arith) in
    rw failed (page_failed (Unit {0}) c.args.leaf.now (pages_at (length c.args.bytes.now) (wanted c.args.reading.now c.args.leaf.now) (state_of c.args.progress.now) c.args.bytes.now) (length c.args.bytes.now - (c.loop.counter + 1)) (state_of c.loop.progress) (state_of c.take_page.new.progress) c.loop.rest.now (cut_of c.in_ok-page.page) c.in_err-take_page.field-0.0 c.args.reading.now c.loop.reading c.take_page.new.reading (rw more at c.loop.invariant) (is_left c.loop.progress.left c.if-progress-eq0.false) (search rules) (search rules))

pub loop-preserved : goal.loop-preserved
loop-preserved c =
    let more : length c.args.bytes.now - c.loop.counter ≡ suc (length c.args.bytes.now - (c.loop.counter + 1)) = search (rules, arith) in
    reached_next c.args.leaf.now (pages_at (length c.args.bytes.now) (wanted c.args.reading.now c.args.leaf.now) (state_of c.args.progress.now) c.args.bytes.now) (length c.args.bytes.now - (c.loop.counter + 1)) (state_of c.loop.progress) (state_of c.take_page.new.progress) c.loop.rest.now (cut_of c.in_ok-page.page) c.args.reading.now c.loop.reading c.take_page.new.reading (tt {0}) (rw more at c.loop.invariant) (search rules) (search rules) (search rules)

pub returns-then-progress-gt0 : goal.returns-then-progress-gt0
returns-then-progress-gt0 c =
    let none : length c.args.bytes.now - c.loop.counter ≡ 0 = search (rules, arith) in
    reached_short c.args.leaf.now (pages_at (length c.args.bytes.now) (wanted c.args.reading.now c.args.leaf.now) (state_of c.args.progress.now) c.args.bytes.now) (state_of c.loop.progress) c.loop.rest.now c.args.reading.now c.loop.reading (rw none at c.loop.invariant) (search (rules, arith))

pub returns : goal.returns
returns c =
    reached_last c.args.leaf.now (pages_at (length c.args.bytes.now) (wanted c.args.reading.now c.args.leaf.now) (state_of c.args.progress.now) c.args.bytes.now) (length c.args.bytes.now - c.loop.counter) (state_of c.loop.progress) c.loop.rest.now c.args.reading.now c.loop.reading (tt {0}) c.loop.invariant (search (rules, arith))
