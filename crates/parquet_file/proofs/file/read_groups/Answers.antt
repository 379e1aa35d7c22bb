use Rattle.std.proofs.Common.{◌+◌, drop, ap, ◌∙◌, arith, rules, sym}
use Rattle.parquet_meta.specs.declared.metadata.RowGroup.{RowGroup}
use Rattle.parquet_file.proofs.GroupsRead.{still, still-step, still-fails, still-end, next_group, none_left}
use Rattle.std.specs.Prelude.{List}
use Rattle.parquet_file.proofs.file.read_groups.Goals as goal

pub returns-in_err-reader : goal.returns-in_err-reader
returns-in_err-reader c =
    let here = next_group c.loop-group.group-index c.args.groups.now c.group-item.result (omega arith) c.group-item.is in
    let now = c.loop-group.invariant ∙ ap (λ (groups : List RowGroup). still c.args.pages.now c.args.leaf.now c.args.i groups c.loop-group.reader) here in
    still-fails c.args.pages.now c.args.leaf.now c.args.i c.group-item.result (drop (c.loop-group.group-index + 1) c.args.groups.now) c.chunk_at-chunk.result.now _ c.loop-group.reader _ c.in_err-reader.field-0.0 c.from_residual.result c.chunk_at-chunk.ensures
    (sym c.rows_in.ensures) c.in_err-reader.ensures now (search rules)

pub loop-group-preserved : goal.loop-group-preserved
loop-group-preserved c =
    let here = next_group c.loop-group.group-index c.args.groups.now c.group-item.result (omega arith) c.group-item.is in
    c.loop-group.invariant ∙ ap (λ (groups : List RowGroup). still c.args.pages.now c.args.leaf.now c.args.i groups c.loop-group.reader) here
    ∙ still-step c.columns_grow.ensures.more c.args.pages.now c.args.leaf.now c.args.i c.group-item.result (drop (c.loop-group.group-index + 1) c.args.groups.now) c.chunk_at-chunk.result.now _ c.loop-group.reader c.in_ok-reader.reader c.chunk_at-chunk.ensures (sym c.rows_in.ensures) c.in_ok-reader.ensures

pub returns : goal.returns
returns c =
    c.loop-group.invariant ∙ ap (λ (groups : List RowGroup). still c.args.pages.now c.args.leaf.now c.args.i groups c.loop-group.reader) (none_left c.loop-group.group-index c.args.groups.now (omega arith))
    ∙ still-end c.args.pages.now c.args.leaf.now c.args.i c.loop-group.reader (c.columns_grow.ensures.none c.loop-group.reader)
