use Rattle.std.proofs.Common.{subst, sym}
use Rattle.std.specs.Prelude.{IfSome}
use Rattle.parquet_pages.specs.Storing.{IsOfType}
use Rattle.parquet_pages.proofs.Rows.{stored_more}
use Rattle.parquet_pages.proofs.stored.stored_column.Goals as goal

pub add-requires : goal.add-requires
add-requires c = subst (λ type. IfSome c.in_ok-value.value (IsOfType type)) (sym c.loop-row.invariant.kept) c.in_ok-value.ensures.goes

pub loop-row-preserved : goal.loop-row-preserved
loop-row-preserved c =
    stored_more c.args.column.now c.loop-row.row c.in_ok-value.value c.loop-row.stored c.add.new.self c.loop-row.invariant c.in_ok-value.ensures c.in_ok-add.ensures.levels c.in_ok-add.ensures.values c.in_ok-add.ensures.kept
