use Rattle.std.proofs.Common.{◌≡◌, ◌+◌, ◌++◌, ◌∷◌, [], get_or, length, take, arith, rules, subst, sym, ap}
use Rattle.parquet_file.specs.Chunks.{GoesOn}
use Rattle.parquet_file.proofs.ChunksWritten.{goes_on-next, stays_long}
use Rattle.parquet_file.proofs.writing.write_chunks.Goals as goal

pub write_column-requires-clause-start : goal.write_column-requires-clause-start
write_column-requires-clause-start c =
    omega (arith, stays_long _ _ _ _ c.loop-column.invariant, c.requires.start)

pub loop-column-preserved : goal.loop-column-preserved
loop-column-preserved c =
    let at : c.column-item.result ≡ get_or c.args.columns.now c.loop-column.column-index c.column-item.result = search rules in
    let pushed : c.push.new.self ≡ c.loop-column.chunks ++ c.in_ok-chunk.chunk ∷ [] = search rules in
    subst (GoesOn (take (c.loop-column.column-index + 1) c.args.columns.now) c.args.out.now c.write_column.new.out) (sym pushed)
    (goes_on-next c.args.columns.now c.loop-column.column-index c.args.out.now c.loop-column.out c.write_column.new.out c.loop-column.chunks c.column-item.result c.in_ok-chunk.chunk (omega (arith, c.loop-column-test.true, ap length c.as_slice-column-items.ensures)) at c.loop-column.invariant c.in_ok-chunk.ensures)
