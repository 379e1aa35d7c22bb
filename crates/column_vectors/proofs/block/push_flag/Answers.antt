use Rattle.std.proofs.Common.{◌∙◌, List, ap, sym, subst, rules}
use Rattle.std.specs.Int.{bit_at}
use Rattle.column_vectors.proofs.Bits.{block_pushed, block_set, last_read}
use Rattle.column_vectors.proofs.block.push_flag.Goals as goal
use Rattle.column_vectors.specs.Blocks.{AddsFlag}
use Rattle.column_vectors.specs.declared.block.Block.{Block}

pub returns-in_ok-push-clause-ok : goal.returns-in_ok-push-clause-ok
returns-in_ok-push-clause-ok c =
    subst (λ (blocks : List Block). AddsFlag c.args.blocks.now.items blocks c.args.rows c.args.count c.args.flag) (sym c.in_ok-push.ensures.items)
    (block_pushed c.args.blocks.now.items c.args.rows c.args.count c.args.flag _ c.requires c.if-bit-eq0.true
    (ap (bit_at c.with_bit.result) (sym c.if-bit-eq0.true) ∙ c.with_bit.ensures.same) (search rules))

pub returns-else-bit-eq0-clause-ok : goal.returns-else-bit-eq0-clause-ok
returns-else-bit-eq0-clause-ok c =
    block_set c.args.blocks.now.items c.args.rows c.args.count c.args.flag _ c.requires c.if-bit-eq0.false c.with_bit-else-bit-eq0.ensures.same
    (λ other low apart. c.with_bit-else-bit-eq0.ensures.others other low apart
    ∙ ap (λ (b : Block). bit_at b.bits other) (last_read c.args.blocks.now.items c.args.rows c.args.count c.index.result.now c.requires c.if-bit-eq0.false c.index.ensures))
    (ap (λ (b : Block). b.before) (last_read c.args.blocks.now.items c.args.rows c.args.count c.index_mut.result.now c.requires c.if-bit-eq0.false c.index_mut.ensures.value))
