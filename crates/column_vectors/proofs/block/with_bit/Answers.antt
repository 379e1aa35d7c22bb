use Rattle.std.proofs.Common.{◌∙◌, ap, sym, w64}
use Rattle.std.proofs.lemmas.Nat.Bits.{bit_at_set_same, bit_at_set_other, bit_at_clear_same, bit_at_clear_other}
use Rattle.column_vectors.specs.Blocks.{flag_number}
use Rattle.column_vectors.proofs.block.with_bit.Goals as goal

pub returns-then-flag-clause-same : goal.returns-then-flag-clause-same
returns-then-flag-clause-same c = bit_at_set_same w64 c.args.bits c.args.bit c.requires ∙ ap flag_number (sym c.if-flag.true)

pub returns-then-flag-clause-others : goal.returns-then-flag-clause-others
returns-then-flag-clause-others c = λ other low apart. bit_at_set_other w64 c.args.bits c.args.bit c.requires other apart

pub returns-else-flag-clause-same : goal.returns-else-flag-clause-same
returns-else-flag-clause-same c = bit_at_clear_same w64 c.args.bits c.args.bit c.requires ∙ ap flag_number (sym c.if-flag.false)

pub returns-else-flag-clause-others : goal.returns-else-flag-clause-others
returns-else-flag-clause-others c = λ other low apart. bit_at_clear_other w64 c.args.bits c.args.bit c.requires other low apart
