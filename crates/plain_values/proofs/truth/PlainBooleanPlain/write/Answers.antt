use Rattle.std.proofs.Common.{◌∙◌, ◌++◌, ap, arith}
use Rattle.plain_values.specs.Flags.{flags_spelling}
use Rattle.plain_values.proofs.Truths.{byte_written, all_written, flags_written}
use Rattle.plain_values.proofs.truth.PlainBooleanPlain.write.Goals as goal

pub loop-at-preserved : goal.loop-at-preserved
loop-at-preserved c =
    byte_written c.as_slice-flags.result.now c.loop-at.at c.min-end.result c.byte_of.result c.args.out.now c.loop-at.out c.push.new.self c.min-end.ensures c.byte_of.ensures.value c.loop-at.invariant
    c.in_ok-push.ensures.ok

pub returns-clause-ok : goal.returns-clause-ok
returns-clause-ok c =
    all_written c.as_slice-flags.result.now c.loop-at.at c.div_ceil-at-end.result c.args.out.now c.loop-at.out c.div_ceil-at-end.ensures (omega arith) c.loop-at.invariant
    ∙ ap (λ flags. c.args.out.now ++ flags_spelling flags) c.as_slice-flags.ensures

pub returns-clause-means : goal.returns-clause-means
returns-clause-means c = λ size any. flags_written c.args.values.now
