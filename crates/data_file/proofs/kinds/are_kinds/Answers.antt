use Rattle.std.proofs.Common.{◌≡◌, ◌∙◌, Some, true, false, sym, rules, slice_get}
use Rattle.column_vectors.specs.Cells.{value_or_null}
use Rattle.std.specs.Option.{option_copied}
use Rattle.dm_types.specs.declared.value.Value.{Value}
use Rattle.dm_types.specs.declared.value.Value.TheVariants as value
use Rattle.data_file.specs.Kinds.{is_kind}
use Rattle.data_file.proofs.KindTests.{all-more, not_all}
use Rattle.data_file.proofs.kinds.are_kinds.Goals as goal

pub returns-then-not-is_kind_there : goal.returns-then-not-is_kind_there
returns-then-not-is_kind_there c =
    let values = c.args.texts.now.values in
    let v : Value = value_or_null value.Text (option_copied c.get.result) in
    let here : slice_get values c.loop-row.row ≡ Some v = c.get.ensures.value in
    let bad : is_kind v ≡ false = sym c.is_kind_there.ensures ∙ search rules in
    sym (not_all is_kind values c.loop-row.row v here bad)

pub loop-row-preserved : goal.loop-row-preserved
loop-row-preserved c =
    let values = c.args.texts.now.values in
    let v : Value = value_or_null value.Text (option_copied c.get.result) in
    let here : slice_get values c.loop-row.row ≡ Some v = c.get.ensures.value in
    let good : is_kind v ≡ true = sym c.is_kind_there.ensures ∙ search rules in
    all-more is_kind values c.loop-row.row v c.loop-row.invariant here good
