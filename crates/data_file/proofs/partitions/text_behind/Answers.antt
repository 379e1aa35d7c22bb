use Rattle.std.proofs.Common.{◌∙◌, ◌+◌, ◌*◌, ℕ, List, Option, drop, rules, sym, ap}
use Rattle.dm_types.specs.Then.{go}
use Rattle.dm_types.specs.declared.value.Value.{Value}
use Rattle.data_file.specs.Partitions.{text_behind}
use Rattle.data_file.specs.Room.{less}
use Rattle.dm_types.specs.declared.refusal.Counted.TheVariants as counted
use Rattle.data_file.proofs.Begun.{fails, goes_on}
use Rattle.data_file.proofs.GivenValues.{text-last, text-next}
use Rattle.data_file.proofs.partitions.text_behind.Goals as goal

pub returns-in_err-left : goal.returns-in_err-left
returns-in_err-left c =
    let constants = c.as_slice-constant-items.result.now in
    let rest = λ (left : ℕ). text_behind c.args.rows (drop (c.loop-at.at + 1) constants) left in
    let whole = sym (ap (λ (xs : List (Option Value)). text_behind c.args.rows xs c.args.left) c.as_slice-constant-items.ensures) in
    let next = text-next c.args.rows constants c.loop-at.at c.constant-item.result c.loop-at.left c.loop-at-test.true c.constant-item.is in
    let size = ap (λ (n : ℕ). go (less counted.TextBytes (n * c.args.rows) c.loop-at.left) rest) (sym c.in_ok-size.ensures) in
    fails ℕ ℕ (λ left. left) (λ left. left) (less counted.TextBytes (c.in_ok-size.size * c.args.rows) c.loop-at.left) rest
    (text_behind c.args.rows c.args.constants.now c.args.left) c.in_err-left.field-0.0 c.from_residual-in_err-left.result (whole ∙ c.loop-at.invariant ∙ next ∙ size) c.in_err-left.ensures (search rules)

pub loop-at-preserved : goal.loop-at-preserved
loop-at-preserved c =
    let constants = c.as_slice-constant-items.result.now in
    let rest = λ (left : ℕ). text_behind c.args.rows (drop (c.loop-at.at + 1) constants) left in
    let next = text-next c.args.rows constants c.loop-at.at c.constant-item.result c.loop-at.left c.loop-at-test.true c.constant-item.is in
    let size = ap (λ (n : ℕ). go (less counted.TextBytes (n * c.args.rows) c.loop-at.left) rest) (sym c.in_ok-size.ensures) in
    c.loop-at.invariant ∙ next ∙ size ∙ goes_on (less counted.TextBytes (c.in_ok-size.size * c.args.rows) c.loop-at.left) rest c.in_ok-left.left c.in_ok-left.ensures

pub returns : goal.returns
returns c =
    let constants = c.as_slice-constant-items.result.now in
    let whole = sym (ap (λ (xs : List (Option Value)). text_behind c.args.rows xs c.args.left) c.as_slice-constant-items.ensures) in
    whole ∙ c.loop-at.invariant ∙ text-last c.args.rows constants c.loop-at.at c.loop-at.left c.loop-at-test.false
