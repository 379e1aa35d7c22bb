use Rattle.std.proofs.Common.{◌≡◌, ◌+◌, ◌∙◌, ap, ℕ, ℤ, Option, arith, length, get_or, refl, subst, sym, w64, to_z, of_z}
use Rattle.std.proofs.lemmas.Int.{to_z-of_z}
use Rattle.row_tracking.specs.Checked.{IsLeast, no_row}
use Rattle.row_tracking.specs.StepsChecked.{FailsBelow, lesser}
use Rattle.row_tracking.proofs.Failing.{fails_more}
use Rattle.row_tracking.proofs.checking.least_alone.Goals as goal

pub loop-row-preserved : goal.loop-row-preserved
loop-row-preserved c =
    let rows = c.args.rows.now in
    let i : ℕ = c.loop-row.row-index in
    let mark : ℤ = to_z w64 (of_z w64 c.args.mark) in
    let answer = c.lesser-least.ensures ∙ ap (lesser c.loop-row.least) c.failing.ensures in
    subst (λ (o : Option ℤ). IsLeast (FailsBelow rows mark c.args.version (i + 1)) o) (sym answer) (fails_more rows mark c.args.version i c.loop-row.least (get_or rows i no_row) refl c.loop-row.invariant)

pub returns : goal.returns
returns c =
    let rows = c.args.rows.now in
    let mark : ℤ = to_z w64 (of_z w64 c.args.mark) in
    let all : c.loop-row.row-index ≡ length rows = omega (arith, c.loop-row.auto.row-index-end, c.loop-row-test.false) in
    let below : IsLeast (FailsBelow rows mark c.args.version (length rows)) c.loop-row.least
    = subst (λ (i : ℕ). IsLeast (FailsBelow rows mark c.args.version i) c.loop-row.least) all c.loop-row.invariant in
    subst (λ (m : ℤ). IsLeast (FailsBelow rows m c.args.version (length rows)) c.loop-row.least) (to_z-of_z w64 c.args.mark c.ranges.mark) below
