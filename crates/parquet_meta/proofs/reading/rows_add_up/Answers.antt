use Rattle.std.proofs.Common.{◌∙◌, sym, arith, length, drop, ◌<◌, ◌≡◌, rules}
use Rattle.std.proofs.lemmas.Int.{ints}
use Rattle.parquet_meta.specs.Meaning.{rows_add_up}
use Rattle.parquet_meta.proofs.Rows.{negative, past}
use Rattle.parquet_meta.proofs.reading.rows_add_up.Goals as goal
use Rattle.parquet_meta.proofs.reading.rows_add_up.Goals.{then-not-has_a_count-via-then-not-has_a_count, then-not-has_a_count-via-else-not-has_a_count+then-group-left}

pub returns-then-not-has_a_count : goal.returns-then-not-has_a_count
returns-then-not-has_a_count c =
    let inside : c.loop-group.group-index < length c.args.groups.now = omega arith in
    let known : rows_add_up c.args.rows c.args.groups.now ≡ rows_add_up c.loop-group.left (drop c.loop-group.group-index c.args.groups.now) = search (rules, c.loop-group.invariant, c.loop-group.left-is) in
    elim c.then-not-has_a_count.branch [
      | then-not-has_a_count-via-then-not-has_a_count w ↦ sym (negative c.args.groups.now c.loop-group.group-index c.group-item.result (inside, c.group-item.is) _ c.loop-group.left known (sym c.has_a_count.ensures ∙ w.if-not-has_a_count.true))
      | then-not-has_a_count-via-else-not-has_a_count+then-group-left w ↦ sym (past c.args.groups.now c.loop-group.group-index c.group-item.result (inside, c.group-item.is) _ c.loop-group.left known (omega (arith, ints)))
    ]
