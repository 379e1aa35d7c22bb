use Rattle.std.proofs.Common.{◌≡◌, ◌∙◌, ◌+◌, Some, slice_get, arith, rules}
use Rattle.dm_types.specs.declared.value.Value.TheVariants as value
use Rattle.data_file.proofs.TextSizes.{size-le, size-more}
use Rattle.data_file.proofs.texts.size_of_bytes.Goals as goal
use Rattle.data_file.proofs.texts.size_of_bytes.Goals.{in-Some, in_default}

pub overflow_add-size : goal.overflow_add-size
overflow_add-size c =
    let values = c.args.bytes.now.values in
    let row = c.loop-row.row in
    let here : slice_get values row ≡ Some (value.Bytes c.in-Some.value.now) = c.in-Some.ensures.value in
    let more = size-more values row (value.Bytes c.in-Some.value.now) here in
    let within = size-le values (row + 1) in
    omega (arith, more, within, c.loop-row.invariant, c.len.ensures, c.requires)

pub loop-row-preserved : goal.loop-row-preserved
loop-row-preserved c =
    let values = c.args.bytes.now.values in
    let row = c.loop-row.row in
    elim c.match-get.branch [
      | in-Some w ↦
          let here : slice_get values row ≡ Some (value.Bytes w.in-Some.value.now) = w.in-Some.ensures.value in
          let more = size-more values row (value.Bytes w.in-Some.value.now) here in
          w.size-is ∙ omega (arith, more, c.loop-row.invariant, w.len.ensures)
      | in_default w ↦
          let here : slice_get values row ≡ Some value.Null = search rules in
          let more = size-more values row value.Null here in
          w.size-is ∙ omega (arith, more, c.loop-row.invariant)
    ]
