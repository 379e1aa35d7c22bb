use Rattle.std.proofs.Common.{◌≡◌, pos, ◌+◌, ◌-◌, ◌*◌, length}
use Rattle.thrift_compact.specs.Reading as spec
use Rattle.thrift_compact.proofs.Steps.{joined}
use Rattle.thrift_compact.proofs.read.+value.Given as goal

abbrev pub decreases-value : goal.decreases-value
decreases-value l = 8 * l.left

abbrev pub decreases-element : goal.decreases-element
decreases-element l = 8 * l.left + 1

abbrev pub decreases-field_value : goal.decreases-field_value
decreases-field_value l = 8 * l.left + 1

abbrev pub decreases-entry : goal.decreases-entry
decreases-entry l = 8 * l.left + 2

abbrev pub decreases-field : goal.decreases-field
decreases-field l = 8 * l.left + 2

abbrev pub decreases-elements : goal.decreases-elements
decreases-elements l = 8 * l.left + 3

abbrev pub decreases-entries : goal.decreases-entries
decreases-entries l = 8 * l.left + 3

abbrev pub decreases-fields : goal.decreases-fields
decreases-fields l = 8 * l.left + 3

abbrev pub decreases-list : goal.decreases-list
decreases-list l = 8 * l.left + 4

abbrev pub decreases-map : goal.decreases-map
decreases-map l = 8 * l.left + 4

abbrev pub decreases-container : goal.decreases-container
decreases-container l = 8 * l.left + 5

abbrev pub invariant-elements-loop : goal.invariant-elements-loop
invariant-elements-loop l = spec.times (spec.node (spec.value l.left l.header.kind)) l.header.size l.fn.cursor ≡ joined l.nodes (spec.times (spec.node (spec.value l.left l.header.kind)) (l.header.size - l.counter) l.cursor)

abbrev pub invariant-entries-loop : goal.invariant-entries-loop
invariant-entries-loop l = spec.entries l.left (spec.value l.left) l.size l.fn.cursor ≡ joined l.pairs (spec.times (spec.entry (spec.node (spec.value l.left l.kinds.key)) (spec.node (spec.value l.left l.kinds.value))) (l.size - l.counter) l.cursor)

abbrev pub invariant-fields-fields : goal.invariant-fields-fields
invariant-fields-fields l = spec.fields l.left (spec.value l.left) (pos 0) l.fn.cursor ≡ joined l.fields (spec.fields l.left (spec.value l.left) (spec.last_id l.fields) l.cursor)

abbrev pub decreases-fields-fields : goal.decreases-fields-fields
decreases-fields-fields l = length l.cursor
