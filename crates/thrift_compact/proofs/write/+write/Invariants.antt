use Rattle.std.proofs.Common.{◌≡◌, ◌++◌, drop, take}
use Rattle.std.specs.Prelude.{map}
use Rattle.std.specs.List.{flat_map}
use Rattle.thrift_compact.specs.Reading.{last_id}
use Rattle.thrift_compact.specs.Steps.{KeepsFront}
use Rattle.thrift_compact.specs.Written as w
use Rattle.thrift_compact.proofs.write.+write.Given as goal

abbrev pub invariant-write_list-nodes : goal.invariant-write_list-nodes
invariant-write_list-nodes l = record {
  written : l.fn.out.items ++ w.list (w.at_width l.width (map w.form_of l.nodes)) ≡ l.out.items ++ flat_map (λ form. form.bytes) (w.at_width l.width (map w.form_of (drop l.node-index l.nodes)));
  front : KeepsFront l.fn.out.items l.out.items;
}

abbrev pub invariant-write_fields-fields : goal.invariant-write_fields-fields
invariant-write_fields-fields l = record {
  written : l.fn.out.items ++ w.struct l.fields ≡ l.out.items ++ w.fields (last_id (take l.index l.fields)) (map w.field_form_of (drop l.index l.fields));
  front : KeepsFront l.fn.out.items l.out.items;
}
