use Rattle.thrift_compact.proofs.WritableLaws.{truth_writable, whole_writable, binary_writable, list_writable, struct_writable, whole_element as of_whole, binary_element as of_binary, struct_element as of_struct}
use Rattle.thrift_compact.proofs.laws.writable_values.Goals as goal

pub returns : goal.returns
returns c = record {
  truth = truth_writable;
  whole = whole_writable;
  binary = binary_writable;
  lists = list_writable;
  structs = struct_writable;
  whole_element = of_whole;
  binary_element = of_binary;
  struct_element = of_struct;
}
