use Rattle.std.proofs.Common.{◌≡◌, ◌++◌, [], length, Ok, subst, sym, List}
use Rattle.thrift_compact.specs.Reading.{read}
use Rattle.thrift_compact.specs.Written as wt
use Rattle.thrift_compact.specs.Writable.{IsWritable}
use Rattle.thrift_compact.specs.declared.tree.Field.{Field}
use Rattle.parquet_meta.specs.Written as w
use Rattle.parquet_meta.proofs.WritableTables.{WritableValues}
use Rattle.parquet_meta.proofs.HeadersBack.{header_writable, front_back}
use Rattle.parquet_meta.proofs.writing.write_page_header.Goals as goal

pub write_struct-requires : goal.write_struct-requires
write_struct-requires c =
    let law : WritableValues = record {
      whole = c.writable_values.ensures.whole;
      binary = c.writable_values.ensures.binary;
      structs = c.writable_values.ensures.structs;
      lists = c.writable_values.ensures.lists;
      whole_element = c.writable_values.ensures.whole_element;
      binary_element = λ left bytes. rw (c.writable_values.ensures.binary_element left []).same (c.writable_values.ensures.binary_element left bytes);
      struct_element = λ left fields are. rw (c.writable_values.ensures.struct_element left [] tt).same (c.writable_values.ensures.struct_element left fields are);
    } in
    let same : c.in_ok-tree.tree ≡ w.header_fields c.args.header.now = c.in_ok-tree.ensures.fields in
    subst IsWritable (sym same) (header_writable law c.args.header.now c.in_ok-tree.ensures.range)

pub returns-in-Ok-clause-again : goal.returns-in-Ok-clause-again
returns-in-Ok-clause-again c =
    let same : c.in_ok-tree.tree ≡ w.header_fields c.args.header.now = c.in_ok-tree.ensures.fields in
    λ more. front_back c.args.header.now _ _ c.in_ok-tree.ensures.range (subst (λ (t : List Field). read (wt.struct t ++ more) ≡ Ok (t, length (wt.struct t))) same (c.in-Ok.ensures.again more))
