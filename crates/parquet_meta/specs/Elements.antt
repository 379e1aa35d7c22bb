-- What an element of the schema says (parquet.thrift, SchemaElement).
use Rattle.std.specs.Prelude.{pos, List, Option, Some, unwrap_or}
use Rattle.dm_types.specs.Then.{◌>>=◌}
use Rattle.thrift_compact.specs.declared.tree.Field.{Field}
use Rattle.parquet_meta.specs.declared.metadata.Logical.TheVariants.{Absent}
use Rattle.parquet_meta.specs.declared.elements.Element.{Element}
use Rattle.parquet_meta.specs.Forms.{needed, optional, i32, binary, struct}
use Rattle.parquet_meta.specs.Logicals.{logical_of}

abbrev pub element_of : List Field → Option Element
element_of t = do
  physical ← optional i32 (pos 1) t  -- 1 type
  length ← optional i32 (pos 2) t  -- 2 type_length
  repetition ← optional i32 (pos 3) t  -- 3 repetition_type
  name ← needed binary (pos 4) t  -- 4 name
  children ← optional i32 (pos 5) t  -- 5 num_children
  converted ← optional i32 (pos 6) t  -- 6 converted_type
  scale ← optional i32 (pos 7) t  -- 7 scale
  precision ← optional i32 (pos 8) t  -- 8 precision
  field_id ← optional i32 (pos 9) t  -- 9 field_id
  logical ← optional (struct logical_of) (pos 10) t  -- 10 logicalType
  Some (record {
    physical = physical;
    length = length;
    repetition = repetition;
    name = name;
    children = children;
    field_id = field_id;
    annotation = record {
      converted = converted;
      scale = scale;
      precision = precision;
      logical = unwrap_or logical Absent;
    };
  })
