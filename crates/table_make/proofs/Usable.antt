-- The protocol of a new table is one that may be read and written.
use Rattle.std.proofs.Common.{◌≡◌, ◌⊎◌, ℕ, ℤ, List, [], ◌∷◌, codes, refl, inl, inr, Bool, true, false, arith}
use Rattle.std.specs.List.{All}
use Rattle.std.proofs.lemmas.List.Elements.{All-nil, All-cons}
use Rattle.delta_actions.specs.Writable.{AreWritable, AreOrdered, IsWritable, IsMetadata, IsProtocol}
use Rattle.delta_actions.specs.declared.action.Action.TheVariants as action
use Rattle.delta_schema.specs.declared.schema.ColumnDef.{ColumnDef}
use Rattle.sql_statements.specs.declared.CreateStmt.{CreateStmt}
use Rattle.table_make.specs.Created.{actions_of, info_of, maps_columns, new_columns, new_protocol, new_metadata, new_configuration, protocol_of}
use Rattle.table_make.specs.NewProperties.{Pairs, configuration_of}
use Rattle.table_make.proofs.Ordered.{ordered, none_ordered}

pub reader : (mapped : Bool) (columns : List ColumnDef) (configuration : Pairs) → let protocol = protocol_of mapped columns configuration in
    ((protocol.min_reader_version ≡ 1) ⊎ ((protocol.min_reader_version ≡ 3) × (protocol.reader_features ≡ codes "columnMapping" ∷ [])))
reader true columns configuration = inr (refl, refl)
reader false columns configuration = inl refl

small : (mapped : Bool) (columns : List ColumnDef) (configuration : Pairs) → IsProtocol (protocol_of mapped columns configuration)
small true columns configuration = record { reader = omega arith; writer = omega arith }
small false columns configuration = record { reader = omega arith; writer = omega arith }

configuration_ordered : (stmt : CreateStmt) (id : List ℕ) → AreOrdered (new_configuration stmt id)
unfolding configuration_of
configuration_ordered stmt id = ordered _

metadata_good : (stmt : CreateStmt) (id : List ℕ) (time : ℤ) → IsMetadata (new_metadata stmt id time)
metadata_good stmt id time = record {
  format = record { provider = refl; options = none_ordered };
  configuration = configuration_ordered stmt id;
}

pub writable : (stmt : CreateStmt) (id : List ℕ) (time : ℤ) → AreWritable (actions_of stmt id time)
unfolding actions_of
writable stmt id time =
    let metadata = action.Metadata (new_metadata stmt id time) in
    let protocol = action.Protocol (new_protocol stmt id) in
    let last : All IsWritable (metadata ∷ []) = All-cons IsWritable metadata [] (metadata_good stmt id time, tt {0}) (All-nil IsWritable) in
    let small = small (maps_columns stmt) (new_columns stmt id) (new_configuration stmt id) in
    All-cons IsWritable (action.Info (info_of time)) (protocol ∷ metadata ∷ []) (tt {0}, tt {0})
    (All-cons IsWritable protocol (metadata ∷ []) (small, tt {0}) last)
