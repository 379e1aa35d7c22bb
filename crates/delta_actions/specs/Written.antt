-- What is written for an action (PROTOCOL.md, "Actions").
use Rattle.std.specs.Prelude.{ℕ, ℤ, List, [], ◌∷◌, ◌++◌, map, Bool, false, Option, Some, None, option_map, codes, ◌==◌, if◌then◌else◌}
use Rattle.std.specs.List.{flat_map}
use Rattle.serde_json.specs.Data.{Data, null, boolean, number, unsigned, string, array, object, Members, no_members, member, put}
use Rattle.serde_json.specs.Find.{of_integer}
use Rattle.serde_json.specs.View.{items_of}
use Rattle.serde_json.specs.Written.{compact_text}
use Rattle.delta_actions.specs.declared.action.ProtocolAction.{ProtocolAction}
use Rattle.delta_actions.specs.declared.action.TableFormat.{TableFormat}
use Rattle.delta_actions.specs.declared.action.MetadataAction.{MetadataAction}
use Rattle.delta_actions.specs.declared.action.AddAction.{AddAction}
use Rattle.delta_actions.specs.declared.action.RemoveAction.{RemoveAction}
use Rattle.delta_actions.specs.declared.action.CdcAction.{CdcAction}
use Rattle.delta_actions.specs.declared.action.DomainAction.{DomainAction}
use Rattle.delta_actions.specs.declared.action.InfoAction.{InfoAction}
use Rattle.delta_actions.specs.declared.action.Action.{Action}
use Rattle.delta_actions.specs.declared.action.Action.TheVariants as action

-- ---- values

abbrev pub integer : ℤ → Data
integer z = number (of_integer z)

abbrev pub texts_data : List (List ℕ) → Data
texts_data ts = array (items_of (map string ts))

abbrev pub or_null : Option (List ℕ) → Data
or_null None = null
or_null (Some t) = string t

-- the members with the pairs put in, one after another; `put` keeps members in byte order of their names
abbrev pub pairs_onto : {A : Type 0} → (A → Data) → Members → List (List ℕ × A) → Members
pairs_onto value ms [] = ms
pairs_onto value ms (p ∷ ps) = pairs_onto value (put p.0 (value p.1) ms) ps

-- an object of the pairs; of equal names the last counts
abbrev pub pairs_data : {A : Type 0} → (A → Data) → List (List ℕ × A) → Data
pairs_data value ps = object (pairs_onto value no_members ps)

-- ---- members

-- an object's members by name; None is a member that is left out
abbrev pub Fields : Type 0
Fields = List (List ℕ × Option Data)

abbrev pub put_some : List ℕ → Option Data → Members → Members
put_some name None ms = ms
put_some name (Some d) ms = put name d ms

abbrev pub members_onto : Members → Fields → Members
members_onto ms [] = ms
members_onto ms (f ∷ fs) = members_onto (put_some f.0 f.1 ms) fs

-- the object of these members, in byte order of their names whatever their order here
abbrev pub object_of : Fields → Data
object_of fs = object (members_onto no_members fs)

-- ---- actions

-- a list of features; an empty one is left out, unless it stands beside the version that lists features
abbrev pub features_data : Bool → List (List ℕ) → Option Data
features_data listed [] = if listed then Some (texts_data []) else None
features_data listed (t ∷ ts) = Some (texts_data (t ∷ ts))

abbrev pub protocol_fields : ProtocolAction → Fields
protocol_fields p =
    (codes "minReaderVersion", Some (number (unsigned p.min_reader_version)))
    ∷ (codes "minWriterVersion", Some (number (unsigned p.min_writer_version)))
    ∷ (codes "readerFeatures", features_data (p.min_reader_version == 3) p.reader_features)
    ∷ (codes "writerFeatures", features_data (p.min_writer_version == 7) p.writer_features)
    ∷ []

abbrev pub format_fields : TableFormat → Fields
format_fields f =
    (codes "options", option_map (pairs_data string) f.options)
    ∷ (codes "provider", option_map string f.provider)
    ∷ []

abbrev pub format_data : TableFormat → Data
format_data f = object_of (format_fields f)

abbrev pub metadata_fields : MetadataAction → Fields
metadata_fields m =
    (codes "configuration", option_map (pairs_data string) m.configuration)
    ∷ (codes "createdTime", option_map integer m.created_time)
    ∷ (codes "description", option_map string m.description)
    ∷ (codes "format", option_map format_data m.format)
    ∷ (codes "id", Some (string m.id))
    ∷ (codes "name", option_map string m.name)
    ∷ (codes "partitionColumns", option_map texts_data m.partition_columns)
    ∷ (codes "schemaString", Some (string m.schema_string))
    ∷ []

-- a deletion vector isn't kept, so none is written
abbrev pub add_fields : AddAction → Fields
add_fields a =
    (codes "baseRowId", option_map integer a.base_row_id)
    ∷ (codes "dataChange", Some (boolean a.data_change))
    ∷ (codes "defaultRowCommitVersion", option_map integer a.default_row_commit_version)
    ∷ (codes "modificationTime", Some (integer a.modification_time))
    ∷ (codes "partitionValues", option_map (pairs_data or_null) a.partition_values)
    ∷ (codes "path", Some (string a.path))
    ∷ (codes "size", Some (integer a.size))
    ∷ (codes "stats", option_map string a.stats)
    ∷ []

abbrev pub remove_fields : RemoveAction → Fields
remove_fields r =
    (codes "baseRowId", option_map integer r.base_row_id)
    ∷ (codes "dataChange", Some (boolean r.data_change))
    ∷ (codes "defaultRowCommitVersion", option_map integer r.default_row_commit_version)
    ∷ (codes "deletionTimestamp", option_map integer r.deletion_timestamp)
    ∷ (codes "extendedFileMetadata", option_map boolean r.extended_file_metadata)
    ∷ (codes "partitionValues", option_map (pairs_data or_null) r.partition_values)
    ∷ (codes "path", Some (string r.path))
    ∷ (codes "size", option_map integer r.size)
    ∷ []

-- a change file changes no rows of the table
abbrev pub cdc_fields : CdcAction → Fields
cdc_fields c =
    (codes "dataChange", Some (boolean false))
    ∷ (codes "partitionValues", option_map (pairs_data or_null) c.partition_values)
    ∷ (codes "path", Some (string c.path))
    ∷ (codes "size", option_map integer c.size)
    ∷ []

abbrev pub domain_fields : DomainAction → Fields
domain_fields d =
    (codes "configuration", Some (string d.configuration))
    ∷ (codes "domain", Some (string d.domain))
    ∷ (codes "removed", option_map boolean d.removed)
    ∷ []

abbrev pub info_fields : InfoAction → Fields
info_fields i =
    (codes "engineInfo", Some (string (codes "deltamerge")))
    ∷ (codes "operation", Some (string i.operation))
    ∷ (codes "timestamp", Some (integer i.timestamp))
    ∷ []

-- ---- lines

-- an object with one member: the action's name, and its value
abbrev pub named : List ℕ → Data → Data
named name d = object (member name d no_members)

-- the value on an action's line; an action of another kind has no line
unfoldable pub line_data : Action → Option Data
line_data (action.Protocol p) = Some (named (codes "protocol") (object_of (protocol_fields p)))
line_data (action.Metadata m) = Some (named (codes "metaData") (object_of (metadata_fields m)))
line_data (action.Add a) = Some (named (codes "add") (object_of (add_fields a)))
line_data (action.Remove r) = Some (named (codes "remove") (object_of (remove_fields r)))
line_data (action.Cdc c) = Some (named (codes "cdc") (object_of (cdc_fields c)))
line_data (action.Domain d) = Some (named (codes "domainMetadata") (object_of (domain_fields d)))
line_data (action.Info i) = Some (named (codes "commitInfo") (object_of (info_fields i)))
line_data action.Other = None

-- the value in compact JSON, and a line feed
abbrev pub line_text : Option Data → List ℕ
line_text None = []
line_text (Some d) = compact_text d ++ 10 ∷ []

-- the text of a commit: the lines of its actions in turn
unfoldable pub commit_text : List Action → List ℕ
commit_text actions = flat_map (λ a. line_text (line_data a)) actions
