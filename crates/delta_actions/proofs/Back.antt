-- What is written for an action is read as that action.
use Rattle.std.proofs.Common.{◌≡◌, ℕ, ◌≤◌, ℤ, pos, negsuc, List, [], ◌∷◌, map, Bool, true, false, ◌&&◌, not, is_some, Option, Some, None, option_map, option_and_then, bytes_eq, Less, true≢false, refl, sym, ap, ◌∙◌, subst, lt-ltb, le-leb}
use Rattle.std.specs.Prelude.{IfSome, IsSome, codes, unwrap_or}
use Rattle.std.specs.List.{AllByRecursion}
use Rattle.std.specs.List.Sorted.{IsStrictlySortedBy}
use Rattle.std.specs.Map.{keys_of}
use Rattle.std.specs.Ordering.{nat_cmp}
use Rattle.std.specs.Cmp.Lexicographic.{slice_cmp}
use Rattle.std.proofs.lemmas.Slice.Eq.{bytes_eq-Decides}
use Rattle.serde_json.specs.Data.{Data, boolean, number, unsigned, string, Members, no_members, member, put}
use Rattle.serde_json.specs.Find.{get, get_member, as_str, as_bool}
use Rattle.serde_json.specs.View.{items_of}
use Rattle.serde_json.proofs.Views.{get_member-put, get_member-put_other}
use Rattle.json_text.specs.Plain.{IsAbove}
use Rattle.json_text.proofs.Plain.{joined, joined-one, joined-nil, put-last, AreBefore, AreBefore-one, AreBefore-none}
use Rattle.delta_actions.specs.declared.action.ProtocolAction.{ProtocolAction}
use Rattle.delta_actions.specs.declared.action.TableFormat.{TableFormat}
use Rattle.delta_actions.specs.declared.action.MetadataAction.{MetadataAction}
use Rattle.delta_actions.specs.declared.action.AddAction.{AddAction}
use Rattle.delta_actions.specs.declared.action.RemoveAction.{RemoveAction}
use Rattle.delta_actions.specs.declared.action.CdcAction.{CdcAction}
use Rattle.delta_actions.specs.declared.action.DomainAction.{DomainAction}
use Rattle.delta_actions.specs.declared.action.InfoAction.{InfoAction}
use Rattle.delta_actions.specs.Forms.{unless_null, present, maybe, needed, optional, whole, version, text_or_null, each_item, each_member, texts, pairs}
use Rattle.delta_actions.specs.Meaning.{parquet, format_of, protocol_of, metadata_of, data_change_of, add_of, remove_of, cdc_of, mark_of, tracks, domain_of, info_of}
use Rattle.delta_actions.specs.Written.{integer, texts_data, or_null, pairs_onto, pairs_data, Fields, put_some, members_onto, object_of, features_data, protocol_fields, format_fields, format_data, metadata_fields, add_fields, remove_fields, cdc_fields, domain_fields, info_fields}
use Rattle.delta_actions.specs.StepsWriting.{IsWhole, AddHasWholes, RemoveHasWholes}
use Rattle.delta_actions.specs.Writable.{AreOrdered, IsProtocol, IsFormat, IsMetadata, IsDomain}
use Rattle.delta_actions.proofs.Maybe.{if_all, if_each}

-- ---- a look-up in an object whose members were put in

abbrev pick : Bool → Option Data → Option Data → Option Data
pick false o base = base
pick true None base = base
pick true (Some d) base = Some d

abbrev found : List ℕ → Fields → Option Data → Option Data
found q [] base = base
found q (f ∷ fs) base = found q fs (pick (bytes_eq q f.0) f.1 base)

pick-None : (b : Bool) (base : Option Data) → base ≡ pick b None base
pick-None true base = refl
pick-None false base = refl

get-put : (q k : List ℕ) (d : Data) (ms : Members) (b : Bool) → bytes_eq q k ≡ b → get_member q (put k d ms) ≡ pick b (Some d) (get_member q ms)
get-put q k d ms true is =
    let same : q ≡ k = (bytes_eq-Decides q k).0 is in
    subst (λ (x : List ℕ). get_member x (put k d ms) ≡ Some d) (sym same) (get_member-put k d ms)
get-put q k d ms false is = get_member-put_other q k d ms (λ same. true≢false (sym ((bytes_eq-Decides q k).1 same) ∙ is))

get-put_some : (q k : List ℕ) (o : Option Data) (ms : Members) → get_member q (put_some k o ms) ≡ pick (bytes_eq q k) o (get_member q ms)
get-put_some q k None ms = pick-None (bytes_eq q k) (get_member q ms)
get-put_some q k (Some d) ms = get-put q k d ms _ refl

get-onto : (q : List ℕ) (fs : Fields) (ms : Members) → get_member q (members_onto ms fs) ≡ found q fs (get_member q ms)
get-onto q [] ms = refl
get-onto q (f ∷ fs) ms = get-onto q fs (put_some f.0 f.1 ms) ∙ ap (found q fs) (get-put_some q f.0 f.1 ms)

get-object : (q : List ℕ) (fs : Fields) → get q (object_of fs) ≡ found q fs None
get-object q fs = get-onto q fs no_members

present-object : (q : List ℕ) (fs : Fields) → present q (object_of fs) ≡ option_and_then unless_null (found q fs None)
present-object q fs = ap (option_and_then unless_null) (get-object q fs)

needed-object : {A : Type 0} (form : Data → Option A) (q : List ℕ) (fs : Fields) → needed form q (object_of fs) ≡ option_and_then form (option_and_then unless_null (found q fs None))
needed-object form q fs = ap (option_and_then form) (present-object q fs)

optional-object : {A : Type 0} (form : Data → Option A) (q : List ℕ) (fs : Fields) → optional form q (object_of fs) ≡ maybe form (option_and_then unless_null (found q fs None))
optional-object form q fs = ap (maybe form) (present-object q fs)

-- ---- the forms

maybe_back : {A : Type 0} (form : Data → Option A) (into : A → Data) (o : Option A) → ((a : A) → unless_null (into a) ≡ Some (into a)) → IfSome o (λ a. form (into a) ≡ Some a)
    → maybe form (option_and_then unless_null (pick true (option_map into o) None)) ≡ Some o
maybe_back form into None some h = refl
maybe_back form into (Some a) some h = rw (some a) (ap (option_map Some) h)

whole_back : (z : ℤ) → IsWhole z → whole (integer z) ≡ Some z
whole_back (pos n) h = rw (lt-ltb _ _ h) refl
whole_back (negsuc n) h = refl

maybe_whole_back : (o : Option ℤ) → IfSome o IsWhole → maybe whole (option_and_then unless_null (pick true (option_map integer o) None)) ≡ Some o
maybe_whole_back o h = maybe_back whole integer o (λ z. refl) (if_each IsWhole (λ z. whole (integer z) ≡ Some z) o whole_back h)

maybe_text_back : (o : Option (List ℕ)) → maybe as_str (option_and_then unless_null (pick true (option_map string o) None)) ≡ Some o
maybe_text_back o = maybe_back as_str string o (λ t. refl) (if_all (λ t. as_str (string t) ≡ Some t) o (λ t. refl))

maybe_bool_back : (o : Option Bool) → maybe as_bool (option_and_then unless_null (pick true (option_map boolean o) None)) ≡ Some o
maybe_bool_back o = maybe_back as_bool boolean o (λ b. refl) (if_all (λ b. as_bool (boolean b) ≡ Some b) o (λ b. refl))

text_items_back : (ts : List (List ℕ)) → each_item as_str (items_of (map string ts)) ≡ Some ts
text_items_back [] = refl
text_items_back (t ∷ ts) = rw (text_items_back ts) refl

maybe_texts_back : (o : Option (List (List ℕ))) → maybe texts (option_and_then unless_null (pick true (option_map texts_data o) None)) ≡ Some o
maybe_texts_back o = maybe_back texts texts_data o (λ ts. refl) (if_all (λ ts. texts (texts_data ts) ≡ Some ts) o text_items_back)

-- ---- pairs

module _ {A : Type 0} (form : Data → Option A) (value : A → Data) (back : (a : A) → form (value a) ≡ Some a) where
  abbrev listed : List (List ℕ × A) → Members
  listed [] = no_members
  listed (p ∷ ps) = member p.0 (value p.1) (listed ps)

  above_listed : (k : List ℕ) (ps : List (List ℕ × A)) → AllByRecursion (λ y. slice_cmp nat_cmp k y ≡ Less) (keys_of ps) → IsAbove k (listed ps)
  above_listed k [] h = tt
  above_listed k (p ∷ ps) h = (h.0, above_listed k ps h.1)

  onto_listed : (f : Members) (ps : List (List ℕ × A)) → AreOrdered ps → AreBefore f (listed ps) → pairs_onto value f ps ≡ joined f (listed ps)
  unfolding IsStrictlySortedBy
  onto_listed f [] h before = joined-nil f
  onto_listed f (p ∷ ps) h before =
      let d = value p.1 in
      ap (λ m. pairs_onto value m ps) (put-last f p.0 d before.0)
      ∙ onto_listed (joined f (member p.0 d no_members)) ps h.1 (AreBefore-one f p.0 d (listed ps) before.1 (above_listed p.0 ps h.0)) ∙ joined-one f p.0 d (listed ps)

  listed_back : (ps : List (List ℕ × A)) → each_member form (listed ps) ≡ Some ps
  listed_back [] = refl
  listed_back (p ∷ ps) = rw (back p.1, listed_back ps) refl

  pairs_back : (ps : List (List ℕ × A)) → AreOrdered ps → pairs form (pairs_data value ps) ≡ Some ps
  pairs_back ps h = ap (each_member form) (onto_listed no_members ps h (AreBefore-none (listed ps))) ∙ listed_back ps

  maybe_pairs_back : (o : Option (List (List ℕ × A))) → IfSome o AreOrdered → maybe (pairs form) (option_and_then unless_null (pick true (option_map (pairs_data value) o) None)) ≡ Some o
  maybe_pairs_back o h = maybe_back (pairs form) (pairs_data value) o (λ ps. refl) (if_each AreOrdered (λ ps. pairs form (pairs_data value ps) ≡ Some ps) o pairs_back h)

or_null_back : (o : Option (List ℕ)) → text_or_null (or_null o) ≡ Some o
or_null_back None = refl
or_null_back (Some t) = refl

-- ---- features

abbrev listed_features : Bool → List (List ℕ) → Option (List (List ℕ))
listed_features true [] = Some []
listed_features false [] = None
listed_features listed (t ∷ ts) = Some (t ∷ ts)

features_back : (listed : Bool) (ts : List (List ℕ)) → maybe texts (option_and_then unless_null (pick true (features_data listed ts) None)) ≡ Some (listed_features listed ts)
features_back true [] = refl
features_back false [] = refl
features_back listed (t ∷ ts) = ap (option_map Some) (text_items_back (t ∷ ts))

features_all : (listed : Bool) (ts : List (List ℕ)) → unwrap_or (listed_features listed ts) [] ≡ ts
features_all true [] = refl
features_all false [] = refl
features_all listed (t ∷ ts) = refl

-- ---- the actions

version_back : (n : ℕ) → n ≤ 2147483647 → version (number (unsigned n)) ≡ Some n
version_back n h = rw (le-leb _ _ h) refl

pub protocol_back : (p : ProtocolAction) → IsProtocol p → protocol_of (object_of (protocol_fields p)) ≡ Some p
protocol_back p w =
    let fs = protocol_fields p in
    let reader : needed version (codes "minReaderVersion") (object_of fs) ≡ Some p.min_reader_version = needed-object version (codes "minReaderVersion") fs ∙ version_back _ w.reader in
    let writer : needed version (codes "minWriterVersion") (object_of fs) ≡ Some p.min_writer_version = needed-object version (codes "minWriterVersion") fs ∙ version_back _ w.writer in
    let readers : optional texts (codes "readerFeatures") (object_of fs) ≡ Some (listed_features _ p.reader_features) = optional-object texts (codes "readerFeatures") fs ∙ features_back _ p.reader_features in
    let writers : optional texts (codes "writerFeatures") (object_of fs) ≡ Some (listed_features _ p.writer_features) = optional-object texts (codes "writerFeatures") fs ∙ features_back _ p.writer_features in
    rw (reader, writer, readers, writers, features_all _ p.reader_features, features_all _ p.writer_features) refl

provider_back : (o : Option (List ℕ)) → IfSome o (λ name. name ≡ codes "parquet") → maybe parquet (pick true (option_map string o) None) ≡ Some o
provider_back None h = refl
provider_back (Some name) h = subst (λ (x : List ℕ). maybe parquet (Some (string x)) ≡ Some (Some x)) (sym h) refl

format_back : (f : TableFormat) → IsFormat f → format_of (format_data f) ≡ Some f
format_back f w =
    let fs = format_fields f in
    let provider : maybe parquet (get (codes "provider") (object_of fs)) ≡ Some f.provider = ap (maybe parquet) (get-object (codes "provider") fs) ∙ provider_back f.provider w.provider in
    let options : optional (pairs as_str) (codes "options") (object_of fs) ≡ Some f.options = optional-object (pairs as_str) (codes "options") fs ∙ maybe_pairs_back as_str string (λ t. refl) f.options w.options in
    rw (provider, options) refl

pub metadata_back : (m : MetadataAction) → IsMetadata m → IfSome m.created_time IsWhole → metadata_of (object_of (metadata_fields m)) ≡ Some m
metadata_back m w h =
    let fs = metadata_fields m in
    let id : needed as_str (codes "id") (object_of fs) ≡ Some m.id = needed-object as_str (codes "id") fs in
    let name : optional as_str (codes "name") (object_of fs) ≡ Some m.name = optional-object as_str (codes "name") fs ∙ maybe_text_back m.name in
    let description : optional as_str (codes "description") (object_of fs) ≡ Some m.description = optional-object as_str (codes "description") fs ∙ maybe_text_back m.description in
    let format : optional format_of (codes "format") (object_of fs) ≡ Some m.format =
    optional-object format_of (codes "format") fs ∙ maybe_back format_of format_data m.format (λ f. refl) (if_each IsFormat (λ f. format_of (format_data f) ≡ Some f) m.format format_back w.format) in
    let schema : needed as_str (codes "schemaString") (object_of fs) ≡ Some m.schema_string = needed-object as_str (codes "schemaString") fs in
    let columns : optional texts (codes "partitionColumns") (object_of fs) ≡ Some m.partition_columns = optional-object texts (codes "partitionColumns") fs ∙ maybe_texts_back m.partition_columns in
    let configuration : optional (pairs as_str) (codes "configuration") (object_of fs) ≡ Some m.configuration =
    optional-object (pairs as_str) (codes "configuration") fs ∙ maybe_pairs_back as_str string (λ t. refl) m.configuration w.configuration in
    let created : optional whole (codes "createdTime") (object_of fs) ≡ Some m.created_time = optional-object whole (codes "createdTime") fs ∙ maybe_whole_back m.created_time h in
    rw (id, name, description, format, schema, columns, configuration, created) refl

abbrev change_known : Option (Option Bool) → Option Bool
change_known o = option_and_then (λ change. Some (unwrap_or change true)) o

pub add_back : (a : AddAction) → IfSome a.partition_values AreOrdered → a.deletion_vector ≡ false → AddHasWholes a → add_of (object_of (add_fields a)) ≡ Some a
add_back a ordered none h =
    let fs = add_fields a in
    let path : needed as_str (codes "path") (object_of fs) ≡ Some a.path = needed-object as_str (codes "path") fs in
    let values : optional (pairs text_or_null) (codes "partitionValues") (object_of fs) ≡ Some a.partition_values =
    optional-object (pairs text_or_null) (codes "partitionValues") fs ∙ maybe_pairs_back text_or_null or_null or_null_back a.partition_values ordered in
    let size : optional whole (codes "size") (object_of fs) ≡ Some (Some a.size) = optional-object whole (codes "size") fs ∙ ap (option_map Some) (whole_back a.size h.size) in
    let time : optional whole (codes "modificationTime") (object_of fs) ≡ Some (Some a.modification_time) = optional-object whole (codes "modificationTime") fs ∙ ap (option_map Some) (whole_back a.modification_time h.time) in
    let change : data_change_of (object_of fs) ≡ Some a.data_change = ap change_known (optional-object as_bool (codes "dataChange") fs) in
    let stats : optional as_str (codes "stats") (object_of fs) ≡ Some a.stats = optional-object as_str (codes "stats") fs ∙ maybe_text_back a.stats in
    let base : optional whole (codes "baseRowId") (object_of fs) ≡ Some a.base_row_id = optional-object whole (codes "baseRowId") fs ∙ maybe_whole_back a.base_row_id h.base in
    let since : optional whole (codes "defaultRowCommitVersion") (object_of fs) ≡ Some a.default_row_commit_version = optional-object whole (codes "defaultRowCommitVersion") fs ∙ maybe_whole_back a.default_row_commit_version h.version in
    let vector : present (codes "deletionVector") (object_of fs) ≡ None = present-object (codes "deletionVector") fs in
    rw (path, values, size, time, change, stats, base, since, vector) (rw none refl)

pub remove_back : (r : RemoveAction) → IfSome r.partition_values AreOrdered → r.deletion_vector ≡ false → RemoveHasWholes r → remove_of (object_of (remove_fields r)) ≡ Some r
remove_back r ordered none h =
    let fs = remove_fields r in
    let path : needed as_str (codes "path") (object_of fs) ≡ Some r.path = needed-object as_str (codes "path") fs in
    let change : data_change_of (object_of fs) ≡ Some r.data_change = ap change_known (optional-object as_bool (codes "dataChange") fs) in
    let time : optional whole (codes "deletionTimestamp") (object_of fs) ≡ Some r.deletion_timestamp = optional-object whole (codes "deletionTimestamp") fs ∙ maybe_whole_back r.deletion_timestamp h.time in
    let size : optional whole (codes "size") (object_of fs) ≡ Some r.size = optional-object whole (codes "size") fs ∙ maybe_whole_back r.size h.size in
    let extended : optional as_bool (codes "extendedFileMetadata") (object_of fs) ≡ Some r.extended_file_metadata = optional-object as_bool (codes "extendedFileMetadata") fs ∙ maybe_bool_back r.extended_file_metadata in
    let values : optional (pairs text_or_null) (codes "partitionValues") (object_of fs) ≡ Some r.partition_values =
    optional-object (pairs text_or_null) (codes "partitionValues") fs ∙ maybe_pairs_back text_or_null or_null or_null_back r.partition_values ordered in
    let base : optional whole (codes "baseRowId") (object_of fs) ≡ Some r.base_row_id = optional-object whole (codes "baseRowId") fs ∙ maybe_whole_back r.base_row_id h.base in
    let since : optional whole (codes "defaultRowCommitVersion") (object_of fs) ≡ Some r.default_row_commit_version = optional-object whole (codes "defaultRowCommitVersion") fs ∙ maybe_whole_back r.default_row_commit_version h.version in
    let vector : present (codes "deletionVector") (object_of fs) ≡ None = present-object (codes "deletionVector") fs in
    rw (path, change, time, size, extended, values, base, since, vector) (rw none refl)

pub cdc_back : (c : CdcAction) → IfSome c.partition_values AreOrdered → IfSome c.size IsWhole → cdc_of (object_of (cdc_fields c)) ≡ Some c
cdc_back c ordered h =
    let fs = cdc_fields c in
    let path : needed as_str (codes "path") (object_of fs) ≡ Some c.path = needed-object as_str (codes "path") fs in
    let values : optional (pairs text_or_null) (codes "partitionValues") (object_of fs) ≡ Some c.partition_values =
    optional-object (pairs text_or_null) (codes "partitionValues") fs ∙ maybe_pairs_back text_or_null or_null or_null_back c.partition_values ordered in
    let size : optional whole (codes "size") (object_of fs) ≡ Some c.size = optional-object whole (codes "size") fs ∙ maybe_whole_back c.size h in
    rw (path, values, size) refl

has_its_mark : (tracking : Bool) (o : Option ℤ) → (tracking ≡ true → IsSome o) → (tracking && not (is_some o)) ≡ false
has_its_mark false o h = refl
has_its_mark true o h = ap not (h refl)

pub domain_back : (d : DomainAction) → IsDomain d → domain_of (object_of (domain_fields d)) ≡ Some d
domain_back d w =
    let fs = domain_fields d in
    let domain : needed as_str (codes "domain") (object_of fs) ≡ Some d.domain = needed-object as_str (codes "domain") fs in
    let text : needed as_str (codes "configuration") (object_of fs) ≡ Some d.configuration = needed-object as_str (codes "configuration") fs in
    let removed : optional as_bool (codes "removed") (object_of fs) ≡ Some d.removed = optional-object as_bool (codes "removed") fs ∙ maybe_bool_back d.removed in
    rw (domain, text, removed) (rw (has_its_mark (tracks d.domain d.removed) (mark_of d.configuration) w) refl)

abbrev made : Option (List ℕ) → Option ℤ → InfoAction
made x y = record { operation = unwrap_or x []; timestamp = unwrap_or y (pos 0) }

pub info_back : (i : InfoAction) → IsWhole i.timestamp → info_of (object_of (info_fields i)) ≡ i
info_back i h =
    let fs = info_fields i in
    let operation : needed as_str (codes "operation") (object_of fs) ≡ Some i.operation = needed-object as_str (codes "operation") fs in
    let time : needed whole (codes "timestamp") (object_of fs) ≡ Some i.timestamp = needed-object whole (codes "timestamp") fs ∙ whole_back i.timestamp h in
    ap (λ (x : Option (List ℕ)). made x (needed whole (codes "timestamp") (object_of fs))) operation ∙ ap (made (Some i.operation)) time
