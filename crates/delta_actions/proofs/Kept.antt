-- The values that are written have no float, and are plain.
use Rattle.std.proofs.Common.{◌≡◌, ℕ, ◌-◌, ◌<◌, ℤ, pos, negsuc, List, [], ◌∷◌, map, Bool, true, false, Option, Some, None, option_map, refl, arith}
use Rattle.std.specs.Prelude.{⊤, IfSome, codes}
use Rattle.serde_json.specs.Data.{Data, boolean, string, Members, no_members, put}
use Rattle.serde_json.specs.View.{items_of}
use Rattle.serde_json.specs.Written.{has_float, items_have_float, members_have_float}
use Rattle.json_text.specs.Plain.{IsPlain, ArePlain, ArePlainItems}
use Rattle.json_text.proofs.Plain.{ArePlain-put, no_float-put}
use Rattle.delta_actions.specs.declared.action.TableFormat.{TableFormat}
use Rattle.delta_actions.specs.declared.action.Action.{Action}
use Rattle.delta_actions.specs.declared.action.Action.TheVariants as action
use Rattle.delta_actions.specs.Written.{integer, texts_data, or_null, pairs_onto, pairs_data, Fields, put_some, members_onto, object_of, features_data, protocol_fields, format_fields, format_data, metadata_fields, add_fields, remove_fields, cdc_fields, domain_fields, info_fields, named, line_data}
use Rattle.delta_actions.specs.Writable.{HasForm}
use Rattle.delta_actions.specs.StepsWriting.{IsWhole, HasWholes}
use Rattle.delta_actions.proofs.Maybe.{if_map_all, if_map}

if_features : (P : Data → Type 0) (listed : Bool) (ts : List (List ℕ)) → P (texts_data ts) → IfSome (features_data listed ts) P
if_features P true [] h = h
if_features P false [] h = tt
if_features P listed (t ∷ ts) h = h

-- ---- what `put` keeps

abbrev HaveFields : (Data → Type 0) → Fields → Type 0
HaveFields P [] = ⊤
HaveFields P (f ∷ fs) = IfSome f.1 P × HaveFields P fs

module _ (P : Data → Type 0) (Q : Members → Type 0) (keep : (k : List ℕ) (d : Data) (ms : Members) → P d → Q ms → Q (put k d ms)) where
  some_keeps : (k : List ℕ) (o : Option Data) (ms : Members) → IfSome o P → Q ms → Q (put_some k o ms)
  some_keeps k None ms h q = q
  some_keeps k (Some d) ms h q = keep k d ms h q

  fields_keep : (fs : Fields) (ms : Members) → HaveFields P fs → Q ms → Q (members_onto ms fs)
  fields_keep [] ms h q = q
  fields_keep (f ∷ fs) ms h q = fields_keep fs (put_some f.0 f.1 ms) h.1 (some_keeps f.0 f.1 ms h.0 q)

  pairs_keep : {A : Type 0} (value : A → Data) (ps : List (List ℕ × A)) (ms : Members) → ((a : A) → P (value a)) → Q ms → Q (pairs_onto value ms ps)
  pairs_keep value [] ms h q = q
  pairs_keep value (p ∷ ps) ms h q = pairs_keep value ps (put p.0 (value p.1) ms) h (keep p.0 (value p.1) ms (h p.1) q)

-- ---- no float

abbrev HasNone : Data → Type 0
HasNone d = has_float d ≡ false

abbrev HaveNone : Members → Type 0
HaveNone ms = members_have_float ms ≡ false

integer_none : (z : ℤ) → HasNone (integer z)
integer_none (pos n) = refl
integer_none (negsuc n) = refl

or_null_none : (o : Option (List ℕ)) → HasNone (or_null o)
or_null_none None = refl
or_null_none (Some t) = refl

texts_none : (ts : List (List ℕ)) → items_have_float (items_of (map string ts)) ≡ false
texts_none [] = refl
texts_none (t ∷ ts) = texts_none ts

pairs_none : {A : Type 0} (value : A → Data) → ((a : A) → HasNone (value a)) → (ps : List (List ℕ × A)) → HasNone (pairs_data value ps)
pairs_none value h ps = pairs_keep HasNone HaveNone no_float-put value ps no_members h refl

fields_none : (fs : Fields) → HaveFields HasNone fs → HasNone (object_of fs)
fields_none fs h = fields_keep HasNone HaveNone no_float-put fs no_members h refl

named_none : (k : List ℕ) (fs : Fields) → HaveFields HasNone fs → HasNone (named k (object_of fs))
named_none k fs h = rw (fields_none fs h) refl

format_none : (f : TableFormat) → HasNone (format_data f)
format_none f = fields_none (format_fields f) (if_map_all HasNone (pairs_data string) f.options (pairs_none string (λ t. refl)), (if_map_all HasNone string f.provider (λ t. refl), tt))

pub line_none : (a : Action) → IfSome (line_data a) HasNone
unfolding line_data
line_none (action.Protocol p) =
    named_none (codes "protocol") (protocol_fields p) (refl, (refl, (if_features HasNone _ p.reader_features (texts_none p.reader_features), (if_features HasNone _ p.writer_features (texts_none p.writer_features), tt))))
line_none (action.Metadata m) =
    named_none (codes "metaData") (metadata_fields m) (
      if_map_all HasNone (pairs_data string) m.configuration (pairs_none string (λ t. refl)),
      (
        if_map_all HasNone integer m.created_time integer_none,
        (
          if_map_all HasNone string m.description (λ t. refl),
          (if_map_all HasNone format_data m.format format_none, (refl, (if_map_all HasNone string m.name (λ t. refl), (if_map_all HasNone texts_data m.partition_columns texts_none, (refl, tt))))),
        ),
      ),
    )
line_none (action.Add a) =
    named_none (codes "add") (add_fields a) (
      if_map_all HasNone integer a.base_row_id integer_none,
      (
        refl,
        (
          if_map_all HasNone integer a.default_row_commit_version integer_none,
          (
            integer_none a.modification_time,
            (if_map_all HasNone (pairs_data or_null) a.partition_values (pairs_none or_null or_null_none), (refl, (integer_none a.size, (if_map_all HasNone string a.stats (λ t. refl), tt)))),
          ),
        ),
      ),
    )
line_none (action.Remove r) =
    named_none (codes "remove") (remove_fields r) (
      if_map_all HasNone integer r.base_row_id integer_none,
      (
        refl,
        (
          if_map_all HasNone integer r.default_row_commit_version integer_none,
          (
            if_map_all HasNone integer r.deletion_timestamp integer_none,
            (if_map_all HasNone boolean r.extended_file_metadata (λ b. refl), (if_map_all HasNone (pairs_data or_null) r.partition_values (pairs_none or_null or_null_none), (refl, (if_map_all HasNone integer r.size integer_none, tt)))),
          ),
        ),
      ),
    )
line_none (action.Cdc c) =
    named_none (codes "cdc") (cdc_fields c) (refl, (if_map_all HasNone (pairs_data or_null) c.partition_values (pairs_none or_null or_null_none), (refl, (if_map_all HasNone integer c.size integer_none, tt))))
line_none (action.Domain d) = named_none (codes "domainMetadata") (domain_fields d) (refl, (refl, (if_map_all HasNone boolean d.removed (λ b. refl), tt)))
line_none (action.Info i) = named_none (codes "commitInfo") (info_fields i) (refl, (refl, (integer_none i.timestamp, tt)))
line_none action.Other = tt

-- ---- plain

integer_plain : (n : ℕ) (z : ℤ) → IsWhole z → IsPlain n (integer z)
integer_plain n (pos m) h = omega (arith, h)
integer_plain n (negsuc m) h = h

or_null_plain : (n : ℕ) (o : Option (List ℕ)) → IsPlain n (or_null o)
or_null_plain n None = tt
or_null_plain n (Some t) = tt

text_items_plain : (n : ℕ) (ts : List (List ℕ)) → ArePlainItems n (items_of (map string ts))
text_items_plain n [] = tt
text_items_plain n (t ∷ ts) = (tt, text_items_plain n ts)

texts_plain : (n : ℕ) → 0 < n → (ts : List (List ℕ)) → IsPlain n (texts_data ts)
texts_plain n some ts = (some, text_items_plain (n - 1) ts)

pairs_plain : {A : Type 0} (n : ℕ) → 0 < n → (value : A → Data) → ((a : A) → IsPlain (n - 1) (value a)) → (ps : List (List ℕ × A)) → IsPlain n (pairs_data value ps)
pairs_plain n some value h ps = (some, pairs_keep (IsPlain (n - 1)) (ArePlain (n - 1)) (ArePlain-put (n - 1)) value ps no_members h tt)

fields_plain : (n : ℕ) → 0 < n → (fs : Fields) → HaveFields (IsPlain (n - 1)) fs → IsPlain n (object_of fs)
fields_plain n some fs h = (some, fields_keep (IsPlain (n - 1)) (ArePlain (n - 1)) (ArePlain-put (n - 1)) fs no_members h tt)

named_plain : (k : List ℕ) (fs : Fields) → HaveFields (IsPlain 125) fs → IsPlain 127 (named k (object_of fs))
named_plain k fs h = (omega arith, (fields_plain 126 (omega arith) fs h, tt, tt))

format_plain : (f : TableFormat) → IsPlain 125 (format_data f)
format_plain f =
    fields_plain 125 (omega arith) (format_fields f) (if_map_all (IsPlain 124) (pairs_data string) f.options (pairs_plain 124 (omega arith) string (λ t. tt)), (if_map_all (IsPlain 124) string f.provider (λ t. tt), tt))

abbrev P : Data → Type 0
P = IsPlain 125

maybe_whole_plain : (o : Option ℤ) → IfSome o IsWhole → IfSome (option_map integer o) P
maybe_whole_plain o h = if_map IsWhole P integer o (integer_plain 125) h

maybe_text_plain : (o : Option (List ℕ)) → IfSome (option_map string o) P
maybe_text_plain o = if_map_all P string o (λ t. tt)

maybe_bool_plain : (o : Option Bool) → IfSome (option_map boolean o) P
maybe_bool_plain o = if_map_all P boolean o (λ b. tt)

values_plain : (o : Option (List (List ℕ × Option (List ℕ)))) → IfSome (option_map (pairs_data or_null) o) P
values_plain o = if_map_all P (pairs_data or_null) o (pairs_plain 125 (omega arith) or_null (or_null_plain 124))

features_plain : (listed : Bool) (ts : List (List ℕ)) → IfSome (features_data listed ts) P
features_plain listed ts = if_features P listed ts (texts_plain 125 (omega arith) ts)

pub line_plain : (a : Action) → HasForm a → HasWholes a → IfSome (line_data a) (IsPlain 127)
unfolding line_data
line_plain (action.Protocol p) w h =
    named_plain (codes "protocol") (protocol_fields p) (omega (arith, w.reader), (omega (arith, w.writer), (features_plain _ p.reader_features, (features_plain _ p.writer_features, tt))))
line_plain (action.Metadata m) w h =
    named_plain (codes "metaData") (metadata_fields m) (
      if_map_all P (pairs_data string) m.configuration (pairs_plain 125 (omega arith) string (λ t. tt)),
      (
        maybe_whole_plain m.created_time h,
        (
          maybe_text_plain m.description,
          (if_map_all P format_data m.format format_plain, (tt, (maybe_text_plain m.name, (if_map_all P texts_data m.partition_columns (texts_plain 125 (omega arith)), (tt, tt))))),
        ),
      ),
    )
line_plain (action.Add a) w h =
    named_plain (codes "add") (add_fields a) (
      maybe_whole_plain a.base_row_id h.base,
      (
        tt,
        (
          maybe_whole_plain a.default_row_commit_version h.version,
          (
            integer_plain 125 a.modification_time h.time,
            (values_plain a.partition_values, (tt, (integer_plain 125 a.size h.size, (maybe_text_plain a.stats, tt)))),
          ),
        ),
      ),
    )
line_plain (action.Remove r) w h =
    named_plain (codes "remove") (remove_fields r) (
      maybe_whole_plain r.base_row_id h.base,
      (
        tt,
        (
          maybe_whole_plain r.default_row_commit_version h.version,
          (
            maybe_whole_plain r.deletion_timestamp h.time,
            (maybe_bool_plain r.extended_file_metadata, (values_plain r.partition_values, (tt, (maybe_whole_plain r.size h.size, tt)))),
          ),
        ),
      ),
    )
line_plain (action.Cdc c) w h = named_plain (codes "cdc") (cdc_fields c) (tt, (values_plain c.partition_values, (tt, (maybe_whole_plain c.size h, tt))))
line_plain (action.Domain d) w h = named_plain (codes "domainMetadata") (domain_fields d) (tt, (tt, (maybe_bool_plain d.removed, tt)))
line_plain (action.Info i) w h = named_plain (codes "commitInfo") (info_fields i) (tt, (tt, (integer_plain 125 i.timestamp h, tt)))
line_plain action.Other w h = tt
