-- What is read of a line has the form of its kind.
use Rattle.std.proofs.Common.{◌≡◌, ℕ, ◌+◌, ◌≤◌, ℤ, List, [], ◌∷◌, Bool, true, false, cond, ◌&&◌, not, is_some, nat_le, arith, Option, Some, None, option_map, option_and_then, Ok, Err, Result, Ordering, Less, Equal, Greater, nat_cmp, bytes_eq, true≢false, refl, sym, ap, ◌∙◌, subst}
use Rattle.std.specs.Prelude.{⊤, IfSome, codes}
use Rattle.std.specs.List.{All, AllByRecursion, list_all}
use Rattle.std.specs.List.Sorted.{IsStrictlySortedBy}
use Rattle.std.specs.Map.{keys_of}
use Rattle.std.specs.Ordering.{match_ordering}
use Rattle.std.specs.Cmp.Lexicographic.{slice_cmp}
use Rattle.std.specs.Str.{is_utf8}
use Rattle.std.proofs.lemmas.List.Elements.{All-nil, All-cons, All-append}
use Rattle.std.proofs.lemmas.Slice.Eq.{bytes_eq-Decides}
use Rattle.serde_json.specs.Data.{Data, null, boolean, number, string, array, object, Members, no_members, member}
use Rattle.serde_json.specs.Find.{get, get_member, as_object, as_bool, as_str, as_number, as_u64}
use Rattle.serde_json.specs.Read.{read}
use Rattle.dm_types.specs.Then.{◌>>=◌}
use Rattle.json_text.specs.Plain.{IsAbove, IsSorted, AreSorted}
use Rattle.json_text.proofs.Ordered.{sorted-read}
use Rattle.delta_actions.specs.declared.action.AddAction.{AddAction}
use Rattle.delta_actions.specs.declared.action.RemoveAction.{RemoveAction}
use Rattle.delta_actions.specs.declared.action.CdcAction.{CdcAction}
use Rattle.delta_actions.specs.declared.action.DomainAction.{DomainAction}
use Rattle.delta_actions.specs.declared.action.Action.{Action}
use Rattle.delta_actions.specs.declared.action.Action.TheVariants as action
use Rattle.delta_actions.specs.Forms.{unless_null, present, maybe, needed, optional, whole, version, text_or_null, each_member, texts, pairs}
use Rattle.delta_actions.specs.Meaning.{parquet, format_of, protocol_of, metadata_of, data_change_of, add_of, remove_of, cdc_of, mark_of, tracks, domain_of, action_of, some_members, only, only_member, object_action, value_of, line_of, is_space, actions_of, then_more, with_line, actions_from}
use Rattle.delta_actions.specs.Writable.{AreOrdered, IsProtocol, IsFormat, IsMetadata, IsDomain, HasForm}
use Rattle.delta_actions.proofs.Maybe.{if_each, if_known, if_map, if_then_all, if_then, if_cond}

if_maybe : {A : Type 0} (P : A → Type 0) (form : Data → Option A) (o : Option Data) → IfSome o (λ d. IfSome (form d) P) → IfSome (maybe form o) (λ found. IfSome found P)
if_maybe P form None h = tt
if_maybe P form (Some d) h = if_map P (λ found. IfSome found P) Some (form d) (λ a p. p) h

-- ---- members of a value that is in order

by_ordering : (o : Ordering) (x y z : Option Data) → IfSome x IsSorted → IfSome y IsSorted → IfSome z IsSorted → IfSome (match_ordering o x y z) IsSorted
by_ordering Less x y z h k l = h
by_ordering Equal x y z h k l = k
by_ordering Greater x y z h k l = l

get_member_sorted : (q : List ℕ) (ms : Members) → AreSorted ms → IfSome (get_member q ms) IsSorted
get_member_sorted q no_members h = tt
get_member_sorted q (member k d ms) h =
    let later = get_member_sorted q ms h.2 in
    by_ordering (slice_cmp nat_cmp q k) (get_member q ms) (Some d) (get_member q ms) later h.0 later

get_sorted : (q : List ℕ) (d : Data) → IsSorted d → IfSome (get q d) IsSorted
get_sorted q null h = tt
get_sorted q (boolean b) h = tt
get_sorted q (number n) h = tt
get_sorted q (string s) h = tt
get_sorted q (array ds) h = tt
get_sorted q (object ms) h = get_member_sorted q ms h

unless_null_sorted : (d : Data) → IsSorted d → IfSome (unless_null d) IsSorted
unless_null_sorted null h = tt
unless_null_sorted (boolean b) h = tt
unless_null_sorted (number n) h = tt
unless_null_sorted (string s) h = tt
unless_null_sorted (array ds) h = h
unless_null_sorted (object ms) h = h

as_object_sorted : (d : Data) → IsSorted d → IfSome (as_object d) AreSorted
as_object_sorted null h = tt
as_object_sorted (boolean b) h = tt
as_object_sorted (number n) h = tt
as_object_sorted (string s) h = tt
as_object_sorted (array ds) h = tt
as_object_sorted (object ms) h = h

optional_sorted : {A : Type 0} (P : A → Type 0) (form : Data → Option A) (q : List ℕ) (d : Data) → ((e : Data) → IsSorted e → IfSome (form e) P) → IsSorted d → IfSome (optional form q d) (λ found. IfSome found P)
optional_sorted P form q d k h =
    if_maybe P form (present q d) (if_then IsSorted (λ e. IfSome (form e) P) unless_null (get q d) (get_sorted q d h) (λ e s. if_each IsSorted (λ x. IfSome (form x) P) (unless_null e) k (unless_null_sorted e s)))

-- ---- pairs

module _ {A : Type 0} (form : Data → Option A) where
  parts : (k : List ℕ) (o : Option A) (r : Option (List (List ℕ × A))) (ps : List (List ℕ × A)) → option_and_then (λ a. option_map (λ more. (k, a) ∷ more) r) o ≡ Some ps
      → (a : A) × (more : List (List ℕ × A)) × (r ≡ Some more) × (ps ≡ (k, a) ∷ more)
  parts k None r ps e = absurd cc
  parts k (Some a) None ps e = absurd cc
  parts k (Some a) (Some more) ps e = (a, more, refl, cc)

  keys_above : (k : List ℕ) (ms : Members) (ps : List (List ℕ × A)) → each_member form ms ≡ Some ps → IsAbove k ms → AllByRecursion (λ y. slice_cmp nat_cmp k y ≡ Less) (keys_of ps)
  keys_above k no_members [] e h = tt
  keys_above k no_members (p ∷ ps) e h = absurd cc
  keys_above k (member l d ms) ps e h =
      let x = parts l (form d) (each_member form ms) ps e in
      subst (λ (qs : List (List ℕ × A)). AllByRecursion (λ y. slice_cmp nat_cmp k y ≡ Less) (keys_of qs)) (sym x.3) (h.0, keys_above k ms x.1 x.2 h.1)

  members_ordered : (ms : Members) (ps : List (List ℕ × A)) → each_member form ms ≡ Some ps → AreSorted ms → AreOrdered ps
  unfolding IsStrictlySortedBy
  members_ordered no_members [] e h = tt
  members_ordered no_members (p ∷ ps) e h = absurd cc
  members_ordered (member k d ms) ps e h =
      let x = parts k (form d) (each_member form ms) ps e in
      subst AreOrdered (sym x.3) (keys_above k ms x.1 x.2 h.1, members_ordered ms x.1 x.2 h.2)

  pairs_ordered : (d : Data) → IsSorted d → IfSome (pairs form d) AreOrdered
  pairs_ordered d h = if_then AreSorted AreOrdered (each_member form) (as_object d) (as_object_sorted d h) (λ ms s. if_known AreOrdered (each_member form ms) (λ ps e. members_ordered ms ps e s))

  optional_ordered : (q : List ℕ) (d : Data) → IsSorted d → IfSome (optional (pairs form) q d) (λ found. IfSome found AreOrdered)
  optional_ordered q d h = optional_sorted AreOrdered (pairs form) q d pairs_ordered h

-- ---- the actions

-- the same as a record, for chains of steps
record Holds {A : Type 0} (P : A → Type 0) (o : Option A) : Type 0 where
  it : IfSome o P

done : {A : Type 0} {P : A → Type 0} (a : A) → P a → Holds P (Some a)
done a h = record { it = h }

-- a step that is kept, and one of which nothing is kept
keep : {A B : Type 0} {Q : B → Type 0} {f : A → Option B} (P : A → Type 0) (o : Option A) → IfSome o P → ((a : A) → P a → Holds Q (f a)) → Holds Q (o >>= f)
keep {Q = Q} {f} P o h k = record { it = if_then P Q f o h (λ a p. (k a p).it) }

pass : {A B : Type 0} {Q : B → Type 0} {f : A → Option B} (o : Option A) → ((a : A) → Holds Q (f a)) → Holds Q (o >>= f)
pass {Q = Q} {f} o k = record { it = if_then_all Q f o (λ a. (k a).it) }

abbrev IsVersion : ℕ → Type 0
IsVersion n = n ≤ 2147483647

version_by : (n : ℕ) (fits : Bool) → nat_le n 2147483647 ≡ fits → IfSome (cond fits (Some n) None) IsVersion
version_by n true is = grind (arith, is)
version_by n false is = tt

version_formed : (d : Data) → IfSome (version d) IsVersion
version_formed d = if_then_all IsVersion _ (option_and_then as_u64 (as_number d)) (λ n. version_by n _ refl)

is_version : (q : List ℕ) (d : Data) → IfSome (needed version q d) IsVersion
is_version q d = if_then_all IsVersion version (present q d) version_formed

protocol_steps : (d : Data) → Holds IsProtocol (protocol_of d)
protocol_steps d =
    keep IsVersion (needed version (codes "minReaderVersion") d) (is_version (codes "minReaderVersion") d) (λ reader r.
    keep IsVersion (needed version (codes "minWriterVersion") d) (is_version (codes "minWriterVersion") d) (λ writer w.
    pass (optional texts (codes "readerFeatures") d) (λ readers.
    pass (optional texts (codes "writerFeatures") d) (λ writers. done _ (record { reader = r; writer = w })))))

abbrev IsParquet : List ℕ → Type 0
IsParquet name = name ≡ codes "parquet"

parquet_by : (name : List ℕ) (same : Bool) → bytes_eq name (codes "parquet") ≡ same → IfSome (cond same (Some name) None) IsParquet
parquet_by name true is = (bytes_eq-Decides name (codes "parquet")).0 is
parquet_by name false is = tt

parquet_formed : (d : Data) → IfSome (parquet d) IsParquet
parquet_formed d = if_then_all IsParquet _ (as_str d) (λ name. parquet_by name _ refl)

any_parquet : (o : Option Data) → IfSome o (λ d. IfSome (parquet d) IsParquet)
any_parquet None = tt
any_parquet (Some d) = parquet_formed d

abbrev IfOrdered : {A : Type 0} → Option (List (List ℕ × A)) → Type 0
IfOrdered found = IfSome found AreOrdered

format_steps : (d : Data) → IsSorted d → Holds IsFormat (format_of d)
format_steps d h =
    pass (as_object d) (λ object.
    keep (λ found. IfSome found IsParquet) (maybe parquet (get (codes "provider") d)) (if_maybe IsParquet parquet (get (codes "provider") d) (any_parquet (get (codes "provider") d))) (λ provider p.
    keep IfOrdered (optional (pairs as_str) (codes "options") d) (optional_ordered as_str (codes "options") d h) (λ options o. done _ (record { provider = p; options = o }))))

format_formed : (d : Data) → IsSorted d → IfSome (format_of d) IsFormat
format_formed d h = (format_steps d h).it

metadata_steps : (d : Data) → IsSorted d → Holds IsMetadata (metadata_of d)
metadata_steps d h =
    pass (needed as_str (codes "id") d) (λ id.
    pass (optional as_str (codes "name") d) (λ name.
    pass (optional as_str (codes "description") d) (λ description.
    keep (λ found. IfSome found IsFormat) (optional format_of (codes "format") d) (optional_sorted IsFormat format_of (codes "format") d format_formed h) (λ format f.
    pass (needed as_str (codes "schemaString") d) (λ schema.
    pass (optional texts (codes "partitionColumns") d) (λ columns.
    keep IfOrdered (optional (pairs as_str) (codes "configuration") d) (optional_ordered as_str (codes "configuration") d h) (λ configuration c.
    pass (optional whole (codes "createdTime") d) (λ created. done _ (record { format = f; configuration = c })))))))))

abbrev HasOrderedAdd : AddAction → Type 0
HasOrderedAdd a = IfSome a.partition_values AreOrdered

add_steps : (d : Data) → IsSorted d → Holds HasOrderedAdd (add_of d)
add_steps d h =
    pass (needed as_str (codes "path") d) (λ path.
    keep IfOrdered (optional (pairs text_or_null) (codes "partitionValues") d) (optional_ordered text_or_null (codes "partitionValues") d h) (λ values v.
    pass (optional whole (codes "size") d) (λ size.
    pass (optional whole (codes "modificationTime") d) (λ time.
    pass (data_change_of d) (λ change.
    pass (optional as_str (codes "stats") d) (λ stats.
    pass (optional whole (codes "baseRowId") d) (λ base.
    pass (optional whole (codes "defaultRowCommitVersion") d) (λ since. done _ v))))))))

abbrev HasOrderedRemove : RemoveAction → Type 0
HasOrderedRemove r = IfSome r.partition_values AreOrdered

remove_steps : (d : Data) → IsSorted d → Holds HasOrderedRemove (remove_of d)
remove_steps d h =
    pass (needed as_str (codes "path") d) (λ path.
    pass (data_change_of d) (λ change.
    pass (optional whole (codes "deletionTimestamp") d) (λ time.
    pass (optional whole (codes "size") d) (λ size.
    pass (optional as_bool (codes "extendedFileMetadata") d) (λ extended.
    keep IfOrdered (optional (pairs text_or_null) (codes "partitionValues") d) (optional_ordered text_or_null (codes "partitionValues") d h) (λ values v.
    pass (optional whole (codes "baseRowId") d) (λ base.
    pass (optional whole (codes "defaultRowCommitVersion") d) (λ since. done _ v))))))))

abbrev HasOrderedCdc : CdcAction → Type 0
HasOrderedCdc c = IfSome c.partition_values AreOrdered

cdc_steps : (d : Data) → IsSorted d → Holds HasOrderedCdc (cdc_of d)
cdc_steps d h =
    pass (needed as_str (codes "path") d) (λ path.
    keep IfOrdered (optional (pairs text_or_null) (codes "partitionValues") d) (optional_ordered text_or_null (codes "partitionValues") d h) (λ values v.
    pass (optional whole (codes "size") d) (λ size. done _ v)))

domain_by : (d : DomainAction) (tracking : Bool) (mark : Option ℤ) → tracks d.domain d.removed ≡ tracking → mark_of d.configuration ≡ mark → IfSome (cond (tracking && not (is_some mark)) None (Some d)) IsDomain
domain_by d false mark is known = λ tracking. absurd (true≢false (sym tracking ∙ is))
domain_by d true None is known = tt
domain_by d true (Some mark) is known = λ tracking. ap is_some known

domain_steps : (d : Data) → Holds IsDomain (domain_of d)
domain_steps d =
    pass (needed as_str (codes "domain") d) (λ domain.
    pass (needed as_str (codes "configuration") d) (λ configuration.
    pass (optional as_bool (codes "removed") d) (λ removed. record { it = domain_by (record { domain = domain; configuration = configuration; removed = removed }) _ _ refl refl })))

action_formed : (name : List ℕ) (d : Data) → IsSorted d → IfSome (action_of name d) HasForm
unfolding action_of
action_formed name d h =
    if_cond HasForm (bytes_eq name (codes "protocol")) _ _ (if_map IsProtocol HasForm action.Protocol (protocol_of d) (λ p f. f) (protocol_steps d).it)
    (if_cond HasForm (bytes_eq name (codes "metaData")) _ _ (if_map IsMetadata HasForm action.Metadata (metadata_of d) (λ m f. f) (metadata_steps d h).it)
    (if_cond HasForm (bytes_eq name (codes "add")) _ _ (if_map HasOrderedAdd HasForm action.Add (add_of d) (λ a f. f) (add_steps d h).it)
    (if_cond HasForm (bytes_eq name (codes "remove")) _ _ (if_map HasOrderedRemove HasForm action.Remove (remove_of d) (λ r f. f) (remove_steps d h).it)
    (if_cond HasForm (bytes_eq name (codes "cdc")) _ _ (if_map HasOrderedCdc HasForm action.Cdc (cdc_of d) (λ c f. f) (cdc_steps d h).it)
    (if_cond HasForm (bytes_eq name (codes "domainMetadata")) _ _ (if_map IsDomain HasForm action.Domain (domain_of d) (λ x f. f) (domain_steps d).it)
    (if_cond HasForm (bytes_eq name (codes "commitInfo")) _ _ tt tt))))))

-- ---- a line

abbrev IsSortedMember : List ℕ × Data → Type 0
IsSortedMember m = IsSorted m.1

kept_member : (some : Bool) (k : List ℕ) (d : Data) (more : List (List ℕ × Data)) → IsSorted d → AllByRecursion IsSortedMember more → AllByRecursion IsSortedMember (cond some ((k, d) ∷ more) more)
kept_member true k d more h later = (h, later)
kept_member false k d more h later = later

some_members_sorted : (ms : Members) → AreSorted ms → AllByRecursion IsSortedMember (some_members ms)
some_members_sorted no_members h = tt
some_members_sorted (member k d ms) h = kept_member (is_some (unless_null d)) k d (some_members ms) h.0 (some_members_sorted ms h.2)

only_sorted : (ms : List (List ℕ × Data)) → AllByRecursion IsSortedMember ms → IfSome (only ms) IsSortedMember
only_sorted [] h = tt
only_sorted (m ∷ []) h = h.0
only_sorted (m ∷ n ∷ more) h = tt

object_action_formed : (d : Data) → IsSorted d → IfSome (object_action d) HasForm
object_action_formed d h =
    if_then IsSortedMember HasForm (λ m. action_of m.0 m.1) (only_member d)
    (if_then AreSorted IsSortedMember (λ ms. only (some_members ms)) (as_object d) (as_object_sorted d h) (λ ms s. only_sorted (some_members ms) (some_members_sorted ms s))) (λ m s. action_formed m.0 m.1 s)

line_formed : (line : List ℕ) → IfSome (line_of line) HasForm
line_formed line =
    if_then IsSorted HasForm object_action (value_of line) (if_cond IsSorted (is_utf8 line) (read line) None (if_known IsSorted (read line) (sorted-read line)) tt) object_action_formed

actions_formed : (line : List ℕ) → IfSome (actions_of line) (All HasForm)
actions_formed line =
    if_cond (All HasForm) (list_all is_space line) (Some []) _ (All-nil HasForm) (if_map HasForm (All HasForm) (λ a. a ∷ []) (line_of line) (λ a f. All-cons HasForm a [] f (All-nil HasForm)) (line_formed line))

-- ---- the lines

abbrev IfGood : Result (List Action) ℕ → Type 0
IfGood (Ok actions) = All HasForm actions
IfGood (Err line) = ⊤

then_formed : (done : List Action) (rest : Result (List Action) ℕ) → All HasForm done → IfGood rest → IfGood (then_more done rest)
then_formed done (Ok more) h k = All-append HasForm done more h k
then_formed done (Err line) h k = tt

with_formed : (n : ℕ) (known : Option (List Action)) (rest : Result (List Action) ℕ) → IfSome known (All HasForm) → IfGood rest → IfGood (with_line n known rest)
with_formed n None rest h k = tt
with_formed n (Some done) rest h k = then_formed done rest h k

from_formed : (n : ℕ) (ls : List (List ℕ)) → IfGood (actions_from n ls)
from_formed n [] = All-nil HasForm
from_formed n (line ∷ rest) = with_formed n (actions_of line) (actions_from (n + 1) rest) (actions_formed line) (from_formed (n + 1) rest)

pub read_formed : (ls : List (List ℕ)) (found : List Action) → actions_from 1 ls ≡ Ok found → All HasForm found
read_formed ls found is = subst IfGood is (from_formed 1 ls)
