-- The types of the columns of a schema text are well formed.
use Rattle.std.proofs.Common.{◌≡◌, ℕ, ℤ, List, [], ◌∷◌, ◌++◌, length, Bool, true, false, cond, Option, Some, None, option_map, Result, Ok, Err, refl, sym, ap, subst, arith}
use Rattle.std.specs.Prelude.{◌&&◌, nat_le, codes, is_some, unwrap_or, IfOk, IfSome}
use Rattle.std.specs.List.{All, AllByRecursion}
use Rattle.std.specs.Map.{lookup}
use Rattle.std.specs.Option.{option_or}
use Rattle.std.specs.Str.{bytes_eq}
use Rattle.std.proofs.lemmas.Bool.{and_parts, leb-true}
use Rattle.std.proofs.lemmas.List.Elements.{All-push}
use Rattle.serde_json.specs.Data.{Data, null, boolean, number, string, array, object, Items, no_items, item}
use Rattle.serde_json.specs.Find.{as_bool, as_str, get}
use Rattle.serde_json.specs.Read.{read}
use Rattle.dm_types.specs.Ranges.{IsWellFormed}
use Rattle.dm_types.specs.Then.{◌>>=◌}
use Rattle.dm_types.specs.declared.value.DataType.{DataType}
use Rattle.dm_types.specs.declared.value.DataType.TheVariants as kind
use Rattle.delta_actions.specs.Forms.{each_item, needed, present}
use Rattle.delta_schema.specs.Answers.{ReadsSchema}
use Rattle.delta_schema.specs.Columns.{answer, column_of, column_with, columns_of, described, fields_of, is_misplaced, names_of, of_types, schema_of, struct_columns, typed}
use Rattle.delta_schema.specs.Metadata.{generation_name, id_name, id_of, identity_of, invariant_name, kept, metadata_of, others_of, physical_name}
use Rattle.delta_schema.specs.Names.{are_good_names, is_among}
use Rattle.delta_schema.specs.Types.{decimal_of, decimal_type, halves, kind_of, parameters, plain_types, small_number, type_of}
use Rattle.delta_schema.specs.Writable.{IsColumnType}
use Rattle.delta_schema.specs.declared.fault.SchemaFault.{SchemaFault}
use Rattle.delta_schema.specs.declared.fault.SchemaFault.TheVariants as fault
use Rattle.delta_schema.specs.declared.schema.ColumnDef.{ColumnDef}
use Rattle.delta_schema.specs.declared.schema.IdentityRule.{IdentityRule}

-- what holds of each outcome of a step holds of what the step gives
through : {A B : Type 0} (P : B → Type 0) (known : Option A) (step : A → Option B) → ((a : A) → known ≡ Some a → (b : B) → step a ≡ Some b → P b) → (b : B) → (known >>= step) ≡ Some b → P b
through P None step each b is = absurd cc
through P (Some a) step each b is = each a refl b is

-- ---- a type by its name

decimal_formed : (precision scale : ℕ) (good : Bool) → (good ≡ true → IsColumnType (kind.Decimal precision scale)) → (k : DataType) → cond good (Some (kind.Decimal precision scale)) None ≡ Some k → IsColumnType k
decimal_formed precision scale true formed k is = let same : kind.Decimal precision scale ≡ k = cc in subst IsColumnType same (formed refl)
decimal_formed precision scale false formed k is = absurd cc

decimal_type_formed : (precision scale : ℕ) (k : DataType) → decimal_type precision scale ≡ Some k → IsColumnType k
decimal_type_formed precision scale k is = decimal_formed precision scale (nat_le 1 precision && nat_le precision 38 && nat_le scale precision) formed k is
  where
    formed : (nat_le 1 precision && nat_le precision 38 && nat_le scale precision) ≡ true → IsColumnType (kind.Decimal precision scale)
    formed good =
        let parts = and_parts (nat_le 1 precision && nat_le precision 38) (nat_le scale precision) good in
        let front = and_parts (nat_le 1 precision) (nat_le precision 38) parts.0 in
        (leb-true 1 precision front.0, leb-true precision 38 front.1, leb-true scale precision parts.1)

decimal_of_formed : (text : List ℕ) (k : DataType) → decimal_of text ≡ Some k → IsColumnType k
decimal_of_formed text =
    through IsColumnType (parameters text) (λ inner. halves inner >>= λ parts. small_number parts.0 >>= λ precision. small_number parts.1 >>= λ scale. decimal_type precision scale) (λ inner _.
    through IsColumnType (halves inner) (λ parts. small_number parts.0 >>= λ precision. small_number parts.1 >>= λ scale. decimal_type precision scale) (λ parts _.
    through IsColumnType (small_number parts.0) (λ precision. small_number parts.1 >>= λ scale. decimal_type precision scale) (λ precision _.
    through IsColumnType (small_number parts.1) (decimal_type precision) (λ scale _. decimal_type_formed precision scale))))

plain_formed : (test : List ℕ → Bool) (types : List (List ℕ × DataType)) → AllByRecursion (λ (type : List ℕ × DataType). IsColumnType type.1) types → (k : DataType) → lookup test types ≡ Some k → IsColumnType k
plain_formed test [] all k is = absurd cc
plain_formed test (type ∷ types) all k is = by (test type.0) (plain_formed test types all.1 k) is
  where
    by : (found : Bool) → (lookup test types ≡ Some k → IsColumnType k) → cond found (Some type.1) (lookup test types) ≡ Some k → IsColumnType k
    by true later here = let same : type.1 ≡ k = cc in subst IsColumnType same all.0
    by false later there = later there

either_formed : (first second : Option DataType) → ((k : DataType) → first ≡ Some k → IsColumnType k) → ((k : DataType) → second ≡ Some k → IsColumnType k) → (k : DataType) → option_or first second ≡ Some k → IsColumnType k
either_formed None second one other k is = other k is
either_formed (Some first) second one other k is = one k is

pub kind_formed : (text : List ℕ) (k : DataType) → kind_of text ≡ Some k → IsColumnType k
unfolding kind_of
kind_formed text = either_formed (lookup (bytes_eq text) plain_types) (decimal_of text) (plain_formed (bytes_eq text) plain_types (tt, (tt, (tt, (tt, (tt, (tt, (tt, (tt, (tt, tt)))))))))) (decimal_of_formed text)

type_well_formed : (k : DataType) → IsColumnType k → IsWellFormed k
type_well_formed kind.Void h = absurd h
type_well_formed kind.Boolean h = tt
type_well_formed kind.Byte h = tt
type_well_formed kind.Short h = tt
type_well_formed kind.Integer h = tt
type_well_formed kind.Long h = tt
type_well_formed (kind.Decimal precision scale) h = h
type_well_formed kind.Str h = tt
type_well_formed kind.Binary h = tt
type_well_formed kind.Date h = tt
type_well_formed kind.Timestamp h = tt

-- a type that a column may have is well formed
type_formed : (d : Data) (type : Option DataType) → type_of d ≡ Some type → IfSome type IsWellFormed
type_formed null type is = absurd cc
type_formed (boolean b) type is = absurd cc
type_formed (number n) type is = absurd cc
type_formed (string s) None is = tt
type_formed (string s) (Some k) is = type_well_formed k (kind_formed s k (cc))
type_formed (array ds) type is = absurd cc
type_formed (object ms) None is = tt
type_formed (object ms) (Some k) is = absurd cc

-- ---- a column

made_kind : (made column : ColumnDef) → Some made ≡ Some column → column.kind ≡ made.kind
made_kind made column is = let same : made ≡ column = cc in sym (ap (λ (c : ColumnDef). c.kind) same)

-- the column of a field, from its members
kind_with : (test : List ℕ → Bool) (metadata : Data) (k : DataType) (column : ColumnDef) (name : Option (List ℕ)) (nullable : Option Bool) (id : Option (Option ℤ)) (physical generation : Option (Option (List ℕ))) (identity : Option (Option IdentityRule))
    → (name >>= λ name. nullable >>= λ nullable. id >>= λ id. physical >>= λ physical. generation >>= λ generation. identity >>= λ identity. Some (record {
      name = name;
      kind = k;
      nullable = nullable;
      partition = test name;
      id = id;
      physical = physical;
      generation = generation;
      identity = identity;
      invariant = is_some (get invariant_name metadata);
      other = others_of (is_some identity) metadata;
    })) ≡ Some column → column.kind ≡ k
kind_with test metadata k column (Some name) (Some nullable) (Some id) (Some physical) (Some generation) (Some identity) is = made_kind _ column is
kind_with test metadata k column name nullable id physical generation identity is = absurd cc

described_kind : (test : List ℕ → Bool) (field metadata : Data) (k : DataType) (column : ColumnDef) → described test field metadata k ≡ Some column → column.kind ≡ k
unfolding described
described_kind test field metadata k column is =
    kind_with test metadata k column (needed as_str (codes "name") field) (needed as_bool (codes "nullable") field) (kept id_of id_name metadata) (kept as_str physical_name metadata) (kept as_str generation_name metadata) (identity_of metadata) is

-- a column that is there is of a well-formed type
abbrev IsFormed : Result ColumnDef (List ℕ) → Type 0
IsFormed found = IfOk found (λ column. IsWellFormed column.kind)

placed : (type : Option DataType) (column : ColumnDef) (misplaced : Bool) (found : Result ColumnDef (List ℕ)) → IfSome type IsWellFormed → column.kind ≡ unwrap_or type kind.Void
    → cond misplaced None (Some (cond (is_some type) (Ok column) (Err column.name))) ≡ Some found → IsFormed found
placed type column true found formed at is = absurd cc
placed None column false found formed at is = let same : ◌≡◌ {A = Result ColumnDef (List ℕ)} (Err column.name) found = cc in subst IsFormed same tt
placed (Some k) column false found formed at is = let same : ◌≡◌ {A = Result ColumnDef (List ℕ)} (Ok column) found = cc in subst IsFormed same (subst IsWellFormed (sym at) formed)

field_formed : (field : Data) (type : Option DataType) → needed type_of (codes "type") field ≡ Some type → IfSome type IsWellFormed
field_formed field = through (λ type. IfSome type IsWellFormed) (present (codes "type") field) type_of (λ d _. type_formed d)

column_with_formed : (test : List ℕ → Bool) (field metadata : Data) (found : Result ColumnDef (List ℕ)) → column_with test field metadata ≡ Some found → IsFormed found
column_with_formed test field metadata =
    through IsFormed (needed type_of (codes "type") field) (λ type. described test field metadata (unwrap_or type kind.Void) >>= λ column.
    cond (is_misplaced type column.partition (is_some column.identity)) None (Some (cond (is_some type) (Ok column) (Err column.name)))) (λ type typed_as.
    through IsFormed (described test field metadata (unwrap_or type kind.Void)) (λ column.
    cond (is_misplaced type column.partition (is_some column.identity)) None (Some (cond (is_some type) (Ok column) (Err column.name)))) (λ column is found.
    placed type column (is_misplaced type column.partition (is_some column.identity)) found (field_formed field type typed_as) (described_kind test field metadata (unwrap_or type kind.Void) column is)))

column_formed : (test : List ℕ → Bool) (field : Data) (found : Result ColumnDef (List ℕ)) → column_of test field ≡ Some found → IsFormed found
unfolding column_of
column_formed test field = through IsFormed (metadata_of field) (column_with test field) (λ metadata _. column_with_formed test field metadata)

-- ---- all columns

joined : {A : Type 0} (P : A → Type 0) (a : A) (more : Option (List A)) → P a → ((rest : List A) → more ≡ Some rest → AllByRecursion P rest) → (all : List A) → option_map (λ rest. a ∷ rest) more ≡ Some all → AllByRecursion P all
joined P a None here later all is = absurd cc
joined P a (Some rest) here later all is = let same : a ∷ rest ≡ all = cc in subst (AllByRecursion P) same (here, later rest refl)

each_formed : {A : Type 0} (P : A → Type 0) (form : Data → Option A) → ((d : Data) (a : A) → form d ≡ Some a → P a) → (ds : Items) (all : List A) → each_item form ds ≡ Some all → AllByRecursion P all
each_formed P form one no_items all is = let same : [] ≡ all = cc in subst (AllByRecursion P) same tt
each_formed P form one (item d ds) all is =
    through (AllByRecursion P) (form d) (λ a. option_map (λ more. a ∷ more) (each_item form ds)) (λ a at. joined P a (each_item form ds) (one d a at) (each_formed P form one ds)) all is

chosen : {A : Type 0} (P : A → Type 0) (good : Bool) (known : Option A) → ((a : A) → known ≡ Some a → P a) → (a : A) → cond good known None ≡ Some a → P a
chosen P true known each a is = each a is
chosen P false known each a is = absurd cc

struct_formed : (partitions : List (List ℕ)) (d : Data) (all : List (Result ColumnDef (List ℕ))) → struct_columns partitions d ≡ Some all → AllByRecursion IsFormed all
struct_formed partitions d =
    through (AllByRecursion IsFormed) (fields_of d) (λ fields. names_of fields >>= λ names. cond (are_good_names names partitions) (each_item (column_of (is_among partitions)) fields) None) (λ fields _.
    through (AllByRecursion IsFormed) (names_of fields) (λ names. cond (are_good_names names partitions) (each_item (column_of (is_among partitions)) fields) None) (λ names _.
    chosen (AllByRecursion IsFormed) (are_good_names names partitions) (each_item (column_of (is_among partitions)) fields) (each_formed IsFormed (column_of (is_among partitions)) (column_formed (is_among partitions)) fields)))

columns_formed : (text : List ℕ) (partitions : List (List ℕ)) (all : List (Result ColumnDef (List ℕ))) → columns_of text partitions ≡ Some all → AllByRecursion IsFormed all
columns_formed text partitions = through (AllByRecursion IsFormed) (read text) (struct_columns partitions) (λ d _. struct_formed partitions d)

abbrev AreFormed : List ColumnDef → Type 0
AreFormed columns = All (λ column. IsWellFormed column.kind) columns

typed_formed : (before : List ColumnDef) (found : List (Result ColumnDef (List ℕ))) (columns : List ColumnDef) → AreFormed before → AllByRecursion IsFormed found → typed before found ≡ Ok columns → AreFormed columns
unfolding typed
typed_formed before [] columns front each is = let same : before ≡ columns = cc in subst AreFormed same front
typed_formed before (Ok column ∷ more) columns front each is =
    typed_formed (before ++ column ∷ []) more columns (All-push (λ (column : ColumnDef). IsWellFormed column.kind) before column front each.0) each.1 is
typed_formed before (Err name ∷ more) columns front each is = absurd cc

few_formed : (known : Result (List ColumnDef) (List ℕ)) (columns : List ColumnDef) → ((all : List ColumnDef) → known ≡ Ok all → AreFormed all) → of_types known ≡ Ok columns → AreFormed columns
few_formed (Ok all) columns each is = by (nat_le (length all) 500) is
  where
    by : (few : Bool) → cond few (Ok all) (Err fault.TooMany) ≡ Ok columns → AreFormed columns
    by true e = let same : all ≡ columns = cc in subst AreFormed same (each all refl)
    by false e = absurd cc
few_formed (Err name) columns each is = absurd cc

none_formed : AreFormed []
none_formed = λ k d low. absurd (omega arith)

answer_formed : (known : Option (List (Result ColumnDef (List ℕ)))) (columns : List ColumnDef) → ((all : List (Result ColumnDef (List ℕ))) → known ≡ Some all → AllByRecursion IsFormed all) → answer known ≡ Ok columns → AreFormed columns
answer_formed None columns each is = absurd cc
answer_formed (Some all) columns each is = few_formed (typed [] all) columns (λ found typed_as. typed_formed [] all found none_formed (each all refl) typed_as) is

-- the columns of a schema text
pub schema_formed : (text : List ℕ) (partitions : List (List ℕ)) (result : Result (List ColumnDef) SchemaFault) → ReadsSchema (schema_of text partitions) result → IfOk result AreFormed
schema_formed text partitions (Ok columns) is = answer_formed (columns_of text partitions) columns (columns_formed text partitions) is
schema_formed text partitions (Err f) is = tt
