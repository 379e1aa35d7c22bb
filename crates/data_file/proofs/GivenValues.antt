-- Partition values, column after column.
use Rattle.std.proofs.Common.{◌≡◌, ℕ, ◌+◌, ◌*◌, ◌<◌, ◌≤◌, ◌⊎◌, inl, inr, Bool, true, cond, List, [], ◌∷◌, ◌++◌, Option, Some, None, Ok, Err, length, get_or, drop, slice_get, refl, sym, ap, ◌∙◌, subst, length-append, arith}
use Rattle.std.specs.Prelude.{IfSome}
use Rattle.std.proofs.Math.ListN.{get_or-append}
use Rattle.std.proofs.Math.Nat.{eq-or-lt_of_le}
use Rattle.std.proofs.lemmas.List.{get_or_push}
use Rattle.std.proofs.lemmas.Option.{get_or_from_slice_get, slice_get-get_or, slice_get_within}
use Rattle.delta_schema.specs.declared.schema.ColumnDef.{ColumnDef}
use Rattle.column_mapping.specs.declared.mode.Mode.{Mode}
use Rattle.dm_text.specs.Reading.{text_value}
use Rattle.dm_types.specs.Ranges.{IsNullOrInRange}
use Rattle.dm_types.specs.Then.{go}
use Rattle.dm_types.specs.declared.value.Value.{Value}
use Rattle.data_file.specs.Partitions.{Given, constant_of, constants_from, key_of, printed_size, text_behind, text_under, value_of}
use Rattle.data_file.specs.Room.{less, or_else}
use Rattle.dm_types.specs.declared.refusal.Counted.TheVariants as counted
use Rattle.data_file.specs.declared.fault.PartFault.TheVariants as fault
use Rattle.data_file.proofs.Begun.{next_of, none_left}

-- the value of a text that isn't empty
pub value_of-text : (column : ColumnDef) (text : List ℕ) → (text ≡ [] → ⊥) → value_of column text ≡ text_value column.kind text
value_of-text column [] some = absurd (some refl)
value_of-text column (b ∷ bytes) some = refl

-- the next column
pub constants-next : (mode : Mode) (values : Given) (columns : List ColumnDef) (at : ℕ) (column : ColumnDef) (found : List (Option Value)) → at < length columns → column ≡ get_or columns at column → length found ≡ at
    → constants_from mode values (drop at columns) found ≡ go (constant_of mode values at column) (λ one. constants_from mode values (drop (at + 1) columns) (found ++ one ∷ []))
unfolding constants_from
constants-next mode values columns at column found inside is counted =
    ap (λ (rest : List ColumnDef). constants_from mode values rest found) (next_of at columns column inside is)
    ∙ ap (λ (n : ℕ). go (constant_of mode values n column) (λ one. constants_from mode values (drop (at + 1) columns) (found ++ one ∷ []))) counted

pub constants-last : (mode : Mode) (values : Given) (columns : List ColumnDef) (at : ℕ) (found : List (Option Value)) → length columns ≤ at → constants_from mode values (drop at columns) found ≡ Ok found
unfolding constants_from
constants-last mode values columns at found past = ap (λ (rest : List ColumnDef). constants_from mode values rest found) (none_left at columns past)

pub text-next : (rows : ℕ) (constants : List (Option Value)) (at : ℕ) (constant : Option Value) (left : ℕ) → at < length constants → constant ≡ get_or constants at constant
    → text_behind rows (drop at constants) left ≡ go (less counted.TextBytes (printed_size constant * rows) left) (λ left. text_behind rows (drop (at + 1) constants) left)
unfolding text_behind
text-next rows constants at constant left inside is = ap (λ (rest : List (Option Value)). text_behind rows rest left) (next_of at constants constant inside is)

pub text-last : (rows : ℕ) (constants : List (Option Value)) (at left : ℕ) → length constants ≤ at → text_behind rows (drop at constants) left ≡ Ok left
unfolding text_behind
text-last rows constants at left past = ap (λ (rest : List (Option Value)). text_behind rows rest left) (none_left at constants past)

-- ---- what is known of the values

abbrev pub Each : List ColumnDef → List (Option Value) → Type 0
Each columns found = (at : ℕ) (column : ColumnDef) (v : Value) → slice_get columns at ≡ Some column → slice_get found at ≡ Some (Some v) → IsNullOrInRange column.kind v

each_old : (columns : List ColumnDef) (found : List (Option Value)) (one : Option Value) → Each columns found
    → (k : ℕ) (c : ColumnDef) (v : Value) → k < length found → slice_get columns k ≡ Some c → get_or (found ++ one ∷ []) k (Some v) ≡ Some v → IsNullOrInRange c.kind v
each_old columns found one each k c v below here is =
    let same : get_or found k (Some v) ≡ Some v = sym (get_or-append found (one ∷ []) (Some v) k below) ∙ is in
    each k c v here (slice_get-get_or found k (Some v) below ∙ ap Some same)

each_new : (columns : List ColumnDef) (found : List (Option Value)) (at : ℕ) (column : ColumnDef) (one : Option Value) → length found ≡ at → at < length columns → column ≡ get_or columns at column → IfSome one (IsNullOrInRange column.kind)
    → (c : ColumnDef) (v : Value) → slice_get columns at ≡ Some c → get_or (found ++ one ∷ []) at (Some v) ≡ Some v → IsNullOrInRange c.kind v
each_new columns found at column one counted inside is range c v here told =
    let value : one ≡ Some v = sym (get_or_push found one (Some v) at counted) ∙ told in
    let same : column ≡ c = is ∙ get_or_from_slice_get columns at c column here in
    let P : Option Value → Type 0 = λ o. IfSome o (IsNullOrInRange column.kind) in
    let Q : ColumnDef → Type 0 = λ d. IsNullOrInRange d.kind v in
    subst Q same (subst P value range)

each_by : (columns : List ColumnDef) (found : List (Option Value)) (at : ℕ) (column : ColumnDef) (one : Option Value) → length found ≡ at → at < length columns → column ≡ get_or columns at column → IfSome one (IsNullOrInRange column.kind) → Each columns found
    → (k : ℕ) (c : ColumnDef) (v : Value) → (k ≡ at) ⊎ (k < at) → slice_get columns k ≡ Some c → get_or (found ++ one ∷ []) k (Some v) ≡ Some v → IsNullOrInRange c.kind v
each_by columns found at column one counted inside is range each k c v (inl same) here told =
    each_new columns found at column one counted inside is range c v (subst (λ (n : ℕ). slice_get columns n ≡ Some c) same here) (subst (λ (n : ℕ). get_or (found ++ one ∷ []) n (Some v) ≡ Some v) same told)
each_by columns found at column one counted inside is range each k c v (inr below) here told =
    each_old columns found one each k c v (omega (arith, counted, below)) here told

pub each-more : (columns : List ColumnDef) (found : List (Option Value)) (at : ℕ) (column : ColumnDef) (one : Option Value) → length found ≡ at → at < length columns → column ≡ get_or columns at column → IfSome one (IsNullOrInRange column.kind) → Each columns found → Each columns (found ++ one ∷ [])
each-more columns found at column one counted inside is range each = λ k c v here told.
    let within = slice_get_within (found ++ one ∷ []) k (Some v) told in
    let long : length (found ++ one ∷ []) ≡ length found + 1 = length-append found (one ∷ []) in
    each_by columns found at column one counted inside is range each k c v (eq-or-lt_of_le (omega (arith, within, long, counted))) here (get_or_from_slice_get (found ++ one ∷ []) k (Some v) (Some v) told)

pub each-none : (columns : List ColumnDef) → Each columns []
each-none columns = λ k c v here told. absurd (omega (arith, slice_get_within {A = Option Value} [] k (Some v) told))

-- ---- one value

parted : (known : Option Value) (at : ℕ) (column : ColumnDef) (mode : Mode) (values : Given) (text : List ℕ) → column.partition ≡ true → text ≡ text_under values (key_of mode column) → value_of column text ≡ known
    → constant_of mode values at column ≡ go (or_else (fault.Partition at) known) (λ v. Ok (Some v))
parted known at column mode values text parted_is same is =
    ap (λ (b : Bool). cond b (go (or_else (fault.Partition at) (value_of column (text_under values (key_of mode column)))) (λ v. Ok (Some v))) (Ok None)) parted_is
    ∙ ap (λ (t : List ℕ). go (or_else (fault.Partition at) (value_of column t)) (λ v. Ok (Some v))) (sym same)
    ∙ ap (λ (o : Option Value). go (or_else (fault.Partition at) o) (λ v. Ok (Some v))) is

pub constant-ok : (at : ℕ) (column : ColumnDef) (mode : Mode) (values : Given) (text : List ℕ) (v : Value) → column.partition ≡ true → text ≡ text_under values (key_of mode column) → value_of column text ≡ Some v
    → constant_of mode values at column ≡ Ok (Some v)
constant-ok at column mode values text v parted_is same is = parted (Some v) at column mode values text parted_is same is

pub constant-bad : (at : ℕ) (column : ColumnDef) (mode : Mode) (values : Given) (text : List ℕ) → column.partition ≡ true → text ≡ text_under values (key_of mode column) → value_of column text ≡ None
    → constant_of mode values at column ≡ Err (fault.Partition at)
constant-bad at column mode values text parted_is same is = parted None at column mode values text parted_is same is
