-- Entries that went into the column, one after the other.
use Rattle.std.proofs.Common.{◌≡◌, ℕ, suc, ◌+◌, ◌-◌, ◌<◌, ◌≤◌, List, [], ◌∷◌, ◌++◌, length, take, ◌⊎◌, inl, inr, Option, Some, None, Ok, Err, Result, Bool, true, false, refl, sym, ap, ◌∙◌, subst, arith, append_assoc}
use Rattle.std.specs.Prelude.{map, nat_le, option_map, slice_get, slice_index, not, ◌==◌, IfSome}
use Rattle.std.specs.List.{range_with_len}
use Rattle.std.proofs.lemmas.List.{append-nil}
use Rattle.std.proofs.lemmas.List.Sums.{sum_by-append}
use Rattle.std.proofs.lemmas.List.FromFn.{map-range_with_len_more, get_or-range_with_len, length-range_with_len}
use Rattle.std.proofs.lemmas.Option.{slice_get-map, slice_get_read}
use Rattle.dm_types.specs.Then.{◌>>=◌}
use Rattle.dm_types.specs.declared.value.DataType.{DataType}
use Rattle.dm_types.specs.declared.value.Value.{Value}
use Rattle.parquet_pages.specs.Entries.{Page, full, entry_at, all_told}
use Rattle.parquet_pages.specs.Kept.{grown, grown_by, with_more, text_size, text_bytes, IsReading, IsKeptOf}
use Rattle.parquet_pages.specs.Pages.{Answer, Wanted, or_else, entry_value, column_values}
use Rattle.parquet_pages.specs.Physical.{Physical}
use Rattle.parquet_pages.specs.Places.{entry_with, value_at}
use Rattle.parquet_pages.specs.Taking.{GoesInto, OneGoesInto}
use Rattle.parquet_meta.specs.declared.metadata.LeafSchema.{LeafSchema}
use Rattle.parquet_pages.specs.Views.{chosen, wanted}
use Rattle.parquet_pages.specs.declared.fault.FileFault.{FileFault}
use Rattle.parquet_pages.specs.declared.fault.FileFault.TheVariants as fault
use Rattle.parquet_pages.specs.declared.kept.KeptColumn.{KeptColumn}
use Rattle.parquet_pages.specs.declared.kept.Reading.{Reading}
use Rattle.parquet_pages.specs.declared.values.Order.{Order}
use Rattle.parquet_pages.specs.declared.values.Order.TheVariants as order
use Rattle.parquet_pages.proofs.FullLevels.{full-more, one_if}
use Rattle.parquet_pages.proofs.Looked.{told_get, told_missing, told_more, told_nothing}

-- ---- what is kept

pub text_size-append : (a b : List Value) → text_size (a ++ b) ≡ text_size a + text_size b
text_size-append a b = sum_by-append text_bytes a b

kept_by : (a b : List Value) (it : KeptColumn) (first second : Bool) → nat_le (text_size a) it.text_left ≡ first → nat_le (text_size b) (it.text_left - text_size a) ≡ second → grown_by (a ++ b) it ≡ (grown_by a it >>= grown_by b)
kept_by a b it true true one two =
    let sum = text_size-append a b in
    let all : nat_le (text_size (a ++ b)) it.text_left ≡ true = grind arith in
    let joined : it.column.values ++ (a ++ b) ≡ it.column.values ++ a ++ b = sym (append_assoc it.column.values a b) in
    let left : it.text_left - text_size (a ++ b) ≡ it.text_left - text_size a - text_size b = omega (arith, sum) in
    rw (all, one, two, joined, left) refl
kept_by a b it true false one two =
    let sum = text_size-append a b in
    let all : nat_le (text_size (a ++ b)) it.text_left ≡ false = grind arith in
    rw (all, one, two) refl
kept_by a b it false second one two =
    let sum = text_size-append a b in
    let all : nat_le (text_size (a ++ b)) it.text_left ≡ false = grind arith in
    rw (all, one) refl

pub grown-append : (a b : List Value) (kept : Option KeptColumn) → grown (a ++ b) kept ≡ grown b (grown a kept)
grown-append a b None = refl
grown-append a b (Some it) = kept_by a b it (nat_le (text_size a) it.text_left) (nat_le (text_size b) (it.text_left - text_size a)) refl refl

pub with_more-append : (a b : List Value) (reading : Reading) → with_more (a ++ b) reading ≡ with_more b (with_more a reading)
with_more-append a b reading = ap (λ (kept : Option KeptColumn). record { kind = reading.kind; nullable = reading.nullable; kept = kept }) (grown-append a b reading.kept)

kept_is : (values : List Value) (it : KeptColumn) (enough : Bool) → nat_le (text_size values) it.text_left ≡ enough → IfSome (grown_by values it) (λ new. new.column.kind ≡ it.column.kind)
kept_is values it true is = rw is refl
kept_is values it false is = rw is tt

kept_kind : (values : List Value) (k : DataType) (kept : Option KeptColumn) → IsKeptOf k kept → IsKeptOf k (grown values kept)
kept_kind values k None is = tt
kept_kind values k (Some it) is = subst (λ j. IfSome (grown_by values it) (λ new. new.column.kind ≡ j)) is (kept_is values it (nat_le (text_size values) it.text_left) refl)

pub reading_kept : (values : List Value) (reading : Reading) → IsReading reading → IsReading (with_more values reading)
reading_kept values reading is = (is.0, kept_kind values reading.kind reading.kept is.1)

none_by : (kept : Option KeptColumn) → grown [] kept ≡ kept
none_by None = refl
none_by (Some it) = grind (arith, append-nil)

pub with_none : (reading : Reading) → with_more [] reading ≡ reading
with_none reading = ap (λ (kept : Option KeptColumn). record { kind = reading.kind; nullable = reading.nullable; kept = kept }) (none_by reading.kept)

-- ---- an entry

-- one value that went into the column
pub record TookOne (known : Option Value) (old new : Reading) : Type 0 where
  pub found : Value
  pub is : known ≡ Some found
  pub grows : new ≡ with_more (found ∷ []) old

pub took_one : {U : Type 0} (known : Option Value) (old new : Reading) (done : U) → OneGoesInto known old new (Ok done) → TookOne known old new
took_one None old new done is = absurd cc
took_one (Some v) old new done is = record { found = v; is = refl; grows = cc }

-- the value that its place has
pub chosen_at : (values named : List Physical) (found : Order) (at : ℕ) → chosen values found ≡ Some named → value_at values found at ≡ slice_get named at
chosen_at values named order.InTurn at is = let e : values ≡ named = cc in rw e refl
chosen_at values named (order.ByPlace places) at is = told_get (slice_get values) places named at is

entry_by : (values named : List Physical) (found : Order) (levels : List ℕ) (at : ℕ) (null : Bool) → chosen values found ≡ Some named → (slice_index levels at == 0) ≡ null
    → entry_with levels values found at (full (take at levels)) ≡ entry_at (record { levels = levels; values = named }) at
entry_by values named found levels at true is level = rw level refl
entry_by values named found levels at false is level = rw level (chosen_at values named found (full (take at levels)) is)

pub entry_is : (values named : List Physical) (found : Order) (levels : List ℕ) (at before : ℕ) → chosen values found ≡ Some named → before ≡ full (take at levels)
    → entry_with levels values found at before ≡ entry_at (record { levels = levels; values = named }) at
entry_is values named found levels at before is counted =
    rw counted (entry_by values named found levels at (slice_index levels at == 0) is refl)

-- ---- the first entries of a page

abbrev pub first_values : Wanted → Page Physical → ℕ → List (Option Value)
first_values wanted page count = map (entry_value wanted) (map (entry_at page) (range_with_len 0 count))

pub record Taken (wanted : Wanted) (page : Page Physical) (count : ℕ) (old new : Reading) : Type 0 where
  pub values : List Value
  pub told : all_told (first_values wanted page count) ≡ Some values
  pub grows : new ≡ with_more values old

pub none_taken : (wanted : Wanted) (page : Page Physical) (old : Reading) → Taken wanted page 0 old old
none_taken wanted page old = record { values = []; told = told_nothing; grows = sym (with_none old) }

map_more : {A B : Type 0} (f : A → B) (xs : List A) (x : A) → map f (xs ++ x ∷ []) ≡ map f xs ++ f x ∷ []
map_more f [] x = refl
map_more f (y ∷ xs) x = ap (λ ys. f y ∷ ys) (map_more f xs x)

first_more : (wanted : Wanted) (page : Page Physical) (count : ℕ) → first_values wanted page (count + 1) ≡ first_values wanted page count ++ entry_value wanted (entry_at page count) ∷ []
first_more wanted page count =
    ap (map (entry_value wanted)) (map-range_with_len_more (entry_at page) 0 count count (omega arith))
    ∙ map_more (entry_value wanted) (map (entry_at page) (range_with_len 0 count)) (entry_at page count)

pub one_taken : (wanted : Wanted) (page : Page Physical) (count : ℕ) (old middle new : Reading) (found : Value) → Taken wanted page count old middle → entry_value wanted (entry_at page count) ≡ Some found → new ≡ with_more (found ∷ []) middle
    → Taken wanted page (count + 1) old new
one_taken wanted page count old middle new found taken is grows = record {
  values = taken.values ++ found ∷ [];
  told = ap all_told (first_more wanted page count ∙ ap (λ o. first_values wanted page count ++ o ∷ []) is) ∙ told_more (first_values wanted page count) taken.values found taken.told;
  grows = grows ∙ ap (with_more (found ∷ [])) taken.grows ∙ sym (with_more-append taken.values (found ∷ []) old);
}

-- all entries of a page
pub all_taken : {U : Type 0} (wanted : Wanted) (page : Page Physical) (old new : Reading) (done : U) → Taken wanted page (length page.levels) old new → GoesInto (or_else fault.Range (column_values wanted page)) old new (Ok done)
all_taken wanted page old new done taken = rw (taken.told, taken.grows) refl

-- an entry that has no value
first_at : (wanted : Wanted) (page : Page Physical) (count k : ℕ) → k < count → entry_value wanted (entry_at page k) ≡ None → slice_get (first_values wanted page count) k ≡ Some None
first_at wanted page count k less none =
    slice_get-map (entry_value wanted) (map (entry_at page) (range_with_len 0 count)) k
    ∙ ap (option_map (entry_value wanted)) (slice_get-map (entry_at page) (range_with_len 0 count) k ∙ ap (option_map (entry_at page)) (slice_get_read (range_with_len 0 count) count k k (sym (length-range_with_len 0 count)) less (let e = get_or-range_with_len 0 count k k less in omega (arith, e))))
    ∙ ap Some none

pub entry_missing : (wanted : Wanted) (page : Page Physical) (k : ℕ) → k < length page.levels → entry_value wanted (entry_at page k) ≡ None → or_else fault.Range (column_values wanted page) ≡ Err fault.Range
entry_missing wanted page k less none = ap (or_else fault.Range) (told_missing (first_values wanted page (length page.levels)) k (first_at wanted page (length page.levels) k less none))

-- ---- the loop

-- so many entries went into the column, so many of them full
pub record Running (leaf : LeafSchema) (levels : List ℕ) (values : List Physical) (found : Order) (at before : ℕ) (old new : Reading) : Type 0 where
  pub is : IsReading new
  pub kind : new.kind ≡ old.kind
  pub nullable : new.nullable ≡ old.nullable
  pub counted : before ≡ full (take at levels)
  pub few : before ≤ at
  pub taken : (named : List Physical) → chosen values found ≡ Some named → Taken (wanted old leaf) (record { levels = levels; values = named }) at old new

pub running_begins : (leaf : LeafSchema) (levels : List ℕ) (values : List Physical) (found : Order) (old : Reading) → IsReading old → Running leaf levels values found 0 0 old old
running_begins leaf levels values found old is = record {
  is = is;
  kind = refl;
  nullable = refl;
  counted = refl;
  few = omega arith;
  taken = λ named known. none_taken (wanted old leaf) (record { levels = levels; values = named }) old;
}

pub same_wanted : (leaf : LeafSchema) (old new : Reading) → new.kind ≡ old.kind → new.nullable ≡ old.nullable → wanted new leaf ≡ wanted old leaf
same_wanted leaf old new kind nullable = rw (kind, nullable) refl

one_few : (b : Bool) → one_if b ≤ 1
one_few true = omega arith
one_few false = omega arith

pub running_on : {U : Type 0} (leaf : LeafSchema) (levels : List ℕ) (values : List Physical) (found : Order) (at before one : ℕ) (entry : Option Physical) (old middle new : Reading) (done : U) → Running leaf levels values found at before old middle
    → at < length levels → entry ≡ entry_with levels values found at before → one ≡ one_if (not (slice_index levels at == 0)) → OneGoesInto (entry_value (wanted middle leaf) entry) middle new (Ok done)
    → Running leaf levels values found (at + 1) (before + one) old new
running_on leaf levels values found at before one entry old middle new done running less is counted takes =
    let took = took_one (entry_value (wanted middle leaf) entry) middle new done takes in
    record {
      is = rw took.grows (reading_kept (took.found ∷ []) middle running.is);
      kind = rw took.grows running.kind;
      nullable = rw took.grows running.nullable;
      counted = let more = full-more levels at less in let e : suc at ≡ at + 1 = omega arith in let c = running.counted in omega (arith, rw e at more, c, counted);
      few = let few = running.few in let o = one_few (not (slice_index levels at == 0)) in omega (arith, counted, few, o);
      taken = λ named known.
          let same : entry ≡ entry_at (record { levels = levels; values = named }) at = is ∙ entry_is values named found levels at before known running.counted in
          let value : entry_value (wanted old leaf) (entry_at (record { levels = levels; values = named }) at) ≡ Some took.found =
          ap (entry_value (wanted old leaf)) (sym same) ∙ ap (λ (w : Wanted). entry_value w entry) (sym (same_wanted leaf old middle running.kind running.nullable)) ∙ took.is in
          one_taken (wanted old leaf) (record { levels = levels; values = named }) at old middle new took.found (running.taken named known) value took.grows;
    }

-- a value that isn't there
pub one_fails : (U : Type 0) (known : Option Value) (old new : Reading) (f : FileFault) → OneGoesInto {U = U} known old new (Err f) → (f ≡ fault.Memory) ⊎ ((known ≡ None) × (f ≡ fault.Range))
one_fails U known old new fault.Memory is = inl refl
one_fails U None old new fault.Range is = inr (refl, refl)
one_fails U None old new fault.BadParquet is = absurd cc
one_fails U None old new fault.Compressed is = absurd cc
one_fails U None old new fault.Encoding is = absurd cc
one_fails U None old new fault.Mismatch is = absurd cc
one_fails U None old new fault.TextLimit is = absurd cc
one_fails U (Some v) old new fault.Range is = absurd cc
one_fails U (Some v) old new fault.BadParquet is = absurd cc
one_fails U (Some v) old new fault.Compressed is = absurd cc
one_fails U (Some v) old new fault.Encoding is = absurd cc
one_fails U (Some v) old new fault.Mismatch is = absurd cc
one_fails U (Some v) old new fault.TextLimit is = absurd cc

fails_so : (U : Type 0) (known : Answer (List Value)) (old new : Reading) (f : FileFault) → (f ≡ fault.Memory) ⊎ ((known ≡ Err fault.Range) × (f ≡ fault.Range)) → GoesInto {U = U} known old new (Err f)
fails_so U known old new f (inl is) = rw is tt
fails_so U known old new f (inr is) = rw (is.1, is.0) refl

pub running_fails : {U : Type 0} (leaf : LeafSchema) (levels : List ℕ) (values : List Physical) (found : Order) (at before : ℕ) (entry : Option Physical) (old middle new : Reading) (f : FileFault) (result : Result U FileFault) → Running leaf levels values found at before old middle
    → at < length levels → entry ≡ entry_with levels values found at before → OneGoesInto {U = U} (entry_value (wanted middle leaf) entry) middle new (Err f) → result ≡ Err f
    → (named : List Physical) → chosen values found ≡ Some named → GoesInto (or_else fault.Range (column_values (wanted old leaf) (record { levels = levels; values = named }))) old new result
running_fails {U = U} leaf levels values found at before entry old middle new f result running less is takes failed named known =
    let same : entry ≡ entry_at (record { levels = levels; values = named }) at = is ∙ entry_is values named found levels at before known running.counted in
    let why = one_fails U (entry_value (wanted middle leaf) entry) middle new f takes in
    rw failed (fails_so U _ old new f (elim why as (λ _. (f ≡ fault.Memory) ⊎ ((or_else fault.Range (column_values (wanted old leaf) (record { levels = levels; values = named })) ≡ Err fault.Range) × (f ≡ fault.Range))) [
      | inl memory ↦ inl memory
      | inr missing ↦ inr (entry_missing (wanted old leaf) (record { levels = levels; values = named }) at less (ap (entry_value (wanted old leaf)) (sym same) ∙ ap (λ (w : Wanted). entry_value w entry) (sym (same_wanted leaf old middle running.kind running.nullable)) ∙ missing.0), missing.1)
    ]))

pub running_ends : {U : Type 0} (leaf : LeafSchema) (levels : List ℕ) (values : List Physical) (found : Order) (at before : ℕ) (old new : Reading) (done : U) → Running leaf levels values found at before old new → at ≡ length levels
    → (named : List Physical) → chosen values found ≡ Some named → GoesInto (or_else fault.Range (column_values (wanted old leaf) (record { levels = levels; values = named }))) old new (Ok done)
running_ends leaf levels values found at before old new done running all named known =
    all_taken (wanted old leaf) (record { levels = levels; values = named }) old new done (subst (λ n. Taken (wanted old leaf) (record { levels = levels; values = named }) n old new) all (running.taken named known))
