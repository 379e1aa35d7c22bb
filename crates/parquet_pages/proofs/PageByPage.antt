-- Pages that are read, one after the other.
use Rattle.std.proofs.Common.{◌≡◌, ℕ, zero, suc, List, [], ◌++◌, Some, None, Ok, Err, false, refl, sym, ap, ◌∙◌, subst, arith}
use Rattle.std.specs.Prelude.{◌==◌}
use Rattle.dm_types.specs.Then.{go}
use Rattle.dm_types.specs.declared.value.Value.{Value}
use Rattle.parquet_meta.specs.declared.metadata.LeafSchema.{LeafSchema}
use Rattle.parquet_pages.specs.Answers.{Gives, GivesBody}
use Rattle.parquet_pages.specs.Kept.{IsReading, with_more}
use Rattle.parquet_pages.specs.Pages.{Answer, Cut, State, Wanted, page_at, page_entries, pages_at}
use Rattle.parquet_pages.specs.Taking.{GoesInto, PageGoesInto}
use Rattle.parquet_pages.specs.Views.{wanted}
use Rattle.parquet_pages.specs.declared.fault.FileFault.{FileFault}
use Rattle.parquet_pages.specs.declared.fault.FileFault.TheVariants as fault
use Rattle.parquet_pages.specs.declared.kept.Reading.{Reading}
use Rattle.parquet_pages.proofs.Taken.{reading_kept, same_wanted, with_more-append, with_none}

-- ---- faults

-- a fault of one answer is that of another
pub moved : {A B : Type 0} (X Y : Type 0) (view : X → A) (view_2 : Y → B) (known : Answer A) (other : Answer B) (f : FileFault) → ((e : FileFault) → known ≡ Err e → other ≡ Err e) → Gives {X = X} view known (Err f) → Gives {X = Y} view_2 other (Err f)
moved X Y view view_2 known other fault.Memory same is = tt
moved X Y view view_2 known other fault.BadParquet same is = same fault.BadParquet is
moved X Y view view_2 known other fault.Compressed same is = same fault.Compressed is
moved X Y view view_2 known other fault.Encoding same is = same fault.Encoding is
moved X Y view view_2 known other fault.Mismatch same is = same fault.Mismatch is
moved X Y view view_2 known other fault.Range same is = same fault.Range is
moved X Y view view_2 known other fault.TextLimit same is = same fault.TextLimit is

-- a fault before a step that has none
pub fault_before : {A B : Type 0} (known : Answer A) (step : A → B) (e : FileFault) → go known (λ a. Ok (step a)) ≡ Err e → known ≡ Err e
fault_before (Ok a) step e is = absurd cc
fault_before (Err f) step e is = cc

pub fault_kept : {A B : Type 0} (known : Answer A) (step : A → Answer B) (e : FileFault) → known ≡ Err e → go known step ≡ Err e
fault_kept known step e is = rw is refl

-- ---- a page

pub data_taken : {U : Type 0} (known : Answer (List Value)) (old new : Reading) (state : State) (done : U) → GoesInto known old new (Ok done) → PageGoesInto (go known (λ values. Ok (values, state))) old new state (Ok done)
data_taken (Ok values) old new state done is = let e : with_more values old ≡ new = cc in rw e refl
data_taken (Err f) old new state done is = absurd cc

pub data_failed : (U : Type 0) (known : Answer (List Value)) (old new : Reading) (state behind : State) (f : FileFault) → GoesInto {U = U} known old new (Err f) → PageGoesInto {U = U} (go known (λ values. Ok (values, state))) old new behind (Err f)
data_failed U known old new state behind f is =
    moved U U (λ done. new) (λ done. (new, behind)) (go known (λ values. Ok (with_more values old))) (go (go known (λ values. Ok (values, state))) (λ page. Ok (with_more page.0 old, page.1))) f (λ e same.
    let first = fault_before known (λ values. with_more values old) e same in rw first refl) is

-- ---- page after page

pub is_left : (n : ℕ) → (n ≡ 0 → ⊥) → (n == 0) ≡ false
is_left zero some = absurd (some refl)
is_left (suc n) some = grind arith

nothing_left : (most : ℕ) (w : Wanted) (state : State) (bytes : List ℕ) → state.left ≡ 0 → pages_at most w state bytes ≡ Ok []
unfolding pages_at
nothing_left zero w state bytes none = rw none refl
nothing_left (suc most) w state bytes none = rw none refl

pub ends_short : (w : Wanted) (state : State) (bytes : List ℕ) → (state.left == 0) ≡ false → pages_at zero w state bytes ≡ Err fault.BadParquet
unfolding pages_at
ends_short w state bytes left = rw left refl

no_page : (most : ℕ) (w : Wanted) (state : State) (bytes : List ℕ) → (state.left == 0) ≡ false → page_at bytes ≡ None → pages_at (suc most) w state bytes ≡ Err fault.BadParquet
unfolding pages_at
no_page most w state bytes left none = rw (left, none) refl

bad_page : (most : ℕ) (w : Wanted) (state : State) (bytes : List ℕ) (page : Cut) (e : FileFault) → (state.left == 0) ≡ false → page_at bytes ≡ Some page → page_entries w state page.header page.body ≡ Err e → pages_at (suc most) w state bytes ≡ Err e
unfolding pages_at
bad_page most w state bytes page e left is bad = rw (left, is, bad) refl

next_by : (w : Wanted) (found : List Value × State) (reading : Reading) (known : Answer (List Value)) → go (go known (λ more. Ok (found.0 ++ more))) (λ values. Ok (with_more values reading)) ≡ go known (λ values. Ok (with_more values (with_more found.0 reading)))
next_by w found reading (Ok more) = ap (λ (r : Reading). Ok r) (with_more-append found.0 more reading)
next_by w found reading (Err f) = refl

next_page : (most : ℕ) (w : Wanted) (state : State) (bytes : List ℕ) (page : Cut) (found : List Value × State) (reading : Reading) → (state.left == 0) ≡ false → page_at bytes ≡ Some page → page_entries w state page.header page.body ≡ Ok found
    → go (pages_at (suc most) w state bytes) (λ values. Ok (with_more values reading)) ≡ go (pages_at most w found.1 page.rest) (λ values. Ok (with_more values (with_more found.0 reading)))
unfolding pages_at
next_page most w state bytes page found reading left is entries = rw (left, is, entries) (next_by w found reading (pages_at most w found.1 page.rest))

-- where the reading of pages stands: with as many pages at most still to come, the whole is as if one went on from here
pub record Reached (leaf : LeafSchema) (whole : Answer (List Value)) (most : ℕ) (state : State) (rest : List ℕ) (old new : Reading) : Type 0 where
  pub is : IsReading new
  pub kind : new.kind ≡ old.kind
  pub nullable : new.nullable ≡ old.nullable
  pub same : go whole (λ values. Ok (with_more values old)) ≡ go (pages_at most (wanted old leaf) state rest) (λ values. Ok (with_more values new))

pub reached_first : (leaf : LeafSchema) (most : ℕ) (state : State) (bytes : List ℕ) (old : Reading) → IsReading old → Reached leaf (pages_at most (wanted old leaf) state bytes) most state bytes old old
reached_first leaf most state bytes old is = record { is = is; kind = refl; nullable = refl; same = refl }

pub reached_last : {U : Type 0} (leaf : LeafSchema) (whole : Answer (List Value)) (most : ℕ) (state : State) (rest : List ℕ) (old new : Reading) (done : U) → Reached leaf whole most state rest old new → state.left ≡ 0 → GoesInto whole old new (Ok done)
reached_last leaf whole most state rest old new done reached none =
    reached.same ∙ ap (λ (known : Answer (List Value)). go known (λ values. Ok (with_more values new))) (nothing_left most (wanted old leaf) state rest none) ∙ ap (λ (r : Reading). Ok r) (with_none new)

pub reached_short : (leaf : LeafSchema) (whole : Answer (List Value)) (state : State) (rest : List ℕ) (old new : Reading) → Reached leaf whole 0 state rest old new → (state.left == 0) ≡ false
    → go whole (λ values. Ok (with_more values old)) ≡ Err fault.BadParquet
reached_short leaf whole state rest old new reached left =
    reached.same ∙ ap (λ (known : Answer (List Value)). go known (λ values. Ok (with_more values new))) (ends_short (wanted old leaf) state rest left)

-- a fault at this page is the one of the whole
pub reached_fault : (leaf : LeafSchema) (whole : Answer (List Value)) (most : ℕ) (state : State) (rest : List ℕ) (old new : Reading) (e : FileFault) → Reached leaf whole most state rest old new → pages_at most (wanted old leaf) state rest ≡ Err e → go whole (λ values. Ok (with_more values old)) ≡ Err e
reached_fault leaf whole most state rest old new e reached is =
    reached.same ∙ ap (λ (known : Answer (List Value)). go known (λ values. Ok (with_more values new))) is

pub cut_failed : (X U : Type 0) (leaf : LeafSchema) (whole : Answer (List Value)) (most : ℕ) (state : State) (rest : List ℕ) (view : X → Cut) (f : FileFault) (old new : Reading) → Reached leaf whole (suc most) state rest old new → (state.left == 0) ≡ false
    → GivesBody {X = X} view (page_at rest) (Err f) → GoesInto {U = U} whole old new (Err f)
cut_failed X U leaf whole most state rest view fault.Memory old new reached left is = tt
cut_failed X U leaf whole most state rest view fault.BadParquet old new reached left is = reached_fault leaf whole (suc most) state rest old new fault.BadParquet reached (no_page most (wanted old leaf) state rest left is)
cut_failed X U leaf whole most state rest view fault.Compressed old new reached left is = absurd is
cut_failed X U leaf whole most state rest view fault.Encoding old new reached left is = absurd is
cut_failed X U leaf whole most state rest view fault.Mismatch old new reached left is = absurd is
cut_failed X U leaf whole most state rest view fault.Range old new reached left is = absurd is
cut_failed X U leaf whole most state rest view fault.TextLimit old new reached left is = absurd is

pub page_failed : (U : Type 0) (leaf : LeafSchema) (whole : Answer (List Value)) (most : ℕ) (state behind : State) (rest : List ℕ) (page : Cut) (f : FileFault) (old middle new : Reading) → Reached leaf whole (suc most) state rest old middle → (state.left == 0) ≡ false
    → page_at rest ≡ Some page → PageGoesInto {U = U} (page_entries (wanted middle leaf) state page.header page.body) middle new behind (Err f) → GoesInto {U = U} whole old new (Err f)
page_failed U leaf whole most state behind rest page f old middle new reached left cut is =
    moved U U (λ done. (new, behind)) (λ done. new) (go (page_entries (wanted middle leaf) state page.header page.body) (λ found. Ok (with_more found.0 middle, found.1))) (go whole (λ values. Ok (with_more values old))) f (λ e same.
    let first = fault_before (page_entries (wanted middle leaf) state page.header page.body) (λ found. (with_more found.0 middle, found.1)) e same in
    let w = same_wanted leaf old middle reached.kind reached.nullable in
    reached_fault leaf whole (suc most) state rest old middle e reached (bad_page most (wanted old leaf) state rest page e left cut (subst (λ (v : Wanted). page_entries v state page.header page.body ≡ Err e) w first))) is

record PageTaken (known : Answer (List Value × State)) (old new : Reading) (state : State) : Type 0 where
  found : List Value × State
  is : known ≡ Ok found
  grows : new ≡ with_more found.0 old
  behind : state ≡ found.1

page_taken : {U : Type 0} (known : Answer (List Value × State)) (old new : Reading) (state : State) (done : U) → PageGoesInto known old new state (Ok done) → PageTaken known old new state
page_taken (Ok found) old new state done is =
    let pair : ◌≡◌ {A = Reading × State} (with_more found.0 old, found.1) (new, state) = cc in
    record { found = found; is = refl; grows = sym (ap (λ (p : Reading × State). p.0) pair); behind = sym (ap (λ (p : Reading × State). p.1) pair) }
page_taken (Err f) old new state done is = absurd cc

pub reached_next : {U : Type 0} (leaf : LeafSchema) (whole : Answer (List Value)) (most : ℕ) (state behind : State) (rest : List ℕ) (page : Cut) (old middle new : Reading) (done : U) → Reached leaf whole (suc most) state rest old middle → (state.left == 0) ≡ false
    → page_at rest ≡ Some page → PageGoesInto (page_entries (wanted middle leaf) state page.header page.body) middle new behind (Ok done) → Reached leaf whole most behind page.rest old new
reached_next leaf whole most state behind rest page old middle new done reached left cut is =
    let taken = page_taken (page_entries (wanted middle leaf) state page.header page.body) middle new behind done is in
    let w = same_wanted leaf old middle reached.kind reached.nullable in
    let entries : page_entries (wanted old leaf) state page.header page.body ≡ Ok taken.found = subst (λ (v : Wanted). page_entries v state page.header page.body ≡ Ok taken.found) w taken.is in
    record {
      is = rw taken.grows (reading_kept taken.found.0 middle reached.is);
      kind = rw taken.grows reached.kind;
      nullable = rw taken.grows reached.nullable;
      same = reached.same ∙ next_page most (wanted old leaf) state rest page taken.found middle left cut entries
          ∙ ap (λ (s : State). go (pages_at most (wanted old leaf) s page.rest) (λ values. Ok (with_more values (with_more taken.found.0 middle)))) (sym taken.behind)
          ∙ ap (λ (r : Reading). go (pages_at most (wanted old leaf) behind page.rest) (λ values. Ok (with_more values r))) (sym taken.grows);
    }
