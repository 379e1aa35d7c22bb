-- The first place at which a test holds.
use Rattle.std.proofs.Common.{◌≡◌, ℕ, zero, suc, ◌+◌, ◌<◌, List, length, take, Bool, true, false, Option, Some, None, refl, sym, ap, ◌∙◌, subst, zero-add, arith}
use Rattle.std.specs.List.{find, range_with_len, slice_get}
use Rattle.std.specs.Option.{option_map_or}
use Rattle.delta_schema.specs.declared.schema.ColumnDef.{ColumnDef}
use Rattle.column_mapping.specs.declared.mode.Mode.TheVariants as mode
use Rattle.column_mapping.specs.Mapping.{is_unmarked, breaks_at, first_broken}

-- no place from a on, of so many, passes the test
find_none : (p : ℕ → Bool) (a n : ℕ) → ((k : ℕ) → k < n → p (a + k) ≡ false) → find p (range_with_len a n) ≡ None
find_none p a zero none = refl
find_none p a (suc n) none =
    let here : a + 0 ≡ a = omega arith in
    let first : p a ≡ false = subst (λ (k : ℕ). p k ≡ false) here (none 0 (omega arith)) in
    rw first (find_none p (a + 1) n (λ k within. let next : a + suc k ≡ a + 1 + k = omega arith in subst (λ (i : ℕ). p i ≡ false) next (none (suc k) (omega arith))))

-- this place is the first that does
find_first : (p : ℕ → Bool) (a n i : ℕ) → i < n → ((k : ℕ) → k < i → p (a + k) ≡ false) → p (a + i) ≡ true → find p (range_with_len a n) ≡ Some (a + i)
find_first p a zero i within none is = absurd (omega arith)
find_first p a (suc n) zero within none is =
    let here : a + 0 ≡ a = omega arith in
    let first : p a ≡ true = subst (λ (k : ℕ). p k ≡ true) here is in
    rw first (ap (λ (k : ℕ). Some k) (sym here))
find_first p a (suc n) (suc i) within none is =
    let here : a + 0 ≡ a = omega arith in
    let first : p a ≡ false = subst (λ (k : ℕ). p k ≡ false) here (none 0 (omega arith)) in
    let last : a + suc i ≡ a + 1 + i = omega arith in
    let there : p (a + 1 + i) ≡ true = subst (λ (k : ℕ). p k ≡ true) last is in
    rw first (find_first p (a + 1) n i (omega arith) (λ k lt. let next : a + suc k ≡ a + 1 + k = omega arith in subst (λ (j : ℕ). p j ≡ false) next (none (suc k) (omega arith))) there ∙ ap (λ (k : ℕ). Some k) (sym last))

-- nothing is asked
asks_nothing : {A : Type 0} (found : Option A) → option_map_or (λ (it : A). false) found false ≡ false
asks_nothing None = refl
asks_nothing (Some it) = refl

pub no_mapping : (columns : List ColumnDef) → None ≡ first_broken mode.Plain columns
unfolding first_broken
no_mapping columns = sym (find_none (breaks_at mode.Plain columns) 0 (length columns) (λ k within. asks_nothing (slice_get columns (0 + k))))

-- modes name and id ask the same
pub same_in_both : (columns : List ColumnDef) → first_broken mode.ById columns ≡ first_broken mode.ByName columns
unfolding first_broken
same_in_both columns = refl

-- what is asked of the column at a place
asked_at : (columns : List ColumnDef) (at : ℕ) (column : ColumnDef) (found : Option ColumnDef) → slice_get columns at ≡ found → found ≡ Some column → breaks_at mode.ById columns at ≡ is_unmarked (take at columns) column
asked_at columns at column found is same = rw (is, same) refl

pub asked : (columns : List ColumnDef) (at : ℕ) (column : ColumnDef) → slice_get columns at ≡ Some column → breaks_at mode.ById columns at ≡ is_unmarked (take at columns) column
asked columns at column is = asked_at columns at column (slice_get columns at) refl is

pub first_found : (columns : List ColumnDef) (at : ℕ) → at < length columns → ((k : ℕ) → k < at → breaks_at mode.ById columns k ≡ false) → breaks_at mode.ById columns at ≡ true → Some at ≡ first_broken mode.ById columns
unfolding first_broken
first_found columns at within none is =
    sym (find_first (breaks_at mode.ById columns) 0 (length columns) at within (λ k lt. rw (zero-add k) (none k lt)) (rw (zero-add at) is) ∙ ap (λ (k : ℕ). Some k) (zero-add at))

pub none_found : (columns : List ColumnDef) → ((k : ℕ) → k < length columns → breaks_at mode.ById columns k ≡ false) → None ≡ first_broken mode.ById columns
unfolding first_broken
none_found columns none = sym (find_none (breaks_at mode.ById columns) 0 (length columns) (λ k lt. rw (zero-add k) (none k lt)))
