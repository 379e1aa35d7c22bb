-- What is left of a file's rows, group by group.
use Rattle.std.proofs.Common.{◌≡◌, ℕ, suc, ◌+◌, ◌<◌, List, [], ◌∷◌, length, get_or, drop, Bool, true, false, refl, sym, ap, subst, ◌∙◌, arith, drop-cons, ℤ, pos, ◌+ℤ◌, ◌≤ℤ◌, ◌<ℤ◌}
use Rattle.std.specs.Prelude.{◌&&◌}
use Rattle.std.specs.List.{list_all}
use Rattle.std.specs.Ordering.{int_eq}
use Rattle.std.specs.Int.Signed.{le_z}
use Rattle.std.proofs.lemmas.Int.{ints}
use Rattle.std.proofs.lemmas.Bool.Decides.{Decides-int_eq}
use Rattle.parquet_meta.specs.declared.metadata.RowGroup.{RowGroup}
use Rattle.parquet_meta.specs.declared.metadata.Footer.{Footer}
use Rattle.parquet_meta.specs.Meaning.{total_rows, rows_add_up, has_chunks, groups_fit, IsSound}

abbrev nonneg : List RowGroup → Bool
nonneg gs = list_all (λ group. le_z (pos 0) group.rows) gs

test_le : (z : ℤ) → le_z (pos 0) z ≡ true → pos 0 ≤ℤ z
test_le z h = grind (arith, ints)

and_left : (a b : Bool) → (a && b) ≡ true → a ≡ true
and_left true b h = refl
and_left false b h = h

and_right : (a b : Bool) → (a && b) ≡ true → b ≡ true
and_right true b h = h
and_right false b h = absurd cc

and_false : (a b : Bool) → (a ≡ true → b ≡ false) → (a && b) ≡ false
and_false true b h = h refl
and_false false b h = refl

not_true : (a : Bool) → (a ≡ true → true ≡ false) → a ≡ false
not_true true h = h refl
not_true false h = refl

total-nonneg : (gs : List RowGroup) → nonneg gs ≡ true → pos 0 ≤ℤ total_rows gs
total-nonneg [] h = test_le (pos 0) refl
total-nonneg (g ∷ gs) h =
    let here : pos 0 ≤ℤ g.rows = test_le g.rows (and_left (le_z (pos 0) g.rows) (nonneg gs) h) in
    let more : pos 0 ≤ℤ total_rows gs = total-nonneg gs (and_right (le_z (pos 0) g.rows) (nonneg gs) h) in
    omega (arith, ints)

module _ (left : ℤ) (g : RowGroup) (gs : List RowGroup) where
  negative_one : le_z (pos 0) g.rows ≡ false → rows_add_up left (g ∷ gs) ≡ false
  negative_one h = rw h refl

  past_one : left <ℤ g.rows → rows_add_up left (g ∷ gs) ≡ false
  past_one h = and_false (nonneg (g ∷ gs)) (int_eq (g.rows +ℤ total_rows gs) left) (λ all.
      let more : pos 0 ≤ℤ total_rows gs = total-nonneg gs (and_right (le_z (pos 0) g.rows) (nonneg gs) all) in
      not_true (int_eq (g.rows +ℤ total_rows gs) left) (λ same.
      let e : g.rows +ℤ total_rows gs ≡ left = (Decides-int_eq (g.rows +ℤ total_rows gs) left).0 same in absurd (omega (arith, ints))))

module _ (groups : List RowGroup) (place : ℕ) (g : RowGroup) (stands : (place < length groups) × (g ≡ get_or groups place g)) (total : Bool) (left : ℤ)
    (known : total ≡ rows_add_up left (drop place groups)) where
  opened : total ≡ rows_add_up left (g ∷ drop (place + 1) groups)
  opened =
      let next : suc place ≡ place + 1 = omega arith in
      known ∙ ap (rows_add_up left) (drop-cons groups place g stands.0 ∙ ap (λ n. n ∷ drop (suc place) groups) (sym stands.1) ∙ ap (λ k. g ∷ drop k groups) next)

  pub negative : le_z (pos 0) g.rows ≡ false → total ≡ false
  negative h = opened ∙ negative_one left g (drop (place + 1) groups) h

  pub past : left <ℤ g.rows → total ≡ false
  past h = opened ∙ past_one left g (drop (place + 1) groups) h

-- the file's rows, where its groups fit
pub sound : (f : Footer) → groups_fit f.rows f.leaves f.groups ≡ true → IsSound f
sound f fit =
    let added : rows_add_up f.rows f.groups ≡ true = and_right (list_all (has_chunks f.leaves) f.groups) (rows_add_up f.rows f.groups) fit in
    let total : pos 0 ≤ℤ total_rows f.groups = total-nonneg f.groups (and_left (nonneg f.groups) (int_eq (total_rows f.groups) f.rows) added) in
    let same : total_rows f.groups ≡ f.rows = (Decides-int_eq (total_rows f.groups) f.rows).0 (and_right (nonneg f.groups) (int_eq (total_rows f.groups) f.rows) added) in
    record { rows = subst (λ (z : ℤ). pos 0 ≤ℤ z) same total; groups = fit }
