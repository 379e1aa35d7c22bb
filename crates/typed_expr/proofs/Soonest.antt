-- Of what is broken in two parts, the sooner is the soonest.
use Rattle.std.proofs.Common.{◌≡◌, ◌⊎◌, inl, inr, ◌<◌, ◌≤◌, Bool, true, false, refl, sym, cond, arith, ◌∙◌}
use Rattle.std.specs.Prelude.{nat_lt, ◌==◌, Ok, Err}
use Rattle.std.proofs.lemmas.Bool.{ltb-true, ltb-false, lt-ltb, le-ltb, eqb-true, eq-eqb}
use Rattle.typed_expr.specs.declared.broken.Broken.{Broken}
use Rattle.typed_expr.specs.Rules.{comes_before, Typing, both}
use Rattle.typed_expr.specs.HasType.{IsSoonest}
use Rattle.typed_expr.specs.Comes.{Soonest}

-- a comes before b
abbrev pub Before : Broken → Broken → Type 0
Before a b = (a.at < b.at) ⊎ ((a.at ≡ b.at) × (a.rule < b.rule))

pub before_is : (a b : Broken) → comes_before a b ≡ true → Before a b
before_is a b h = by_places (nat_lt a.at b.at) refl
  where
    by_places : (t : Bool) → nat_lt a.at b.at ≡ t → Before a b
    by_places true e = inl (ltb-true a.at b.at e)
    by_places false e = by_same (a.at == b.at) refl
      where
        by_same : (t : Bool) → (a.at == b.at) ≡ t → Before a b
        by_same true f = inr (eqb-true a.at b.at f, ltb-true a.rule b.rule (let k : nat_lt a.rule b.rule ≡ true = rw (e, f) at h in k))
        by_same false f = absurd (let no : false ≡ true = rw (e, f) at h in cc)

pub is_before : (a b : Broken) → Before a b → comes_before a b ≡ true
is_before a b (inl lt) = rw (lt-ltb a.at b.at lt) refl
is_before a b (inr (same, lt)) = rw (le-ltb a.at b.at (omega (arith, same)), eq-eqb a.at b.at same, lt-ltb a.rule b.rule lt) refl

not_true : (t : Bool) → ((t ≡ true) → ⊥) → t ≡ false
not_true true h = absurd (h refl)
not_true false h = refl

-- nothing comes before itself
pub not_before_itself : (a : Broken) → comes_before a a ≡ false
not_before_itself a = not_true (comes_before a a) (λ h. never (before_is a a h))
  where
    never : Before a a → ⊥
    never (inl lt) = omega (arith, lt)
    never (inr (same, lt)) = omega (arith, lt)

before_trans : (a b c : Broken) → Before a b → Before b c → Before a c
before_trans a b c (inl x) (inl y) = inl (omega (arith, x, y))
before_trans a b c (inl x) (inr (y, z)) = inl (omega (arith, x, y))
before_trans a b c (inr (x, u)) (inl y) = inl (omega (arith, x, y))
before_trans a b c (inr (x, u)) (inr (y, z)) = inr (omega (arith, x, y), omega (arith, u, z))

-- what isn't before a isn't before one that is before a
not_before_trans : (a b c : Broken) → comes_before c a ≡ false → comes_before b a ≡ true → comes_before c b ≡ false
not_before_trans a b c h g = not_true (comes_before c b) (λ e.
    let two : comes_before c a ≡ true = is_before c a (before_trans c b a (before_is c b e) (before_is b a g)) in
    absurd (let no : false ≡ true = sym h ∙ two in cc))

-- a doesn't come before b
abbrev NotBefore : Broken → Broken → Type 0
NotBefore a b = (b.at < a.at) ⊎ ((a.at ≡ b.at) × (b.rule ≤ a.rule))

not_before_is : (a b : Broken) → comes_before a b ≡ false → NotBefore a b
not_before_is a b h = by_places (nat_lt b.at a.at) refl (nat_lt a.at b.at) refl (nat_lt a.rule b.rule) refl
  where
    never : Before a b → NotBefore a b
    never x = absurd (let no : true ≡ false = sym (is_before a b x) ∙ h in cc)

    by_places : (r : Bool) → nat_lt b.at a.at ≡ r → (s : Bool) → nat_lt a.at b.at ≡ s → (t : Bool) → nat_lt a.rule b.rule ≡ t → NotBefore a b
    by_places true e s f t g = inl (ltb-true b.at a.at e)
    by_places false e true f t g = never (inl (ltb-true a.at b.at f))
    by_places false e false f true g = never (inr (omega (arith, ltb-false b.at a.at e, ltb-false a.at b.at f), ltb-true a.rule b.rule g))
    by_places false e false f false g = inr (omega (arith, ltb-false b.at a.at e, ltb-false a.at b.at f), ltb-false a.rule b.rule g)

-- what isn't before b isn't before one that b isn't before
not_before_either : (a b c : Broken) → comes_before c b ≡ false → comes_before b a ≡ false → comes_before c a ≡ false
not_before_either a b c h g = not_true (comes_before c a) (λ e. never (before_is c a e) (not_before_is c b h) (not_before_is b a g))
  where
    never : Before c a → NotBefore c b → NotBefore b a → ⊥
    never (inl x) (inl y) (inl z) = omega (arith, x, y, z)
    never (inl x) (inl y) (inr (z, w)) = omega (arith, x, y, z)
    never (inl x) (inr (y, v)) (inl z) = omega (arith, x, y, z)
    never (inl x) (inr (y, v)) (inr (z, w)) = omega (arith, x, y, z)
    never (inr (x, u)) (inl y) (inl z) = omega (arith, x, y, z)
    never (inr (x, u)) (inl y) (inr (z, w)) = omega (arith, x, y, z)
    never (inr (x, u)) (inr (y, v)) (inl z) = omega (arith, x, y, z)
    never (inr (x, u)) (inr (y, v)) (inr (z, w)) = omega (arith, u, v, w)

module _ (P Q R : Broken → Type 0) (cases : (b : Broken) → R b → P b ⊎ Q b) (left : (b : Broken) → P b → R b) (right : (b : Broken) → Q b → R b) where
  sooner_by : (d e : Broken) → IsSoonest P d → IsSoonest Q e → (t : Bool) → comes_before e d ≡ t → IsSoonest R (cond t e d)
  sooner_by d e hd he true before = record {
    broke = right e he.broke;
    least = λ c r. elim (cases c r) as (λ _. comes_before c e ≡ false) [
      | inl p ↦ not_before_trans d e c (hd.least c p) before
      | inr q ↦ he.least c q
    ];
  }
  sooner_by d e hd he false apart = record {
    broke = left d hd.broke;
    least = λ c r. elim (cases c r) as (λ _. comes_before c d ≡ false) [
      | inl p ↦ hd.least c p
      | inr q ↦ not_before_either d e c (he.least c q) apart
    ];
  }

  pub both_soonest : {A B : Type 0} (s : Typing A) (t : Typing B) → Soonest P s → Soonest Q t → Soonest R (both s t)
  both_soonest (Ok a) (Ok b) hs ht = λ c r. elim (cases c r) as (λ _. ⊥) [ inl p ↦ hs c p | inr q ↦ ht c q ]
  both_soonest (Ok a) (Err e) hs ht = record {
    broke = right e ht.broke;
    least = λ c r. elim (cases c r) as (λ _. comes_before c e ≡ false) [ inl p ↦ absurd (hs c p) | inr q ↦ ht.least c q ];
  }
  both_soonest (Err d) (Ok b) hs ht = record {
    broke = left d hs.broke;
    least = λ c r. elim (cases c r) as (λ _. comes_before c d ≡ false) [ inl p ↦ hs.least c p | inr q ↦ absurd (ht c q) ];
  }
  both_soonest (Err d) (Err e) hs ht = sooner_by d e hs ht (comes_before e d) refl
