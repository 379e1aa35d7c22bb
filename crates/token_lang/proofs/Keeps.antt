-- Where each token has a property, the value of a sentence has one: a law for each way to build a language.
use Rattle.std.proofs.Common.{◌≡◌, ℕ, Bool, true, List, [], ◌∷◌, ◌⊎◌, inl, inr, subst, sym}
use Rattle.std.specs.List.{AllByRecursion}
use Rattle.std.specs.Prelude.{Option, Some, None, IfSome}
use Rattle.token_lang.specs.Lang.{Lang, one, nothing, never, both, either, valued, reads_all, many, at_most}

-- from tokens with the property P a sentence has a value with the property Q, and P is left to the tokens behind it
pub record Keeps {T A : Type 0} (P : T → Type 0) (L : Lang T A) (Q : A → Type 0) : Type 0 where
  pub keeps : (ts : List T) (a : A) (rest : List T) → AllByRecursion P ts → L.reads ts a rest → Q a × AllByRecursion P rest

same_tokens : {T : Type 0} (P : T → Type 0) (ts us : List T) → ts ≡ us → AllByRecursion P ts → AllByRecursion P us
same_tokens {T} P ts us e all = subst (λ (vs : List T). AllByRecursion P vs) e all

module _ {T : Type 0} {P : T → Type 0} where
  pub one_keeps : (is : T → Bool) → Keeps P (one is) (λ t. P t × (is t ≡ true))
  one_keeps is = record { keeps = λ ts t rest all r. let w : AllByRecursion P (t ∷ rest) = same_tokens P ts (t ∷ rest) r.0 all in ((w.0, r.1), w.1) }

  pub nothing_keeps : Keeps P nothing (λ _. Unit {0})
  nothing_keeps = record { keeps = λ ts a rest all e. (tt, same_tokens P ts rest e all) }

  pub never_keeps : {A : Type 0} {Q : A → Type 0} → Keeps P never Q
  never_keeps = record { keeps = λ ts a rest all none. absurd none }

  module _ {A : Type 0} {D : Lang T A} {Q : A → Type 0} (x : Keeps P D Q) where
    pub valued_keeps : {B : Type 0} {R : B → Type 0} (make : A → B) → ((a : A) → Q a → R (make a)) → Keeps P (valued make D) R
    valued_keeps {B} {R} make so = record { keeps = λ ts b rest all r. let found = x.keeps ts r.0 rest all r.1 in (subst R (sym r.2) (so r.0 found.0), found.1) }

    pub both_keeps : {B : Type 0} {E : Lang T B} {R : B → Type 0} → Keeps P E R → Keeps P (both D E) (λ p. Q p.0 × R p.1)
    both_keeps y = record {
      keeps = λ ts p rest all r.
          let first = x.keeps ts p.0 r.0 all r.1 in
          let second = y.keeps r.0 p.1 rest first.1 r.2 in
          ((first.0, second.0), second.1);
    }

    either_one : {E : Lang T A} → Keeps P E Q → (ts : List T) (a : A) (rest : List T) → AllByRecursion P ts → D.reads ts a rest ⊎ E.reads ts a rest → Q a × AllByRecursion P rest
    either_one y ts a rest all (inl r) = x.keeps ts a rest all r
    either_one y ts a rest all (inr r) = y.keeps ts a rest all r

    pub either_keeps : {E : Lang T A} → Keeps P E Q → Keeps P (either D E) Q
    either_keeps y = record { keeps = either_one y }

    all_kept : (ts : List T) (values : List A) (rest : List T) → AllByRecursion P ts → reads_all D.reads ts values rest → AllByRecursion Q values × AllByRecursion P rest
    all_kept ts [] rest all r = (tt, same_tokens P ts rest r all)
    all_kept ts (a ∷ more) rest all r =
        let first = x.keeps ts a r.0 all r.1 in
        let others = all_kept r.0 more rest first.1 r.2 in
        ((first.0, others.0), others.1)

    pub many_keeps : Keeps P (many D) (AllByRecursion Q)
    many_keeps = record { keeps = all_kept }

    pub at_most_keeps : (n : ℕ) → Keeps P (at_most n D) Q
    at_most_keeps n = record { keeps = λ ts a rest all r. x.keeps ts a rest all r.0 }

    -- [D]
    pub maybe_keeps : Keeps P (either (valued Some D) (valued (λ _. None) nothing)) (λ o. IfSome o Q)
    maybe_keeps = record { keeps = maybe_one }
      where
        maybe_one : (ts : List T) (o : Option A) (rest : List T) → AllByRecursion P ts → (either (valued Some D) (valued (λ _. None) nothing)).reads ts o rest → IfSome o Q × AllByRecursion P rest
        maybe_one ts o rest all (inl r) = let found = x.keeps ts r.0 rest all r.1 in (subst (λ (u : Option A). IfSome u Q) (sym r.2) found.0, found.1)
        maybe_one ts o rest all (inr r) = (subst (λ (u : Option A). IfSome u Q) (sym r.2) tt, same_tokens P ts rest r.1 all)
