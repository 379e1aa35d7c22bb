-- The laws of each way to build a language, all at once. `Leads`: each sentence has a token. `Meets`: it may have none.
use Rattle.std.proofs.Common.{◌≡◌, ℕ, Bool, false, List, [], ◌∷◌, length, Ok, Err, refl}
use Rattle.std.specs.Prelude.{◌||◌, Option, Some, None}
use Rattle.token_lang.specs.Lang.{Lang, one, nothing, never, both, either, valued, many, at_most}
use Rattle.token_lang.specs.Run.{Reader, sees, made, run_one, run_both, run_either, run_many, run_at_most}
use Rattle.token_lang.specs.Exact.{Exact, Apart}
use Rattle.token_lang.specs.Meets.{Plain, Meets, Leads}
use Rattle.token_lang.proofs.Base.{one_exact, one_solid, valued_exact, valued_solid, nothing_exact, never_exact, never_solid}
use Rattle.token_lang.proofs.Both.{both_exact, both_maybe_exact, both_solid, late_exact, late_solid, either_exact, either_maybe_exact, either_solid, weaker, wider, sees_twice, sees_alone, sees_end}
use Rattle.token_lang.proofs.Many.{many_exact}
use Rattle.token_lang.proofs.Place.{one_local, nothing_local, never_local, valued_local, both_local, either_local, many_local, limit_exact, limit_solid, limit_local}
use Rattle.token_lang.proofs.Cut.{one_cuts, nothing_cuts, both_cuts, either_cuts, valued_cuts, many_cuts, limit_cuts}

pub one_leads : {T : Type 0} (is : T → Bool) → Leads (one is) (run_one is) is (λ _. false)
one_leads is = record {
  meets = record { exact = one_exact is; local = one_local is };
  solid = one_solid is;
}

pub never_leads : {T A : Type 0} (first goes : T → Bool) → Leads {T = T} {A = A} never (λ ts. Err ts) first goes
never_leads first goes = record {
  meets = record { exact = never_exact first goes; local = never_local };
  solid = never_solid first;
}

no_more : {T : Type 0} (goes goes' : T → Bool) → ((t : T) → goes' t ≡ false → goes t ≡ false) → (ts : List T) → sees goes' ts ≡ false → sees goes ts ≡ false
no_more goes goes' less [] h = refl
no_more goes goes' less (t ∷ ts) h = less t h

-- with more tokens that may come behind
pub goes_leads : {T A : Type 0} {L : Lang T A} {f : Reader T A} {first goes : T → Bool} (goes' : T → Bool) → ((t : T) → goes' t ≡ false → goes t ≡ false) → Leads L f first goes → Leads L f first goes'
goes_leads {goes} goes' less x = record {
  meets = record { exact = weaker goes' (no_more goes goes' less) x.meets.exact; local = x.meets.local };
  solid = x.solid;
}

module _ {T A B : Type 0} {L : Lang T A} {f : Reader T A} {first goes : T → Bool} (make : A → B) where
  pub valued_meets : Meets L f first goes → Meets (valued make L) (λ ts. made make (f ts)) first goes
  valued_meets x = record { exact = valued_exact make x.exact; local = valued_local make x.local }

  pub valued_leads : Leads L f first goes → Leads (valued make L) (λ ts. made make (f ts)) first goes
  valued_leads x = record { meets = valued_meets x.meets; solid = valued_solid make x.solid }

module _ {T A B : Type 0} {D : Lang T A} {E : Lang T B} {f : Reader T A} {g : Reader T B} {first goes first' goes' : T → Bool} where
  -- two parts with tokens
  pub both_leads : Leads D f first goes → Leads E g first' goes' → Apart first' goes → Leads (both D E) (run_both f g) first goes'
  both_leads x y apart = record {
    meets = record {
      exact = both_exact x.meets.exact y.meets.exact x.solid y.solid apart;
      local = both_local x.meets.local y.meets.local;
    };
    solid = both_solid x.meets.exact y.meets.exact x.solid;
  }

  -- a second part that may be nothing
  pub then_maybe_leads : Leads D f first goes → Meets E g first' goes' → Apart first' goes → Leads (both D E) (run_both f g) first (λ t. goes t || goes' t)
  then_maybe_leads x y apart = record {
    meets = record {
      exact = both_maybe_exact x.meets.exact y.exact x.solid apart;
      local = both_local x.meets.local y.local;
    };
    solid = both_solid x.meets.exact y.exact x.solid;
  }

  -- a first part that may be nothing
  pub maybe_then_leads : Meets D f first goes → Leads E g first' goes' → Apart first' goes → Leads (both D E) (run_both f g) (λ t. first t || first' t) goes'
  maybe_then_leads x y apart = record {
    meets = record {
      exact = late_exact x.exact y.meets.exact y.solid apart;
      local = both_local x.local y.meets.local;
    };
    solid = late_solid x.exact y.meets.exact y.solid;
  }

module _ {T A : Type 0} {D E : Lang T A} {f g : Reader T A} {first goes first' goes' : T → Bool} where
  pub either_leads : Leads D f first goes → Leads E g first' goes' → Apart first' first → Leads (either D E) (run_either first f g) (λ t. first t || first' t) (λ t. goes t || goes' t)
  either_leads x y apart = record {
    meets = record {
      exact = either_exact x.meets.exact y.meets.exact x.solid y.solid apart;
      local = either_local x.meets.local y.meets.local;
    };
    solid = either_solid x.meets.exact y.meets.exact x.solid y.solid;
  }

module _ {T A : Type 0} {L : Lang T A} {f : Reader T A} {first goes : T → Bool} where
  pub many_meets : Leads L f first goes → Apart first goes → Meets (many L) (λ ts. run_many first f (length ts) ts) first (λ t. first t || goes t)
  many_meets x apart = record {
    exact = many_exact L f first goes x.meets.exact x.solid apart;
    local = many_local x.meets.local;
  }

  pub maybe_meets : Leads L f first goes → Meets (either (valued Some L) (valued (λ _. None) nothing))
      (run_either first (λ ts. made Some (f ts)) (λ ts. Ok (None, ts))) first (λ t. first t || goes t)
  maybe_meets x =
      let y : Exact {T = T} {A = Option A} (valued (λ _. None) nothing) (λ ts. Ok (None, ts)) (λ _. false) (λ _. false) = valued_exact (λ _. None) nothing_exact in
      let z = either_maybe_exact (valued_exact Some x.meets.exact) y (valued_solid Some x.solid) (λ t h. absurd (cc)) in
      record {
        exact = wider first (sees_alone first) (weaker (λ t. first t || goes t) (sees_end first goes) z);
        local = either_local (valued_local Some x.meets.local) (valued_local (λ _. None) nothing_local);
      }

  -- of no more than n tokens
  pub limit_leads : (n : ℕ) → Leads L f first goes → Leads (at_most n L) (run_at_most n f) first goes
  limit_leads n x = record {
    meets = record {
      exact = limit_exact n x.meets.local x.meets.exact;
      local = limit_local n x.meets.local;
    };
    solid = limit_solid n x.meets.local x.solid;
  }

-- ---- without a reader

pub one_plain : {T : Type 0} (is : T → Bool) → Plain (one is)
one_plain is = record { local = one_local is; cuts = one_cuts is }

pub valued_plain : {T A B : Type 0} {L : Lang T A} (make : A → B) → Plain L → Plain (valued make L)
valued_plain make x = record { local = valued_local make x.local; cuts = valued_cuts make x.cuts }

pub both_plain : {T A B : Type 0} {D : Lang T A} {E : Lang T B} → Plain D → Plain E → Plain (both D E)
both_plain x y = record { local = both_local x.local y.local; cuts = both_cuts x.cuts y.cuts x.local }

pub either_plain : {T A : Type 0} {D E : Lang T A} → Plain D → Plain E → Plain (either D E)
either_plain x y = record { local = either_local x.local y.local; cuts = either_cuts x.cuts y.cuts }

pub many_plain : {T A : Type 0} {L : Lang T A} → Plain L → Plain (many L)
many_plain x = record { local = many_local x.local; cuts = many_cuts x.cuts x.local }

pub maybe_plain : {T A : Type 0} {L : Lang T A} → Plain L → Plain (either (valued Some L) (valued (λ _. None) nothing))
maybe_plain x = record { local = either_local (valued_local Some x.local) (valued_local (λ _. None) nothing_local); cuts = either_cuts (valued_cuts Some x.cuts) (valued_cuts (λ _. None) nothing_cuts) }

pub limit_plain : {T A : Type 0} {L : Lang T A} (n : ℕ) → Plain L → Plain (at_most n L)
limit_plain n x = record { local = limit_local n x.local; cuts = limit_cuts n x.cuts }

-- ---- an item, and others behind an operator

module _ {T A : Type 0} {L : Lang T A} {f : Reader T A} {first goes : T → Bool} (join : A × List (T × A) → A) (operator : T → Bool) where
  pub chain_leads : Leads L f first goes → Apart operator goes
      → Leads (valued join (both L (many (both (one operator) L)))) (λ ts. made join (run_both f (λ us. run_many operator (run_both (run_one operator) f) (length us) us) ts)) first (λ t. operator t || goes t)
  chain_leads x apart =
      let item = both_leads (one_leads operator) x (λ t _. refl) in
      let all = valued_leads join (then_maybe_leads x (many_meets item apart) apart) in
      record { meets = record { exact = weaker (λ t. operator t || goes t) (sees_twice operator goes) all.meets.exact; local = all.meets.local }; solid = all.solid }

pub chain_plain : {T A : Type 0} {L : Lang T A} (join : A × List (T × A) → A) (operator : T → Bool) → Plain L → Plain (valued join (both L (many (both (one operator) L))))
chain_plain join operator x = valued_plain join (both_plain x (many_plain (both_plain (one_plain operator) x)))
