-- Beginnings go on to sentences.
use Rattle.std.proofs.Common.{◌≡◌, ℕ, suc, Bool, true, List, [], ◌∷◌, ◌++◌, refl, sym, ap, subst, ◌∙◌, inl, inr, append_assoc, append-nil}
use Rattle.token_lang.specs.Lang.{Lang, one, nothing, never, both, either, valued, many, reads_all, at_most, any_of}
use Rattle.token_lang.specs.Exact.{Local, Grows}

module _ {T : Type 0} (is : T → Bool) (t : T) (h : is t ≡ true) where
  one_goes_on : (ts : List T) → (one is).begins ts [] → (more : List T) × (a : T) × (one is).reads (ts ++ more) a []
  one_goes_on ts (inl e) = (t ∷ [], t, (ap (λ u. u ++ t ∷ []) e, h))
  one_goes_on ts (inr (u, e, k)) = ([], u, (append-nil ts ∙ e, k))

  pub one_grows : Grows (one is) (one is)
  one_grows = record { into = λ ts a rest r. r; goes_on = one_goes_on; witness = (t ∷ [], t, (refl, h)) }

pub nothing_grows : {T : Type 0} → Grows {T = T} nothing nothing
nothing_grows = record { into = λ ts a rest r. r; goes_on = λ ts e. ([], tt, append-nil ts ∙ e); witness = ([], tt, refl) }

pub never_grows : {T A : Type 0} (L : Lang T A) → (ts : List T) × (a : A) × L.reads ts a [] → Grows never L
never_grows L w = record {
  into = λ ts a rest r. absurd r;
  goes_on = λ ts e. (w.0, w.1, subst (λ u. L.reads (u ++ w.0) w.1 []) (sym e) w.2);
  witness = w;
}

module _ {T A B : Type 0} {D D' : Lang T A} {E E' : Lang T B} (x : Grows D D') (y : Grows E E') (l : Local D') where
  then_witness : (ts : List T) (a : A) → D'.reads ts a [] → (more : List T) × (ab : A × B) × (both D' E').reads (ts ++ more) ab []
  then_witness ts a r = let w = y.witness in (w.0, (a, w.1), (w.0, l.more ts a [] w.0 r, w.2))

  further : (ts more : List T) → (m : List T) × (ab : A × B) × (both D' E').reads ((ts ++ more) ++ m) ab [] → (m : List T) × (ab : A × B) × (both D' E').reads (ts ++ m) ab []
  further ts more (m, ab, r) = (more ++ m, ab, subst (λ u. (both D' E').reads u ab []) (append_assoc ts more m) r)

  both_goes_on : (ts : List T) → (both D E).begins ts [] → (more : List T) × (ab : A × B) × (both D' E').reads (ts ++ more) ab []
  both_goes_on ts (inl b) = let g = x.goes_on ts b in further ts g.0 (then_witness (ts ++ g.0) g.1 g.2)
  both_goes_on ts (inr (a, mid, d, e)) = let g = y.goes_on mid e in (g.0, (a, g.1), (mid ++ g.0, l.more ts a mid g.0 (x.into ts a mid d), g.2))

  both_witness : (ts : List T) × (ab : A × B) × (both D' E').reads ts ab []
  both_witness = let w = x.witness in let m = then_witness w.0 w.1 w.2 in (w.0 ++ m.0, m.1, m.2)

  pub both_grows : Grows (both D E) (both D' E')
  both_grows = record { into = λ ts ab rest r. (r.0, x.into ts ab.0 r.0 r.1, y.into r.0 ab.1 rest r.2); goes_on = both_goes_on; witness = both_witness }

module _ {T A : Type 0} {D D' E E' : Lang T A} (x : Grows D D') (y : Grows E E') where
  either_into : (ts : List T) (a : A) (rest : List T) → (either D E).reads ts a rest → (either D' E').reads ts a rest
  either_into ts a rest (inl r) = inl (x.into ts a rest r)
  either_into ts a rest (inr r) = inr (y.into ts a rest r)

  either_goes_on : (ts : List T) → (either D E).begins ts [] → (more : List T) × (a : A) × (either D' E').reads (ts ++ more) a []
  either_goes_on ts (inl b) = let g = x.goes_on ts b in (g.0, g.1, inl g.2)
  either_goes_on ts (inr b) = let g = y.goes_on ts b in (g.0, g.1, inr g.2)

  pub either_grows : Grows (either D E) (either D' E')
  either_grows = record { into = either_into; goes_on = either_goes_on; witness = (x.witness.0, x.witness.1, inl x.witness.2) }

pub valued_grows : {T A B : Type 0} {D D' : Lang T A} (make : A → B) → Grows D D' → Grows (valued make D) (valued make D')
valued_grows make x = record {
  into = λ ts b rest r. (r.0, x.into ts r.0 rest r.1, r.2);
  goes_on = λ ts b. (let g = x.goes_on ts b in (g.0, make g.1, (g.1, g.2, refl)));
  witness = (x.witness.0, make x.witness.1, (x.witness.1, x.witness.2, refl));
}

module _ {T A : Type 0} {D D' : Lang T A} (x : Grows D D') (l : Local D') where
  all_into : (all : List A) (ts rest : List T) → reads_all D.reads ts all rest → reads_all D'.reads ts all rest
  all_into [] ts rest e = e
  all_into (a ∷ all) ts rest (mid, d, r) = (mid, x.into ts a mid d, all_into all mid rest r)

  -- and one more item
  all_more : (all : List A) (ts mid more : List T) (a : A) → reads_all D'.reads ts all mid → D'.reads (mid ++ more) a [] → reads_all D'.reads (ts ++ more) (all ++ a ∷ []) []
  all_more [] ts mid more a e d = ([], subst (λ u. D'.reads (u ++ more) a []) (sym e) d, refl)
  all_more (b ∷ all) ts mid more a (m, d', r) d = (m ++ more, l.more ts b m more d', all_more all m mid more a r d)

  many_goes_on : (ts : List T) → (many D).begins ts [] → (more : List T) × (all : List A) × (many D').reads (ts ++ more) all []
  many_goes_on ts (all, mid, r, inl e) = ([], all, subst (λ u. reads_all D'.reads u all []) (sym (append-nil ts)) (subst (λ u. reads_all D'.reads ts all u) e (all_into all ts mid r)))
  many_goes_on ts (all, mid, r, inr b) = let g = x.goes_on mid b in (g.0, all ++ g.1 ∷ [], all_more all ts mid g.0 g.1 (all_into all ts mid r) g.2)

  pub many_grows : Grows (many D) (many D')
  many_grows = record { into = λ ts all rest r. all_into all ts rest r; goes_on = many_goes_on; witness = ([], [], refl) }

pub limit_grows : {T A : Type 0} {D D' : Lang T A} (n : ℕ) → Grows D D' → Grows (at_most n D) D'
limit_grows n x = record { into = λ ts a rest r. x.into ts a rest r.0; goes_on = λ ts b. x.goes_on ts b.0; witness = x.witness }

-- one of a family grows into all of them
pub any_grows : {T A : Type 0} (F : ℕ → Lang T A) (n : ℕ) → Grows (F n) (F (suc n)) → Grows (F n) (any_of F)
any_grows F n x = record {
  into = λ ts a rest r. (n, r);
  goes_on = λ ts b. (let g = x.goes_on ts b in (g.0, g.1, (suc n, g.2)));
  witness = (x.witness.0, x.witness.1, (suc n, x.witness.2));
}

any_more : {T A : Type 0} (F : ℕ → Lang T A) → ((n : ℕ) → Local (F n)) → (ts : List T) (a : A) (rest w : List T) → (any_of F).reads ts a rest → (any_of F).reads (ts ++ w) a (rest ++ w)
any_more F l ts a rest w (n, r) = (n, (l n).more ts a rest w r)

pub any_local : {T A : Type 0} (F : ℕ → Lang T A) → ((n : ℕ) → Local (F n)) → Local (any_of F)
any_local F l = record {
  shorter = λ ts a rest r. (l r.0).shorter ts a rest r.1;
  short = λ ts rest b. (l b.0).short ts rest b.1;
  more = any_more F l;
  more_begins = λ ts rest w b. (b.0, (l b.0).more_begins ts rest w b.1);
  less = λ ts s a rest w e r room. (let h = (l r.0).less ts s a rest w e r.1 room in (h.0, h.1, (r.0, h.2)));
  less_begins = λ ts s rest w e b room. (let h = (l b.0).less_begins ts s rest w e b.1 room in (h.0, h.1, (b.0, h.2)));
}

-- where each of a family grows into all of them, so do all
pub all_grow : {T A : Type 0} (F : ℕ → Lang T A) → ((n : ℕ) → Grows (F n) (any_of F)) → Grows (any_of F) (any_of F)
all_grow F x = record { into = λ ts a rest r. r; goes_on = λ ts b. (x b.0).goes_on ts b.1; witness = (x 0).witness }
