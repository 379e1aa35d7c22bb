-- A sentence of all the tokens, or the place where the longest beginning ends.
use Rattle.std.proofs.Common.{◌≡◌, Bool, List, [], ◌∷◌, length, drop, arith, ◌-◌, Ok, Err, refl, sym, subst, ◌∙◌, ap}
use Rattle.token_lang.specs.Lang.{Lang}
use Rattle.token_lang.specs.Run.{Outcome, Reader, left, end_at, to_end}
use Rattle.token_lang.specs.Exact.{Fits, Exact, Local, IsLongest}
use Rattle.token_lang.proofs.Place.{is_end_begins}

module _ {T A : Type 0} {L : Lang T A} {f : Reader T A} {first goes : T → Bool} (x : Exact L f first goes) where
  found_at : (ts : List T) (a : A) (rest : List T) (b : A) (r : List T) → L.reads ts b r → end_at b r ≡ Ok (a, rest) → L.reads ts a []
  found_at ts a rest b [] h e = let q : ◌≡◌ {A = A × List T} (b, []) (a, rest) = cc in subst (λ c. L.reads ts c []) (ap (λ (p : A × List T). p.0) q) h
  found_at ts a rest b (t ∷ r) h e = absurd (cc)

  found_by : (ts : List T) (a : A) (rest : List T) (r : Outcome T A) → Fits L ts r → to_end r ≡ Ok (a, rest) → L.reads ts a []
  found_by ts a rest (Ok p) h e = found_at ts a rest p.0 p.1 h e
  found_by ts a rest (Err r) h e = absurd (cc)

  pub end_found : (ts : List T) (a : A) (rest : List T) → to_end (f ts) ≡ Ok (a, rest) → L.reads ts a []
  end_found ts a rest e = found_by ts a rest (f ts) (x.fits ts) e

  pub end_only : (ts : List T) (a : A) → L.reads ts a [] → to_end (f ts) ≡ Ok (a, [])
  end_only ts a r = rw (x.only ts a [] r refl) refl

  refused_at : (ts rest : List T) (b : A) (r : List T) → L.reads ts b r → end_at b r ≡ Err rest → L.begins ts rest × (length rest ≡ length r)
  refused_at ts rest b [] h e = absurd (cc)
  refused_at ts rest b (t ∷ r) h e = let k : t ∷ r ≡ rest = cc in (subst (λ c. L.begins ts c) k (x.whole ts b (t ∷ r) h), ap length (sym k))

  refused_by : (ts rest : List T) (r : Outcome T A) → Fits L ts r → to_end r ≡ Err rest → L.begins ts rest × (length rest ≡ left r)
  refused_by ts rest (Ok p) h e = refused_at ts rest p.0 p.1 h e
  refused_by ts rest (Err r) h e = let k : r ≡ rest = cc in (subst (λ c. L.begins ts c) k h, ap length (sym k))

  pub end_place : (ts rest : List T) → to_end (f ts) ≡ Err rest → IsLongest L ts rest
  end_place ts rest e = let h = refused_by ts rest (f ts) (x.fits ts) e in record { begins = h.0; longest = λ other b. rw (h.1) (x.longest ts other b) }

-- there is one such place
pub longest_one : {T A : Type 0} {L : Lang T A} → Local L → (ts rest rest' : List T) → IsLongest L ts rest → IsLongest L ts rest' → rest ≡ rest'
longest_one l ts rest rest' x y =
    let a = x.longest rest' y.begins in
    let b = y.longest rest x.begins in
    let same : length rest ≡ length rest' = omega arith in
    is_end_begins l ts rest (l.short ts rest x.begins) x.begins ∙ ap (λ n. drop (length ts - n) ts) same ∙ sym (is_end_begins l ts rest' (l.short ts rest' y.begins) y.begins)
