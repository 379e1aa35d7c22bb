-- Neither a sentence nor a beginning depends on what stands behind it; a limit on tokens.
use Rattle.std.proofs.Common.{◌≡◌, ℕ, ◌+◌, ◌-◌, ◌≤◌, Bool, false, List, [], ◌∷◌, ◌++◌, length, take, drop, Ok, Err, refl, sym, ap, subst, ◌∙◌, arith, inl, inr, length-append, length-drop, length-take}
use Rattle.std.proofs.lemmas.List.{take-append-drop, drop-append-le}
use Rattle.token_lang.specs.Lang.{Lang, one, nothing, never, both, either, valued, many, reads_all, at_most}
use Rattle.token_lang.specs.Run.{Outcome, Reader, sees, left, before, run_at_most}
use Rattle.token_lang.proofs.Both.{fits_shorter}
use Rattle.token_lang.specs.Exact.{Fits, Exact, Solid, Local}

nil_less : {T : Type 0} (ts s rest w : List T) → ts ≡ s ++ w → ts ≡ rest → (r : List T) × (rest ≡ r ++ w) × (s ≡ r)
nil_less ts s rest w e h = (s, sym h ∙ e, refl)

one_less : {T : Type 0} (is : T → Bool) (ts s : List T) (t : T) (rest w : List T) → ts ≡ s ++ w → (one is).reads ts t rest → length w ≤ length rest → (r : List T) × (rest ≡ r ++ w) × (one is).reads s t r
one_less is ts [] t rest w e (h, k) room = let n = ap length (sym e ∙ h) in absurd (omega arith)
one_less is ts (u ∷ s) t rest w e (h, k) room = (s, cc, (cc, k))

one_less_begins : {T : Type 0} (is : T → Bool) (ts s rest w : List T) → ts ≡ s ++ w → (one is).begins ts rest → length w ≤ length rest → (r : List T) × (rest ≡ r ++ w) × (one is).begins s r
one_less_begins is ts s rest w e (inl h) room = (s, sym h ∙ e, inl refl)
one_less_begins is ts s rest w e (inr (t, h, k)) room = let l = one_less is ts s t rest w e (h, k) room in (l.0, l.1, inr (t, l.2.0, l.2.1))

one_more_begins : {T : Type 0} (is : T → Bool) (ts rest w : List T) → (one is).begins ts rest → (one is).begins (ts ++ w) (rest ++ w)
one_more_begins is ts rest w (inl h) = inl (ap (λ u. u ++ w) h)
one_more_begins is ts rest w (inr (t, h, k)) = inr (t, ap (λ u. u ++ w) h, k)

one_short : {T : Type 0} (is : T → Bool) (ts rest : List T) → (one is).begins ts rest → length rest ≤ length ts
one_short is ts rest (inl e) = rw e (omega arith)
one_short is ts rest (inr (t, e, h)) = rw e (omega arith)

pub one_local : {T : Type 0} (is : T → Bool) → Local (one is)
one_local is = record {
  shorter = λ ts t rest r. rw (r.0) (omega arith);
  short = one_short is;
  more = λ ts t rest w r. (ap (λ u. u ++ w) r.0, r.1);
  more_begins = one_more_begins is;
  less = one_less is;
  less_begins = one_less_begins is;
}

pub nothing_local : {T : Type 0} → Local {T = T} nothing
nothing_local = record {
  shorter = λ ts t rest r. rw r (omega arith);
  short = λ ts rest r. rw r (omega arith);
  more = λ ts t rest w r. ap (λ u. u ++ w) r;
  more_begins = λ ts rest w r. ap (λ u. u ++ w) r;
  less = λ ts s t rest w e r _. nil_less ts s rest w e r;
  less_begins = λ ts s rest w e r _. nil_less ts s rest w e r;
}

pub never_local : {T A : Type 0} → Local {T = T} {A = A} never
never_local = record {
  shorter = λ ts t rest r. absurd r;
  short = λ ts rest r. rw r (omega arith);
  more = λ ts t rest w r. absurd r;
  more_begins = λ ts rest w r. ap (λ u. u ++ w) r;
  less = λ ts s t rest w e r _. absurd r;
  less_begins = λ ts s rest w e r _. nil_less ts s rest w e r;
}

pub valued_local : {T A B : Type 0} {D : Lang T A} (make : A → B) → Local D → Local (valued make D)
valued_local make x = record {
  shorter = λ ts t rest r. x.shorter ts r.0 rest r.1;
  short = x.short;
  more = λ ts t rest w r. (r.0, x.more ts r.0 rest w r.1, r.2);
  more_begins = x.more_begins;
  less = λ ts s t rest w e r room. let l = x.less ts s r.0 rest w e r.1 room in (l.0, l.1, (r.0, l.2, r.2));
  less_begins = x.less_begins;
}

module _ {T A B : Type 0} {D : Lang T A} {E : Lang T B} (x : Local D) (y : Local E) where
  both_short : (ts rest : List T) → (both D E).begins ts rest → length rest ≤ length ts
  both_short ts rest (inl d) = x.short ts rest d
  both_short ts rest (inr (a, mid, d, e)) = let b = x.shorter ts a mid d in let c = y.short mid rest e in omega arith

  both_more_begins : (ts rest w : List T) → (both D E).begins ts rest → (both D E).begins (ts ++ w) (rest ++ w)
  both_more_begins ts rest w (inl h) = inl (x.more_begins ts rest w h)
  both_more_begins ts rest w (inr (a, mid, h, k)) = inr (a, mid ++ w, x.more ts a mid w h, y.more_begins mid rest w k)

  both_less : (ts s : List T) (ab : A × B) (rest w : List T) → ts ≡ s ++ w → (both D E).reads ts ab rest → length w ≤ length rest → (r : List T) × (rest ≡ r ++ w) × (both D E).reads s ab r
  both_less ts s ab rest w e (mid, d, k) room =
      let n = y.shorter mid ab.1 rest k in
      let l = x.less ts s ab.0 mid w e d (omega arith) in
      let m = y.less mid l.0 ab.1 rest w l.1 k room in
      (m.0, m.1, (l.0, l.2, m.2))

  both_less_begins : (ts s rest w : List T) → ts ≡ s ++ w → (both D E).begins ts rest → length w ≤ length rest → (r : List T) × (rest ≡ r ++ w) × (both D E).begins s r
  both_less_begins ts s rest w e (inl h) room = let l = x.less_begins ts s rest w e h room in (l.0, l.1, inl l.2)
  both_less_begins ts s rest w e (inr (a, mid, d, k)) room =
      let n = y.short mid rest k in
      let l = x.less ts s a mid w e d (omega arith) in
      let m = y.less_begins mid l.0 rest w l.1 k room in
      (m.0, m.1, inr (a, l.0, l.2, m.2))

  pub both_local : Local (both D E)
  both_local = record {
    shorter = λ ts ab rest r. (let n = x.shorter ts ab.0 r.0 r.1 in let m = y.shorter r.0 ab.1 rest r.2 in omega arith);
    short = both_short;
    more = λ ts ab rest w r. (r.0 ++ w, x.more ts ab.0 r.0 w r.1, y.more r.0 ab.1 rest w r.2);
    more_begins = both_more_begins;
    less = both_less;
    less_begins = both_less_begins;
  }

module _ {T A : Type 0} {D E : Lang T A} (x : Local D) (y : Local E) where
  either_shorter : (ts : List T) (a : A) (rest : List T) → (either D E).reads ts a rest → length rest ≤ length ts
  either_shorter ts a rest (inl h) = x.shorter ts a rest h
  either_shorter ts a rest (inr h) = y.shorter ts a rest h

  either_more : (ts : List T) (a : A) (rest w : List T) → (either D E).reads ts a rest → (either D E).reads (ts ++ w) a (rest ++ w)
  either_more ts a rest w (inl h) = inl (x.more ts a rest w h)
  either_more ts a rest w (inr h) = inr (y.more ts a rest w h)

  either_more_begins : (ts rest w : List T) → (either D E).begins ts rest → (either D E).begins (ts ++ w) (rest ++ w)
  either_more_begins ts rest w (inl h) = inl (x.more_begins ts rest w h)
  either_more_begins ts rest w (inr h) = inr (y.more_begins ts rest w h)

  either_less : (ts s : List T) (a : A) (rest w : List T) → ts ≡ s ++ w → (either D E).reads ts a rest → length w ≤ length rest → (r : List T) × (rest ≡ r ++ w) × (either D E).reads s a r
  either_less ts s a rest w e (inl h) room = let l = x.less ts s a rest w e h room in (l.0, l.1, inl l.2)
  either_less ts s a rest w e (inr h) room = let l = y.less ts s a rest w e h room in (l.0, l.1, inr l.2)

  either_less_begins : (ts s rest w : List T) → ts ≡ s ++ w → (either D E).begins ts rest → length w ≤ length rest → (r : List T) × (rest ≡ r ++ w) × (either D E).begins s r
  either_less_begins ts s rest w e (inl h) room = let l = x.less_begins ts s rest w e h room in (l.0, l.1, inl l.2)
  either_less_begins ts s rest w e (inr h) room = let l = y.less_begins ts s rest w e h room in (l.0, l.1, inr l.2)

  either_short : (ts rest : List T) → (either D E).begins ts rest → length rest ≤ length ts
  either_short ts rest (inl h) = x.short ts rest h
  either_short ts rest (inr h) = y.short ts rest h

  pub either_local : Local (either D E)
  either_local = record {
    shorter = either_shorter;
    short = either_short;
    more = either_more;
    more_begins = either_more_begins;
    less = either_less;
    less_begins = either_less_begins;
  }

module _ {T A : Type 0} {D : Lang T A} (x : Local D) where
  all_shorter : (all : List A) (ts rest : List T) → reads_all D.reads ts all rest → length rest ≤ length ts
  all_shorter [] ts rest e = rw e (omega arith)
  all_shorter (a ∷ all) ts rest (mid, d, r) = let h = x.shorter ts a mid d in let k = all_shorter all mid rest r in omega arith

  all_more : (all : List A) (ts rest w : List T) → reads_all D.reads ts all rest → reads_all D.reads (ts ++ w) all (rest ++ w)
  all_more [] ts rest w e = ap (λ u. u ++ w) e
  all_more (a ∷ all) ts rest w (mid, d, r) = (mid ++ w, x.more ts a mid w d, all_more all mid rest w r)

  many_more_begins : (ts rest w : List T) → (many D).begins ts rest → (many D).begins (ts ++ w) (rest ++ w)
  many_more_begins ts rest w (all, mid, r, inl e) = (all, mid ++ w, all_more all ts mid w r, inl (ap (λ u. u ++ w) e))
  many_more_begins ts rest w (all, mid, r, inr b) = (all, mid ++ w, all_more all ts mid w r, inr (x.more_begins mid rest w b))

  all_less : (all : List A) (ts s rest w : List T) → ts ≡ s ++ w → reads_all D.reads ts all rest → length w ≤ length rest → (r : List T) × (rest ≡ r ++ w) × reads_all D.reads s all r
  all_less [] ts s rest w e h room = nil_less ts s rest w e h
  all_less (a ∷ all) ts s rest w e (mid, d, k) room =
      let n = all_shorter all mid rest k in
      let l = x.less ts s a mid w e d (omega arith) in
      let m = all_less all mid l.0 rest w l.1 k room in
      (m.0, m.1, (l.0, l.2, m.2))

  many_less_begins : (ts s rest w : List T) → ts ≡ s ++ w → (many D).begins ts rest → length w ≤ length rest → (r : List T) × (rest ≡ r ++ w) × (many D).begins s r
  many_less_begins ts s rest w e (all, mid, k, inl h) room =
      let l = all_less all ts s mid w e k (rw h room) in
      (l.0, sym h ∙ l.1, (all, l.0, l.2, inl refl))
  many_less_begins ts s rest w e (all, mid, k, inr b) room =
      let n = x.short mid rest b in
      let l = all_less all ts s mid w e k (omega arith) in
      let m = x.less_begins mid l.0 rest w l.1 b room in
      (m.0, m.1, (all, l.0, l.2, inr m.2))

  many_short : (ts rest : List T) → (many D).begins ts rest → length rest ≤ length ts
  many_short ts rest (all, mid, r, inl e) = rw (← e) (all_shorter all ts mid r)
  many_short ts rest (all, mid, r, inr b) = let h = all_shorter all ts mid r in let k = x.short mid rest b in omega arith

  pub many_local : Local (many D)
  many_local = record {
    shorter = λ ts all rest r. all_shorter all ts rest r;
    short = many_short;
    more = λ ts all rest w r. all_more all ts rest w r;
    more_begins = many_more_begins;
    less = λ ts s all rest w e r room. all_less all ts s rest w e r room;
    less_begins = many_less_begins;
  }

-- ---- a limit on tokens

module _ {T A : Type 0} {D : Lang T A} (n : ℕ) (x : Local D) where
  limit_fits : (ts : List T) (r : Outcome T A) → Fits D (take n ts) r → left r ≤ length (take n ts) → Fits (at_most n D) ts (before (drop n ts) r)
  limit_fits ts (Ok p) h room =
      let d = x.more (take n ts) p.0 p.1 (drop n ts) h in
      (subst (λ u. D.reads u p.0 (p.1 ++ drop n ts)) (take-append-drop n ts) d, rw length-append (omega (arith, length-drop n ts, length-take n ts)))
  limit_fits ts (Err rest) h room =
      let d = x.more_begins (take n ts) rest (drop n ts) h in
      (subst (λ u. D.begins u (rest ++ drop n ts)) (take-append-drop n ts) d, rw length-append (omega (arith, length-drop n ts, length-take n ts)))

  left_before : (w : List T) (r : Outcome T A) → left (before w r) ≡ left r + length w
  left_before w (Ok p) = length-append p.1 w
  left_before w (Err rest) = length-append rest w

  stops_front : (goes : T → Bool) (r w : List T) → sees goes (r ++ w) ≡ false → sees goes r ≡ false
  stops_front goes [] w h = refl
  stops_front goes (t ∷ r) w h = h

  limit_at : {f : Reader T A} {first goes : T → Bool} → Exact D f first goes → (ts : List T) (a : A) (rest r : List T) → rest ≡ r ++ drop n ts → D.reads (take n ts) a r → sees goes rest ≡ false → run_at_most n f ts ≡ Ok (a, rest)
  limit_at {f} {first} {goes} y ts a rest r e d s = rw (y.only (take n ts) a r d (stops_front goes r (drop n ts) (rw e at s)), e) refl

  limit_only : {f : Reader T A} {first goes : T → Bool} → Exact D f first goes → (ts : List T) (a : A) (rest : List T) → (at_most n D).reads ts a rest → sees goes rest ≡ false → run_at_most n f ts ≡ Ok (a, rest)
  limit_only y ts a rest (d, room) s =
      let l = x.less ts (take n ts) a rest (drop n ts) (sym (take-append-drop n ts)) d (omega (arith, length-drop n ts)) in
      limit_at y ts a rest l.0 l.1 l.2 s

  limit_longest : {f : Reader T A} {first goes : T → Bool} → Exact D f first goes → (ts rest : List T) → (at_most n D).begins ts rest → left (run_at_most n f ts) ≤ length rest
  limit_longest {f} y ts rest (b, room) =
      let l = x.less_begins ts (take n ts) rest (drop n ts) (sym (take-append-drop n ts)) b (omega (arith, length-drop n ts)) in
      let k = y.longest (take n ts) l.0 l.2 in
      rw (left_before, l.1, length-append) (omega arith)

  pub limit_exact : {f : Reader T A} {first goes : T → Bool} → Exact D f first goes → Exact (at_most n D) (run_at_most n f) first goes
  limit_exact {f} y = record {
    fits = λ ts. limit_fits ts (f (take n ts)) (y.fits (take n ts)) (fits_shorter y (take n ts) (f (take n ts)) (y.fits (take n ts)));
    only = limit_only y;
    longest = limit_longest y;
    whole = λ ts a rest r. (y.whole ts a rest r.0, r.1);
    starts = λ ts rest b. y.starts ts rest b.0;
    shorter = λ ts rest b. y.shorter ts rest b.0;
  }

  pub limit_solid : {first : T → Bool} → Solid D first → Solid (at_most n D) first
  limit_solid s = record { some = λ ts a rest r. s.some ts a rest r.0 }

  -- the limit itself doesn't depend on what stands behind
  limit_less : (ts s : List T) (a : A) (rest w : List T) → ts ≡ s ++ w → (at_most n D).reads ts a rest → length w ≤ length rest → (r : List T) × (rest ≡ r ++ w) × (at_most n D).reads s a r
  limit_less ts s a rest w e (d, k) room = let l = x.less ts s a rest w e d room in let p = ap length e ∙ length-append s w in let q = ap length l.1 ∙ length-append l.0 w in (l.0, l.1, (l.2, omega arith))

  limit_less_begins : (ts s rest w : List T) → ts ≡ s ++ w → (at_most n D).begins ts rest → length w ≤ length rest → (r : List T) × (rest ≡ r ++ w) × (at_most n D).begins s r
  limit_less_begins ts s rest w e (d, k) room = let l = x.less_begins ts s rest w e d room in let p = ap length e ∙ length-append s w in let q = ap length l.1 ∙ length-append l.0 w in (l.0, l.1, (l.2, omega arith))

  pub limit_local : Local (at_most n D)
  limit_local = record {
    shorter = λ ts a rest r. x.shorter ts a rest r.0;
    short = λ ts rest r. x.short ts rest r.0;
    more = λ ts a rest w r. (x.more ts a rest w r.0, (let k = r.1 in omega (arith, length-append ts w, length-append rest w)));
    more_begins = λ ts rest w r. (x.more_begins ts rest w r.0, (let k = r.1 in omega (arith, length-append ts w, length-append rest w)));
    less = limit_less;
    less_begins = limit_less_begins;
  }

-- ---- what is left is the end of what there was

alone : {T : Type 0} (r rest w : List T) → rest ≡ r ++ w → length rest ≡ length w → rest ≡ w
alone [] rest w e h = e
alone (t ∷ r) rest w e h = let k = ap length e ∙ length-append (t ∷ r) w in absurd (omega arith)

pub is_end : {T A : Type 0} {L : Lang T A} → Local L → (ts : List T) (a : A) (rest : List T) → L.reads ts a rest → rest ≡ drop (length ts - length rest) ts
is_end x ts a rest h =
    let n = length ts - length rest in
    let room = x.shorter ts a rest h in
    let l = x.less ts (take n ts) a rest (drop n ts) (sym (take-append-drop n ts)) h (omega (arith, length-drop n ts)) in
    alone l.0 rest (drop n ts) l.1 (omega (arith, length-drop n ts))

pub is_end_begins : {T A : Type 0} {L : Lang T A} → Local L → (ts rest : List T) → length rest ≤ length ts → L.begins ts rest → rest ≡ drop (length ts - length rest) ts
is_end_begins x ts rest room h =
    let n = length ts - length rest in
    let l = x.less_begins ts (take n ts) rest (drop n ts) (sym (take-append-drop n ts)) h (omega (arith, length-drop n ts)) in
    alone l.0 rest (drop n ts) l.1 (omega (arith, length-drop n ts))

-- the rest of the front, with what stands behind the front
pub end_of_front : {T : Type 0} (n : ℕ) (ts r : List T) → length r ≤ length (take n ts) → r ≡ drop (length (take n ts) - length r) (take n ts) → r ++ drop n ts ≡ drop (length (take n ts) - length r) ts
end_of_front n ts r room e =
    let k = length (take n ts) - length r in
    let whole = drop-append-le k (take n ts) (drop n ts) (omega arith) in
    ap (λ u. u ++ drop n ts) e ∙ sym whole ∙ ap (drop k) (take-append-drop n ts)
