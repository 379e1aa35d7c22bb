use Rattle.std.proofs.Common.{◌≡◌, suc, ◌≤◌, Bool, true, false, List, [], ◌∷◌, ◌⊎◌, length, Ok, Err, refl, arith, inl, inr}
use Rattle.std.specs.Prelude.{if◌then◌else◌}
use Rattle.token_lang.specs.Lang.{Lang, one, nothing, never, valued}
use Rattle.token_lang.specs.Run.{Outcome, Reader, sees, left, made, run_one}
use Rattle.token_lang.specs.Exact.{Fits, Exact, Solid}

-- ---- one token

pub one_fits : {T : Type 0} (is : T → Bool) (ts : List T) → Fits (one is) ts (run_one is ts)
one_fits is [] = inl refl
one_fits {T} is (t ∷ ts) =
    let P : (b : Bool) → Type 0 = λ b. is t ≡ b → Fits (one is) (t ∷ ts) (if b then Ok (t, ts) else Err (t ∷ ts)) in
    let h : P (is t) = elim (is t) as P [ true ↦ λ e. (refl, e) | false ↦ λ e. inl refl ] in h refl

pub one_only : {T : Type 0} (is : T → Bool) (ts : List T) (a : T) (rest : List T) → (one is).reads ts a rest → run_one is ts ≡ Ok (a, rest)
one_only is ts a rest (e, h) = rw (e, h) refl

pub one_longest : {T : Type 0} (is : T → Bool) (ts rest : List T) → (one is).begins ts rest → left (run_one is ts) ≤ length rest
one_longest is [] rest (inl e) = rw (← e) (omega arith)
one_longest is (t ∷ ts) rest (inl e) =
    let P : (b : Bool) → Type 0 = λ b. left (if b then Ok (t, ts) else Err (t ∷ ts)) ≤ suc (length ts) in
    let h : P (is t) = elim (is t) as P [ true ↦ omega arith | false ↦ omega arith ] in
    rw (← e) h
one_longest is ts rest (inr (t, e, h)) = rw (e, h) (omega arith)

pub one_starts : {T : Type 0} (is : T → Bool) (ts rest : List T) → (one is).begins ts rest → (sees is ts ≡ true) ⊎ (ts ≡ rest)
one_starts is ts rest (inl e) = inr e
one_starts is ts rest (inr (t, e, h)) = inl (rw e h)

pub one_shorter : {T : Type 0} (is : T → Bool) (ts rest : List T) → (one is).begins ts rest → length rest ≤ length ts
one_shorter is ts rest (inl e) = rw e (omega arith)
one_shorter is ts rest (inr (t, e, h)) = rw e (omega arith)

pub one_exact : {T : Type 0} (is : T → Bool) → Exact (one is) (run_one is) is (λ _. false)
one_exact is = record {
  fits = one_fits is;
  only = λ ts a rest r _. one_only is ts a rest r;
  longest = one_longest is;
  whole = λ ts a rest r. inr (a, r.0, r.1);
  starts = one_starts is;
  shorter = one_shorter is;
}

pub one_solid : {T : Type 0} (is : T → Bool) → Solid (one is) is
one_solid is = record { some = λ ts a rest r. rw (r.0) (r.1, omega arith) }

-- ---- nothing, and what is shut out

pub nothing_exact : {T : Type 0} → Exact {T = T} nothing (λ ts. Ok (tt, ts)) (λ _. false) (λ _. false)
nothing_exact = record {
  fits = λ ts. refl;
  only = λ ts a rest e _. rw e refl;
  longest = λ ts rest e. rw e (omega arith);
  whole = λ ts a rest e. e;
  starts = λ ts rest e. inr e;
  shorter = λ ts rest e. rw e (omega arith);
}

pub never_exact : {T A : Type 0} (first goes : T → Bool) → Exact {T = T} {A = A} never (λ ts. Err ts) first goes
never_exact first goes = record {
  fits = λ ts. refl;
  only = λ ts a rest e _. absurd e;
  longest = λ ts rest e. rw e (omega arith);
  whole = λ ts a rest e. absurd e;
  starts = λ ts rest e. inr e;
  shorter = λ ts rest e. rw e (omega arith);
}

pub never_solid : {T A : Type 0} (first : T → Bool) → Solid {T = T} {A = A} never first
never_solid first = record { some = λ ts a rest e. absurd e }

-- ---- another value

pub made_fits : {T A B : Type 0} (make : A → B) (L : Lang T A) (ts : List T) (r : Outcome T A) → Fits L ts r → Fits (valued make L) ts (made make r)
made_fits make L ts (Ok p) h = (p.0, h, refl)
made_fits make L ts (Err rest) h = h

pub left_made : {T A B : Type 0} (make : A → B) (r : Outcome T A) → left (made make r) ≡ left r
left_made make (Ok p) = refl
left_made make (Err rest) = refl

pub valued_exact : {T A B : Type 0} {L : Lang T A} {f : Reader T A} {first goes : T → Bool} (make : A → B) → Exact L f first goes → Exact (valued make L) (λ ts. made make (f ts)) first goes
valued_exact {L} {f} make x = record {
  fits = λ ts. made_fits make L ts (f ts) (x.fits ts);
  only = λ ts b rest r s. rw (x.only ts r.0 rest r.1 s, r.2) refl;
  longest = λ ts rest h. rw left_made (x.longest ts rest h);
  whole = λ ts b rest r. x.whole ts r.0 rest r.1;
  starts = x.starts;
  shorter = x.shorter;
}

pub valued_solid : {T A B : Type 0} {L : Lang T A} {first : T → Bool} (make : A → B) → Solid L first → Solid (valued make L) first
valued_solid make s = record { some = λ ts b rest r. s.some ts r.0 rest r.1 }
