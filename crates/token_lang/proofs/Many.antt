-- Any number, one after another, and a limit on tokens.
use Rattle.std.proofs.Common.{◌≡◌, ℕ, zero, suc, ◌≤◌, ◌<◌, Bool, true, false, List, [], ◌∷◌, ◌⊎◌, length, Ok, Err, refl, sym, ap, subst, ◌∙◌, arith, inl, inr}
use Rattle.std.specs.Prelude.{if◌then◌else◌, ◌||◌}
use Rattle.token_lang.specs.Lang.{Lang, many, reads_all}
use Rattle.token_lang.specs.Run.{Outcome, Reader, sees, left, and_then, made, run_many}
use Rattle.token_lang.specs.Exact.{Fits, Apart, Exact, Solid}
use Rattle.token_lang.proofs.Base.{left_made}
use Rattle.token_lang.proofs.Both.{apart_sees, sees_none}

module _ {T A : Type 0} (D : Lang T A) (f : Reader T A) (first goes : T → Bool) (x : Exact D f first goes) (sd : Solid D first) where
  turn : ℕ → List T → Outcome T (List A)
  turn n ts = and_then (f ts) (λ a mid. made (λ all. a ∷ all) (run_many first f n mid))

  many_mid : (ts : List T) (a : A) (mid : List T) → D.reads ts a mid → (r : Outcome T (List A)) → Fits (many D) mid r → Fits (many D) ts (made (λ all. a ∷ all) r)
  many_mid ts a mid d (Ok p) h = (mid, d, h)
  many_mid ts a mid d (Err rest) (all, end, h, b) = (a ∷ all, end, (mid, d, h), b)

  many_turn : (n : ℕ) → ((ts : List T) → Fits (many D) ts (run_many first f n ts)) → (ts : List T) (r : Outcome T A) → Fits D ts r
      → Fits (many D) ts (and_then r (λ a mid. made (λ all. a ∷ all) (run_many first f n mid)))
  many_turn n ih ts (Ok p) h = many_mid ts p.0 p.1 h (run_many first f n p.1) (ih p.1)
  many_turn n ih ts (Err rest) h = ([], ts, refl, inr h)

  many_choice : (n : ℕ) → ((ts : List T) → Fits (many D) ts (run_many first f n ts)) → (ts : List T) (b : Bool)
      → Fits (many D) ts (if b then and_then (f ts) (λ a mid. made (λ all. a ∷ all) (run_many first f n mid)) else Ok ([], ts))
  many_choice n ih ts true = many_turn n ih ts (f ts) (x.fits ts)
  many_choice n ih ts false = refl

  many_fits : (n : ℕ) (ts : List T) → Fits (many D) ts (run_many first f n ts)
  many_fits zero ts = refl
  many_fits (suc n) ts = many_choice n (many_fits n) ts (sees first ts)

  all_shorter : (all : List A) (ts rest : List T) → reads_all D.reads ts all rest → length rest ≤ length ts
  all_shorter [] ts rest e = rw e (omega arith)
  all_shorter (a ∷ all) ts rest (mid, d, r) = let h = sd.some ts a mid d in let k = all_shorter all mid rest r in omega arith

  many_shorter : (ts rest : List T) → (many D).begins ts rest → length rest ≤ length ts
  many_shorter ts rest (all, mid, r, inl e) = rw (← e) (all_shorter all ts mid r)
  many_shorter ts rest (all, mid, r, inr b) = let h = all_shorter all ts mid r in let k = x.shorter mid rest b in omega arith

  many_starts : (ts rest : List T) → (many D).begins ts rest → (sees first ts ≡ true) ⊎ (ts ≡ rest)
  many_starts ts rest ([], mid, r, inl e) = inr (r ∙ e)
  many_starts ts rest ([], mid, r, inr b) = subst (λ u. (sees first u ≡ true) ⊎ (u ≡ rest)) (sym r) (x.starts mid rest b)
  many_starts ts rest (a ∷ all, mid, (m, d, r), _) = inl (sd.some ts a m d).0

  -- what follows an item begins with another one, or is the end
  next : (all : List A) (mid rest : List T) → reads_all D.reads mid all rest → (sees first mid ≡ true) ⊎ (mid ≡ rest)
  next [] mid rest e = inr e
  next (a ∷ all) mid rest (m, d, r) = inl (sd.some mid a m d).0

  stops : Apart first goes → (all : List A) (mid rest : List T) → reads_all D.reads mid all rest → sees goes rest ≡ false → sees goes mid ≡ false
  stops apart all mid rest r s = elim (next all mid rest r) as (λ _. sees goes mid ≡ false) [ inl h ↦ apart_sees first goes apart mid h | inr h ↦ rw h s ]

  no_turn : (n : ℕ) (ts : List T) → sees first ts ≡ false → run_many first f n ts ≡ Ok ([], ts)
  no_turn zero ts h = refl
  no_turn (suc n) ts h = rw h refl

  one_turn : (n : ℕ) (ts : List T) → sees first ts ≡ true → run_many first f (suc n) ts ≡ and_then (f ts) (λ a mid. made (λ all. a ∷ all) (run_many first f n mid))
  one_turn n ts h = rw h refl

  many_only : Apart first goes → (all : List A) (n : ℕ) (ts rest : List T) → length ts ≤ n → reads_all D.reads ts all rest
      → sees first rest ≡ false → sees goes rest ≡ false → run_many first f n ts ≡ Ok (all, rest)
  many_only apart [] n ts rest room e s s' = no_turn n ts (rw e s) ∙ rw e refl
  many_only apart (a ∷ all) zero ts rest room (mid, d, r) s s' = let h = sd.some ts a mid d in absurd (omega arith)
  many_only apart (a ∷ all) (suc n) ts rest room (mid, d, r) s s' =
      let h = sd.some ts a mid d in
      rw (one_turn n ts h.0, x.only ts a mid d (stops apart all mid rest r s'), many_only apart all n mid rest (omega arith) r s s') refl

  left_fits : (r : Outcome T (List A)) (ts : List T) → Fits (many D) ts r → left r ≤ length ts
  left_fits (Ok p) ts h = all_shorter p.0 ts p.1 h
  left_fits (Err rest) ts h = many_shorter ts rest h

  left_turn : (n : ℕ) (r : Outcome T A) → left {T = T} {A = List A} (and_then r (λ a mid. made (λ all. a ∷ all) (run_many first f n mid))) ≤ left r
  left_turn n (Ok p) = rw left_made (left_fits (run_many first f n p.1) p.1 (many_fits n p.1))
  left_turn n (Err rest) = omega arith

  some_length : (ts : List T) → sees first ts ≡ true → 0 < length ts
  some_length [] h = absurd (cc)
  some_length (t ∷ ts) h = omega arith

  Ends : List T → List T → Type 0
  Ends mid rest = (mid ≡ rest) ⊎ (D.begins mid rest × (sees first mid ≡ true))

  after_item : (all : List A) (m mid rest : List T) → reads_all D.reads m all mid → Ends mid rest → (sees first m ≡ true) ⊎ (m ≡ rest)
  unfolding Ends
  after_item all m mid rest r (inl e) = elim (next all m mid r) as (λ _. (sees first m ≡ true) ⊎ (m ≡ rest)) [ inl h ↦ inl h | inr h ↦ inr (h ∙ e) ]
  after_item all m mid rest r (inr (b, s)) = elim (next all m mid r) as (λ _. (sees first m ≡ true) ⊎ (m ≡ rest)) [ inl h ↦ inl h | inr h ↦ inl (rw h s) ]

  ends_longest : (all : List A) (n : ℕ) (ts mid rest : List T) → Apart first goes → length ts ≤ n → reads_all D.reads ts all mid → Ends mid rest → left (run_many first f n ts) ≤ length rest
  unfolding Ends
  ends_longest [] n ts mid rest apart room e (inl e') = let h = left_fits (run_many first f n ts) ts (many_fits n ts) in let k = ap length (e ∙ e') in omega arith
  ends_longest [] zero ts mid rest apart room e (inr (b, s)) = let h = some_length ts (rw e s) in absurd (omega arith)
  ends_longest [] (suc n) ts mid rest apart room e (inr (b, s)) =
      let h = left_turn n (f ts) in
      let k = x.longest ts rest (subst (λ u. D.begins u rest) (sym e) b) in
      rw (one_turn n ts (rw e s)) (omega arith)
  ends_longest (a ∷ all) zero ts mid rest apart room (m, d, r) end = let h = sd.some ts a m d in absurd (omega arith)
  ends_longest (a ∷ all) (suc n) ts mid rest apart room (m, d, r) end =
      let h = sd.some ts a m d in
      elim (after_item all m mid rest r end) as (λ _. left (run_many first f (suc n) ts) ≤ length rest) [
        | inl s ↦ rw (one_turn n ts h.0, x.only ts a m d (apart_sees first goes apart m s), left_made) (ends_longest all n m mid rest apart (omega arith) r end)
        | inr e ↦
            let k = left_turn n (f ts) in
            let b = x.longest ts rest (subst (λ u. D.begins ts u) e (x.whole ts a m d)) in
            rw (one_turn n ts h.0) (omega arith)
      ]

  ends : (mid rest : List T) → (mid ≡ rest) ⊎ D.begins mid rest → Ends mid rest
  unfolding Ends
  ends mid rest (inl e) = inl e
  ends mid rest (inr b) = elim (x.starts mid rest b) as (λ _. (mid ≡ rest) ⊎ (D.begins mid rest × (sees first mid ≡ true))) [ inl h ↦ inr (b, h) | inr h ↦ inl h ]

  pub many_exact : Apart first goes → Exact (many D) (λ ts. run_many first f (length ts) ts) first (λ t. first t || goes t)
  many_exact apart = record {
    fits = λ ts. many_fits (length ts) ts;
    only = λ ts all rest r s. let h = sees_none first goes rest s in many_only apart all (length ts) ts rest (omega arith) r h.0 h.1;
    longest = λ ts rest b. ends_longest b.0 (length ts) ts b.1 rest apart (omega arith) b.2 (ends b.1 rest b.3);
    whole = λ ts all rest r. (all, rest, r, inl refl);
    starts = many_starts;
    shorter = many_shorter;
  }

  -- the count of turns doesn't matter where it is enough
  enough_from : (n k : ℕ) (ts : List T) (r : Outcome T A) → Fits D ts r → length ts ≤ suc n → length ts ≤ suc k
      → ((m : List T) → length m ≤ n → length m ≤ k → run_many first f n m ≡ run_many first f k m)
      → and_then r (λ a mid. made (λ all. a ∷ all) (run_many first f n mid)) ≡ and_then r (λ a mid. made (λ all. a ∷ all) (run_many first f k mid))
  enough_from n k ts (Ok p) d room room' ih = let h = sd.some ts p.0 p.1 d in ap (made (λ all. p.0 ∷ all)) (ih p.1 (omega arith) (omega arith))
  enough_from n k ts (Err rest) d room room' ih = refl

  none_seen : (ts : List T) → length ts ≤ 0 → sees first ts ≡ false
  none_seen [] h = refl
  none_seen (t ∷ ts) h = absurd (omega arith)

  pub enough : (n k : ℕ) (ts : List T) → length ts ≤ n → length ts ≤ k → run_many first f n ts ≡ run_many first f k ts
  enough zero k ts room room' = sym (no_turn k ts (none_seen ts room))
  enough (suc n) zero ts room room' = no_turn (suc n) ts (none_seen ts room')
  enough (suc n) (suc k) ts room room' = ap (λ o. if sees first ts then o else Ok ([], ts)) (enough_from n k ts (f ts) (x.fits ts) room room' (λ m. enough n k m))
