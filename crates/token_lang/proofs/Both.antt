-- One after the other, and one or the other.
use Rattle.std.proofs.Common.{◌≡◌, ◌≤◌, ◌<◌, Bool, true, false, List, [], ◌∷◌, ◌⊎◌, length, Ok, Err, refl, subst, ◌∙◌, arith, inl, inr}
use Rattle.std.specs.Prelude.{if◌then◌else◌, ◌||◌}
use Rattle.token_lang.specs.Lang.{Lang, both, either}
use Rattle.token_lang.specs.Run.{Outcome, Reader, sees, left, and_then, made, run_both, run_either}
use Rattle.token_lang.specs.Exact.{Fits, Apart, Exact, Solid}
use Rattle.token_lang.proofs.Base.{left_made}

pub apart_sees : {T : Type 0} (first goes : T → Bool) → Apart first goes → (ts : List T) → sees first ts ≡ true → sees goes ts ≡ false
apart_sees first goes apart [] h = refl
apart_sees first goes apart (t ∷ ts) h = apart t h

pub fits_shorter : {T A : Type 0} {L : Lang T A} {f : Reader T A} {first goes : T → Bool} → Exact L f first goes → (ts : List T) (r : Outcome T A) → Fits L ts r → left r ≤ length ts
fits_shorter x ts (Ok p) h = x.shorter ts p.1 (x.whole ts p.0 p.1 h)
fits_shorter x ts (Err rest) h = x.shorter ts rest h

or_false : (p q : Bool) → (p || q) ≡ false → (p ≡ false) × (q ≡ false)
or_false true q h = absurd (cc)
or_false false q h = (refl, h)

pub sees_none : {T : Type 0} (p q : T → Bool) (ts : List T) → sees (λ t. p t || q t) ts ≡ false → (sees p ts ≡ false) × (sees q ts ≡ false)
sees_none p q [] h = (refl, refl)
sees_none p q (t ∷ ts) h = or_false (p t) (q t) h

sees_left : {T : Type 0} (p q : T → Bool) (ts : List T) → sees p ts ≡ true → sees (λ t. p t || q t) ts ≡ true
sees_left p q [] h = h
sees_left p q (t ∷ ts) h = rw h refl

or_right : (p q : Bool) → q ≡ true → (p || q) ≡ true
or_right true q h = refl
or_right false q h = h

sees_right : {T : Type 0} (p q : T → Bool) (ts : List T) → sees q ts ≡ true → sees (λ t. p t || q t) ts ≡ true
sees_right p q [] h = h
sees_right p q (t ∷ ts) h = or_right (p t) (q t) h

fits_left : {T A : Type 0} (D E : Lang T A) (ts : List T) (r : Outcome T A) → Fits D ts r → Fits (either D E) ts r
fits_left D E ts (Ok p) h = inl h
fits_left D E ts (Err rest) h = inl h

fits_right : {T A : Type 0} (D E : Lang T A) (ts : List T) (r : Outcome T A) → Fits E ts r → Fits (either D E) ts r
fits_right D E ts (Ok p) h = inr h
fits_right D E ts (Err rest) h = inr h

module _ {T A B : Type 0} {D : Lang T A} {E : Lang T B} {f : Reader T A} {g : Reader T B} {first goes first' goes' : T → Bool}
    (x : Exact D f first goes) (y : Exact E g first' goes') where
  after_fits : (ts : List T) (a : A) (mid : List T) → D.reads ts a mid → (r : Outcome T B) → Fits E mid r → Fits (both D E) ts (made (λ b. (a, b)) r)
  after_fits ts a mid d (Ok p) h = (mid, d, h)
  after_fits ts a mid d (Err rest) h = inr (a, mid, d, h)

  both_fits : (ts : List T) (r : Outcome T A) → Fits D ts r → Fits (both D E) ts (and_then r (λ a mid. made (λ b. (a, b)) (g mid)))
  both_fits ts (Ok p) h = after_fits ts p.0 p.1 h (g p.1) (y.fits p.1)
  both_fits ts (Err rest) h = inl h

  left_both : (r : Outcome T A) → left {T = T} {A = A × B} (and_then r (λ a mid. made (λ b. (a, b)) (g mid))) ≤ left r
  left_both (Ok p) = rw left_made (fits_shorter y p.1 (g p.1) (y.fits p.1))
  left_both (Err rest) = omega arith

  both_only : Apart first' goes → Solid E first' → (ts : List T) (ab : A × B) (rest : List T) → (both D E).reads ts ab rest → sees goes' rest ≡ false → run_both f g ts ≡ Ok (ab, rest)
  both_only apart solid ts ab rest (mid, d, e) s =
      rw (x.only ts ab.0 mid d (apart_sees first' goes apart mid (solid.some mid ab.1 rest e).0), y.only mid ab.1 rest e s) refl

  -- where the second may be nothing, what goes on with the first goes on with both
  both_only_maybe : Apart first' goes → (ts : List T) (ab : A × B) (rest : List T) → (both D E).reads ts ab rest → sees goes rest ≡ false → sees goes' rest ≡ false → run_both f g ts ≡ Ok (ab, rest)
  both_only_maybe apart ts ab rest (mid, d, e) s s' =
      let stops : sees goes mid ≡ false = elim (y.starts mid rest (y.whole mid ab.1 rest e)) as (λ _. sees goes mid ≡ false) [ inl h ↦ apart_sees first' goes apart mid h | inr h ↦ rw h s ] in
      rw (x.only ts ab.0 mid d stops, y.only mid ab.1 rest e s') refl

  both_longest : Apart first' goes → (ts rest : List T) → (both D E).begins ts rest → left (run_both f g ts) ≤ length rest
  both_longest apart ts rest (inl d) = let a = left_both (f ts) in let b = x.longest ts rest d in omega arith
  both_longest apart ts rest (inr (a, mid, d, e)) =
      elim (y.starts mid rest e) as (λ _. left (run_both f g ts) ≤ length rest) [
        | inl h ↦ rw (x.only ts a mid d (apart_sees first' goes apart mid h), left_made) (y.longest mid rest e)
        | inr h ↦ let b = left_both (f ts) in let c = x.longest ts rest (subst (λ m. D.begins ts m) h (x.whole ts a mid d)) in omega arith
      ]

  both_starts : Solid D first → (ts rest : List T) → (both D E).begins ts rest → (sees first ts ≡ true) ⊎ (ts ≡ rest)
  both_starts solid ts rest (inl d) = x.starts ts rest d
  both_starts solid ts rest (inr (a, mid, d, e)) = inl (solid.some ts a mid d).0

  both_shorter : (ts rest : List T) → (both D E).begins ts rest → length rest ≤ length ts
  both_shorter ts rest (inl d) = x.shorter ts rest d
  both_shorter ts rest (inr (a, mid, d, e)) = let b = x.shorter ts mid (x.whole ts a mid d) in let c = y.shorter mid rest e in omega arith

  -- a first part that has tokens, and a second part that has
  pub both_exact : Solid D first → Solid E first' → Apart first' goes → Exact (both D E) (run_both f g) first goes'
  both_exact sd se apart = record {
    fits = λ ts. both_fits ts (f ts) (x.fits ts);
    only = both_only apart se;
    longest = both_longest apart;
    whole = λ ts ab rest r. inr (ab.0, r.0, r.1, y.whole r.0 ab.1 rest r.2);
    starts = both_starts sd;
    shorter = both_shorter;
  }

  -- a second part that may be nothing
  pub both_maybe_exact : Solid D first → Apart first' goes → Exact (both D E) (run_both f g) first (λ t. goes t || goes' t)
  both_maybe_exact sd apart = record {
    fits = λ ts. both_fits ts (f ts) (x.fits ts);
    only = λ ts ab rest r s. let h = sees_none goes goes' rest s in both_only_maybe apart ts ab rest r h.0 h.1;
    longest = both_longest apart;
    whole = λ ts ab rest r. inr (ab.0, r.0, r.1, y.whole r.0 ab.1 rest r.2);
    starts = both_starts sd;
    shorter = both_shorter;
  }

  pub both_solid : Solid D first → Solid (both D E) first
  both_solid sd = record { some = λ ts ab rest r. (let h = sd.some ts ab.0 r.0 r.1 in (h.0, (let c = y.shorter r.0 rest (y.whole r.0 ab.1 rest r.2) in omega arith))) }

  -- a first part that may be nothing, and a second part that has tokens
  late_starts : (ts rest : List T) → (both D E).begins ts rest → (sees (λ t. first t || first' t) ts ≡ true) ⊎ (ts ≡ rest)
  late_starts ts rest (inl d) = elim (x.starts ts rest d) as (λ _. (sees (λ t. first t || first' t) ts ≡ true) ⊎ (ts ≡ rest)) [ inl h ↦ inl (sees_left first first' ts h) | inr h ↦ inr h ]
  late_starts ts rest (inr (a, mid, d, e)) = elim (x.starts ts mid (x.whole ts a mid d)) as (λ _. (sees (λ t. first t || first' t) ts ≡ true) ⊎ (ts ≡ rest)) [
    | inl h ↦ inl (sees_left first first' ts h)
    | inr m ↦ elim (y.starts mid rest e) as (λ _. (sees (λ t. first t || first' t) ts ≡ true) ⊎ (ts ≡ rest)) [ inl h ↦ inl (sees_right first first' ts (rw m h)) | inr h ↦ inr (m ∙ h) ]
  ]

  pub late_exact : Solid E first' → Apart first' goes → Exact (both D E) (run_both f g) (λ t. first t || first' t) goes'
  late_exact se apart = record {
    fits = λ ts. both_fits ts (f ts) (x.fits ts);
    only = both_only apart se;
    longest = both_longest apart;
    whole = λ ts ab rest r. inr (ab.0, r.0, r.1, y.whole r.0 ab.1 rest r.2);
    starts = late_starts;
    shorter = both_shorter;
  }

  pub late_solid : Solid E first' → Solid (both D E) (λ t. first t || first' t)
  late_solid se = record {
    some = λ ts ab rest r.
        let h = se.some r.0 ab.1 rest r.2 in
        let c = x.shorter ts r.0 (x.whole ts ab.0 r.0 r.1) in
        let s : sees (λ t. first t || first' t) ts ≡ true = elim (x.starts ts r.0 (x.whole ts ab.0 r.0 r.1)) as (λ _. sees (λ t. first t || first' t) ts ≡ true) [ inl k ↦ sees_left first first' ts k | inr k ↦ sees_right first first' ts (rw k h.0) ] in
        (s, omega arith);
  }

-- ---- one or the other, by the first token

module _ {T A : Type 0} {D E : Lang T A} {f g : Reader T A} {first goes first' goes' : T → Bool}
    (x : Exact D f first goes) (y : Exact E g first' goes') where
  either_fits_by : (ts : List T) (b : Bool) → Fits (either D E) ts (if b then f ts else g ts)
  either_fits_by ts true = fits_left D E ts (f ts) (x.fits ts)
  either_fits_by ts false = fits_right D E ts (g ts) (y.fits ts)

  take_first : (ts : List T) → sees first ts ≡ true → run_either first f g ts ≡ f ts
  take_first ts h = rw h refl

  take_second : (ts : List T) → sees first ts ≡ false → run_either first f g ts ≡ g ts
  take_second ts h = rw h refl

  left_either_by : (ts : List T) (b : Bool) → left (if b then f ts else g ts) ≤ length ts
  left_either_by ts true = fits_shorter x ts (f ts) (x.fits ts)
  left_either_by ts false = fits_shorter y ts (g ts) (y.fits ts)

  either_longest : Apart first' first → (ts rest : List T) → (either D E).begins ts rest → left (run_either first f g ts) ≤ length rest
  either_longest apart ts rest (inl d) = elim (x.starts ts rest d) as (λ _. left (run_either first f g ts) ≤ length rest) [
    | inl h ↦ rw (take_first ts h) (x.longest ts rest d)
    | inr h ↦ subst (λ r. left (run_either first f g ts) ≤ length r) h (left_either_by ts (sees first ts))
  ]
  either_longest apart ts rest (inr d) = elim (y.starts ts rest d) as (λ _. left (run_either first f g ts) ≤ length rest) [
    | inl h ↦ rw (take_second ts (apart_sees first' first apart ts h)) (y.longest ts rest d)
    | inr h ↦ subst (λ r. left (run_either first f g ts) ≤ length r) h (left_either_by ts (sees first ts))
  ]

  either_starts : (ts rest : List T) → (either D E).begins ts rest → (sees (λ t. first t || first' t) ts ≡ true) ⊎ (ts ≡ rest)
  either_starts ts rest (inl d) = elim (x.starts ts rest d) as (λ _. (sees (λ t. first t || first' t) ts ≡ true) ⊎ (ts ≡ rest)) [ inl h ↦ inl (sees_left first first' ts h) | inr h ↦ inr h ]
  either_starts ts rest (inr d) = elim (y.starts ts rest d) as (λ _. (sees (λ t. first t || first' t) ts ≡ true) ⊎ (ts ≡ rest)) [ inl h ↦ inl (sees_right first first' ts h) | inr h ↦ inr h ]

  either_only : Solid D first → Solid E first' → Apart first' first → (ts : List T) (a : A) (rest : List T) → (either D E).reads ts a rest → sees (λ t. goes t || goes' t) rest ≡ false → run_either first f g ts ≡ Ok (a, rest)
  either_only sd se apart ts a rest (inl d) s = rw (take_first ts (sd.some ts a rest d).0) (x.only ts a rest d (sees_none goes goes' rest s).0)
  either_only sd se apart ts a rest (inr d) s = rw (take_second ts (apart_sees first' first apart ts (se.some ts a rest d).0)) (y.only ts a rest d (sees_none goes goes' rest s).1)

  -- where the second may be nothing, what begins the first goes on with it
  maybe_only : Solid D first → Apart first' first → (ts : List T) (a : A) (rest : List T) → (either D E).reads ts a rest → sees (λ t. first t || (goes t || goes' t)) rest ≡ false → run_either first f g ts ≡ Ok (a, rest)
  maybe_only sd apart ts a rest (inl d) s = rw (take_first ts (sd.some ts a rest d).0) (x.only ts a rest d (sees_none goes goes' rest (sees_none first (λ t. goes t || goes' t) rest s).1).0)
  maybe_only sd apart ts a rest (inr d) s =
      let h = sees_none first (λ t. goes t || goes' t) rest s in
      let k : sees first ts ≡ false = elim (y.starts ts rest (y.whole ts a rest d)) as (λ _. sees first ts ≡ false) [ inl u ↦ apart_sees first' first apart ts u | inr u ↦ rw u h.0 ] in
      rw (take_second ts k) (y.only ts a rest d (sees_none goes goes' rest h.1).1)

  either_whole : (ts : List T) (a : A) (rest : List T) → (either D E).reads ts a rest → (either D E).begins ts rest
  either_whole ts a rest (inl d) = inl (x.whole ts a rest d)
  either_whole ts a rest (inr d) = inr (y.whole ts a rest d)

  either_shorter : (ts rest : List T) → (either D E).begins ts rest → length rest ≤ length ts
  either_shorter ts rest (inl d) = x.shorter ts rest d
  either_shorter ts rest (inr d) = y.shorter ts rest d

  pub either_exact : Solid D first → Solid E first' → Apart first' first → Exact (either D E) (run_either first f g) (λ t. first t || first' t) (λ t. goes t || goes' t)
  either_exact sd se apart = record {
    fits = λ ts. either_fits_by ts (sees first ts);
    only = either_only sd se apart;
    longest = either_longest apart;
    whole = either_whole;
    starts = either_starts;
    shorter = either_shorter;
  }

  pub either_maybe_exact : Solid D first → Apart first' first → Exact (either D E) (run_either first f g) (λ t. first t || first' t) (λ t. first t || (goes t || goes' t))
  either_maybe_exact sd apart = record {
    fits = λ ts. either_fits_by ts (sees first ts);
    only = maybe_only sd apart;
    longest = either_longest apart;
    whole = either_whole;
    starts = either_starts;
    shorter = either_shorter;
  }

  either_some : Solid D first → Solid E first' → (ts : List T) (a : A) (rest : List T) → (either D E).reads ts a rest → (sees (λ t. first t || first' t) ts ≡ true) × (length rest < length ts)
  either_some sd se ts a rest (inl d) = let h = sd.some ts a rest d in (sees_left first first' ts h.0, h.1)
  either_some sd se ts a rest (inr d) = let h = se.some ts a rest d in (sees_right first first' ts h.0, h.1)

  pub either_solid : Solid D first → Solid E first' → Solid (either D E) (λ t. first t || first' t)
  either_solid sd se = record { some = either_some sd se }

-- a larger set of tokens that may go on with it, and another name for the first ones
pub weaker : {T A : Type 0} {L : Lang T A} {f : Reader T A} {first goes : T → Bool} (goes' : T → Bool)
    → ((ts : List T) → sees goes' ts ≡ false → sees goes ts ≡ false) → Exact L f first goes → Exact L f first goes'
weaker goes' more x = record { fits = x.fits; only = λ ts a rest r s. x.only ts a rest r (more rest s); longest = x.longest; whole = x.whole; starts = x.starts; shorter = x.shorter }

or_twice : (p q : Bool) → (p || q) ≡ false → (q || (p || q)) ≡ false
or_twice true q h = absurd (cc)
or_twice false q h = rw h refl

pub sees_twice : {T : Type 0} (p q : T → Bool) (ts : List T) → sees (λ t. p t || q t) ts ≡ false → sees (λ t. q t || (p t || q t)) ts ≡ false
sees_twice p q [] h = refl
sees_twice p q (t ∷ ts) h = or_twice (p t) (q t) h

again : {T : Type 0} {first first' : T → Bool} (ts rest : List T) → ((us : List T) → sees first us ≡ true → sees first' us ≡ true) → (sees first ts ≡ true) ⊎ (ts ≡ rest) → (sees first' ts ≡ true) ⊎ (ts ≡ rest)
again ts rest more (inl h) = inl (more ts h)
again ts rest more (inr h) = inr h

pub wider : {T A : Type 0} {L : Lang T A} {f : Reader T A} {first goes : T → Bool} (first' : T → Bool)
    → ((ts : List T) → sees first ts ≡ true → sees first' ts ≡ true) → Exact L f first goes → Exact L f first' goes
wider {first} first' more x = record { fits = x.fits; only = x.only; longest = x.longest; whole = x.whole; starts = λ ts rest b. again {first = first} {first' = first'} ts rest more (x.starts ts rest b); shorter = x.shorter }

or_none : (p : Bool) → (p || false) ≡ true → p ≡ true
or_none true h = refl
or_none false h = h

pub sees_alone : {T : Type 0} (p : T → Bool) (ts : List T) → sees (λ t. p t || false) ts ≡ true → sees p ts ≡ true
sees_alone p [] h = h
sees_alone p (t ∷ ts) h = or_none (p t) h

or_end : (p q : Bool) → (p || q) ≡ false → (p || (q || false)) ≡ false
or_end true q h = absurd (cc)
or_end false true h = absurd (cc)
or_end false false h = refl

pub sees_end : {T : Type 0} (p q : T → Bool) (ts : List T) → sees (λ t. p t || q t) ts ≡ false → sees (λ t. p t || (q t || false)) ts ≡ false
sees_end p q [] h = refl
sees_end p q (t ∷ ts) h = or_end (p t) (q t) h
