-- Each part at the front of a sentence is a beginning.
use Rattle.std.proofs.Common.{◌≡◌, ℕ, zero, suc, ◌-◌, ◌≤◌, ◌<◌, Bool, List, [], ◌∷◌, ◌++◌, ◌⊎◌, length, drop, refl, sym, ap, subst, ◌∙◌, inl, inr, arith, length-append}
use Rattle.std.proofs.lemmas.List.{drop-append-le}
use Rattle.token_lang.specs.Lang.{Lang, one, nothing, never, both, either, valued, many, reads_all, at_most, any_of}
use Rattle.token_lang.specs.Exact.{Local, Cuts}
use Rattle.token_lang.proofs.Place.{is_end}

le_or_lt : (m n : ℕ) → (m ≤ n) ⊎ (n < m)
le_or_lt zero n = inl (omega arith)
le_or_lt (suc m) zero = inr (omega arith)
le_or_lt (suc m) (suc n) = elim (le_or_lt m n) as (λ _. (suc m ≤ suc n) ⊎ (suc n < suc m)) [ inl h ↦ inl (omega arith) | inr h ↦ inr (omega arith) ]

same_end : {T : Type 0} (w mid : List T) → length (w ++ mid) ≤ length mid → w ++ mid ≡ mid
same_end [] mid h = refl
same_end (t ∷ w) mid h = let k = length-append w mid in absurd (omega arith)

none_front : {T : Type 0} (ts w mid rest : List T) → ts ≡ w ++ mid → ts ≡ rest → length rest ≤ length mid → ts ≡ mid
none_front ts w mid rest e h room = e ∙ same_end w mid (rw (← e, h) room)

one_front : {T : Type 0} (is : T → Bool) (ts w : List T) (t : T) (mid rest : List T) → ts ≡ w ++ mid → (one is).reads ts t rest → length rest ≤ length mid → (one is).begins ts mid
one_front is ts [] t mid rest e h room = inl e
one_front is ts (u ∷ w) t mid rest e (h, k) room =
    let q : rest ≡ w ++ mid = cc in
    let s : w ++ mid ≡ mid = same_end w mid (rw (← q) room) in
    inr (t, h ∙ ap (λ v. t ∷ v) (q ∙ s), k)

one_front_begins : {T : Type 0} (is : T → Bool) (ts w mid rest : List T) → ts ≡ w ++ mid → (one is).begins ts rest → length rest ≤ length mid → (one is).begins ts mid
one_front_begins is ts w mid rest e (inl h) room = inl (none_front ts w mid rest e h room)
one_front_begins is ts w mid rest e (inr (t, h, k)) room = one_front is ts w t mid rest e (h, k) room

pub one_cuts : {T : Type 0} (is : T → Bool) → Cuts (one is)
one_cuts is = record { front = λ ts w t mid rest. one_front is ts w t mid rest; front_begins = one_front_begins is }

pub nothing_cuts : {T : Type 0} → Cuts {T = T} nothing
nothing_cuts = record { front = λ ts w a mid rest e h room. none_front ts w mid rest e h room; front_begins = λ ts w mid rest e h room. none_front ts w mid rest e h room }

pub never_cuts : {T A : Type 0} → Cuts {T = T} {A = A} never
never_cuts = record { front = λ ts w a mid rest e h room. absurd h; front_begins = λ ts w mid rest e h room. none_front ts w mid rest e h room }

pub valued_cuts : {T A B : Type 0} {D : Lang T A} (make : A → B) → Cuts D → Cuts (valued make D)
valued_cuts make x = record { front = λ ts w b mid rest e h room. x.front ts w h.0 mid rest e h.1 room; front_begins = x.front_begins }

-- the part that a longer end begins with
inner : {T : Type 0} (ts w mid m : List T) → ts ≡ w ++ mid → m ≡ drop (length ts - length m) ts → length mid < length m → (v : List T) × (m ≡ v ++ mid)
inner ts w mid m e h room =
    let n = length ts - length m in
    let k = ap length e ∙ length-append w mid in
    (drop n w, h ∙ ap (drop n) e ∙ drop-append-le n w mid (omega arith))

module _ {T A B : Type 0} {D : Lang T A} {E : Lang T B} (x : Cuts D) (y : Cuts E) (l : Local D) where
  both_front : (ts w : List T) (ab : A × B) (mid rest : List T) → ts ≡ w ++ mid → (both D E).reads ts ab rest → length rest ≤ length mid → (both D E).begins ts mid
  both_front ts w ab mid rest e (m, d, r) room = elim (le_or_lt (length m) (length mid)) as (λ _. (both D E).begins ts mid) [
    | inl h ↦ inl (x.front ts w ab.0 mid m e d h)
    | inr h ↦ let v = inner ts w mid m e (is_end l ts ab.0 m d) h in inr (ab.0, m, d, y.front m v.0 ab.1 mid rest v.1 r room)
  ]

  both_front_begins : (ts w mid rest : List T) → ts ≡ w ++ mid → (both D E).begins ts rest → length rest ≤ length mid → (both D E).begins ts mid
  both_front_begins ts w mid rest e (inl b) room = inl (x.front_begins ts w mid rest e b room)
  both_front_begins ts w mid rest e (inr (a, m, d, b)) room = elim (le_or_lt (length m) (length mid)) as (λ _. (both D E).begins ts mid) [
    | inl h ↦ inl (x.front ts w a mid m e d h)
    | inr h ↦ let v = inner ts w mid m e (is_end l ts a m d) h in inr (a, m, d, y.front_begins m v.0 mid rest v.1 b room)
  ]

  pub both_cuts : Cuts (both D E)
  both_cuts = record { front = both_front; front_begins = both_front_begins }

module _ {T A : Type 0} {D E : Lang T A} (x : Cuts D) (y : Cuts E) where
  either_front : (ts w : List T) (a : A) (mid rest : List T) → ts ≡ w ++ mid → (either D E).reads ts a rest → length rest ≤ length mid → (either D E).begins ts mid
  either_front ts w a mid rest e (inl r) room = inl (x.front ts w a mid rest e r room)
  either_front ts w a mid rest e (inr r) room = inr (y.front ts w a mid rest e r room)

  either_front_begins : (ts w mid rest : List T) → ts ≡ w ++ mid → (either D E).begins ts rest → length rest ≤ length mid → (either D E).begins ts mid
  either_front_begins ts w mid rest e (inl b) room = inl (x.front_begins ts w mid rest e b room)
  either_front_begins ts w mid rest e (inr b) room = inr (y.front_begins ts w mid rest e b room)

  pub either_cuts : Cuts (either D E)
  either_cuts = record { front = either_front; front_begins = either_front_begins }

module _ {T A : Type 0} {D : Lang T A} (x : Cuts D) (l : Local D) where
  with_item : (ts : List T) (a : A) (m mid : List T) → D.reads ts a m → (many D).begins m mid → (many D).begins ts mid
  with_item ts a m mid d (all, end, r, z) = (a ∷ all, end, (m, d, r), z)

  many_front : (all : List A) (ts w mid rest : List T) → ts ≡ w ++ mid → reads_all D.reads ts all rest → length rest ≤ length mid → (many D).begins ts mid
  many_front [] ts w mid rest e h room = ([], ts, refl, inl (none_front ts w mid rest e h room))
  many_front (a ∷ all) ts w mid rest e (m, d, r) room = elim (le_or_lt (length m) (length mid)) as (λ _. (many D).begins ts mid) [
    | inl h ↦ ([], ts, refl, inr (x.front ts w a mid m e d h))
    | inr h ↦ let v = inner ts w mid m e (is_end l ts a m d) h in with_item ts a m mid d (many_front all m v.0 mid rest v.1 r room)
  ]

  end_front : (ts w m mid rest : List T) → ts ≡ w ++ mid → ts ≡ m → (m ≡ rest) ⊎ D.begins m rest → length rest ≤ length mid → (many D).begins ts mid
  end_front ts w m mid rest e h (inl k) room = ([], ts, refl, inl (none_front ts w mid rest e (h ∙ k) room))
  end_front ts w m mid rest e h (inr b) room = ([], ts, refl, inr (x.front_begins ts w mid rest e (subst (λ u. D.begins u rest) (sym h) b) room))

  all_front : (all : List A) (ts w m mid rest : List T) → ts ≡ w ++ mid → reads_all D.reads ts all m → (m ≡ rest) ⊎ D.begins m rest → length rest ≤ length mid → (many D).begins ts mid
  all_front [] ts w m mid rest e h z room = end_front ts w m mid rest e h z room
  all_front (a ∷ all) ts w m mid rest e (n, d, r) z room = elim (le_or_lt (length n) (length mid)) as (λ _. (many D).begins ts mid) [
    | inl h ↦ ([], ts, refl, inr (x.front ts w a mid n e d h))
    | inr h ↦ let v = inner ts w mid n e (is_end l ts a n d) h in with_item ts a n mid d (all_front all n v.0 m mid rest v.1 r z room)
  ]

  pub many_cuts : Cuts (many D)
  many_cuts = record { front = λ ts w all mid rest. many_front all ts w mid rest; front_begins = λ ts w mid rest e b room. all_front b.0 ts w b.1 mid rest e b.2 b.3 room }

pub limit_cuts : {T A : Type 0} {D : Lang T A} (n : ℕ) → Cuts D → Cuts (at_most n D)
limit_cuts n x = record { front = λ ts w a mid rest e r room. (x.front ts w a mid rest e r.0 room, (let k = r.1 in omega arith)); front_begins = λ ts w mid rest e r room. (x.front_begins ts w mid rest e r.0 room, (let k = r.1 in omega arith)) }

pub any_cuts : {T A : Type 0} (F : ℕ → Lang T A) → ((n : ℕ) → Cuts (F n)) → Cuts (any_of F)
any_cuts F x = record { front = λ ts w a mid rest e r room. (r.0, (x r.0).front ts w a mid rest e r.1 room); front_begins = λ ts w mid rest e r room. (r.0, (x r.0).front_begins ts w mid rest e r.1 room) }
