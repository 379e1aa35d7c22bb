-- What is asked of a reader of a language, and of the language itself.
use Rattle.std.specs.Prelude.{◌≡◌, ◌≤◌, ◌<◌, Bool, true, false, List, [], ◌++◌, ◌⊎◌, length, Ok, Err}
use Rattle.token_lang.specs.Lang.{Lang}
use Rattle.token_lang.specs.Run.{Outcome, Reader, sees, left}

-- an outcome is a sentence with its value, or ends at the end of a beginning
abbrev pub Fits : {T A : Type 0} → Lang T A → List T → Outcome T A → Type 0
Fits L ts (Ok p) = L.reads ts p.0 p.1
Fits L ts (Err rest) = L.begins ts rest

-- no token is of both kinds
abbrev pub Apart : {T : Type 0} → (T → Bool) → (T → Bool) → Type 0
Apart {T} first goes = (t : T) → first t ≡ true → goes t ≡ false

-- The reader finds each sentence, unless the token behind it is one that the language may go on with (`goes`), and
-- stops no earlier than any beginning ends. A sentence or a beginning of any token has its first one in `first`.
pub record Exact {T A : Type 0} (L : Lang T A) (f : Reader T A) (first goes : T → Bool) : Type 0 where
  pub fits : (ts : List T) → Fits L ts (f ts)
  pub only : (ts : List T) (a : A) (rest : List T) → L.reads ts a rest → sees goes rest ≡ false → f ts ≡ Ok (a, rest)
  pub longest : (ts rest : List T) → L.begins ts rest → left (f ts) ≤ length rest
  pub whole : (ts : List T) (a : A) (rest : List T) → L.reads ts a rest → L.begins ts rest
  pub starts : (ts rest : List T) → L.begins ts rest → (sees first ts ≡ true) ⊎ (ts ≡ rest)
  pub shorter : (ts rest : List T) → L.begins ts rest → length rest ≤ length ts

-- each sentence has a token
pub record Solid {T A : Type 0} (L : Lang T A) (first : T → Bool) : Type 0 where
  pub some : (ts : List T) (a : A) (rest : List T) → L.reads ts a rest → (sees first ts ≡ true) ×
      (length rest < length ts)

-- Neither a sentence nor a beginning depends on what stands behind it.
pub record Local {T A : Type 0} (L : Lang T A) : Type 0 where
  pub shorter : (ts : List T) (a : A) (rest : List T) → L.reads ts a rest → length rest ≤ length ts
  pub short : (ts rest : List T) → L.begins ts rest → length rest ≤ length ts
  pub more : (ts : List T) (a : A) (rest w : List T) → L.reads ts a rest → L.reads (ts ++ w) a (rest ++ w)
  pub more_begins : (ts rest w : List T) → L.begins ts rest → L.begins (ts ++ w) (rest ++ w)
  pub less : (ts s : List T) (a : A) (rest w : List T) → ts ≡ s ++ w → L.reads ts a rest → length w ≤ length rest →
      (r : List T) × (rest ≡ r ++ w) × L.reads s a r
  pub less_begins : (ts s rest w : List T) → ts ≡ s ++ w → L.begins ts rest → length w ≤ length rest → (r : List T) ×
      (rest ≡ r ++ w) × L.begins s r

-- What stands before rest begins a sentence, and nothing longer does.
pub record IsLongest {T A : Type 0} (L : Lang T A) (ts rest : List T) : Type 0 where
  pub begins : L.begins ts rest
  pub longest : (other : List T) → L.begins ts other → length rest ≤ length other

-- Each sentence of L is one of L', and each beginning in L goes on to one.
pub record Grows {T A : Type 0} (L L' : Lang T A) : Type 0 where
  pub into : (ts : List T) (a : A) (rest : List T) → L.reads ts a rest → L'.reads ts a rest
  pub goes_on : (ts : List T) → L.begins ts [] → (more : List T) × (a : A) × L'.reads (ts ++ more) a []
  pub witness : (ts : List T) × (a : A) × L'.reads ts a []

-- Each part at the front of a sentence, or of a beginning, is a beginning.
pub record Cuts {T A : Type 0} (L : Lang T A) : Type 0 where
  pub front : (ts w : List T) (a : A) (mid rest : List T) → ts ≡ w ++ mid → L.reads ts a rest
      → length rest ≤ length mid → L.begins ts mid
  pub front_begins : (ts w mid rest : List T) → ts ≡ w ++ mid → L.begins ts rest → length rest ≤ length mid
      → L.begins ts mid

-- Two ways to write one language.
pub record Same {T A : Type 0} (L L' : Lang T A) : Type 0 where
  pub reads_to : (ts : List T) (a : A) (rest : List T) → L.reads ts a rest → L'.reads ts a rest
  pub reads_back : (ts : List T) (a : A) (rest : List T) → L'.reads ts a rest → L.reads ts a rest
  pub begins_to : (ts rest : List T) → L.begins ts rest → L'.begins ts rest
  pub begins_back : (ts rest : List T) → L'.begins ts rest → L.begins ts rest
