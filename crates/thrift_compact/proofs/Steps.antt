-- Equations of the readers' combinators.
use Rattle.std.proofs.Common.{◌≡◌, ℕ, List, [], ◌∷◌, ◌++◌, Option, Some, None, Ok, Err, refl, sym, ap}
use Rattle.thrift_compact.specs.Reading.{Outcome, made, accepted, one}

-- what was found before, joined to what is read behind it
abbrev pub joined : {A : Type 0} → List A → Outcome (List A) → Outcome (List A)
joined before read = made (λ more. before ++ more) read

-- two ways to make the value
pub made-ext : {A B : Type 0} (f g : A → B) → ((x : A) → f x ≡ g x) → (o : Outcome A) → made f o ≡ made g o
made-ext f g same (Ok p) = ap (λ y. Ok (y, p.1)) (same p.0)
made-ext f g same (Err rest) = refl

pub made-made : {A B C : Type 0} (f : B → C) (g : A → B) (o : Outcome A) → made f (made g o) ≡ made (λ x. f (g x)) o
made-made f g (Ok p) = refl
made-made f g (Err rest) = refl

pub accepted_ok : {A : Type 0} (m : Option A) (x : A) (all rest behind : List ℕ) → accepted m all rest ≡ Ok (x, behind) → (m ≡ Some x) × (rest ≡ behind)
accepted_ok None x all rest behind is = absurd cc
accepted_ok {A} (Some y) x all rest behind is =
    let pair : ◌≡◌ {A = A × List ℕ} (y, rest) (x, behind) = cc in
    (ap Some (ap (λ (p : A × List ℕ). p.0) pair), ap (λ (p : A × List ℕ). p.1) pair)

-- what one byte gave
pub one_ok : {A : Type 0} (g : ℕ → Option A) (bytes : List ℕ) (x : A) (rest : List ℕ) → one g bytes ≡ Ok (x, rest) → (b : ℕ) × (bytes ≡ b ∷ rest) × (g b ≡ Some x)
one_ok g [] x rest is = absurd cc
one_ok g (b ∷ bs) x rest is = let parts = accepted_ok (g b) x (b ∷ bs) bs rest is in (b, ap (λ r. b ∷ r) parts.1, parts.0)

pub accepted_err : {A : Type 0} (m : Option A) (all rest behind : List ℕ) → accepted m all rest ≡ Err behind → (m ≡ None) × (all ≡ behind)
accepted_err None all rest behind is = (refl, cc)
accepted_err (Some y) all rest behind is = absurd cc

-- the byte that wasn't taken stays
pub one_err : {A : Type 0} (g : ℕ → Option A) (bytes rest : List ℕ) → one g bytes ≡ Err rest → rest ≡ bytes
one_err g [] rest is = cc
one_err g (b ∷ bs) rest is = sym (accepted_err (g b) (b ∷ bs) bs rest is).1
