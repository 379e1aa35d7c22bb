-- A loop over items, turn by turn.
use Rattle.std.proofs.Common.{◌≡◌, ◌<◌, Bool, true, List, [], ◌∷◌, ◌++◌, length, append_assoc, append-nil, Ok, Err, refl, sym, ap, ◌∙◌, arith}
use Rattle.std.specs.Prelude.{fold}
use Rattle.token_lang.specs.Lang.{Lang}
use Rattle.token_lang.specs.Run.{Outcome, Reader, sees, made, run_both, run_many, run_rest}
use Rattle.token_lang.specs.Exact.{Fits, Exact, Solid}
use Rattle.token_lang.proofs.Many.{enough}

joins : {T A B : Type 0} (join : A → B → A) (so_far : A) (b : B) (r : Outcome T (List B)) → made (λ all. fold join so_far all) (made (λ all. b ∷ all) r) ≡ made (λ all. fold join (join so_far b) all) r
joins join so_far b (Ok p) = refl
joins join so_far b (Err rest) = refl

module _ {T B : Type 0} {D : Lang T B} {g : Reader T B} {first goes : T → Bool} (x : Exact D g first goes) (s : Solid D first) where
  turn_ok : (ts : List T) (b : B) (mid : List T) → sees first ts ≡ true → g ts ≡ Ok (b, mid) → Fits D ts (g ts)
      → run_many first g (length ts) ts ≡ made (λ all. b ∷ all) (run_many first g (length mid) mid)
  turn_ok [] b mid h e fits = absurd (cc)
  turn_ok (t ∷ ts) b mid h e fits =
      let d : D.reads (t ∷ ts) b mid = rw e at fits in
      let shorter = s.some (t ∷ ts) b mid d in
      let same = enough D g first goes x s (length ts) (length mid) mid (omega arith) (omega arith) in
      rw (h, e) (ap (made (λ all. b ∷ all)) same)

  pub rest_goes_on : {A : Type 0} (join : A → B → A) (a : A) (ts : List T) (b : B) (mid : List T) → sees first ts ≡ true → g ts ≡ Ok (b, mid)
      → run_rest join first g a ts ≡ run_rest join first g (join a b) mid
  rest_goes_on join a ts b mid h e = rw (turn_ok ts b mid h e (x.fits ts)) (joins join a b (run_many first g (length mid) mid))

-- an operator and what stands behind it
pub item_ok : {T A B : Type 0} (f : Reader T A) (g : Reader T B) (ts us vs : List T) (a : A) (b : B) → f ts ≡ Ok (a, us) → g us ≡ Ok (b, vs) → run_both f g ts ≡ Ok ((a, b), vs)
item_ok f g ts us vs a b e e' = rw (e, e') refl

-- ---- a loop that puts each item at the end of a list

abbrev pub at_end : {B : Type 0} → List B → B → List B
at_end all b = all ++ b ∷ []

fold_at_end : {B : Type 0} (so_far all : List B) → fold at_end so_far all ≡ so_far ++ all
fold_at_end so_far [] = sym (append-nil so_far)
fold_at_end so_far (b ∷ all) = fold_at_end (so_far ++ b ∷ []) all ∙ append_assoc so_far (b ∷ []) all

from_none : {T B : Type 0} (r : Outcome T (List B)) → made (λ all. fold at_end [] all) r ≡ r
from_none (Ok p) = rw fold_at_end refl
from_none (Err rest) = refl

pub collects : {T B : Type 0} (first : T → Bool) (g : Reader T B) (ts : List T) → run_rest at_end first g [] ts ≡ run_many first g (length ts) ts
collects first g ts = from_none (run_many first g (length ts) ts)

pub collects_on : {T B : Type 0} (D : Lang T B) (g : Reader T B) (first goes : T → Bool) → Exact D g first goes → Solid D first → (all : List B) (ts : List T) (b : B) (mid : List T)
    → sees first ts ≡ true → g ts ≡ Ok (b, mid) → run_rest at_end first g all ts ≡ run_rest at_end first g (all ++ b ∷ []) mid
collects_on D g first goes x s all ts b mid h e = rest_goes_on x s at_end all ts b mid h e

item_shorter : {T B : Type 0} (D : Lang T B) (first : T → Bool) → Solid D first → (ts : List T) (b : B) (mid : List T) (r : Outcome T B) → Fits D ts r → r ≡ Ok (b, mid) → length mid < length ts
item_shorter D first s ts b mid r h e = let d : D.reads ts b mid = rw e at h in (s.some ts b mid d).1

pub collects_shorter : {T B : Type 0} (D : Lang T B) (g : Reader T B) (first goes : T → Bool) → Exact D g first goes → Solid D first → (ts : List T) (b : B) (mid : List T)
    → g ts ≡ Ok (b, mid) → length mid < length ts
collects_shorter D g first goes x s ts b mid e = item_shorter D first s ts b mid (g ts) (x.fits ts) e
