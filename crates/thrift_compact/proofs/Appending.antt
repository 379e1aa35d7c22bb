-- What stays at the front, and the loops that write.
use Rattle.std.specs.Prelude.{OnOk}
use Rattle.std.proofs.Common.{◌≡◌, ℕ, zero, suc, ◌+◌, ◌/◌, ◌%◌, ◌<◌, ◌≤◌, ltb, Bool, true, false, cond, Result, Ok, Err, List, [], ◌∷◌, ◌++◌, length, take, refl, sym, ap, ◌∙◌, arith, append_assoc, length-take}
use Rattle.std.proofs.lemmas.Bool.{lt-ltb, ltb-false, le-ltb}
use Rattle.std.proofs.Math.Seq.{take-append_seam, take-length}
use Rattle.thrift_compact.specs.Steps.{KeepsFront}
use Rattle.thrift_compact.specs.Written as w

pub keeps_same : (old : List ℕ) → KeepsFront old old
keeps_same old = record { kept = take-length old }

pub keeps_append : (old more : List ℕ) → KeepsFront old (old ++ more)
keeps_append old more = record { kept = take-append_seam old more }

pub keeps_on : (old mid new : List ℕ) → KeepsFront old mid → KeepsFront mid new → KeepsFront old new
keeps_on old mid new first second =
    let within : length old ≤ length mid = omega (arith, ap length first.kept, length-take (length old) mid) in
    let both : take (length old) new ≡ take (length old) mid = sym (take_take (length old) (length mid) new within) ∙ ap (take (length old)) second.kept in
    record { kept = both ∙ first.kept }
  where
    take_take : (n m : ℕ) (xs : List ℕ) → n ≤ m → take n (take m xs) ≡ take n xs
    take_take zero m xs below = refl
    take_take (suc n) zero xs below = absurd (omega arith)
    take_take (suc n) (suc m) [] below = refl
    take_take (suc n) (suc m) (x ∷ xs) below = ap (λ ys. x ∷ ys) (take_take n m xs (omega arith))

-- ---- varints

enough : (n m number : ℕ) → number ≤ n → number ≤ m → w.varint_of n number ≡ w.varint_of m number
unfolding w.varint_of
enough zero zero number a b = refl
enough zero (suc m) number a b = let test : ltb number 128 ≡ true = lt-ltb number 128 (omega arith) in rw test refl
enough (suc n) zero number a b = let test : ltb number 128 ≡ true = lt-ltb number 128 (omega arith) in rw test refl
enough (suc n) (suc m) number a b = by_test (ltb number 128) refl (λ more. enough n m (number / 128) (omega arith) (omega arith))
  where
    by_test : (test : Bool) → ltb number 128 ≡ test → (128 ≤ number → w.varint_of n (number / 128) ≡ w.varint_of m (number / 128))
        → cond (ltb number 128) (number ∷ []) ((number % 128 + 128) ∷ w.varint_of n (number / 128)) ≡ cond (ltb number 128) (number ∷ []) ((number % 128 + 128) ∷ w.varint_of m (number / 128))
    by_test true e more = rw e refl
    by_test false e more = rw e (ap (λ z. (number % 128 + 128) ∷ z) (more (ltb-false number 128 e)))

pub varint_last : (number : ℕ) → number < 128 → w.varint number ≡ number ∷ []
unfolding w.varint_of
varint_last zero below = refl
varint_last (suc k) below = let test : ltb (suc k) 128 ≡ true = lt-ltb (suc k) 128 below in rw test refl

pub varint_more : (number : ℕ) → 128 ≤ number → w.varint number ≡ (number % 128 + 128) ∷ w.varint (number / 128)
unfolding w.varint_of
varint_more zero large = absurd (omega arith)
varint_more (suc k) large =
    let test : ltb (suc k) 128 ≡ false = le-ltb (suc k) 128 large in
    rw test (ap (λ z. (suc k % 128 + 128) ∷ z) (enough k (suc k / 128) (suc k / 128) (omega arith) (omega arith)))

pub ok_then : {T E : Type 0} (r : Result T E) {P Q : Type 0} → OnOk r P → (P → Q) → OnOk r Q
ok_then (Ok x) p f = f p
ok_then (Err e) p f = tt

-- one byte more of a varint
pub byte_more : (whole out new : List ℕ) (number : ℕ) → whole ≡ out ++ w.varint number → 128 ≤ number → new ≡ out ++ ((number % 128 + 128) ∷ []) → whole ≡ new ++ w.varint (number / 128)
byte_more whole out new number is large pushed =
    is ∙ ap (λ z. out ++ z) (varint_more number large) ∙ sym (append_assoc out ((number % 128 + 128) ∷ []) (w.varint (number / 128))) ∙ ap (λ z. z ++ w.varint (number / 128)) (sym pushed)

pub byte_last : (whole out new : List ℕ) (number : ℕ) → whole ≡ out ++ w.varint number → number < 128 → new ≡ out ++ (number ∷ []) → new ≡ whole
byte_last whole out new number is small pushed = pushed ∙ ap (λ z. out ++ z) (sym (varint_last number small)) ∙ sym is
