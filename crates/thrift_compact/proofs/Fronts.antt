-- What a reader of a form says of fronts and places.
use Rattle.std.proofs.Common.{◌≡◌, ℕ, ◌+◌, ◌-◌, ◌<◌, ◌≤◌, List, [], ◌∷◌, ◌++◌, length, take, Ok, Err, refl, sym, ap, subst, ◌∙◌, arith, append_assoc, length-append}
use Rattle.std.proofs.lemmas.List.{append-nil, append_cancel_right}
use Rattle.std.proofs.Math.Seq.{take-append_seam}
use Rattle.thrift_compact.specs.Grammar.{Form}
use Rattle.thrift_compact.specs.Reading.{Outcome, Reader}
use Rattle.thrift_compact.proofs.Forms.{IsReaderOf, Stops}

module _ {A : Type 0} {R : Form A} {f : Reader A} (h : IsReaderOf R f) where
  pub rest_within : (bytes : List ℕ) (x : A) (rest : List ℕ) → f bytes ≡ Ok (x, rest) → length rest ≤ length bytes
  rest_within bytes x rest is =
      let found = h.found bytes x rest is in
      omega (arith, ap length found.1, length-append found.0 rest)

  pub front_is : (bytes : List ℕ) (x : A) (rest : List ℕ) → f bytes ≡ Ok (x, rest) → R (take (length bytes - length rest) bytes) x
  front_is bytes x rest is =
      let found = h.found bytes x rest is in
      let size : length bytes - length rest ≡ length found.0 = omega (arith, ap length found.1, length-append found.0 rest) in
      let front : take (length bytes - length rest) bytes ≡ found.0 = ap (λ k. take k bytes) size ∙ ap (take (length found.0)) found.1 ∙ take-append_seam found.0 rest in
      subst (λ z. R z x) (sym front) found.2

  pub is_front : (front : List ℕ) (x : A) (more : List ℕ) → R front x → (f (front ++ more) ≡ Ok (x, more)) × (length (front ++ more) - length more ≡ length front)
  is_front front x more is = (h.only front x more is, omega (arith, length-append front more))

  -- no value begins another
  pub one_value : (front other more rest : List ℕ) (x y : A) → R front x → R other y → front ++ more ≡ other ++ rest → (front ≡ other) × (x ≡ y)
  one_value front other more rest x y is also same =
      let both : ◌≡◌ {A = Outcome A} (Ok (x, more)) (Ok (y, rest)) = sym (h.only front x more is) ∙ ap f same ∙ h.only other y rest also in
      let pair : ◌≡◌ {A = A × List ℕ} (x, more) (y, rest) = cc in
      let behind : more ≡ rest = ap (λ (p : A × List ℕ). p.1) pair in
      (append_cancel_right front other more (same ∙ ap (λ r. other ++ r) (sym behind)), ap (λ (p : A × List ℕ). p.0) pair)

  module _ (bytes rest : List ℕ) (is : f bytes ≡ Err rest) where
    stop : Stops R f bytes rest
    stop = h.stops bytes rest is

    pub at : ℕ
    at = length bytes - length rest

    size : length bytes - length rest ≡ length stop.before
    size = omega (arith, ap length stop.split, length-append stop.before rest)

    pub place_within : length bytes - length rest ≤ length bytes
    place_within = omega arith

    pub place_goes_on : (more : List ℕ) × (x : A) × R (take (length bytes - length rest) bytes ++ more) x
    place_goes_on =
        let front : take (length bytes - length rest) bytes ≡ stop.before = ap (λ k. take k bytes) size ∙ ap (take (length stop.before)) stop.split ∙ take-append_seam stop.before rest in
        (stop.more, stop.value, subst (λ z. R (z ++ stop.more) stop.value) (sym front) stop.goes_on)

    ends_at : (tail : List ℕ) → rest ≡ tail → length bytes - length rest < length bytes → (more : List ℕ) (x : A) → R (take (length bytes - length rest + 1) bytes ++ more) x → ⊥
    ends_at [] e before more x r = absurd (omega (arith, ap length e, ap length stop.split, length-append stop.before rest))
    ends_at (b ∷ behind) e before more x r =
        let split : bytes ≡ (stop.before ++ (b ∷ [])) ++ behind = stop.split ∙ ap (λ z. stop.before ++ z) e ∙ sym (append_assoc stop.before (b ∷ []) behind) in
        let longer : length (stop.before ++ (b ∷ [])) ≡ length bytes - length rest + 1 = length-append stop.before (b ∷ []) ∙ omega (arith, size) in
        let front : take (length bytes - length rest + 1) bytes ≡ stop.before ++ (b ∷ []) = ap (λ k. take k bytes) (sym longer) ∙ ap (take (length (stop.before ++ (b ∷ [])))) split ∙ take-append_seam (stop.before ++ (b ∷ [])) behind in
        let whole : (take (length bytes - length rest + 1) bytes ++ more) ++ [] ≡ stop.before ++ (b ∷ more) = append-nil _ ∙ ap (λ z. z ++ more) front ∙ append_assoc stop.before (b ∷ []) more in
        let both : ◌≡◌ {A = Outcome A} (Ok (x, [])) (Err (b ∷ more)) = sym (h.only _ x [] r) ∙ ap f whole ∙ stop.dead b behind more e in
        absurd (cc)

    pub place_ends : length bytes - length rest < length bytes → (more : List ℕ) (x : A) → R (take (length bytes - length rest + 1) bytes ++ more) x → ⊥
    place_ends before more x r = ends_at rest refl before more x r
