-- What is halved between quotes is text where it was text.
use Rattle.sql_lex.proofs.Choices.{both_true, choose}
use Rattle.std.proofs.Common.{◌≡◌, ◌∙◌, ℕ, suc, ◌<◌, ◌≤◌, Bool, true, false, List, [], ◌∷◌, ◌++◌, length, get_or, refl, ap, sym, subst, arith, inl, inr, append-nil}
use Rattle.std.specs.Prelude.{◌&&◌, ◌==◌, IsUtf8}
use Rattle.std.proofs.lemmas.Bool.{cases_lt}
use Rattle.std.proofs.lemmas.Bool.Decides.{nat_tests}
use Rattle.std.proofs.lemmas.Str.{IsUtf8-append, IsUtf8-nil, IsUtf8-encode, encode_ascii, inside_one, length-encode, len_utf8_bounds}
use lib.Utf8.{encode, encodes, scalar, scalars}
use Rattle.sql_lex.specs.Content.{halved}

differ : (b q : ℕ) → q < 128 → 128 ≤ b → (b == q) ≡ false
differ b q low high = grind (arith, nat_tests)

never_both : (second test : Bool) → test ≡ false → (second && test) ≡ false
never_both true test e = e
never_both false test e = refl

-- a byte above those of ASCII stays
other : (q : ℕ) (second : Bool) (b : ℕ) (z : List ℕ) → q < 128 → 128 ≤ b → halved q second (b ∷ z) ≡ b ∷ halved q false z
other q second b z low high =
    let e = differ b q low high in
    rw (never_both second (b == q) e) (ap (λ v. b ∷ halved q v z) e)

pub record IsHigh (w : List ℕ) : Type 0 where
  pub each : (n : ℕ) → n < length w → 128 ≤ get_or w n 0

others : (q : ℕ) (second : Bool) (w z : List ℕ) → q < 128 → IsHigh w → 0 < length w → halved q second (w ++ z) ≡ w ++ halved q false z
others q second [] z low high some = absurd (omega arith)
others q second (b ∷ []) z low high some = other q second b z low (high.each 0 (omega arith))
others q second (b ∷ d ∷ w) z low high some =
    other q second b (d ∷ w ++ z) low (high.each 0 (omega arith))
    ∙ ap (λ y. b ∷ y) (others q false (d ∷ w) z low (record { each = λ n lt. high.each (suc n) (omega arith) }) (omega arith))

high_bytes : (c : ℕ) → 128 ≤ c → IsHigh (encode c)
high_bytes c high = record {
  each = λ n lt. elim (cases_lt (get_or (encode c) n 0) 128) [
    | inl small ↦ absurd (let e : c ≡ get_or (encode c) n 0 = inside_one c [] (encode c) n (sym (append-nil (encode c))) lt small in omega arith)
    | inr large ↦ large
  ];
}

wide : (q : ℕ) (second : Bool) (c : ℕ) (z : List ℕ) → q < 128 → 128 ≤ c → halved q second (encode c ++ z) ≡ encode c ++ halved q false z
wide q second c z low high = others q second (encode c) z low (high_bytes c high) (omega (arith, length-encode c, (len_utf8_bounds c).0))

step : (q : ℕ) (second : Bool) (c : ℕ) (z : List ℕ) → q < 128 → scalar c ≡ true → ((later : Bool) → IsUtf8 (halved q later z)) → IsUtf8 (halved q second (encode c ++ z))
step q second c z low is rest = elim (cases_lt c 128) [
  | inl h ↦ rw (encode_ascii c h) (choose IsUtf8 (second && c == q) (halved q false z) (c ∷ halved q (c == q) z)
      (λ _. rest false)
      (λ _. IsUtf8-append (c ∷ []) (halved q (c == q) z) (subst IsUtf8 (encode_ascii c h) (IsUtf8-encode c is)) (rest (c == q))))
  | inr h ↦ rw (wide q second c z low h) (IsUtf8-append (encode c) (halved q false z) (IsUtf8-encode c is) (rest false))
]

halves : (q : ℕ) (second : Bool) (cs : List ℕ) → q < 128 → scalars cs ≡ true → IsUtf8 (halved q second (encodes cs))
halves q second [] low all = IsUtf8-nil
halves q second (c ∷ cs) low all =
    let each = both_true (scalar c) (scalars cs) all in
    step q second c (encodes cs) low each.0 (λ later. halves q later cs low each.1)

pub halved_text : (q : ℕ) (z : List ℕ) → q < 128 → IsUtf8 z → IsUtf8 (halved q false z)
halved_text q z low text = subst (λ y. IsUtf8 (halved q false y)) text.1.1 (halves q false text.0 low text.1.0)
