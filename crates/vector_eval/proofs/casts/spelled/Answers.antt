use Rattle.std.proofs.Common.{◌≡◌, false, refl, inl, inr, List, ℕ}
use Rattle.std.specs.Str.{is_utf8, IsUtf8}
use Rattle.std.proofs.lemmas.Bool.{cases_Bool, false≢true}
use Rattle.std.proofs.lemmas.Str.{IsUtf8-from_is_utf8, is_utf8-from_IsUtf8}
use Rattle.vector_eval.proofs.casts.spelled.Goals as goal

not_utf8 : (bs : List ℕ) → (IsUtf8 bs → ⊥) → is_utf8 bs ≡ false
not_utf8 bs never = elim (cases_Bool (is_utf8 bs)) as (λ _. is_utf8 bs ≡ false) [ inl is ↦ absurd (never (IsUtf8-from_is_utf8 bs is)) | inr not ↦ not ]

pub returns-in-Some : goal.returns-in-Some
returns-in-Some c =
    let utf8 : IsUtf8 c.args.bytes = c.in-Some.ensures.spelled.0 refl in
    rw (is_utf8-from_IsUtf8 c.args.bytes utf8, c.in-Some.ensures.value) refl

pub returns-in-None : goal.returns-in-None
returns-in-None c =
    let never : IsUtf8 c.args.bytes → ⊥ = λ utf8. false≢true (c.in-None.ensures.spelled.1 utf8) in
    rw (not_utf8 c.args.bytes never) refl
