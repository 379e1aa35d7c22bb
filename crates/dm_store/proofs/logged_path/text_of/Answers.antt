use Rattle.std.proofs.Common.{◌≡◌, ℕ, List, true, false, rules, refl, inl, inr}
use Rattle.std.specs.Str.{is_utf8, IsUtf8}
use Rattle.std.proofs.lemmas.Bool.{cases_Bool, false≢true}
use Rattle.std.proofs.lemmas.Str.{IsUtf8-from_is_utf8, is_utf8-from_IsUtf8}
use Rattle.dm_store.specs.LoggedPath.{has_names}
use Rattle.dm_store.proofs.logged_path.text_of.Goals as goal

not_utf8 : (bs : List ℕ) → (IsUtf8 bs → ⊥) → is_utf8 bs ≡ false
not_utf8 bs never = elim (cases_Bool (is_utf8 bs)) as (λ _. is_utf8 bs ≡ false) [ inl is ↦ absurd (never (IsUtf8-from_is_utf8 bs is)) | inr isnt ↦ isnt ]

pub returns-in-Some : goal.returns-in-Some
returns-in-Some c =
    let names : has_names c.args.path ≡ true = search rules in
    let utf8 : IsUtf8 c.args.path = c.in-Some.ensures.spelled.0 refl in
    rw (names, is_utf8-from_IsUtf8 c.args.path utf8, c.in-Some.ensures.value) refl

pub returns-in-None : goal.returns-in-None
returns-in-None c =
    let names : has_names c.args.path ≡ true = search rules in
    let never : IsUtf8 c.args.path → ⊥ = λ utf8. false≢true (c.in-None.ensures.spelled.1 utf8) in
    rw (names, not_utf8 c.args.path never) refl
