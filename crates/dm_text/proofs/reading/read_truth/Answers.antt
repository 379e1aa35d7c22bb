use Rattle.std.proofs.Common.{◌≡◌, ◌↔◌, List, ℕ, Bool, true, false, refl}
use Rattle.std.specs.Str.{str_to_ascii_lowercase, str_eq_ignore_ascii_case}
use Rattle.std.specs.Prelude.{codes}
use Rattle.std.proofs.Common.{inl, inr}
use Rattle.std.proofs.lemmas.Bool.{cases_Bool}
use Rattle.std.proofs.lemmas.Slice.Eq.{bytes_eq-Decides}
use Rattle.dm_text.specs.Reading.{truth}
use Rattle.dm_text.proofs.reading.read_truth.Goals as goal

test : (a b : List ℕ) (r : Bool) → ((r ≡ true) ↔ (str_to_ascii_lowercase a ≡ str_to_ascii_lowercase b)) → r ≡ true → str_eq_ignore_ascii_case a b ≡ true
test a b r h is = (bytes_eq-Decides (str_to_ascii_lowercase a) (str_to_ascii_lowercase b)).1 (h.0 is)

not_test : (a b : List ℕ) (r : Bool) → ((r ≡ true) ↔ (str_to_ascii_lowercase a ≡ str_to_ascii_lowercase b)) → r ≡ false → str_eq_ignore_ascii_case a b ≡ false
not_test a b r h none =
    elim (cases_Bool (str_eq_ignore_ascii_case a b)) as (λ _. str_eq_ignore_ascii_case a b ≡ false) [
      | inl is ↦ absurd (let all : r ≡ true = h.1 ((bytes_eq-Decides (str_to_ascii_lowercase a) (str_to_ascii_lowercase b)).0 is) in cc)
      | inr isnt ↦ isnt
    ]

pub returns-then-eq_ignore_ascii_case : goal.returns-then-eq_ignore_ascii_case
unfolding truth
returns-then-eq_ignore_ascii_case c = rw (test c.args.text.now (codes "true") c.eq_ignore_ascii_case.result c.eq_ignore_ascii_case.ensures.test c.if-eq_ignore_ascii_case.true) refl

pub returns-then-eq_ignore_ascii_case-2 : goal.returns-then-eq_ignore_ascii_case-2
unfolding truth
returns-then-eq_ignore_ascii_case-2 c =
    rw (
      not_test c.args.text.now (codes "true") c.eq_ignore_ascii_case.result c.eq_ignore_ascii_case.ensures.test c.if-eq_ignore_ascii_case.false,
      test c.args.text.now (codes "false") c.eq_ignore_ascii_case-else-eq_ignore_ascii_case.result c.eq_ignore_ascii_case-else-eq_ignore_ascii_case.ensures.test c.if-eq_ignore_ascii_case-2.true,
    ) refl

pub returns-else-eq_ignore_ascii_case-2 : goal.returns-else-eq_ignore_ascii_case-2
unfolding truth
returns-else-eq_ignore_ascii_case-2 c =
    rw (
      not_test c.args.text.now (codes "true") c.eq_ignore_ascii_case.result c.eq_ignore_ascii_case.ensures.test c.if-eq_ignore_ascii_case.false,
      not_test c.args.text.now (codes "false") c.eq_ignore_ascii_case-else-eq_ignore_ascii_case.result c.eq_ignore_ascii_case-else-eq_ignore_ascii_case.ensures.test c.if-eq_ignore_ascii_case-2.false,
    ) refl
