-- What stands behind a prefix.
use Rattle.std.proofs.Common.{◌≡◌, ◌≢◌, ℕ, ◌+◌, List, [], ◌++◌, take, drop, length, Bool, true, false, Option, Some, None, if◌then◌else◌, refl, sym, ap, subst, ◌∙◌, Bor}
use Rattle.std.proofs.Math.Seq.{drop-append_seam, take-append_seam}
use Rattle.std.proofs.lemmas.List.{take-append-drop}
use Rattle.std.proofs.lemmas.Slice.Eq.{bytes_eq-Decides}
use Rattle.std.specs.Prelude.{MatchOption, option_map}
use Rattle.std.specs.Str.{bytes_eq}
use Rattle.std.specs.Str.Pattern.{FindsTextPrefix, StripsPrefix}
use Rattle.delta_schema.specs.Types.{behind}
use Rattle.row_rules.specs.Rules.{constraint_of, constraint_prefix}

module _ (front text : List ℕ) where
  abbrev rest : Option (List ℕ)
  rest = Some (drop (length front) text)

  with_front : (tail : List ℕ) → text ≡ front ++ tail → behind front text ≡ Some tail
  with_front tail is =
      let fronts : take (length front) text ≡ front = ap (take (length front)) is ∙ take-append_seam front tail in
      let tails : drop (length front) text ≡ tail = ap (drop (length front)) is ∙ drop-append_seam front tail in
      ap (λ (b : Bool). if b then rest else None) ((bytes_eq-Decides (take (length front) text) front).1 fronts) ∙ ap Some tails

  without : ((tail : List ℕ) → text ≢ front ++ tail) → behind front text ≡ None
  without apart = by (bytes_eq (take (length front) text) front) refl
    where
      by : (b : Bool) → bytes_eq (take (length front) text) front ≡ b → behind front text ≡ None
      by true is =
          let fronts : take (length front) text ≡ front = (bytes_eq-Decides (take (length front) text) front).0 is in
          absurd (apart (drop (length front) text) (sym (take-append-drop (length front) text) ∙ ap (λ (xs : List ℕ). xs ++ drop (length front) text) fronts))
      by false is = ap (λ (b : Bool). if b then rest else None) is

  -- what the library strips
  pub found_behind : (found : Option (Bor (List ℕ))) → MatchOption found (FindsTextPrefix front text None) (λ x. StripsPrefix (FindsTextPrefix front) text x.now) → option_map (λ x. x.now) found ≡ behind front text
  found_behind None apart = sym (without apart)
  found_behind (Some x) (n, (long, split, at), is, whole) = sym (with_front x.now (split ∙ ap (λ (xs : List ℕ). front ++ xs) (sym is)))

-- the constraint that a property is, by what its name has behind the prefix
pub constraint_so : (property : List ℕ × List ℕ) (found : Option (List ℕ)) → found ≡ behind constraint_prefix property.0 → constraint_of property ≡ option_map (λ name. (name, property.1)) found
constraint_so property found is = ap (option_map (λ (name : List ℕ). (name, property.1))) (sym is)
