-- Types by their names.
use Rattle.std.proofs.Common.{◌≡◌, ℕ, ◌+◌, ◌-◌, List, length, take, drop, Bool, true, false, Some, refl, ap, length-drop}
use Rattle.std.specs.Prelude.{codes, ◌==◌}
use Rattle.std.specs.List.{position}
use Rattle.std.specs.Str.{bytes_eq}
use Rattle.std.proofs.Math.Seq.{take-length}
use Rattle.std.proofs.lemmas.Slice.Eq.{bytes_eq-Decides}
use Rattle.delta_schema.specs.Types.{kind_of, decimal_of, halves}

false_of : (same : Bool) → (same ≡ true → ⊥) → same ≡ false
false_of true not_so = absurd (not_so refl)
false_of false not_so = refl

not_same : (a b : List ℕ) → (a ≡ b → ⊥) → bytes_eq a b ≡ false
not_same a b other = false_of (bytes_eq a b) (λ same. other ((bytes_eq-Decides a b).0 same))

-- a name of none of the types without parameters
pub other_kind : (name : List ℕ) → (name ≡ codes "string" → ⊥) → (name ≡ codes "long" → ⊥) → (name ≡ codes "integer" → ⊥) → (name ≡ codes "short" → ⊥) → (name ≡ codes "byte" → ⊥)
    → (name ≡ codes "boolean" → ⊥) → (name ≡ codes "binary" → ⊥) → (name ≡ codes "date" → ⊥) → (name ≡ codes "timestamp" → ⊥) → kind_of name ≡ decimal_of name
unfolding kind_of
other_kind name string long integer short byte boolean binary date timestamp =
    rw (not_same name (codes "string") string, not_same name (codes "long") long, not_same name (codes "integer") integer, not_same name (codes "short") short, not_same name (codes "byte") byte, not_same name (codes "boolean") boolean, not_same name (codes "binary") binary, not_same name (codes "date") date, not_same name (codes "timestamp") timestamp) refl

whole_rest : (n : ℕ) (text : List ℕ) → take (length text - n) (drop n text) ≡ drop n text
whole_rest n text = rw (← length-drop n text) (take-length (drop n text))

pub halves_at : (text : List ℕ) (at : ℕ) → position (λ b. b == 44) text ≡ Some at → Some (take at text, take (length text - (at + 1)) (drop (at + 1) text)) ≡ halves text
halves_at text at is = rw is (ap (λ rest. Some (take at text, rest)) (whole_rest (at + 1) text))
