-- Names in a set.
use Rattle.std.proofs.Common.{◌≡◌, ℕ, List, [], ◌∷◌, ◌++◌, Bool, true, false, not, ◌||◌, refl, sym, ap, ◌∙◌}
use Rattle.std.specs.BTreeSet.{BTreeSet, insert_key}
use Rattle.std.specs.Cmp.Lexicographic.{slice_cmp}
use Rattle.std.specs.List.{list_any}
use Rattle.std.specs.Ordering.{is_eq, nat_cmp}
use Rattle.std.specs.Prelude.{String, string_bytes}
use Rattle.std.specs.Str.{str_to_ascii_lowercase}
use Rattle.std.proofs.lemmas.List.Folds.{list_any-append}
use Rattle.std.proofs.lemmas.Map.Text.{is_eq-slice_cmp}
use Rattle.delta_schema.proofs.Held.{inserted}
use Rattle.sql_tree.specs.declared.tree.Name.{Name}
use Rattle.table_make.specs.Elements.{is_among, is_same}
use Rattle.table_make.specs.Steps.{is_held}

not_not : (found added : Bool) → added ≡ not found → not added ≡ found
not_not true added is = ap not is
not_not false added is = ap not is

module _ {Z : Type 0} where
  -- a key that wasn't added was there
  pub was_there : (keys : List (String Z)) (key : String Z) (name : Name) (added : Bool) → string_bytes key ≡ str_to_ascii_lowercase name.text
      → added ≡ not (list_any (λ other. is_eq (slice_cmp nat_cmp (string_bytes key) (string_bytes other))) keys)
      → not added ≡ list_any (λ other. is_eq (slice_cmp nat_cmp (str_to_ascii_lowercase name.text) (string_bytes other))) keys
  was_there keys key name added lower is =
      not_not (list_any (λ other. is_eq (slice_cmp nat_cmp (string_bytes key) (string_bytes other))) keys) added is
      ∙ ap (λ (text : List ℕ). list_any (λ other. is_eq (slice_cmp nat_cmp text (string_bytes other))) keys) lower

  pub one_more : (old new : BTreeSet (String Z)) (key : String Z) (name other : Name) → string_bytes key ≡ str_to_ascii_lowercase name.text
      → new.keys ≡ insert_key (λ a b. slice_cmp nat_cmp (string_bytes a) (string_bytes b)) old.keys key
      → is_held new other ≡ (is_held old other || is_same other name)
  one_more old new key name other lower is =
      let wanted = str_to_ascii_lowercase other.text in
      ap (λ (keys : List (String Z)). list_any (λ one. is_eq (slice_cmp nat_cmp wanted (string_bytes one))) keys) is
      ∙ inserted (λ (one : String Z). string_bytes one) (λ bytes. is_eq (slice_cmp nat_cmp wanted bytes)) old.keys key
      ∙ ap (λ (same : Bool). is_held old other || same) (ap (λ (bytes : List ℕ). is_eq (slice_cmp nat_cmp wanted bytes)) lower ∙ is_eq-slice_cmp wanted (str_to_ascii_lowercase name.text))

or_none : (a b : Bool) → (a || b) ≡ (a || (b || false))
or_none true b = refl
or_none false true = refl
or_none false false = refl

pub among_more : (names : List Name) (name other : Name) → is_among (names ++ name ∷ []) other ≡ (is_among names other || is_same other name)
among_more names name other = list_any-append (is_same other) names (name ∷ []) ∙ sym (or_none (is_among names other) (is_same other name))
