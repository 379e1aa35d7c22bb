-- Rules one after another.
use Rattle.std.proofs.Common.{◌≡◌, ℕ, ◌+◌, ◌<◌, ◌≤◌, List, [], ◌∷◌, ◌++◌, length, drop, get_or, add-one, Option, Some, None, Result, Ok, Err, refl, sym, subst, ap, ◌∙◌}
use Rattle.std.proofs.Math.Seq.{drop-cons}
use Rattle.std.proofs.Math.ListN.{drop_of_length-le}
use Rattle.std.specs.List.{cons_option, filter_map}
use Rattle.dm_types.specs.Then.{go}
use Rattle.row_rules.specs.Answers.{Reads}
use Rattle.row_rules.specs.Rules.{each}
use Rattle.row_rules.specs.declared.fault.RuleFault.{RuleFault}
use Rattle.row_rules.specs.declared.fault.RuleFault.TheVariants as fault

pub at_place : {A : Type 0} (items : List A) (at : ℕ) (item : A) → at < length items → item ≡ get_or items at item → drop at items ≡ item ∷ drop (at + 1) items
at_place items at item within is = drop-cons items at item within ∙ rw (← is, ← add-one at) refl

module _ {A B E : Type 0} (rule : A → Result B E) (found : List B) where
  abbrev then : List A → B → Result (List B) E
  then more b = each rule (found ++ b ∷ []) more

  pub goes_on : (items : List A) (item : A) (more : List A) (b : B) → items ≡ item ∷ more → rule item ≡ Ok b → each rule found items ≡ each rule (found ++ b ∷ []) more
  unfolding each
  goes_on items item more b is e = ap (each rule found) is ∙ ap (λ (r : Result B E). go r (then more)) e

  pub stops : (items : List A) (item : A) (more : List A) (why : E) → items ≡ item ∷ more → rule item ≡ Err why → each rule found items ≡ Err why
  unfolding each
  stops items item more why is e = ap (each rule found) is ∙ ap (λ (r : Result B E). go r (then more)) e

  pub ends : (items : List A) → items ≡ [] → each rule found items ≡ Ok found
  unfolding each
  ends items is = ap (each rule found) is

  -- in turn, from some place on

  pub onward : (all : Result (List B) E) (items : List A) (at : ℕ) (item : A) (b : B) (more : List B) → all ≡ each rule found (drop at items) → at < length items → item ≡ get_or items at item → rule item ≡ Ok b → more ≡ found ++ b ∷ []
      → all ≡ each rule more (drop (at + 1) items)
  onward all items at item b more so_far within is e grown = so_far ∙ goes_on (drop at items) item (drop (at + 1) items) b (at_place items at item within is) e ∙ ap (λ (bs : List B). each rule bs (drop (at + 1) items)) (sym grown)

  pub no_further : (all : Result (List B) E) (items : List A) (at : ℕ) (item : A) (why : E) → all ≡ each rule found (drop at items) → at < length items → item ≡ get_or items at item → rule item ≡ Err why → all ≡ Err why
  no_further all items at item why so_far within is e = so_far ∙ stops (drop at items) item (drop (at + 1) items) why (at_place items at item within is) e

  pub at_end : (all : Result (List B) E) (items : List A) (at : ℕ) → all ≡ each rule found (drop at items) → length items ≤ at → all ≡ Ok found
  at_end all items at so_far past = so_far ∙ ends (drop at items) (drop_of_length-le items past)

-- rules of those items that are one, in turn, from some place on

module _ {A B E X : Type 0} (make : X → Option A) (rule : A → Result B E) (found : List B) (all : Result (List B) E) (items : List X) (at : ℕ) (so_far : all ≡ each rule found (filter_map make (drop at items))) where
  made : (item : X) → at < length items → item ≡ get_or items at item → filter_map make (drop at items) ≡ cons_option (make item) (filter_map make (drop (at + 1) items))
  made item within is = ap (filter_map make) (at_place items at item within is)

  pub passed_by : (item : X) → at < length items → item ≡ get_or items at item → make item ≡ None → all ≡ each rule found (filter_map make (drop (at + 1) items))
  passed_by item within is none =
      let same : filter_map make (drop at items) ≡ filter_map make (drop (at + 1) items) = made item within is ∙ ap (λ (o : Option A). cons_option o (filter_map make (drop (at + 1) items))) none in
      so_far ∙ ap (each rule found) same

  module _ (item : X) (within : at < length items) (is : item ≡ get_or items at item) (a : A) (some : make item ≡ Some a) where
    first : filter_map make (drop at items) ≡ a ∷ filter_map make (drop (at + 1) items)
    first = made item within is ∙ ap (λ (o : Option A). cons_option o (filter_map make (drop (at + 1) items))) some

    pub kept : (b : B) (more : List B) → rule a ≡ Ok b → more ≡ found ++ b ∷ [] → all ≡ each rule more (filter_map make (drop (at + 1) items))
    kept b more e grown = so_far ∙ goes_on rule found (filter_map make (drop at items)) a (filter_map make (drop (at + 1) items)) b first e ∙ ap (λ (bs : List B). each rule bs (filter_map make (drop (at + 1) items))) (sym grown)

    pub unkept : (why : E) → rule a ≡ Err why → all ≡ Err why
    unkept why e = so_far ∙ stops rule found (filter_map make (drop at items)) a (filter_map make (drop (at + 1) items)) why first e

  pub all_made : length items ≤ at → all ≡ Ok found
  all_made past = so_far ∙ ends rule found (filter_map make (drop at items)) (ap (filter_map make) (drop_of_length-le items past))

-- a fault of one rule is that of the whole
pub fails : {A B : Type 0} (one : Result A (List ℕ)) (whole : Result B (List ℕ)) (why : RuleFault) → ((name : List ℕ) → one ≡ Err name → whole ≡ Err name) → Reads one (Err why) → Reads whole (Err why)
fails one whole (fault.Unsupported name) so told = so name told
fails one whole fault.Memory so told = tt

pub handed : {A B : Type 0} (one : Result A (List ℕ)) (whole : Result B (List ℕ)) (why : RuleFault) (answer : Result B RuleFault) → answer ≡ Err why → ((name : List ℕ) → one ≡ Err name → whole ≡ Err name) → Reads one (Err why) → Reads whole answer
handed {B = B} one whole why answer is so told = subst (λ (r : Result B RuleFault). Reads whole r) (sym is) (fails one whole why so told)
