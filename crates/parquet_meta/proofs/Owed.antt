-- The leaves, element by element.
use Rattle.std.proofs.Common.{◌≡◌, ℕ, zero, suc, ◌+◌, ◌<◌, List, [], ◌∷◌, ◌++◌, length, get_or, drop, Bool, true, false, Option, Some, None, option_map, option_and_then, Ok, refl, sym, ap, ◌∙◌, append_assoc, arith, drop-cons}
use Rattle.parquet_meta.specs.declared.elements.Element.{Element}
use Rattle.parquet_meta.specs.declared.metadata.LeafSchema.{LeafSchema}
use Rattle.parquet_meta.specs.Leaves.{count_of, own_leaves, joined, leaves_of}
use Rattle.parquet_meta.specs.Steps.{AddsOwn}

bind_none : {A B : Type 0} (o : Option A) (f : A → Option B) → ((a : A) → f a ≡ None) → option_and_then f o ≡ None
bind_none None f h = refl
bind_none (Some a) f h = h a

-- trees that are to follow take an element each
pub too_many : (owner : Element) (inside outside : ℕ) (es : List Element) → length es < inside + outside → leaves_of owner inside outside es ≡ None
too_many owner zero zero es h = absurd (omega arith)
too_many owner zero (suc outside) [] h = refl
too_many owner (suc inside) outside [] h = refl
too_many owner zero (suc outside) (e ∷ es) h =
    bind_none (count_of e.children) _ (λ children. bind_none (own_leaves true e e children) _ (λ own. ap (joined own) (too_many e children outside es (omega arith))))
too_many owner (suc inside) outside (e ∷ es) h =
    bind_none (count_of e.children) _ (λ children. bind_none (own_leaves false owner e children) _ (λ own. ap (joined own) (too_many owner (children + inside) outside es (omega arith))))

pub joined-nil : (o : Option (List LeafSchema)) → o ≡ joined [] o
joined-nil None = refl
joined-nil (Some xs) = refl

pub joined-joined : (a b : List LeafSchema) (o : Option (List LeafSchema)) → joined a (joined b o) ≡ joined (a ++ b) o
joined-joined a b None = refl
joined-joined a b (Some more) = ap Some (sym (append_assoc a b more))

-- what an element that was entered leaves
abbrev entered : Bool → Element → Element → (ℕ → Option (List LeafSchema)) → Option (List LeafSchema)
entered top owner e rest = option_and_then (λ children. option_and_then (λ own. joined own (rest children)) (own_leaves top owner e children)) (count_of e.children)

added : (old new : List LeafSchema) (own : Option (List LeafSchema)) (rest : Option (List LeafSchema)) → option_map (λ leaves. old ++ leaves) own ≡ Some new
    → joined old (option_and_then (λ leaves. joined leaves rest) own) ≡ joined new rest
added old new None rest is = absurd cc
added old new (Some leaves) rest is = let same : old ++ leaves ≡ new = grind arith in joined-joined old leaves rest ∙ ap (λ xs. joined xs rest) same

entered_ok : (top : Bool) (owner e : Element) (rest : ℕ → Option (List LeafSchema)) (old new : List LeafSchema) (children : ℕ) → AddsOwn top owner e old new (Ok children)
    → joined old (entered top owner e rest) ≡ joined new (rest children)
entered_ok top owner e rest old new children adds = rw (adds.0) (added old new (own_leaves top owner e children) (rest children) adds.1)

module _ (es : List Element) (place : ℕ) (e : Element) (stands : (place < length es) × (e ≡ get_or es place e)) (total : Option (List LeafSchema)) (owner : Element) (inside outside : ℕ) (old : List LeafSchema)
    (left : total ≡ joined old (leaves_of owner inside outside (drop place es))) where
  opened : total ≡ joined old (leaves_of owner inside outside (e ∷ drop (place + 1) es))
  opened =
      let next : suc place ≡ place + 1 = omega arith in
      left ∙ ap (λ xs. joined old (leaves_of owner inside outside xs)) (drop-cons es place e stands.0 ∙ ap (λ n. n ∷ drop (suc place) es) (sym stands.1) ∙ ap (λ k. e ∷ drop k es) next)

  opened_inside : (less : ℕ) → inside ≡ suc less → total ≡ joined old (entered false owner e (λ children. leaves_of owner (children + less) outside (drop (place + 1) es)))
  opened_inside less is = opened ∙ ap (λ n. joined old (leaves_of owner n outside (e ∷ drop (place + 1) es))) is

  opened_top : (less : ℕ) → inside ≡ 0 → outside ≡ suc less → total ≡ joined old (entered true e e (λ children. leaves_of e children less (drop (place + 1) es)))
  opened_top less none is = opened ∙ ap (λ n. joined old (leaves_of owner n outside (e ∷ drop (place + 1) es))) none ∙ ap (λ n. joined old (leaves_of owner 0 n (e ∷ drop (place + 1) es))) is

  pub inside_ok : (less children now : ℕ) (new : List LeafSchema) → inside ≡ suc less → AddsOwn false owner e old new (Ok children) → now ≡ children + less
      → total ≡ joined new (leaves_of owner now outside (drop (place + 1) es))
  inside_ok less children now new is adds sum = opened_inside less is ∙ entered_ok false owner e _ old new children adds ∙ ap (λ n. joined new (leaves_of owner n outside (drop (place + 1) es))) (sym sum)

  pub inside_many : (less children : ℕ) (new : List LeafSchema) → inside ≡ suc less → AddsOwn false owner e old new (Ok children) → length (drop (place + 1) es) < children + less + outside → total ≡ None
  inside_many less children new is adds many =
      opened_inside less is ∙ entered_ok false owner e _ old new children adds ∙ ap (joined new) (too_many owner (children + less) outside (drop (place + 1) es) many)

  pub top_ok : (less children now : ℕ) (new : List LeafSchema) → inside ≡ 0 → outside ≡ suc less → AddsOwn true e e old new (Ok children) → now ≡ children
      → total ≡ joined new (leaves_of e now less (drop (place + 1) es))
  top_ok less children now new none is adds sum = opened_top less none is ∙ entered_ok true e e _ old new children adds ∙ ap (λ n. joined new (leaves_of e n less (drop (place + 1) es))) (sym sum)

  pub top_many : (less children : ℕ) (new : List LeafSchema) → inside ≡ 0 → outside ≡ suc less → AddsOwn true e e old new (Ok children) → length (drop (place + 1) es) < children + less → total ≡ None
  top_many less children new none is adds many =
      opened_top less none is ∙ entered_ok true e e _ old new children adds ∙ ap (joined new) (too_many e children less (drop (place + 1) es) many)
