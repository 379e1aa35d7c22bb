-- A grammar with a common front, and the same one with the front taken out.
use Rattle.std.proofs.Common.{List, refl, ap, ◌∙◌, inl, inr}
use Rattle.std.specs.Prelude.{Option, Some, None}
use Rattle.token_lang.specs.Lang.{Lang, nothing, both, either, valued}
use Rattle.token_lang.specs.Exact.{Same}

-- D (E | F) is D E | D F
module _ {T A B C : Type 0} (make : A × B → C) (D : Lang T A) (E F : Lang T B) where
  abbrev out : Lang T C
  out = valued make (both D (either E F))

  abbrev apart : Lang T C
  apart = either (valued make (both D E)) (valued make (both D F))

  reads_to : (ts : List T) (c : C) (rest : List T) → out.reads ts c rest → apart.reads ts c rest
  reads_to ts c rest (p, (mid, d, inl e), h) = inl (p, (mid, d, e), h)
  reads_to ts c rest (p, (mid, d, inr e), h) = inr (p, (mid, d, e), h)

  reads_back : (ts : List T) (c : C) (rest : List T) → apart.reads ts c rest → out.reads ts c rest
  reads_back ts c rest (inl (p, (mid, d, e), h)) = (p, (mid, d, inl e), h)
  reads_back ts c rest (inr (p, (mid, d, e), h)) = (p, (mid, d, inr e), h)

  begins_to : (ts rest : List T) → out.begins ts rest → apart.begins ts rest
  begins_to ts rest (inl b) = inl (inl b)
  begins_to ts rest (inr (a, mid, d, inl e)) = inl (inr (a, mid, d, e))
  begins_to ts rest (inr (a, mid, d, inr e)) = inr (inr (a, mid, d, e))

  begins_back : (ts rest : List T) → apart.begins ts rest → out.begins ts rest
  begins_back ts rest (inl (inl b)) = inl b
  begins_back ts rest (inl (inr (a, mid, d, e))) = inr (a, mid, d, inl e)
  begins_back ts rest (inr (inl b)) = inl b
  begins_back ts rest (inr (inr (a, mid, d, e))) = inr (a, mid, d, inr e)

  pub common_front : Same out apart
  common_front = record { reads_to = reads_to; reads_back = reads_back; begins_to = begins_to; begins_back = begins_back }

-- D [E | F] is D [E] | D F
module _ {T A B C : Type 0} (make : A × Option B → C) (D : Lang T A) (E F : Lang T B) where
  abbrev optional : Lang T B → Lang T (Option B)
  optional L = either (valued Some L) (valued (λ _. None) nothing)

  abbrev out_of : Lang T C
  out_of = valued make (both D (optional (either E F)))

  abbrev apart_of : Lang T C
  apart_of = either (valued make (both D (optional E))) (valued (λ p. make (p.0, Some p.1)) (both D F))

  maybe_reads_to : (ts : List T) (c : C) (rest : List T) → out_of.reads ts c rest → apart_of.reads ts c rest
  maybe_reads_to ts c rest (p, (mid, d, inl (b, inl e, k)), h) = inl (p, (mid, d, inl (b, e, k)), h)
  maybe_reads_to ts c rest (p, (mid, d, inl (b, inr e, k)), h) = inr ((p.0, b), (mid, d, e), h ∙ ap (λ o. make (p.0, o)) k)
  maybe_reads_to ts c rest (p, (mid, d, inr w), h) = inl (p, (mid, d, inr w), h)

  maybe_reads_back : (ts : List T) (c : C) (rest : List T) → apart_of.reads ts c rest → out_of.reads ts c rest
  maybe_reads_back ts c rest (inl (p, (mid, d, inl (b, e, k)), h)) = (p, (mid, d, inl (b, inl e, k)), h)
  maybe_reads_back ts c rest (inl (p, (mid, d, inr w), h)) = (p, (mid, d, inr w), h)
  maybe_reads_back ts c rest (inr (q, (mid, d, e), h)) = ((q.0, Some q.1), (mid, d, inl (q.1, inr e, refl)), h)

  maybe_begins_to : (ts rest : List T) → out_of.begins ts rest → apart_of.begins ts rest
  maybe_begins_to ts rest (inl b) = inl (inl b)
  maybe_begins_to ts rest (inr (a, mid, d, inl (inl e))) = inl (inr (a, mid, d, inl e))
  maybe_begins_to ts rest (inr (a, mid, d, inl (inr e))) = inr (inr (a, mid, d, e))
  maybe_begins_to ts rest (inr (a, mid, d, inr w)) = inl (inr (a, mid, d, inr w))

  maybe_begins_back : (ts rest : List T) → apart_of.begins ts rest → out_of.begins ts rest
  maybe_begins_back ts rest (inl (inl b)) = inl b
  maybe_begins_back ts rest (inl (inr (a, mid, d, inl e))) = inr (a, mid, d, inl (inl e))
  maybe_begins_back ts rest (inl (inr (a, mid, d, inr w))) = inr (a, mid, d, inr w)
  maybe_begins_back ts rest (inr (inl b)) = inl b
  maybe_begins_back ts rest (inr (inr (a, mid, d, e))) = inr (a, mid, d, inl (inr e))

  pub optional_front : Same out_of apart_of
  optional_front = record { reads_to = maybe_reads_to; reads_back = maybe_reads_back; begins_to = maybe_begins_to; begins_back = maybe_begins_back }
