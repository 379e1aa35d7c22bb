use Rattle.std.proofs.Common.{◌≡◌, ◌∙◌, inl, inr, refl, sym, subst, ℤ}
use Rattle.std.specs.Prelude.{FitsSigned}
use Rattle.std.specs.Int.{w16, w32, w64}
use Rattle.std.proofs.lemmas.Int.{to_z-of_z}
use Rattle.format_tests.proofs.tests.thrift.whole.Goals as goal

pub returns : goal.returns
returns c = λ left.
    let same : c.from.result ≡ c.args.whole = c.from.ensures ∙ to_z-of_z w32 c.args.whole c.ranges.whole in
    let kept = to_z-of_z w64 c.from.result (record { sfits = c.from.type_inv }) in
    record {
      id = subst (λ (z : ℤ). FitsSigned w16 z) (sym (to_z-of_z w16 c.args.id c.ranges.id)) c.ranges.id;
      value = c.writable_values.ensures.whole left 32 _ (inr (inr (inl (refl, subst (λ (z : ℤ). FitsSigned w32 z) (sym (kept ∙ same)) c.ranges.whole))));
    }
