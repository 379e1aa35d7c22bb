use Rattle.std.proofs.Common.{◌≡◌, ◌∙◌, ℕ, ℤ, List, Option, ap, map, subst}
use Rattle.std.specs.List.Sorted.{IsPermutation}
use Rattle.std.specs.Prelude.{IfOk}
use Rattle.std.proofs.lemmas.Result.{IfOk-weaker}
use Rattle.row_tracking.specs.StepsOrder.{all_keyed}
use Rattle.row_tracking.specs.Order.{in_id_order}
use Rattle.row_tracking.proofs.FreeOrder.{places_within}
use Rattle.row_tracking.proofs.IdOrder.{sorted_keys}
use Rattle.row_tracking.proofs.order.places_by_id.Goals as goal

pub returns : goal.returns
returns c =
    let rows = c.args.rows.now in
    let keys = c.sort_unstable.new.self.items in
    let held : c.in_ok-keys.keys.items ≡ all_keyed rows = c.in_ok-keys.ensures ∙ ap all_keyed c.as_slice.ensures in
    let moved = subst (λ (old : List (Option ℤ × ℕ)). IsPermutation old keys) held c.sort_unstable.ensures.permutation in
    let answer = sorted_keys rows keys moved c.sort_unstable.ensures.sorted in
    let ordered : IfOk c.places_of.result (λ places. places ≡ in_id_order rows) = IfOk-weaker c.places_of.result _ _
    (λ places is. is ∙ ap (map (λ (key : Option ℤ × ℕ). key.1)) c.deref.ensures.value ∙ answer)
    c.places_of.ensures in
    record {
      order = ordered;
      within = IfOk-weaker c.places_of.result _ _ (λ places is. rw is (places_within rows)) ordered;
    }
