use Rattle.std.proofs.Common.{◌≡◌, ◌∙◌, ap, sym, subst, ◌++◌, ◌∷◌, [], true}
use Rattle.column_vectors.proofs.Shown.{shown-append_kept, IsColumn-append_kept}
use Rattle.column_vectors.specs.Cells.{Cells}
use Rattle.column_vectors.proofs.column.Column.push.Goals as goal
use Rattle.dm_types.specs.Lanes.{IsOf}

pub invariant_of-self-in-Ok : goal.invariant_of-self-in-Ok
invariant_of-self-in-Ok g c =
    let flags : c.push-2.new.self ≡ c.self.inside.valid ++ true ∷ [] = c.in-Ok.ensures.ok in
    let items : c.push.new.self.items ≡ c.self.inside.kept.items ++ c.args.kept ∷ [] = c.in_ok-push.ensures.items in
    rw (flags, items) (IsColumn-append_kept _ _ _ _ _ _ c.self.invariant
    (subst (λ (cells : Cells). IsOf cells.kind (g.T.Lane.value_of c.args.kept cells.kind)) (sym c.self.view_is) c.requires))

pub returns-in-Ok-clause-ok : goal.returns-in-Ok-clause-ok
returns-in-Ok-clause-ok g c =
    let flags : c.push-2.new.self ≡ c.self.inside.valid ++ true ∷ [] = c.in-Ok.ensures.ok in
    let items : c.push.new.self.items ≡ c.self.inside.kept.items ++ c.args.kept ∷ [] = c.in_ok-push.ensures.items in
    rw (flags, items) (shown-append_kept _ _ _ _ c.self.invariant.count
    ∙ ap (λ (cells : Cells). cells.values ++ g.T.Lane.value_of c.args.kept cells.kind ∷ []) c.self.view_is)
