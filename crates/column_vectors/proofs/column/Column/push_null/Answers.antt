use Rattle.std.proofs.Common.{◌≡◌, ◌∙◌, ap, ◌++◌, ◌∷◌, [], false}
use Rattle.column_vectors.proofs.Shown.{shown-append_null, IsColumn-append_null}
use Rattle.column_vectors.specs.Cells.{Cells}
use Rattle.column_vectors.proofs.column.Column.push_null.Goals as goal
use Rattle.dm_types.specs.declared.value.Value.TheVariants.{Null}

pub invariant_of-self-2 : goal.invariant_of-self-2
invariant_of-self-2 g c =
    let flags : c.push.new.self ≡ c.self.inside.valid ++ false ∷ [] = c.in_ok-push.ensures.ok in
    rw flags (IsColumn-append_null _ _ _ _ _ c.self.invariant)

pub returns-clause-ok : goal.returns-clause-ok
returns-clause-ok g c =
    let flags : c.push.new.self ≡ c.self.inside.valid ++ false ∷ [] = c.in_ok-push.ensures.ok in
    rw flags (shown-append_null _ _ _ ∙ ap (λ (cells : Cells). cells.values ++ Null ∷ []) c.self.view_is)
