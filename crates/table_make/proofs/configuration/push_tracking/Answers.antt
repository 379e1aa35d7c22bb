use Rattle.std.proofs.Common.{◌≡◌, ◌++◌, ◌∷◌, [], List, ℕ, codes, refl, append_assoc}
use Rattle.table_make.specs.NewProperties.{Pairs}
use Rattle.table_make.proofs.configuration.push_tracking.Goals as goal

three : (start : Pairs) (a b c : List ℕ × List ℕ) → ((start ++ a ∷ []) ++ b ∷ []) ++ c ∷ [] ≡ start ++ a ∷ b ∷ c ∷ []
three start a b c = rw (append_assoc (start ++ a ∷ []) (b ∷ []) (c ∷ []), append_assoc start (a ∷ []) (b ∷ c ∷ [])) refl

pub returns : goal.returns
returns c =
    rw (c.in_ok-push_pair-3.ensures, c.in_ok-push_pair-2.ensures, c.in_ok-push_pair.ensures, c.in_ok-from_str.ensures, c.in_ok-ids.ensures, c.in_ok-versions.ensures)
    (three c.args.pairs.now (codes "delta.enableRowTracking", codes "true")
    (codes "delta.rowTracking.materializedRowIdColumnName", codes "_row-id-col-" ++ c.args.id.now)
    (codes "delta.rowTracking.materializedRowCommitVersionColumnName", codes "_row-commit-version-col-" ++ c.args.id.now))
