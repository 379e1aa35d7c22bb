use Rattle.std.proofs.Common.{List, [], ℕ, Option, Some, None, sym, subst}
use Rattle.std.specs.Prelude.{IfSome, unwrap_or}
use Rattle.std.specs.List.Sorted.{IsStrictlySortedBy}
use Rattle.delta_actions.specs.Writable.{AreOrdered}
use Rattle.delta_actions.proofs.removal.remove_file.Goals as goal

ordered_or_none : {A : Type 0} (o : Option (List (List ℕ × A))) → IfSome o AreOrdered → AreOrdered (unwrap_or o [])
unfolding IsStrictlySortedBy
ordered_or_none None h = tt
ordered_or_none (Some ps) h = h

pub returns-clause-form : goal.returns-clause-form
returns-clause-form c = λ h. subst AreOrdered (sym c.in_ok-partition_values.ensures) (ordered_or_none c.args.add.now.partition_values h)
