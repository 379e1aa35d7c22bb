-- The marks of row ids, commit by commit.
use Rattle.std.specs.Prelude.{ℤ, Option, Some, None}
use Rattle.delta_actions.specs.declared.action.DomainAction.{DomainAction}
use Rattle.log_replay.specs.Force.{domain_mark}

-- the mark behind a commit, whose last domain of row tracking this is, from the one before it
abbrev pub mark_behind : ℤ → Option DomainAction → ℤ
mark_behind before None = before
mark_behind before (Some domain) = domain_mark domain
