use Rattle.dm_text.proofs.Fronts.{front_then, front_grown}
use Rattle.dm_text.proofs.calendar.push_parts.Goals as goal

pub returns-clause-front : goal.returns-clause-front
returns-clause-front c =
    front_then _ _ _ c.push_places.ensures.front
    (front_grown _ _ _ _ c.in_ok-push.ensures.ok
    (front_then _ _ _ c.push_places-2.ensures.front
    (front_grown _ _ _ _ c.in_ok-push-2.ensures.ok c.push_places-3.ensures.front)))
