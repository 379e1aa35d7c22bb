use Rattle.dm_text.proofs.Fronts.{front_then, front_grown}
use Rattle.dm_text.proofs.moments.push_clock.Goals as goal

pub returns-in_err-push_places-3-clause-front : goal.returns-in_err-push_places-3-clause-front
returns-in_err-push_places-3-clause-front c =
    front_then _ _ _ c.push_places.ensures.front
    (front_grown _ _ _ _ c.in_ok-push.ensures.ok
    (front_then _ _ _ c.push_places-2.ensures.front
    (front_grown _ _ _ _ c.in_ok-push-2.ensures.ok c.push_places-3.ensures.front)))

pub returns-clause-front : goal.returns-clause-front
returns-clause-front c =
    front_then _ _ _ c.push_places.ensures.front
    (front_grown _ _ _ _ c.in_ok-push.ensures.ok
    (front_then _ _ _ c.push_places-2.ensures.front
    (front_grown _ _ _ _ c.in_ok-push-2.ensures.ok
    (front_then _ _ _ c.push_places-3.ensures.front
    (front_grown _ _ _ _ c.in_ok-push-3.ensures.ok c.push_places-4.ensures.front)))))
