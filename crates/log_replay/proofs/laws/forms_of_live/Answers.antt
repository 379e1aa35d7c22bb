use Rattle.delta_actions.specs.Writable.{HasForm}
use Rattle.log_replay.proofs.Coming.{live_has}
use Rattle.log_replay.proofs.laws.forms_of_live.Goals as goal

pub returns : goal.returns
returns c = live_has HasForm
