use Rattle.std.proofs.Common.{refl}
use Rattle.plain_values.specs.Flags.{flag_at}
use Rattle.plain_values.proofs.truth.flag.Goals as goal

pub returns : goal.returns
unfolding flag_at
returns c = refl
