use Rattle.std.proofs.Common.{◌∙◌}
use Rattle.dm_text.proofs.Numerals.{few}
use Rattle.dm_text.proofs.digits.read_few.Goals as goal

pub returns : goal.returns
returns c = c.read_digits.ensures ∙ few c.args.text.now c.requires
