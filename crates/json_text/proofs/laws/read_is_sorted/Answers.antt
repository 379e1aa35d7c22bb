use Rattle.json_text.proofs.Ordered.{sorted-read}
use Rattle.json_text.proofs.laws.read_is_sorted.Goals as goal

pub returns : goal.returns
returns c = sorted-read
