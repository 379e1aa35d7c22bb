use Rattle.json_text.proofs.Feeds.{text_lacks}
use Rattle.json_text.proofs.laws.compact_is_one_line.Goals as goal

pub returns : goal.returns
returns c = text_lacks
