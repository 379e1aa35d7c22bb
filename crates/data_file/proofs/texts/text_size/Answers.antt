use Rattle.data_file.proofs.TextSizes.{no_text}
use Rattle.data_file.proofs.texts.text_size.Goals as goal

pub returns-in_default : goal.returns-in_default
returns-in_default c = no_text c.lane.result.now c.args.column.now c.in_default.not-Text c.in_default.not-Bytes c.lane.ensures.served c.lane.ensures.cells c.kind.ensures.typed
