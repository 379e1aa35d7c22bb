use Rattle.sql_lex.proofs.Texts.{text_if}
use Rattle.sql_lex.proofs.content.as_text.Goals as goal

pub returns : goal.returns
returns c = text_if c.from_utf8.result c.args.bytes c.from_utf8.ensures.value c.from_utf8.ensures.spelled
