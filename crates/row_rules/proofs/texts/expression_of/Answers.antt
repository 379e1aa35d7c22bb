use Rattle.std.proofs.Common.{rules}
use Rattle.row_rules.proofs.Exact.{no_expression}
use Rattle.row_rules.proofs.texts.expression_of.Goals as goal

pub returns-in-Err-BadScript : goal.returns-in-Err-BadScript
returns-in-Err-BadScript c = no_expression c.args.text.now c.as_bytes.result.now c.in-Err-BadScript.field-0 _ c.in-Err-BadScript.field-0-is (search rules) c.in-Err-BadScript.ensures.only
