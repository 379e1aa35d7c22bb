use Rattle.std.proofs.Common.{◌∙◌, sym}
use Rattle.token_lang.proofs.End.{end_found, end_only, end_place}
use Rattle.sql_grammar.proofs.Statements.{script_meets}
use Rattle.sql_reader.proofs.Cut.{same_value, same_place}
use Rattle.sql_reader.proofs.statement.script_of.Goals as goal

pub returns-in-Ok-clause-found : goal.returns-in-Ok-clause-found
returns-in-Ok-clause-found c = end_found (script_meets c.args.bytes.now).exact c.args.tokens.now c.in-Ok.all c.whole_script.new.tokens (rw (c.new-cursor.ensures, c.new-source.ensures) at c.in-Ok.ensures)

pub returns-in-Ok-clause-only : goal.returns-in-Ok-clause-only
returns-in-Ok-clause-only c = λ a h. same_value (sym (rw (c.new-cursor.ensures, c.new-source.ensures) at c.in-Ok.ensures) ∙ end_only (script_meets c.args.bytes.now).exact c.args.tokens.now a h)

pub returns-in-Err-Refused-clause-only : goal.returns-in-Err-Refused-clause-only
returns-in-Err-Refused-clause-only c = λ a h. let e = sym (rw (c.in-Err-Refused.field-0-is, c.new-cursor.ensures, c.new-source.ensures) at c.in-Err-Refused.ensures) ∙ end_only (script_meets c.args.bytes.now).exact c.args.tokens.now a h in absurd (cc)

pub returns-in-Err-Refused-clause-place : goal.returns-in-Err-Refused-clause-place
returns-in-Err-Refused-clause-place c = λ at e. (c.whole_script.new.tokens, end_place (script_meets c.args.bytes.now).exact c.args.tokens.now c.whole_script.new.tokens (rw (c.in-Err-Refused.field-0-is, c.new-cursor.ensures, c.new-source.ensures) at c.in-Err-Refused.ensures), same_place e ∙ c.place.ensures)
