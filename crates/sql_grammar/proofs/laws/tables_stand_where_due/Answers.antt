use Rattle.sql_grammar.proofs.Tables.{tables_where_due}
use Rattle.sql_grammar.proofs.laws.tables_stand_where_due.Goals as goal

pub returns : goal.returns
returns c = tables_where_due
