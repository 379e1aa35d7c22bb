use Rattle.token_lang.specs.Lang.{one, both, valued}
use Rattle.token_lang.proofs.Same.{common_front, optional_front}
use Rattle.sql_tree.specs.Kinds.{any, names_alone, dates}
use Rattle.sql_tree.specs.declared.token.Kind.TheVariants.{Dot, Not, Show}
use Rattle.sql_grammar.specs.Grammar as g
use Rattle.sql_grammar.specs.Statements as s
use Rattle.sql_grammar.specs.Tree as tree
use Rattle.sql_grammar.proofs.laws.common_fronts.Goals as goal

pub returns : goal.returns
returns c = record {
  names = λ bytes depth. optional_front (tree.named bytes) (one (any names_alone)) (valued (tree.qualified bytes) (both (g.token Dot) g.name)) (g.arguments bytes depth (g.inside bytes depth));
  dates = λ bytes depth. optional_front (tree.named bytes) (one (any dates)) (valued (tree.dated bytes) g.text) (g.tail bytes depth (g.inside bytes depth));
  ranges = λ bytes depth. common_front tree.maybe_not (g.maybe (g.token Not)) (g.between bytes depth (g.inside bytes depth)) (g.among bytes depth (g.inside bytes depth));
  shows = λ bytes. common_front g.second (g.token Show) (s.show_files_of bytes (g.expression bytes)) (s.show_rows_of bytes (g.expression bytes));
}
