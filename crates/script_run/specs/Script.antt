-- Which bytes are a script, and its statements.
use Rattle.std.specs.Prelude.{ℕ, List, [], length}
use Rattle.sql_grammar.specs.Statements as grammar
use Rattle.sql_lex.specs.Tokens.{tokens}
use Rattle.sql_reader.specs.Answers.{IsPlace}
use Rattle.sql_statements.specs.declared.Stmt.{Stmt}

-- the bytes are a script of the grammar with these statements
pub record IsScript (script : List ℕ) (statements : List Stmt) : Type 0 where
  pub derived : (grammar.script script).reads (tokens script) statements []

-- the bytes are none; at this byte the first token begins such that no script begins with the tokens up to it, or they
-- end
pub record IsNoScript (script : List ℕ) (at : ℕ) : Type 0 where
  pub none : (statements : List Stmt) → ¬ ((grammar.script script).reads (tokens script) statements [])
  pub place : IsPlace (grammar.script script) (length script) (tokens script) at
