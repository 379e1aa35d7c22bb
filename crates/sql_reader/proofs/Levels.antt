-- The levels of operators.
use Rattle.std.proofs.Common.{ℕ, Bool, List}
use Rattle.token_lang.specs.Lang.{Lang}
use Rattle.token_lang.specs.Meets.{Leads}
use Rattle.sql_tree.specs.declared.token.Token.{Token}
use Rattle.sql_tree.specs.declared.tree.Expr.{Expr}
use Rattle.sql_grammar.specs.Grammar as g
use Rattle.sql_grammar.specs.Reading.{run_inside, first_expr, first_dated_tail}
use Rattle.sql_grammar.proofs.Readers.{inside_leads, conjunction_leads, negation_leads, sum_leads, prod_leads, sign_leads, first_sign, after_conjunction, after_test, after_sum, after_prod}
use Rattle.sql_reader.specs.Classes.{run_operand}
use Rattle.sql_reader.specs.declared.class.Level.{Level}
use Rattle.sql_reader.specs.declared.class.Level.TheVariants.{Or, And, Concat, Sum, Product}

-- how far the operands of a level are from what holds no operator
abbrev pub rank : Level → ℕ
rank Or = 23
rank And = 21
rank Concat = 14
rank Sum = 12
rank Product = 10

abbrev pub operand_of : List ℕ → ℕ → Level → Lang Token Expr
operand_of script depth Or = g.conjunction script depth (g.inside script depth)
operand_of script depth And = g.negation script depth (g.inside script depth)
operand_of script depth Concat = g.sum script depth (g.inside script depth)
operand_of script depth Sum = g.prod script depth (g.inside script depth)
operand_of script depth Product = g.sign script depth (g.inside script depth)

abbrev pub first_operand : Level → Token → Bool
first_operand Or = first_expr
first_operand And = first_expr
first_operand Concat = first_sign
first_operand Sum = first_sign
first_operand Product = first_sign

abbrev pub after_operand : Level → Token → Bool
after_operand Or = after_conjunction
after_operand And = after_test
after_operand Concat = after_sum
after_operand Sum = after_prod
after_operand Product = first_dated_tail

pub operand_leads : (script : List ℕ) (depth : ℕ) (level : Level) → Leads (operand_of script depth level) (run_operand script depth (run_inside script depth) level) (first_operand level) (after_operand level)
operand_leads script depth Or = conjunction_leads script depth (inside_leads script depth)
operand_leads script depth And = negation_leads script depth (inside_leads script depth)
operand_leads script depth Concat = sum_leads script depth (inside_leads script depth)
operand_leads script depth Sum = prod_leads script depth (inside_leads script depth)
operand_leads script depth Product = sign_leads script depth (inside_leads script depth)
