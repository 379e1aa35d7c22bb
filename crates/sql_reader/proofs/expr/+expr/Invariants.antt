use Rattle.std.proofs.Common.{◌≡◌, ◌+◌, ◌*◌, length}
use Rattle.token_lang.specs.Run.{run_one, run_both, run_rest}
use Rattle.token_lang.proofs.Loops.{at_end}
use Rattle.sql_tree.specs.Kinds.{is}
use Rattle.sql_tree.specs.declared.token.Kind.TheVariants.{Comma, When}
use Rattle.sql_grammar.specs.Tree.{joined}
use Rattle.sql_grammar.specs.Reading.{run_inside, run_chain, run_commas, run_next, run_branch, run_branches}
use Rattle.sql_reader.specs.Classes.{operators, run_operand}
use Rattle.sql_reader.proofs.Levels.{rank}
use Rattle.sql_reader.proofs.expr.+expr.Given as goal

abbrev pub decreases-among : goal.decreases-among
decreases-among l = 32 * l.depth + 16

abbrev pub decreases-arguments : goal.decreases-arguments
decreases-arguments l = 32 * l.depth + 4

abbrev pub decreases-between : goal.decreases-between
decreases-between l = 32 * l.depth + 16

abbrev pub decreases-branch : goal.decreases-branch
decreases-branch l = 32 * l.depth + 1

abbrev pub decreases-branches : goal.decreases-branches
decreases-branches l = 32 * l.depth + 2

abbrev pub decreases-case : goal.decreases-case
decreases-case l = 32 * l.depth + 3

abbrev pub decreases-cast : goal.decreases-cast
decreases-cast l = 32 * l.depth + 1

abbrev pub decreases-comparison : goal.decreases-comparison
decreases-comparison l = 32 * l.depth + 16

abbrev pub decreases-dated : goal.decreases-dated
decreases-dated l = 32 * l.depth + 7

abbrev pub decreases-dated_tail : goal.decreases-dated_tail
decreases-dated_tail l = 32 * l.depth + 6

abbrev pub decreases-group : goal.decreases-group
decreases-group l = 32 * l.depth + 1

abbrev pub decreases-inside : goal.decreases-inside
decreases-inside l = 32 * l.depth

abbrev pub decreases-list : goal.decreases-list
decreases-list l = 32 * l.depth + 2

abbrev pub decreases-maybe_list : goal.decreases-maybe_list
decreases-maybe_list l = 32 * l.depth + 3

abbrev pub decreases-named : goal.decreases-named
decreases-named l = 32 * l.depth + 6

abbrev pub decreases-negation : goal.decreases-negation
decreases-negation l = 32 * l.depth + 20

abbrev pub decreases-next : goal.decreases-next
decreases-next l = 32 * l.depth + 1

abbrev pub decreases-otherwise : goal.decreases-otherwise
decreases-otherwise l = 32 * l.depth + 1

abbrev pub decreases-predicate : goal.decreases-predicate
decreases-predicate l = 32 * l.depth + 18

abbrev pub decreases-primary : goal.decreases-primary
decreases-primary l = 32 * l.depth + 8

abbrev pub decreases-range : goal.decreases-range
decreases-range l = 32 * l.depth + 17

abbrev pub decreases-sign : goal.decreases-sign
decreases-sign l = 32 * l.depth + 9

abbrev pub decreases-tail : goal.decreases-tail
decreases-tail l = 32 * l.depth + 5

abbrev pub decreases-test : goal.decreases-test
decreases-test l = 32 * l.depth + 19

abbrev pub decreases-chain : goal.decreases-chain
decreases-chain l = 32 * l.depth + (rank l.level + 1)

abbrev pub decreases-operand : goal.decreases-operand
decreases-operand l = 32 * l.depth + rank l.level

abbrev pub invariant-chain-items : goal.invariant-chain-items
invariant-chain-items l = run_chain (operators l.level) (run_operand l.source l.depth (run_inside l.source l.depth) l.level) l.fn.tokens ≡ run_rest joined (operators l.level) (run_both (run_one (operators l.level)) (run_operand l.source l.depth (run_inside l.source l.depth) l.level)) l.left l.tokens

abbrev pub decreases-chain-items : goal.decreases-chain-items
decreases-chain-items l = length l.tokens

abbrev pub invariant-list-items : goal.invariant-list-items
invariant-list-items l = run_commas (run_inside l.source l.depth) l.fn.tokens ≡ run_rest at_end (is Comma) (run_next (run_inside l.source l.depth)) l.all l.tokens

abbrev pub decreases-list-items : goal.decreases-list-items
decreases-list-items l = length l.tokens

abbrev pub invariant-branches-items : goal.invariant-branches-items
invariant-branches-items l = run_branches l.source l.depth (run_inside l.source l.depth) l.fn.tokens ≡ run_rest at_end (is When) (run_branch l.source l.depth (run_inside l.source l.depth)) l.all l.tokens

abbrev pub decreases-branches-items : goal.decreases-branches-items
decreases-branches-items l = length l.tokens
