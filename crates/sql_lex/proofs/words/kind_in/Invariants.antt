use Rattle.std.proofs.Common.{◌≡◌, map, length}
use Rattle.sql_lex.specs.Words.{kind_in}
use Rattle.sql_lex.proofs.words.kind_in.Given as goal

abbrev pub invariant-loop-list : goal.invariant-loop-list
invariant-loop-list l = kind_in (map (λ entry. (entry.0.now, entry.1)) l.list) l.word ≡ kind_in (map (λ entry. (entry.0.now, entry.1)) l.fn.list) l.word

abbrev pub decreases-loop-list : goal.decreases-loop-list
decreases-loop-list l = length l.list
