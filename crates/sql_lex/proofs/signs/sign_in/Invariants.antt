use Rattle.std.proofs.Common.{◌≡◌, map, length}
use Rattle.sql_lex.specs.Signs.{sign_in}
use Rattle.sql_lex.proofs.signs.sign_in.Given as goal

abbrev pub invariant-loop-list : goal.invariant-loop-list
invariant-loop-list l = sign_in (map (λ entry. (entry.0.now, entry.1)) l.list) l.bytes ≡ sign_in (map (λ entry. (entry.0.now, entry.1)) l.fn.list) l.bytes

abbrev pub decreases-loop-list : goal.decreases-loop-list
decreases-loop-list l = length l.list
