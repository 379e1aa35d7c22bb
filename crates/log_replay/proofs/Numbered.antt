-- Commits that are numbered from 0, pushed one after the other.
use Rattle.std.proofs.Common.{◌≡◌, ℕ, ◌+◌, List, [], ◌∷◌, ◌++◌, length, ◌∙◌, arith}
use Rattle.log_replay.specs.declared.commits.Commit.{Commit}
use Rattle.log_replay.specs.Live.{AreNumbered}

numbered-push : (version : ℕ) (commits : List Commit) (commit : Commit) → AreNumbered version commits → commit.version ≡ version + length commits → AreNumbered version (commits ++ commit ∷ [])
unfolding AreNumbered
numbered-push version [] commit numbers is = (is ∙ omega arith, tt)
numbered-push version (first ∷ commits) commit numbers is = (numbers.0, numbered-push (version + 1) commits commit numbers.1 (is ∙ omega arith))

pub numbers_grow : (commits : List Commit) (commit : Commit) → AreNumbered 0 commits → commit.version ≡ length commits → AreNumbered 0 (commits ++ commit ∷ [])
numbers_grow commits commit numbers is = numbered-push 0 commits commit numbers (is ∙ omega arith)
