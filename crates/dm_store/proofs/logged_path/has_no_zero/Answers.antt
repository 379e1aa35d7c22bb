use Rattle.std.proofs.Common.{rules, tests, not, ◌==◌}
use Rattle.std.proofs.lemmas.Iterator.{YieldsList-from_slice}
use Rattle.std.proofs.lemmas.Iterator.Search.{all_from_yields_List}
use Rattle.dm_store.proofs.logged_path.has_no_zero.Goals as goal

pub returns : goal.returns
returns c = all_from_yields_List (λ b. not (b == 0)) _ _ c.all.result c.all.ensures.ran (YieldsList-from_slice c.args.path.now cc) (λ x b q k. search (rules, tests))
