use Rattle.std.proofs.Common.{arith}
use Rattle.dm_text.proofs.Points.{bounded, sum_bound}
use Rattle.dm_text.proofs.decimals.read_fixed.Goals as goal

pub overflow_add-result : goal.overflow_add-result
overflow_add-result c =
    omega (arith, sum_bound c.in_ok-front-in-Some.front c.in_ok-behind-in-Some.behind c.args.room c.args.scale c.requires c.in_ok-front-in-Some.ensures.bound c.in_ok-behind-in-Some.ensures.bound)

pub returns-in-None-clause-bound : goal.returns-in-None-clause-bound
returns-in-None-clause-bound c = bounded c.read_front.result c.args.room c.args.scale c.requires c.read_front.ensures.bound

pub returns-in_ok-behind-in-Some-clause-bound : goal.returns-in_ok-behind-in-Some-clause-bound
returns-in_ok-behind-in-Some-clause-bound c =
    sum_bound c.in_ok-front-in-Some.front c.in_ok-behind-in-Some.behind c.args.room c.args.scale c.requires c.in_ok-front-in-Some.ensures.bound c.in_ok-behind-in-Some.ensures.bound
