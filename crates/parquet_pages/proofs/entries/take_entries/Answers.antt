use Rattle.std.proofs.Common.{rules, arith}
use Rattle.std.specs.Prelude.{option_map}
use Rattle.parquet_pages.specs.Views.{level_list, page_values, seen}
use Rattle.parquet_pages.proofs.Taken.{running_begins, running_on, running_fails, running_ends}
use Rattle.parquet_pages.proofs.entries.take_entries.Goals as goal

pub loop-at-init : goal.loop-at-init
loop-at-init c = running_begins c.args.leaf.now (level_list c.args.levels.now) (page_values c.args.values.now) c.args.order.now c.args.reading.now c.requires

pub returns-in_err-take_entry : goal.returns-in_err-take_entry
returns-in_err-take_entry c = running_fails c.args.leaf.now (level_list c.args.levels.now) (page_values c.args.values.now) c.args.order.now c.loop-at.at c.loop-at.before (option_map seen c.entry_of-entry.result) c.args.reading.now c.loop-at.reading c.take_entry.new.reading c.in_err-take_entry.field-0.0 c.from_residual.result c.loop-at.invariant (search rules) c.entry_of-entry.ensures (search rules) (search rules)

pub loop-at-preserved : goal.loop-at-preserved
loop-at-preserved c = running_on c.args.leaf.now (level_list c.args.levels.now) (page_values c.args.values.now) c.args.order.now c.loop-at.at c.loop-at.before c.from-before.result (option_map seen c.entry_of-entry.result) c.args.reading.now c.loop-at.reading c.take_entry.new.reading (tt {0}) c.loop-at.invariant (search rules) c.entry_of-entry.ensures (search rules) (search rules)

pub returns : goal.returns
returns c = running_ends c.args.leaf.now (level_list c.args.levels.now) (page_values c.args.values.now) c.args.order.now c.loop-at.at c.loop-at.before c.args.reading.now c.loop-at.reading (tt {0}) c.loop-at.invariant (search (rules, arith))
