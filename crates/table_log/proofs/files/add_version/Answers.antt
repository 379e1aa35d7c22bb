use Rattle.std.proofs.Common.{rules}
use Rattle.table_log.specs.Listed.{IsVersion}
use Rattle.std.specs.Ordering.{nat_cmp}
use Rattle.std.proofs.lemmas.Map.Views.{All-insert_key}
use Rattle.table_log.proofs.Inserted.{insert_key-in}
use Rattle.table_log.proofs.Spelling.{name-from_version}
use Rattle.table_log.proofs.files.add_version.Goals as goal

pub returns-in_ok-insert-clause-added : goal.returns-in_ok-insert-clause-added
returns-in_ok-insert-clause-added c = λ n. rw (c.in_ok-insert.ensures.keys, ← c.in-Some.ensures) (insert_key-in n c.in-Some.version c.args.versions.now.keys)

pub returns-in_ok-insert-clause-small : goal.returns-in_ok-insert-clause-small
returns-in_ok-insert-clause-small c = λ all. rw (c.in_ok-insert.ensures.keys) (All-insert_key nat_cmp c.in-Some.version IsVersion c.args.versions.now.keys all (name-from_version c.args.name.now c.in-Some.version (search rules)).1)
