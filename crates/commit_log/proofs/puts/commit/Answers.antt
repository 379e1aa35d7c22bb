use Rattle.std.proofs.Common.{rules, refl, Ok, Err}
use Rattle.commit_log.specs.declared.fault.CommitFault.TheVariants as fault
use Rattle.commit_log.proofs.Putting.{memory_first, commits, placed_puts, taken_within, first_taken, name_taken, file_failed, file_memory}
use Rattle.commit_log.proofs.puts.commit.Goals as goal

pub returns-in_err-paths-clause-files : goal.returns-in_err-paths-clause-files
returns-in_err-paths-clause-files g c = memory_first (g.S.Store.files c.args.store.now) c.args.fresh.now c.from_residual-in_err-paths.result fault.Memory (search rules) refl

pub returns-in-Ok-clause-files : goal.returns-in-Ok-clause-files
returns-in-Ok-clause-files g c =
    let puts = placed_puts (g.S.Store.files c.args.store.now) (g.S.Store.files c.put_files.new.store) c.args.fresh.now c.as_slice.result.now c.as_slice-2.result.now (Ok c.in-Ok.field-0) (search rules) (search rules) c.in-Ok.ensures.files in
    commits (g.S.Store.files c.args.store.now) (g.S.Store.files c.put_files.new.store) (g.S.Store.files c.put_commit.new.store) c.args.fresh.now c.as_str.result.now c.in_ok-bytes.bytes c.put_commit.result c.requires (search rules) (search rules) puts c.put_commit.ensures.files

pub taken-requires : goal.taken-requires
taken-requires g c =
    let puts = placed_puts (g.S.Store.files c.args.store.now) (g.S.Store.files c.put_files.new.store) c.args.fresh.now c.as_slice.result.now c.as_slice-2.result.now (Err c.in-Err-Exists.field-0) (search rules) (search rules) c.in-Err-Exists.ensures.files in
    taken_within (g.S.Store.files c.args.store.now) (g.S.Store.files c.put_files.new.store) c.args.fresh.now c.in_ok-paths.paths c.in-Err-Exists.index (search rules) (first_taken (g.S.Store.files c.args.store.now) (g.S.Store.files c.put_files.new.store) c.args.fresh.now c.in-Err-Exists.index c.in-Err-Exists.field-0 c.in-Err-Exists.field-0-is puts)

pub returns-in-Err-Exists-clause-files : goal.returns-in-Err-Exists-clause-files
returns-in-Err-Exists-clause-files g c =
    let puts = placed_puts (g.S.Store.files c.args.store.now) (g.S.Store.files c.put_files.new.store) c.args.fresh.now c.as_slice.result.now c.as_slice-2.result.now (Err c.in-Err-Exists.field-0) (search rules) (search rules) c.in-Err-Exists.ensures.files in
    name_taken (g.S.Store.files c.args.store.now) (g.S.Store.files c.put_files.new.store) c.args.fresh.now c.in_ok-paths.paths c.in-Err-Exists.index c.taken.result (search rules) c.taken.ensures (first_taken (g.S.Store.files c.args.store.now) (g.S.Store.files c.put_files.new.store) c.args.fresh.now c.in-Err-Exists.index c.in-Err-Exists.field-0 c.in-Err-Exists.field-0-is puts)

pub returns-in-Err-Failed-clause-files : goal.returns-in-Err-Failed-clause-files
returns-in-Err-Failed-clause-files g c =
    let puts = placed_puts (g.S.Store.files c.args.store.now) (g.S.Store.files c.put_files.new.store) c.args.fresh.now c.as_slice.result.now c.as_slice-2.result.now (Err c.in-Err-Failed.field-0) (search rules) (search rules) c.in-Err-Failed.ensures.files in
    file_failed (g.S.Store.files c.args.store.now) (g.S.Store.files c.put_files.new.store) c.args.fresh.now c.in-Err-Failed.field-0 c.in-Err-Failed.field-0-is puts

pub returns-clause-files : goal.returns-clause-files
returns-clause-files g c =
    let puts = placed_puts (g.S.Store.files c.args.store.now) (g.S.Store.files c.put_files.new.store) c.args.fresh.now c.as_slice.result.now c.as_slice-2.result.now (Err c.in-Err-Memory.field-0) (search rules) (search rules) c.in-Err-Memory.ensures.files in
    file_memory (g.S.Store.files c.args.store.now) (g.S.Store.files c.put_files.new.store) c.args.fresh.now c.in-Err-Memory.field-0 c.in-Err-Memory.field-0-is puts
