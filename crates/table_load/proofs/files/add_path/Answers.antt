use Rattle.table_load.proofs.Paths.{path_added}
use Rattle.table_load.proofs.files.add_path.Goals as goal

pub returns : goal.returns
returns c = path_added c.args.paths.now.keys c.insert.new.self.keys c.args.path c.in_ok-insert.ensures.updates.0
