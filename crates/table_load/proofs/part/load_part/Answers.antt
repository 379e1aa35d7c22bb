use Rattle.std.proofs.Common.{rules}
use Rattle.data_file.specs.Wanted.{wanted}
use Rattle.table_load.specs.Files.{columns_of}
use Rattle.table_load.proofs.LonePart.{alone, alone_refused}
use Rattle.table_load.proofs.part.load_part.Goals as goal

pub returns-in_err-part-clause-part : goal.returns-in_err-part-clause-part
returns-in_err-part-clause-part g c =
    let view = c.args.view.now in
    alone_refused (g.S.Store.files c.args.store.now) c.args.folder.now (wanted c.columns_of-columns.result) (columns_of view.change c.args.head.now) c.new-none.result.keys view.path.now view.values.now view.deletion_vector c.args.room.now c.in_err-part.field-0.0 c.from_residual.result
    c.columns_of-columns.ensures c.new-none.ensures.empty c.in_err-part.ensures.part (search rules)

pub returns-clause-part : goal.returns-clause-part
returns-clause-part g c =
    let view = c.args.view.now in
    alone (g.S.Store.files c.args.store.now) c.args.folder.now (wanted c.columns_of-columns.result) (columns_of view.change c.args.head.now) c.new-none.result.keys view.path.now view.values.now view.deletion_vector c.args.room.now c.in_ok-part.part
    c.columns_of-columns.ensures c.new-none.ensures.empty c.in_ok-part.ensures.part
