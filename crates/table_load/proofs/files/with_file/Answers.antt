use Rattle.std.proofs.Common.{rules}
use Rattle.data_file.specs.Rows.{seen}
use Rattle.data_file.specs.Wanted.{wanted}
use Rattle.table_load.specs.Loaded.{come_to}
use Rattle.table_load.specs.StepsLoading.{is_held}
use Rattle.table_load.proofs.PartRead.{Asked}
use Rattle.table_load.proofs.WithFile.{asked_is, file_read, file_refused}
use Rattle.table_load.proofs.files.with_file.Goals as goal

pub returns-in_err-path-clause-joined : goal.returns-in_err-path-clause-joined
returns-in_err-path-clause-joined g c =
    let view = c.view_of-view.result in
    let test = is_held c.args.paths.now.keys in
    let asked : Asked = record { folder = c.args.folder.now; columns = wanted c.columns_of-columns.result; is_earlier = test; logged = view.path.now; values = view.values.now; vector = view.deletion_vector; room = c.args.before.room } in
    file_refused (g.S.Store.files c.args.store.now) c.args.folder.now c.args.head.now test (come_to c.args.before) c.args.add.now asked c.in_err-path.field-0.0 c.from_residual.result
    (asked_is c.args.folder.now c.args.head.now test c.args.before.room c.args.add.now (wanted c.columns_of-columns.result) view.path.now view.values.now view.deletion_vector c.columns_of-columns.ensures c.view_of-view.ensures.path c.view_of-view.ensures.values c.view_of-view.ensures.vector)
    c.in_err-path.ensures.part (search rules)

pub returns-clause-joined : goal.returns-clause-joined
returns-clause-joined g c =
    let view = c.view_of-view.result in
    let test = is_held c.args.paths.now.keys in
    let asked : Asked = record { folder = c.args.folder.now; columns = wanted c.columns_of-columns.result; is_earlier = test; logged = view.path.now; values = view.values.now; vector = view.deletion_vector; room = c.args.before.room } in
    file_read (g.S.Store.files c.args.store.now) c.args.folder.now c.args.head.now test (come_to c.args.before) (come_to c.in_ok-with_part.field-0) c.args.add.now asked (seen c.in_ok-path.part)
    (asked_is c.args.folder.now c.args.head.now test c.args.before.room c.args.add.now (wanted c.columns_of-columns.result) view.path.now view.values.now view.deletion_vector c.columns_of-columns.ensures c.view_of-view.ensures.path c.view_of-view.ensures.values c.view_of-view.ensures.vector)
    c.in_ok-path.ensures.part c.in_ok-with_part.ensures.joined
