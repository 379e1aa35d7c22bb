use Rattle.std.proofs.Common.{rules, ℕ, List, Ok}
use Rattle.data_file.specs.Rows.{Part, seen}
use Rattle.data_file.specs.Wanted.{wanted}
use Rattle.data_file.specs.declared.rows.PartRows.{PartRows}
use Rattle.table_load.specs.StepsLoading.{is_held}
use Rattle.table_load.proofs.PartRead.{Asked, bytes_refused, path_refused, rows_refused, rows_told}
use Rattle.table_load.proofs.part.part.Goals as goal

abbrev Found : Type 0
Found = List ℕ × PartRows

abbrev view : Found → Part
view found = seen found.1

pub returns-in_err-path-clause-part : goal.returns-in_err-path-clause-part
returns-in_err-path-clause-part g c =
    let asked : Asked = record { folder = c.args.folder.now; columns = wanted c.args.columns.now; is_earlier = is_held c.args.earlier.now.keys; logged = c.args.view.now.path.now; values = c.args.view.now.values.now; vector = c.args.view.now.deletion_vector; room = c.args.room.now } in
    path_refused Found view (g.S.Store.files c.args.store.now) asked c.in_err-path.field-0.0 c.from_residual.result c.in_err-path.ensures (search rules)

pub returns-in_err-bytes-clause-part : goal.returns-in_err-bytes-clause-part
returns-in_err-bytes-clause-part g c =
    let asked : Asked = record { folder = c.args.folder.now; columns = wanted c.args.columns.now; is_earlier = is_held c.args.earlier.now.keys; logged = c.args.view.now.path.now; values = c.args.view.now.values.now; vector = c.args.view.now.deletion_vector; room = c.args.room.now } in
    bytes_refused Found view (g.S.Store.files c.args.store.now) asked c.in_ok-path.path c.in_err-bytes.field-0.0 c.from_residual-in_err-bytes.result c.in_ok-path.ensures c.in_err-bytes.ensures.bytes (search rules)

pub returns-in_err-part-clause-part : goal.returns-in_err-part-clause-part
returns-in_err-part-clause-part g c =
    let asked : Asked = record { folder = c.args.folder.now; columns = wanted c.args.columns.now; is_earlier = is_held c.args.earlier.now.keys; logged = c.args.view.now.path.now; values = c.args.view.now.values.now; vector = c.args.view.now.deletion_vector; room = c.args.room.now } in
    rows_refused PartRows Found seen view (g.S.Store.files c.args.store.now) asked c.in_ok-path.path c.in_ok-bytes.bytes c.as_slice.result.now c.in_err-part.field-0.0 c.from_residual-in_err-part.result c.in_ok-path.ensures c.in_ok-bytes.ensures.bytes c.as_slice.ensures c.in_err-part.ensures.part (search rules)

pub returns-clause-part : goal.returns-clause-part
returns-clause-part g c =
    let asked : Asked = record { folder = c.args.folder.now; columns = wanted c.args.columns.now; is_earlier = is_held c.args.earlier.now.keys; logged = c.args.view.now.path.now; values = c.args.view.now.values.now; vector = c.args.view.now.deletion_vector; room = c.args.room.now } in
    rows_told Found view (g.S.Store.files c.args.store.now) asked c.in_ok-path.path c.in_ok-bytes.bytes (Ok (c.in_ok-path.path, c.in_ok-part.part)) c.in_ok-path.ensures c.in_ok-bytes.ensures.bytes (search rules)
