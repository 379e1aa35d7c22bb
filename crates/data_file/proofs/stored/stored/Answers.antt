use Rattle.std.proofs.Common.{◌∙◌, ◌-◌, ℕ, Ok, arith, rules, sym, ap}
use Rattle.column_vectors.specs.Cells.{Cells}
use Rattle.data_file.specs.Room.{Answer}
use Rattle.data_file.specs.Stored.{cells, stored, values_at}
use Rattle.data_file.proofs.Begun.{fails, goes_on}
use Rattle.data_file.proofs.LeavesRead.{cells-limited, stored-is, with_column}
use Rattle.data_file.proofs.Types.{stored_type}
use Rattle.data_file.proofs.stored.stored.Goals as goal

pub returns-in_err-column-clause-found : goal.returns-in_err-column-clause-found
returns-in_err-column-clause-found c =
    let it = c.args.file.now in
    let sought = c.args.sought.now in
    let left = c.args.left in
    fails Cells (Cells × ℕ) (λ column. column) (λ found. found) (cells sought.kind (values_at it left sought sought.place)) (with_column left) (stored it sought left) c.in_err-column.field-0.0 c.from_residual.result (stored-is it sought left) c.in_err-column.ensures.column (search rules)

pub text_size-taken-requires : goal.text_size-taken-requires
text_size-taken-requires c = omega (arith, cells-limited c.args.file.now c.args.left c.args.sought.now c.in_ok-column.column c.in_ok-column.ensures.column, c.ranges.left)

pub overflow_sub-result : goal.overflow_sub-result
overflow_sub-result c = omega (arith, cells-limited c.args.file.now c.args.left c.args.sought.now c.in_ok-column.column c.in_ok-column.ensures.column, c.text_size-taken.ensures)

found : goal.returns-clause-found
found c =
    let it = c.args.file.now in
    let sought = c.args.sought.now in
    let left = c.args.left in
    let made : ℕ → Answer (Cells × ℕ) = λ n. Ok (c.in_ok-column.column, left - n) in
    stored-is it sought left ∙ goes_on (cells sought.kind (values_at it left sought sought.place)) (with_column left) c.in_ok-column.column c.in_ok-column.ensures.column ∙ ap made (sym c.text_size-taken.ensures)

pub returns-clause-found : goal.returns-clause-found
returns-clause-found c = found c

pub returns-clause-kind : goal.returns-clause-kind
returns-clause-kind c = stored_type c.args.file.now c.args.sought.now c.args.left (c.in_ok-column.column, c.args.left - c.text_size-taken.result) (found c)
