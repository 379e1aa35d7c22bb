use Rattle.std.proofs.Common.{rules, ◌≡◌, ◌∙◌, map}
use Rattle.table_make.specs.Elements.{checks, columns}
use Rattle.table_make.specs.Steps.{check_at, column_at, earlier}
use Rattle.table_make.proofs.All.{least, of_columns, of_lack, of_names, of_partitions, of_properties, of_rules}
use Rattle.table_make.proofs.faults.first_fault.Goals as goal

pub returns : goal.returns
returns c =
    let stmt = c.args.stmt.now in
    let all = c.as_slice-columns.result.now in
    let rules_ = c.as_slice-checks.result.now in
    let all_is : map column_at all ≡ columns stmt.elements = search rules in
    let rules_is : map check_at rules_ ≡ checks stmt.elements = search rules in
    let is : c.first_improper.result ≡ earlier (earlier (earlier (earlier (earlier (of_columns stmt all rules_) (of_lack stmt all rules_)) (of_names stmt all rules_)) (of_rules stmt all rules_)) (of_partitions stmt all rules_)) (of_properties stmt all rules_) = search rules in
    is ∙ least stmt all rules_ all_is rules_is
