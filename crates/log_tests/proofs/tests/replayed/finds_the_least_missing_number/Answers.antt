use Rattle.std.proofs.Common.{rules}
use Rattle.std.specs.List.Sorted.{IsStrictlySortedBy}
use Rattle.log_tests.proofs.tests.replayed.finds_the_least_missing_number.Goals as goal

pub check_numbers-requires : goal.check_numbers-requires
unfolding IsStrictlySortedBy
check_numbers-requires g c = search rules

pub check_numbers-requires-2 : goal.check_numbers-requires-2
unfolding IsStrictlySortedBy
check_numbers-requires-2 g c = search rules

pub check_numbers-requires-3 : goal.check_numbers-requires-3
unfolding IsStrictlySortedBy
check_numbers-requires-3 g c = search rules

pub check_numbers-requires-4 : goal.check_numbers-requires-4
unfolding IsStrictlySortedBy
check_numbers-requires-4 g c = search rules

pub check_numbers-requires-5 : goal.check_numbers-requires-5
unfolding IsStrictlySortedBy
check_numbers-requires-5 g c = search rules
