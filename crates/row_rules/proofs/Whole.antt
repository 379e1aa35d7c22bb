-- The rules of a table, step after step.
use Rattle.std.proofs.Common.{◌≡◌, ℕ, List, Result, Ok, Err, refl}
use Rattle.row_rules.specs.Rules.{check_rules, column_rules, rules_of, rules_with, tracking}
use Rattle.row_rules.specs.declared.rules.CheckRule.{CheckRule}
use Rattle.row_rules.specs.declared.rules.ColumnRule.{ColumnRule}
use Rattle.table_load.specs.declared.head.Head.{Head}

module _ (head : Head) where
  pub columns_fail : (name : List ℕ) → column_rules head ≡ Err name → rules_of head ≡ Err name
  unfolding rules_of
  columns_fail name e = rw (e) refl

  module _ (columns : List ColumnRule) (first : column_rules head ≡ Ok columns) where
    pub checks_fail : (name : List ℕ) → check_rules head ≡ Err name → rules_of head ≡ Err name
    unfolding rules_of
    checks_fail name e = rw (first, e) refl

module _ (head : Head) (columns : List ColumnRule) (checks : List CheckRule) (first : column_rules head ≡ Ok columns) (second : check_rules head ≡ Ok checks) where
  pub tracking_fails : (name : List ℕ) → tracking head ≡ Err name → rules_of head ≡ Err name
  unfolding rules_of
  tracking_fails name e = rw (first, second, e) refl

  pub whole : tracking head ≡ Ok tt → rules_of head ≡ Ok (rules_with columns checks)
  unfolding rules_of
  whole e = rw (first, second, e) refl
