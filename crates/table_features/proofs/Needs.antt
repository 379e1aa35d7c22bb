-- The features that a new table needs are known, and stand in byte order.
use Rattle.std.proofs.Common.{◌≡◌, ℕ, List, [], ◌∷◌, map, Bool, true, false, None, refl}
use Rattle.std.specs.Prelude.{codes}
use Rattle.std.specs.Cmp.Lexicographic.{slice_cmp}
use Rattle.std.specs.List.{AllByRecursion}
use Rattle.std.specs.List.Sorted.{IsStrictlySortedBy}
use Rattle.std.specs.Ordering.{nat_cmp}
use Rattle.std.specs.declared.cmp.Ordering.TheVariants.{Less}
use Rattle.delta_actions.specs.declared.action.ProtocolAction.{ProtocolAction}
use Rattle.delta_schema.specs.declared.schema.ColumnDef.{ColumnDef}
use Rattle.table_features.specs.Features.{is_writer_feature, least_unknown, fault_of, read_fault, write_fault}
use Rattle.table_features.specs.Needed.{features, names_used, needed}

-- ---- what holds of each name holds of those that are used

all_step : (P : List ℕ → Type 0) (feature : List ℕ × Bool) (list : List (List ℕ × Bool)) (used : Bool) → feature.1 ≡ used → P feature.0 → AllByRecursion P (names_used list) → AllByRecursion P (names_used (feature ∷ list))
all_step P feature list true is first others = rw is (first, others)
all_step P feature list false is first others = rw is others

used_all : (P : List ℕ → Type 0) (list : List (List ℕ × Bool)) → AllByRecursion P (map (λ feature. feature.0) list) → AllByRecursion P (names_used list)
used_all P [] all = tt
used_all P (feature ∷ list) all = all_step P feature list feature.1 refl all.0 (used_all P list all.1)

abbrev IsAscending : List (List ℕ) → Type 0
IsAscending names = IsStrictlySortedBy (slice_cmp nat_cmp) names

ascending_step : (feature : List ℕ × Bool) (list : List (List ℕ × Bool)) (used : Bool) → feature.1 ≡ used → AllByRecursion (λ y. slice_cmp nat_cmp feature.0 y ≡ Less) (names_used list) → IsAscending (names_used list)
    → IsAscending (names_used (feature ∷ list))
unfolding IsStrictlySortedBy
ascending_step feature list true is first others = rw is (first, others)
ascending_step feature list false is first others = rw is others

used_ascending : (list : List (List ℕ × Bool)) → IsAscending (map (λ feature. feature.0) list) → IsAscending (names_used list)
unfolding IsStrictlySortedBy
used_ascending [] ascending = tt
used_ascending (feature ∷ list) ascending =
    ascending_step feature list feature.1 refl (used_all (λ y. slice_cmp nat_cmp feature.0 y ≡ Less) list ascending.0) (used_ascending list ascending.1)

-- ---- the needed ones

pub known-all : (schema : List ColumnDef) (configuration : List (List ℕ × List ℕ)) → AllByRecursion (λ name. is_writer_feature name ≡ true) (needed schema configuration)
unfolding needed
known-all schema configuration = used_all (λ name. is_writer_feature name ≡ true) (features schema configuration) (refl, (refl, (refl, (refl, (refl, (refl, (refl, (refl, (refl, tt)))))))))

pub in_order : (schema : List ColumnDef) (configuration : List (List ℕ × List ℕ)) → IsStrictlySortedBy (slice_cmp nat_cmp) (needed schema configuration)
unfolding needed IsStrictlySortedBy
in_order schema configuration = used_ascending (features schema configuration) ((refl, (refl, (refl, (refl, (refl, (refl, (refl, (refl, tt)))))))), ((refl, (refl, (refl, (refl, (refl, (refl, (refl, tt))))))), ((refl, (refl, (refl, (refl, (refl, (refl, tt)))))), ((refl, (refl, (refl, (refl, (refl, tt))))), ((refl, (refl, (refl, (refl, tt)))), ((refl, (refl, (refl, tt))), ((refl, (refl, tt)), ((refl, tt), (tt, tt)))))))))

-- ---- none is unknown

none_unknown : (knows : List ℕ → Bool) (names : List (List ℕ)) → AllByRecursion (λ name. knows name ≡ true) names → least_unknown knows names ≡ None
unfolding least_unknown
none_unknown knows [] all = refl
none_unknown knows (name ∷ names) all = rw (all.0) (none_unknown knows names all.1)

pub may_be_written : (schema : List ColumnDef) (configuration : List (List ℕ × List ℕ)) (protocol : ProtocolAction) → protocol.min_writer_version ≡ 7 → protocol.writer_features ≡ needed schema configuration → write_fault protocol ≡ None
unfolding fault_of
may_be_written schema configuration protocol version names = rw (version, names, none_unknown is_writer_feature (needed schema configuration) (known-all schema configuration)) refl

pub may_be_read : (protocol : ProtocolAction) → protocol.min_reader_version ≡ 3 → protocol.reader_features ≡ codes "columnMapping" ∷ [] → read_fault protocol ≡ None
unfolding fault_of least_unknown
may_be_read protocol version names = rw (version, names) refl

pub is_read_at_1 : (protocol : ProtocolAction) → protocol.min_reader_version ≡ 1 → read_fault protocol ≡ None
unfolding fault_of
is_read_at_1 protocol version = rw version refl
