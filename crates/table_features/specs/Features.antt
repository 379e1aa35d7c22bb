-- Which protocols may be read and written (PROTOCOL.md, "Table Features").
use Rattle.std.specs.Prelude.{◌≡◌, ℕ, ◌<◌, ◌≤◌, List, [], ◌∷◌, Bool, true, false, not, length, get_or, Option, Some, None, option_map, Result, Ok, Err, codes, nat_lt, nat_le, ◌==◌, ◌||◌, ◌&&◌, if◌then◌else◌}
use Rattle.std.specs.Cmp.Lexicographic.{slice_cmp}
use Rattle.std.specs.Ordering.{nat_cmp, is_lt}
use Rattle.std.specs.Str.{bytes_eq}
use Rattle.delta_actions.specs.declared.action.ProtocolAction.{ProtocolAction}
use Rattle.table_features.specs.declared.checks.FeatureFault.{FeatureFault}
use Rattle.table_features.specs.declared.checks.FeatureFault.TheVariants as fault

-- the features that a reader of reader version 3 may be asked for
abbrev pub is_reader_feature : List ℕ → Bool
is_reader_feature name = bytes_eq name (codes "columnMapping") || bytes_eq name (codes "deletionVectors")

-- the features that a writer of writer version 7 may be asked for
abbrev pub is_writer_feature : List ℕ → Bool
is_writer_feature name =
    bytes_eq name (codes "appendOnly")
    || bytes_eq name (codes "invariants")
    || bytes_eq name (codes "checkConstraints")
    || bytes_eq name (codes "changeDataFeed")
    || bytes_eq name (codes "generatedColumns")
    || bytes_eq name (codes "columnMapping")
    || bytes_eq name (codes "identityColumns")
    || bytes_eq name (codes "rowTracking")
    || bytes_eq name (codes "domainMetadata")
    || bytes_eq name (codes "deletionVectors")

-- the name at a place
abbrev pub name_at : List (List ℕ) → ℕ → List ℕ
name_at names place = get_or names place []

-- one name comes before another, byte by byte
abbrev pub is_before : List ℕ → List ℕ → Bool
is_before a b = is_lt (slice_cmp nat_cmp a b)

-- of the names at the first places, so many of them, none is unknown
abbrev pub AreKnown : (List ℕ → Bool) → List (List ℕ) → ℕ → Type 0
AreKnown knows names count = (place : ℕ) → place < count → knows (name_at names place) ≡ true

-- of the names at the first places the one here is unknown, and the least unknown one by bytes; of equal ones it is
-- the first
pub record IsLeastUnknown (knows : List ℕ → Bool) (names : List (List ℕ)) (count here : ℕ) : Type 0 where
  pub within : here < count
  pub unknown : knows (name_at names here) ≡ false
  pub before : (place : ℕ) → place < here → knows (name_at names place) ≡ false
      → is_before (name_at names here) (name_at names place) ≡ true
  pub least : (place : ℕ) → place < count → knows (name_at names place) ≡ false
      → is_before (name_at names place) (name_at names here) ≡ false

-- the least unknown one of the first names, if there is one
abbrev pub IsLeastOf : (List ℕ → Bool) → List (List ℕ) → ℕ → Option ℕ → Type 0
IsLeastOf knows names count None = AreKnown knows names count
IsLeastOf knows names count (Some here) = IsLeastUnknown knows names count here

abbrev pub FindsLeast : (List ℕ → Bool) → List (List ℕ) → Option ℕ → Type 0
FindsLeast knows names found = IsLeastOf knows names (length names) found

-- the reader version is 1, 2 or 3, and at 3 every reader feature is known
abbrev pub CanRead : ProtocolAction → Result (Unit {0}) FeatureFault → Type 0
CanRead protocol (Ok _) =
    (1 ≤ protocol.min_reader_version) × (protocol.min_reader_version ≤ 3)
    × (protocol.min_reader_version ≡ 3
    → AreKnown is_reader_feature protocol.reader_features (length protocol.reader_features))
CanRead protocol (Err fault.Numbers) = ¬ ((1 ≤ protocol.min_reader_version) × (protocol.min_reader_version ≤ 3))
CanRead protocol (Err (fault.Reader index)) =
    (protocol.min_reader_version ≡ 3)
    × IsLeastUnknown is_reader_feature protocol.reader_features (length protocol.reader_features) index
CanRead protocol (Err (fault.Writer index)) = ⊥

-- the writer version is 1 to 7, and at 7 every writer feature is known
abbrev pub CanWrite : ProtocolAction → Result (Unit {0}) FeatureFault → Type 0
CanWrite protocol (Ok _) =
    (1 ≤ protocol.min_writer_version) × (protocol.min_writer_version ≤ 7)
    × (protocol.min_writer_version ≡ 7
    → AreKnown is_writer_feature protocol.writer_features (length protocol.writer_features))
CanWrite protocol (Err fault.Numbers) = ¬ ((1 ≤ protocol.min_writer_version) × (protocol.min_writer_version ≤ 7))
CanWrite protocol (Err (fault.Reader index)) = ⊥
CanWrite protocol (Err (fault.Writer index)) =
    (protocol.min_writer_version ≡ 7)
    × IsLeastUnknown is_writer_feature protocol.writer_features (length protocol.writer_features) index

-- why a protocol is refused: its version, or a feature by its name
pub data NamedFault : Type 0 where
  numbers : NamedFault
  feature : List ℕ → NamedFault

-- the one that comes first byte by byte
abbrev pub lesser : List ℕ → Option (List ℕ) → List ℕ
lesser name None = name
lesser name (Some other) = if is_before other name then other else name

-- the least by bytes of the names that aren't known, if there is one
unfoldable pub least_unknown : (List ℕ → Bool) → List (List ℕ) → Option (List ℕ)
least_unknown knows [] = None
least_unknown knows (name ∷ names) =
    if knows name then least_unknown knows names else Some (lesser name (least_unknown knows names))

-- the versions go up to one at which each feature must be known; there the least unknown one is the fault
unfoldable pub fault_of : (List ℕ → Bool) → ℕ → ℕ → List (List ℕ) → Option NamedFault
fault_of knows last version names =
    if version == last then option_map feature (least_unknown knows names)
    else if nat_le 1 version && nat_lt version last then None else Some numbers

-- why a table of this protocol can't be read, if it can't
abbrev pub read_fault : ProtocolAction → Option NamedFault
read_fault protocol = fault_of is_reader_feature 3 protocol.min_reader_version protocol.reader_features

-- why it can't be written, if it can't
abbrev pub write_fault : ProtocolAction → Option NamedFault
write_fault protocol = fault_of is_writer_feature 7 protocol.min_writer_version protocol.writer_features

-- the fault of an answer, with the name at the place
abbrev pub named_fault : ProtocolAction → Result (Unit {0}) FeatureFault → Option NamedFault
named_fault protocol (Ok _) = None
named_fault protocol (Err fault.Numbers) = Some numbers
named_fault protocol (Err (fault.Reader index)) = Some (feature (name_at protocol.reader_features index))
named_fault protocol (Err (fault.Writer index)) = Some (feature (name_at protocol.writer_features index))

-- the name at a place is unknown, and comes before the least so far
abbrev pub is_below_least : (List ℕ → Bool) → List (List ℕ) → Option ℕ → ℕ → Bool
is_below_least knows names None place = not (knows (name_at names place))
is_below_least knows names (Some here) place =
    not (knows (name_at names place)) && is_before (name_at names place) (name_at names here)
