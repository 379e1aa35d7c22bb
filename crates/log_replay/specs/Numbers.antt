-- The versions of a log: 0, 1, 2 up to the newest (PROTOCOL.md, "Delta Log Entries").
use Rattle.std.specs.Prelude.{◌≡◌, ℕ, zero, suc, ◌+◌, max, List, [], ◌∷◌, Bool, Option, Some, None, Result, Ok, Err, ◌==◌, nat_lt, if◌then◌else◌}
use Rattle.std.specs.List.{list_any}
use Rattle.std.specs.Option.{option_or}
use Rattle.log_replay.specs.declared.numbers.NumberFault.{NumberFault}
use Rattle.log_replay.specs.declared.numbers.NumberFault.TheVariants as fault
use Rattle.log_replay.specs.declared.numbers.TheConstants.{MAX_COMMITS}

-- the number is in the list
abbrev pub is_in : ℕ → List ℕ → Bool
is_in n ns = list_any (λ m. m == n) ns

-- the greatest of the list, or 0 for an empty one
unfoldable pub greatest : List ℕ → ℕ
greatest [] = 0
greatest (n ∷ ns) = max n (greatest ns)

-- how many of the numbers below the bound are in the list
unfoldable pub count_below : List ℕ → ℕ → ℕ
count_below ns zero = 0
count_below ns (suc n) = if is_in n ns then count_below ns n + 1 else count_below ns n

-- how many different numbers are in the list
abbrev pub count_of : List ℕ → ℕ
count_of ns = count_below ns (greatest ns + 1)

-- the least number below the bound that isn't in the list
unfoldable pub first_missing : List ℕ → ℕ → Option ℕ
first_missing ns zero = None
first_missing ns (suc n) = option_or (first_missing ns n) (if is_in n ns then None else Some n)

-- the newest, unless a version below it is missing: then the fault names the least such version
abbrev pub unless_gap : Option ℕ → ℕ → Result ℕ NumberFault
unless_gap None newest = Ok newest
unless_gap (Some missing) newest = Err (fault.Gap missing)

-- the newest of these versions: there is one, and none below the newest is missing
unfoldable pub gapless : List ℕ → Result ℕ NumberFault
gapless [] = Err fault.Nothing
gapless (n ∷ ns) = let newest = greatest (n ∷ ns) in unless_gap (first_missing (n ∷ ns) newest) newest

-- the newest of these versions, which are no more than a log may have, and have no gap
unfoldable pub newest_of : List ℕ → Result ℕ NumberFault
newest_of ns = if nat_lt MAX_COMMITS (count_of ns) then Err fault.TooMany else gapless ns

-- the newest version, or the fault, is told by the members of a list alone
abbrev pub MembersDecide : Type 0
MembersDecide = (first second : List ℕ) → ((n : ℕ) → is_in n first ≡ is_in n second)
    → newest_of first ≡ newest_of second
