-- What the calls that find the live files keep, from the end of the log to its front: the paths that were met, in byte
-- order, and what is kept of each file that is live, the one that stands last in the log first.
use Rattle.std.specs.Prelude.{◌≡◌, ℕ, List, ◌++◌, Bool, not, Option, Some, None, filter, ◌||◌, if◌then◌else◌}
use Rattle.std.specs.Cmp.Lexicographic.{slice_cmp}
use Rattle.std.specs.List.{list_any}
use Rattle.std.specs.Option.{option_to_list}
use Rattle.std.specs.Ordering.{is_eq, nat_cmp}
use Rattle.std.specs.Str.{bytes_eq}
use Rattle.delta_actions.specs.declared.action.AddAction.{AddAction}
use Rattle.delta_actions.specs.declared.action.Action.{Action}
use Rattle.delta_actions.specs.declared.action.Action.TheVariants as action

-- the path is among those that a newer action decided
abbrev pub is_decided : List (List ℕ) → List ℕ → Bool
is_decided decided path = list_any (λ key. is_eq (slice_cmp nat_cmp path key)) decided

-- one more path is decided, and of its file this is kept, unless the path was decided before
pub record Decides {A : Type 0} (old now : List (List ℕ)) (kept grown : List A) (path : List ℕ) (file : Option A)
    : Type 0 where
  pub seen : (other : List ℕ) → is_decided now other ≡ (is_decided old other || bytes_eq other path)
  pub live : grown ≡ (if is_decided old path then kept else kept ++ option_to_list file)

-- nothing is decided
pub record DecidesNothing {A : Type 0} (old now : List (List ℕ)) (kept grown : List A) : Type 0 where
  pub seen : now ≡ old
  pub live : grown ≡ kept

-- an add decides its path
abbrev pub DecidesAdd : {A : Type 0} → (AddAction → A) → List (List ℕ) → List (List ℕ) → List A → List A
    → Option AddAction → Type 0
DecidesAdd keep old now kept grown None = DecidesNothing old now kept grown
DecidesAdd keep old now kept grown (Some add) = Decides old now kept grown add.path (Some (keep add))

-- the path that an action removes
abbrev pub removed : Action → Option (List ℕ)
removed (action.Protocol protocol) = None
removed (action.Metadata metadata) = None
removed (action.Add add) = None
removed (action.Remove remove) = Some remove.path
removed (action.Cdc cdc) = None
removed (action.Domain domain) = None
removed (action.Info info) = None
removed action.Other = None

-- a remove decides its path, and nothing is kept
abbrev pub DecidesRemove : {A : Type 0} → List (List ℕ) → List (List ℕ) → List A → List A → Option (List ℕ) → Type 0
DecidesRemove {A} old now kept grown None = DecidesNothing old now kept grown
DecidesRemove {A} old now kept grown (Some path) = Decides {A = A} old now kept grown path None

-- the files whose paths nothing has decided
abbrev pub undecided : List (List ℕ) → List AddAction → List AddAction
undecided decided files = filter (λ add. not (is_decided decided add.path)) files
