-- What the newest actions decide, from the end of the log to its front.
use Rattle.std.proofs.Common.{◌≡◌, ℕ, ◌+◌, ◌<◌, length, drop, get_or, add-one, List, [], ◌∷◌, ◌++◌, Bool, true, false, ◌||◌, ◌&&◌, not, cond, map, Option, Some, None, is_some, refl, sym, ap, ◌∙◌, append_assoc, arith}
use Rattle.std.specs.Prelude.{filter, reverse}
use Rattle.std.specs.Cmp.Lexicographic.{slice_cmp}
use Rattle.std.specs.Option.{option_to_list}
use Rattle.std.specs.Ordering.{is_eq, nat_cmp}
use Rattle.std.specs.Str.{bytes_eq}
use Rattle.std.proofs.lemmas.List.{reverse-append, append-nil, map-append}
use Rattle.std.proofs.lemmas.List.Elements.{filter-append}
use Rattle.std.proofs.lemmas.List.Folds.{list_any-append}
use Rattle.std.proofs.lemmas.Map.Text.{is_eq-slice_cmp}
use Rattle.std.proofs.lemmas.Slice.Eq.{bytes_eq-Decides}
use Rattle.std.proofs.Math.Seq.{drop-cons}
use Rattle.delta_actions.specs.declared.action.AddAction.{AddAction}
use Rattle.delta_actions.specs.declared.action.Action.{Action}
use Rattle.delta_actions.specs.declared.action.Action.TheVariants as action
use Rattle.log_replay.specs.declared.commits.Commit.{Commit}
use Rattle.log_replay.specs.Live.{AreNumbered, added, mentioned, is_add, is_of, live_adds, lines}
use Rattle.log_replay.specs.Changes.{mentions, adds, removes, unless_again, last_adds, after_commit}
use Rattle.log_replay.specs.StepsLive.{is_decided, Decides, DecidesAdd, removed, DecidesRemove, undecided}
use Rattle.log_replay.proofs.Replaying.{live_adds-push, numbered-front}

-- ---- one decision

or_false : (b : Bool) → (b || false) ≡ b
or_false true = refl
or_false false = refl

same_path : (a b : List ℕ) → bytes_eq a b ≡ true → a ≡ b
same_path a b is = (bytes_eq-Decides a b).0 is

or_given : (x z : Bool) → (z ≡ true → x ≡ true) → x ≡ (x || z)
or_given true z given = refl
or_given false true given = given refl
or_given false false given = refl

decided_self : (decided : List (List ℕ)) (path : List ℕ) → is_decided decided path ≡ true → (other : List ℕ) → is_decided decided other ≡ (is_decided decided other || bytes_eq other path)
decided_self decided path known other = or_given (is_decided decided other) (bytes_eq other path) (λ same. let e : other ≡ path = same_path other path same in rw e known)

turned : (a b : Bool) → (a ≡ true → b ≡ true) → (b ≡ true → a ≡ true) → a ≡ b
turned true b there back = sym (there refl)
turned false true there back = back refl
turned false false there back = refl

bytes_turned : (a b : List ℕ) → bytes_eq a b ≡ bytes_eq b a
bytes_turned a b = turned (bytes_eq a b) (bytes_eq b a) (λ is. (bytes_eq-Decides b a).1 (sym (same_path a b is))) (λ is. (bytes_eq-Decides a b).1 (sym (same_path b a is)))

set_or : (here : Bool) (old : Bool) → cond here true old ≡ (old || here)
set_or true true = refl
set_or true false = refl
set_or false true = refl
set_or false false = refl

-- a path that the set took
seen_new : (old now : List (List ℕ)) (path : List ℕ) → ((other : List ℕ) → is_decided now other ≡ cond (is_eq (slice_cmp nat_cmp path other)) true (is_decided old other)) → (other : List ℕ) → is_decided now other ≡ (is_decided old other || bytes_eq other path)
seen_new old now path updates other =
    updates other ∙ set_or (is_eq (slice_cmp nat_cmp path other)) (is_decided old other) ∙ ap (λ (b : Bool). is_decided old other || b) (is_eq-slice_cmp path other ∙ bytes_turned path other)

pub decides_new : {A : Type 0} (old now : List (List ℕ)) (kept grown : List A) (path key : List ℕ) (file : Option A) → is_decided old path ≡ false → key ≡ path
    → ((other : List ℕ) → is_decided now other ≡ cond (is_eq (slice_cmp nat_cmp key other)) true (is_decided old other)) → grown ≡ kept ++ option_to_list file → Decides old now kept grown path file
decides_new old now kept grown path key file absent same updates is =
    record { seen = seen_new old now path (rw same at updates); live = rw absent is }

pub decides_before : {A : Type 0} (old : List (List ℕ)) (kept : List A) (path : List ℕ) (file : Option A) → is_decided old path ≡ true → Decides old old kept kept path file
decides_before old kept path file there = record { seen = decided_self old path there; live = rw there refl }

-- ---- kinds of actions

-- an added file's path is mentioned
added_mentions : (a : Action) (add : AddAction) → added a ≡ Some add → mentioned a ≡ Some add.path
added_mentions (action.Protocol protocol) add is = absurd cc
added_mentions (action.Metadata metadata) add is = absurd cc
added_mentions (action.Add other) add is = let same : other ≡ add = cc in ap (λ (it : AddAction). Some it.path) same
added_mentions (action.Remove remove) add is = absurd cc
added_mentions (action.Cdc cdc) add is = absurd cc
added_mentions (action.Domain domain) add is = absurd cc
added_mentions (action.Info info) add is = absurd cc
added_mentions action.Other add is = absurd cc

-- ---- the adds of a commit

adds-push : (earlier : List Action) (a : Action) (path : List ℕ) → adds (earlier ++ a ∷ []) path ≡ (adds earlier path || (is_add a && is_of path a))
adds-push earlier a path = rw (list_any-append (λ b. is_add b && is_of path b) earlier (a ∷ []), or_false (is_add a && is_of path a)) refl

or_new : (x y z : Bool) → ((x || z) || y) ≡ (x || (y || z))
or_new true y z = refl
or_new false true true = refl
or_new false true false = refl
or_new false false true = refl
or_new false false false = refl

seen_found : {A : Type 0} (keep : AddAction → A) (old now : List (List ℕ)) (kept grown : List A) (earlier : List Action) (a : Action) (path : List ℕ) (found : Option AddAction) → added a ≡ found → DecidesAdd keep old now kept grown found
    → (is_decided now path || adds earlier path) ≡ (is_decided old path || (adds earlier path || (is_some found && is_of path a)))
seen_found keep old now kept grown earlier a path None is stays = rw (stays.seen, or_false (adds earlier path)) refl
seen_found keep old now kept grown earlier a path (Some add) is decides =
    rw (added_mentions a add is, decides.seen path) (or_new (is_decided old path) (adds earlier path) (bytes_eq path add.path))

seen-add : {A : Type 0} (keep : AddAction → A) (old now : List (List ℕ)) (kept grown : List A) (earlier : List Action) (a : Action) (path : List ℕ) → DecidesAdd keep old now kept grown (added a) → (is_decided now path || adds earlier path) ≡ (is_decided old path || adds (earlier ++ a ∷ []) path)
seen-add keep old now kept grown earlier a path is = rw (adds-push earlier a path) (seen_found keep old now kept grown earlier a path (added a) refl is)

-- ---- the last adds of one more line

last_step : (x add : AddAction) (again here : Bool) (rest : List AddAction) (q : AddAction → Bool) → q x ≡ not here
    → cond (again || here) (filter q rest ++ add ∷ []) (x ∷ (filter q rest ++ add ∷ [])) ≡ filter q (cond again rest (x ∷ rest)) ++ add ∷ []
last_step x add true here rest q is = refl
last_step x add false true rest q is = rw is refl
last_step x add false false rest q is = rw is refl

last_found : (found : Option AddAction) (more : List Action) (a : Action) (add : AddAction) → added a ≡ Some add
    → unless_again found (more ++ a ∷ []) (filter (λ it. not (bytes_eq it.path add.path)) (last_adds more) ++ add ∷ []) ≡ filter (λ it. not (bytes_eq it.path add.path)) (unless_again found more (last_adds more)) ++ add ∷ []
last_found None more a add is = refl
last_found (Some x) more a add is =
    rw (adds-push more a x.path, is, added_mentions a add is) (last_step x add (adds more x.path) (bytes_eq x.path add.path) (last_adds more) (λ it. not (bytes_eq it.path add.path)) refl)

last_adds-add : (commit : List Action) (a : Action) (add : AddAction) → added a ≡ Some add → last_adds (commit ++ a ∷ []) ≡ filter (λ it. not (bytes_eq it.path add.path)) (last_adds commit) ++ add ∷ []
unfolding last_adds
last_adds-add [] a add is = rw is refl
last_adds-add (x ∷ more) a add is = rw (last_adds-add more a add is) (last_found (added x) more a add is)

last_none : (found : Option AddAction) (more : List Action) (a : Action) → added a ≡ None → unless_again found (more ++ a ∷ []) (last_adds more) ≡ unless_again found more (last_adds more)
last_none None more a is = refl
last_none (Some x) more a is = rw (adds-push more a x.path, is, or_false (adds more x.path)) refl

last_adds-other : (commit : List Action) (a : Action) → added a ≡ None → last_adds (commit ++ a ∷ []) ≡ last_adds commit
unfolding last_adds
last_adds-other [] a is = rw is refl
last_adds-other (x ∷ more) a is = rw (last_adds-other more a is) (last_none (added x) more a is)

-- ---- filters

both : {A : Type 0} (p q r : A → Bool) (xs : List A) → ((x : A) → r x ≡ (q x && p x)) → filter p (filter q xs) ≡ filter r xs
both p q r [] is = refl
both p q r (x ∷ xs) is = both_step p q r x xs (q x) (p x) refl refl (is x) (both p q r xs is)
  where
    both_step : {A : Type 0} (p q r : A → Bool) (x : A) (xs : List A) (a b : Bool) → q x ≡ a → p x ≡ b → r x ≡ (q x && p x) → filter p (filter q xs) ≡ filter r xs → filter p (filter q (x ∷ xs)) ≡ filter r (x ∷ xs)
    both_step p q r x xs true true h k is rest = rw (is, h, k) (ap (λ more. x ∷ more) rest)
    both_step p q r x xs true false h k is rest = rw (is, h, k) rest
    both_step p q r x xs false b h k is rest = rw (is, h) rest

all_pass : {A : Type 0} (xs : List A) → filter (λ x. true) xs ≡ xs
all_pass [] = refl
all_pass (x ∷ xs) = ap (λ more. x ∷ more) (all_pass xs)

not_or : (x y : Bool) → not (x || y) ≡ (not y && not x)
not_or true true = refl
not_or true false = refl
not_or false true = refl
not_or false false = refl

-- what isn't decided after more was decided
undecided-more : (old now : List (List ℕ)) (more : List ℕ → Bool) (files : List AddAction) → ((path : List ℕ) → is_decided now path ≡ (is_decided old path || more path)) → undecided old (filter (λ add. not (more add.path)) files) ≡ undecided now files
undecided-more old now more files seen =
    both (λ add. not (is_decided old add.path)) (λ add. not (more add.path)) (λ add. not (is_decided now add.path)) files (λ add. ap not (seen add.path) ∙ not_or (is_decided old add.path) (more add.path))

-- ---- the adds, and the whole commit

none_kept : (decided : List (List ℕ)) (add : AddAction) → is_decided decided add.path ≡ true → undecided decided (add ∷ []) ≡ []
none_kept decided add known = rw known refl

one_kept : (decided : List (List ℕ)) (add : AddAction) → is_decided decided add.path ≡ false → undecided decided (add ∷ []) ≡ add ∷ []
one_kept decided add known = rw known refl

-- the files of the lines in front, and then the add
parts : (old now : List (List ℕ)) (files : List AddAction) (add : AddAction) → ((path : List ℕ) → is_decided now path ≡ (is_decided old path || bytes_eq path add.path))
    → undecided old (filter (λ it. not (bytes_eq it.path add.path)) files ++ add ∷ []) ≡ undecided now files ++ undecided old (add ∷ [])
parts old now files add seen =
    filter-append (λ it. not (is_decided old it.path)) (filter (λ it. not (bytes_eq it.path add.path)) files) (add ∷ [])
    ∙ ap (λ (xs : List AddAction). xs ++ undecided old (add ∷ [])) (undecided-more old now (λ other. bytes_eq other add.path) files seen)

live_known : {A : Type 0} (keep : AddAction → A) (old now : List (List ℕ)) (kept grown : List A) (files : List AddAction) (add : AddAction) (known : Bool) → is_decided old add.path ≡ known → Decides old now kept grown add.path (Some (keep add))
    → map keep (undecided now files) ++ reverse grown ≡ map keep (undecided old (filter (λ it. not (bytes_eq it.path add.path)) files ++ add ∷ [])) ++ reverse kept
live_known {A} keep old now kept grown files add true known decides =
    let same : grown ≡ kept = rw known at decides.live in
    rw (same, parts old now files add decides.seen, none_kept old add known, append-nil (undecided now files)) refl
live_known {A} keep old now kept grown files add false known decides =
    let more : grown ≡ kept ++ keep add ∷ [] = rw known at decides.live in
    rw (more, parts old now files add decides.seen, one_kept old add known, map-append keep (undecided now files) (add ∷ []), reverse-append kept (keep add ∷ []))
    (sym (append_assoc (map keep (undecided now files)) (keep add ∷ []) (reverse kept)))

live_found : {A : Type 0} (keep : AddAction → A) (old now : List (List ℕ)) (kept grown : List A) (earlier : List Action) (a : Action) (found : Option AddAction) → added a ≡ found → DecidesAdd keep old now kept grown found
    → map keep (undecided now (last_adds earlier)) ++ reverse grown ≡ map keep (undecided old (last_adds (earlier ++ a ∷ []))) ++ reverse kept
live_found keep old now kept grown earlier a None is stays = rw (last_adds-other earlier a is, stays.seen, stays.live) refl
live_found keep old now kept grown earlier a (Some add) is decides = rw (last_adds-add earlier a add is) (live_known keep old now kept grown (last_adds earlier) add (is_decided old add.path) refl decides)

-- one more line from the end; `lines` are those that were left
pub adds_step : {A : Type 0} (keep : AddAction → A) (old now start : List (List ℕ)) (kept grown : List A) (commit lines earlier : List Action) (a : Action) → lines ≡ earlier ++ a ∷ [] → DecidesAdd keep old now kept grown (added a)
    → ((path : List ℕ) → (is_decided old path || adds lines path) ≡ (is_decided start path || adds commit path)) → (path : List ℕ) → (is_decided now path || adds earlier path) ≡ (is_decided start path || adds commit path)
adds_step keep old now start kept grown commit lines earlier a split is before path =
    seen-add keep old now kept grown earlier a path is ∙ ap (λ (xs : List Action). is_decided old path || adds xs path) (sym split) ∙ before path

pub lives_step : {A : Type 0} (keep : AddAction → A) (old now : List (List ℕ)) (kept grown whole : List A) (lines earlier : List Action) (a : Action) → lines ≡ earlier ++ a ∷ [] → DecidesAdd keep old now kept grown (added a)
    → map keep (undecided old (last_adds lines)) ++ reverse kept ≡ whole → map keep (undecided now (last_adds earlier)) ++ reverse grown ≡ whole
lives_step keep old now kept grown whole lines earlier a split is before =
    live_found keep old now kept grown earlier a (added a) refl is ∙ ap (λ (xs : List Action). map keep (undecided old (last_adds xs)) ++ reverse kept) (sym split) ∙ before

nothing_left : {A : Type 0} (xs : List A) → length xs ≡ 0 → xs ≡ []
nothing_left [] is = refl
nothing_left (x ∷ xs) is = absurd (omega arith)

pub lives_end : {A : Type 0} (keep : AddAction → A) (decided : List (List ℕ)) (kept whole : List A) (lines : List Action) → length lines ≡ 0
    → map keep (undecided decided (last_adds lines)) ++ reverse kept ≡ whole → reverse kept ≡ whole
unfolding last_adds
lives_end keep decided kept whole lines none before = let e : lines ≡ [] = nothing_left lines none in rw e at before

-- ---- the removes of a commit

or_front : (x y z : Bool) → ((x || z) || y) ≡ (x || (z || y))
or_front true y z = refl
or_front false y z = refl

seen-remove : {A : Type 0} (old now : List (List ℕ)) (kept grown : List A) (a : Action) (more : List Action) (path : List ℕ) → DecidesRemove old now kept grown (removed a) → (is_decided now path || removes more path) ≡ (is_decided old path || removes (a ∷ more) path)
seen-remove old now kept grown (action.Protocol protocol) more path is = rw is.seen refl
seen-remove old now kept grown (action.Metadata metadata) more path is = rw is.seen refl
seen-remove old now kept grown (action.Add add) more path is = rw is.seen refl
seen-remove old now kept grown (action.Remove remove) more path is = rw (is.seen path) (or_front (is_decided old path) (removes more path) (bytes_eq path remove.path))
seen-remove old now kept grown (action.Cdc cdc) more path is = rw is.seen refl
seen-remove old now kept grown (action.Domain domain) more path is = rw is.seen refl
seen-remove old now kept grown (action.Info info) more path is = rw is.seen refl
seen-remove old now kept grown action.Other more path is = rw is.seen refl

none_more : {A : Type 0} (decided : Bool) (kept grown : List A) → grown ≡ cond decided kept (kept ++ []) → grown ≡ kept
none_more true kept grown is = is
none_more false kept grown is = is ∙ append-nil kept

pub live-remove : {A : Type 0} (old now : List (List ℕ)) (kept grown : List A) (found : Option (List ℕ)) → DecidesRemove old now kept grown found → grown ≡ kept
live-remove old now kept grown None is = is.live
live-remove old now kept grown (Some path) is = none_more (is_decided old path) kept grown is.live

drop_here : (commit : List Action) (a : Action) (k : ℕ) → k < length commit → a ≡ get_or commit k a → drop k commit ≡ a ∷ drop (k + 1) commit
drop_here commit a k within is = drop-cons commit k a within ∙ rw (add-one k, ← is) refl

pub removes_step : {A : Type 0} (old now start : List (List ℕ)) (kept grown : List A) (commit : List Action) (a : Action) (k : ℕ) → k < length commit → a ≡ get_or commit k a → DecidesRemove old now kept grown (removed a)
    → ((path : List ℕ) → (is_decided old path || removes (drop k commit) path) ≡ (is_decided start path || removes commit path)) → (path : List ℕ) → (is_decided now path || removes (drop (k + 1) commit) path) ≡ (is_decided start path || removes commit path)
removes_step old now start kept grown commit a k within here is before path =
    seen-remove old now kept grown a (drop (k + 1) commit) path is ∙ ap (λ (xs : List Action). is_decided old path || removes xs path) (sym (drop_here commit a k within here)) ∙ before path

-- ---- a commit

kinds_step : (first here adding removing : Bool) → (((first && here) || adding) || ((not first && here) || removing)) ≡ (here || (adding || removing))
kinds_step true true adding removing = refl
kinds_step true false adding removing = refl
kinds_step false true true removing = refl
kinds_step false true false removing = refl
kinds_step false false adding removing = refl

pub mentions-kinds : (commit : List Action) (path : List ℕ) → (adds commit path || removes commit path) ≡ mentions commit path
mentions-kinds [] path = refl
mentions-kinds (a ∷ more) path =
    kinds_step (is_add a) (is_of path a) (adds more path) (removes more path) ∙ ap (λ (b : Bool). is_of path a || b) (mentions-kinds more path)

pub seen_commit : (old mid now : List (List ℕ)) (commit : List Action) → ((path : List ℕ) → is_decided mid path ≡ (is_decided old path || adds commit path)) → ((path : List ℕ) → is_decided now path ≡ (is_decided mid path || removes commit path))
    → (path : List ℕ) → is_decided now path ≡ (is_decided old path || mentions commit path)
seen_commit old mid now commit adding removing path =
    removing path ∙ ap (λ (b : Bool). b || removes commit path) (adding path) ∙ or_front (is_decided old path) (removes commit path) (adds commit path) ∙ ap (λ (b : Bool). is_decided old path || b) (mentions-kinds commit path)

pub commits_step : {A : Type 0} (keep : AddAction → A) (old now : List (List ℕ)) (kept grown whole : List A) (lines earlier : List Commit) (commit : Commit) → AreNumbered 0 lines → lines ≡ earlier ++ commit ∷ [] → ((path : List ℕ) → is_decided now path ≡ (is_decided old path || mentions commit.actions path))
    → reverse grown ≡ map keep (undecided old (last_adds commit.actions)) ++ reverse kept → map keep (undecided old (live_adds lines)) ++ reverse kept ≡ whole → map keep (undecided now (live_adds earlier)) ++ reverse grown ≡ whole
unfolding after_commit
commits_step keep old now kept grown whole lines earlier commit numbered split seen live before =
    let both_parts : undecided old (after_commit (live_adds earlier) commit.actions) ≡ undecided now (live_adds earlier) ++ undecided old (last_adds commit.actions) =
    filter-append (λ add. not (is_decided old add.path)) (filter (λ add. not (mentions commit.actions add.path)) (live_adds earlier)) (last_adds commit.actions)
    ∙ ap (λ (xs : List AddAction). xs ++ undecided old (last_adds commit.actions)) (undecided-more old now (mentions commit.actions) (live_adds earlier) seen) in
    let pushed : live_adds lines ≡ after_commit (live_adds earlier) commit.actions = ap live_adds split ∙ live_adds-push earlier commit (rw split at numbered) in
    ap (λ xs. map keep (undecided now (live_adds earlier)) ++ xs) live
    ∙ sym (append_assoc (map keep (undecided now (live_adds earlier))) (map keep (undecided old (last_adds commit.actions))) (reverse kept))
    ∙ ap (λ xs. xs ++ reverse kept) (sym (ap (map keep) (ap (undecided old) pushed ∙ both_parts) ∙ map-append keep (undecided now (live_adds earlier)) (undecided old (last_adds commit.actions))))
    ∙ before

pub numbers_step : (lines earlier : List Commit) (commit : Commit) → AreNumbered 0 lines → lines ≡ earlier ++ commit ∷ [] → AreNumbered 0 earlier
numbers_step lines earlier commit numbered split = (numbered-front 0 earlier commit (rw split at numbered)).0

pub commits_begin : {A : Type 0} (keep : AddAction → A) (decided : List (List ℕ)) (kept : List A) (all : List Commit) → decided ≡ [] → kept ≡ [] → map keep (undecided decided (live_adds all)) ++ reverse kept ≡ map keep (live_adds all)
commits_begin keep decided kept all none nothing = rw (none, nothing, all_pass (live_adds all)) (append-nil (map keep (live_adds all)))

pub commits_end : {A : Type 0} (keep : AddAction → A) (decided : List (List ℕ)) (kept whole : List A) (lines : List Commit) → length lines ≡ 0 → map keep (undecided decided (live_adds lines)) ++ reverse kept ≡ whole → reverse kept ≡ whole
unfolding live_adds lines
commits_end keep decided kept whole rest none before = let e : rest ≡ [] = nothing_left rest none in rw e at before
