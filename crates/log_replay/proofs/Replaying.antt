-- One more commit, and the files that are live after it.
use Rattle.std.proofs.Common.{◌≡◌, ◌⊎◌, ℕ, ◌+◌, ◌<◌, ◌≤◌, List, [], ◌∷◌, ◌++◌, length, Option, Some, None, refl, ap, sym, ◌∙◌, inl, inr, Bool, true, false, ◌&&◌, ◌||◌, ◌==◌, cond, not, nat_lt, arith, append_assoc}
use Rattle.std.specs.List.{filter, filter_map, cons_option, list_any, AllByRecursion}
use Rattle.std.proofs.lemmas.Bool.Decides.{nat_tests}
use Rattle.std.proofs.lemmas.List.{append-nil}
use Rattle.std.proofs.lemmas.List.Elements.{filter_map-append}
use Rattle.std.proofs.lemmas.List.Folds.{list_any-append}
use Rattle.delta_actions.specs.declared.action.AddAction.{AddAction}
use Rattle.delta_actions.specs.declared.action.Action.{Action}
use Rattle.log_replay.specs.declared.commits.Commit.{Commit}
use Rattle.log_replay.specs.Live.{AreNumbered, Line, line_at, lines_of, lines, added, is_add, is_of, takes_away, live_of, live_at, live_adds}
use Rattle.log_replay.specs.Changes.{mentions, adds, unless_again, last_adds, after_commit}

lines-push : (cs : List Commit) (c : Commit) → lines (cs ++ c ∷ []) ≡ lines cs ++ lines_of c.version 0 c.actions
unfolding lines
lines-push [] c = append-nil (lines_of c.version 0 c.actions)
lines-push (d ∷ cs) c = rw (lines-push cs c) (sym (append_assoc (lines_of d.version 0 d.actions) (lines cs) (lines_of c.version 0 c.actions)))

pub numbered-front : (v : ℕ) (cs : List Commit) (c : Commit) → AreNumbered v (cs ++ c ∷ []) → AreNumbered v cs × (c.version ≡ v + length cs)
unfolding AreNumbered
numbered-front v [] c all = (tt, all.0 ∙ omega arith)
numbered-front v (d ∷ cs) c all =
    let rest = numbered-front (v + 1) cs c all.1 in
    ((all.0, rest.0), rest.1 ∙ omega arith)

-- the line stands before this place of the log
abbrev IsBefore : ℕ → ℕ → Line → Type 0
IsBefore n l f = (f.version < n) ⊎ ((f.version ≡ n) × (f.line < l))

before_both : (n l : ℕ) (xs ys : List Line) → AllByRecursion (IsBefore n l) xs → AllByRecursion (IsBefore n l) ys → AllByRecursion (IsBefore n l) (xs ++ ys)
before_both n l [] ys a b = b
before_both n l (e ∷ xs) ys a b = (a.0, before_both n l xs ys a.1 b)

before_of : (n k l : ℕ) (c : List Action) → n < k → AllByRecursion (IsBefore k 0) (lines_of n l c)
unfolding lines_of
before_of n k l [] less = tt
before_of n k l (a ∷ more) less = (inl less, before_of n k (l + 1) more less)

before_all : (v n : ℕ) (cs : List Commit) → AreNumbered v cs → v + length cs ≤ n → AllByRecursion (IsBefore n 0) (lines cs)
unfolding lines AreNumbered
before_all v n [] numbered h = tt
before_all v n (c ∷ cs) numbered h = before_both n 0 (lines_of c.version 0 c.actions) (lines cs) (before_of c.version n 0 c.actions (let is = numbered.0 in omega arith)) (before_all (v + 1) n cs numbered.1 (omega arith))

next_line : (n l : ℕ) (xs : List Line) → AllByRecursion (IsBefore n l) xs → AllByRecursion (IsBefore n (l + 1)) xs
next_line n l [] all = tt
next_line n l (e ∷ xs) all = (elim (all.0) [ inl a ↦ inl a | inr b ↦ inr (b.0, let h = b.1 in omega arith) ], next_line n l xs all.1)

no_test : (p q r : Bool) → (p && (false || (q && false && r))) ≡ false
no_test true true r = refl
no_test true false r = refl
no_test false q r = refl

last_test : (p q : Bool) → (p && (false || (q && false))) ≡ false
last_test true true = refl
last_test true false = refl
last_test false q = refl

turned : (p q r : Bool) → ((p && (false || (q && true && true))) || r) ≡ ((q && p) || r)
turned true true r = refl
turned true false r = refl
turned false true r = refl
turned false false r = refl

sure : (p r : Bool) → ((p && true) || r) ≡ (p || r)
sure true r = refl
sure false r = refl

-- nothing before a line's end takes away what it added
not_ended : (n l : ℕ) (a : Action) (path : List ℕ) (f : Line) → IsBefore n (l + 1) f → takes_away (line_at n l a) path f ≡ false
not_ended n l a path f (inl less) =
    let x : nat_lt n f.version ≡ false = grind (arith, nat_tests) in
    let y : (n == f.version) ≡ false = grind (arith, nat_tests) in
    rw (x, y) (no_test (is_of path f.action) (is_add f.action) (nat_lt l f.line))
not_ended n l a path f (inr both) =
    let h = both.0 in
    let k = both.1 in
    let x : nat_lt n f.version ≡ false = grind (arith, nat_tests) in
    let y : nat_lt l f.line ≡ false = grind (arith, nat_tests) in
    rw (x, y) (last_test (is_of path f.action) (is_add f.action && n == f.version))

none_end : (n l : ℕ) (a : Action) (path : List ℕ) (xs : List Line) → AllByRecursion (IsBefore n (l + 1)) xs → list_any (takes_away (line_at n l a) path) xs ≡ false
none_end n l a path [] all = refl
none_end n l a path (f ∷ xs) all = rw (not_ended n l a path f all.0) (none_end n l a path xs all.1)

-- what takes it away within its own version: a later add
later_end : (n l k : ℕ) (a : Action) (path : List ℕ) (more : List Action) → l < k → list_any (takes_away (line_at n l a) path) (lines_of n k more) ≡ adds more path
unfolding lines_of
later_end n l k a path [] less = refl
later_end n l k a path (b ∷ more) less =
    let x : nat_lt n n ≡ false = grind (arith, nat_tests) in
    let y : (n == n) ≡ true = grind (arith, nat_tests) in
    let z : nat_lt l k ≡ true = grind (arith, nat_tests) in
    rw (x, y, z, later_end n l (k + 1) a path more (omega arith)) (turned (is_of path b) (is_add b) (adds more path))

-- what takes away a file of an earlier version: any mention
earlier_end : (e : Line) (path : List ℕ) (n k : ℕ) (more : List Action) → e.version < n → list_any (takes_away e path) (lines_of n k more) ≡ mentions more path
unfolding lines_of
earlier_end e path n k [] less = refl
earlier_end e path n k (b ∷ more) less =
    let x : nat_lt e.version n ≡ true = grind (arith, nat_tests) in
    rw (x, earlier_end e path n (k + 1) more less) (sure (is_of path b) (mentions more path))

-- ---- the lines of earlier versions

keep_one : (a b : Bool) (add : AddAction) (q : AddAction → Bool) (xs ys : List AddAction) → q add ≡ not b → xs ≡ filter q ys → cons_option (cond (a || b) None (Some add)) xs ≡ filter q (cons_option (cond a None (Some add)) ys)
keep_one true b add q xs ys is rest = rest
keep_one false true add q xs ys is rest = rw is rest
keep_one false false add q xs ys is rest = rw (is, rest) refl

earlier_step : (n : ℕ) (c : List Action) (all : List Line) (e : Line) (found : Option AddAction) (xs ys : List AddAction) → e.version < n → xs ≡ filter (λ add. not (mentions c add.path)) ys
    → cons_option (live_of (all ++ lines_of n 0 c) e found) xs ≡ filter (λ add. not (mentions c add.path)) (cons_option (live_of all e found) ys)
earlier_step n c all e None xs ys less rest = rest
earlier_step n c all e (Some add) xs ys less rest =
    rw (list_any-append (takes_away e add.path) all (lines_of n 0 c), earlier_end e add.path n 0 c less)
    (keep_one (list_any (takes_away e add.path) all) (mentions c add.path) add (λ it. not (mentions c it.path)) xs ys refl rest)

earlier : (n : ℕ) (c : List Action) (all xs : List Line) → AllByRecursion (IsBefore n 0) xs → filter_map (live_at (all ++ lines_of n 0 c)) xs ≡ filter (λ add. not (mentions c add.path)) (filter_map (live_at all) xs)
earlier n c all [] before = refl
earlier n c all (e ∷ xs) before =
    let less : e.version < n = elim (before.0) [ inl a ↦ a | inr b ↦ let h = b.1 in absurd (omega arith) ] in
    earlier_step n c all e (added e.action) (filter_map (live_at (all ++ lines_of n 0 c)) xs) (filter_map (live_at all) xs) less (earlier n c all xs before.1)

-- ---- the lines of the last version

later_step : (n l : ℕ) (pre : List Line) (a : Action) (more : List Action) (found : Option AddAction) (xs : List AddAction) → AllByRecursion (IsBefore n l) pre → xs ≡ last_adds more
    → cons_option (live_of ((pre ++ line_at n l a ∷ []) ++ lines_of n (l + 1) more) (line_at n l a) found) xs ≡ unless_again found more (last_adds more)
later_step n l pre a more None xs before rest = rest
later_step n l pre a more (Some add) xs before rest =
    let e : Line = line_at n l a in
    let pushed : AllByRecursion (IsBefore n (l + 1)) (pre ++ e ∷ []) = before_both n (l + 1) pre (e ∷ []) (next_line n l pre before) (inr (refl, omega arith), tt) in
    let ended : list_any (takes_away e add.path) ((pre ++ e ∷ []) ++ lines_of n (l + 1) more) ≡ adds more add.path =
    list_any-append (takes_away e add.path) (pre ++ e ∷ []) (lines_of n (l + 1) more) ∙ rw (none_end n l a add.path (pre ++ e ∷ []) pushed) (later_end n l (l + 1) a add.path more (omega arith)) in
    rw (ended, rest) (kept (adds more add.path))
  where
    kept : (again : Bool) → cons_option (cond again None (Some add)) (last_adds more) ≡ cond again (last_adds more) (add ∷ last_adds more)
    kept true = refl
    kept false = refl

later : (n l : ℕ) (pre : List Line) (c : List Action) → AllByRecursion (IsBefore n l) pre → filter_map (live_at (pre ++ lines_of n l c)) (lines_of n l c) ≡ last_adds c
unfolding lines_of last_adds
later n l pre [] before = refl
later n l pre (a ∷ more) before =
    let e : Line = line_at n l a in
    let rest : List Line = lines_of n (l + 1) more in
    let pushed : AllByRecursion (IsBefore n (l + 1)) (pre ++ e ∷ []) = before_both n (l + 1) pre (e ∷ []) (next_line n l pre before) (inr (refl, omega arith), tt) in
    let all : pre ++ e ∷ rest ≡ (pre ++ e ∷ []) ++ rest = sym (append_assoc pre (e ∷ []) rest) in
    ap (λ (zs : List Line). filter_map (live_at zs) (e ∷ rest)) all
    ∙ later_step n l pre a more (added a) (filter_map (live_at ((pre ++ e ∷ []) ++ rest)) rest) before (later n (l + 1) (pre ++ e ∷ []) more pushed)

pub live_adds-push : (cs : List Commit) (c : Commit) → AreNumbered 0 (cs ++ c ∷ []) → live_adds (cs ++ c ∷ []) ≡ after_commit (live_adds cs) c.actions
unfolding live_adds after_commit
live_adds-push cs c numbered =
    let front = numbered-front 0 cs c numbered in
    let number : c.version ≡ length cs = front.1 ∙ omega arith in
    let old : List Line = lines cs in
    let new : List Line = lines_of c.version 0 c.actions in
    let before : AllByRecursion (IsBefore c.version 0) old = before_all 0 c.version cs front.0 (omega (arith, number)) in
    rw (lines-push cs c, filter_map-append (live_at (old ++ new)) old new, earlier c.version c.actions old old before, later c.version 0 old c.actions before) refl
