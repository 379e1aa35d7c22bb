-- What a write statement leaves, step by step.
use Rattle.std.proofs.Common.{◌≡◌, ℕ, ℤ, List, [], Option, Some, None, Result, Ok, Err, inl, inr, refl, ap, sym, subst, append-nil}
use Rattle.std.specs.Result.{IsErrAnd}
use Rattle.dm_store.specs.Files.{Files, WhereTold}
use Rattle.dm_store.specs.Given.{Gave}
use Rattle.dm_types.specs.declared.refusal.Refused.TheVariants as refused
use Rattle.dm_types.specs.declared.refusal.PutRefusal.TheVariants as clash
use Rattle.dm_types.specs.declared.refusal.Stop.{Stop}
use Rattle.dm_types.specs.declared.refusal.Stop.TheVariants as stop
use Rattle.std.specs.List.{IsDistinct}
use Rattle.dm_store.specs.Causes.{Counts, DrawCause}
use Rattle.commit_log.specs.Block.{files_of, AreApart}
use Rattle.commit_log.specs.Commits.{AllPut, Commits, IsBuilt, CommitTaken, stop_of}
use Rattle.commit_log.specs.declared.fault.CommitFault.{CommitFault}
use Rattle.commit_log.specs.declared.fault.CommitFault.TheVariants as fault
use Rattle.commit_log.specs.declared.new_files.NewFiles.{NewFiles}
use Rattle.table_write.specs.Outside.{outside}
use Rattle.table_write.specs.StepsWriting.{TellsPlan, PutsVersion}
use Rattle.file_names.specs.Names.{DrawsName}
use Rattle.table_write.specs.Writing.{Write, IsMade, CarriesOut}

-- what `?` hands on
pub handed : {A : Type 0} (answer : Result A Stop) (why : Stop) → IsErrAnd answer (λ found. found ≡ why) → answer ≡ Err why
handed (Ok found) why is = absurd is
handed (Err found) why is = let e : found ≡ why = is in cc

-- ---- putting a version

nothing_put : (told : Option Files) → AllPut [] told told
nothing_put None = record { grown = refl; fresh = tt }
nothing_put (Some files) = record { grown = ap Some (sym (append-nil files)); fresh = record { each = tt } }

pub line_unmade : (fresh : NewFiles) (told : Option Files) (taken : ℕ) (answer : Result (List ℕ) Stop) → answer ≡ Err stop.Memory → PutsVersion fresh told told taken taken answer
line_unmade fresh told taken answer is = subst (λ (r : Result (List ℕ) Stop). PutsVersion fresh told told taken taken r) (sym is) (record { count = 0; put = nothing_put told }, refl)

uncommitted : (fresh : NewFiles) (old new : Option Files) (before now : ℕ) (why : CommitFault) → Commits fresh old new (Err why) → IsBuilt fresh (Err why) → CommitTaken why before now → PutsVersion fresh old new before now (Err (stop_of why))
uncommitted fresh old new before now (fault.NameTaken path) (index, first, is) built taken = (index, first, is, taken)
uncommitted fresh old new before now (fault.VersionTaken version) (is, overtaken) built taken = (overtaken, is, taken)
uncommitted fresh old new before now fault.Failed some built taken = (some, taken, built)
uncommitted fresh old new before now fault.Memory some built taken = (some, taken)

pub not_committed : (fresh : NewFiles) (old new : Option Files) (before now : ℕ) (why : CommitFault) (end : Stop) (answer : Result (List ℕ) Stop) → answer ≡ Err end → end ≡ stop_of why → Commits fresh old new (Err why) → IsBuilt fresh (Err why) → CommitTaken why before now → PutsVersion fresh old new before now answer
not_committed fresh old new before now why end answer is of puts built taken =
    subst (λ (r : Result (List ℕ) Stop). PutsVersion fresh old new before now r) (sym is) (subst (λ (e : Stop). PutsVersion fresh old new before now (Err e)) (sym of) (uncommitted fresh old new before now why puts built taken))

-- ---- the whole statement

-- the files, the names and the times are those before, so nothing is touched
untouched : (w : Write) (told : Option Files) (taken : ℕ) (names : Option (List (List ℕ))) (times : Option (List ℤ)) (why : Stop) → TellsPlan told w.checks (Err why) → CarriesOut w (outside told taken names times) (Err why) (outside told taken names times)
untouched w told taken names times (stop.Refused (refused.Table refusal)) checked = (checked, refl)
untouched w told taken names times (stop.Refused (refused.Statement refusal)) checked = (checked, refl)
untouched w told taken names times (stop.Refused (refused.Put refusal)) checked = absurd checked
untouched w told taken names times stop.Store checked = inl refl
untouched w told taken names times stop.Names checked = absurd checked
untouched w told taken names times stop.Memory checked = inl refl

-- the checks refused, or came to no end
pub unchecked : (w : Write) (told files : Option Files) (taken paths : ℕ) (names : Option (List (List ℕ))) (times : Option (List ℤ)) (why : Stop) (answer : Result (List ℕ) Stop) → answer ≡ Err why → files ≡ told → paths ≡ taken → TellsPlan told w.checks (Err why)
    → CarriesOut w (outside told taken names times) answer (outside files paths names times)
unchecked w told files taken paths names times why answer is kept same checked = rw (is, kept, same) (untouched w told taken names times why checked)

unnamed : (w : Write) (plan : w.Plan) (told : Option Files) (taken : ℕ) (names names_new : Option (List (List ℕ))) (times : Option (List ℤ)) (why : Stop) → WhereTold told (λ files. w.checks files ≡ Ok plan) → DrawsName names names_new (Err why)
    → CarriesOut w (outside told taken names times) (Err why) (outside told taken names_new times)
unnamed w plan told taken names names_new times (stop.Refused refusal) passed drawn = absurd drawn
unnamed w plan told taken names names_new times stop.Store passed drawn = absurd drawn
unnamed w plan told taken names names_new times stop.Names passed drawn = record { plan = plan; passed = passed; names = drawn; others = refl }
unnamed w plan told taken names names_new times stop.Memory passed drawn = absurd drawn

-- the draw failed
pub undrawn : (w : Write) (plan : w.Plan) (told : Option Files) (taken : ℕ) (names names_new : Option (List (List ℕ))) (times : Option (List ℤ)) (why : Stop) (answer : Result (List ℕ) Stop) → answer ≡ Err why
    → WhereTold told (λ files. w.checks files ≡ Ok plan) → DrawsName names names_new (Err why) → CarriesOut w (outside told taken names times) answer (outside told taken names_new times)
undrawn w plan told taken names names_new times why answer is passed drawn = rw is (unnamed w plan told taken names names_new times why passed drawn)

-- what is made of the plan, the name and the time
pub record HasMade (w : Write) (told : Option Files) (names names_new : Option (List (List ℕ))) (times times_new : Option (List ℤ)) (fresh : NewFiles) : Type 0 where
  pub plan : w.Plan
  pub name : List ℕ
  pub time : ℤ
  pub passed : WhereTold told (λ files. w.checks files ≡ Ok plan)
  pub drawn : Gave names names_new name
  pub read : Gave times times_new time
  pub made : w.Makes plan name time fresh

made_of : (w : Write) (told files : Option Files) (taken paths : ℕ) (names names_new : Option (List (List ℕ))) (times times_new : Option (List ℤ)) (fresh : NewFiles) → HasMade w told names names_new times times_new fresh → IsMade w (outside told taken names times) (outside files paths names_new times_new) fresh
made_of w told files taken paths names names_new times times_new fresh m = record { plan = m.plan; name = m.name; time = m.time; passed = m.passed; drawn = m.drawn; read = m.read; made = m.made }

-- there was no memory for what is made
pub unmade : (w : Write) (told files : Option Files) (taken paths : ℕ) (names names_new : Option (List (List ℕ))) (times times_new : Option (List ℤ)) (fresh : NewFiles) (answer : Result (List ℕ) Stop) → answer ≡ Err stop.Memory → files ≡ told → paths ≡ taken
    → HasMade w told names names_new times times_new fresh → CarriesOut w (outside told taken names times) answer (outside files paths names_new times_new)
unmade w told files taken paths names names_new times times_new fresh answer is kept same m =
    rw (is, kept, same) (inr (record { fresh = fresh; made = made_of w told told taken taken names names_new times times_new fresh m; put = record { count = 0; put = nothing_put told }; taken = refl }))

put_so : (w : Write) (told files : Option Files) (taken paths : ℕ) (names names_new : Option (List (List ℕ))) (times times_new : Option (List ℤ)) (fresh : NewFiles) (answer : Result (List ℕ) Stop) → HasMade w told names names_new times times_new fresh → PutsVersion fresh told files taken paths answer
    → CarriesOut w (outside told taken names times) answer (outside files paths names_new times_new)
put_so w told files taken paths names names_new times times_new fresh (Ok text) m (put, same, built, line) = record { fresh = fresh; built = built; made = made_of w told files taken paths names names_new times times_new fresh m; put = put; taken = same; line = line }
put_so w told files taken paths names names_new times times_new fresh (Err (stop.Refused (refused.Table refusal))) m puts = absurd puts
put_so w told files taken paths names names_new times times_new fresh (Err (stop.Refused (refused.Statement refusal))) m puts = absurd puts
put_so w told files taken paths names names_new times times_new fresh (Err (stop.Refused (refused.Put (clash.NameTaken path)))) m (index, first, is, rose) =
    record { fresh = fresh; made = made_of w told files taken paths names names_new times times_new fresh m; index = index; first = first; path_is = is; taken = rose }
put_so w told files taken paths names names_new times times_new fresh (Err (stop.Refused (refused.Put (clash.VersionTaken version)))) m (overtaken, is, rose) =
    record { fresh = fresh; made = made_of w told files taken paths names names_new times times_new fresh m; overtaken = overtaken; version_is = is; taken = rose }
put_so w told files taken paths names names_new times times_new fresh (Err stop.Store) m (some, same, built) = inr (record { fresh = fresh; built = built; made = made_of w told files taken paths names names_new times times_new fresh m; put = some; taken = same })
put_so w told files taken paths names names_new times times_new fresh (Err stop.Names) m puts = absurd puts
put_so w told files taken paths names names_new times times_new fresh (Err stop.Memory) m (some, same) = inr (record { fresh = fresh; made = made_of w told files taken paths names names_new times times_new fresh m; put = some; taken = same })

-- the new version was put, or its puts ended
pub ends_putting : (w : Write) (told before files : Option Files) (taken between paths : ℕ) (names names_new : Option (List (List ℕ))) (times times_new : Option (List ℤ)) (fresh : NewFiles) (answer : Result (List ℕ) Stop) → before ≡ told → between ≡ taken
    → HasMade w told names names_new times times_new fresh → PutsVersion fresh before files between paths answer → CarriesOut w (outside told taken names times) answer (outside files paths names_new times_new)
ends_putting w told before files taken between paths names names_new times times_new fresh answer kept same m puts =
    put_so w told files taken paths names names_new times times_new fresh answer m (subst (λ (o : Option Files). PutsVersion fresh o files taken paths answer) kept (subst (λ (n : ℕ). PutsVersion fresh before files n paths answer) same puts))

-- a put draws nothing
pub draws_kept : (fresh : NewFiles) (old new : Option Files) (before now draws draws_new : ℕ) (answer : Result (List ℕ) Stop) → PutsVersion fresh old new before now answer → draws_new ≡ draws → Counts DrawCause draws draws_new answer
draws_kept fresh old new before now draws draws_new (Ok text) puts same = same
draws_kept fresh old new before now draws draws_new (Err (stop.Refused refusal)) puts same = same
draws_kept fresh old new before now draws draws_new (Err stop.Store) puts same = same
draws_kept fresh old new before now draws draws_new (Err stop.Names) puts same = absurd puts
draws_kept fresh old new before now draws draws_new (Err stop.Memory) puts same = same

-- a version of the commit file alone
pub lone_apart : (fresh : NewFiles) → fresh.files ≡ [] → AreApart fresh
unfolding files_of IsDistinct
lone_apart fresh none = record { distinct = rw none tt; no_commit = rw none refl }

-- what was put is what was made
pub put_of : (fresh made : NewFiles) (old new : Option Files) (before now : ℕ) (answer : Result (List ℕ) Stop) → fresh ≡ made → PutsVersion fresh old new before now answer → PutsVersion made old new before now answer
put_of fresh made old new before now answer is puts = subst (λ (f : NewFiles). PutsVersion f old new before now answer) is puts
