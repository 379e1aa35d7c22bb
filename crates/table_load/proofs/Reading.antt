-- The commits that were read of a log so far, and of the whole log.
use Rattle.std.proofs.Common.{◌≡◌, ℕ, zero, suc, ◌+◌, ◌-◌, ◌<◌, List, [], ◌∷◌, ◌++◌, Option, Some, None, Result, Ok, Err, refl, sym, ◌∙◌, subst, arith, add-one}
use Rattle.std.specs.Map as entries
use Rattle.dm_store.specs.Files.{Files, WhereTold}
use Rattle.dm_types.specs.declared.refusal.TableRefusal.{TableRefusal}
use Rattle.dm_types.specs.declared.refusal.TableRefusal.TheVariants as refusal
use Rattle.dm_types.specs.declared.refusal.Refused.TheVariants as refused
use Rattle.dm_types.specs.declared.refusal.Stop.{Stop}
use Rattle.dm_types.specs.declared.refusal.Stop.TheVariants as stop
use Rattle.delta_actions.specs.declared.action.Action.{Action}
use Rattle.delta_actions.specs.Meaning.{commit_of}
use Rattle.log_replay.specs.declared.commits.Commit.{Commit}
use Rattle.log_replay.specs.Live.{numbered}
use Rattle.log_replay.specs.Numbers.{is_in, newest_of, MembersDecide}
use Rattle.dm_types.specs.Then.{go}
use Rattle.table_log.specs.Listed.{AreVersions}
use Rattle.table_log.specs.Log.{Log, log_of, bytes_of}
use Rattle.table_log.specs.Versions.{newest_version, good_lines, commit_at, commits_below, commits_at, chosen, of_numbers}
use Rattle.table_load.specs.StepsLoading.{Gives, version_among}
use Rattle.table_load.specs.Tells.{Tells}

-- one commit

pub commit_read : (told : Option Files) (table : List ℕ) (n : ℕ) (bytes : List ℕ) (r : Result (List Action) ℕ)
    → WhereTold told (λ files. bytes_of n (log_of table files) ≡ Some bytes) → commit_of bytes ≡ r → WhereTold told (λ files. commit_at (log_of table files) n ≡ good_lines n r)
commit_read None table n bytes r found means = tt
commit_read (Some files) table n bytes r found means = rw (found, means) refl

pub commit_missed : (told : Option Files) (table : List ℕ) (n : ℕ)
    → WhereTold told (λ files. bytes_of n (log_of table files) ≡ None) → WhereTold told (λ files. commit_at (log_of table files) n ≡ Err (refusal.LogGap n))
commit_missed None table n absent = tt
commit_missed (Some files) table n absent = rw absent refl

-- the log, commit by commit

-- the commits below this version are read
abbrev pub AreRead : List ℕ → ℕ → List Commit → Option Files → Type 0
AreRead table n commits told = WhereTold told (λ files. commits_below (log_of table files) n ≡ Ok commits)

pub reading_begins : (told : Option Files) (table : List ℕ) → AreRead table 0 [] told
unfolding commits_below
reading_begins None table = tt
reading_begins (Some files) table = refl

next : (log : Log) (n : ℕ) (commits : List Commit) (actions : List Action) → commits_below log n ≡ Ok commits → commit_at log n ≡ Ok actions → commits_below log (n + 1) ≡ Ok (commits ++ numbered n actions ∷ [])
unfolding commits_below
next log n commits actions below here = rw (add-one n, below, here) refl

pub reading_goes_on : (told before : Option Files) (table : List ℕ) (n : ℕ) (commits more : List Commit) (actions : List Action) → before ≡ told → AreRead table n commits told
    → WhereTold before (λ files. commit_at (log_of table files) n ≡ Ok actions) → more ≡ commits ++ numbered n actions ∷ [] → AreRead table (n + 1) more told
reading_goes_on None before table n commits more actions kept so_far here is = tt
reading_goes_on (Some files) before table n commits more actions kept so_far here is =
    let found : commit_at (log_of table files) n ≡ Ok actions = subst (λ (o : Option Files). WhereTold o (λ files. commit_at (log_of table files) n ≡ Ok actions)) kept here in
    rw is (next (log_of table files) n commits actions so_far found)

-- a refusal is that of the whole log

stays : (log : Log) (n k : ℕ) (r : TableRefusal) → commits_below log n ≡ Err r → commits_below log (n + k) ≡ Err r
unfolding commits_below
stays log n zero r e = let same : n + 0 ≡ n = omega arith in rw same e
stays log n (suc k) r e = let same : n + suc k ≡ suc (n + k) = omega arith in rw (same, stays log n k r e) refl

stops : (log : Log) (n : ℕ) (commits : List Commit) (r : TableRefusal) → commits_below log n ≡ Ok commits → commit_at log n ≡ Err r → commits_below log (n + 1) ≡ Err r
unfolding commits_below
stops log n commits r below here = rw (add-one n, below, here) refl

stops_whole : (log : Log) (n newest : ℕ) (commits : List Commit) (r : TableRefusal) → n < newest + 1 → commits_below log n ≡ Ok commits → commit_at log n ≡ Err r → commits_below log (newest + 1) ≡ Err r
stops_whole log n newest commits r within below here =
    let e : n + 1 + (newest - n) ≡ newest + 1 = omega arith in
    subst (λ (k : ℕ). commits_below log k ≡ Err r) e (stays log (n + 1) (newest - n) r (stops log n commits r below here))

stops_told : (told : Option Files) (table : List ℕ) (n newest : ℕ) (commits : List Commit) (e : Stop) → n < newest + 1 → AreRead table n commits told
    → Tells told (λ files. commit_at (log_of table files) n) (Err e) → Tells {A = List Commit} told (λ files. commits_below (log_of table files) (newest + 1)) (Err e)
stops_told told table n newest commits stop.Store within so_far here = tt
stops_told told table n newest commits stop.Names within so_far here = here
stops_told told table n newest commits stop.Memory within so_far here = tt
stops_told None table n newest commits (stop.Refused (refused.Table r)) within so_far here = tt
stops_told (Some files) table n newest commits (stop.Refused (refused.Table r)) within so_far here = stops_whole (log_of table files) n newest commits r within so_far here
stops_told told table n newest commits (stop.Refused (refused.Statement r)) within so_far here = here
stops_told told table n newest commits (stop.Refused (refused.Put r)) within so_far here = here

pub reading_stops : (told before : Option Files) (table : List ℕ) (n newest : ℕ) (commits : List Commit) (e : Stop) (answer : Result (List Commit) Stop) → answer ≡ Err e → before ≡ told → n < newest + 1 → AreRead table n commits told
    → Tells before (λ files. commit_at (log_of table files) n) (Err e) → Tells told (λ files. commits_below (log_of table files) (newest + 1)) answer
reading_stops told before table n newest commits e answer is kept within so_far here =
    let there : Tells told (λ files. commit_at (log_of table files) n) (Err e) = subst (λ (o : Option Files). Tells o (λ files. commit_at (log_of table files) n) (Err e)) kept here in
    subst (λ (x : Result (List Commit) Stop). Tells told (λ files. commits_below (log_of table files) (newest + 1)) x) (sym is) (stops_told told table n newest commits e within so_far there)

-- the whole log

newest_same : MembersDecide → (log : Log) (ns : List ℕ) → ((n : ℕ) → is_in n ns ≡ is_in n (entries.keys_of log)) → of_numbers (newest_of ns) ≡ newest_version log
unfolding newest_version
newest_same same log ns listed = rw (same ns (entries.keys_of log) listed) refl

-- the commits are those up to the version among the listed ones
whole : MembersDecide → (asked : Option ℕ) (log : Log) (ns : List ℕ) → ((n : ℕ) → is_in n ns ≡ is_in n (entries.keys_of log)) → commits_at asked log ≡ go (version_among asked ns) (λ version. commits_below log (version + 1))
unfolding commits_at
whole same asked log ns listed = rw (← newest_same same log ns listed) (by (of_numbers (newest_of ns)))
  where
    by : (r : Result ℕ TableRefusal) → go r (λ newest. go (chosen asked newest) (λ version. commits_below log (version + 1))) ≡ go (go r (chosen asked)) (λ version. commits_below log (version + 1))
    by (Ok newest) = refl
    by (Err e) = refl

refused_told : MembersDecide → (told : Option Files) (asked : Option ℕ) (table ns : List ℕ) (e : Stop) → AreVersions table told ns → Gives (version_among asked ns) (Err e) → Tells {A = List Commit} told (λ files. commits_at asked (log_of table files)) (Err e)
refused_told same told asked table ns stop.Store listed here = tt
refused_told same told asked table ns stop.Names listed here = here
refused_told same told asked table ns stop.Memory listed here = tt
refused_told same None asked table ns (stop.Refused (refused.Table r)) listed here = tt
refused_told same (Some files) asked table ns (stop.Refused (refused.Table r)) listed here = whole same asked (log_of table files) ns listed ∙ rw here refl
refused_told same told asked table ns (stop.Refused (refused.Statement r)) listed here = here
refused_told same told asked table ns (stop.Refused (refused.Put r)) listed here = here

pub log_refused : MembersDecide → (told : Option Files) (asked : Option ℕ) (table ns : List ℕ) (e : Stop) (answer : Result (List Commit) Stop) → answer ≡ Err e → AreVersions table told ns → Gives (version_among asked ns) (Err e)
    → Tells told (λ files. commits_at asked (log_of table files)) answer
log_refused same told asked table ns e answer is listed here = subst (λ (x : Result (List Commit) Stop). Tells told (λ files. commits_at asked (log_of table files)) x) (sym is) (refused_told same told asked table ns e listed here)

pub told_alike : {A : Type 0} (told : Option Files) (first second : Files → Result A TableRefusal) (answer : Result A Stop) → WhereTold told (λ files. second files ≡ first files)
    → Tells told first answer → Tells told second answer
told_alike None first second (Ok value) same here = tt
told_alike None first second (Err (stop.Refused (refused.Table r))) same here = tt
told_alike told first second (Err (stop.Refused (refused.Statement r))) same here = here
told_alike told first second (Err (stop.Refused (refused.Put r))) same here = here
told_alike told first second (Err stop.Store) same here = tt
told_alike told first second (Err stop.Names) same here = here
told_alike told first second (Err stop.Memory) same here = tt
told_alike (Some files) first second (Ok value) same here = same ∙ here
told_alike (Some files) first second (Err (stop.Refused (refused.Table r))) same here = same ∙ here

whole_told : MembersDecide → (told : Option Files) (asked : Option ℕ) (table ns : List ℕ) (last : ℕ) → AreVersions table told ns → version_among asked ns ≡ Ok last
    → WhereTold told (λ files. commits_at asked (log_of table files) ≡ commits_below (log_of table files) (last + 1))
whole_told same None asked table ns last listed found = tt
whole_told same (Some files) asked table ns last listed found = whole same asked (log_of table files) ns listed ∙ rw found refl

pub log_read : MembersDecide → (told before : Option Files) (asked : Option ℕ) (table ns : List ℕ) (last : ℕ) (answer : Result (List Commit) Stop) → before ≡ told → AreVersions table told ns → version_among asked ns ≡ Ok last
    → Tells before (λ files. commits_below (log_of table files) (last + 1)) answer → Tells told (λ files. commits_at asked (log_of table files)) answer
log_read same told before asked table ns last answer kept listed found read =
    told_alike told (λ files. commits_below (log_of table files) (last + 1)) (λ files. commits_at asked (log_of table files)) answer (whole_told same told asked table ns last listed found)
    (subst (λ (o : Option Files). Tells o (λ files. commits_below (log_of table files) (last + 1)) answer) kept read)
