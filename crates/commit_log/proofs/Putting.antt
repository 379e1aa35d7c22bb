-- Files that are put one after another, each with a path that wasn't there.
use Rattle.std.proofs.Common.{◌≡◌, ℕ, zero, suc, ◌+◌, ◌<◌, ◌≤◌, List, [], ◌∷◌, ◌++◌, map, length, take, get_or, Option, Some, None, Result, Ok, Err, inl, inr, refl, ap, sym, ◌∙◌, subst, arith, append_assoc, Bool, true, false, cond}
use Rattle.std.specs.List.{AllByRecursion, IsDistinct}
use Rattle.std.specs.Str.{bytes_eq}
use Rattle.std.proofs.lemmas.Grind.{common_steps}
use Rattle.std.proofs.lemmas.List.{append-nil, take_more}
use Rattle.std.proofs.lemmas.Map.Keys.{IsDistinct-tail, apart_from_distinct}
use Rattle.std.proofs.lemmas.Slice.Eq.{bytes_eq-Decides}
use Rattle.dm_store.specs.Files.{Files, lookup, WhereTold, appended, IsAbsent, IsPresent}
use Rattle.table_log.specs.Log.{below}
use Rattle.commit_log.specs.Block.{placed, whole_paths, files_of, block_of, commit_file, AreApart, IsFresh}
use Rattle.commit_log.specs.Commits.{AllPut, SomePut, IsFirstTaken, Commits}
use Rattle.commit_log.specs.StepsPutting.{PutsFile, PutsFiles, PutsCommit, with_paths}
use Rattle.commit_log.specs.declared.new_files.NewFiles.{NewFiles}
use Rattle.commit_log.specs.declared.fault.CommitFault.{CommitFault}
use Rattle.commit_log.specs.declared.fault.CommitFault.TheVariants as fault
use Rattle.commit_log.specs.declared.puts.FileFault.{FileFault}
use Rattle.commit_log.specs.declared.puts.FileFault.TheVariants as file

-- the files under their whole paths

pub files_placed : (fresh : NewFiles) → with_paths (whole_paths fresh) fresh.files ≡ files_of fresh
unfolding files_of
files_placed fresh = by fresh.files
  where
    by : (files : Files) → with_paths (map (λ f. below fresh.table f.0) files) files ≡ map (placed fresh.table) files
    by [] = refl
    by (f ∷ files) = ap (λ (rest : Files). (below fresh.table f.0, f.1) ∷ rest) (by files)

pub placed-length : (paths : List (List ℕ)) (files : Files) → length paths ≡ length files → length (with_paths paths files) ≡ length files
placed-length [] [] same = refl
placed-length [] (f ∷ files) same = absurd (omega (arith, same))
placed-length (p ∷ paths) [] same = absurd (omega (arith, same))
placed-length (p ∷ paths) (f ∷ files) same = ap suc (placed-length paths files (omega (arith, same)))

placed-at : (paths : List (List ℕ)) (files : Files) (k : ℕ) (d : List ℕ × List ℕ) → length paths ≡ length files → k < length files
    → get_or (with_paths paths files) k d ≡ (get_or paths k [], (get_or files k d).1)
placed-at [] [] k d same within = absurd (omega (arith, within))
placed-at [] (f ∷ files) k d same within = absurd (omega (arith, same))
placed-at (p ∷ paths) [] k d same within = absurd (omega (arith, within))
placed-at (p ∷ paths) (f ∷ files) zero d same within = refl
placed-at (p ∷ paths) (f ∷ files) (suc k) d same within = placed-at paths files k d (omega (arith, same)) (omega (arith, within))

other_path : (p q : List ℕ) → bytes_eq p q ≡ false → bytes_eq q p ≡ false
other_path p q apart = by (bytes_eq q p) refl
  where
    by : (b : Bool) → bytes_eq q p ≡ b → bytes_eq q p ≡ false
    by false e = e
    by true e = let same : p ≡ q = sym ((bytes_eq-Decides q p).0 e) in let yes : bytes_eq p q ≡ true = (bytes_eq-Decides p q).1 same in let no : true ≡ false = sym yes ∙ apart in cc

-- a path isn't among those before it
front_lacks : (paths : List (List ℕ)) (files : Files) (k : ℕ) → IsDistinct bytes_eq paths → k < length paths → lookup (get_or paths k []) (take k (with_paths paths files)) ≡ None
front_lacks paths files zero distinct within = refl
front_lacks [] files (suc k) distinct within = absurd (omega (arith, within))
front_lacks (p ∷ paths) [] (suc k) distinct within = refl
front_lacks (p ∷ paths) (f ∷ files) (suc k) distinct within =
    let other : bytes_eq (get_or paths k []) p ≡ false = other_path p (get_or paths k []) (apart_from_distinct bytes_eq (p ∷ paths) 0 (suc k) [] distinct (omega arith) within) in
    rw other (front_lacks paths files k (IsDistinct-tail bytes_eq p paths distinct) (omega (arith, within)))

-- files that were added

appended-appended : (told : Option Files) (xs ys : Files) → appended (appended told xs) ys ≡ appended told (xs ++ ys)
appended-appended None xs ys = refl
appended-appended (Some files) xs ys = ap Some (append_assoc files xs ys)

-- what isn't there behind more files wasn't there before
not_before : (path : List ℕ) (files more : Files) → lookup path (files ++ more) ≡ None → lookup path files ≡ None
not_before path [] more none = refl
not_before path (f ∷ files) more none = by (bytes_eq path f.0) refl (not_before path files more)
  where
    by : (same : Bool) → bytes_eq path f.0 ≡ same → (lookup path (files ++ more) ≡ None → lookup path files ≡ None) → lookup path (f ∷ files) ≡ None
    by true e rest = let found : Some f.1 ≡ None = subst (λ (b : Bool). cond b (Some f.1) (lookup path (files ++ more)) ≡ None) e none in cc
    by false e rest = rw e (rest (subst (λ (b : Bool). cond b (Some f.1) (lookup path (files ++ more)) ≡ None) e none))

-- what is neither there nor among more files isn't there behind them
neither : (path : List ℕ) (files more : Files) → lookup path files ≡ None → lookup path more ≡ None → lookup path (files ++ more) ≡ None
neither path [] more none other = other
neither path (f ∷ files) more none other = by (bytes_eq path f.0) refl (neither path files more)
  where
    by : (same : Bool) → bytes_eq path f.0 ≡ same → (lookup path files ≡ None → lookup path more ≡ None → lookup path (files ++ more) ≡ None) → lookup path (f ∷ files ++ more) ≡ None
    by true e rest = let found : Some f.1 ≡ None = subst (λ (b : Bool). cond b (Some f.1) (lookup path files) ≡ None) e none in cc
    by false e rest = rw e (rest (subst (λ (b : Bool). cond b (Some f.1) (lookup path files) ≡ None) e none) other)

present_before : (told before : Option Files) (block : Files) (path : List ℕ) → before ≡ appended told block → lookup path block ≡ None → IsPresent path before → IsPresent path told
present_before None before block path so_far other there = tt
present_before (Some files) before block path so_far other there =
    let here : IsPresent path (Some (files ++ block)) = subst (λ (o : Option Files). IsPresent path o) so_far there in
    λ none. here (neither path files block none other)

fresh-push : (block files : Files) (f : List ℕ × List ℕ) → AllByRecursion (λ f. lookup f.0 files ≡ None) block → lookup f.0 files ≡ None → AllByRecursion (λ f. lookup f.0 files ≡ None) (block ++ f ∷ [])
fresh-push [] files f all here = (here, tt)
fresh-push (g ∷ block) files f all here = (all.0, fresh-push block files f all.1 here)

told_fresh : (told before : Option Files) (block : Files) (f : List ℕ × List ℕ) → before ≡ appended told block → IsAbsent f.0 before → WhereTold told (IsFresh block) → WhereTold told (IsFresh (block ++ f ∷ []))
told_fresh None before block f so_far absent fresh = tt
told_fresh (Some files) before block f so_far absent fresh =
    let here : IsAbsent f.0 (Some (files ++ block)) = subst (λ (o : Option Files). IsAbsent f.0 o) so_far absent in
    record { each = fresh-push block files f fresh.each (not_before f.0 files block here) }

-- one more file behind those that were put
one_more : (told before now : Option Files) (block : Files) (path bytes : List ℕ) → AllPut block told before → IsAbsent path before → now ≡ appended before ((path, bytes) ∷ []) → AllPut (block ++ (path, bytes) ∷ []) told now
one_more told before now block path bytes put absent more = record {
  grown = more ∙ ap (λ (o : Option Files). appended o ((path, bytes) ∷ [])) put.grown ∙ appended-appended told block ((path, bytes) ∷ []);
  fresh = told_fresh told before block (path, bytes) put.grown absent put.fresh;
}

-- nothing more was put
same_put : (told before now : Option Files) (block : Files) → AllPut block told before → now ≡ before → AllPut block told now
same_put told before now block put same = subst (λ (o : Option Files). AllPut block told o) (sym same) put

pub nothing_put : (told : Option Files) → AllPut [] told told
nothing_put None = record { grown = refl; fresh = tt }
nothing_put (Some files) = record { grown = ap Some (sym (append-nil files)); fresh = record { each = tt } }

take_all : (block : Files) (k : ℕ) → length block ≤ k → take k block ≡ block
take_all block k all = grind (arith, common_steps)

-- the files before the commit file

pub record At (paths : List (List ℕ)) (files : Files) (k : ℕ) (path bytes : List ℕ) : Type 0 where
  pub long : length paths ≡ length files
  pub distinct : IsDistinct bytes_eq paths
  pub within : k < length files
  pub path_is : path ≡ get_or paths k []
  pub bytes_is : bytes ≡ (get_or files k ([], [])).1

pub at_place : (paths : List (List ℕ)) (files : Files) (k : ℕ) (path bytes : List ℕ) → length paths ≡ length files → IsDistinct bytes_eq paths → k < length files → path ≡ get_or paths k [] → bytes ≡ (get_or files k ([], [])).1 → At paths files k path bytes
at_place paths files k path bytes long distinct within p b = record { long = long; distinct = distinct; within = within; path_is = p; bytes_is = b }

next_front : (paths : List (List ℕ)) (files : Files) (k : ℕ) (path bytes : List ℕ) → At paths files k path bytes → take (k + 1) (with_paths paths files) ≡ take k (with_paths paths files) ++ (path, bytes) ∷ []
next_front paths files k path bytes here =
    let long = placed-length paths files here.long in
    let one = placed-at paths files k ([], []) here.long here.within in
    let inside : k < length (with_paths paths files) = omega (arith, long, here.within) in
    take_more (with_paths paths files) k ([], []) inside ∙ rw (one, ← here.path_is, ← here.bytes_is) refl

pub step : (told before now : Option Files) (paths : List (List ℕ)) (files : Files) (k : ℕ) (path bytes : List ℕ) → At paths files k path bytes → AllPut (take k (with_paths paths files)) told before
    → PutsFile k path bytes before now (Ok tt) → AllPut (take (k + 1) (with_paths paths files)) told now
step told before now paths files k path bytes here put (absent, more) =
    subst (λ (f : Files). AllPut f told now) (sym (next_front paths files k path bytes here)) (one_more told before now (take k (with_paths paths files)) path bytes put absent more)

stopped : (told before now : Option Files) (paths : List (List ℕ)) (files : Files) (k : ℕ) (path bytes : List ℕ) (e : FileFault) → At paths files k path bytes → AllPut (take k (with_paths paths files)) told before
    → PutsFile k path bytes before now (Err e) → PutsFiles (with_paths paths files) told now (Err e)
stopped told before now paths files k path bytes (file.Exists at) here put (is, there, same) = rw is (record {
  within = let long = placed-length paths files here.long in omega (arith, long, here.within);
  put = same_put told before now (take k (with_paths paths files)) put same;
  there = rw (placed-at paths files k ([], []) here.long here.within) (present_before told before (take k (with_paths paths files)) (get_or paths k []) put.grown (front_lacks paths files k here.distinct (omega (arith, here.long, here.within))) (subst (λ (x : List ℕ). IsPresent x before) here.path_is there));
})
stopped told before now paths files k path bytes file.Failed here put (absent, inl same) = record { count = k; put = same_put told before now (take k (with_paths paths files)) put same }
stopped told before now paths files k path bytes file.Failed here put (absent, inr more) = record { count = k + 1; put = step told before now paths files k path bytes here put (absent, more) }
stopped told before now paths files k path bytes file.Memory here put (absent, same) = record { count = k; put = same_put told before now (take k (with_paths paths files)) put same }

pub stops : (r : Result (Unit {0}) FileFault) (told before now : Option Files) (paths : List (List ℕ)) (files : Files) (k : ℕ) (path bytes : List ℕ) (e : FileFault) → r ≡ Err e → At paths files k path bytes → AllPut (take k (with_paths paths files)) told before
    → PutsFile k path bytes before now (Err e) → PutsFiles (with_paths paths files) told now r
stops r told before now paths files k path bytes e is here put puts = subst (λ (x : Result (Unit {0}) FileFault). PutsFiles (with_paths paths files) told now x) (sym is) (stopped told before now paths files k path bytes e here put puts)

pub whole : (told before : Option Files) (paths : List (List ℕ)) (files : Files) (k : ℕ) → length paths ≡ length files → length files ≤ k → AllPut (take k (with_paths paths files)) told before → AllPut (with_paths paths files) told before
whole told before paths files k long all put =
    let same = placed-length paths files long in
    subst (λ (f : Files). AllPut f told before) (take_all (with_paths paths files) k (omega (arith, same))) put

-- the commit

front_of_block : (block : Files) (f : List ℕ × List ℕ) (k : ℕ) → take (length (take k block)) (block ++ f ∷ []) ≡ take k block
front_of_block [] f zero = refl
front_of_block [] f (suc k) = refl
front_of_block (g ∷ block) f zero = refl
front_of_block (g ∷ block) f (suc k) = ap (λ (rest : Files). g ∷ rest) (front_of_block block f k)

some_of_block : (told now : Option Files) (block : Files) (f : List ℕ × List ℕ) → SomePut block told now → SomePut (block ++ f ∷ []) told now
some_of_block told now block f some = record { count = length (take some.count block); put = subst (λ (x : Files). AllPut x told now) (sym (front_of_block block f some.count)) some.put }

-- the lists that were lent are those of the version
pub placed_puts : (told now : Option Files) (fresh : NewFiles) (paths : List (List ℕ)) (files : Files) (r : Result (Unit {0}) FileFault) → paths ≡ whole_paths fresh → files ≡ fresh.files → PutsFiles (with_paths paths files) told now r
    → PutsFiles (with_paths (whole_paths fresh) fresh.files) told now r
placed_puts told now fresh paths files r p f puts = subst (λ (ps : List (List ℕ)). PutsFiles (with_paths ps fresh.files) told now r) p (subst (λ (fs : Files). PutsFiles (with_paths paths fs) told now r) f puts)

pub file_failed : (told now : Option Files) (fresh : NewFiles) (e : FileFault) → e ≡ file.Failed → PutsFiles (with_paths (whole_paths fresh) fresh.files) told now (Err e) → SomePut (block_of fresh) told now
file_failed told now fresh e is puts =
    let some : SomePut (files_of fresh) told now = subst (λ (x : Files). SomePut x told now) (files_placed fresh) (subst (λ (x : FileFault). PutsFiles (with_paths (whole_paths fresh) fresh.files) told now (Err x)) is puts) in
    some_of_block told now (files_of fresh) (commit_file fresh) some

pub file_memory : (told now : Option Files) (fresh : NewFiles) (e : FileFault) → e ≡ file.Memory → PutsFiles (with_paths (whole_paths fresh) fresh.files) told now (Err e) → SomePut (files_of fresh) told now
file_memory told now fresh e is puts = subst (λ (x : Files). SomePut x told now) (files_placed fresh) (subst (λ (x : FileFault). PutsFiles (with_paths (whole_paths fresh) fresh.files) told now (Err x)) is puts)

get_or-keys : (table : List ℕ) (files : Files) (k : ℕ) → k < length files → get_or (map (λ f. below table f.0) files) k [] ≡ (get_or (map (placed table) files) k ([], [])).0
get_or-keys table [] k within = absurd (omega (arith, within))
get_or-keys table (f ∷ files) zero within = refl
get_or-keys table (f ∷ files) (suc k) within = get_or-keys table files k (omega (arith, within))

pub files-length : (fresh : NewFiles) → length (files_of fresh) ≡ length (whole_paths fresh)
unfolding files_of
files-length fresh = by fresh.files
  where
    by : (files : Files) → length (map (placed fresh.table) files) ≡ length (map (λ f. below fresh.table f.0) files)
    by [] = refl
    by (f ∷ files) = ap suc (by files)

path_at : (fresh : NewFiles) (k : ℕ) → k < length (files_of fresh) → get_or (whole_paths fresh) k [] ≡ (get_or (files_of fresh) k ([], [])).0
unfolding files_of
path_at fresh k within = get_or-keys fresh.table fresh.files k (by fresh.files k within)
  where
    by : (files : Files) (k : ℕ) → k < length (map (placed fresh.table) files) → k < length files
    by [] k within = within
    by (f ∷ files) zero within = omega arith
    by (f ∷ files) (suc k) within = let rest = by files k (omega (arith, within)) in omega (arith, rest)

pub first_taken : (told now : Option Files) (fresh : NewFiles) (index : ℕ) (e : FileFault) → e ≡ file.Exists index → PutsFiles (with_paths (whole_paths fresh) fresh.files) told now (Err e)
    → IsFirstTaken (files_of fresh) index told now
first_taken told now fresh index e is puts = subst (λ (x : Files). IsFirstTaken x index told now) (files_placed fresh) (subst (λ (x : FileFault). PutsFiles (with_paths (whole_paths fresh) fresh.files) told now (Err x)) is puts)

pub taken_within : (told now : Option Files) (fresh : NewFiles) (paths : List (List ℕ)) (index : ℕ) → paths ≡ whole_paths fresh → IsFirstTaken (files_of fresh) index told now → index < length paths
taken_within told now fresh paths index p found = rw p (omega (arith, found.within, files-length fresh))

pub name_taken : (told now : Option Files) (fresh : NewFiles) (paths : List (List ℕ)) (index : ℕ) (answer : CommitFault) → paths ≡ whole_paths fresh → answer ≡ fault.NameTaken (get_or paths index []) → IsFirstTaken (files_of fresh) index told now → Commits fresh told now (Err answer)
name_taken told now fresh paths index answer p is found =
    subst (λ (x : CommitFault). Commits fresh told now (Err x)) (sym is) (index, found, ap (λ (ps : List (List ℕ)). get_or ps index []) p ∙ path_at fresh index found.within)

pub all_files : (told now : Option Files) (fresh : NewFiles) → AllPut (with_paths (whole_paths fresh) fresh.files) told now → AllPut (files_of fresh) told now
all_files told now fresh put = subst (λ (x : Files). AllPut x told now) (files_placed fresh) put

committed : (told before now : Option Files) (fresh : NewFiles) (r : Result ℕ CommitFault) → AreApart fresh → AllPut (files_of fresh) told before → PutsCommit fresh.version (commit_file fresh).0 (commit_file fresh).1 before now r → Commits fresh told now r
committed told before now fresh (Ok version) apart put (is, absent, more) = (is, one_more told before now (files_of fresh) (commit_file fresh).0 (commit_file fresh).1 put absent more)
committed told before now fresh (Err (fault.NameTaken path)) apart put puts = absurd puts
committed told before now fresh (Err (fault.VersionTaken version)) apart put (is, there, same) =
    (is, record { put = same_put told before now (files_of fresh) put same; there = present_before told before (files_of fresh) (commit_file fresh).0 put.grown apart.no_commit there })
committed told before now fresh (Err fault.Failed) apart put (absent, inl same) = some_of_block told now (files_of fresh) (commit_file fresh) (record { count = length (files_of fresh); put = subst (λ (x : Files). AllPut x told now) (sym (take_all (files_of fresh) (length (files_of fresh)) (omega arith))) (same_put told before now (files_of fresh) put same) })
committed told before now fresh (Err fault.Failed) apart put (absent, inr more) = record { count = length (block_of fresh); put = subst (λ (x : Files). AllPut x told now) (sym (take_all (block_of fresh) (length (block_of fresh)) (omega arith))) (one_more told before now (files_of fresh) (commit_file fresh).0 (commit_file fresh).1 put absent more) }
committed told before now fresh (Err fault.Memory) apart put (absent, same) = record { count = length (files_of fresh); put = subst (λ (x : Files). AllPut x told now) (sym (take_all (files_of fresh) (length (files_of fresh)) (omega arith))) (same_put told before now (files_of fresh) put same) }

pub commits : (told before now : Option Files) (fresh : NewFiles) (path bytes : List ℕ) (r : Result ℕ CommitFault) → AreApart fresh → path ≡ (commit_file fresh).0 → bytes ≡ (commit_file fresh).1 → AllPut (with_paths (whole_paths fresh) fresh.files) told before
    → PutsCommit fresh.version path bytes before now r → Commits fresh told now r
commits told before now fresh path bytes r apart p b put puts =
    committed told before now fresh r apart (all_files told before fresh put)
    (subst (λ (x : List ℕ). PutsCommit fresh.version x (commit_file fresh).1 before now r) p (subst (λ (x : List ℕ). PutsCommit fresh.version path x before now r) b puts))

pub memory_first : (told : Option Files) (fresh : NewFiles) (r : Result ℕ CommitFault) (e : CommitFault) → r ≡ Err e → e ≡ fault.Memory → Commits fresh told told r
memory_first told fresh r e is m =
    subst (λ (x : Result ℕ CommitFault). Commits fresh told told x) (sym is) (subst (λ (x : CommitFault). Commits fresh told told (Err x)) (sym m) (record { count = 0; put = nothing_put told }))
