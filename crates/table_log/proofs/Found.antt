-- The log of a table among its files, and in a listing of its folder.
use Rattle.std.proofs.Common.{◌≡◌, ◌≢◌, ℕ, ◌+◌, ◌^◌, ◌<◌, List, [], ◌∷◌, ◌++◌, take, length, get_or, Option, Some, None, Result, Ok, Err, refl, ap, sym, ◌∙◌, subst, Bool, true, false, ◌==◌, ◌||◌, arith}
use Rattle.std.specs.List.{filter_map, list_any, cons_option}
use Rattle.std.specs.List.Sorted.{IsPermutation}
use Rattle.std.specs.Map as entries
use Rattle.std.specs.Str.{bytes_eq}
use Rattle.std.proofs.lemmas.Bool.Decides.{nat_tests}
use Rattle.std.proofs.lemmas.List.{take_more}
use Rattle.std.proofs.lemmas.List.Elements.{filter_map-append}
use Rattle.std.proofs.lemmas.List.Folds.{list_any-append}
use Rattle.std.proofs.lemmas.List.Sorted.{list_any-IsPermutation}
use Rattle.std.proofs.lemmas.Slice.Eq.{bytes_eq-Decides}
use Rattle.dm_store.specs.Files.{Files, WhereTold, Reads, lookup, name_below, names_below}
use Rattle.dm_store.specs.declared.faults.ReadFault.{ReadFault}
use Rattle.dm_store.specs.declared.faults.ReadFault.TheVariants as read
use Rattle.log_replay.specs.Numbers.{is_in}
use Rattle.table_log.specs.Log.{Log, log_folder, commit_path, version_of, version_at, with_bytes, log_of}
use Rattle.dm_types.specs.Then.{◌>>=◌}
use Rattle.table_log.specs.Listed.{AreVersions, ReadsVersion}
use Rattle.table_log.proofs.Spelling.{version_at-path, path-from_version}

-- a file's bytes by its version are those by its path

number_here : (n : ℕ) (log : Log) (bytes : List ℕ) (version : Option ℕ) → version ≡ Some n → entries.lookup (λ m. m == n) (cons_option (with_bytes version bytes) log) ≡ Some bytes
number_here n log bytes None is = cc
number_here n log bytes (Some m) is = let same : (m == n) ≡ true = let e : m ≡ n = cc in grind (arith, nat_tests) in rw same refl

other_here : (table path : List ℕ) (n : ℕ) (log : Log) (bytes : List ℕ) (version : Option ℕ) → version_at table path ≡ version → path ≢ commit_path table n → entries.lookup (λ m. m == n) (cons_option (with_bytes version bytes) log) ≡ entries.lookup (λ m. m == n) log
other_here table path n log bytes None is other = refl
other_here table path n log bytes (Some m) is other =
    let apart : m ≢ n = λ e. other (path-from_version table path n (is ∙ ap Some e)).0 in
    let test : (m == n) ≡ false = grind (arith, nat_tests) in
    rw test refl

link_at : (table : List ℕ) (n : ℕ) (file : List ℕ × List ℕ) (files : Files) (same : Bool) → n < 2 ^ 63 → bytes_eq (commit_path table n) file.0 ≡ same
    → entries.lookup (λ m. m == n) (log_of table files) ≡ lookup (commit_path table n) files
    → entries.lookup (λ m. m == n) (log_of table (file ∷ files)) ≡ lookup (commit_path table n) (file ∷ files)
unfolding log_of
link_at table n file files true small is rest =
    let same : commit_path table n ≡ file.0 = (bytes_eq-Decides (commit_path table n) file.0).0 is in
    rw is (number_here n (log_of table files) file.1 (version_at table file.0) (ap (version_at table) (sym same) ∙ version_at-path table n small))
link_at table n file files false small is rest =
    let apart : file.0 ≢ commit_path table n = λ e. let yes = (bytes_eq-Decides (commit_path table n) file.0).1 (sym e) in let off : true ≡ false = sym yes ∙ is in cc in
    rw is (other_here table file.0 n (log_of table files) file.1 (version_at table file.0) refl apart ∙ rest)

pub log-lookup : (table : List ℕ) (n : ℕ) (files : Files) → n < 2 ^ 63 → entries.lookup (λ m. m == n) (log_of table files) ≡ lookup (commit_path table n) files
unfolding log_of
log-lookup table n [] small = refl
log-lookup table n (file ∷ files) small = link_at table n file files (bytes_eq (commit_path table n) file.0) small refl (log-lookup table n files small)

-- the versions of the log are those that the listed names spell

keys_cons : (found : Option (List ℕ)) (bytes : List ℕ) (log : Log) (names : List (List ℕ)) → entries.keys_of log ≡ filter_map version_of names
    → entries.keys_of (cons_option (with_bytes (found >>= version_of) bytes) log) ≡ filter_map version_of (cons_option found names)
keys_cons None bytes log names rest = rest
keys_cons (Some name) bytes log names rest = by (version_of name)
  where
    by : (version : Option ℕ) → entries.keys_of (cons_option (with_bytes version bytes) log) ≡ cons_option version (filter_map version_of names)
    by None = rest
    by (Some n) = ap (λ ns. n ∷ ns) rest

log-keys : (table : List ℕ) (files : Files) → entries.keys_of (log_of table files) ≡ filter_map version_of (names_below (log_folder table) files)
unfolding log_of version_at
log-keys table [] = refl
log-keys table (file ∷ files) = (keys_cons (name_below (log_folder table) file.0) file.1 (log_of table files) (names_below (log_folder table) files) (log-keys table files))

abbrev is_that : Option ℕ → ℕ → Bool
is_that None n = false
is_that (Some m) n = m == n

in_cons : (version : Option ℕ) (n : ℕ) (ns : List ℕ) → is_in n (cons_option version ns) ≡ (is_that version n || is_in n ns)
in_cons None n ns = refl
in_cons (Some m) n ns = refl

spelled : (n : ℕ) (names : List (List ℕ)) → is_in n (filter_map version_of names) ≡ list_any (λ name. is_that (version_of name) n) names
spelled n [] = refl
spelled n (name ∷ names) = in_cons (version_of name) n (filter_map version_of names) ∙ ap (λ b. is_that (version_of name) n || b) (spelled n names)

pub versions_listed : (told : Option Files) (table folder : List ℕ) (names : List (List ℕ)) (ns : List ℕ) → folder ≡ log_folder table
    → WhereTold told (λ files. IsPermutation (names_below folder files) names)
    → ((n : ℕ) → is_in n ns ≡ is_in n (filter_map version_of names))
    → AreVersions table told ns
versions_listed None table folder names ns is listed found = tt
versions_listed (Some files) table folder names ns is listed found = λ n.
    let same : IsPermutation (names_below (log_folder table) files) names = subst (λ (dir : List ℕ). IsPermutation (names_below dir files) names) is listed in
    found n ∙ spelled n names ∙ sym (list_any-IsPermutation (λ name. is_that (version_of name) n) (names_below (log_folder table) files) names same)
    ∙ sym (spelled n (names_below (log_folder table) files)) ∙ ap (is_in n) (sym (log-keys table files))

-- one more name

swap : (a b c : Bool) → b ≡ c → (a || b) ≡ (c || (a || false))
swap true b true e = refl
swap true b false e = refl
swap false b true e = e
swap false b false e = e

pub versions_more : (names : List (List ℕ)) (name : List ℕ) (k n : ℕ) (ns more : List ℕ) → k < length names → name ≡ get_or names k name
    → is_in n more ≡ is_in n (cons_option (version_of name) ns) → is_in n ns ≡ is_in n (filter_map version_of (take k names))
    → is_in n more ≡ is_in n (filter_map version_of (take (k + 1) names))
versions_more names name k n ns more within is added found =
    let taken : take (k + 1) names ≡ take k names ++ name ∷ [] = take_more names k name within ∙ rw (← is) refl in
    let split : is_in n (filter_map version_of (take (k + 1) names)) ≡ (is_in n (filter_map version_of (take k names)) || is_in n (cons_option (version_of name) []))
    = ap (λ ts. is_in n (filter_map version_of ts)) taken ∙ ap (is_in n) (filter_map-append version_of (take k names) (name ∷ [])) ∙ list_any-append (λ m. m == n) (filter_map version_of (take k names)) (cons_option (version_of name) []) in
    added ∙ in_cons (version_of name) n ns ∙ swap (is_that (version_of name) n) _ _ found ∙ ap (λ b. is_in n (filter_map version_of (take k names)) || b) (sym (in_cons (version_of name) n [])) ∙ sym split

-- a read of a commit file

pub version_read : (told : Option Files) (table : List ℕ) (n : ℕ) (path : List ℕ) (r : Result (List ℕ) ReadFault) → n < 2 ^ 63 → path ≡ commit_path table n → Reads path told r → ReadsVersion table n told r
version_read None table n path (Ok bytes) small is reads = tt
version_read None table n path (Err read.Absent) small is reads = tt
version_read told table n path (Err read.Failed) small is reads = tt
version_read told table n path (Err read.Memory) small is reads = tt
version_read (Some files) table n path (Ok bytes) small is reads = log-lookup table n files small ∙ rw (← is) reads
version_read (Some files) table n path (Err read.Absent) small is reads = log-lookup table n files small ∙ rw (← is) reads
