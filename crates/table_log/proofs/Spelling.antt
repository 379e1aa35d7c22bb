-- Which paths are commit files of a table, and of which versions.
use Rattle.std.proofs.Common.{◌≡◌, ℕ, ◌+◌, ◌^◌, ◌<◌, List, [], ◌∷◌, ◌++◌, length, take, drop, get_or, Option, Some, None, cond, length-take, length-drop, refl, ap, sym, ◌∙◌, Bool, true, false, ◌==◌, ◌&&◌, nat_lt, arith, codes, add-one}
use Rattle.std.specs.List.{list_any}
use Rattle.std.specs.Char.{is_ascii_digit}
use Rattle.std.specs.Str.{bytes_eq, all_ascii_digits}
use Rattle.std.specs.Str.Parse.{digits_value}
use Rattle.std.proofs.lemmas.Bool.{and_parts, eqb-true, ltb-true}
use Rattle.std.proofs.lemmas.Bool.Decides.{nat_tests}
use Rattle.std.proofs.lemmas.Grind.{common_steps}
use Rattle.std.proofs.lemmas.List.{take-append-drop, get_or_past}
use Rattle.std.proofs.lemmas.List.Folds.{list_any-append}
use Rattle.std.proofs.lemmas.Option.{cond_some}
use Rattle.std.proofs.lemmas.Slice.Eq.{bytes_eq-Decides}
use Rattle.std.proofs.Math.Seq.{take-append_seam, drop-append_seam, drop-append-add, drop-cons}
use Rattle.dm_store.specs.Files.{name_below}
use Rattle.table_log.specs.Log.{log_folder, digits_of_width, commit_name, commit_path, version_of, version_at}
use Rattle.dm_types.specs.Then.{◌>>=◌}
use Rattle.table_log.proofs.Digits.{width-length, width-digits, width-value, width-unique}

-- names

front_of : (xs ys : List ℕ) (k : ℕ) → length xs ≡ k → (take k (xs ++ ys) ≡ xs) × (drop k (xs ++ ys) ≡ ys)
front_of xs ys k long = rw (← long) (take-append_seam xs ys, drop-append_seam xs ys)

name-parts : (n : ℕ) → (take 20 (commit_name n) ≡ digits_of_width 20 n) × (drop 20 (commit_name n) ≡ codes ".json")
name-parts n = front_of (digits_of_width 20 n) (codes ".json") 20 (width-length 20 n)

fits_width : (n : ℕ) → n < 2 ^ 63 → n < 10 ^ 20
fits_width n small = omega arith

pub version_of-name : (n : ℕ) → n < 2 ^ 63 → version_of (commit_name n) ≡ Some n
unfolding version_of
version_of-name n small =
    let suffix : bytes_eq (codes ".json") (codes ".json") ≡ true = refl in
    let fits : nat_lt n (2 ^ 63) ≡ true = grind (arith, nat_tests) in
    rw ((name-parts n).0, (name-parts n).1, width-digits 20 n, width-value 20 n (fits_width n small), fits) refl

long_enough : (name : List ℕ) → drop 20 name ≡ codes ".json" → length (take 20 name) ≡ 20
long_enough name e = omega (arith, ap length e, length-take 20 name, length-drop 20 name)

record Passed (a b c : Bool) (value n : ℕ) : Type 0 where
  suffix : a ≡ true
  digits : b ≡ true
  small : c ≡ true
  same : value ≡ n

tests_pass : (a b c : Bool) (value n : ℕ) → cond ((a && b) && c) (Some value) None ≡ Some n → Passed a b c value n
tests_pass a b c value n e =
    let found = cond_some ((a && b) && c) value n e in
    let parts = and_parts (a && b) c found.0 in
    let front = and_parts a b parts.0 in
    record { suffix = front.0; digits = front.1; small = parts.1; same = found.1 }

-- a name of a version is that of its commit file
pub name-from_version : (name : List ℕ) (n : ℕ) → version_of name ≡ Some n → (name ≡ commit_name n) × (n < 2 ^ 63)
unfolding version_of
name-from_version name n e =
    let found = tests_pass (bytes_eq (drop 20 name) (codes ".json")) (all_ascii_digits (take 20 name)) (nat_lt (digits_value 10 (take 20 name)) (2 ^ 63)) (digits_value 10 (take 20 name)) n e in
    let suffix : drop 20 name ≡ codes ".json" = (bytes_eq-Decides (drop 20 name) (codes ".json")).0 found.suffix in
    let digits : digits_of_width 20 (digits_value 10 (take 20 name)) ≡ take 20 name = width-unique 20 (take 20 name) (long_enough name suffix) found.digits in
    let small : digits_value 10 (take 20 name) < 2 ^ 63 = ltb-true _ _ found.small in
    let value : digits_value 10 (take 20 name) ≡ n = found.same in
    (sym (take-append-drop 20 name) ∙ rw (suffix, ← digits, value) refl, rw (← value) small)

-- paths

within : (path : List ℕ) (n : ℕ) → get_or path n 0 ≡ 47 → n < length path
within path n is = grind (arith, get_or_past)

-- a name below a folder follows the folder and a slash
name_below-path : (dir path name : List ℕ) → name_below dir path ≡ Some name → path ≡ dir ++ 47 ∷ name
name_below-path dir path name e =
    let found = cond_some _ _ _ e in
    let parts = and_parts _ _ found.0 in
    let front = and_parts _ _ parts.0 in
    let folder : take (length dir) path ≡ dir = (bytes_eq-Decides (take (length dir) path) dir).0 front.0 in
    let slash : get_or path (length dir) 0 ≡ 47 = eqb-true _ _ front.1 in
    let rest : drop (length dir) path ≡ 47 ∷ name = drop-cons path (length dir) 0 (within path (length dir) slash) ∙ rw (slash, ← add-one (length dir), found.1) refl in
    sym (take-append-drop (length dir) path) ∙ rw (folder, rest) refl

not_slash : (d : ℕ) → is_ascii_digit d ≡ true → (d == 47) ≡ false
not_slash d is = grind (arith, nat_tests)

digits_have_no_slash : (ds : List ℕ) → all_ascii_digits ds ≡ true → list_any (λ b. b == 47) ds ≡ false
digits_have_no_slash [] digits = refl
digits_have_no_slash (d ∷ ds) digits =
    let parts = and_parts (is_ascii_digit d) (all_ascii_digits ds) digits in
    let rest = digits_have_no_slash ds parts.1 in
    let here : (d == 47) ≡ false = not_slash d parts.0 in
    rw (here, rest) refl

name-no_slash : (n : ℕ) → list_any (λ b. b == 47) (commit_name n) ≡ false
name-no_slash n = rw (list_any-append, digits_have_no_slash (digits_of_width 20 n) (width-digits 20 n)) refl

below_folder : (dir name : List ℕ) → list_any (λ b. b == 47) name ≡ false → name_below dir (dir ++ 47 ∷ name) ≡ Some name
below_folder dir name none =
    let front : take (length dir) (dir ++ 47 ∷ name) ≡ dir = take-append_seam dir (47 ∷ name) in
    let back : drop (length dir + 1) (dir ++ 47 ∷ name) ≡ name = drop-append-add dir (47 ∷ name) 1 in
    let slash : get_or (dir ++ 47 ∷ name) (length dir) 0 ≡ 47 = grind (arith, common_steps) in
    let folder : bytes_eq dir dir ≡ true = (bytes_eq-Decides dir dir).1 refl in
    rw (front, folder, slash, back, none) refl

pub version_at-path : (table : List ℕ) (n : ℕ) → n < 2 ^ 63 → version_at table (commit_path table n) ≡ Some n
unfolding commit_path version_at
version_at-path table n small = rw (below_folder (log_folder table) (commit_name n) (name-no_slash n), version_of-name n small) refl

path_from_name : (table path : List ℕ) (n : ℕ) (found : Option (List ℕ)) → name_below (log_folder table) path ≡ found → (found >>= version_of) ≡ Some n → (path ≡ commit_path table n) × (n < 2 ^ 63)
unfolding commit_path
path_from_name table path n None e is = cc
path_from_name table path n (Some name) e is =
    let back = name-from_version name n is in
    (name_below-path (log_folder table) path name e ∙ ap (λ (x : List ℕ). log_folder table ++ 47 ∷ x) back.0, back.1)

pub path-from_version : (table path : List ℕ) (n : ℕ) → version_at table path ≡ Some n → (path ≡ commit_path table n) × (n < 2 ^ 63)
unfolding version_at
path-from_version table path n is = path_from_name table path n (name_below (log_folder table) path) refl is
