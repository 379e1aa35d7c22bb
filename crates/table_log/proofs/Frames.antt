-- Files that are added change no version but the next one.
use Rattle.std.proofs.Common.{◌≡◌, ◌≢◌, ℕ, ◌+◌, ◌<◌, ◌^◌, List, [], ◌∷◌, ◌++◌, length, take, length-append, Option, Some, None, refl, ap, sym, ◌∙◌, arith, append_assoc, codes}
use Rattle.std.specs.List.{AllByRecursion}
use Rattle.std.proofs.lemmas.List.{append-nil}
use Rattle.std.proofs.lemmas.List.Elements.{filter_map-append}
use Rattle.std.proofs.Math.Seq.{take-append_seam}
use Rattle.dm_store.specs.Files.{Files}
use Rattle.log_replay.specs.declared.numbers.TheConstants.{MAX_COMMITS}
use Rattle.table_log.specs.Log.{Log, bytes_of, log_folder, commit_name, commit_path, version_at, with_bytes, log_of, digits_of_width}
use Rattle.table_log.specs.Versions.{commits_at}
use Rattle.table_log.specs.Agree.{AreUnseen, IsUnseen, FrameUnseen, FrameNext, SaysNext, NextIsAbsent, FrameFirst, SaysFirst, FirstIsAbsent}
use Rattle.table_log.proofs.Digits.{width-length}
use Rattle.table_log.proofs.Found.{log-lookup}
use Rattle.table_log.proofs.Next.{others_stay, next_says, next_absent, first_says}
use Rattle.table_log.proofs.Spelling.{version_at-path, path-from_version}

-- a commit file is of one table

fronts_same : (xs ys zs ws : List ℕ) → xs ++ zs ≡ ys ++ ws → length zs ≡ length ws → xs ≡ ys
fronts_same xs ys zs ws e long =
    let same : length xs ≡ length ys = omega (arith, length-append xs zs, length-append ys ws, ap length e) in
    sym (take-append_seam xs zs) ∙ ap (take (length xs)) e ∙ ap (λ n. take n (ys ++ ws)) same ∙ take-append_seam ys ws

names_long : (n m : ℕ) → length (47 ∷ commit_name n) ≡ length (47 ∷ commit_name m)
names_long n m = omega (arith, length-append (digits_of_width 20 n) (codes ".json"), length-append (digits_of_width 20 m) (codes ".json"), width-length 20 n, width-length 20 m)

same_table : (t u : List ℕ) (n m : ℕ) → commit_path t n ≡ commit_path u m → t ≡ u
unfolding commit_path
same_table t u n m e =
    let folders : log_folder t ≡ log_folder u = fronts_same (log_folder t) (log_folder u) (47 ∷ commit_name n) (47 ∷ commit_name m) e (names_long n m) in
    fronts_same t u (codes "/_delta_log") (codes "/_delta_log") folders refl

version_at-other : (u t : List ℕ) (n : ℕ) → u ≢ t → version_at u (commit_path t n) ≡ None
version_at-other u t n other = by (version_at u (commit_path t n)) refl
  where
    by : (found : Option ℕ) → version_at u (commit_path t n) ≡ found → version_at u (commit_path t n) ≡ None
    by None e = e
    by (Some m) e = absurd (other (sym (same_table t u n m (path-from_version u (commit_path t n) m e).0)))

-- logs of more files

log-append : (t : List ℕ) (files more : Files) → log_of t (files ++ more) ≡ log_of t files ++ log_of t more
unfolding log_of
log-append t files more = filter_map-append (λ file. with_bytes (version_at t file.0) file.1) files more

none_seen : (t : List ℕ) (more : Files) → AllByRecursion (λ file. IsUnseen file.0) more → log_of t more ≡ []
unfolding log_of
none_seen t [] unseen = refl
none_seen t (file ∷ more) unseen = rw (unseen.0 t) (none_seen t more unseen.1)

log_same : (t : List ℕ) (files more : Files) → log_of t more ≡ [] → log_of t (files ++ more) ≡ log_of t files
log_same t files more none = log-append t files more ∙ ap (λ (log : Log). log_of t files ++ log) none ∙ append-nil (log_of t files)

log_unseen : (t : List ℕ) (files more : Files) → AreUnseen more → log_of t (files ++ more) ≡ log_of t files
log_unseen t files more unseen = log_same t files more (none_seen t more unseen.each)

log_commit : (t : List ℕ) (n : ℕ) (bytes : List ℕ) → n < 2 ^ 63 → log_of t ((commit_path t n, bytes) ∷ []) ≡ (n, bytes) ∷ []
unfolding log_of
log_commit t n bytes small = rw (version_at-path t n small) refl

log_other : (u t : List ℕ) (n : ℕ) (bytes : List ℕ) → u ≢ t → log_of u ((commit_path t n, bytes) ∷ []) ≡ []
unfolding log_of
log_other u t n bytes other = rw (version_at-other u t n other) refl

-- the log of the table that has one more version, and of the others

next_log : (files more : Files) (t : List ℕ) (n : ℕ) (bytes : List ℕ) → AreUnseen more → n < 2 ^ 63 → log_of t (files ++ (more ++ (commit_path t n, bytes) ∷ [])) ≡ log_of t files ++ (n, bytes) ∷ []
next_log files more t n bytes unseen small =
    ap (log_of t) (sym (append_assoc files more ((commit_path t n, bytes) ∷ []))) ∙ log-append t (files ++ more) ((commit_path t n, bytes) ∷ [])
    ∙ rw (log_unseen t files more unseen, log_commit t n bytes small) refl

other_log : (files more : Files) (u t : List ℕ) (n : ℕ) (bytes : List ℕ) → AreUnseen more → u ≢ t → log_of u (files ++ (more ++ (commit_path t n, bytes) ∷ [])) ≡ log_of u files
other_log files more u t n bytes unseen other =
    ap (log_of u) (sym (append_assoc files more ((commit_path t n, bytes) ∷ []))) ∙ log_same u (files ++ more) ((commit_path t n, bytes) ∷ []) (log_other u t n bytes other) ∙ log_unseen u files more unseen

-- the laws

-- a number within the limit is that of a commit file
small : (newest : ℕ) → newest + 1 < MAX_COMMITS → newest + 1 < 2 ^ 63
small newest room = omega arith

pub frame_unseen : FrameUnseen
frame_unseen files more unseen = record { all = λ t v. ap (commits_at (Some v)) (log_unseen t files more unseen) }

pub frame_next : FrameNext
frame_next files more t newest bytes unseen room e = record {
  before = λ v other. ap (commits_at (Some v)) (next_log files more t (newest + 1) bytes unseen (small newest room)) ∙ others_stay (log_of t files) newest v bytes room e other;
  elsewhere = λ u v other. ap (commits_at (Some v)) (other_log files more u t (newest + 1) bytes unseen other);
}

pub says_next : SaysNext
says_next files more t newest bytes unseen room e = ap (commits_at (Some (newest + 1))) (next_log files more t (newest + 1) bytes unseen (small newest room)) ∙ next_says (log_of t files) newest bytes room e

pub next_is_absent : NextIsAbsent
next_is_absent files t newest small e = sym (log-lookup t (newest + 1) files small) ∙ next_absent (log_of t files) newest e

pub frame_first : FrameFirst
frame_first files more t bytes unseen u v other = ap (commits_at (Some v)) (other_log files more u t 0 bytes unseen other)

pub says_first : SaysFirst
says_first files more t bytes unseen none =
    ap (commits_at (Some 0)) (next_log files more t 0 bytes unseen (omega arith) ∙ ap (λ (log : Log). log ++ (0, bytes) ∷ []) none) ∙ first_says bytes

pub first_is_absent : FirstIsAbsent
first_is_absent files t none = sym (log-lookup t 0 files (omega arith)) ∙ ap (bytes_of 0) none
