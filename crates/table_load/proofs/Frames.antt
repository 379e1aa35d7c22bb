-- States of tables when files are added.
use Rattle.std.proofs.Common.{◌≡◌, ℕ, Bool, true, false, cond, List, [], ◌∷◌, ◌++◌, Option, Some, Result, Ok, Err, refl, sym, ap, subst}
use Rattle.std.specs.Map as entries
use Rattle.std.specs.Str.{bytes_eq}
use Rattle.dm_store.specs.Files.{Files, lookup}
use Rattle.dm_types.specs.Then.{go}
use Rattle.dm_types.specs.declared.refusal.TableRefusal.{TableRefusal}
use Rattle.log_replay.specs.declared.commits.Commit.{Commit}
use Rattle.table_log.specs.Agree.{FrameFirst, FrameNext, FrameUnseen, said_at}
use Rattle.table_log.specs.Log.{log_of}
use Rattle.table_load.specs.Agree.{HeldBesideFirst, HeldBesideNext, HeldByUnseen, HeldElsewhere, HeldStays}
use Rattle.table_load.specs.Files.{Look, live_files}
use Rattle.table_load.specs.Head.{head_at, head_of}
use Rattle.table_load.specs.Held.{TableState, held, held_at, opened, opened_at, sound_ids, state_of}
use Rattle.table_load.specs.declared.head.Head.{Head}
use Rattle.table_load.proofs.Steady.{Grown, Kept, found, kept_then, same, stated, stated_kept}

abbrev look_in : Files → Look
look_in files = λ path. lookup path files

-- a path that is found stays found
found_here : (bytes here : List ℕ) (now : Option (List ℕ)) (b : Bool) (rest : Option (List ℕ)) → (rest ≡ Some bytes → now ≡ Some bytes) → cond b (Some here) rest ≡ Some bytes → cond b (Some here) now ≡ Some bytes
found_here bytes here now true rest later e = e
found_here bytes here now false rest later e = later e

lookup_more : (test : List ℕ → Bool) (files more : Files) (bytes : List ℕ) → entries.lookup test files ≡ Some bytes → entries.lookup test (files ++ more) ≡ Some bytes
lookup_more test [] more bytes e = absurd cc
lookup_more test (file ∷ files) more bytes e = found_here bytes file.1 (entries.lookup test (files ++ more)) (test file.0) (entries.lookup test files) (lookup_more test files more bytes) e

grown : (files more : Files) → Grown (look_in files) (look_in (files ++ more))
grown files more path bytes e = lookup_more (bytes_eq path) files more bytes e

-- steps in a row
in_a_row : {A B C : Type 0} (first : Result A TableRefusal) (second : A → Result B TableRefusal) (third : B → Result C TableRefusal) → go (go first second) third ≡ go first (λ a. go (second a) third)
in_a_row (Ok a) second third = refl
in_a_row (Err e) second third = refl

held_is : (folder : List ℕ) (version : ℕ) (files : Files) → held folder version files ≡ go (head_at (Some version) (log_of folder files)) (stated (look_in files) folder)
unfolding held_at opened_at
held_is folder version files =
    in_a_row (head_at (Some version) (log_of folder files)) (λ head. go (live_files (look_in files) folder head) (λ all. go (sound_ids head.snapshot all.ids) (λ _. Ok (opened head all)))) (λ it. Ok (state_of it))

heads_same : (folder : List ℕ) (version : ℕ) (old new : Files) → said_at folder version new ≡ said_at folder version old → head_at (Some version) (log_of folder new) ≡ head_at (Some version) (log_of folder old)
unfolding head_at
heads_same folder version old new said = ap (λ (r : Result (List Commit) TableRefusal). go r head_of) said

stays_if : (folder : List ℕ) (version : ℕ) (old new : Files) → Kept (look_in old) (look_in new) folder (held folder version old) (held folder version new) → HeldStays folder version old new
stays_if folder version old new (same is) = HeldStays.same is
stays_if folder version old new (found logged path bytes was means none some) = HeldStays.found logged path was means none (λ e. cc)

pub held_stays : (folder : List ℕ) (version : ℕ) (files more : Files) → said_at folder version (files ++ more) ≡ said_at folder version files → HeldStays folder version files (files ++ more)
held_stays folder version files more said =
    let old = look_in files in
    let new = look_in (files ++ more) in
    let head : Result Head TableRefusal = head_at (Some version) (log_of folder files) in
    let by_heads : Kept old new folder (go head (stated old folder)) (go (head_at (Some version) (log_of folder (files ++ more))) (stated new folder)) =
    kept_then old new folder head (head_at (Some version) (log_of folder (files ++ more))) (stated old folder) (stated new folder) (same (heads_same folder version files (files ++ more) said)) (λ h is. stated_kept old new folder h (grown files more)) in
    let was : Kept old new folder (held folder version files) (go (head_at (Some version) (log_of folder (files ++ more))) (stated new folder)) =
    subst (λ (r : Result TableState TableRefusal). Kept old new folder r (go (head_at (Some version) (log_of folder (files ++ more))) (stated new folder))) (sym (held_is folder version files)) by_heads in
    stays_if folder version files (files ++ more) (subst (λ (r : Result TableState TableRefusal). Kept old new folder (held folder version files) r) (sym (held_is folder version (files ++ more))) was)

pub by_unseen : FrameUnseen → HeldByUnseen
by_unseen frame files more folder version unseen = held_stays folder version files more ((frame files more unseen).all folder version)

pub beside_next : FrameNext → HeldBesideNext
beside_next frame files more folder newest bytes unseen room was version other = held_stays folder version files _ ((frame files more folder newest bytes unseen room was).before version other)

pub elsewhere : FrameNext → HeldElsewhere
elsewhere frame files more folder newest bytes unseen room was table version other = held_stays table version files _ ((frame files more folder newest bytes unseen room was).elsewhere table version other)

pub beside_first : FrameFirst → HeldBesideFirst
beside_first frame files more folder bytes unseen table version other = held_stays table version files _ (frame files more folder bytes unseen table version other)
