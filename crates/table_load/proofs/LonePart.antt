-- The rows of one file, with no earlier one.
use Rattle.std.proofs.Common.{◌≡◌, ℕ, Bool, false, List, [], Option, Some, None, Result, Ok, Err, sym, ap, ◌∙◌, subst}
use Rattle.data_file.specs.Partitions.{Given}
use Rattle.data_file.specs.Rows.{seen}
use Rattle.data_file.specs.Wanted.{WantedColumns}
use Rattle.data_file.specs.declared.rows.PartRows.{PartRows}
use Rattle.data_file.specs.declared.room.Room.{Room}
use Rattle.dm_store.specs.Files.{Files, WhereTold}
use Rattle.dm_types.specs.declared.refusal.Refused.TheVariants as refused
use Rattle.dm_types.specs.declared.refusal.Stop.{Stop}
use Rattle.dm_types.specs.declared.refusal.Stop.TheVariants as stop
use Rattle.table_load.specs.Files.{Earlier, part_in}
use Rattle.table_load.specs.StepsLoading.{is_held}
use Rattle.table_load.specs.Tells.{TellsAs}
use Rattle.table_load.proofs.Following.{look_in}

abbrev none_earlier : Earlier
none_earlier = λ _. false

abbrev Found : Type 0
Found = List ℕ × PartRows

same_part : (all : Files) (folder : List ℕ) (c d : WantedColumns) (keys : List (List ℕ)) (logged : List ℕ) (values : Given) (vector : Bool) (room : Room) → c ≡ d → keys ≡ []
    → part_in (look_in all) folder c (is_held keys) logged values vector room ≡ part_in (look_in all) folder d none_earlier logged values vector room
same_part all folder c d keys logged values vector room same none =
    ap (λ (w : WantedColumns). part_in (look_in all) folder w (is_held keys) logged values vector room) same
    ∙ ap (λ (ks : List (List ℕ)). part_in (look_in all) folder d (is_held ks) logged values vector room) none

pub alone_refused : (files : Option Files) (folder : List ℕ) (c d : WantedColumns) (keys : List (List ℕ)) (logged : List ℕ) (values : Given) (vector : Bool) (room : Room) (why : Stop) (answer : Result PartRows Stop) → c ≡ d → keys ≡ []
    → TellsAs {X = Found} (λ found. seen found.1) files (λ all. part_in (look_in all) folder c (is_held keys) logged values vector room) (Err why) → answer ≡ Err why
    → TellsAs {X = PartRows} seen files (λ all. part_in (look_in all) folder d none_earlier logged values vector room) answer
alone_refused files folder c d keys logged values vector room why answer same none tells is =
    subst (λ (r : Result PartRows Stop). TellsAs {X = PartRows} seen files (λ all. part_in (look_in all) folder d none_earlier logged values vector room) r) (sym is) (by files why tells)
  where
    by : (files : Option Files) (why : Stop) → TellsAs {X = Found} (λ found. seen found.1) files (λ all. part_in (look_in all) folder c (is_held keys) logged values vector room) (Err why)
        → TellsAs {X = PartRows} seen files (λ all. part_in (look_in all) folder d none_earlier logged values vector room) (Err why)
    by None (stop.Refused (refused.Table r)) t = tt
    by (Some all) (stop.Refused (refused.Table r)) t = sym (same_part all folder c d keys logged values vector room same none) ∙ t
    by files (stop.Refused (refused.Statement r)) t = t
    by files (stop.Refused (refused.Put r)) t = t
    by files stop.Store t = tt
    by files stop.Names t = t
    by files stop.Memory t = tt

pub alone : (files : Option Files) (folder : List ℕ) (c d : WantedColumns) (keys : List (List ℕ)) (logged : List ℕ) (values : Given) (vector : Bool) (room : Room) (part : PartRows) → c ≡ d → keys ≡ []
    → WhereTold files (λ all. part_in (look_in all) folder c (is_held keys) logged values vector room ≡ Ok (seen part)) → WhereTold files (λ all. part_in (look_in all) folder d none_earlier logged values vector room ≡ Ok (seen part))
alone None folder c d keys logged values vector room part same none found = tt
alone (Some all) folder c d keys logged values vector room part same none found = sym (same_part all folder c d keys logged values vector room same none) ∙ found
