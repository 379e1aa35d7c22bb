-- What went into the column that is read.
use Rattle.std.specs.Prelude.{List, [], ◌∷◌, Option, Result, Ok}
use Rattle.dm_types.specs.Then.{go}
use Rattle.dm_types.specs.declared.value.Value.{Value}
use Rattle.parquet_pages.specs.Answers.{Gives}
use Rattle.parquet_pages.specs.Kept.{with_more}
use Rattle.parquet_pages.specs.Pages.{Answer, State, or_else}
use Rattle.parquet_pages.specs.declared.fault.FileFault.{FileFault}
use Rattle.parquet_pages.specs.declared.fault.FileFault.TheVariants as fault
use Rattle.parquet_pages.specs.declared.kept.Reading.{Reading}

-- the values went into the column, or it is the first fault
abbrev pub GoesInto : {U : Type 0} → Answer (List Value) → Reading → Reading → Result U FileFault → Type 0
GoesInto known old new result = Gives (λ done. new) (go known (λ values. Ok (with_more values old))) result

-- one value went into the column, or it is Range where there is none
abbrev pub OneGoesInto : {U : Type 0} → Option Value → Reading → Reading → Result U FileFault → Type 0
OneGoesInto known old new result = GoesInto (go (or_else fault.Range known) (λ v. Ok (v ∷ []))) old new result

-- the values of a page went into the column, with the state behind it; or it is the first fault
abbrev pub PageGoesInto : {U : Type 0} → Answer (List Value × State) → Reading → Reading → State → Result U FileFault
    → Type 0
PageGoesInto known old new state result =
    Gives {A = Reading × State} (λ done. (new, state)) (go known (λ page. Ok (with_more page.0 old, page.1))) result
