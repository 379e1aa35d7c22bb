-- Columns of a file that are added one by one.
use Rattle.std.proofs.Common.{◌≡◌, ◌+◌, List, [], ◌∷◌, ◌++◌, length, sym, ap, ◌∙◌, subst, length-append}
use Rattle.std.specs.Prelude.{All}
use Rattle.std.proofs.lemmas.List.Elements.{All-push}
use Rattle.parquet_file.specs.Writing.{IsWritableFileColumn}
use Rattle.parquet_file.specs.declared.columns.FileColumn.{FileColumn}

pub one_more : (columns new : List FileColumn) (c : FileColumn) → All (IsWritableFileColumn 2) columns → IsWritableFileColumn 2 c → new ≡ columns ++ c ∷ []
    → All (IsWritableFileColumn 2) new × (length new ≡ length columns + 1)
one_more columns new c all here e =
    (subst (All (IsWritableFileColumn 2)) (sym e) (All-push (IsWritableFileColumn 2) columns c all here), ap length e ∙ length-append columns (c ∷ []))
