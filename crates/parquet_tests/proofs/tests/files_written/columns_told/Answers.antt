use Rattle.std.proofs.Common.{◌∙◌, ◌+◌, ap, subst}
use Rattle.std.specs.Prelude.{IfSome}
use Rattle.parquet_file.specs.Writing.{IsWritableFileColumn}
use Rattle.parquet_tests.proofs.FilesGrow.{one_more}
use Rattle.parquet_tests.proofs.tests.files_written.columns_told.Goals as goal

pub loop-told-preserved : goal.loop-told-preserved
loop-told-preserved c =
    let here : IsWritableFileColumn 2 c.in-Some.column = subst (λ found. IfSome found (IsWritableFileColumn 2)) c.in-Some.is c.in_ok-column.ensures in
    let more = one_more c.loop-told.columns c.push.new.self c.in-Some.column c.loop-told.invariant.each here c.in_ok-push.ensures.ok in
    record { each = more.0; counted = more.1 ∙ ap (λ n. n + 1) c.loop-told.invariant.counted }
