use Rattle.std.proofs.Common.{◌≡◌, ◌<◌, ◌^◌, length, ap, ◌∙◌, sym, subst, arith, Some}
use Rattle.parquet_meta.specs.Meaning.{footer_in}
use Rattle.parquet_meta.specs.Writable.{IsWritableFooter}
use Rattle.parquet_meta.specs.declared.metadata.Footer.{Footer}
use Rattle.parquet_file.specs.Chunks.{file_bytes, footer_bytes}
use Rattle.parquet_file.proofs.FilesBack.{footer-writable}
use Rattle.parquet_file.proofs.FilesWritten.{sized, file_written, file_back}
use Rattle.parquet_file.proofs.ChunksWritten.{total_size-is, stays_long}
use Rattle.parquet_file.proofs.writing.write_file.Goals as goal

pub overflow_sub-bytes : goal.overflow_sub-bytes
overflow_sub-bytes c =
    let start : length c.in_ok-out.out ≡ 4 = ap length c.in_ok-out.ensures in
    let end = ap length c.as_slice.ensures in
    let long = stays_long _ _ _ _ c.in_ok-chunks.ensures in
    omega arith

pub footer_for-requires-clause-bytes : goal.footer_for-requires-clause-bytes
footer_for-requires-clause-bytes c =
    let start : length c.in_ok-out.out ≡ 4 = ap length c.in_ok-out.ensures in
    let end = ap length c.as_slice.ensures in
    let size = total_size-is _ _ _ _ c.in_ok-chunks.ensures in
    sized _ size.0 _ size.1 (omega arith) (omega arith)

pub end_file-requires : goal.end_file-requires
end_file-requires c =
    subst IsWritableFooter (sym c.in_ok-footer.ensures) (footer-writable c.args.columns.now c.in_ok-out.out c.write_chunks.new.out c.in_ok-chunks.chunks c.requires c.in_ok-chunks.ensures)

pub returns-clause-written : goal.returns-clause-written
returns-clause-written c =
    file_written c.args.columns.now c.in_ok-out.out c.write_chunks.new.out c.in_ok-chunks.chunks _ c.in_ok-out.ensures c.in_ok-chunks.ensures
    (c.in_ok-end_file.ensures.written ∙ ap (file_bytes c.write_chunks.new.out) c.in_ok-footer.ensures)

pub returns-clause-again : goal.returns-clause-again
returns-clause-again c =
    file_back c.args.columns.now c.in_ok-out.out c.write_chunks.new.out c.in_ok-chunks.chunks _ c.requires c.in_ok-out.ensures c.in_ok-chunks.ensures
    (c.in_ok-end_file.ensures.written ∙ ap (file_bytes c.write_chunks.new.out) c.in_ok-footer.ensures)
    (subst (λ (footer : Footer). length (footer_bytes footer) < 2 ^ 32) c.in_ok-footer.ensures c.in_ok-end_file.ensures.few)
    (subst (λ (footer : Footer). footer_in (footer_bytes footer) ≡ Some footer) c.in_ok-footer.ensures c.in_ok-end_file.ensures.again)
