use Rattle.std.proofs.Common.{◌≡◌, ◌∙◌, None, sym}
use Rattle.parquet_pages.specs.Types.{signed_number}
use Rattle.parquet_pages.proofs.SignedNumbers.{decimal_far}
use Rattle.parquet_pages.proofs.meaning.raw_decimal.Goals as goal

pub returns-in_err-unscaled : goal.returns-in_err-unscaled
returns-in_err-unscaled c =
    let none : c.from_residual.result ≡ None = c.from_residual.ensures in
    none ∙ sym (decimal_far c.args.precision c.args.scale (signed_number c.args.bytes.now) c.requires c.in_err-unscaled.ensures)
