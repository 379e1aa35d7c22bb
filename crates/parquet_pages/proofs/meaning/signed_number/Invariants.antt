use Rattle.std.proofs.Common.{◌≡◌, drop}
use Rattle.parquet_pages.specs.Types.{signed_number}
use Rattle.parquet_pages.proofs.SignedNumbers.{after}
use Rattle.parquet_pages.proofs.meaning.signed_number.Given as goal

abbrev pub invariant-loop-byte : goal.invariant-loop-byte
invariant-loop-byte l = signed_number l.fn.bytes ≡ after l.number (drop l.byte-index l.rest)
