use Rattle.std.proofs.Common.{◌+◌, ◌*◌, ◌/◌, length, ap, ◌∙◌, sym, arith}
use Rattle.std.specs.Prelude.{sum_by}
use Rattle.parquet_pages.proofs.Spelled.{flags_long, int32_long, int64_long, fixed_long, lent_long}
use Rattle.parquet_pages.proofs.lists.size_of.Goals as goal

pub returns-in-Flags : goal.returns-in-Flags
returns-in-Flags c = rw c.in-Flags.is (ap (λ n. (n + 7) / 8) c.len.ensures ∙ sym (flags_long c.in-Flags.flags))

pub returns-in-Whole32 : goal.returns-in-Whole32
returns-in-Whole32 c = rw c.in-Whole32.is (ap (λ n. 4 * n) c.len-in-Whole32.ensures ∙ sym (int32_long c.in-Whole32.numbers))

pub returns-in-Whole64 : goal.returns-in-Whole64
returns-in-Whole64 c = rw c.in-Whole64.is (ap (λ n. 8 * n) c.len-in-Whole64.ensures ∙ sym (int64_long c.in-Whole64.numbers))

pub returns-in-Fixed : goal.returns-in-Fixed
returns-in-Fixed c = rw c.in-Fixed.is (c.sum_of_fixed.ensures ∙ ap (sum_by (λ array. length array)) c.as_slice.ensures ∙ sym (fixed_long c.in-Fixed.arrays))

pub returns-in-Lent : goal.returns-in-Lent
returns-in-Lent c =
    let count = c.len-in-Lent.ensures in
    let sum = c.sum_of_lent.ensures ∙ ap (sum_by (λ array. length array.now)) c.as_slice-in-Lent.ensures in
    let long = lent_long c.in-Lent.arrays in
    rw c.in-Lent.is (omega (arith, count, sum, long))
