use Rattle.std.proofs.Common.{refl, subst}
use Rattle.std.specs.Prelude.{All}
use Rattle.parquet_meta.specs.declared.numbers.TheConstants.{BOOLEAN, INT32, INT64, BYTE_ARRAY, FIXED_LEN_BYTE_ARRAY}
use Rattle.parquet_pages.specs.Storing.{CanStand, type_in, values_in}
use Rattle.plain_values.specs.Answers.{lent_values}
use Rattle.parquet_pages.proofs.Spelled.{on_ok_both, on_ok_with, flags_written, int32_written, int64_written, arrays_written, fixed_written, lent_fit, fixed_even}
use Rattle.parquet_pages.proofs.lists.write_values.Goals as goal

pub write_lent-requires : goal.write_lent-requires
write_lent-requires c =
    let size = c.requires.0 in
    let stand = subst (λ l. All (CanStand (type_in l) size) (values_in l)) c.in-Lent.is c.requires.1 in
    lent_fit size c.in-Lent.arrays stand

pub returns-in-Flags-clause-ok : goal.returns-in-Flags-clause-ok
returns-in-Flags-clause-ok c =
    rw c.in-Flags.is (on_ok_both c.write_list.result (λ joined again. λ size stand. flags_written BOOLEAN size c.in-Flags.flags c.args.out.now c.write_list.new.out refl (again 0 tt) joined) c.write_list.ensures.ok c.write_list.ensures.again)

pub returns-in-Whole32-clause-ok : goal.returns-in-Whole32-clause-ok
returns-in-Whole32-clause-ok c =
    let call = c.write_list-in-Whole32 in
    rw c.in-Whole32.is (on_ok_both call.result (λ joined again. λ size stand. int32_written INT32 size c.in-Whole32.numbers c.args.out.now call.new.out refl (again 0 (λ k d h. tt)) joined) call.ensures.ok call.ensures.again)

pub returns-in-Whole64-clause-ok : goal.returns-in-Whole64-clause-ok
returns-in-Whole64-clause-ok c =
    let call = c.write_list-in-Whole64 in
    rw c.in-Whole64.is (on_ok_both call.result (λ joined again. λ size stand. int64_written INT64 size c.in-Whole64.numbers c.args.out.now call.new.out refl (again 0 (λ k d h. tt)) joined) call.ensures.ok call.ensures.again)

pub returns-in-Fixed-clause-ok : goal.returns-in-Fixed-clause-ok
returns-in-Fixed-clause-ok c =
    let call = c.write_list-in-Fixed in
    let arrays = c.in-Fixed.arrays in
    rw c.in-Fixed.is (on_ok_both call.result (λ joined again. λ size stand. fixed_written FIXED_LEN_BYTE_ARRAY size arrays c.args.out.now call.new.out refl (again size (fixed_even FIXED_LEN_BYTE_ARRAY size arrays refl stand)) joined) call.ensures.ok call.ensures.again)

pub returns-in-Lent-clause-ok : goal.returns-in-Lent-clause-ok
returns-in-Lent-clause-ok c =
    let call = c.write_lent in
    rw c.in-Lent.is (on_ok_with call.result (λ joined. λ size stand. arrays_written BYTE_ARRAY size (lent_values c.in-Lent.arrays) c.args.out.now call.new.out refl call.ensures.again joined) call.ensures.ok)
