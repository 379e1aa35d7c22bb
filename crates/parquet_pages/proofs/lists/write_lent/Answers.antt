use Rattle.std.proofs.Common.{[], ◌++◌, length, refl, sym, ap, ◌∙◌}
use Rattle.std.specs.List.{flat_map}
use Rattle.std.proofs.lemmas.List.{append-nil}
use Rattle.plain_values.specs.Answers.{lent_values}
use Rattle.plain_values.specs.Forms.{array_at, array_bytes}
use Rattle.plain_values.specs.Meaning.{values_at, whole}
use Rattle.parquet_pages.proofs.Spelled.{on_ok_with, lent_all, lent_flat}
use Rattle.parquet_pages.proofs.lists.write_lent.Goals as goal

pub returns-clause-ok : goal.returns-clause-ok
returns-clause-ok c = on_ok_with c.write_arrays.result (λ joined. joined ∙ ap (λ bs. c.args.out.now ++ bs) (lent_flat c.args.arrays.now)) c.write_arrays.ensures.ok

pub returns-clause-again : goal.returns-clause-again
returns-clause-again c =
    let values = lent_values c.args.arrays.now in
    let spelled = flat_map array_bytes values in
    ap (λ bs. whole (values_at array_at (length values) bs)) (sym (append-nil spelled)) ∙ c.plain_again.ensures 0 values spelled [] (record { each = lent_all c.args.arrays.now c.requires; joined = refl })
