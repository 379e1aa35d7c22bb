use Rattle.std.proofs.Common.{◌≡◌, ◌∙◌, ℕ, List, Some, Bor, length, refl, sym, ap}
use Rattle.std.specs.Prelude.{map, option_map, slice_get}
use Rattle.std.proofs.lemmas.Option.{slice_get-map, slice_get_read}
use Rattle.plain_values.specs.Answers.{lent_values}
use Rattle.parquet_pages.specs.Physical.{raw}
use Rattle.parquet_pages.proofs.physical.PageValues.get.Goals as goal

lent_at : (arrays : List (Bor (List ℕ))) (at : ℕ) (array : Bor (List ℕ)) → slice_get arrays at ≡ Some array → slice_get (map raw (lent_values arrays)) at ≡ Some (raw array.now)
lent_at arrays at array is =
    slice_get-map raw (lent_values arrays) at ∙ ap (option_map raw) (slice_get-map (λ (value : Bor (List ℕ)). value.now) arrays at ∙ ap (option_map (λ (value : Bor (List ℕ)). value.now)) is)

pub returns-in_ok-array-in-Lent : goal.returns-in_ok-array-in-Lent
returns-in_ok-array-in-Lent c =
    let found : slice_get c.as_slice.result.now c.args.at ≡ Some c.in_ok-array-in-Lent.array.now =
    slice_get_read c.as_slice.result.now (length c.as_slice.result.now) c.args.at c.in_ok-array-in-Lent.array.now refl c.in_ok-array-in-Lent.ensures.lookup.3.0 c.in_ok-array-in-Lent.ensures.lookup.1 in
    rw c.in-Lent.is (sym (lent_at c.in-Lent.arrays c.args.at c.in_ok-array-in-Lent.array.now (rw c.as_slice.ensures at found)))
