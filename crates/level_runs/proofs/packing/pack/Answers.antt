use Rattle.std.proofs.Common.{ℕ, ◌≡◌, ◌*◌, map, subst, arith}
use Rattle.std.specs.Prelude.{slice_index}
use Rattle.std.specs.List.{flat_map, range_with_len}
use Rattle.std.proofs.lemmas.Option.{gets}
use Rattle.level_runs.specs.Steps.{PacksBits}
use Rattle.level_runs.specs.Bits.{bits}
use Rattle.level_runs.proofs.Filling.{packs_start, packs_next, all_packed}
use Rattle.level_runs.proofs.packing.pack.Goals as goal

pub loop-place-init : goal.loop-place-init
loop-place-init c = packs_start c.args.out.now

pub loop-place-preserved : goal.loop-place-preserved
loop-place-preserved c =
    let number : c.unwrap_or-number.result ≡ slice_index c.args.numbers.now c.loop-place.place = grind (arith, gets) in
    packs_next c.args.width c.loop-place.place c.unwrap_or-number.result c.args.numbers.now _ _ _ _ _ c.loop-place.invariant c.in_ok-put.ensures number

pub returns : goal.returns
returns c =
    let end : c.loop-place.place ≡ 8 * c.args.groups = omega arith in
    all_packed c.args.width c.args.groups c.loop-place.held.have c.loop-place.held.pending c.args.numbers.now _ _ c.loop-place.held.few c.requires.fits
    (subst (λ (n : ℕ). PacksBits c.args.out.now c.loop-place.out (flat_map (bits c.args.width) (map (slice_index c.args.numbers.now) (range_with_len 0 n))) (bits c.loop-place.held.have c.loop-place.held.pending)) end c.loop-place.invariant)
