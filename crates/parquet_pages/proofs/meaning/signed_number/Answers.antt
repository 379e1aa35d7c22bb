use Rattle.std.proofs.Common.{◌≡◌, ◌∙◌, ℤ, ap, sym, ◌∷◌, drop, ℕ, ◌+◌, ◌<◌, FitsSigned, to_z, of_z, arith, rules, suc, slice_index, None}
use Rattle.std.proofs.lemmas.Int.{to_z-of_z}
use Rattle.std.specs.Int.{w128}
use Rattle.parquet_pages.specs.Numbers.{first_number}
use Rattle.parquet_pages.specs.Types.{signed_number}
use Rattle.parquet_pages.proofs.SignedNumbers.{after, after-drop, after_all, far_whole, signed_number-is}
use Rattle.parquet_pages.proofs.meaning.signed_number.Goals as goal

pub returns : goal.returns
returns c = c.loop-byte.invariant ∙ after_all _ c.in-Some.rest.now c.loop-byte.byte-index c.loop-byte-test.false

pub returns-in_err-number : goal.returns-in_err-number
returns-in_err-number c =
    let none : c.from_residual.result ≡ None = c.from_residual.ensures in
    let split : c.args.bytes.now ≡ c.in-Some.first.now ∷ c.in-Some.rest.now = c.in-Some.ensures.cases.0 in
    let small : (k : ℕ) → slice_index c.in-Some.rest.now k < 256 = λ k. let fits = c.type_inv.bytes (suc k) in let here = rw split at fits in omega (arith, here) in
    rw none (far_whole _ _ c.in-Some.rest.now c.loop-byte.byte-index small c.loop-byte-test.true c.loop-byte.invariant c.in_err-number.ensures)

pub loop-byte-init : goal.loop-byte-init
loop-byte-init c =
    let split : c.args.bytes.now ≡ c.in-Some.first.now ∷ c.in-Some.rest.now = c.in-Some.ensures.cases.0 in
    let small : (k : ℕ) → slice_index (c.in-Some.first.now ∷ c.in-Some.rest.now) k < 256 = λ k. let fits = c.type_inv.bytes k in let here = rw split at fits in omega (arith, here) in
    let fits : FitsSigned w128 c.first_number-number.result = search rules in
    let number : to_z w128 (of_z w128 c.first_number-number.result) ≡ first_number c.in-Some.first.now = to_z-of_z w128 _ fits ∙ c.first_number-number.ensures in
    ap signed_number split ∙ (signed_number-is _ _ small ∙ ap (λ (z : ℤ). after z c.in-Some.rest.now) (sym number))

pub loop-byte-preserved : goal.loop-byte-preserved
loop-byte-preserved c =
    let fits : FitsSigned w128 c.in_ok-number.number = search rules in
    let rest = drop (c.loop-byte.byte-index + 1) c.in-Some.rest.now in
    let number = to_z-of_z w128 _ fits ∙ c.in_ok-number.ensures in
    c.loop-byte.invariant ∙ (after-drop _ c.in-Some.rest.now c.loop-byte.byte-index c.loop-byte-test.true ∙ ap (λ (z : ℤ). after z rest) (sym number))
