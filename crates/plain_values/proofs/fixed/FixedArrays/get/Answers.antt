use Rattle.std.proofs.Common.{◌≡◌, ◌+◌, ◌-◌, ◌*◌, ◌∙◌, List, ℕ, Some, drop, take, sym, ap, arith}
use Rattle.std.specs.Prelude.{slice_get}
use Rattle.plain_values.proofs.Cut.{array_got, none_got}
use Rattle.plain_values.proofs.fixed.FixedArrays.get.Goals as goal

pub returns-then-at-self : goal.returns-then-at-self
returns-then-at-self c =
    sym (none_got c.self.inside.size c.self.inside.count c.args.at c.self.inside.bytes.now (omega arith)) ∙ ap (λ (arrays : List (List ℕ)). slice_get arrays c.args.at) c.self.view_is

pub returns : goal.returns
returns c =
    let one : (c.args.at + 1) * c.self.inside.size - c.args.at * c.self.inside.size ≡ c.self.inside.size = omega arith in
    ap (λ n. Some (take n (drop (c.args.at * c.self.inside.size) c.self.inside.bytes.now))) one
    ∙ sym (array_got c.self.inside.size c.self.inside.count c.args.at c.self.inside.bytes.now (omega arith)) ∙ ap (λ (arrays : List (List ℕ)). slice_get arrays c.args.at) c.self.view_is
