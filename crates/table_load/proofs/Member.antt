-- A member of a list has what all have.
use Rattle.std.proofs.Common.{◌≡◌, ℕ, List, sym, true, ◌==◌}
use Rattle.std.specs.List.{All}
use Rattle.std.proofs.lemmas.Bool.{eqb-true}
use Rattle.std.proofs.lemmas.List.Elements.{All-contains}
use Rattle.std.proofs.lemmas.Map.Views.{Contains-from_any}
use Rattle.log_replay.specs.Numbers.{is_in}

pub member_has : (P : ℕ → Type 0) (k : ℕ) (ns : List ℕ) → All P ns → is_in k ns ≡ true → P k
member_has P k ns all there = All-contains P ns k all (Contains-from_any {eq = λ (q m : ℕ). m == q} (λ x y e. sym (eqb-true y x e)) k ns there)
