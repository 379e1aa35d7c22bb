-- Members that are put into an object in turn.
use Rattle.std.proofs.Common.{◌≡◌, [], ◌∷◌, ◌++◌, refl}
use Rattle.serde_json.specs.Data.{Members}
use Rattle.delta_actions.specs.Written.{Fields, members_onto, put_some}

pub onto_both : (ms : Members) (fs gs : Fields) → members_onto ms (fs ++ gs) ≡ members_onto (members_onto ms fs) gs
onto_both ms [] gs = refl
onto_both ms (f ∷ fs) gs = onto_both (put_some f.0 f.1 ms) fs gs
