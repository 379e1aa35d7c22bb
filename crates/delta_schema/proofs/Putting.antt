-- What holds of each member that is put into an object.
use Rattle.std.proofs.Common.{ℕ, List, [], ◌∷◌, ◌++◌, Option, Some, None}
use Rattle.std.specs.Prelude.{⊤, IfSome}
use Rattle.serde_json.specs.Data.{Data, Members, put}
use Rattle.delta_actions.specs.Written.{Fields, members_onto, put_some}

abbrev pub HaveFields : (Data → Type 0) → Fields → Type 0
HaveFields P [] = ⊤
HaveFields P (f ∷ fs) = IfSome f.1 P × HaveFields P fs

pub have_both : (P : Data → Type 0) (fs gs : Fields) → HaveFields P fs → HaveFields P gs → HaveFields P (fs ++ gs)
have_both P [] gs first second = second
have_both P (f ∷ fs) gs first second = (first.0, have_both P fs gs first.1 second)

module _ (P : Data → Type 0) (Q : Members → Type 0) (keep : (k : List ℕ) (d : Data) (ms : Members) → P d → Q ms → Q (put k d ms)) where
  some_keeps : (k : List ℕ) (o : Option Data) (ms : Members) → IfSome o P → Q ms → Q (put_some k o ms)
  some_keeps k None ms h q = q
  some_keeps k (Some d) ms h q = keep k d ms h q

  pub fields_keep : (fs : Fields) (ms : Members) → HaveFields P fs → Q ms → Q (members_onto ms fs)
  fields_keep [] ms h q = q
  fields_keep (f ∷ fs) ms h q = fields_keep fs (put_some f.0 f.1 ms) h.1 (some_keeps f.0 f.1 ms h.0 q)
