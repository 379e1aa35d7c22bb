-- A look-up in an object whose members were put in.
use Rattle.std.proofs.Common.{◌≡◌, ℕ, List, [], ◌∷◌, Bool, true, false, Option, Some, None, option_and_then, bytes_eq, true≢false, refl, sym, ap, ◌∙◌, subst}
use Rattle.std.proofs.lemmas.Slice.Eq.{bytes_eq-Decides}
use Rattle.serde_json.specs.Data.{Data, Members, no_members, put}
use Rattle.serde_json.specs.Find.{get, get_member}
use Rattle.serde_json.proofs.Views.{get_member-put, get_member-put_other}
use Rattle.delta_actions.specs.Forms.{needed, unless_null}
use Rattle.delta_actions.specs.Written.{Fields, members_onto, object_of, put_some}

abbrev pub pick : Bool → Option Data → Option Data → Option Data
pick false o base = base
pick true None base = base
pick true (Some d) base = Some d

-- what stands at a name once these are put in, where this stood there before
abbrev pub found : List ℕ → Fields → Option Data → Option Data
found q [] base = base
found q (f ∷ fs) base = found q fs (pick (bytes_eq q f.0) f.1 base)

pick-None : (b : Bool) (base : Option Data) → base ≡ pick b None base
pick-None true base = refl
pick-None false base = refl

get-put : (q k : List ℕ) (d : Data) (ms : Members) (b : Bool) → bytes_eq q k ≡ b → get_member q (put k d ms) ≡ pick b (Some d) (get_member q ms)
get-put q k d ms true is =
    let same : q ≡ k = (bytes_eq-Decides q k).0 is in
    subst (λ (x : List ℕ). get_member x (put k d ms) ≡ Some d) (sym same) (get_member-put k d ms)
get-put q k d ms false is = get_member-put_other q k d ms (λ same. true≢false (sym ((bytes_eq-Decides q k).1 same) ∙ is))

get-put_some : (q k : List ℕ) (o : Option Data) (ms : Members) → get_member q (put_some k o ms) ≡ pick (bytes_eq q k) o (get_member q ms)
get-put_some q k None ms = pick-None (bytes_eq q k) (get_member q ms)
get-put_some q k (Some d) ms = get-put q k d ms _ refl

pub get-onto : (q : List ℕ) (fs : Fields) (ms : Members) → get_member q (members_onto ms fs) ≡ found q fs (get_member q ms)
get-onto q [] ms = refl
get-onto q (f ∷ fs) ms = get-onto q fs (put_some f.0 f.1 ms) ∙ ap (found q fs) (get-put_some q f.0 f.1 ms)

pub get-object : (q : List ℕ) (fs : Fields) → get q (object_of fs) ≡ found q fs None
get-object q fs = get-onto q fs no_members

pub needed-object : {A : Type 0} (form : Data → Option A) (q : List ℕ) (fs : Fields) → needed form q (object_of fs) ≡ option_and_then form (option_and_then unless_null (found q fs None))
needed-object form q fs = ap (λ o. option_and_then form (option_and_then unless_null o)) (get-object q fs)
