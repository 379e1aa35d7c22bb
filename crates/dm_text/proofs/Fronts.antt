-- A front that stays while a list grows behind it.
use Rattle.std.proofs.Common.{◌≡◌, ℕ, List, ◌++◌, length, take, drop, sym, ap, subst, ◌∙◌}
use Rattle.std.proofs.Math.Seq.{take-append_seam, take-length}
use Rattle.std.proofs.lemmas.List.{append_assoc, take-append-drop}
use Rattle.dm_text.specs.Fronts.{KeepsFront}

pub front_same : (a : List ℕ) → KeepsFront a a
front_same a = take-length a

pub front_more : (a x : List ℕ) → KeepsFront a (a ++ x)
front_more a x = take-append_seam a x

-- what keeps a longer front keeps the shorter one
pub front_on : (a x c : List ℕ) → KeepsFront (a ++ x) c → KeepsFront a c
front_on a x c keeps =
    let behind = drop (length (a ++ x)) c in
    let whole : (a ++ x) ++ behind ≡ c = ap (λ (f : List ℕ). f ++ behind) (sym keeps) ∙ take-append-drop (length (a ++ x)) c in
    subst (λ (l : List ℕ). take (length a) l ≡ a) (sym (append_assoc a x behind) ∙ whole) (take-append_seam a (x ++ behind))

-- .. and so one after the other
pub front_then : (a m c : List ℕ) → KeepsFront a m → KeepsFront m c → KeepsFront a c
front_then a m c first second =
    let behind = drop (length a) m in
    let whole : a ++ behind ≡ m = ap (λ (f : List ℕ). f ++ behind) (sym first) ∙ take-append-drop (length a) m in
    front_on a behind c (subst (λ (l : List ℕ). KeepsFront l c) (sym whole) second)

pub front_grown : (a x m c : List ℕ) → m ≡ a ++ x → KeepsFront m c → KeepsFront a c
front_grown a x m c is keeps = front_on a x c (subst (λ (l : List ℕ). KeepsFront l c) is keeps)
