-- Beginnings and fronts: what begins a sentence is the front of one, and each front of one begins it.
use Rattle.std.proofs.Common.{◌≡◌, List, [], ◌∷◌, ◌++◌, length, refl, subst, ap, arith, length-append}
use Rattle.token_lang.specs.Lang.{Lang}
use Rattle.token_lang.specs.Exact.{IsLongest}
use Rattle.token_lang.specs.Meets.{Plain}
use Rattle.token_lang.proofs.End.{longest_one}

same_end : {T : Type 0} (r w : List T) → w ≡ r ++ w → r ≡ []
same_end [] w e = refl
same_end (t ∷ r) w e = let k = ap length e in let n = length-append (t ∷ r) w in absurd (omega arith)

module _ {T A : Type 0} {L : Lang T A} (x : Plain L) where
  pub front_begins : (front more : List T) (a : A) → L.reads (front ++ more) a [] → L.begins front []
  front_begins front more a r =
      let b = x.cuts.front (front ++ more) front a more [] refl r (omega arith) in
      let l = x.local.less_begins (front ++ more) front more more refl b (omega arith) in
      subst (λ u. L.begins front u) (same_end l.0 more l.1) l.2

  -- each front of a beginning is one, so the end of the longest is the first place where none goes on
  pub begins_earlier : (front more rest : List T) → L.begins (front ++ (more ++ rest)) rest → L.begins (front ++ (more ++ rest)) (more ++ rest)
  begins_earlier front more rest b = x.cuts.front_begins (front ++ (more ++ rest)) front (more ++ rest) rest refl b (omega (arith, length-append more rest))

  -- there is one such place
  pub one_longest : (ts rest rest' : List T) → IsLongest L ts rest → IsLongest L ts rest' → rest ≡ rest'
  one_longest ts rest rest' y z = longest_one x.local ts rest rest' y z
