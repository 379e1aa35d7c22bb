-- Tokens stand in bytes one after the other.
use Rattle.sql_lex.proofs.Choices.{above_zero}
use Rattle.std.proofs.Common.{◌≡◌, ◌∙◌, ℕ, zero, suc, ◌+◌, ◌<◌, ◌≤◌, true, false, nat_lt, List, [], ◌∷◌, length, drop, length-drop, refl, arith, sym, ap, subst}
use Rattle.std.proofs.lemmas.Bool.Decides.{nat_tests}
use Rattle.std.proofs.lemmas.List.{drop-drop}
use Rattle.sql_tree.specs.declared.token.Token.{Token}
use Rattle.sql_lex.specs.declared.lexer.Before.{Before}
use Rattle.sql_lex.specs.declared.lexer.Before.TheVariants as before
use Rattle.sql_lex.specs.Stand.{AreParts, IsBlank, IsPart, StandFrom, StandIn}
use Rattle.sql_lex.specs.Stand.IsBlank.{nothing, more}
use Rattle.sql_lex.specs.Tokens.{gap, token, after, placed, scan, tokens}
use Rattle.sql_lex.proofs.Scan.{scan_gap, scan_token}
use Rattle.sql_lex.proofs.Within.{token_front, gap_within}

-- with white space in front
blank_first : (z : List ℕ) (at : ℕ) (state : Before) (ts : List Token) → 0 < gap (drop at z) → StandFrom z (at + gap (drop at z)) state ts → StandFrom z at state ts
blank_first z at state [] some rest = more at (length z) some rest
blank_first z at state (t ∷ ts) some rest = (omega (arith, rest.0), more at t.span.start some rest.1, rest.2, rest.3, rest.4, rest.5)

not_positive : (n : ℕ) → nat_lt 0 n ≡ false → n ≤ 0
not_positive n is = grind (arith, nat_tests)

empty : (z : List ℕ) → length z ≤ 0 → z ≡ []
empty [] h = refl
empty (b ∷ z) h = absurd (omega arith)

ended : (z : List ℕ) (at : ℕ) (state : Before) → at ≤ length z → length z ≤ at → StandFrom z at state (scan 0 at state (drop at z))
ended z at state inside past =
    let e : drop at z ≡ [] = empty (drop at z) (omega (arith, length-drop at z)) in
    let there : at ≡ length z = omega arith in
    rw e (subst (λ n. IsBlank z at n) there (nothing at))

module _ (z : List ℕ) (at : ℕ) (state : Before) (inside : at < length z) where
  with_gap : 0 < gap (drop at z) → StandFrom z (at + gap (drop at z)) state (scan 0 (at + gap (drop at z)) state (drop (at + gap (drop at z)) z))
      → StandFrom z at state (scan 0 at state (drop at z))
  with_gap some rest =
      let g = gap (drop at z) in
      let step = scan_gap at state (drop at z) some (gap_within (drop at z)) ∙ ap (scan 0 (at + g) state) (drop-drop g at z) in
      subst (StandFrom z at state) (sym step) (blank_first z at state (scan 0 (at + g) state (drop (at + g) z)) some rest)

  with_token : gap (drop at z) ≤ 0
      → StandFrom z (at + (token state (drop at z)).len) (after state (token state (drop at z)).kind)
      (scan 0 (at + (token state (drop at z)).len) (after state (token state (drop at z)).kind) (drop (at + (token state (drop at z)).len) z))
      → StandFrom z at state (scan 0 at state (drop at z))
  with_token none rest =
      let t = token state (drop at z) in
      let some : 0 < length (drop at z) = omega (arith, length-drop at z) in
      let front = token_front state (drop at z) some in
      let next = after state t.kind in
      let step = scan_token at state (drop at z) none some front.some front.within ∙ ap (λ (y : List ℕ). placed at t ∷ scan 0 (at + t.len) next y) (drop-drop t.len at z) in
      let part : IsPart (length z) (placed at t).span = record { some = omega (arith, front.some); within = omega (arith, front.within, length-drop at z) } in
      let here : at ≤ at = omega arith in
      subst (StandFrom z at state) (sym step) (here, nothing at, part, (let e : gap (drop at z) ≡ 0 = omega (arith, none) in e), refl, rest)

-- `left` is a bound on the bytes that are left
stand_from : (left : ℕ) (z : List ℕ) (at : ℕ) (state : Before) → at ≤ length z → length z ≤ at + left → StandFrom z at state (scan 0 at state (drop at z))
stand_from zero z at state inside room = ended z at state inside (omega arith)
stand_from (suc left) z at state inside room =
    elim (nat_lt 0 (length (drop at z))) as (λ v. nat_lt 0 (length (drop at z)) ≡ v → StandFrom z at state (scan 0 at state (drop at z))) [
      | false ↦ λ e. ended z at state inside (omega (arith, not_positive (length (drop at z)) e, length-drop at z))
      | true ↦ λ e.
          let before_end : at < length z = omega (arith, above_zero (length (drop at z)) e, length-drop at z) in
          elim (nat_lt 0 (gap (drop at z))) as (λ v. nat_lt 0 (gap (drop at z)) ≡ v → StandFrom z at state (scan 0 at state (drop at z))) [
            | true ↦ λ g.
                let some = above_zero (gap (drop at z)) g in
                with_gap z at state before_end some
                (stand_from left z (at + gap (drop at z)) state (omega (arith, gap_within (drop at z), length-drop at z)) (omega (arith, some)))
            | false ↦ λ g.
                let front = token_front state (drop at z) (above_zero (length (drop at z)) e) in
                with_token z at state before_end (not_positive (gap (drop at z)) g)
                (stand_from left z (at + (token state (drop at z)).len) (after state (token state (drop at z)).kind)
                (omega (arith, front.within, length-drop at z)) (omega (arith, front.some)))
          ] refl
    ] refl

pub tokens_stand : (z : List ℕ) → StandIn z (tokens z)
unfolding StandIn tokens
tokens_stand z = stand_from (length z) z 0 before.Start (omega arith) (omega arith)

ascend : (z : List ℕ) (at : ℕ) (state : Before) (ts : List Token) → StandFrom z at state ts → AreParts at (length z) ts
ascend z at state [] h = tt
ascend z at state (t ∷ ts) h = (h.0, h.2, ascend z t.span.«end» (after state t.kind) ts h.5)

pub spans_ascend : (z : List ℕ) → AreParts 0 (length z) (tokens z)
unfolding StandIn
spans_ascend z = ascend z 0 before.Start (tokens z) (tokens_stand z)

-- white space and comments hold no token
blank_scan : (z : List ℕ) (at to : ℕ) (state : Before) → IsBlank z at to → scan 0 at state (drop at z) ≡ scan 0 to state (drop to z)
blank_scan z at to state (nothing _) = refl
blank_scan z at to state (more _ _ some rest) =
    let g = gap (drop at z) in
    scan_gap at state (drop at z) some (gap_within (drop at z)) ∙ ap (scan 0 (at + g) state) (drop-drop g at z) ∙ blank_scan z (at + g) to state rest

past_end : (z : List ℕ) (state : Before) → scan 0 (length z) state (drop (length z) z) ≡ []
past_end z state = let e : drop (length z) z ≡ [] = empty (drop (length z) z) (omega (arith, length-drop (length z) z)) in rw e refl

token_scan : (z : List ℕ) (state : Before) (t : Token) → IsPart (length z) t.span → gap (drop t.span.start z) ≡ 0 → t ≡ placed t.span.start (token state (drop t.span.start z))
    → scan 0 t.span.start state (drop t.span.start z) ≡ t ∷ scan 0 t.span.«end» (after state t.kind) (drop t.span.«end» z)
token_scan z state t part none is =
    let at = t.span.start in
    let p = token state (drop at z) in
    let some : 0 < length (drop at z) = omega (arith, part.some, part.within, length-drop at z) in
    let front = token_front state (drop at z) some in
    let step = scan_token at state (drop at z) (omega (arith, none)) some front.some front.within
    ∙ ap (λ (y : List ℕ). placed at p ∷ scan 0 (at + p.len) (after state p.kind) y) (drop-drop p.len at z) in
    step ∙ ap (λ (u : Token). u ∷ scan 0 u.span.«end» (after state u.kind) (drop u.span.«end» z)) (sym is)

only : (z : List ℕ) (at : ℕ) (state : Before) (ts : List Token) → StandFrom z at state ts → ts ≡ scan 0 at state (drop at z)
only z at state [] h = sym (blank_scan z at (length z) state h ∙ past_end z state)
only z at state (t ∷ ts) h =
    sym (blank_scan z at t.span.start state h.1 ∙ token_scan z state t h.2 h.3 h.4 ∙ ap (λ us. t ∷ us) (sym (only z t.span.«end» (after state t.kind) ts h.5)))

pub tokens_alone : (z : List ℕ) (ts : List Token) → StandIn z ts → ts ≡ tokens z
unfolding StandIn tokens
tokens_alone z ts h = only z 0 before.Start ts h
