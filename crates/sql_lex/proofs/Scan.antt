-- The pieces of bytes, one by one.
use Rattle.std.proofs.Common.{◌≡◌, ℕ, zero, suc, ◌+◌, ◌-◌, ◌<◌, ◌≤◌, List, [], ◌∷◌, ◌++◌, length, drop, append_assoc, length-drop, ap, sym, ◌∙◌, arith}
use Rattle.std.proofs.lemmas.Bool.{lt-ltb, le-ltb}
use Rattle.std.proofs.lemmas.List.{drop-drop}
use Rattle.sql_tree.specs.declared.token.Token.{Token}
use Rattle.sql_lex.specs.declared.bytes.Piece.{Piece}
use Rattle.sql_lex.specs.declared.lexer.Before.{Before}
use Rattle.sql_lex.specs.Tokens.{token, after, gap, placed, scan}

scan-drop : (n at : ℕ) (state : Before) (z : List ℕ) → n ≤ length z → scan n at state z ≡ scan 0 (at + n) state (drop n z)
scan-drop zero at state z h = let e : at ≡ at + 0 = omega arith in ap (λ m. scan 0 m state z) e
scan-drop (suc n) at state [] h = absurd (omega arith)
scan-drop (suc n) at state (b ∷ z) h = let e : at + 1 + n ≡ at + suc n = omega arith in scan-drop n (at + 1) state z (omega arith) ∙ ap (λ m. scan 0 m state (drop n z)) e

-- from behind the first byte
behind : (n at : ℕ) (state : Before) (b : ℕ) (z : List ℕ) → 0 < n → n ≤ suc (length z) → scan (n - 1) (at + 1) state z ≡ scan 0 (at + n) state (drop n (b ∷ z))
behind zero at state b z h room = absurd (omega arith)
behind (suc n) at state b z h room =
    let e : at + 1 + n ≡ at + suc n = omega arith in
    let k : suc n - 1 ≡ n = omega arith in
    ap (λ m. scan m (at + 1) state z) k ∙ scan-drop n (at + 1) state z (omega arith) ∙ ap (λ m. scan 0 m state (drop n z)) e

pub scan_gap : (at : ℕ) (state : Before) (z : List ℕ) → 0 < gap z → gap z ≤ length z → scan 0 at state z ≡ scan 0 (at + gap z) state (drop (gap z) z)
scan_gap at state [] h room = absurd (omega arith)
scan_gap at state (b ∷ z) h room = rw (lt-ltb 0 (gap (b ∷ z)) h) (behind (gap (b ∷ z)) at state b z h room)

pub scan_token : (at : ℕ) (state : Before) (z : List ℕ) → gap z ≤ 0 → 0 < length z → 1 ≤ (token state z).len → (token state z).len ≤ length z
    → scan 0 at state z ≡ placed at (token state z) ∷ scan 0 (at + (token state z).len) (after state (token state z).kind) (drop (token state z).len z)
scan_token at state [] h some moves room = absurd (omega arith)
scan_token at state (b ∷ z) h some moves room =
    rw (le-ltb 0 (gap (b ∷ z)) h)
    (ap (λ ts. placed at (token state (b ∷ z)) ∷ ts)
    (behind (token state (b ∷ z)).len at (after state (token state (b ∷ z)).kind) b z (omega arith) room))

module _ (text : List ℕ) (all target : List Token) (at : ℕ) (state : Before) (so_far : target ≡ all ++ scan 0 at state (drop at text)) (inside : at < length text) where
  pub turn_gap : (g : ℕ) → g ≡ gap (drop at text) → 0 < g → g ≤ length (drop at text) → target ≡ all ++ scan 0 (at + g) state (drop (at + g) text)
  turn_gap g e some room =
      let z = drop at text in
      let step = scan_gap at state z (rw e at some) (rw e at room) in
      let there : scan 0 (at + gap z) state (drop (gap z) z) ≡ scan 0 (at + g) state (drop (at + g) text) =
      ap (λ n. scan 0 (at + n) state (drop n z)) (sym e) ∙ ap (scan 0 (at + g) state) (drop-drop g at text) in
      so_far ∙ ap (λ ts. all ++ ts) (step ∙ there)

  pub turn_token : (t : Piece) (new : List Token) (next : Before) → t ≡ token state (drop at text) → gap (drop at text) ≤ 0 → 1 ≤ t.len → t.len ≤ length (drop at text)
      → new ≡ all ++ placed at t ∷ [] → next ≡ after state t.kind → target ≡ new ++ scan 0 (at + t.len) next (drop (at + t.len) text)
  turn_token t new next e none some room e' e'' =
      let z = drop at text in
      let step = scan_token at state z none (omega (arith, length-drop at text)) (rw e at some) (rw e at room) in
      let there : scan 0 at state z ≡ placed at t ∷ scan 0 (at + t.len) (after state t.kind) (drop t.len z) =
      step ∙ ap (λ (u : Piece). placed at u ∷ scan 0 (at + u.len) (after state u.kind) (drop u.len z)) (sym e) in
      rw (e', e'') (so_far ∙ ap (λ ts. all ++ ts) (there ∙ ap (λ (y : List ℕ). placed at t ∷ scan 0 (at + t.len) (after state t.kind) y) (drop-drop t.len at text)) ∙ sym (append_assoc all _ _))
