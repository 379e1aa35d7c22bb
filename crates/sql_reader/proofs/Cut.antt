-- What is read of the front of the tokens, and of all of them.
use Rattle.std.proofs.Common.{◌≡◌, ◌≤◌, ℕ, ◌-◌, List, [], subst, length, take, drop, min, Result, Ok, Err, refl, sym, ap, ◌∙◌, length-take}
use Rattle.std.proofs.lemmas.List.{take_min}
use Rattle.token_lang.specs.Run.{Outcome, before}
use Rattle.token_lang.specs.Lang.{Lang}
use Rattle.token_lang.specs.Exact.{Fits, Local}
use Rattle.token_lang.proofs.Place.{is_end, is_end_begins, end_of_front}
use Rattle.sql_tree.specs.declared.token.Token.{Token}
use Rattle.sql_tree.specs.declared.tree.Expr.{Expr}
use Rattle.sql_grammar.specs.Grammar.{expr}
use Rattle.sql_grammar.specs.Reading.{run_expr, run_expression}
use Rattle.sql_grammar.proofs.Readers.{expr_leads}
use Rattle.sql_reader.specs.declared.fault.Fault.{Fault}
use Rattle.sql_reader.specs.declared.fault.Fault.TheVariants.{Memory, Refused}
use Rattle.sql_reader.specs.declared.fault.ScriptFault.{ScriptFault}
use Rattle.sql_reader.specs.declared.fault.ScriptFault.TheVariants.{BadScript}
use Rattle.sql_reader.specs.Steps.{Yields}

-- the tokens that are left behind the front, of any reader
module _ {A : Type 0} (L : Lang Token A) (local : Local L) (shorter : (ts rest : List Token) → L.begins ts rest → length rest ≤ length ts) (n : ℕ) where
  rest_of : (ts : List Token) (o : Outcome Token A) (found : Result A Fault) (r : List Token) → Fits L (take n ts) o → Yields o found r
      → Yields (before (drop n ts) o) found (drop (length (take n ts) - length r) ts)
  rest_of ts o (Ok e) r h g =
      let d : L.reads (take n ts) e r = rw g at h in
      rw (g, end_of_front n ts r (local.shorter (take n ts) e r d) (is_end local (take n ts) e r d)) refl
  rest_of ts o (Err Refused) r h g =
      let d : L.begins (take n ts) r = rw g at h in
      let room = shorter (take n ts) r d in
      rw (g, end_of_front n ts r room (is_end_begins local (take n ts) r room d)) refl
  rest_of ts o (Err Memory) r h g = tt

front_gives : (script : List ℕ) (ts : List Token) (found : Result Expr Fault) (r : List Token) → Yields (run_expr script 64 (take 1000 ts)) found r
    → Yields (run_expression script ts) found (drop (length (take 1000 ts) - length r) ts)
front_gives script ts found r g =
    let x = (expr_leads script 64).meets in
    rest_of (expr script 64) x.local x.exact.shorter 1000 ts (run_expr script 64 (take 1000 ts)) found r (x.exact.fits (take 1000 ts)) g

-- the same, as the code comes to it
pub expression_gives : (script : List ℕ) (ts front r new : List Token) (found : Result Expr Fault) (limit used : ℕ) → limit ≡ min 1000 (length ts) → front ≡ take limit ts → Yields (run_expr script 64 front) found r
    → used ≡ limit - length r → new ≡ drop used ts → Yields (run_expression script ts) found new
expression_gives script ts front r new found limit used a b g d e =
    let same : front ≡ take 1000 ts = b ∙ ap (λ n. take n ts) a ∙ take_min 1000 ts in
    let size : limit ≡ length (take 1000 ts) = a ∙ sym (length-take 1000 ts) in
    let h = front_gives script ts found r (subst (λ us. Yields (run_expr script 64 us) found r) same g) in
    subst (λ us. Yields (run_expression script ts) found us) (sym (e ∙ ap (λ n. drop n ts) (d ∙ ap (λ n. n - length r) size))) h

-- ---- answers

pub same_value : {A : Type 0} {a b : A} {r : List Token} → ◌≡◌ {A = Outcome Token A} (Ok (a, r)) (Ok (b, [])) → a ≡ b
same_value {A} {a} {b} {r} e = let q : ◌≡◌ {A = A × List Token} (a, r) (b, []) = cc in ap (λ (p : A × List Token). p.0) q

pub same_place : {A : Type 0} {a b : ℕ} → ◌≡◌ {A = Result A ScriptFault} (Err (BadScript a)) (Err (BadScript b)) → b ≡ a
same_place e = cc
