-- What a turn of a loop, and a bracket that is opened, come to.
use Rattle.std.proofs.Common.{◌≡◌, ◌∙◌, ◌<◌, ◌-◌, ◌++◌, sub-one, ap, sym, arith, ℕ, zero, suc, Bool, true, false, List, [], ◌∷◌, length, Ok, Err, refl, append-nil, append_assoc}
use Rattle.std.specs.Prelude.{fold, Option, Some}
use Rattle.token_lang.specs.Lang.{Lang, one, both}
use Rattle.token_lang.specs.Run.{Reader, Outcome, made, sees, run_one, run_both, run_many, run_rest}
use Rattle.token_lang.specs.Exact.{Fits}
use Rattle.token_lang.specs.Meets.{Leads}
use Rattle.token_lang.proofs.All.{one_leads, both_leads}
use Rattle.token_lang.proofs.Loops.{at_end, rest_goes_on, item_ok}
use Rattle.sql_tree.specs.declared.token.Kind.{Kind}
use Rattle.sql_tree.specs.declared.token.Token.{Token}
use Rattle.sql_tree.specs.declared.tree.Expr.{Expr}
use Rattle.sql_grammar.specs.Tree as tree
use Rattle.sql_grammar.specs.Grammar.{list}
use Rattle.sql_grammar.specs.Reading.{run_token, run_opening, run_type, run_type_inside, run_disjunction, run_inside, run_predicate, run_range, run_cat, run_test, first_predicate}
use Rattle.sql_tree.specs.Kinds.{is, any, compares}
use Rattle.sql_tree.specs.declared.token.Kind.TheVariants as k

-- ---- a bracket that is opened

pub opening_none : (depth : ℕ) (kind : Kind) (ts : List Token) → depth ≡ 0 → run_opening depth kind ts ≡ Err ts
unfolding run_opening
opening_none zero kind ts h = refl
opening_none (suc depth) kind ts h = absurd (omega arith)

pub opening_some : (depth : ℕ) (kind : Kind) (ts : List Token) → 0 < depth → run_opening depth kind ts ≡ run_token kind ts
unfolding run_opening
opening_some zero kind ts h = absurd (omega arith)
opening_some (suc depth) kind ts h = refl

pub type_inside_none : (script : List ℕ) (depth : ℕ) (ts : List Token) → depth ≡ 0 → run_type_inside script depth ts ≡ Err ts
unfolding run_type_inside
type_inside_none script zero ts h = refl
type_inside_none script (suc depth) ts h = absurd (omega arith)

pub type_inside_some : (script : List ℕ) (depth : ℕ) (ts : List Token) → 0 < depth → run_type_inside script depth ts ≡ run_type script (depth - 1) ts
unfolding run_type_inside
type_inside_some script zero ts h = absurd (omega arith)
type_inside_some script (suc depth) ts h = rw sub-one refl

pub inside_none : (script : List ℕ) (depth : ℕ) (ts : List Token) → depth ≡ 0 → run_inside script depth ts ≡ Err ts
unfolding run_inside
inside_none script zero ts h = refl
inside_none script (suc depth) ts h = absurd (omega arith)

pub inside_some : (script : List ℕ) (depth : ℕ) (ts : List Token) → 0 < depth → run_inside script depth ts ≡ run_disjunction script (depth - 1) (run_inside script (depth - 1)) ts
unfolding run_inside
inside_some script zero ts h = absurd (omega arith)
inside_some script (suc depth) ts h = rw sub-one refl

-- ---- turns of a chain of operators

module _ {D : Lang Token Expr} {f : Reader Token Expr} {first goes : Token → Bool} (operator : Token → Bool) (x : Leads D f first goes) where
  pub chain_goes_on : (so_far : Expr) (ts us vs : List Token) (t : Token) (e : Expr) → sees operator ts ≡ true → run_one operator ts ≡ Ok (t, us) → f us ≡ Ok (e, vs)
      → run_rest tree.joined operator (run_both (run_one operator) f) so_far ts ≡ run_rest tree.joined operator (run_both (run_one operator) f) (tree.joined so_far (t, e)) vs
  chain_goes_on so_far ts us vs t e h a b =
      let item = both_leads (one_leads operator) x (λ t _. refl) in rest_goes_on item.meets.exact item.solid tree.joined so_far ts (t, e) vs h (item_ok (run_one operator) f ts us vs t e a b)

  pub chain_smaller : (ts us vs : List Token) (t : Token) (e : Expr) → run_one operator ts ≡ Ok (t, us) → f us ≡ Ok (e, vs) → length vs < length ts
  chain_smaller ts us vs t e a b =
      let item = both_leads (one_leads operator) x (λ t _. refl) in
      let fits : Fits (both (one operator) D) ts (Ok ((t, e), vs)) = rw (item_ok (run_one operator) f ts us vs t e a b) at (item.meets.exact.fits ts) in
      (item.solid.some ts (t, e) vs fits).1

-- ---- signs before an operand

pub prefixed_last : (ts : List Token) (t : Token) (e : Expr) → tree.all_prefixed (ts ++ t ∷ [], e) ≡ tree.all_prefixed (ts, tree.prefixed t e)
prefixed_last [] t e = refl
prefixed_last (u ∷ ts) t e = ap (tree.prefixed u) (prefixed_last ts t e)

-- ---- lists of one item or more

fold_from : {B : Type 0} (so_far all : List B) → fold at_end so_far all ≡ so_far ++ all
fold_from so_far [] = sym (append-nil so_far)
fold_from so_far (b ∷ all) = fold_from (so_far ++ b ∷ []) all ∙ append_assoc so_far (b ∷ []) all

with_first : {B : Type 0} (b : B) (r : Outcome Token (List B)) → made list (made (λ all. (b, all)) r) ≡ made (λ all. fold at_end (b ∷ []) all) r
with_first b (Ok p) = rw (fold_from (b ∷ []) p.0) refl
with_first b (Err rest) = refl

-- the first item was read
pub list_begins : {B : Type 0} (f : Reader Token B) (first : Token → Bool) (g : Reader Token B) (ts us : List Token) (b : B) → f ts ≡ Ok (b, us)
    → made list (run_both f (λ vs. run_many first g (length vs) vs) ts) ≡ run_rest at_end first g (b ∷ []) us
list_begins f first g ts us b e = rw e (with_first b (run_many first g (length us) us))

-- ---- what is made of a part, in one step or two

pub ended : (script : List ℕ) (name : Token) (r : Outcome Token (Token → Expr)) → made (tree.named script) (made (λ b. (name, b)) (made Some r)) ≡ made (λ f. f name) r
ended script name (Ok p) = refl
ended script name (Err rest) = refl

pub tested_so : (x : Expr) (r : Outcome Token (Expr → Expr)) → made tree.tested (made (λ b. (x, b)) (made Some r)) ≡ made (λ f. f x) r
tested_so x (Ok p) = refl
tested_so x (Err rest) = refl

pub ranged : (not : Option Token) (x : Expr) (r : Outcome Token (Option Token → Expr → Expr)) → made (λ f. f x) (made tree.maybe_not (made (λ b. (not, b)) r)) ≡ made (λ f. f not x) r
ranged not x (Ok p) = refl
ranged not x (Err rest) = refl

-- what is neither a comparison nor IS
pub ranges : (script : List ℕ) (depth : ℕ) (f : Reader Token Expr) (x : Expr) (ts : List Token) → sees (any compares) ts ≡ false → sees (is k.Is) ts ≡ false
    → made (λ f. f x) (run_predicate script depth f ts) ≡ made (λ f. f x) (run_range script depth f ts)
ranges script depth f x ts a b = rw (a, b) refl

-- an operand that something is asked of
pub tests : (script : List ℕ) (depth : ℕ) (f : Reader Token Expr) (ts us : List Token) (x : Expr) → run_cat script depth f ts ≡ Ok (x, us) → sees first_predicate us ≡ true
    → run_test script depth f ts ≡ made (λ f. f x) (run_predicate script depth f us)
tests script depth f ts us x a b = rw (a, b) (tested_so x (run_predicate script depth f us))
