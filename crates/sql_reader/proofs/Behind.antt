-- What stands behind GENERATED: a function, which is given the word's token.
use Rattle.std.proofs.Common.{◌≡◌, ℕ, Bool, true, false, List, Ok, Err, refl, ap, ◌∙◌}
use Rattle.token_lang.specs.Run.{Outcome, Reader, sees, made, run_one, run_either}
use Rattle.sql_tree.specs.Kinds.{is}
use Rattle.sql_tree.specs.declared.token.Kind.TheVariants as k
use Rattle.sql_tree.specs.declared.token.Token.{Token}
use Rattle.sql_statements.specs.declared.Made.{Made}
use Rattle.sql_grammar.specs.Create as spec

either_first : {A : Type 0} (first : Token → Bool) (f g : Reader Token A) (ts : List Token) → sees first ts ≡ true → run_either first f g ts ≡ f ts
either_first first f g ts h = rw h refl

either_second : {A : Type 0} (first : Token → Bool) (f g : Reader Token A) (ts : List Token) → sees first ts ≡ false → run_either first f g ts ≡ g ts
either_second first f g ts h = rw h refl

module _ (script : List ℕ) (generated : Token) where
  -- the outcome, where the function is given the token
  abbrev given : Outcome Token (Token → Made) → Outcome Token Made
  given o = made (λ f. f generated) o

  third : (a b d : Token) (o : Outcome Token (Token → Made)) → given (made spec.by_default (made (λ x. (a, x)) (made (λ x. (b, x)) (made (λ x. (d, x)) o)))) ≡ given o
  third a b d (Ok p) = refl
  third a b d (Err rest) = refl

  second : (a b : Token) (o : Outcome Token (Token → Made)) → given (made spec.always (made (λ x. (a, x)) (made (λ x. (b, x)) o))) ≡ given o
  second a b (Ok p) = refl
  second a b (Err rest) = refl

  first : (o : Outcome Token (Token → Made)) → made spec.made (made (λ x. (generated, x)) o) ≡ given o
  first (Ok p) = refl
  first (Err rest) = refl

  pub by_default_so : (ts us vs ws : List Token) (a b d : Token) → run_one (is k.By) ts ≡ Ok (a, us) → run_one (is k.Default) us ≡ Ok (b, vs) → run_one (is k.As) vs ≡ Ok (d, ws)
      → given (spec.run_by_default script ts) ≡ given (spec.run_identity script true ws)
  by_default_so ts us vs ws a b d h i j = rw (h, i, j) (third a b d (spec.run_identity script true ws))

  always_words : (ts us vs : List Token) (a b : Token) → run_one (is k.Always) ts ≡ Ok (a, us) → run_one (is k.As) us ≡ Ok (b, vs)
      → given (spec.run_always script ts) ≡ given (run_either (is k.Open) (spec.run_computed script) (spec.run_identity script false) vs)
  always_words ts us vs a b h i = rw (h, i) (second a b (run_either (is k.Open) (spec.run_computed script) (spec.run_identity script false) vs))

  pub always_computed : (ts us vs : List Token) (a b : Token) → run_one (is k.Always) ts ≡ Ok (a, us) → run_one (is k.As) us ≡ Ok (b, vs) → sees (is k.Open) vs ≡ true
      → given (spec.run_always script ts) ≡ given (spec.run_computed script vs)
  always_computed ts us vs a b h i j = always_words ts us vs a b h i ∙ ap given (either_first (is k.Open) (spec.run_computed script) (spec.run_identity script false) vs j)

  pub always_identity : (ts us vs : List Token) (a b : Token) → run_one (is k.Always) ts ≡ Ok (a, us) → run_one (is k.As) us ≡ Ok (b, vs) → sees (is k.Open) vs ≡ false
      → given (spec.run_always script ts) ≡ given (spec.run_identity script false vs)
  always_identity ts us vs a b h i j = always_words ts us vs a b h i ∙ ap given (either_second (is k.Open) (spec.run_computed script) (spec.run_identity script false) vs j)

  made_words : (ts us : List Token) → run_one (is k.Generated) ts ≡ Ok (generated, us)
      → spec.run_made script ts ≡ given (run_either (is k.Always) (spec.run_always script) (spec.run_by_default script) us)
  made_words ts us h = rw h (first (run_either (is k.Always) (spec.run_always script) (spec.run_by_default script) us))

  pub made_always : (ts us : List Token) → run_one (is k.Generated) ts ≡ Ok (generated, us) → sees (is k.Always) us ≡ true
      → spec.run_made script ts ≡ given (spec.run_always script us)
  made_always ts us h i = made_words ts us h ∙ ap given (either_first (is k.Always) (spec.run_always script) (spec.run_by_default script) us i)

  pub made_by_default : (ts us : List Token) → run_one (is k.Generated) ts ≡ Ok (generated, us) → sees (is k.Always) us ≡ false
      → spec.run_made script ts ≡ given (spec.run_by_default script us)
  made_by_default ts us h i = made_words ts us h ∙ ap given (either_second (is k.Always) (spec.run_always script) (spec.run_by_default script) us i)
