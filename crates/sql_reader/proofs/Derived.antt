-- What is read of the tokens of bytes.
use Rattle.std.proofs.Common.{◌≡◌, ℕ, List, [], Result, Ok, Err, subst}
use Rattle.std.specs.Prelude.{IfOk}
use Rattle.token_lang.specs.Lang.{Lang}
use Rattle.sql_tree.specs.declared.token.Token.{Token}
use Rattle.sql_reader.specs.declared.fault.ScriptFault.{ScriptFault}
use Rattle.sql_reader.specs.declared.fault.ScriptFault.TheVariants.{BadScript}
use Rattle.sql_reader.specs.Answers.{IsRead, IsPlace}

module _ {A : Type 0} (L : Lang Token A) (ts us : List Token) (same : ts ≡ us) (r : Result A ScriptFault) where
  pub found_so : IfOk r (λ a. L.reads ts a []) → IfOk r (λ a. L.reads us a [])
  found_so h = subst (λ (xs : List Token). IfOk r (λ a. L.reads xs a [])) same h

  pub only_so : ((a : A) → L.reads ts a [] → IsRead r a) → (a : A) → L.reads us a [] → IsRead r a
  only_so h = subst (λ (xs : List Token). (a : A) → L.reads xs a [] → IsRead r a) same h

  pub place_so : (size : ℕ) → ((at : ℕ) → r ≡ Err (BadScript at) → IsPlace L size ts at) → (at : ℕ) → r ≡ Err (BadScript at) → IsPlace L size us at
  place_so size h = subst (λ (xs : List Token). (at : ℕ) → r ≡ Err (BadScript at) → IsPlace L size xs at) same h

-- a property of all that is derived
pub held_so : {A : Type 0} (L : Lang Token A) (us : List Token) (Q : A → Type 0) (r : Result A ScriptFault) → ((a : A) → L.reads us a [] → Q a) → IfOk r (λ a. L.reads us a []) → IfOk r Q
held_so L us Q (Ok a) so h = so a h
held_so L us Q (Err e) so h = tt
