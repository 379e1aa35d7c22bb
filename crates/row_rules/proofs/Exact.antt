-- The expression that a text is.
use Rattle.std.proofs.Common.{◌≡◌, ℕ, List, [], ◌∷◌, Option, Some, None, Result, Ok, Err, refl, sym, subst, ap, ◌∙◌}
use Rattle.row_rules.specs.Texts.{expression_of, whole}
use Rattle.sql_grammar.specs.Grammar.{expression}
use Rattle.sql_grammar.specs.Reading.{run_expression}
use Rattle.sql_grammar.proofs.Readers.{expression_leads}
use Rattle.sql_lex.specs.Tokens.{tokens}
use Rattle.sql_reader.specs.Answers.{IsRead}
use Rattle.sql_reader.specs.declared.fault.ScriptFault.{ScriptFault}
use Rattle.sql_reader.specs.declared.fault.ScriptFault.TheVariants as fault
use Rattle.sql_tree.specs.declared.token.Token.{Token}
use Rattle.sql_tree.specs.declared.tree.Expr.{Expr}
use Rattle.token_lang.specs.Exact.{Fits}
use Rattle.token_lang.specs.Run.{Outcome}

whole_some : {A : Type 0} (o : Outcome Token A) (a : A) → whole o ≡ Some a → o ≡ Ok (a, [])
whole_some (Ok (b, [])) a e = cc
whole_some (Ok (b, token ∷ more)) a e = cc
whole_some (Err rest) a e = cc

pub read_so : (text : List ℕ) (x : Expr) → (expression text).reads (tokens text) x [] → expression_of text ≡ Some x
unfolding expression_of
read_so text x reads = ap whole ((expression_leads text).meets.exact.only (tokens text) x [] reads refl)

pub reads_so : (text : List ℕ) (x : Expr) → expression_of text ≡ Some x → (expression text).reads (tokens text) x []
unfolding expression_of
reads_so text x e =
    subst (λ (o : Outcome Token Expr). Fits (expression text) (tokens text) o) (whole_some (run_expression text (tokens text)) x e) ((expression_leads text).meets.exact.fits (tokens text))

-- what isn't read is no expression
pub unread : (text : List ℕ) (at : ℕ) (o : Option Expr) → expression_of text ≡ o → ((x : Expr) → (expression text).reads (tokens text) x [] → IsRead (Err (fault.BadScript at)) x) → o ≡ None
unread text at None e only = refl
unread text at (Some x) e only = absurd (only x (reads_so text x e))

pub no_expression : (text bytes : List ℕ) (why : ScriptFault) (at : ℕ) → why ≡ fault.BadScript at → bytes ≡ text → ((x : Expr) → (expression bytes).reads (tokens bytes) x [] → IsRead {A = Expr} (Err why) x) → None ≡ expression_of text
no_expression text bytes why at is same only =
    sym (unread text at (expression_of text) refl (λ x reads. subst (λ (f : ScriptFault). IsRead {A = Expr} (Err f) x) is (only x (subst (λ (b : List ℕ). (expression b).reads (tokens b) x []) (sym same) reads))))
