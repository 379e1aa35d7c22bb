use Rattle.std.proofs.Common.{◌≡◌, ◌∙◌, ℕ, List, Bool, true, false, Result, Ok, Err, sym}
use Rattle.std.specs.Prelude.{IsUtf8, MatchResult, is_ok}
use Rattle.std.specs.Cmp.{both_ways}
use Rattle.std.specs.Str.{is_utf8}
use Rattle.std.proofs.lemmas.Str.{IsUtf8-from_is_utf8, is_utf8-from_IsUtf8}
use Rattle.dm_types.proofs.text.is_text.Goals as goal

-- a test that tells whether bytes are text
text_test : {T E : Type 0} (answer : Result T E) (P : T → Type 0) (Q : E → Type 0) (test : Bool) (bytes : List ℕ) → MatchResult answer (λ text. P text × IsUtf8 bytes) (λ fault. ¬ (IsUtf8 bytes) × Q fault) → test ≡ is_ok answer → test ≡ is_utf8 bytes
text_test (Ok text) P Q test bytes is tested = tested ∙ sym (is_utf8-from_IsUtf8 bytes is.1)
text_test (Err fault) P Q test bytes is tested =
    tested ∙ both_ways false (is_utf8 bytes) (λ wrong. absurd (let e : false ≡ true = wrong in cc)) (λ text. absurd (is.0 (IsUtf8-from_is_utf8 bytes text)))

pub returns : goal.returns
returns c = text_test c.from_utf8.result _ _ _ _ c.from_utf8.ensures.cases c.is_ok.ensures.value
