-- Tests of texts.
use Rattle.std.proofs.Common.{◌≡◌, ℕ, List, Bool, true, false, Option, Some, None, ap, refl}
use Rattle.std.specs.Prelude.{IsTrue, IsSome, IfSome, if◌then◌else◌, IsUtf8, ◌↔◌}
use Rattle.std.specs.Cmp.{both_ways}
use Rattle.std.specs.Str.{bytes_eq, is_utf8}
use Rattle.std.proofs.lemmas.Slice.Eq.{bytes_eq-Decides}
use Rattle.sql_lex.specs.Content.{if_text}
use Rattle.std.proofs.lemmas.Str.{IsUtf8-from_is_utf8, is_utf8-from_IsUtf8}

-- a test that tells whether two texts are the same
pub same_test : (test : Bool) (xs ys : List ℕ) → (IsTrue test ↔ (xs ≡ ys)) → test ≡ bytes_eq xs ys
same_test test xs ys is = both_ways test (bytes_eq xs ys) (λ yes. (bytes_eq-Decides xs ys).1 (is.0 yes)) (λ yes. is.1 ((bytes_eq-Decides xs ys).0 yes))

-- what is there exactly where bytes are text
pub text_if : (found : Option (List ℕ)) (bytes : List ℕ) → IfSome found (λ it. it ≡ bytes) → (IsSome found ↔ IsUtf8 bytes) → found ≡ if_text bytes
text_if (Some it) bytes is spelled = let e : is_utf8 bytes ≡ true = is_utf8-from_IsUtf8 bytes (spelled.0 refl) in rw e (ap Some is)
text_if None bytes is spelled = elim (is_utf8 bytes) as (λ v. is_utf8 bytes ≡ v → None ≡ (if v then Some bytes else None)) [
  | true ↦ λ e. absurd (let h = spelled.1 (IsUtf8-from_is_utf8 bytes e) in cc)
  | false ↦ λ e. refl
] refl
