use Rattle.std.proofs.Common.{◌≡◌, rules, true, false, refl, List, ℕ, inl, inr}
use Rattle.std.specs.Prelude.{IsUtf8}
use Rattle.std.specs.Str.{is_utf8}
use Rattle.std.proofs.lemmas.Bool.{cases_Bool}
use Rattle.std.proofs.lemmas.Str.{IsUtf8-from_is_utf8, is_utf8-from_IsUtf8}
use Rattle.parquet_pages.proofs.entries.take_text.Goals as goal

not_utf8 : (bytes : List ℕ) → (IsUtf8 bytes → ⊥) → is_utf8 bytes ≡ false
not_utf8 bytes never = elim (cases_Bool (is_utf8 bytes)) as (λ _. is_utf8 bytes ≡ false) [ inl is ↦ absurd (never (IsUtf8-from_is_utf8 bytes is)) | inr isnt ↦ isnt ]

pub returns-in_ok-keep_text-in-Ok : goal.returns-in_ok-keep_text-in-Ok
returns-in_ok-keep_text-in-Ok c =
    let e : is_utf8 c.args.bytes.now ≡ true = is_utf8-from_IsUtf8 c.args.bytes.now (search rules) in
    rw e (search rules)

pub returns-in-Err : goal.returns-in-Err
returns-in-Err c =
    let e : is_utf8 c.args.bytes.now ≡ false = not_utf8 c.args.bytes.now (search rules) in
    rw e refl
