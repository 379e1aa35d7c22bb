-- Quoted texts are read as they are spelled.
use Rattle.sql_lex.proofs.Choices.{both_true, choose, equal_self, is_equal}
use Rattle.std.proofs.Common.{◌≡◌, ◌∙◌, ℕ, suc, ◌+◌, ◌-◌, ◌<◌, ◌≤◌, true, false, List, [], ◌∷◌, ◌++◌, length, take, refl, ap, sym, subst, arith, Option, Some, None, length-append, nat_lt}
use Rattle.std.specs.Prelude.{◌&&◌, ◌==◌, not, if◌then◌else◌, IsUtf8}
use Rattle.std.proofs.Common.{inl, inr}
use Rattle.std.specs.Prelude.{◌≢◌}
use Rattle.std.specs.Str.{IsAscii, is_utf8}
use Rattle.std.proofs.Math.Seq.{take-append_seam, take-length}
use Rattle.std.proofs.lemmas.Bool.Decides.{nat_tests}
use Rattle.std.proofs.lemmas.Str.{IsUtf8-from_is_utf8, is_utf8-from_IsUtf8, IsUtf8-from_ascii}
use Rattle.sql_lex.specs.declared.bytes.Class.TheVariants as class
use Rattle.sql_lex.specs.Bytes.{is_in, run, are_in}
use Rattle.sql_lex.specs.Content.{SpellsName, SpellsText, doubled, halved, in_quotes, is_quoted, is_word, ends_at, if_text, name_of, text_of}
use Rattle.sql_lex.specs.Quotes.{closing, inside}
use Rattle.sql_lex.proofs.Meaning.{no_backquote, run_ascii}
use Rattle.sql_lex.proofs.Quoting.{quotes_again}

-- all but the last byte
abbrev pub init : List ℕ → List ℕ
init [] = []
init (b ∷ []) = []
init (b ∷ c ∷ z) = b ∷ init (c ∷ z)

init_take : (z : List ℕ) → take (length z - 1) z ≡ init z
init_take [] = refl
init_take (b ∷ []) = refl
init_take (b ∷ c ∷ z) =
    let e : suc (suc (length z)) - 1 ≡ suc (suc (length z) - 1) = omega arith in
    ap (λ n. take n (b ∷ c ∷ z)) e ∙ ap (λ y. b ∷ y) (init_take (c ∷ z))

-- z is a content with its quotes doubled, and a quote behind it
abbrev IsSpelled : ℕ → List ℕ → Type 0
IsSpelled q z = z ≡ doubled q (halved q false (init z)) ++ q ∷ []

nowhere : (q at m : ℕ) → closing q false at [] ≡ Some m → ⊥
nowhere q at m h = cc h

too_soon : (m n : ℕ) → Some (m + 1) ≡ Some (m + suc (suc n)) → ⊥
too_soon m n h = let e : m + 1 ≡ m + suc (suc n) = cc in omega (arith, e)

last_spelled : (q at b : ℕ) → closing q false at (b ∷ []) ≡ Some (at + 1) → IsSpelled q (b ∷ [])
last_spelled q at b h = elim (b == q) as (λ v. (b == q) ≡ v → (if v && not false then Some (at + 1) else closing q v (at + 1) []) ≡ Some (at + 1) → b ∷ [] ≡ q ∷ []) [
  | true ↦ λ e _. ap (λ c. c ∷ []) (is_equal b q e)
  | false ↦ λ e g. absurd (nowhere q (at + 1) (at + 1) g)
] refl h

-- a byte that is no quote
plain_spelled : (q b c : ℕ) (z : List ℕ) → (b == q) ≡ false → IsSpelled q (c ∷ z) → IsSpelled q (b ∷ c ∷ z)
plain_spelled q b c z e rest = rw e (ap (λ y. b ∷ y) rest)

-- two quotes
pair_spelled : (q b c d : ℕ) (z : List ℕ) → (b == q) ≡ true → (c == q) ≡ true → IsSpelled q (d ∷ z) → IsSpelled q (b ∷ c ∷ d ∷ z)
pair_spelled q b c d z e f rest =
    rw (e, f) (ap (λ x. x ∷ c ∷ d ∷ z) (is_equal b q e) ∙ ap (λ x. q ∷ x ∷ d ∷ z) (is_equal c q f) ∙ ap (λ y. q ∷ q ∷ y) rest)

spelled : (q at : ℕ) (z : List ℕ) → closing q false at z ≡ Some (at + length z) → IsSpelled q z
spelled q at [] h = absurd (nowhere q at (at + 0) h)
spelled q at (b ∷ []) h = last_spelled q at b h
spelled q at (b ∷ c ∷ []) h = elim (b == q) as (λ v. (b == q) ≡ v → (if v && not (c == q) then Some (at + 1) else closing q v (at + 1) (c ∷ [])) ≡ Some (at + 2) → IsSpelled q (b ∷ c ∷ [])) [
  | true ↦ λ e g. elim (c == q) as (λ w. (if not w then Some (at + 1) else closing q false (at + 1 + 1) []) ≡ Some (at + 2) → IsSpelled q (b ∷ c ∷ [])) [
    | true ↦ λ g. absurd (nowhere q (at + 1 + 1) (at + 2) g)
    | false ↦ λ g. absurd (too_soon at 0 g)
  ] g
  | false ↦ λ e g. let k : Some (at + 2) ≡ Some (at + 1 + 1) = ap Some (omega arith) in plain_spelled q b c [] e (spelled q (at + 1) (c ∷ []) (g ∙ k))
] refl h
spelled q at (b ∷ c ∷ d ∷ z) h =
    let n = length z in
    elim (b == q) as (λ v. (b == q) ≡ v → (if v && not (c == q) then Some (at + 1) else closing q v (at + 1) (c ∷ d ∷ z)) ≡ Some (at + suc (suc (suc n))) → IsSpelled q (b ∷ c ∷ d ∷ z)) [
      | true ↦ λ e g. elim (c == q) as (λ w. (c == q) ≡ w → (if not w then Some (at + 1) else closing q false (at + 1 + 1) (d ∷ z)) ≡ Some (at + suc (suc (suc n))) → IsSpelled q (b ∷ c ∷ d ∷ z)) [
        | true ↦ λ f g. let k : Some (at + suc (suc (suc n))) ≡ Some (at + 1 + 1 + suc n) = ap Some (omega arith) in
            pair_spelled q b c d z e f (spelled q (at + 1 + 1) (d ∷ z) (g ∙ k))
        | false ↦ λ f g. absurd (too_soon at (suc n) g)
      ] refl g
      | false ↦ λ e g. let k : Some (at + suc (suc (suc n))) ≡ Some (at + 1 + suc (suc n)) = ap Some (omega arith) in
          plain_spelled q b c (d ∷ z) e (spelled q (at + 1) (c ∷ d ∷ z) (g ∙ k))
    ] refl h

-- what is doubled in quotes ends at its last byte
closing_again : (q at : ℕ) (c : List ℕ) → closing q false at (doubled q c ++ q ∷ []) ≡ Some (at + length (doubled q c ++ q ∷ []))
closing_again q at [] = rw (equal_self q) refl
closing_again q at (b ∷ c) = elim (b == q) as (λ v. (b == q) ≡ v
    → closing q false at ((if v then q ∷ q ∷ doubled q c else b ∷ doubled q c) ++ q ∷ []) ≡ Some (at + length ((if v then q ∷ q ∷ doubled q c else b ∷ doubled q c) ++ q ∷ []))) [
      | true ↦ λ e. rw (equal_self q) (closing_again q (at + 1 + 1) c ∙ ap Some (omega arith))
      | false ↦ λ e. rw e (closing_again q (at + 1) c ∙ ap Some (omega arith))
    ] refl

inside_again : (q : ℕ) (d : List ℕ) → inside (q ∷ d ++ q ∷ []) ≡ d
inside_again q d =
    let size = length-append d (q ∷ []) in
    let e : length (q ∷ d ++ q ∷ []) - 2 ≡ length d = omega (arith, size) in
    rw e (take-append_seam d (q ∷ []))

quoted_again : (q : ℕ) (c : List ℕ) → is_quoted q (in_quotes q c) ≡ true
quoted_again q c = rw (equal_self q, closing_again q 0 c) (let e : 0 + length (doubled q c ++ q ∷ []) ≡ length (doubled q c ++ q ∷ []) = omega arith in rw e (equal_self (length (doubled q c ++ q ∷ []))))

content_again : (q : ℕ) (c : List ℕ) → halved q false (inside (in_quotes q c)) ≡ c
content_again q c = rw (inside_again q (doubled q c)) (quotes_again q c)

at_end : (n : ℕ) (v : Option ℕ) → ends_at n v ≡ true → v ≡ Some n
at_end n None h = absurd (cc)
at_end n (Some len) h = ap Some (is_equal len n h)

quoted_spelled : (q : ℕ) (z : List ℕ) → is_quoted q z ≡ true → z ≡ in_quotes q (halved q false (inside z))
quoted_spelled q [] h = absurd (cc)
quoted_spelled q (b ∷ z) h =
    let both = both_true (b == q) (ends_at (length z) (closing q false 0 z)) h in
    let zero : Some (length z) ≡ Some (0 + length z) = ap Some (omega arith) in
    let rest = spelled q 0 z (at_end (length z) (closing q false 0 z) both.1 ∙ zero) in
    let size : suc (length z) - 2 ≡ length z - 1 = omega arith in
    let inner : inside (b ∷ z) ≡ init z = ap (λ n. take n z) size ∙ init_take z in
    rw inner (ap (λ c. c ∷ z) (is_equal b q both.0) ∙ ap (λ y. q ∷ y) rest)

some_text : (w c : List ℕ) → if_text w ≡ Some c → (w ≡ c) × IsUtf8 w
some_text w c h = elim (is_utf8 w) as (λ v. is_utf8 w ≡ v → (if v then Some w else None) ≡ Some c → (w ≡ c) × IsUtf8 w) [
  | true ↦ λ e g. (cc g, IsUtf8-from_is_utf8 w e)
  | false ↦ λ e g. absurd (cc g)
] refl h

text_again : (c : List ℕ) → IsUtf8 c → if_text c ≡ Some c
text_again c text = let e : is_utf8 c ≡ true = is_utf8-from_IsUtf8 c text in rw e refl

from_quotes : (q : ℕ) (z c : List ℕ) → is_quoted q z ≡ true → if_text (halved q false (inside z)) ≡ Some c → (z ≡ in_quotes q c) × IsUtf8 c
from_quotes q z c quoted h =
    let it = some_text (halved q false (inside z)) c h in
    (quoted_spelled q z quoted ∙ ap (in_quotes q) it.0, subst IsUtf8 it.0 it.1)

pub texts_spelled : (z text : List ℕ) → text_of z ≡ Some text → SpellsText z text
texts_spelled z text h = elim (is_quoted 39 z) as (λ v. is_quoted 39 z ≡ v → (if v then if_text (halved 39 false (inside z)) else None) ≡ Some text → SpellsText z text) [
  | true ↦ λ e g. from_quotes 39 z text e g
  | false ↦ λ e g. absurd (cc g)
] refl h

pub texts_again : (z text : List ℕ) → SpellsText z text → text_of z ≡ Some text
texts_again z text h =
    rw h.0 (rw (quoted_again 39 text, content_again 39 text) (text_again text h.1))

-- ---- names

word_unquoted : (z : List ℕ) → is_word z ≡ true → is_quoted 96 z ≡ false
word_unquoted [] h = refl
word_unquoted (b ∷ z) h = elim (is_in class.Word b) as (λ v. is_in class.Word b ≡ v → ((if v then 1 + run class.Word z else 0) == suc (length z)) ≡ true → is_quoted 96 (b ∷ z) ≡ false) [
  | true ↦ λ e _. rw (no_backquote b e) refl
  | false ↦ λ e g. absurd (let f : 0 ≡ suc (length z) = is_equal 0 (suc (length z)) g in omega (arith, f))
] refl (both_true (nat_lt 0 (suc (length z))) (run class.Word (b ∷ z) == suc (length z)) h).1

word_text : (z : List ℕ) → is_word z ≡ true → IsUtf8 z
word_text z h =
    let all = is_equal (run class.Word z) (length z) (both_true (nat_lt 0 (length z)) (are_in class.Word z) h).1 in
    IsUtf8-from_ascii z (subst IsAscii (ap (λ n. take n z) all ∙ take-length z) (run_ascii z))

not_empty : (name : List ℕ) → (name ≢ []) → 0 < length name
not_empty [] h = absurd (h refl)
not_empty (b ∷ name) h = omega arith

empty_inside : (q : ℕ) (z : List ℕ) → z ≡ in_quotes q [] → nat_lt 2 (length z) ≡ false
empty_inside q z e = rw e refl

longer : (q : ℕ) (name : List ℕ) → length name ≤ length (doubled q name)
longer q [] = omega arith
longer q (b ∷ name) = choose (λ (d : List ℕ). suc (length name) ≤ length d) (b == q) (q ∷ q ∷ doubled q name) (b ∷ doubled q name)
    (λ _. omega (arith, longer q name)) (λ _. omega (arith, longer q name))

above_two : (n : ℕ) → 3 ≤ n → nat_lt 2 n ≡ true
above_two n h = grind (arith, nat_tests)

pub names_spelled : (z name : List ℕ) → name_of z ≡ Some name → SpellsName z name
names_spelled z name h = elim (is_quoted 96 z) as (λ v. is_quoted 96 z ≡ v
    → (if v then (if nat_lt 2 (length z) then if_text (halved 96 false (inside z)) else None) else (if is_word z then if_text z else None)) ≡ Some name → SpellsName z name) [
      | true ↦ λ e g. elim (nat_lt 2 (length z)) as (λ v. nat_lt 2 (length z) ≡ v → (if v then if_text (halved 96 false (inside z)) else None) ≡ Some name → SpellsName z name) [
        | true ↦ λ f g.
            let it = from_quotes 96 z name e g in
            inr (it.0, (λ n. let small = empty_inside 96 z (it.0 ∙ ap (in_quotes 96) n) in let no_one : true ≡ false = sym f ∙ small in cc), it.1)
        | false ↦ λ f g. absurd (cc g)
      ] refl g
      | false ↦ λ e g. elim (is_word z) as (λ v. is_word z ≡ v → (if v then if_text z else None) ≡ Some name → SpellsName z name) [
        | true ↦ λ f g. inl (f, (some_text z name g).0)
        | false ↦ λ f g. absurd (cc g)
      ] refl g
    ] refl h

pub names_again : (z name : List ℕ) → SpellsName z name → name_of z ≡ Some name
names_again z name (inl h) = rw (word_unquoted z h.0, h.0) (text_again z (word_text z h.0) ∙ ap Some h.1)
names_again z name (inr h) =
    let size = length-append (doubled 96 name) (96 ∷ []) in
    let some = not_empty name h.1 in
    let room : 3 ≤ length (in_quotes 96 name) = omega (arith, size, some, longer 96 name) in
    rw h.0 (rw (quoted_again 96 name, above_two (length (in_quotes 96 name)) room, content_again 96 name) (text_again name h.2))
