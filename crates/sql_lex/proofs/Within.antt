-- Each token has a byte, and none has more bytes than there are.
use Rattle.std.proofs.Common.{◌≡◌, ℕ, suc, ◌+◌, ◌<◌, ◌≤◌, Bool, true, false, List, [], ◌∷◌, length, drop, take, refl, arith, nat_lt, nat_eq, length-drop, Option, Some, None}
use Rattle.std.specs.Prelude.{◌&&◌, ◌||◌, ◌==◌, not, if◌then◌else◌, IfSome}
use Rattle.std.specs.List.{starts_with}
use Rattle.std.specs.Str.{is_utf8}
use Rattle.std.proofs.lemmas.Bool.Decides.{nat_tests}
use Rattle.std.proofs.lemmas.List.Sums.{prefix_len-le-length}
use Rattle.sql_tree.specs.declared.token.Kind.{Kind}
use Rattle.sql_tree.specs.declared.token.Kind.TheVariants as k
use Rattle.sql_lex.specs.declared.bytes.Class.{Class}
use Rattle.sql_lex.specs.declared.bytes.Class.TheVariants as class
use Rattle.sql_lex.specs.declared.bytes.Piece.{Piece}
use Rattle.sql_lex.specs.declared.lexer.Before.{Before}
use Rattle.sql_lex.specs.Bytes.{is_in, run, begins_with, begins_comment, begins_bytes}
use Rattle.sql_lex.specs.Numbers.{number_len, fraction_len, number}
use Rattle.sql_lex.specs.Quotes.{closing, closed, quoted, bytes, bytes_kind}
use Rattle.sql_lex.specs.Signs.{sign_in, signs, sign}
use Rattle.sql_lex.specs.Tables.{table_len, table}
use Rattle.sql_lex.specs.Tokens.{common, token, gap, comment_len, is_table_due}
use Rattle.sql_lex.specs.Words.{word}
use Rattle.sql_lex.proofs.Choices.{above_zero, both_true, choose}
use Rattle.sql_lex.proofs.SignLengths.{sign_lasts}

pub record IsFront (z : List ℕ) (p : Piece) : Type 0 where
  pub some : 1 ≤ p.len
  pub within : p.len ≤ length z

pub run_within : (c : Class) (z : List ℕ) → run c z ≤ length z
run_within c z = prefix_len-le-length (is_in c) z

-- a first byte of the class is one
pub run_some : (c : Class) (b : ℕ) (z : List ℕ) → is_in c b ≡ true → 1 ≤ run c (b ∷ z)
run_some c b z is = rw is (omega arith)

table_within : (z : List ℕ) → table_len z ≤ length z
table_within [] = omega arith
table_within (b ∷ z) =
    elim (not (is_in class.Table b) || begins_comment (b ∷ z)) as (λ v. (if v then 0 else suc (table_len z)) ≤ suc (length z)) [
      | true ↦ omega arith
      | false ↦ omega (arith, table_within z)
    ]

ends_between : (end : Option ℕ) (low high m n : ℕ) → low ≤ m → n ≤ high → IfSome end (λ len. (m ≤ len) × (len ≤ n)) → IfSome end (λ len. (low ≤ len) × (len ≤ high))
ends_between None low high m n le ge h = tt
ends_between (Some len) low high m n le ge h = (omega (arith, le, h.0), omega (arith, ge, h.1))

pub closing_within : (q : ℕ) (second : Bool) (at : ℕ) (z : List ℕ) → IfSome (closing q second at z) (λ len. (at + 1 ≤ len) × (len ≤ at + length z))
closing_within q second at [] = tt
closing_within q second at (b ∷ z) =
    choose (λ end. IfSome end (λ len. (at + 1 ≤ len) × (len ≤ at + suc (length z)))) (not second && (b == q && not (begins_with q z)))
    (Some (at + 1)) (closing q (not second && b == q) (at + 1) z)
    (λ _. (omega arith, omega arith))
    (λ _. ends_between (closing q (not second && b == q) (at + 1) z) (at + 1) (at + suc (length z)) (at + 1 + 1) (at + 1 + length z) (omega arith) (omega arith)
    (closing_within q (not second && b == q) (at + 1) z))

fraction_within : (z : List ℕ) → fraction_len z ≤ length z
fraction_within [] = omega arith
fraction_within (b ∷ z) =
    elim (b == 46 && nat_lt 0 (run class.Digit z)) as (λ v. (if v then run class.Digit z + 1 else 0) ≤ suc (length z)) [
      | true ↦ omega (arith, run_within class.Digit z)
      | false ↦ omega arith
    ]

pub number_within : (z : List ℕ) → number_len z ≤ length z
number_within z =
    omega (arith, run_within class.Digit z, fraction_within (drop (run class.Digit z) z), length-drop (run class.Digit z) z)

stands_within : (s z : List ℕ) → starts_with nat_eq z s ≡ true → length s ≤ length z
stands_within [] z h = omega arith
stands_within (a ∷ s) [] h = absurd (cc)
stands_within (a ∷ s) (b ∷ z) h = omega (arith, stands_within s z (both_true (nat_eq a b) (starts_with nat_eq z s) h).1)

in_within : (list : List (List ℕ × Kind)) (b : ℕ) (z : List ℕ) → (sign_in list (b ∷ z)).len ≤ suc (length z)
in_within [] b z = omega arith
in_within (entry ∷ more) b z =
    elim (starts_with nat_eq (b ∷ z) entry.0) as (λ v. starts_with nat_eq (b ∷ z) entry.0 ≡ v → (if v then record { kind = entry.1; len = length entry.0 } else sign_in more (b ∷ z)).len ≤ suc (length z)) [
      | true ↦ λ e. stands_within entry.0 (b ∷ z) e
      | false ↦ λ e. in_within more b z
    ] refl

sign_front : (b : ℕ) (z : List ℕ) → IsFront (b ∷ z) (sign (b ∷ z))
unfolding sign signs
sign_front b z = record { some = sign_lasts (b ∷ z); within = in_within signs b z }

quoted_front : (q b : ℕ) (z : List ℕ) → IsFront (b ∷ z) (quoted q (b ∷ z))
quoted_front q b z = elim (closing q false 0 z) as (λ v. IfSome v (λ len. (0 + 1 ≤ len) × (len ≤ 0 + length z)) → IsFront (b ∷ z) (closed q (b ∷ z) v)) [
  | None ↦ λ _. record { some = omega arith; within = omega arith }
  | Some len ↦ λ h. record { some = omega arith; within = omega (arith, h.1) }
] (closing_within q false 0 z)

pub leaves_room : (n m : ℕ) → (n + 2 == suc (suc m)) ≡ false → n ≤ m → n + 3 ≤ suc (suc m)
leaves_room n m differs le = grind (arith, nat_tests)

pub bytes_front : (z : List ℕ) → begins_bytes z ≡ true → IsFront z (bytes z)
bytes_front [] is = absurd (cc)
bytes_front (b ∷ []) is = absurd (let h : false ≡ true = (both_true (b == 88 || b == 120) false is).1 in cc)
bytes_front (b ∷ c ∷ z) is =
    choose (IsFront (b ∷ c ∷ z)) (run class.Inner z + 2 == suc (suc (length z)))
    (record { kind = k.Bad; len = suc (suc (length z)) })
    (record { kind = bytes_kind (take (run class.Inner z + 3) (b ∷ c ∷ z)); len = run class.Inner z + 3 })
    (λ _. record { some = omega arith; within = omega arith })
    (λ e. record { some = omega arith; within = leaves_room (run class.Inner z) (length z) e (run_within class.Inner z) })

pub letter_goes_on : (b : ℕ) → is_in class.Letter b ≡ true → is_in class.Word b ≡ true
letter_goes_on b is = grind (arith, nat_tests)

word_front : (b : ℕ) (z : List ℕ) → is_in class.Letter b ≡ true → IsFront (b ∷ z) (word (b ∷ z))
word_front b z is = record { some = run_some class.Word b z (letter_goes_on b is); within = run_within class.Word (b ∷ z) }

number_front : (b : ℕ) (z : List ℕ) → is_in class.Digit b ≡ true → IsFront (b ∷ z) (number (b ∷ z))
number_front b z is = record { some = omega (arith, run_some class.Digit b z is); within = number_within (b ∷ z) }

common_front : (b : ℕ) (z : List ℕ) → IsFront (b ∷ z) (common (b ∷ z))
common_front b z =
    let P : Piece → Type 0 = IsFront (b ∷ z) in
    choose P (begins_bytes (b ∷ z)) (bytes (b ∷ z)) _ (λ e. bytes_front (b ∷ z) e) (λ _.
    choose P (is_in class.Letter b) (word (b ∷ z)) _ (λ e. word_front b z e) (λ _.
    choose P (is_in class.Digit b) (number (b ∷ z)) _ (λ e. number_front b z e) (λ _.
    choose P (b == 39 || b == 96) (quoted b (b ∷ z)) (sign (b ∷ z)) (λ _. quoted_front b b z) (λ _. sign_front b z))))

dash_in_line : (b : ℕ) → (b == 45) ≡ true → is_in class.Line b ≡ true
dash_in_line b is = grind (arith, nat_tests)

pub token_front : (state : Before) (z : List ℕ) → 0 < length z → IsFront z (token state z)
unfolding token
token_front state [] some = absurd (omega arith)
token_front state (b ∷ z) some =
    let P : Piece → Type 0 = IsFront (b ∷ z) in
    choose P (begins_comment (b ∷ z)) (record { kind = k.Bad; len = run class.Line (b ∷ z) }) _
    (λ e. record { some = run_some class.Line b z (dash_in_line b (both_true (b == 45) (begins_with 45 z) e).0); within = run_within class.Line (b ∷ z) })
    (λ _. choose P (is_table_due state && nat_lt 0 (table_len (b ∷ z))) (table (b ∷ z)) (common (b ∷ z))
    (λ e. record { some = above_zero (table_len (b ∷ z)) (both_true (is_table_due state) (nat_lt 0 (table_len (b ∷ z))) e).1; within = table_within (b ∷ z) })
    (λ _. common_front b z))

comment_within : (z : List ℕ) → comment_len z ≤ length z
comment_within z = choose (λ n. n ≤ length z) (is_utf8 (take (run class.Line z) z)) (run class.Line z) 0 (λ _. run_within class.Line z) (λ _. omega arith)

pub gap_within : (z : List ℕ) → gap z ≤ length z
unfolding gap
gap_within [] = omega arith
gap_within (b ∷ z) =
    let P : ℕ → Type 0 = λ n. n ≤ length (b ∷ z) in
    choose P (is_in class.Blank b) (run class.Blank (b ∷ z)) _ (λ _. run_within class.Blank (b ∷ z))
    (λ _. choose P (begins_comment (b ∷ z)) (comment_len (b ∷ z)) 0 (λ _. comment_within (b ∷ z)) (λ _. omega arith))
