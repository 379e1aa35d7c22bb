-- What the tokens of bytes mean, each taken alone.
use Rattle.sql_lex.proofs.Choices.{both_true, choose, equal_self, is_equal}
use Rattle.std.proofs.Common.{◌≡◌, ◌∙◌, ℕ, zero, suc, ◌+◌, ◌-◌, ◌%◌, ◌^◌, ◌<◌, ◌≤◌, Bool, true, false, List, [], ◌∷◌, ◌++◌, length, take, drop, get_or, refl, ap, sym, subst, arith, nat_lt, Some, None}
use Rattle.std.specs.Prelude.{◌&&◌, ◌||◌, ◌==◌, not, nat_le, if◌then◌else◌, IsSome, IsUtf8}
use Rattle.std.specs.List.{AllPass, starts_with}
use Rattle.std.specs.Str.{IsAscii, is_utf8, str_eq_ignore_ascii_case}
use Rattle.std.proofs.Common.{nat_eq, codes}
use Rattle.std.proofs.lemmas.Bool.Decides.{nat_tests}
use Rattle.std.proofs.lemmas.List.Elements.{All-cons, All-nil}
use Rattle.std.proofs.lemmas.Str.{IsUtf8-from_is_utf8, is_utf8-from_IsUtf8, IsUtf8-between, IsUtf8-from_ascii, IsCharBoundary-before_ascii, IsCharBoundary-after_ascii}
use Rattle.std.proofs.lemmas.Str.Ascii.{IsAscii-cons, IsAscii-nil}
use Rattle.hex.specs.Hex.{is_hex_digit}
use Rattle.hex.proofs.HexLemmas.{decode_of-digits}
use Rattle.sql_tree.specs.Kinds.{names}
use Rattle.sql_tree.specs.declared.token.Kind.{Kind}
use Rattle.sql_tree.specs.declared.token.Kind.TheVariants as k
use Rattle.sql_lex.specs.declared.bytes.Class.TheVariants as class
use Rattle.sql_lex.specs.declared.bytes.Piece.{Piece}
use Rattle.sql_lex.specs.declared.lexer.Before.{Before}
use Rattle.sql_lex.specs.Bytes.{is_in, run, are_in, begins_comment, begins_bytes}
use Rattle.sql_lex.specs.Content.{AreMeant, Means, name_of, text_of, number_of, table_of, is_number, is_quoted, is_word, if_text, halved, decoded}
use Rattle.sql_lex.specs.Numbers.{number, number_len, number_kind, whole_kind, significant, unscaled}
use Rattle.sql_lex.specs.Quotes.{inside, closing, closed, quoted, quoted_kind, text_kind, name_kind, bytes, bytes_kind, hex_digits}
use Rattle.sql_lex.specs.Signs.{sign_in, signs, sign}
use Rattle.sql_lex.specs.Tables.{is_table_name, table_kind, table_len, table}
use Rattle.sql_lex.specs.Stand.{IsPart, StandFrom, StandIn}
use Rattle.sql_lex.specs.Tokens.{after, common, token, tokens, is_table_due, placed as placed_at}
use Rattle.sql_lex.specs.declared.lexer.Before.TheVariants as before
use Rattle.sql_tree.specs.declared.token.Token.{Token}
use Rattle.sql_lex.proofs.Standing.{tokens_stand}
use Rattle.std.proofs.Common.{length-drop}
use Rattle.sql_lex.specs.Words.{kind_in, reserved, placed, word_kind, word}
use Rattle.sql_lex.proofs.Fronts.{run_take, taken, number_take, Ends, ends, get_later}
use Rattle.sql_lex.proofs.Halves.{halved_text}
use Rattle.sql_lex.proofs.Named.{name_is_text}
use Rattle.sql_lex.proofs.Within.{letter_goes_on, number_within, run_some, run_within, leaves_room}

-- ---- kinds that mean a name at most

wordy : Kind → Bool
wordy k.Whole = false
wordy k.LargeWhole = false
wordy k.Decimal = false
wordy k.Text = false
wordy k.TableText = false
wordy k.Bytes = false
wordy k.Table = false
wordy k.TableChanges = false
wordy _ = true

by_name : (kind : Kind) (z : List ℕ) → wordy kind ≡ true → IsSome (name_of z) → Means kind z
unfolding wordy
by_name k.Whole z h named = absurd (cc)
by_name k.LargeWhole z h named = absurd (cc)
by_name k.Decimal z h named = absurd (cc)
by_name k.Text z h named = absurd (cc)
by_name k.TableText z h named = absurd (cc)
by_name k.Bytes z h named = absurd (cc)
by_name k.Table z h named = absurd (cc)
by_name k.TableChanges z h named = absurd (cc)
by_name _ z h named = λ _. named

clash : (v : Bool) → v ≡ false → v ≡ true → ⊥
clash v e f = let g : false ≡ true = sym e ∙ f in cc

by_none : (kind : Kind) (z : List ℕ) → wordy kind ≡ true → names kind ≡ false → Means kind z
unfolding wordy
by_none k.Whole z h none = absurd (cc)
by_none k.LargeWhole z h none = absurd (cc)
by_none k.Decimal z h none = absurd (cc)
by_none k.Text z h none = absurd (cc)
by_none k.TableText z h none = absurd (cc)
by_none k.Bytes z h none = absurd (cc)
by_none k.Table z h none = absurd (cc)
by_none k.TableChanges z h none = absurd (cc)
by_none kind z h none = λ named. absurd (clash (names kind) none named)

bad_means : (z : List ℕ) → Means k.Bad z
bad_means z = λ named. absurd (clash (names k.Bad) refl named)

-- ---- words

are_wordy : List (List ℕ × Kind) → Bool
are_wordy [] = true
are_wordy (entry ∷ more) = wordy entry.1 && are_wordy more

in_wordy : (list : List (List ℕ × Kind)) (w : List ℕ) → are_wordy list ≡ true → wordy (kind_in list w) ≡ true
unfolding are_wordy wordy
in_wordy [] w h = refl
in_wordy (entry ∷ more) w h =
    let both = both_true (wordy entry.1) (are_wordy more) h in
    choose (λ kind. wordy kind ≡ true) (str_eq_ignore_ascii_case w entry.0) entry.1 (kind_in more w) (λ _. both.0) (λ _. in_wordy more w both.1)

word_wordy : (w : List ℕ) → wordy (word_kind w) ≡ true
unfolding word_kind reserved placed are_wordy wordy
word_wordy w = in_wordy (reserved ++ placed) w refl

word_small : (b : ℕ) → is_in class.Word b ≡ true → b < 128
word_small b is = grind (arith, nat_tests)

pub run_ascii : (z : List ℕ) → IsAscii (take (run class.Word z) z)
run_ascii [] = IsAscii-nil
run_ascii (b ∷ z) = choose (λ n. IsAscii (take n (b ∷ z))) (is_in class.Word b) (1 + run class.Word z) 0
    (λ e. let s : suc (run class.Word z) ≡ 1 + run class.Word z = omega arith in
    subst (λ n. IsAscii (take n (b ∷ z))) s (IsAscii-cons b (take (run class.Word z) z) (word_small b e) (run_ascii z)))
    (λ _. IsAscii-nil)

pub if_some : (w : List ℕ) → IsUtf8 w → IsSome (if_text w)
if_some w text = let e : is_utf8 w ≡ true = is_utf8-from_IsUtf8 w text in rw e refl

pub no_backquote : (b : ℕ) → is_in class.Word b ≡ true → (b == 96) ≡ false
no_backquote b is = grind (arith, nat_tests)

first_taken : (n b : ℕ) (z : List ℕ) → 1 ≤ n → take n (b ∷ z) ≡ b ∷ take (n - 1) z
first_taken zero b z h = absurd (omega arith)
first_taken (suc n) b z h = let e : n ≡ suc n - 1 = omega arith in ap (λ m. b ∷ take m z) e

above : (n : ℕ) → 1 ≤ n → nat_lt 0 n ≡ true
above n h = grind (arith, nat_tests)

not_quoted : (b : ℕ) (z : List ℕ) → (b == 96) ≡ false → is_quoted 96 (b ∷ z) ≡ false
not_quoted b z e = rw e refl

word_named : (b : ℕ) (z : List ℕ) → is_in class.Letter b ≡ true → IsSome (name_of (take (run class.Word (b ∷ z)) (b ∷ z)))
word_named b z is =
    let n = run class.Word (b ∷ z) in
    let s = take n (b ∷ z) in
    let some : 1 ≤ n = run_some class.Word b z (letter_goes_on b is) in
    let len : length s ≡ n = taken n (b ∷ z) (run_within class.Word (b ∷ z)) in
    let all : run class.Word s ≡ n = run_take class.Word n (b ∷ z) (omega arith) in
    let unquoted : is_quoted 96 s ≡ false = rw (first_taken n b z some) (not_quoted b (take (n - 1) z) (no_backquote b (letter_goes_on b is))) in
    let is_one : is_word s ≡ true = rw (len, all, above n some, equal_self n) refl in
    rw unquoted (rw is_one (if_some s (IsUtf8-from_ascii s (run_ascii (b ∷ z)))))

word_means : (b : ℕ) (z : List ℕ) → is_in class.Letter b ≡ true → Means (word (b ∷ z)).kind (take (word (b ∷ z)).len (b ∷ z))
word_means b z is = by_name _ _ (word_wordy (take (run class.Word (b ∷ z)) (b ∷ z))) (word_named b z is)

-- ---- signs

are_plain : List (List ℕ × Kind) → Bool
are_plain [] = true
are_plain (entry ∷ more) = (wordy entry.1 && not (names entry.1)) && are_plain more

denied : (v : Bool) → not v ≡ true → v ≡ false
denied true h = absurd (cc)
denied false h = refl

plain_means : (kind : Kind) (z : List ℕ) → (wordy kind && not (names kind)) ≡ true → Means kind z
plain_means kind z h = let both = both_true (wordy kind) (not (names kind)) h in by_none kind z both.0 (denied (names kind) both.1)

in_means : (list : List (List ℕ × Kind)) (z y : List ℕ) → are_plain list ≡ true → Means (sign_in list z).kind y
unfolding are_plain
in_means [] z y h = bad_means y
in_means (entry ∷ more) z y h =
    let both = both_true (wordy entry.1 && not (names entry.1)) (are_plain more) h in
    choose (λ (p : Piece). Means p.kind y) (starts_with nat_eq z entry.0) (record { kind = entry.1; len = length entry.0 }) (sign_in more z)
    (λ _. plain_means entry.1 y both.0) (λ _. in_means more z y both.1)

sign_means : (z y : List ℕ) → Means (sign z).kind y
unfolding sign signs are_plain wordy
sign_means z y = in_means signs z y refl

-- ---- tables

table_named : (z : List ℕ) → is_table_name z ≡ true → IsSome (table_of z)
table_named z is = rw is (if_some z (name_is_text z is))

table_means : (z : List ℕ) → Means (table_kind z) z
table_means z =
    choose (λ kind. Means kind z) (not (is_table_name z)) k.Bad (if str_eq_ignore_ascii_case z (codes "table_changes") then k.TableChanges else k.Table)
    (λ _. bad_means z)
    (λ e. let found = table_named z (undenied (is_table_name z) e) in
    choose (λ kind. Means kind z) (str_eq_ignore_ascii_case z (codes "table_changes")) k.TableChanges k.Table (λ _. found) (λ _. found))
  where
    undenied : (v : Bool) → not v ≡ false → v ≡ true
    undenied true h = refl
    undenied false h = absurd (cc)

-- ---- numbers

at_most : (n : ℕ) → nat_lt 38 n ≡ false → nat_le n 38 ≡ true
at_most n h = grind (arith, nat_tests)

below : (n : ℕ) → nat_lt n (2 ^ 63) ≡ true → n < 2 ^ 63
below n h = grind (arith, nat_tests)

some_number : (z : List ℕ) → is_number z ≡ true → IsSome (number_of z)
some_number z e = rw e refl

kind_means : (z : List ℕ) → (nat_le (significant z) 38 ≡ true → is_number z ≡ true) → Means (number_kind z) z
kind_means z is =
    choose (λ kind. Means kind z) (nat_lt 38 (significant z)) k.Bad (if are_in class.Digit z then whole_kind (unscaled z) else k.Decimal)
    (λ _. bad_means z)
    (λ few. let found = some_number z (is (at_most (significant z) few)) in
    choose (λ kind. Means kind z) (are_in class.Digit z) (whole_kind (unscaled z)) k.Decimal
    (λ _. choose (λ kind. Means kind z) (nat_lt (unscaled z) (2 ^ 63)) k.Whole k.LargeWhole (λ e. (found, below (unscaled z) e)) (λ _. found))
    (λ _. found))

number_means : (b : ℕ) (z : List ℕ) → is_in class.Digit b ≡ true → Means (number (b ∷ z)).kind (take (number (b ∷ z)).len (b ∷ z))
number_means b z is =
    let n = number_len (b ∷ z) in
    let s = take n (b ∷ z) in
    let some : 1 ≤ run class.Digit (b ∷ z) = run_some class.Digit b z is in
    let digits : run class.Digit s ≡ run class.Digit (b ∷ z) = run_take class.Digit n (b ∷ z) (omega arith) in
    let len : length s ≡ n = taken n (b ∷ z) (number_within (b ∷ z)) in
    let whole : number_len s ≡ n = number_take (b ∷ z) in
    kind_means s (λ few. rw (few, whole, len, digits, above (run class.Digit (b ∷ z)) some, equal_self n) refl)

-- ---- texts and names in quotes

undenied : (v : Bool) → not v ≡ false → v ≡ true
undenied true h = refl
undenied false h = absurd (cc)

left : (p q : Bool) → (p || q) ≡ true → q ≡ false → p ≡ true
left true q h e = refl
left false q h e = absurd (clash q e h)

module _ (b len : ℕ) (z : List ℕ) (small : b < 128) (end : Ends b false 0 len z) where
  y : List ℕ
  y = take len z

  is_one : is_quoted b (b ∷ y) ≡ true
  unfolding y
  is_one =
      let e : 0 + len ≡ len = omega arith in
      rw (equal_self b, end.alone, taken len z end.within, e, equal_self len) refl

  inner : IsUtf8 (b ∷ y) → IsUtf8 (inside (b ∷ y))
  unfolding y
  inner text =
      let s = b ∷ take len z in
      let size = taken len z end.within in
      let front : get_or s 0 0 < 128 = small in
      let place : length s - 1 ≡ length (take len z) = omega arith in
      let later : get_or s (length (take len z)) 0 ≡ get_or (take len z) (length (take len z) - 1) 0 =
      get_later (length (take len z)) b (take len z) (omega (arith, size, end.some)) in
      let quote : get_or s (length (take len z)) 0 ≡ b = later ∙ ap (λ n. get_or (take len z) (n - 1) 0) size ∙ end.last in
      let last : get_or s (length s - 1) 0 < 128 = subst (λ n. get_or s n 0 < 128) (sym place) (subst (λ v. v < 128) (sym quote) small) in
      let some : 1 ≤ length s - 1 = omega (arith, size, end.some) in
      let before_end : length s - 1 < length s = omega arith in
      let e : length s - 1 - 1 ≡ length s - 2 = omega arith in
      subst (λ n. IsUtf8 (take n (drop 1 s))) e
      (IsUtf8-between s 1 (length s - 1) text some (IsCharBoundary-after_ascii s 0 text (omega arith) front) (IsCharBoundary-before_ascii s (length s - 1) before_end last))

  as_name : b ≡ 96 → Means (name_kind (b ∷ y)) (b ∷ y)
  as_name is =
      let s = b ∷ y in
      choose (λ kind. Means kind s) (is_utf8 s && nat_lt 2 (length s)) k.Name k.Bad
      (λ e. let both = both_true (is_utf8 s) (nat_lt 2 (length s)) e in
      let low : 96 < 128 = omega arith in
      let found : is_quoted 96 s ≡ true = subst (λ v. is_quoted v s ≡ true) is is_one in
      λ _. rw (found, both.1) (if_some (halved 96 false (inside s)) (halved_text 96 (inside s) low (inner (IsUtf8-from_is_utf8 s both.0)))))
      (λ _. bad_means s)

  as_text : b ≡ 39 → Means (text_kind (b ∷ y)) (b ∷ y)
  as_text is =
      let s = b ∷ y in
      choose (λ kind. Means kind s) (not (is_utf8 s)) k.Bad (if is_table_name (inside s) then k.TableText else k.Text)
      (λ _. bad_means s)
      (λ e. let low : 39 < 128 = omega arith in
      let found : is_quoted 39 s ≡ true = subst (λ v. is_quoted v s ≡ true) is is_one in
      let text : IsSome (text_of s) = rw found (if_some (halved 39 false (inside s)) (halved_text 39 (inside s) low (inner (IsUtf8-from_is_utf8 s (undenied (is_utf8 s) e))))) in
      choose (λ kind. Means kind s) (is_table_name (inside s)) k.TableText k.Text (λ _. text) (λ _. text))

  one_means : (b == 39 || b == 96) ≡ true → Means (quoted_kind b (b ∷ y)) (b ∷ y)
  one_means is = choose (λ kind. Means kind (b ∷ y)) (b == 96) (name_kind (b ∷ y)) (text_kind (b ∷ y))
      (λ e. as_name (is_equal b 96 e))
      (λ e. as_text (is_equal b 39 (left (b == 39) (b == 96) is e)))

  up_to_end : (b == 39 || b == 96) ≡ true → Means (quoted_kind b (take (len + 1) (b ∷ z))) (take (len + 1) (b ∷ z))
  unfolding y
  up_to_end is =
      let e : suc len ≡ len + 1 = omega arith in
      subst (λ n. Means (quoted_kind b (take n (b ∷ z))) (take n (b ∷ z))) e (one_means is)

quote_small : (b : ℕ) → (b == 39 || b == 96) ≡ true → b < 128
quote_small b is = grind (arith, nat_tests)

quoted_means : (b : ℕ) (z : List ℕ) → (b == 39 || b == 96) ≡ true → Means (quoted b (b ∷ z)).kind (take (quoted b (b ∷ z)).len (b ∷ z))
quoted_means b z is = elim (closing b false 0 z) as (λ v. closing b false 0 z ≡ v → Means (closed b (b ∷ z) v).kind (take (closed b (b ∷ z) v).len (b ∷ z))) [
  | None ↦ λ _. bad_means (take (length (b ∷ z)) (b ∷ z))
  | Some len ↦ λ e.
      let there : closing b false 0 z ≡ Some (0 + len) = e ∙ ap Some (omega arith) in
      up_to_end b len z (quote_small b is) (ends b false 0 len z there) is
] refl

-- ---- bytes

hex_same : (b : ℕ) → is_in class.Hex b ≡ true → is_hex_digit b ≡ true
hex_same b is = grind (arith, nat_tests)

all_hex : (d : List ℕ) → run class.Hex d ≡ length d → AllPass is_hex_digit d
all_hex [] h = All-nil (λ b. is_hex_digit b ≡ true)
all_hex (b ∷ d) h = elim (is_in class.Hex b) as (λ v. is_in class.Hex b ≡ v → (if v then 1 + run class.Hex d else 0) ≡ suc (length d) → AllPass is_hex_digit (b ∷ d)) [
  | true ↦ λ e g. All-cons (λ c. is_hex_digit c ≡ true) b d (hex_same b e) (all_hex d (omega (arith, g)))
  | false ↦ λ e g. absurd (omega (arith, g))
] refl h

bytes_one : (b c : ℕ) (z : List ℕ) → begins_bytes (b ∷ c ∷ z) ≡ true → run class.Inner z + 3 ≤ suc (suc (length z))
    → Means (bytes_kind (b ∷ c ∷ take (run class.Inner z + 1) z)) (b ∷ c ∷ take (run class.Inner z + 1) z)
bytes_one b c z is room =
    let n = run class.Inner z in
    let s = b ∷ c ∷ take (n + 1) z in
    let d = hex_digits s in
    choose (λ kind. Means kind s) (are_in class.Hex d && length d % 2 == 0) k.Bytes k.Bad
    (λ e. let both = both_true (are_in class.Hex d) (length d % 2 == 0) e in
    let decodes = decode_of-digits d (is_equal (length d % 2) 0 both.1) (all_hex d (is_equal (run class.Hex d) (length d) both.0)) in
    let found : decoded d ≡ Some decodes.0 = rw decodes.1 refl in
    let digits : run class.Inner (take (n + 1) z) ≡ n = run_take class.Inner (n + 1) z (omega arith) in
    let size : length (take (n + 1) z) ≡ n + 1 = taken (n + 1) z (omega arith) in
    let whole : suc (suc (n + 1)) ≡ n + 3 = omega arith in
    let whole_test : (run class.Inner (drop 2 s) + 3 == length s) ≡ true = rw (digits, size, whole) (equal_self (n + 3)) in
    rw (is, whole_test, found) refl)
    (λ _. bad_means s)

bytes_means : (z : List ℕ) → begins_bytes z ≡ true → Means (bytes z).kind (take (bytes z).len z)
bytes_means [] is = absurd (cc)
bytes_means (b ∷ []) is = absurd (let h : false ≡ true = (both_true (b == 88 || b == 120) false is).1 in cc)
bytes_means (b ∷ c ∷ z) is =
    let n = run class.Inner z in
    choose (λ (p : Piece). Means p.kind (take p.len (b ∷ c ∷ z))) (n + 2 == suc (suc (length z)))
    (record { kind = k.Bad; len = suc (suc (length z)) })
    (record { kind = bytes_kind (take (n + 3) (b ∷ c ∷ z)); len = n + 3 })
    (λ _. bad_means (take (suc (suc (length z))) (b ∷ c ∷ z)))
    (λ e. let whole : suc (suc (n + 1)) ≡ n + 3 = omega arith in
    subst (λ m. Means (bytes_kind (take m (b ∷ c ∷ z))) (take m (b ∷ c ∷ z))) whole
    (bytes_one b c z is (leaves_room n (length z) e (run_within class.Inner z))))

-- ---- all tokens

common_means : (b : ℕ) (z : List ℕ) → Means (common (b ∷ z)).kind (take (common (b ∷ z)).len (b ∷ z))
common_means b z =
    let P : Piece → Type 0 = λ p. Means p.kind (take p.len (b ∷ z)) in
    choose P (begins_bytes (b ∷ z)) (bytes (b ∷ z)) _ (λ e. bytes_means (b ∷ z) e) (λ _.
    choose P (is_in class.Letter b) (word (b ∷ z)) _ (λ e. word_means b z e) (λ _.
    choose P (is_in class.Digit b) (number (b ∷ z)) _ (λ e. number_means b z e) (λ _.
    choose P (b == 39 || b == 96) (quoted b (b ∷ z)) (sign (b ∷ z)) (λ e. quoted_means b z e) (λ _. sign_means (b ∷ z) (take (sign (b ∷ z)).len (b ∷ z))))))

token_means : (state : Before) (z : List ℕ) → 0 < length z → Means (token state z).kind (take (token state z).len z)
unfolding token
token_means state [] some = absurd (omega arith)
token_means state (b ∷ z) some =
    let P : Piece → Type 0 = λ p. Means p.kind (take p.len (b ∷ z)) in
    choose P (begins_comment (b ∷ z)) (record { kind = k.Bad; len = run class.Line (b ∷ z) }) _ (λ _. bad_means (take (run class.Line (b ∷ z)) (b ∷ z)))
    (λ _. choose P (is_table_due state && nat_lt 0 (table_len (b ∷ z))) (table (b ∷ z)) (common (b ∷ z))
    (λ _. table_means (take (table_len (b ∷ z)) (b ∷ z)))
    (λ _. common_means b z))

one_token : (z : List ℕ) (state : Before) (t : Token) → IsPart (length z) t.span → t ≡ placed_at t.span.start (token state (drop t.span.start z))
    → Means t.kind (take (t.span.«end» - t.span.start) (drop t.span.start z))
one_token z state t part e =
    let p = token state (drop t.span.start z) in
    let kind : t.kind ≡ p.kind = ap (λ (u : Token). u.kind) e in
    let end : t.span.«end» ≡ t.span.start + p.len = ap (λ (u : Token). u.span.«end») e in
    let len : t.span.«end» - t.span.start ≡ p.len = omega arith in
    let some : 0 < length (drop t.span.start z) = omega (arith, part.some, part.within, length-drop t.span.start z) in
    rw (kind, len) (token_means state (drop t.span.start z) some)

meant : (z : List ℕ) (at : ℕ) (state : Before) (ts : List Token) → StandFrom z at state ts → AreMeant z ts
meant z at state [] h = All-nil (λ (t : Token). Means t.kind (take (t.span.«end» - t.span.start) (drop t.span.start z)))
meant z at state (t ∷ ts) h = All-cons (λ (t : Token). Means t.kind (take (t.span.«end» - t.span.start) (drop t.span.start z))) t ts (one_token z state t h.2 h.4) (meant z t.span.«end» (after state t.kind) ts h.5)

pub tokens_mean : (z : List ℕ) → AreMeant z (tokens z)
unfolding StandIn
tokens_mean z = meant z 0 before.Start (tokens z) (tokens_stand z)
