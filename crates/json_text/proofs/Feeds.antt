-- Compact JSON has no line feed.
use Rattle.std.proofs.Common.{◌≡◌, ◌≢◌, ℕ, zero, suc, ◌+◌, ◌/◌, ◌%◌, Bool, true, false, cond, nat_lt, ◌==◌, ◌||◌, List, [], ◌∷◌, ◌++◌, pos, negsuc, decimal, true≢false, refl, sym, ap, ◌∙◌, arith}
use Rattle.std.specs.Char.{digit_char}
use Rattle.std.specs.Fmt.{digits, digits_onto, digit_glyph}
use Rattle.std.proofs.lemmas.List.Concat.{flat_map-cons}
use Rattle.json.specs.Print.{escape_letter, escape_byte, escape, quoted}
use Rattle.serde_json.specs.Data.{Num, unsigned, negative, float, Data, null, boolean, number, string, array, object, Items, no_items, item, Members, no_members, member}
use Rattle.serde_json.specs.Written.{number_text, comma_if, compact_text, items_text, members_text}
use Rattle.json_text.specs.Laws.{LacksFeed}

LacksFeed-append : (xs ys : List ℕ) → LacksFeed xs → LacksFeed ys → LacksFeed (xs ++ ys)
LacksFeed-append [] ys p q = q
LacksFeed-append (x ∷ xs) ys p q = (p.0, LacksFeed-append xs ys p.1 q)

other_if : (b : Bool) (x y : ℕ) → (b ≡ true → x ≢ 10) → (b ≡ false → y ≢ 10) → cond b x y ≢ 10
other_if true x y p q = p refl
other_if false x y p q = q refl

lacks_if : (b : Bool) (xs ys : List ℕ) → (b ≡ true → LacksFeed xs) → (b ≡ false → LacksFeed ys) → LacksFeed (cond b xs ys)
lacks_if true xs ys p q = p refl
lacks_if false xs ys p q = q refl

letter_other : (x : ℕ) → escape_letter x ≢ 10
letter_other x =
    other_if ((x == 34) || (x == 92)) x _ (λ e is. true≢false (sym e ∙ ap (λ y. (y == 34) || (y == 92)) is))
    (λ _. other_if (x == 8) 98 _ (λ _ is. omega arith)
    (λ _. other_if (x == 12) 102 _ (λ _ is. omega arith)
    (λ _. other_if (x == 10) 110 _ (λ _ is. omega arith)
    (λ _. other_if (x == 13) 114 _ (λ _ is. omega arith)
    (λ _. other_if (x == 9) 116 0 (λ _ is. omega arith) (λ _ is. omega arith))))))

char_other : (n : ℕ) → digit_char n ≢ 10
char_other n = other_if (nat_lt n 10) (48 + n) (87 + n) (λ _ is. omega arith) (λ _ is. omega arith)

byte_lacks : (x : ℕ) → LacksFeed (escape_byte x)
unfolding escape_byte
byte_lacks x =
    lacks_if (nat_lt 0 (escape_letter x)) _ _ (λ _. ((λ is. omega arith), (letter_other x, tt)))
    (λ _. lacks_if (nat_lt x 32) _ _ (λ _. ((λ is. omega arith), ((λ is. omega arith), ((λ is. omega arith), ((λ is. omega arith), (char_other (x / 16), (char_other (x % 16), tt)))))))
    (λ e. ((λ is. true≢false (sym (ap (λ y. nat_lt y 32) is) ∙ e)), tt)))

escape_lacks : (s : List ℕ) → LacksFeed (escape s)
escape_lacks [] = tt
escape_lacks (x ∷ s) = rw flat_map-cons (LacksFeed-append (escape_byte x) (escape s) (byte_lacks x) (escape_lacks s))

quoted_lacks : (s : List ℕ) → LacksFeed (quoted s)
quoted_lacks s = ((λ is. omega arith), LacksFeed-append (escape s) (34 ∷ []) (escape_lacks s) ((λ is. omega arith), tt))

glyph_other : (n : ℕ) → digit_glyph false n ≢ 10
glyph_other n = other_if (nat_lt n 10) (48 + n) (87 + n) (λ _ is. omega arith) (λ _ is. omega arith)

onto_lacks : (k n : ℕ) (acc : List ℕ) → LacksFeed acc → LacksFeed (digits_onto k 10 false n acc)
onto_lacks zero n acc h = h
onto_lacks (suc k) n acc h =
    lacks_if (n / 10 == 0) _ _ (λ _. (glyph_other (n % 10), h)) (λ _. onto_lacks k (n / 10) (digit_glyph false (n % 10) ∷ acc) (glyph_other (n % 10), h))

decimal_lacks : (n : ℕ) → LacksFeed (decimal n)
unfolding digits
decimal_lacks n = onto_lacks 64 n [] tt

number_lacks : (n : Num) → LacksFeed (number_text n)
number_lacks (unsigned n) = decimal_lacks n
number_lacks (negative (pos n)) = decimal_lacks n
number_lacks (negative (negsuc n)) = ((λ is. omega arith), decimal_lacks (suc n))
number_lacks (float x) = tt

comma_lacks : (later : Bool) → LacksFeed (comma_if later)
comma_lacks true = ((λ is. omega arith), tt)
comma_lacks false = tt

mutual
  pub text_lacks : (d : Data) → LacksFeed (compact_text d)
  text_lacks null = ((λ is. omega arith), ((λ is. omega arith), ((λ is. omega arith), ((λ is. omega arith), tt))))
  text_lacks (boolean true) = ((λ is. omega arith), ((λ is. omega arith), ((λ is. omega arith), ((λ is. omega arith), tt))))
  text_lacks (boolean false) = ((λ is. omega arith), ((λ is. omega arith), ((λ is. omega arith), ((λ is. omega arith), ((λ is. omega arith), tt)))))
  text_lacks (number n) = number_lacks n
  text_lacks (string s) = quoted_lacks s
  text_lacks (array ds) = ((λ is. omega arith), items_lack false ds)
  text_lacks (object ms) = ((λ is. omega arith), members_lack false ms)

  items_lack : (later : Bool) (ds : Items) → LacksFeed (items_text later ds)
  items_lack later no_items = ((λ is. omega arith), tt)
  items_lack later (item d ds) = LacksFeed-append (comma_if later) _ (comma_lacks later) (LacksFeed-append (compact_text d) _ (text_lacks d) (items_lack true ds))

  members_lack : (later : Bool) (ms : Members) → LacksFeed (members_text later ms)
  members_lack later no_members = ((λ is. omega arith), tt)
  members_lack later (member k d ms) =
      LacksFeed-append (comma_if later) _ (comma_lacks later)
      (LacksFeed-append (quoted k) _ (quoted_lacks k) ((λ is. omega arith), LacksFeed-append (compact_text d) _ (text_lacks d) (members_lack true ms)))
