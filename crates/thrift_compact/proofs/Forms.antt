-- A reader of a form, and one law for each way to put forms together.
use Rattle.std.proofs.Common.{◌≡◌, ℕ, zero, suc, ◌+◌, ◌-◌, ◌<◌, ◌≤◌, ltb, Bool, true, false, List, [], ◌∷◌, ◌++◌, length, take, drop, Option, Some, Ok, Err, refl, sym, ap, ◌∙◌, arith, append_assoc, length-append, replicate, length-take}
use Rattle.std.proofs.lemmas.Bool.{ltb-true, ltb-false, le-ltb}
use Rattle.std.proofs.lemmas.List.{append-nil, take-append-drop, length-replicate}
use Rattle.std.proofs.Math.Seq.{take-append_seam, drop-append_seam}
use Rattle.thrift_compact.specs.Grammar.{Form, Nothing, Made, Then, Times, IsBytes}
use Rattle.thrift_compact.specs.Reading.{Outcome, Reader, ◌>>=◌, made, one, exactly, times}
use Rattle.thrift_compact.proofs.Steps.{accepted_ok, accepted_err}

-- The bytes before rest can go on to a value, and nothing goes on with the first byte of rest.
pub record Stops {A : Type 0} (R : Form A) (f : Reader A) (bytes rest : List ℕ) : Type 0 where
  pub before : List ℕ
  pub split : bytes ≡ before ++ rest
  pub more : List ℕ
  pub value : A
  pub goes_on : R (before ++ more) value
  pub dead : (b : ℕ) (behind other : List ℕ) → rest ≡ b ∷ behind → f (before ++ (b ∷ other)) ≡ Err (b ∷ other)

pub record Some_of {A : Type 0} (R : Form A) : Type 0 where
  pub bytes : List ℕ
  pub value : A
  pub is : R bytes value

-- The reader finds what the form has, whatever follows, and stops at the first byte with which nothing goes on.
pub record IsReaderOf {A : Type 0} (R : Form A) (f : Reader A) : Type 0 where
  pub found : (bytes : List ℕ) (x : A) (rest : List ℕ) → f bytes ≡ Ok (x, rest) → (front : List ℕ) × (bytes ≡ front ++ rest) × R front x
  pub only : (front : List ℕ) (x : A) (more : List ℕ) → R front x → f (front ++ more) ≡ Ok (x, more)
  pub stops : (bytes rest : List ℕ) → f bytes ≡ Err rest → Stops R f bytes rest
  pub some : Some_of R

-- ---- the same form, written in two ways

pub same_reads : {A : Type 0} {R : Form A} {f : Reader A} (R' : Form A) → IsReaderOf R f → ((bytes : List ℕ) (x : A) → R bytes x → R' bytes x) → ((bytes : List ℕ) (x : A) → R' bytes x → R bytes x) → IsReaderOf R' f
same_reads R' h to back = record {
  found = λ bytes x rest is. let p = h.found bytes x rest is in (p.0, p.1, to p.0 x p.2);
  only = λ front x more r. h.only front x more (back front x r);
  stops = λ bytes rest is.
      let st = h.stops bytes rest is in
      record { before = st.before; split = st.split; more = st.more; value = st.value; goes_on = to _ _ st.goes_on; dead = st.dead };
  some = record { bytes = h.some.bytes; value = h.some.value; is = to _ _ h.some.is };
}

-- ---- nothing, and what is made of a value

pub nothing_reads : {A : Type 0} (x : A) → IsReaderOf (Nothing x) (λ bytes. Ok (x, bytes))
nothing_reads {A} x = record {
  found = λ bytes y rest is.
      let pair : ◌≡◌ {A = A × List ℕ} (x, bytes) (y, rest) = cc in
      ([], ap (λ (p : A × List ℕ). p.1) pair, (refl, sym (ap (λ (p : A × List ℕ). p.0) pair)));
  only = λ front y more r. rw (r.0, r.1) refl;
  stops = λ bytes rest is. absurd (cc);
  some = record { bytes = []; value = x; is = (refl, refl) };
}

module _ {A B : Type 0} (make : A → B) (R : Form A) (f : Reader A) (h : IsReaderOf R f) where
  made_found : (bytes : List ℕ) (o : Outcome A) → f bytes ≡ o → (y : B) (rest : List ℕ) → made make o ≡ Ok (y, rest) → (front : List ℕ) × (bytes ≡ front ++ rest) × Made make R front y
  made_found bytes (Err r) e y rest is = absurd (cc)
  made_found bytes (Ok p) e y rest is =
      let pair : ◌≡◌ {A = B × List ℕ} (make p.0, p.1) (y, rest) = cc in
      let behind : p.1 ≡ rest = ap (λ (q : B × List ℕ). q.1) pair in
      let found = h.found bytes p.0 p.1 e in
      (found.0, found.1 ∙ ap (λ r. found.0 ++ r) behind, (p.0, found.2, sym (ap (λ (q : B × List ℕ). q.0) pair)))

  made_stops : (bytes : List ℕ) (o : Outcome A) → f bytes ≡ o → (rest : List ℕ) → made make o ≡ Err rest → Stops (Made make R) (λ bytes. made make (f bytes)) bytes rest
  made_stops bytes (Ok p) e rest is = absurd (cc)
  made_stops bytes (Err r) e rest is =
      let same : r ≡ rest = cc in
      let st = h.stops bytes rest (e ∙ ap Err same) in
      record { before = st.before; split = st.split; more = st.more; value = make st.value; goes_on = (st.value, st.goes_on, refl); dead = λ b behind other eq. ap (made make) (st.dead b behind other eq) }

  pub made_reads : IsReaderOf (Made make R) (λ bytes. made make (f bytes))
  made_reads = record {
    found = λ bytes y rest is. made_found bytes (f bytes) refl y rest is;
    only = λ front y more r. ap (made make) (h.only front r.0 more r.1) ∙ ap (λ z. Ok (z, more)) (sym r.2);
    stops = λ bytes rest is. made_stops bytes (f bytes) refl rest is;
    some = record { bytes = h.some.bytes; value = make h.some.value; is = (h.some.value, h.some.is, refl) };
  }

-- ---- one after the other

module _ {A B : Type 0} (P : A → Type 0) (R : Form A) (f : Reader A) (S : A → Form B) (g : A → Reader B) (h : IsReaderOf R f)
    (sure : (front : List ℕ) (x : A) → R front x → P x) (next : (x : A) → P x → IsReaderOf (S x) (g x)) where
  abbrev both : Reader B
  both bytes = f bytes >>= λ x. g x.0 x.1

  then_found : (bytes : List ℕ) (o : Outcome A) → f bytes ≡ o → (y : B) (rest : List ℕ) → (o >>= λ x. g x.0 x.1) ≡ Ok (y, rest) → (front : List ℕ) × (bytes ≡ front ++ rest) × Then R S front y
  then_found bytes (Err r) e y rest is = absurd (cc)
  then_found bytes (Ok p) e y rest is =
      let a = h.found bytes p.0 p.1 e in
      let b = (next p.0 (sure a.0 p.0 a.2)).found p.1 y rest is in
      (a.0 ++ b.0, a.1 ∙ ap (λ r. a.0 ++ r) b.1 ∙ sym (append_assoc a.0 b.0 rest), (p.0, a.0, b.0, refl, a.2, b.2))

  then_only : (front : List ℕ) (y : B) (more : List ℕ) → Then R S front y → both (front ++ more) ≡ Ok (y, more)
  then_only front y more (x, a, b, split, r, s) =
      let first : f (front ++ more) ≡ Ok (x, b ++ more) = ap (λ z. f (z ++ more)) split ∙ ap f (append_assoc a b more) ∙ h.only a x (b ++ more) r in
      rw first ((next x (sure a x r)).only b y more s)

  then_stops : (bytes : List ℕ) (o : Outcome A) → f bytes ≡ o → (rest : List ℕ) → (o >>= λ x. g x.0 x.1) ≡ Err rest → Stops (Then R S) both bytes rest
  then_stops bytes (Err r) e rest is =
      let same : r ≡ rest = cc in
      let st = h.stops bytes rest (e ∙ ap Err same) in
      let last = (next st.value (sure (st.before ++ st.more) st.value st.goes_on)).some in
      record {
        before = st.before;
        split = st.split;
        more = st.more ++ last.bytes;
        value = last.value;
        goes_on = (st.value, st.before ++ st.more, last.bytes, sym (append_assoc st.before st.more last.bytes), st.goes_on, last.is);
        dead = λ b behind other eq. ap (λ o. o >>= λ x. g x.0 x.1) (st.dead b behind other eq);
      }
  then_stops bytes (Ok p) e rest is =
      let a = h.found bytes p.0 p.1 e in
      let second = next p.0 (sure a.0 p.0 a.2) in
      let st = second.stops p.1 rest is in
      record {
        before = a.0 ++ st.before;
        split = a.1 ∙ ap (λ r. a.0 ++ r) st.split ∙ sym (append_assoc a.0 st.before rest);
        more = st.more;
        value = st.value;
        goes_on = (p.0, a.0, st.before ++ st.more, append_assoc a.0 st.before st.more, a.2, st.goes_on);
        dead = λ b behind other eq.
            ap both (append_assoc a.0 st.before (b ∷ other))
            ∙ ap (λ o. o >>= λ x. g x.0 x.1) (h.only a.0 p.0 (st.before ++ (b ∷ other)) a.2)
            ∙ st.dead b behind other eq;
      }

  pub then_reads : IsReaderOf (Then R S) (λ bytes. f bytes >>= λ x. g x.0 x.1)
  then_reads = record {
    found = λ bytes y rest is. then_found bytes (f bytes) refl y rest is;
    only = then_only;
    stops = λ bytes rest is. then_stops bytes (f bytes) refl rest is;
    some =
        let last = (next h.some.value (sure h.some.bytes h.some.value h.some.is)).some in
        record { bytes = h.some.bytes ++ last.bytes; value = last.value; is = (h.some.value, h.some.bytes, last.bytes, refl, h.some.is, last.is) };
  }

-- ---- one byte

-- one byte of this meaning
abbrev pub ByteOf : {A : Type 0} → (ℕ → Option A) → Form A
ByteOf meaning bytes x = (b : ℕ) × (bytes ≡ b ∷ []) × (meaning b ≡ Some x)

module _ {A : Type 0} (meaning : ℕ → Option A) (sample : ℕ) (value : A) (good : meaning sample ≡ Some value) where
  byte_found : (bytes : List ℕ) (x : A) (rest : List ℕ) → one meaning bytes ≡ Ok (x, rest) → (front : List ℕ) × (bytes ≡ front ++ rest) × ByteOf meaning front x
  byte_found [] x rest is = absurd (cc)
  byte_found (b ∷ bs) x rest is = let parts = accepted_ok (meaning b) x (b ∷ bs) bs rest is in (b ∷ [], ap (λ r. b ∷ r) parts.1, (b, refl, parts.0))

  byte_stops : (bytes rest : List ℕ) → one meaning bytes ≡ Err rest → Stops (ByteOf meaning) (one meaning) bytes rest
  byte_stops [] rest is =
      let same : [] ≡ rest = cc in
      record { before = []; split = same; more = sample ∷ []; value = value; goes_on = (sample, refl, good); dead = λ b behind other eq. absurd (let e : [] ≡ b ∷ behind = same ∙ eq in cc) }
  byte_stops (c ∷ cs) rest is =
      let parts = accepted_err (meaning c) (c ∷ cs) cs rest is in
      record {
        before = [];
        split = parts.1;
        more = sample ∷ [];
        value = value;
        goes_on = (sample, refl, good);
        dead = λ b behind other eq.
            let heads : c ∷ cs ≡ b ∷ behind = parts.1 ∙ eq in
            let head : c ≡ b = cc in
            rw (ap meaning (sym head) ∙ parts.0) refl;
      }

  pub byte_reads : IsReaderOf (ByteOf meaning) (one meaning)
  byte_reads = record {
    found = byte_found;
    only = λ front x more r. rw r.1 (rw r.2 refl);
    stops = byte_stops;
    some = record { bytes = sample ∷ []; value = value; is = (sample, refl, good) };
  }

-- ---- so many bytes

module _ (count : ℕ) where
  bytes_found : (bytes : List ℕ) (short : Bool) → ltb (length bytes) count ≡ short → (x rest : List ℕ) → exactly count bytes ≡ Ok (x, rest) → (front : List ℕ) × (bytes ≡ front ++ rest) × IsBytes count front x
  bytes_found bytes true e x rest is = absurd (let no_bytes : ◌≡◌ {A = Outcome (List ℕ)} (Err []) (Ok (x, rest)) = rw e at is in cc)
  bytes_found bytes false e x rest is =
      let both : ◌≡◌ {A = Outcome (List ℕ)} (Ok (take count bytes, drop count bytes)) (Ok (x, rest)) = rw e at is in
      let pair : ◌≡◌ {A = List ℕ × List ℕ} (take count bytes, drop count bytes) (x, rest) = cc in
      let front : take count bytes ≡ x = ap (λ (p : List ℕ × List ℕ). p.0) pair in
      let back : drop count bytes ≡ rest = ap (λ (p : List ℕ × List ℕ). p.1) pair in
      let enough : count ≤ length bytes = ltb-false (length bytes) count e in (
        take count bytes,
        sym (take-append-drop count bytes) ∙ ap (λ r. take count bytes ++ r) back,
        (length-take count bytes ∙ omega arith, sym front),
      )

  bytes_only : (front x more : List ℕ) → IsBytes count front x → exactly count (front ++ more) ≡ Ok (x, more)
  bytes_only front x more r =
      let test : ltb (length (front ++ more)) count ≡ false = le-ltb _ _ (omega (arith, length-append front more, r.0)) in
      let front_is : take count (front ++ more) ≡ x = ap (λ k. take k (front ++ more)) (sym r.0) ∙ take-append_seam front more ∙ sym r.1 in
      let back_is : drop count (front ++ more) ≡ more = ap (λ k. drop k (front ++ more)) (sym r.0) ∙ drop-append_seam front more in
      rw (test, front_is, back_is) refl

  bytes_stops : (bytes : List ℕ) (short : Bool) → ltb (length bytes) count ≡ short → (rest : List ℕ) → exactly count bytes ≡ Err rest → Stops (IsBytes count) (exactly count) bytes rest
  bytes_stops bytes false e rest is = absurd (let both : ◌≡◌ {A = Outcome (List ℕ)} (Ok (take count bytes, drop count bytes)) (Err rest) = rw e at is in cc)
  bytes_stops bytes true e rest is =
      let no_bytes : ◌≡◌ {A = Outcome (List ℕ)} (Err []) (Err rest) = rw e at is in
      let same : [] ≡ rest = cc in
      let less : length bytes < count = ltb-true (length bytes) count e in
      record {
        before = bytes;
        split = sym (append-nil bytes) ∙ ap (λ r. bytes ++ r) same;
        more = replicate (count - length bytes) 0;
        value = bytes ++ replicate (count - length bytes) 0;
        goes_on = (length-append bytes (replicate (count - length bytes) 0) ∙ ap (λ k. length bytes + k) (length-replicate (count - length bytes) 0) ∙ omega arith, refl);
        dead = λ b behind other eq. absurd (let end : [] ≡ b ∷ behind = same ∙ eq in cc);
      }

  pub bytes_reads : IsReaderOf (IsBytes count) (exactly count)
  bytes_reads = record {
    found = λ bytes x rest is. bytes_found bytes _ refl x rest is;
    only = bytes_only;
    stops = λ bytes rest is. bytes_stops bytes _ refl rest is;
    some = record { bytes = replicate count 0; value = replicate count 0; is = (length-replicate count 0, refl) };
  }

-- ---- values one after another

module _ {A : Type 0} (R : Form A) (f : Reader A) (h : IsReaderOf R f) where
  times_to : (count : ℕ) (bytes : List ℕ) (xs : List A) → Then R (λ x. Made (λ more. x ∷ more) (Times R count)) bytes xs → Times R (suc count) bytes xs
  times_to count bytes xs (x, a, b, split, r, (more, all, is)) = rw is (ap suc all.0, (a, b, split, r, all.1))

  times_back : (count : ℕ) (bytes : List ℕ) (xs : List A) → Times R (suc count) bytes xs → Then R (λ x. Made (λ more. x ∷ more) (Times R count)) bytes xs
  times_back count bytes [] all = absurd (omega (arith, all.0))
  times_back count bytes (x ∷ xs) all = let parts = all.1 in (x, parts.0, parts.1, parts.2, parts.3, (xs, (omega (arith, all.0), parts.4), refl))

  none_to : (bytes : List ℕ) (xs : List A) → Nothing [] bytes xs → Times R zero bytes xs
  none_to bytes xs none = rw (none.0, none.1) (refl, refl)

  none_back : (bytes : List ℕ) (xs : List A) → Times R zero bytes xs → Nothing [] bytes xs
  none_back bytes [] all = (all.1, refl)
  none_back bytes (x ∷ xs) all = absurd (omega (arith, all.0))

  pub times_reads : (count : ℕ) → IsReaderOf (Times R count) (times f count)
  unfolding times
  times_reads zero = same_reads (Times R zero) (nothing_reads []) none_to none_back
  times_reads (suc count) = same_reads (Times R (suc count)) (then_reads (λ x. Unit {0}) R f (λ x. Made (λ more. x ∷ more) (Times R count)) (λ x bytes. made (λ more. x ∷ more) (times f count bytes)) h (λ front x r. tt) (λ x p. made_reads (λ more. x ∷ more) (Times R count) (times f count) (times_reads count))) (times_to count) (times_back count)
