-- The fields up to the byte 0 are read as they are spelled, whatever number bounds them.
use Rattle.std.proofs.Common.{◌≡◌, ℕ, zero, suc, ◌+◌, ◌≤◌, eqb, Bool, true, false, cond, List, [], ◌∷◌, ◌++◌, length, Ok, Err, refl, sym, ap, subst, ◌∙◌, arith, ℤ, append_assoc, length-append}
use Rattle.std.proofs.lemmas.Bool.{eqb-true}
use Rattle.thrift_compact.specs.Values.{id_of}
use Rattle.thrift_compact.specs.Grammar.{Form, IsFields}
use Rattle.thrift_compact.specs.Reading.{Outcome, Reader, ◌>>=◌, made, fields_of}
use Rattle.thrift_compact.specs.declared.tree.Field.{Field}
use Rattle.thrift_compact.proofs.Forms.{IsReaderOf, Stops}

-- a byte that isn't 0, and more
pub record Starts (front : List ℕ) : Type 0 where
  pub first : ℕ
  pub behind : List ℕ
  pub split : front ≡ first ∷ behind
  pub some : eqb first 0 ≡ false

module _ (F : ℤ → Form Field) (f : ℤ → Reader Field) (reads : (last : ℤ) → IsReaderOf (F last) (f last)) (starts : (last : ℤ) (front : List ℕ) (x : Field) → F last front x → Starts front) where
  -- a field takes a byte
  pub shorter : (last : ℤ) (b : ℕ) (rest : List ℕ) (x : Field) (behind : List ℕ) → f last (b ∷ rest) ≡ Ok (x, behind) → length behind ≤ length rest
  shorter last b rest x behind is =
      let found = (reads last).found (b ∷ rest) x behind is in
      let start = starts last found.0 x found.2 in
      let lengths : suc (length rest) ≡ length (start.first ∷ start.behind) + length behind = ap length (found.1 ∙ ap (λ z. z ++ behind) start.split) ∙ length-append (start.first ∷ start.behind) behind in
      omega (arith, lengths)

  then_same : (n m : ℕ) (o : Outcome Field) → ((p : Field × List ℕ) → o ≡ Ok p → fields_of f n (id_of p.0) p.1 ≡ fields_of f m (id_of p.0) p.1)
      → (o >>= λ x. made (λ xs. x.0 ∷ xs) (fields_of f n (id_of x.0) x.1)) ≡ (o >>= λ x. made (λ xs. x.0 ∷ xs) (fields_of f m (id_of x.0) x.1))
  then_same n m (Ok p) same = ap (made (λ xs. p.0 ∷ xs)) (same p refl)
  then_same n m (Err rest) same = refl

  -- the bound doesn't show
  enough : (n m : ℕ) (last : ℤ) (bytes : List ℕ) → length bytes ≤ n → length bytes ≤ m → fields_of f n last bytes ≡ fields_of f m last bytes
  unfolding fields_of
  enough zero zero last bytes a b = refl
  enough zero (suc m) last [] a b = refl
  enough zero (suc m) last (c ∷ bytes) a b = absurd (omega arith)
  enough (suc n) zero last [] a b = refl
  enough (suc n) zero last (c ∷ bytes) a b = absurd (omega arith)
  enough (suc n) (suc m) last [] a b = refl
  enough (suc n) (suc m) last (c ∷ bytes) a b =
      ap (λ o. cond (eqb c 0) (Ok ([], bytes)) o) (then_same n m (f last (c ∷ bytes)) (λ p is. let fewer = shorter last c bytes p.0 p.1 is in enough n m (id_of p.0) p.1 (omega (arith, fewer)) (omega (arith, fewer))))

  abbrev pub all : ℤ → Reader (List Field)
  all last bytes = fields_of f (length bytes) last bytes

  pub opened : (last : ℤ) (b : ℕ) (rest : List ℕ) → all last (b ∷ rest) ≡ cond (eqb b 0) (Ok ([], rest)) (f last (b ∷ rest) >>= λ x. made (λ xs. x.0 ∷ xs) (all (id_of x.0) x.1))
  unfolding fields_of
  opened last b rest = ap (λ o. cond (eqb b 0) (Ok ([], rest)) o) (by_field (f last (b ∷ rest)) refl)
    where
      by_field : (o : Outcome Field) → f last (b ∷ rest) ≡ o → (o >>= λ x. made (λ xs. x.0 ∷ xs) (fields_of f (length rest) (id_of x.0) x.1)) ≡ (o >>= λ x. made (λ xs. x.0 ∷ xs) (all (id_of x.0) x.1))
      by_field (Err r) is = refl
      by_field (Ok p) is = ap (made (λ xs. p.0 ∷ xs)) (enough (length rest) (length p.1) (id_of p.0) p.1 (shorter last b rest p.0 p.1 is) (omega arith))

  all_none : (last : ℤ) → all last [] ≡ Err []
  unfolding fields_of
  all_none last = refl

  pub all_ok : (last : ℤ) (b : ℕ) (rest : List ℕ) (x : Field) (mid : List ℕ) → eqb b 0 ≡ false → f last (b ∷ rest) ≡ Ok (x, mid) → all last (b ∷ rest) ≡ made (λ xs. x ∷ xs) (all (id_of x) mid)
  all_ok last b rest x mid some is = opened last b rest ∙ rw (some, is) refl

  pub all_err : (last : ℤ) (b : ℕ) (rest stop : List ℕ) → eqb b 0 ≡ false → f last (b ∷ rest) ≡ Err stop → all last (b ∷ rest) ≡ Err stop
  all_err last b rest stop some is = opened last b rest ∙ rw (some, is) refl

  pub all_end : (last : ℤ) (b : ℕ) (rest : List ℕ) → eqb b 0 ≡ true → all last (b ∷ rest) ≡ Ok ([], rest)
  all_end last b rest none = opened last b rest ∙ rw none refl

  -- ---- what is found

  found_on : (o : Outcome (List Field)) (x : Field) (fs : List Field) (rest : List ℕ) → made (λ xs. x ∷ xs) o ≡ Ok (fs, rest) → (more : List Field) × (o ≡ Ok (more, rest)) × (fs ≡ x ∷ more)
  found_on (Err r) x fs rest is = absurd (cc)
  found_on (Ok p) x fs rest is =
      let pair : ◌≡◌ {A = List Field × List ℕ} (x ∷ p.0, p.1) (fs, rest) = cc in
      (p.0, ap (λ r. Ok (p.0, r)) (ap (λ (q : List Field × List ℕ). q.1) pair), sym (ap (λ (q : List Field × List ℕ). q.0) pair))

  abbrev FoundOf : ℕ → Type 0
  FoundOf n = (next : ℤ) (more : List ℕ) → length more ≤ n → (found : List Field) (rest : List ℕ) → all next more ≡ Ok (found, rest) → (front : List ℕ) × (more ≡ front ++ rest) × IsFields F next front found

  fields_found : (n : ℕ) (last : ℤ) (bytes : List ℕ) → length bytes ≤ n → (fs : List Field) (rest : List ℕ) → all last bytes ≡ Ok (fs, rest) → (front : List ℕ) × (bytes ≡ front ++ rest) × IsFields F last front fs
  fields_found n last [] within fs rest is = absurd (let e : ◌≡◌ {A = Outcome (List Field)} (Err []) (Ok (fs, rest)) = sym (all_none last) ∙ is in cc)
  fields_found zero last (b ∷ bytes) within fs rest is = absurd (omega arith)
  fields_found (suc n) last (b ∷ bytes) within fs rest is = by_end (λ next more short found rest is. fields_found n next more short found rest is) (eqb b 0) refl
    where
      by_field : FoundOf n → eqb b 0 ≡ false → (o : Outcome Field) → f last (b ∷ bytes) ≡ o → (front : List ℕ) × (b ∷ bytes ≡ front ++ rest) × IsFields F last front fs
      by_field again some (Err stop) e = absurd (let no_fields : ◌≡◌ {A = Outcome (List Field)} (Err stop) (Ok (fs, rest)) = sym (all_err last b bytes stop some e) ∙ is in cc)
      by_field again some (Ok p) e =
          let onward = found_on (all (id_of p.0) p.1) p.0 fs rest (sym (all_ok last b bytes p.0 p.1 some e) ∙ is) in
          let first = (reads last).found (b ∷ bytes) p.0 p.1 e in
          let fewer = shorter last b bytes p.0 p.1 e in
          let behind = again (id_of p.0) p.1 (omega (arith, fewer)) onward.0 rest onward.1 in
          let all_of_them : IsFields F last (first.0 ++ behind.0) (p.0 ∷ onward.0) = (first.0, behind.0, refl, first.2, behind.2) in (
            first.0 ++ behind.0,
            first.1 ∙ ap (λ r. first.0 ++ r) behind.1 ∙ sym (append_assoc first.0 behind.0 rest),
            subst (λ xs. IsFields F last (first.0 ++ behind.0) xs) (sym onward.2) all_of_them,
          )

      by_end : FoundOf n → (test : Bool) → eqb b 0 ≡ test → (front : List ℕ) × (b ∷ bytes ≡ front ++ rest) × IsFields F last front fs
      by_end again false e = by_field again e _ refl
      by_end again true e =
          let both : ◌≡◌ {A = Outcome (List Field)} (Ok ([], bytes)) (Ok (fs, rest)) = sym (all_end last b bytes e) ∙ is in
          let pair : ◌≡◌ {A = List Field × List ℕ} ([], bytes) (fs, rest) = cc in
          let none : b ≡ 0 = eqb-true b 0 e in (
            0 ∷ [],
            ap (λ c. c ∷ bytes) none ∙ ap (λ r. 0 ∷ r) (ap (λ (q : List Field × List ℕ). q.1) pair),
            subst (λ xs. IsFields F last (0 ∷ []) xs) (ap (λ (q : List Field × List ℕ). q.0) pair) refl,
          )

  -- ---- what is spelled is found

  fields_only : (last : ℤ) (front : List ℕ) (fs : List Field) (more : List ℕ) → IsFields F last front fs → all last (front ++ more) ≡ Ok (fs, more)
  fields_only last front [] more is = ap (λ z. all last (z ++ more)) is ∙ all_end last 0 more refl
  fields_only last front (x ∷ xs) more (a, b, split, r, behind) =
      let start = starts last a x r in
      let whole : front ++ more ≡ start.first ∷ (start.behind ++ (b ++ more)) = ap (λ z. z ++ more) split ∙ append_assoc a b more ∙ ap (λ z. z ++ (b ++ more)) start.split in
      let field : f last (start.first ∷ (start.behind ++ (b ++ more))) ≡ Ok (x, b ++ more) = ap (λ z. f last (z ++ (b ++ more))) (sym start.split) ∙ (reads last).only a x (b ++ more) r in
      ap (all last) whole ∙ all_ok last start.first (start.behind ++ (b ++ more)) x (b ++ more) start.some field ∙ ap (made (λ ys. x ∷ ys)) (fields_only (id_of x) b xs more behind)

  -- ---- where nothing goes on

  stops_on : (o : Outcome (List Field)) (x : Field) (rest : List ℕ) → made (λ xs. x ∷ xs) o ≡ Err rest → o ≡ Err rest
  stops_on (Err r) x rest is = ap Err (cc)
  stops_on (Ok p) x rest is = absurd (cc)

  -- the first byte stays the same, however the bytes go on
  same_first : (before : List ℕ) (b : ℕ) (bytes rest : List ℕ) (c : ℕ) (behind other : List ℕ) → b ∷ bytes ≡ before ++ rest → rest ≡ c ∷ behind → (t : List ℕ) × (before ++ (c ∷ other) ≡ b ∷ t)
  same_first [] b bytes rest c behind other split is =
      let heads : b ∷ bytes ≡ c ∷ behind = split ∙ is in
      let head : b ≡ c = cc in
      (other, ap (λ z. z ∷ other) (sym head))
  same_first (d ∷ ds) b bytes rest c behind other split is =
      let head : b ≡ d = cc in
      (ds ++ (c ∷ other), ap (λ z. z ∷ (ds ++ (c ∷ other))) (sym head))

  abbrev StopsOf : ℕ → Type 0
  StopsOf n = (next : ℤ) (more : List ℕ) → length more ≤ n → (stop : List ℕ) → all next more ≡ Err stop → Stops (IsFields F next) (all next) more stop

  fields_stops : (n : ℕ) (last : ℤ) (bytes : List ℕ) → length bytes ≤ n → (rest : List ℕ) → all last bytes ≡ Err rest → Stops (IsFields F last) (all last) bytes rest
  fields_stops n last [] within rest is =
      let both : ◌≡◌ {A = Outcome (List Field)} (Err []) (Err rest) = sym (all_none last) ∙ is in
      let same : [] ≡ rest = cc in
      record { before = []; split = same; more = 0 ∷ []; value = []; goes_on = refl; dead = λ b behind other eq. absurd (let end : [] ≡ b ∷ behind = same ∙ eq in cc) }
  fields_stops zero last (b ∷ bytes) within rest is = absurd (omega arith)
  fields_stops (suc n) last (b ∷ bytes) within rest is = by_end (λ next more short stop is. fields_stops n next more short stop is) (eqb b 0) refl
    where
      by_field : StopsOf n → eqb b 0 ≡ false → (o : Outcome Field) → f last (b ∷ bytes) ≡ o → Stops (IsFields F last) (all last) (b ∷ bytes) rest
      by_field again some (Err stop) e =
          let both : ◌≡◌ {A = Outcome (List Field)} (Err stop) (Err rest) = sym (all_err last b bytes stop some e) ∙ is in
          let same : stop ≡ rest = cc in
          let st = (reads last).stops (b ∷ bytes) rest (e ∙ ap Err same) in
          record {
            before = st.before;
            split = st.split;
            more = st.more ++ (0 ∷ []);
            value = st.value ∷ [];
            goes_on = (st.before ++ st.more, 0 ∷ [], sym (append_assoc st.before st.more (0 ∷ [])), st.goes_on, refl);
            dead = λ c behind other eq.
                let at = same_first st.before b bytes rest c behind other st.split eq in
                ap (all last) at.1 ∙ all_err last b at.0 (c ∷ other) some (ap (f last) (sym at.1) ∙ st.dead c behind other eq);
          }
      by_field again some (Ok p) e =
          let fewer = shorter last b bytes p.0 p.1 e in
          let first = (reads last).found (b ∷ bytes) p.0 p.1 e in
          let start = starts last first.0 p.0 first.2 in
          let st = again (id_of p.0) p.1 (omega (arith, fewer)) rest (stops_on (all (id_of p.0) p.1) p.0 rest (sym (all_ok last b bytes p.0 p.1 some e) ∙ is)) in
          record {
            before = first.0 ++ st.before;
            split = first.1 ∙ ap (λ r. first.0 ++ r) st.split ∙ sym (append_assoc first.0 st.before rest);
            more = st.more;
            value = p.0 ∷ st.value;
            goes_on = (first.0, st.before ++ st.more, append_assoc first.0 st.before st.more, first.2, st.goes_on);
            dead = λ c behind other eq.
                let tail : List ℕ = st.before ++ (c ∷ other) in
                let whole : (first.0 ++ st.before) ++ (c ∷ other) ≡ start.first ∷ (start.behind ++ tail) = append_assoc first.0 st.before (c ∷ other) ∙ ap (λ z. z ++ tail) start.split in
                let field : f last (start.first ∷ (start.behind ++ tail)) ≡ Ok (p.0, tail) = ap (λ z. f last (z ++ tail)) (sym start.split) ∙ (reads last).only first.0 p.0 tail first.2 in
                ap (all last) whole ∙ all_ok last start.first (start.behind ++ tail) p.0 tail start.some field ∙ ap (made (λ xs. p.0 ∷ xs)) (st.dead c behind other eq);
          }

      by_end : StopsOf n → (test : Bool) → eqb b 0 ≡ test → Stops (IsFields F last) (all last) (b ∷ bytes) rest
      by_end again false e = by_field again e _ refl
      by_end again true e = absurd (let both : ◌≡◌ {A = Outcome (List Field)} (Ok ([], bytes)) (Err rest) = sym (all_end last b bytes e) ∙ is in cc)

  pub fields_read : (last : ℤ) → IsReaderOf (IsFields F last) (all last)
  fields_read last = record {
    found = λ bytes fs rest is. fields_found (length bytes) last bytes (omega arith) fs rest is;
    only = fields_only last;
    stops = λ bytes rest is. fields_stops (length bytes) last bytes (omega arith) rest is;
    some = record { bytes = 0 ∷ []; value = []; is = refl };
  }
