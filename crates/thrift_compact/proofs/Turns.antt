-- The loops over elements, entries and fields.
use Rattle.std.proofs.Common.{◌≡◌, ℕ, zero, suc, ◌+◌, ◌-◌, ◌<◌, ◌≤◌, eqb, true, false, List, [], ◌∷◌, ◌++◌, length, Some, Result, Ok, Err, refl, sym, ap, subst, ◌∙◌, arith, ℤ, pos, append_assoc}
use Rattle.std.specs.Prelude.{slice_get}
use Rattle.std.specs.Option.{option_map_or}
use Rattle.std.proofs.lemmas.Option.{slice_get-get_or}
use Rattle.std.proofs.lemmas.List.{append-nil, length_push, get_or_push}
use Rattle.thrift_compact.specs.Values.{id_of}
use Rattle.thrift_compact.specs.Grammar as g
use Rattle.thrift_compact.specs.Reading as r
use Rattle.thrift_compact.specs.Reading.{Outcome, Reader, ◌>>=◌, made, times}
use Rattle.thrift_compact.specs.Steps.{StepsTo, behind, is_end}
use Rattle.thrift_compact.proofs.Steps.{joined}
use Rattle.thrift_compact.specs.declared.fault.Fault.{Fault}
use Rattle.thrift_compact.specs.declared.fault.Fault.TheVariants.{Memory, Refused}
use Rattle.thrift_compact.specs.declared.kind.Kind.{Kind}
use Rattle.thrift_compact.specs.declared.value.Value.{Value}
use Rattle.thrift_compact.specs.declared.tree.Field.{Field}
use Rattle.thrift_compact.proofs.Forms.{IsReaderOf}
use Rattle.thrift_compact.proofs.FieldLaws.{Starts, shorter, all_ok, all_err, all_end}
use Rattle.thrift_compact.proofs.ValueLaws.{value_reads, field_reads, field_starts}

pub joined-none : {A : Type 0} (o : Outcome (List A)) → o ≡ joined [] o
joined-none (Ok p) = refl
joined-none (Err rest) = refl

joined-more : {A : Type 0} (so_far : List A) (x : A) (o : Outcome (List A)) → joined so_far (made (λ xs. x ∷ xs) o) ≡ joined (so_far ++ (x ∷ [])) o
joined-more so_far x (Ok p) = ap (λ xs. Ok (xs, p.1)) (sym (append_assoc so_far (x ∷ []) p.0))
joined-more so_far x (Err rest) = refl

-- ---- so many values

module _ {A : Type 0} (f : Reader A) (count counter : ℕ) (total : Outcome (List A)) (so_far : List A) (bytes : List ℕ) (left : total ≡ joined so_far (times f (count - counter) bytes)) where
  opened : counter < count → total ≡ joined so_far (f bytes >>= λ x. made (λ xs. x.0 ∷ xs) (times f (count - (counter + 1)) x.1))
  unfolding times
  opened below =
      let more : count - counter ≡ suc (count - (counter + 1)) = omega arith in
      left ∙ ap (λ n. joined so_far (times f n bytes)) more

  pub turn : counter < count → (x : A) (rest : List ℕ) → f bytes ≡ Ok (x, rest) → total ≡ joined (so_far ++ (x ∷ [])) (times f (count - (counter + 1)) rest)
  turn below x rest is = opened below ∙ rw is (joined-more so_far x (times f (count - (counter + 1)) rest))

  pub fails : counter < count → (e : Fault) (rest : List ℕ) → StepsTo (f bytes) (Err e) rest → StepsTo total (Err e) rest
  fails below Refused rest is = opened below ∙ rw is refl
  fails below Memory rest is = is

  pub done : count ≤ counter → total ≡ Ok (so_far, bytes)
  unfolding times
  done over =
      let none : count - counter ≡ 0 = omega arith in
      left ∙ rw none (ap (λ xs. Ok (xs, bytes)) (append-nil so_far))

-- ---- fields

pub last_id-push : (fields : List Field) (x : Field) → r.last_id (fields ++ (x ∷ [])) ≡ id_of x
last_id-push fields x =
    let size : length (fields ++ (x ∷ [])) ≡ length fields + 1 = length_push fields x in
    let place : length (fields ++ (x ∷ [])) - 1 ≡ length fields = omega (arith, size) in
    let last : slice_get (fields ++ (x ∷ [])) (length fields) ≡ Some x = slice_get-get_or (fields ++ (x ∷ [])) (length fields) x (omega (arith, size)) ∙ ap Some (get_or_push fields x x (length fields) refl) in
    ap (λ o. option_map_or id_of o (pos 0)) (ap (slice_get (fields ++ (x ∷ []))) place ∙ last)

module _ (left : ℕ) (last : ℤ) (total : Outcome (List Field)) (so_far : List Field) (bytes : List ℕ) (more : total ≡ joined so_far (r.fields left (r.value left) last bytes)) where
  abbrev form : ℤ → g.Form Field
  form = g.IsField left (g.IsValue left)

  abbrev reader : ℤ → Reader Field
  reader = r.field left (r.value left)

  reads : (last : ℤ) → IsReaderOf (form last) (reader last)
  reads = field_reads left (g.IsValue left) (r.value left) (value_reads left)

  starts : (last : ℤ) (front : List ℕ) (x : Field) → form last front x → Starts front
  starts = field_starts left (g.IsValue left)

  -- the byte with which a field begins isn't 0
  begins : (b : ℕ) (t : List ℕ) (x : Field) (rest : List ℕ) → reader last (b ∷ t) ≡ Ok (x, rest) → eqb b 0 ≡ false
  begins b t x rest is =
      let found = (reads last).found (b ∷ t) x rest is in
      let start = starts last found.0 x found.2 in
      let split : b ∷ t ≡ start.first ∷ (start.behind ++ rest) = found.1 ∙ ap (λ z. z ++ rest) start.split in
      let first : b ≡ start.first = cc in
      ap (λ c. eqb c 0) first ∙ start.some

  field_turn_at : (all : List ℕ) → bytes ≡ all → (x : Field) (rest : List ℕ) → reader last all ≡ Ok (x, rest) → total ≡ joined (so_far ++ (x ∷ [])) (r.fields left (r.value left) (id_of x) rest)
  field_turn_at [] e x rest is = absurd (cc)
  field_turn_at (b ∷ t) e x rest is =
      more ∙ ap (λ z. joined so_far (r.fields left (r.value left) last z)) e ∙ ap (joined so_far) (all_ok form reader reads starts last b t x rest (begins b t x rest is) is) ∙ joined-more so_far x (r.fields left (r.value left) (id_of x) rest)

  pub field_turn : (x : Field) (rest : List ℕ) → reader last bytes ≡ Ok (x, rest) → total ≡ joined (so_far ++ (x ∷ [])) (r.fields left (r.value left) (r.last_id (so_far ++ (x ∷ []))) rest)
  field_turn x rest is = field_turn_at bytes refl x rest is ∙ ap (λ id. joined (so_far ++ (x ∷ [])) (r.fields left (r.value left) id rest)) (sym (last_id-push so_far x))

  field_shorter_at : (all : List ℕ) → bytes ≡ all → (x : Field) (rest : List ℕ) → reader last all ≡ Ok (x, rest) → length rest < length all
  field_shorter_at [] e x rest is = absurd (cc)
  field_shorter_at (b ∷ t) e x rest is = let fewer = shorter form reader reads starts last b t x rest is in omega (arith, fewer)

  pub field_shorter : (x : Field) (rest : List ℕ) → reader last bytes ≡ Ok (x, rest) → length rest < length bytes
  field_shorter x rest is = field_shorter_at bytes refl x rest is

  field_fails_at : (all : List ℕ) → bytes ≡ all → is_end all ≡ false → (rest : List ℕ) → reader last all ≡ Err rest → total ≡ Err rest
  unfolding r.fields_of
  field_fails_at [] e open_yet rest is =
      let same : [] ≡ rest = cc in
      more ∙ ap (λ z. joined so_far (r.fields left (r.value left) last z)) e ∙ ap Err same
  field_fails_at (b ∷ t) e open_yet rest is =
      more ∙ ap (λ z. joined so_far (r.fields left (r.value left) last z)) e ∙ ap (joined so_far) (all_err form reader reads starts last b t rest open_yet is)

  pub field_fails : is_end bytes ≡ false → (e : Fault) (rest : List ℕ) → StepsTo (reader last bytes) (Err e) rest → StepsTo total (Err e) rest
  field_fails open_yet Refused rest is = field_fails_at bytes refl open_yet rest is
  field_fails open_yet Memory rest is = is

  fields_done_at : (all : List ℕ) → bytes ≡ all → is_end all ≡ true → total ≡ Ok (so_far, behind all)
  fields_done_at [] e closed = absurd (cc)
  fields_done_at (b ∷ t) e closed =
      more ∙ ap (λ z. joined so_far (r.fields left (r.value left) last z)) e ∙ ap (joined so_far) (all_end form reader reads starts last b t closed) ∙ ap (λ xs. Ok (xs, t)) (append-nil so_far)

  pub fields_done : is_end bytes ≡ true → total ≡ Ok (so_far, behind bytes)
  fields_done closed = fields_done_at bytes refl closed

-- ---- values

pub value_none : (left : ℕ) (k : Kind) (bytes rest : List ℕ) (result : Result Value Fault) → left ≡ 0 → StepsTo (r.scalar k bytes) result rest → StepsTo (r.value left k bytes) result rest
unfolding r.value
value_none zero k bytes rest result none is = is
value_none (suc left) k bytes rest result none is = absurd (omega arith)

pub value_some : (left : ℕ) (k : Kind) (bytes rest : List ℕ) (result : Result Value Fault) → 0 < left → StepsTo (r.level (left - 1) (r.value (left - 1)) k bytes) result rest → StepsTo (r.value left k bytes) result rest
unfolding r.value
value_some zero k bytes rest result some is = absurd (omega arith)
value_some (suc left) k bytes rest result some is =
    let same : suc left - 1 ≡ left = omega arith in
    subst (λ n. StepsTo (r.level n (r.value n) k bytes) result rest) same is
