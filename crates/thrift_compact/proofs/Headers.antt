-- The bytes that begin fields, lists, sets and the entries of maps are read as they are spelled.
use Rattle.std.proofs.Common.{◌≡◌, inl, inr, ℕ, ◌+◌, ◌*◌, ◌/◌, ◌%◌, ◌^◌, ◌<◌, eqb, ltb, Bool, true, false, cond, List, [], ◌∷◌, ◌++◌, Option, Some, None, refl, sym, ap, subst, ◌∙◌, arith, ℤ, pos, ◌+ℤ◌, ◌≤ℤ◌}
use Rattle.std.specs.Int.Signed.{lt_z}
use Rattle.std.proofs.lemmas.Int.{ints}
use Rattle.std.proofs.lemmas.Bool.{eqb-true, eqb-false, eq-eqb, ltb-true, lt-ltb}
use Rattle.std.proofs.lemmas.List.{append-nil}
use Rattle.std.proofs.lemmas.Nat.{pow_pos}
use Rattle.thrift_compact.specs.Kinds.{kind_of, code_of, may_stand}
use Rattle.thrift_compact.specs.Values.{allowed, id_after, start_with_id, start_by_kind, field_start, size_width, list_by_kind, list_start, entry_by_kinds, entry_kinds}
use Rattle.thrift_compact.specs.Grammar.{Form, Nothing, Made, Then, IsWhole, IsVarint, IsFieldHeader, IsListHeader, MayHold, IsEntryKinds}
use Rattle.thrift_compact.specs.Reading.{one, whole, varint, header_id, field_header, list_size, list_header}
use Rattle.thrift_compact.specs.declared.kind.Kind.{Kind}
use Rattle.thrift_compact.specs.declared.kind.Kind.TheVariants as kind
use Rattle.thrift_compact.specs.declared.header.FieldStart.{FieldStart}
use Rattle.thrift_compact.specs.declared.header.FieldHeader.{FieldHeader}
use Rattle.thrift_compact.specs.declared.header.ListStart.{ListStart}
use Rattle.thrift_compact.specs.declared.header.ListHeader.{ListHeader}
use Rattle.thrift_compact.specs.declared.header.EntryKinds.{EntryKinds}
use Rattle.thrift_compact.proofs.KindLaws.{IsAllowed, allowed_is, is_allowed, IsCode, code_range, kind_of-code, code-kind_of}
use Rattle.thrift_compact.proofs.Forms.{IsReaderOf, same_reads, made_reads, nothing_reads, then_reads, byte_reads, ByteOf}
use Rattle.thrift_compact.proofs.Numbers.{whole_reads, varint_reads}

abbrev start_of : Option ℤ → Kind → FieldStart
start_of id kind = record { id = id; kind = kind }

abbrev header_of : ℤ → Kind → FieldHeader
header_of id kind = record { id = id; kind = kind }

-- ---- the first byte of a field

-- the id that it tells
abbrev HasId : ℤ → ℕ → Option ℤ → Type 0
HasId last b None = b / 16 ≡ 0
HasId last b (Some id) = (0 < b / 16) × (id ≡ last +ℤ pos (b / 16)) × (id ≤ℤ pos 32767)

record IsStart (left : ℕ) (last : ℤ) (b : ℕ) (s : FieldStart) : Type 0 where
  pub kind : IsAllowed left (b % 16) s.kind
  pub id : HasId last b s.id

id_is : (last : ℤ) (delta : ℕ) (id : ℤ) (test : Bool) → lt_z (pos 32767) (last +ℤ pos delta) ≡ test → id_after last delta ≡ Some id → (id ≡ last +ℤ pos delta) × (id ≤ℤ pos 32767)
id_is last delta id true is found = absurd (let e : ◌≡◌ {A = Option ℤ} None (Some id) = rw is at found in cc)
id_is last delta id false is found =
    let e : ◌≡◌ {A = Option ℤ} (Some (last +ℤ pos delta)) (Some id) = rw is at found in
    let same : id ≡ last +ℤ pos delta = cc in
    let below : (last +ℤ pos delta) ≤ℤ pos 32767 = grind (arith, ints) in
    (same, rw same below)

is_id : (last : ℤ) (delta : ℕ) → (last +ℤ pos delta) ≤ℤ pos 32767 → id_after last delta ≡ Some (last +ℤ pos delta)
is_id last delta below =
    let test : lt_z (pos 32767) (last +ℤ pos delta) ≡ false = grind (arith, ints) in
    rw test refl

module _ (left : ℕ) (last : ℤ) (b : ℕ) (s : FieldStart) where
  with_id_is : (k : Kind) → IsAllowed left (b % 16) k → 0 < b / 16 → (o : Option ℤ) → id_after last (b / 16) ≡ o → start_with_id k o ≡ Some s → IsStart left last b s
  with_id_is k stands above None is found = absurd (cc)
  with_id_is k stands above (Some id) is found =
      let same : start_of (Some id) k ≡ s = cc in
      let known = id_is last (b / 16) id _ refl is in
      let all : IsStart left last b (start_of (Some id) k) = record { kind = stands; id = (above, known.0, known.1) } in
      subst (λ x. IsStart left last b x) same all

  by_half : (k : Kind) → IsAllowed left (b % 16) k → (test : Bool) → eqb (b / 16) 0 ≡ test → cond test (Some (start_of None k)) (start_with_id k (id_after last (b / 16))) ≡ Some s → IsStart left last b s
  by_half k stands true is found =
      let same : start_of None k ≡ s = cc in
      let all : IsStart left last b (start_of None k) = record { kind = stands; id = eqb-true (b / 16) 0 is } in
      subst (λ x. IsStart left last b x) same all
  by_half k stands false is found = with_id_is k stands (let none = eqb-false (b / 16) 0 is in omega (arith, none)) _ refl found

  by_kind : (o : Option Kind) → allowed left (kind_of (b % 16)) ≡ o → start_by_kind last b o ≡ Some s → IsStart left last b s
  by_kind None is found = absurd (cc)
  by_kind (Some k) is found = by_half k (allowed_is left (b % 16) k is) _ refl found

  start_is : field_start left last b ≡ Some s → IsStart left last b s
  unfolding field_start
  start_is found = by_kind _ refl found

long_start : (left : ℕ) (last : ℤ) (k : Kind) → may_stand left k ≡ true → field_start left last (code_of k) ≡ Some (start_of None k)
unfolding field_start
long_start left last k stands =
    let range = code_range k in
    let low : code_of k % 16 ≡ code_of k = omega (arith, range.high) in
    let kind : allowed left (kind_of (code_of k % 16)) ≡ Some k = is_allowed left (code_of k % 16) k (record { code = low; stands = stands }) in
    let half : eqb (code_of k / 16) 0 ≡ true = eq-eqb _ _ (omega (arith, range.high)) in
    ap (start_by_kind last (code_of k)) kind ∙ rw half refl

short_start : (left : ℕ) (last : ℤ) (k : Kind) (delta : ℕ) → may_stand left k ≡ true → 0 < delta → (last +ℤ pos delta) ≤ℤ pos 32767 → field_start left last (16 * delta + code_of k) ≡ Some (start_of (Some (last +ℤ pos delta)) k)
unfolding field_start
short_start left last k delta stands above below =
    let range = code_range k in
    let low : (16 * delta + code_of k) % 16 ≡ code_of k = omega (arith, range.high) in
    let high : (16 * delta + code_of k) / 16 ≡ delta = omega (arith, range.high) in
    let kind : allowed left (kind_of ((16 * delta + code_of k) % 16)) ≡ Some k = is_allowed left _ k (record { code = low; stands = stands }) in
    let half : eqb ((16 * delta + code_of k) / 16) 0 ≡ false = grind (arith, high) in
    let id : id_after last ((16 * delta + code_of k) / 16) ≡ Some (last +ℤ pos delta) = ap (id_after last) high ∙ is_id last delta below in
    ap (start_by_kind last (16 * delta + code_of k)) kind ∙ rw half (ap (start_with_id k) id)

-- ---- the header of a field

abbrev AfterStart : Kind → Option ℤ → Form FieldHeader
AfterStart k (Some id) = Nothing (header_of id k)
AfterStart k None = Made (λ id. header_of id k) (IsWhole 16)

after_start_reads : (k : Kind) (id : Option ℤ) → IsReaderOf (AfterStart k id) (header_id k id)
after_start_reads k (Some id) = nothing_reads (header_of id k)
after_start_reads k None = made_reads (λ id. header_of id k) (IsWhole 16) (whole 16) (whole_reads 16)

module _ (left : ℕ) (last : ℤ) where
  field_header_by : (bytes : List ℕ) (h : FieldHeader) (s : FieldStart) (b : ℕ) (back : List ℕ) → bytes ≡ b ∷ back → IsStart left last b s → (id : Option ℤ) → s.id ≡ id → AfterStart s.kind id back h → IsFieldHeader left last bytes h
  field_header_by bytes h s b back split start None e (id, whole, is) =
      let half : b / 16 ≡ 0 = let P : Option ℤ → Type 0 = HasId last b in subst P e start.id in
      let code : b ≡ code_of s.kind = omega (arith, start.kind.code) in
      rw is (inr (back, split ∙ ap (λ x. x ∷ back) code, whole), start.kind.stands)
  field_header_by bytes h s b back split start (Some id) e after =
      let tells : HasId last b (Some id) = let P : Option ℤ → Type 0 = HasId last b in subst P e start.id in
      let code : b ≡ 16 * (b / 16) + code_of s.kind = omega (arith, start.kind.code) in
      let whole : bytes ≡ (16 * (b / 16) + code_of s.kind) ∷ [] = split ∙ ap (λ x. b ∷ x) after.0 ∙ ap (λ x. x ∷ []) code in
      rw after.1 (inl (b / 16, tells.0, whole, tells.1, tells.2), start.kind.stands)

  field_header_to : (bytes : List ℕ) (h : FieldHeader) → Then (ByteOf (field_start left last)) (λ s. AfterStart s.kind s.id) bytes h → IsFieldHeader left last bytes h
  field_header_to bytes h (s, a, back, split, (b, one_byte, is), after) = field_header_by bytes h s b back (split ∙ ap (λ x. x ++ back) one_byte) (start_is left last b s is) s.id refl after

  field_header_back : (bytes : List ℕ) (h : FieldHeader) → IsFieldHeader left last bytes h → Then (ByteOf (field_start left last)) (λ s. AfterStart s.kind s.id) bytes h
  field_header_back bytes h (inl (delta, above, whole, id, below), stands) =
      let good : (last +ℤ pos delta) ≤ℤ pos 32767 = subst (λ z. z ≤ℤ pos 32767) id below in
      let start = short_start left last h.kind delta stands above good in
      (start_of (Some (last +ℤ pos delta)) h.kind, bytes, [], sym (append-nil bytes), (16 * delta + code_of h.kind, whole, start), (refl, ap (λ z. header_of z h.kind) id))
  field_header_back bytes h (inr (back, whole, id), stands) =
      (start_of None h.kind, code_of h.kind ∷ [], back, whole, (code_of h.kind, refl, long_start left last h.kind stands), (h.id, id, refl))

  pub field_header_reads : IsReaderOf (IsFieldHeader left last) (field_header left last)
  field_header_reads = same_reads (IsFieldHeader left last)
      (then_reads (λ s. Unit {0}) (ByteOf (field_start left last)) (one (field_start left last)) (λ s. AfterStart s.kind s.id) (λ s bytes. header_id s.kind s.id bytes)
      (byte_reads (field_start left last) (code_of kind.True) (start_of None kind.True) (long_start left last kind.True refl)) (λ front s r. tt) (λ s p. after_start_reads s.kind s.id))
      field_header_to field_header_back

-- ---- the header of a list or a set

abbrev list_start_of : Option ℕ → Kind → ListStart
list_start_of size kind = record { size = size; kind = kind }

abbrev list_header_of : ℕ → Kind → ListHeader
list_header_of size kind = record { size = size; kind = kind }

abbrev TellsSize : ℕ → Kind → ℕ → Option ℕ → Type 0
TellsSize left k b None = b / 16 ≡ 15
TellsSize left k b (Some size) = (size ≡ b / 16) × (size < 15) × MayHold left k size

record IsListStart (left b : ℕ) (s : ListStart) : Type 0 where
  pub code : b % 16 ≡ code_of s.kind
  pub size : TellsSize left s.kind b s.size

module _ (left b : ℕ) (s : ListStart) where
  list_some : (k : Kind) → b % 16 ≡ code_of k → (size : Option ℕ) → TellsSize left k b size → ◌≡◌ {A = Option ListStart} (Some (list_start_of size k)) (Some s) → IsListStart left b s
  list_some k code size tells found =
      let same : list_start_of size k ≡ s = cc in
      let all : IsListStart left b (list_start_of size k) = record { code = code; size = tells } in
      subst (λ x. IsListStart left b x) same all

  list_by_room : (k : Kind) → b % 16 ≡ code_of k → b / 16 < 15 → (test : Bool) → may_stand left k ≡ test → cond test (Some (list_start_of (Some (b / 16)) k)) None ≡ Some s → IsListStart left b s
  list_by_room k code small false is found = absurd (cc)
  list_by_room k code small true is found = list_some k code (Some (b / 16)) (refl, small, inr is) found

  list_by_small : (k : Kind) → b % 16 ≡ code_of k → (test : Bool) → ltb (b / 16) 15 ≡ test → cond test (cond (may_stand left k) (Some (list_start_of (Some (b / 16)) k)) None) None ≡ Some s → IsListStart left b s
  list_by_small k code false is found = absurd (cc)
  list_by_small k code true is found = list_by_room k code (ltb-true (b / 16) 15 is) _ refl found

  list_by_zero : (k : Kind) → b % 16 ≡ code_of k → (test : Bool) → eqb (b / 16) 0 ≡ test → cond test (Some (list_start_of (Some 0) k)) (cond (ltb (b / 16) 15) (cond (may_stand left k) (Some (list_start_of (Some (b / 16)) k)) None) None) ≡ Some s → IsListStart left b s
  list_by_zero k code true is found = list_some k code (Some 0) (sym (eqb-true (b / 16) 0 is), omega arith, inl refl) found
  list_by_zero k code false is found = list_by_small k code _ refl found

  list_by_long : (k : Kind) → b % 16 ≡ code_of k → (test : Bool) → eqb (b / 16) 15 ≡ test
      → cond test (Some (list_start_of None k)) (cond (eqb (b / 16) 0) (Some (list_start_of (Some 0) k)) (cond (ltb (b / 16) 15) (cond (may_stand left k) (Some (list_start_of (Some (b / 16)) k)) None) None)) ≡ Some s → IsListStart left b s
  list_by_long k code true is found = list_some k code None (eqb-true (b / 16) 15 is) found
  list_by_long k code false is found = list_by_zero k code _ refl found

  list_by_code : (o : Option Kind) → kind_of (b % 16) ≡ o → list_by_kind left b o ≡ Some s → IsListStart left b s
  list_by_code None is found = absurd (cc)
  list_by_code (Some k) is found = list_by_long k (code-kind_of (b % 16) k is) _ refl found

  list_start_is : list_start left b ≡ Some s → IsListStart left b s
  unfolding list_start
  list_start_is found = list_by_code _ refl found

long_list : (left : ℕ) (k : Kind) → list_start left (240 + code_of k) ≡ Some (list_start_of None k)
unfolding list_start
long_list left k =
    let range = code_range k in
    let kind : kind_of ((240 + code_of k) % 16) ≡ Some k = ap kind_of (omega (arith, range.high)) ∙ kind_of-code k in
    let half : eqb ((240 + code_of k) / 16) 15 ≡ true = eq-eqb _ _ (omega (arith, range.high)) in
    ap (list_by_kind left (240 + code_of k)) kind ∙ rw half refl

short_list : (left : ℕ) (k : Kind) (size : ℕ) → size < 15 → MayHold left k size → list_start left (16 * size + code_of k) ≡ Some (list_start_of (Some size) k)
unfolding list_start
short_list left k size small holds = kind_first ∙ rw long (by_room holds)
  where
    range : IsCode (code_of k)
    range = code_range k

    half : (16 * size + code_of k) / 16 ≡ size
    half = omega (arith, range.high)

    kind_first : list_by_kind left (16 * size + code_of k) (kind_of ((16 * size + code_of k) % 16)) ≡ list_by_kind left (16 * size + code_of k) (Some k)
    kind_first = ap (list_by_kind left (16 * size + code_of k)) (ap kind_of (omega (arith, range.high)) ∙ kind_of-code k)

    long : eqb ((16 * size + code_of k) / 16) 15 ≡ false
    long = grind (arith, half)

    by_room : MayHold left k size → cond (eqb ((16 * size + code_of k) / 16) 0) (Some (list_start_of (Some 0) k)) (cond (ltb ((16 * size + code_of k) / 16) 15) (cond (may_stand left k) (Some (list_start_of (Some ((16 * size + code_of k) / 16)) k)) None) None) ≡ Some (list_start_of (Some size) k)
    by_room (inl none) =
        let zero_is : eqb ((16 * size + code_of k) / 16) 0 ≡ true = eq-eqb _ _ (half ∙ none) in
        rw zero_is (ap (λ z. Some (list_start_of (Some z) k)) (sym none))
    by_room (inr stands) = by_zero (eqb ((16 * size + code_of k) / 16) 0) refl
      where
        by_zero : (test : Bool) → eqb ((16 * size + code_of k) / 16) 0 ≡ test → cond test (Some (list_start_of (Some 0) k)) (cond (ltb ((16 * size + code_of k) / 16) 15) (cond (may_stand left k) (Some (list_start_of (Some ((16 * size + code_of k) / 16)) k)) None) None) ≡ Some (list_start_of (Some size) k)
        by_zero true is = ap (λ z. Some (list_start_of (Some z) k)) (sym (eqb-true _ 0 is) ∙ half)
        by_zero false is =
            let below : ltb ((16 * size + code_of k) / 16) 15 ≡ true = lt-ltb _ _ (omega (arith, half, small)) in
            rw (below, stands) (ap (λ z. Some (list_start_of (Some z) k)) half)

abbrev AfterListStart : ℕ → Kind → Option ℕ → Form ListHeader
AfterListStart left k (Some size) = Nothing (list_header_of size k)
AfterListStart left k None = Made (λ size. list_header_of size k) (IsVarint (size_width left k))

after_list_start_reads : (left : ℕ) (k : Kind) (size : Option ℕ) → IsReaderOf (AfterListStart left k size) (list_size left k size)
after_list_start_reads left k (Some size) = nothing_reads (list_header_of size k)
after_list_start_reads left k None = made_reads (λ size. list_header_of size k) (IsVarint (size_width left k)) (varint (size_width left k)) (varint_reads (size_width left k))

-- A size of this width is one of 64 bits that is 0 where no element may stand.
size_to : (left : ℕ) (k : Kind) (bytes : List ℕ) (size : ℕ) → IsVarint (size_width left k) bytes size → IsVarint 64 bytes size × MayHold left k size
size_to left k bytes size is = by_test (may_stand left k) refl is.fits
  where
    by_test : (test : Bool) → may_stand left k ≡ test → size < 2 ^ (cond test 64 0) → IsVarint 64 bytes size × MayHold left k size
    by_test true e fits = (record { uleb = is.uleb; short = is.short; fits = fits }, inr e)
    by_test false e fits = (record { uleb = is.uleb; short = is.short; fits = omega arith }, inl (omega arith))

size_back : (left : ℕ) (k : Kind) (bytes : List ℕ) (size : ℕ) → IsVarint 64 bytes size → MayHold left k size → IsVarint (size_width left k) bytes size
size_back left k bytes size is (inr stands) = record { uleb = is.uleb; short = is.short; fits = rw stands is.fits }
size_back left k bytes size is (inl none) = record { uleb = is.uleb; short = is.short; fits = omega (arith, pow_pos (size_width left k)) }

module _ (left : ℕ) where
  list_header_by : (bytes : List ℕ) (h : ListHeader) (s : ListStart) (b : ℕ) (back : List ℕ) → bytes ≡ b ∷ back → IsListStart left b s → (size : Option ℕ) → s.size ≡ size → AfterListStart left s.kind size back h → IsListHeader left bytes h
  list_header_by bytes h s b back split start None e (size, varint, is) =
      let half : b / 16 ≡ 15 = let P : Option ℕ → Type 0 = TellsSize left s.kind b in subst P e start.size in
      let code : b ≡ 240 + code_of s.kind = omega (arith, start.code) in
      let both = size_to left s.kind back size varint in
      rw is (inr (back, split ∙ ap (λ x. x ∷ back) code, both.0), both.1)
  list_header_by bytes h s b back split start (Some size) e after =
      let tells : TellsSize left s.kind b (Some size) = let P : Option ℕ → Type 0 = TellsSize left s.kind b in subst P e start.size in
      let code : b ≡ 16 * size + code_of s.kind = omega (arith, start.code, tells.0) in
      let whole : bytes ≡ (16 * size + code_of s.kind) ∷ [] = split ∙ ap (λ x. b ∷ x) after.0 ∙ ap (λ x. x ∷ []) code in
      rw after.1 (inl (tells.1, whole), tells.2)

  list_header_to : (bytes : List ℕ) (h : ListHeader) → Then (ByteOf (list_start left)) (λ s. AfterListStart left s.kind s.size) bytes h → IsListHeader left bytes h
  list_header_to bytes h (s, a, back, split, (b, one_byte, is), after) = list_header_by bytes h s b back (split ∙ ap (λ x. x ++ back) one_byte) (list_start_is left b s is) s.size refl after

  list_header_back : (bytes : List ℕ) (h : ListHeader) → IsListHeader left bytes h → Then (ByteOf (list_start left)) (λ s. AfterListStart left s.kind s.size) bytes h
  list_header_back bytes h (inl (small, whole), holds) =
      (list_start_of (Some h.size) h.kind, bytes, [], sym (append-nil bytes), (16 * h.size + code_of h.kind, whole, short_list left h.kind h.size small holds), (refl, refl))
  list_header_back bytes h (inr (back, whole, varint), holds) =
      (list_start_of None h.kind, (240 + code_of h.kind) ∷ [], back, whole, (240 + code_of h.kind, refl, long_list left h.kind), (h.size, size_back left h.kind back h.size varint holds, refl))

  pub list_header_reads : IsReaderOf (IsListHeader left) (list_header left)
  list_header_reads = same_reads (IsListHeader left)
      (then_reads (λ s. Unit {0}) (ByteOf (list_start left)) (one (list_start left)) (λ s. AfterListStart left s.kind s.size) (λ s bytes. list_size left s.kind s.size bytes)
      (byte_reads (list_start left) (240 + code_of kind.True) (list_start_of None kind.True) (long_list left kind.True)) (λ front s r. tt) (λ s p. after_list_start_reads left s.kind s.size))
      list_header_to list_header_back

-- ---- the types of a map

abbrev kinds_of : Kind → Kind → EntryKinds
kinds_of key value = record { key = key; value = value }

record AreKinds (left b : ℕ) (kinds : EntryKinds) : Type 0 where
  pub key : IsAllowed left (b / 16) kinds.key
  pub value : IsAllowed left (b % 16) kinds.value

kinds_by : (left b : ℕ) (kinds : EntryKinds) (o p : Option Kind) → allowed left (kind_of (b / 16)) ≡ o → allowed left (kind_of (b % 16)) ≡ p → entry_by_kinds o p ≡ Some kinds → AreKinds left b kinds
kinds_by left b kinds None None e f found = absurd (cc)
kinds_by left b kinds None (Some v) e f found = absurd (cc)
kinds_by left b kinds (Some k) None e f found = absurd (cc)
kinds_by left b kinds (Some k) (Some v) e f found =
    let same : kinds_of k v ≡ kinds = cc in
    let all : AreKinds left b (kinds_of k v) = record { key = allowed_is left (b / 16) k e; value = allowed_is left (b % 16) v f } in
    subst (λ x. AreKinds left b x) same all

kinds_are : (left b : ℕ) (kinds : EntryKinds) → entry_kinds left b ≡ Some kinds → AreKinds left b kinds
unfolding entry_kinds
kinds_are left b kinds found = kinds_by left b kinds _ _ refl refl found

two_kinds : (left : ℕ) (key value : Kind) → may_stand left key ≡ true → may_stand left value ≡ true → entry_kinds left (16 * code_of key + code_of value) ≡ Some (kinds_of key value)
unfolding entry_kinds
two_kinds left key value stands also =
    let range = code_range value in
    let first : allowed left (kind_of ((16 * code_of key + code_of value) / 16)) ≡ Some key = is_allowed left _ key (record { code = omega (arith, range.high); stands = stands }) in
    let second : allowed left (kind_of ((16 * code_of key + code_of value) % 16)) ≡ Some value = is_allowed left _ value (record { code = omega (arith, range.high); stands = also }) in
    ap (λ o. entry_by_kinds o (allowed left (kind_of ((16 * code_of key + code_of value) % 16)))) first ∙ ap (λ o. entry_by_kinds (Some key) o) second

pub entry_kinds_reads : (left : ℕ) → IsReaderOf (IsEntryKinds left) (one (entry_kinds left))
entry_kinds_reads left = same_reads (IsEntryKinds left) (byte_reads (entry_kinds left) (16 * code_of kind.True + code_of kind.True) (kinds_of kind.True kind.True) (two_kinds left kind.True kind.True refl refl))
    (λ bytes kinds r. let known = kinds_are left r.0 kinds r.2 in (r.1 ∙ ap (λ x. x ∷ []) (omega (arith, known.key.code, known.value.code)), known.key.stands, known.value.stands))
    (λ bytes kinds r. (16 * code_of kinds.key + code_of kinds.value, r.0, two_kinds left kinds.key kinds.value r.1 r.2))
