-- Varints and whole numbers are read as they are spelled.
use Rattle.std.proofs.Common.{◌≡◌, ℕ, zero, suc, ◌+◌, ◌-◌, ◌*◌, ◌%◌, ◌^◌, ◌<◌, ◌≤◌, ltb, Bool, true, false, List, [], ◌∷◌, ◌++◌, length, Option, Some, None, Ok, refl, sym, ap, subst, ◌∙◌, arith, ℤ, pos, pow-add}
use Rattle.std.specs.Prelude.{negsuc, if◌then◌else◌}
use Rattle.std.proofs.Math.Pow.{pow_mono}
use Rattle.std.proofs.lemmas.Nat.{pow_pos}
use Rattle.std.proofs.lemmas.Bool.{ltb-true, lt-ltb, ltb-false, le-ltb}
use Rattle.thrift_compact.specs.Grammar.{Form, Nothing, Made, Then, IsUleb, IsVarint, zigzag, IsWhole}
use Rattle.thrift_compact.specs.Values.{varint_byte}
use Rattle.thrift_compact.specs.Reading.{made, one, varint_of, varint_on, varint, unzigzag, whole}
use Rattle.thrift_compact.specs.declared.header.VarintByte.{VarintByte}
use Rattle.thrift_compact.proofs.VarintLoop.{low_and_high}
use Rattle.thrift_compact.proofs.Forms.{IsReaderOf, same_reads, made_reads, nothing_reads, then_reads, byte_reads, ByteOf}

abbrev byte_of : ℕ → Bool → VarintByte
byte_of low more = record { low = low; more = more }

-- ---- what a byte means

pub record Means (width : ℕ) (may_go_on : Bool) (b : ℕ) (byte : VarintByte) : Type 0 where
  pub low : byte.low ≡ b % 128
  pub below : byte.low < 2 ^ width
  pub last : byte.more ≡ false → b < 128
  pub more : byte.more ≡ true → (128 ≤ b) × (may_go_on ≡ true)

means_last : (width : ℕ) (m : Bool) (b : ℕ) (byte : VarintByte) → ltb (b % 128) (2 ^ width) ≡ true → ltb b 128 ≡ true → ◌≡◌ {A = Option VarintByte} (Some (byte_of (b % 128) false)) (Some byte) → Means width m b byte
means_last width m b byte below last is =
    let same : byte_of (b % 128) false ≡ byte = cc in
    let low : b % 128 ≡ byte.low = ap (λ (x : VarintByte). x.low) same in
    let ends : false ≡ byte.more = ap (λ (x : VarintByte). x.more) same in
    record { low = sym low; below = omega (arith, low, ltb-true (b % 128) (2 ^ width) below); last = λ e. ltb-true b 128 last; more = λ e. absurd (let no_more : false ≡ true = ends ∙ e in cc) }

means_more : (width b : ℕ) (byte : VarintByte) → ltb (b % 128) (2 ^ width) ≡ true → ltb b 128 ≡ false → ◌≡◌ {A = Option VarintByte} (Some (byte_of (b % 128) true)) (Some byte) → Means width true b byte
means_more width b byte below last is =
    let same : byte_of (b % 128) true ≡ byte = cc in
    let low : b % 128 ≡ byte.low = ap (λ (x : VarintByte). x.low) same in
    let goes : true ≡ byte.more = ap (λ (x : VarintByte). x.more) same in
    record { low = sym low; below = omega (arith, low, ltb-true (b % 128) (2 ^ width) below); last = λ e. absurd (let no_more : true ≡ false = goes ∙ e in cc); more = λ e. (ltb-false b 128 last, refl) }

means_by : (width : ℕ) (m : Bool) (b : ℕ) (byte : VarintByte) (below last : Bool) → ltb (b % 128) (2 ^ width) ≡ below → ltb b 128 ≡ last → varint_byte width m b ≡ Some byte → Means width m b byte
unfolding varint_byte
means_by width m b byte false last is_below is_last is = absurd (let e : ◌≡◌ {A = Option VarintByte} None (Some byte) = rw is_below at is in cc)
means_by width m b byte true true is_below is_last is = means_last width m b byte is_below is_last (rw (is_below, is_last) at is)
means_by width true b byte true false is_below is_last is = means_more width b byte is_below is_last (rw (is_below, is_last) at is)
means_by width false b byte true false is_below is_last is = absurd (let e : ◌≡◌ {A = Option VarintByte} None (Some byte) = rw (is_below, is_last) at is in cc)

pub means : (width : ℕ) (m : Bool) (b : ℕ) (byte : VarintByte) → varint_byte width m b ≡ Some byte → Means width m b byte
means width m b byte is = means_by width m b byte _ _ refl refl is

pub byte_last : (width : ℕ) (m : Bool) (b : ℕ) → b < 128 → b < 2 ^ width → varint_byte width m b ≡ Some (byte_of b false)
unfolding varint_byte
byte_last width m b small below =
    let low : b % 128 ≡ b = omega arith in
    let first : ltb (b % 128) (2 ^ width) ≡ true = lt-ltb (b % 128) (2 ^ width) (omega (arith, low)) in
    let second : ltb b 128 ≡ true = lt-ltb b 128 small in
    rw (first, second) (ap (λ n. Some (byte_of n false)) low)

pub byte_more : (width b : ℕ) → 128 ≤ b → b % 128 < 2 ^ width → varint_byte width true b ≡ Some (byte_of (b % 128) true)
unfolding varint_byte
byte_more width b large below =
    let first : ltb (b % 128) (2 ^ width) ≡ true = lt-ltb (b % 128) (2 ^ width) below in
    let second : ltb b 128 ≡ false = le-ltb b 128 large in
    rw (first, second) refl

-- ---- a varint of at most so many bytes

pub record Uleb (room width : ℕ) (bytes : List ℕ) (number : ℕ) : Type 0 where
  pub uleb : IsUleb bytes number
  pub short : length bytes ≤ room
  pub fits : number < 2 ^ width

-- what follows a byte
abbrev After : ℕ → ℕ → VarintByte → Form ℕ
After room width byte bytes number = elim byte.more as (λ _. Type 0) [ true ↦ Made (λ high. byte.low + 128 * high) (Uleb room (width - 7)) bytes number | false ↦ Nothing byte.low bytes number ]

record Passed (room width : ℕ) (byte : VarintByte) : Type 0 where
  pub below : byte.low < 2 ^ width
  pub more : byte.more ≡ true → 0 < room

uleb_to : (room width : ℕ) (bytes : List ℕ) (number : ℕ) → Then (ByteOf (varint_byte width (ltb 0 room))) (After room width) bytes number → Uleb (suc room) width bytes number
uleb_to room width bytes number (byte, a, b, split, r, s) = by_more byte.more refl s
  where
    known : Means width (ltb 0 room) r.0 byte
    known = means width (ltb 0 room) r.0 byte r.2

    by_more : (more : Bool) → byte.more ≡ more → elim more as (λ _. Type 0) [ true ↦ Made (λ high. byte.low + 128 * high) (Uleb room (width - 7)) b number | false ↦ Nothing byte.low b number ] → Uleb (suc room) width bytes number
    by_more false e s =
        let whole : bytes ≡ r.0 ∷ [] = split ∙ ap (λ x. x ++ b) r.1 ∙ ap (λ x. r.0 ∷ x) s.0 in
        let value : number ≡ r.0 = omega (arith, s.1, known.low, known.last e) in
        record { uleb = rw whole (known.last e, value); short = rw whole (omega arith); fits = omega (arith, s.1, known.below) }
    by_more true e s =
        let high = s.1 in
        let whole : bytes ≡ r.0 ∷ b = split ∙ ap (λ x. x ++ b) r.1 in
        record {
          uleb = rw whole (onto b number (known.more e).0 s.0 (s.2 ∙ ap (λ n. n + 128 * s.0) known.low) high.uleb);
          short = rw whole (omega (arith, high.short));
          fits = let bound = low_and_high width byte.low s.0 (omega (arith, known.low)) known.below high.fits in omega (arith, s.2, bound);
        }
      where
        onto : (b : List ℕ) (number : ℕ) → 128 ≤ r.0 → (high : ℕ) → number ≡ r.0 % 128 + 128 * high → IsUleb b high → IsUleb (r.0 ∷ b) number
        onto [] number large high is uleb = absurd uleb
        onto (c ∷ cs) number large high is uleb = (large, (high, is, uleb))

high_below : (width low high : ℕ) → low + 128 * high < 2 ^ width → high < 2 ^ (width - 7)
high_below width low high below = by_order (ltb width 7) refl
  where
    by_order : (narrow : Bool) → ltb width 7 ≡ narrow → high < 2 ^ (width - 7)
    by_order true is =
        let narrow : width ≤ 7 = omega (arith, ltb-true width 7 is) in
        let small : 2 ^ width ≤ 2 ^ 7 = pow_mono narrow in
        omega (arith, small, pow_pos (width - 7))
    by_order false is =
        let wide : 7 ≤ width = ltb-false width 7 is in
        let split : 2 ^ width ≡ 128 * 2 ^ (width - 7) = ap (λ n. 2 ^ n) (omega arith) ∙ pow-add 2 7 (width - 7) in
        omega (arith, split)

uleb_back : (room width : ℕ) (bytes : List ℕ) (number : ℕ) → Uleb (suc room) width bytes number → Then (ByteOf (varint_byte width (ltb 0 room))) (After room width) bytes number
uleb_back room width [] number is = absurd is.uleb
uleb_back room width (b ∷ []) number is =
    let last = is.uleb in
    (byte_of b false, b ∷ [], [], refl, (b, refl, byte_last width (ltb 0 room) b last.0 (omega (arith, is.fits, last.1))), (refl, last.1))
uleb_back room width (b ∷ c ∷ cs) number is =
    let more = is.uleb in
    let high = more.1 in
    let longer : 0 < room = omega (arith, is.short) in
    let goes : ltb 0 room ≡ true = lt-ltb 0 room longer in (
      byte_of (b % 128) true,
      b ∷ [],
      c ∷ cs,
      refl,
      (b, refl, rw goes (byte_more width b more.0 (omega (arith, is.fits, high.1)))),
      (high.0, record { uleb = high.2; short = omega (arith, is.short); fits = high_below width (b % 128) high.0 (omega (arith, is.fits, high.1)) }, high.1),
    )

passed : (room width : ℕ) (front : List ℕ) (byte : VarintByte) → ByteOf (varint_byte width (ltb 0 room)) front byte → Passed room width byte
passed room width front byte r =
    let known = means width (ltb 0 room) r.0 byte r.2 in
    record { below = known.below; more = λ e. ltb-true 0 room (known.more e).1 }

after_reads : (room width low : ℕ) (more : Bool) → (more ≡ true → IsReaderOf (Uleb room (width - 7)) (varint_of room (width - 7)))
    → IsReaderOf {A = ℕ} (λ bytes number. elim more as (λ _. Type 0) [ true ↦ Made (λ high. low + 128 * high) (Uleb room (width - 7)) bytes number | false ↦ Nothing low bytes number ]) (λ bytes. if more then made (λ high. low + 128 * high) (varint_of room (width - 7) bytes) else Ok (low, bytes))
after_reads room width low true behind = made_reads (λ high. low + 128 * high) (Uleb room (width - 7)) (varint_of room (width - 7)) (behind refl)
after_reads room width low false behind = nothing_reads low

uleb_reads : (room width : ℕ) → IsReaderOf (Uleb (suc room) width) (varint_of (suc room) width)
unfolding varint_of
uleb_reads zero width = same_reads (Uleb 1 width) (then_reads (Passed 0 width) (ByteOf (varint_byte width (ltb 0 0))) (one (varint_byte width (ltb 0 0))) (After 0 width) (λ byte bytes. varint_on byte (varint_of 0 (width - 7)) bytes) (byte_reads (varint_byte width (ltb 0 0)) 0 (byte_of 0 false) (byte_last width (ltb 0 0) 0 (omega arith) (pow_pos width))) (passed 0 width) (λ byte p. after_reads 0 width byte.low byte.more (λ e. absurd (omega (arith, p.more e))))) (uleb_to 0 width) (uleb_back 0 width)
uleb_reads (suc room) width = same_reads (Uleb (suc (suc room)) width) (then_reads (Passed (suc room) width) (ByteOf (varint_byte width (ltb 0 (suc room)))) (one (varint_byte width (ltb 0 (suc room)))) (After (suc room) width) (λ byte bytes. varint_on byte (varint_of (suc room) (width - 7)) bytes) (byte_reads (varint_byte width (ltb 0 (suc room))) 0 (byte_of 0 false) (byte_last width (ltb 0 (suc room)) 0 (omega arith) (pow_pos width))) (passed (suc room) width) (λ byte p. after_reads (suc room) width byte.low byte.more (λ e. uleb_reads room (width - 7)))) (uleb_to (suc room) width) (uleb_back (suc room) width)

pub varint_reads : (width : ℕ) → IsReaderOf (IsVarint width) (varint width)
varint_reads width = same_reads (IsVarint width) (uleb_reads 9 width) (λ bytes n is. record { uleb = is.uleb; short = is.short; fits = is.fits }) (λ bytes n is. record { uleb = is.uleb; short = is.short; fits = is.fits })

-- ---- zigzag

pub zigzag-unzigzag : (code : ℕ) → zigzag (unzigzag code) ≡ code
zigzag-unzigzag code = by_parity (code % 2) refl
  where
    by_parity : (bit : ℕ) → code % 2 ≡ bit → zigzag (unzigzag code) ≡ code
    by_parity zero is = rw is (omega arith)
    by_parity (suc zero) is = rw is (omega arith)
    by_parity (suc (suc more)) is = absurd (omega arith)

pub unzigzag-zigzag : (z : ℤ) → unzigzag (zigzag z) ≡ z
unzigzag-zigzag (pos n) =
    let even : 2 * n % 2 ≡ 0 = omega arith in
    rw even (ap pos (omega arith))
unzigzag-zigzag (negsuc n) =
    let odd : (2 * n + 1) % 2 ≡ 1 = omega arith in
    rw odd (ap negsuc (omega arith))

pub whole_reads : (width : ℕ) → IsReaderOf (IsWhole width) (whole width)
whole_reads width = same_reads (IsWhole width) (made_reads unzigzag (IsVarint width) (varint width) (varint_reads width))
    (λ bytes z is. subst (λ n. IsVarint width bytes n) (sym (ap zigzag is.2 ∙ zigzag-unzigzag is.0)) is.1)
    (λ bytes z is. (zigzag z, is, sym (unzigzag-zigzag z)))
