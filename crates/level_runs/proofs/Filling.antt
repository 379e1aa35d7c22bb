-- What a writer of runs adds.
use Rattle.std.proofs.Common.{◌≡◌, ℕ, zero, suc, ◌+◌, ◌-◌, ◌*◌, ◌/◌, ◌%◌, ◌^◌, ◌<◌, ◌≤◌, List, [], ◌∷◌, ◌++◌, length, get_or, drop, map, ⊎_elim, refl, sym, ap, ◌∙◌, subst, append_assoc, length-append, arith}
use Rattle.std.proofs.Math.Nat.{pow-suc, pow-le-pow_right, mul-le-mul_right}
use Rattle.std.proofs.lemmas.Nat.{shl_whole, pow-add, pow_pos}
use Rattle.std.specs.Prelude.{slice_index}
use Rattle.std.specs.List.{All, flat_map, range_with_len}
use Rattle.std.proofs.lemmas.Bool.{cases_lt}
use Rattle.std.proofs.lemmas.List.{append-nil, drop-drop, drop_at, drop_more, get_or_past}
use Rattle.std.proofs.lemmas.List.Concat.{flat_map-append}
use Rattle.std.proofs.lemmas.List.Elements.{All-map}
use Rattle.std.proofs.lemmas.List.FromFn.{map-range_with_len_more, length-map-range_with_len, fill_by_all}
use Rattle.level_runs.specs.Steps.{AppendsChain, PacksBits, AppendsPacked, filled_up}
use Rattle.level_runs.specs.Bits.{bits, byte_bits, packed_number, packed_numbers}
use Rattle.level_runs.specs.Varint.{IsVarint}
use Rattle.level_runs.proofs.Chains.{longer}
use Rattle.level_runs.proofs.Places.{bits-add, bits-cut, byte_bits-append, length-bits, length-byte_bits, number_at_front}

-- ---- a number as a chain

pub last_byte : (old new : List ℕ) (number : ℕ) → number < 128 → new ≡ old ++ number ∷ [] → AppendsChain old new number
last_byte old new number small is = record { chain = number ∷ []; is = small; value = omega arith; size = λ more below. omega arith; joined = is }

longer_size : (number more size : ℕ) → 128 ≤ number → ((fewer : ℕ) → number / 128 < 128 ^ suc fewer → size ≤ suc fewer) → number < 128 ^ suc more → suc size ≤ suc more
longer_size number zero size large behind below = absurd (omega arith)
longer_size number (suc more) size large behind below =
    let power : 128 ^ suc (suc more) ≡ 128 ^ suc more * 128 = pow-suc 128 (suc more) in
    let high : number / 128 < 128 ^ suc more = omega arith in
    let known = behind more high in
    omega arith

pub next_byte : (old now new : List ℕ) (number : ℕ) → 128 ≤ number → now ≡ old ++ (number % 128 + 128) ∷ [] → AppendsChain now new (number / 128) → AppendsChain old new number
next_byte old now new number large is behind =
    let byte = number % 128 + 128 in
    record {
      chain = byte ∷ behind.chain;
      is = longer byte behind.chain (omega arith) behind.is;
      value = let high = behind.value in omega arith;
      size = λ more below. longer_size number more (length behind.chain) large behind.size below;
      joined = behind.joined ∙ ap (λ bs. bs ++ behind.chain) is ∙ append_assoc old (byte ∷ []) behind.chain;
    }

pub chain_varint : (old new : List ℕ) (number : ℕ) → number < 2 ^ 64 → (appends : AppendsChain old new number) → IsVarint appends.chain number
chain_varint old new number small appends = record {
  chain = appends.is;
  size = appends.size 9 (omega arith);
  value = appends.value;
  small = small;
}

pub pow_bound : (number width most : ℕ) → number < 2 ^ width → width ≤ most → number < 2 ^ most
pow_bound number width most narrow few =
    let wider : 2 ^ width ≤ 2 ^ most = pow-le-pow_right {n = 2} (omega arith) few in
    omega arith

-- ---- bits one byte after the other

pub packs_none : (old before : List ℕ) → PacksBits old old before before
unfolding byte_bits
packs_none old before = record { written = []; joined = sym (append-nil old); same = refl }

pub packs_more : (old now new before between after : List ℕ) → PacksBits old now before between → PacksBits now new between after → PacksBits old new before after
packs_more old now new before between after first second = record {
  written = first.written ++ second.written;
  joined = second.joined ∙ ap (λ bs. bs ++ second.written) first.joined ∙ append_assoc old first.written second.written;
  same = first.same ∙ ap (λ bs. byte_bits first.written ++ bs) second.same ∙ sym (append_assoc (byte_bits first.written) (byte_bits second.written) after) ∙ ap (λ bs. bs ++ after) (sym (byte_bits-append first.written second.written));
}

pub packs_byte : (old new : List ℕ) (have pending : ℕ) → 8 ≤ have → new ≡ old ++ (pending % 256) ∷ [] → PacksBits old new (bits have pending) (bits (have - 8) (pending / 2 ^ 8))
unfolding byte_bits
packs_byte old new have pending full is =
    let parts : 8 + (have - 8) ≡ have = omega arith in
    record {
      written = (pending % 256) ∷ [];
      joined = is;
      same = ap (λ n. bits n pending) (sym parts) ∙ bits-cut 8 (have - 8) pending
          ∙ ap (λ bs. bs ++ bits (have - 8) (pending / 2 ^ 8)) (sym (append-nil (bits 8 (pending % 256))));
    }

pub packs_number : (old : List ℕ) (have pending number width : ℕ) → have < 8 → pending < 2 ^ have → number < 2 ^ width → width ≤ 32
    → PacksBits old old (bits have pending ++ bits width number) (bits (have + width) (pending + number * 2 ^ have % 2 ^ 64))
packs_number old have pending number width few fits narrow most =
    let below : number < 2 ^ 32 = pow_bound number width 32 narrow most in
    let whole : number * 2 ^ have % 2 ^ 64 ≡ number * 2 ^ have = shl_whole number 32 have 64 below (omega arith) in
    subst (λ bs. PacksBits old old bs (bits (have + width) (pending + number * 2 ^ have % 2 ^ 64)))
    (ap (λ n. bits (have + width) (pending + n)) whole ∙ bits-add have width pending number fits)
    (packs_none old (bits (have + width) (pending + number * 2 ^ have % 2 ^ 64)))

pub sum_fits : (have pending number width : ℕ) → have < 8 → pending < 2 ^ have → number < 2 ^ width → width ≤ 32 → pending + number * 2 ^ have % 2 ^ 64 < 2 ^ (have + width)
sum_fits have pending number width few fits narrow most =
    let below : number < 2 ^ 32 = pow_bound number width 32 narrow most in
    let whole : number * 2 ^ have % 2 ^ 64 ≡ number * 2 ^ have = shl_whole number 32 have 64 below (omega arith) in
    let power : 2 ^ (have + width) ≡ 2 ^ have * 2 ^ width = pow-add 2 have width in
    let one_more : (number + 1) * 2 ^ have ≤ 2 ^ width * 2 ^ have = mul-le-mul_right (2 ^ have) (omega arith) in
    omega (arith, whole, power, one_more)

pub packs_start : (old : List ℕ) → PacksBits old old [] (bits 0 0)
unfolding bits
packs_start old = packs_none old []

-- ---- packed numbers

drop_nothing : (n : ℕ) → drop {A = ℕ} n [] ≡ []
drop_nothing zero = refl
drop_nothing (suc n) = refl

-- more bits behind those that are there
packs_behind : (old new before after more : List ℕ) → PacksBits old new before after → PacksBits old new (before ++ more) (after ++ more)
packs_behind old new before after more packs = record {
  written = packs.written;
  joined = packs.joined;
  same = ap (λ bs. bs ++ more) packs.same ∙ append_assoc (byte_bits packs.written) after more;
}

pub packs_next : (width place number : ℕ) (numbers old now new between after : List ℕ) → PacksBits old now (flat_map (bits width) (map (slice_index numbers) (range_with_len 0 place))) between
    → PacksBits now new (between ++ bits width number) after → number ≡ slice_index numbers place
    → PacksBits old new (flat_map (bits width) (map (slice_index numbers) (range_with_len 0 (place + 1)))) after
packs_next width place number numbers old now new between after first second is =
    let before = map (slice_index numbers) (range_with_len 0 place) in
    let one_more : map (slice_index numbers) (range_with_len 0 (place + 1)) ≡ before ++ number ∷ [] =
    map-range_with_len_more (slice_index numbers) 0 place place (omega arith) ∙ ap (λ n. before ++ n ∷ []) (sym is) in
    let same : flat_map (bits width) before ++ bits width number ≡ flat_map (bits width) (map (slice_index numbers) (range_with_len 0 (place + 1))) =
    ap (λ bs. flat_map (bits width) before ++ bs) (sym (append-nil (bits width number))) ∙ sym (flat_map-append (bits width) before (number ∷ [])) ∙ ap (flat_map (bits width)) (sym one_more) in
    subst (λ bs. PacksBits old new bs after) same
    (packs_more old now new (flat_map (bits width) before ++ bits width number) (between ++ bits width number) after (packs_behind old now (flat_map (bits width) before) between (bits width number) first) second)

length-bits_of : (width : ℕ) (numbers : List ℕ) → length (flat_map (bits width) numbers) ≡ length numbers * width
length-bits_of width [] = omega arith
length-bits_of width (n ∷ ns) = length-append (bits width n) (flat_map (bits width) ns) ∙ omega (arith, length-bits width n, length-bits_of width ns)

drop-bits_of : (width k : ℕ) (numbers : List ℕ) → drop (k * width) (flat_map (bits width) numbers) ≡ flat_map (bits width) (drop k numbers)
drop-bits_of width zero numbers =
    let none : 0 * width ≡ 0 = omega arith in
    rw none refl
drop-bits_of width (suc k) [] = drop_nothing (suc k * width)
drop-bits_of width (suc k) (n ∷ ns) =
    let parts : suc k * width ≡ width + k * width = omega arith in
    ap (λ m. drop m (bits width n ++ flat_map (bits width) ns)) parts
    ∙ sym (drop-drop (k * width) width (bits width n ++ flat_map (bits width) ns))
    ∙ ap (drop (k * width)) (drop_at (bits width n) (flat_map (bits width) ns) width (length-bits width n))
    ∙ drop-bits_of width k ns

numbers_back : (width : ℕ) (packed numbers : List ℕ) → All (λ number. number < 2 ^ width) numbers → byte_bits packed ≡ flat_map (bits width) numbers
    → packed_numbers width packed (length numbers) ≡ numbers
numbers_back width packed numbers fit is = sym (fill_by_all (packed_number width packed) numbers (length numbers) 0 refl (λ k below.
    let front : drop (k * width) (byte_bits packed) ≡ bits width (get_or numbers k 0) ++ flat_map (bits width) (drop (k + 1) numbers) =
    ap (drop (k * width)) is ∙ drop-bits_of width k numbers ∙ ap (flat_map (bits width)) (drop_more numbers k 0 below) in
    sym (number_at_front width k (get_or numbers k 0) packed (flat_map (bits width) (drop (k + 1) numbers)) front (fit k 0 below))))

-- zeros behind numbers fit too
pub filled_fit : (width groups : ℕ) (numbers : List ℕ) → All (λ number. number < 2 ^ width) numbers → All (λ number. number < 2 ^ width) (filled_up numbers groups)
filled_fit width groups numbers fit =
    All-map (λ number. number < 2 ^ width) (slice_index numbers) (range_with_len 0 (8 * groups)) (λ k d below. at_place (get_or (range_with_len 0 (8 * groups)) k d))
  where
    at_place : (k : ℕ) → slice_index numbers k < 2 ^ width
    at_place k =
        ⊎_elim
        (λ (within : k < length numbers). fit k 0 within)
        (λ (past : length numbers ≤ k).
        let zero_there = get_or_past numbers k 0 past in
        let some = pow_pos width in
        omega arith)
        (cases_lt k (length numbers))

pub all_packed : (width groups have pending : ℕ) (numbers old new : List ℕ) → have < 8 → All (λ number. number < 2 ^ width) numbers
    → PacksBits old new (flat_map (bits width) (filled_up numbers groups)) (bits have pending) → AppendsPacked width (filled_up numbers groups) old new
unfolding bits
all_packed width groups have pending numbers old new few fit packs =
    let count : length (filled_up numbers groups) ≡ 8 * groups = length-map-range_with_len (slice_index numbers) 0 (8 * groups) in
    let total = length-bits_of width (filled_up numbers groups) in
    let product : length (filled_up numbers groups) * width ≡ 8 * (groups * width) = ap (λ n. n * width) count ∙ omega arith in
    let sizes : length (flat_map (bits width) (filled_up numbers groups)) ≡ 8 * length packs.written + have =
    ap length packs.same ∙ length-append (byte_bits packs.written) (bits have pending) ∙ omega (arith, length-byte_bits packs.written, length-bits have pending) in
    let whole : have ≡ 0 = omega arith in
    let same : byte_bits packs.written ≡ flat_map (bits width) (filled_up numbers groups) =
    sym (packs.same ∙ ap (λ n. byte_bits packs.written ++ bits n pending) whole ∙ append-nil (byte_bits packs.written)) in
    record {
      written = packs.written;
      joined = packs.joined;
      size = omega arith;
      means = numbers_back width packs.written (filled_up numbers groups) (filled_fit width groups numbers fit) same;
    }
