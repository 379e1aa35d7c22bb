-- The bits of numbers and of bytes.
use Rattle.std.proofs.Common.{◌≡◌, ℕ, zero, suc, ◌+◌, ◌-◌, ◌*◌, ◌/◌, ◌%◌, ◌^◌, ◌<◌, ◌≤◌, List, [], ◌∷◌, ◌++◌, length, get_or, take, drop, refl, sym, ap, subst, ◌∙◌, append_assoc, length-append, arith}
use Rattle.std.proofs.Math.Nat.{pow-suc, mul-le-mul_right}
use Rattle.std.proofs.lemmas.Nat.{pow_pos, pow-add, mod_below, div-add-mod', shl_whole, one_shl, and_mask, shr_below}
use Rattle.std.proofs.lemmas.List.{take_all, take_at, drop_at, drop-drop}
use Rattle.std.proofs.lemmas.List.FromFn.{map-range_with_len_more}
use Rattle.std.proofs.lemmas.List.Concat.{flat_map-append}
use Rattle.std.specs.Prelude.{bit_and}
use Rattle.level_runs.specs.Bits.{bits, bits_number, byte_bits, packed_number, packed_numbers}

pub length-bits : (width n : ℕ) → length (bits width n) ≡ width
unfolding bits
length-bits zero n = refl
length-bits (suc width) n = ap suc (length-bits width (n / 2))

pub length-byte_bits : (bytes : List ℕ) → length (byte_bits bytes) ≡ 8 * length bytes
unfolding byte_bits
length-byte_bits [] = refl
length-byte_bits (b ∷ bs) = length-append (bits 8 b) (byte_bits bs) ∙ omega (arith, length-bits 8 b, length-byte_bits bs)

pub byte_bits-cons : (b : ℕ) (bs : List ℕ) → byte_bits (b ∷ bs) ≡ bits 8 b ++ byte_bits bs
unfolding byte_bits
byte_bits-cons b bs = refl

-- the bits of a number that is low bits below high bits
pub bits-add : (low high p q : ℕ) → p < 2 ^ low → bits (low + high) (p + q * 2 ^ low) ≡ bits low p ++ bits high q
unfolding bits
bits-add zero high p q small =
    let none : p + q * 2 ^ 0 ≡ q = omega arith in
    let width : 0 + high ≡ high = omega arith in
    rw (none, width) refl
bits-add (suc low) high p q small =
    let power : 2 ^ suc low ≡ 2 ^ low * 2 = pow-suc 2 low in
    let width : suc low + high ≡ suc (low + high) = omega arith in
    let half : p / 2 < 2 ^ low = omega (arith, power) in
    let whole : p + q * 2 ^ suc low ≡ p + 2 * (q * 2 ^ low) = ap (λ n. p + q * n) power ∙ omega arith in
    let bit : (p + 2 * (q * 2 ^ low)) % 2 ≡ p % 2 = omega arith in
    let above : (p + 2 * (q * 2 ^ low)) / 2 ≡ p / 2 + q * 2 ^ low = omega arith in
    ap (λ w. bits w (p + q * 2 ^ suc low)) width ∙ ap (bits (suc (low + high))) whole ∙ ap (λ b. b ∷ bits (low + high) ((p + 2 * (q * 2 ^ low)) / 2)) bit
    ∙ ap (λ n. p % 2 ∷ bits (low + high) n) above ∙ ap (λ bs. p % 2 ∷ bs) (bits-add low high (p / 2) q half)

-- the bits of a number that is cut in two
pub bits-cut : (low high n : ℕ) → bits (low + high) n ≡ bits low (n % 2 ^ low) ++ bits high (n / 2 ^ low)
bits-cut low high n =
    let split = div-add-mod' n (2 ^ low) in
    let small : n % 2 ^ low < 2 ^ low = mod_below n (2 ^ low) (pow_pos low) in
    let sum : n % 2 ^ low + n / 2 ^ low * 2 ^ low ≡ n = omega (arith, split) in
    ap (bits (low + high)) (sym sum) ∙ bits-add low high (n % 2 ^ low) (n / 2 ^ low) small

pub bits_number-bits : (width n : ℕ) → n < 2 ^ width → bits_number (bits width n) ≡ n
unfolding bits bits_number
bits_number-bits zero n small = omega arith
bits_number-bits (suc width) n small =
    let power : 2 ^ suc width ≡ 2 ^ width * 2 = pow-suc 2 width in
    let half : n / 2 < 2 ^ width = omega (arith, power) in
    omega (arith, bits_number-bits width (n / 2) half)

-- ---- a byte taken at hand, above the bits that are there

pub shifted : (have byte : ℕ) → have < 32 → byte < 256 → byte * 2 ^ have % 2 ^ 64 ≡ byte * 2 ^ have
shifted have byte narrow small = shl_whole byte 8 have 64 small (omega arith)

pub filled : (have pending byte : ℕ) → have < 32 → byte < 256 → pending < 2 ^ have → pending + byte * 2 ^ have % 2 ^ 64 < 2 ^ (have + 8)
filled have pending byte narrow small fits =
    let whole = shifted have byte narrow small in
    let power : 2 ^ (have + 8) ≡ 2 ^ have * 256 = pow-add 2 have 8 in
    let most : byte * 2 ^ have ≤ 255 * 2 ^ have = mul-le-mul_right (2 ^ have) (omega arith) in
    omega (arith, whole, power, most)

pub bits-filled : (have pending byte : ℕ) (bytes : List ℕ) → have < 32 → byte < 256 → pending < 2 ^ have
    → bits (have + 8) (pending + byte * 2 ^ have % 2 ^ 64) ++ byte_bits bytes ≡ bits have pending ++ byte_bits (byte ∷ bytes)
bits-filled have pending byte bytes narrow small fits =
    ap (λ n. bits (have + 8) (pending + n) ++ byte_bits bytes) (shifted have byte narrow small)
    ∙ ap (λ bs. bs ++ byte_bits bytes) (bits-add have 8 pending byte fits)
    ∙ append_assoc (bits have pending) (bits 8 byte) (byte_bits bytes)
    ∙ ap (λ bs. bits have pending ++ bs) (sym (byte_bits-cons byte bytes))

pub front_again : (bytes : List ℕ) (byte : ℕ) → 0 < length bytes → byte ≡ get_or bytes 0 0 → byte ∷ take (length bytes - 1) (drop 1 bytes) ≡ bytes
front_again [] byte some is = absurd (omega arith)
front_again (b ∷ bs) byte some is =
    let size : length bs ≤ length (b ∷ bs) - 1 = omega arith in
    ap (λ x. x ∷ take (length (b ∷ bs) - 1) bs) is ∙ ap (λ xs. b ∷ xs) (take_all (length (b ∷ bs) - 1) bs size)

-- ---- a number taken from the bits at hand

pub masked : (pending width : ℕ) → width ≤ 32 → bit_and pending (1 * 2 ^ width % 2 ^ 64 - 1) ≡ pending % 2 ^ width
masked pending width narrow =
    ap (λ n. bit_and pending (n - 1)) (one_shl width 64 (omega arith)) ∙ and_mask pending width

pub bits-taken : (have pending width : ℕ) (others : List ℕ) → width ≤ 32 → width ≤ have
    → bits have pending ++ others ≡ bits width (bit_and pending (1 * 2 ^ width % 2 ^ 64 - 1)) ++ (bits (have - width) (pending / 2 ^ width) ++ others)
bits-taken have pending width others narrow enough =
    let parts : width + (have - width) ≡ have = omega arith in
    ap (λ n. bits n pending ++ others) (sym parts)
    ∙ ap (λ bs. bs ++ others) (bits-cut width (have - width) pending)
    ∙ append_assoc (bits width (pending % 2 ^ width)) (bits (have - width) (pending / 2 ^ width)) others
    ∙ ap (λ n. bits width n ++ (bits (have - width) (pending / 2 ^ width) ++ others)) (sym (masked pending width narrow))

pub left_fits : (have pending width : ℕ) → width ≤ have → pending < 2 ^ have → pending / 2 ^ width < 2 ^ (have - width)
left_fits have pending width enough fits =
    let parts : have ≡ (have - width) + width = omega arith in
    shr_below pending (have - width) width (subst (λ n. pending < 2 ^ n) parts fits)

-- ---- one number after the other

pub number_at_front : (width k number : ℕ) (packed others : List ℕ) → drop (k * width) (byte_bits packed) ≡ bits width number ++ others → number < 2 ^ width
    → packed_number width packed k ≡ number
unfolding packed_number
number_at_front width k number packed others is small =
    ap (λ bs. bits_number (take width bs)) is ∙ ap bits_number (take_at (bits width number) others width (length-bits width number)) ∙ bits_number-bits width number small

pub number_passed : (width k number : ℕ) (packed others : List ℕ) → drop (k * width) (byte_bits packed) ≡ bits width number ++ others
    → others ≡ drop ((k + 1) * width) (byte_bits packed)
number_passed width k number packed others is =
    let place : k * width + width ≡ (k + 1) * width = omega arith in
    sym (drop_at (bits width number) others width (length-bits width number)) ∙ ap (drop width) (sym is) ∙ drop-drop width (k * width) (byte_bits packed)
    ∙ ap (λ n. drop n (byte_bits packed)) place

pub numbers_read : (width k number : ℕ) (packed old : List ℕ) → packed_number width packed k ≡ number
    → (old ++ packed_numbers width packed k) ++ number ∷ [] ≡ old ++ packed_numbers width packed (k + 1)
numbers_read width k number packed old is =
    append_assoc old (packed_numbers width packed k) (number ∷ [])
    ∙ ap (λ n. old ++ (packed_numbers width packed k ++ n ∷ [])) (sym is)
    ∙ ap (λ ns. old ++ ns) (sym (map-range_with_len_more (packed_number width packed) 0 k k (omega arith)))

pub enough_left : (width k count left total : ℕ) → k < count → count * width ≤ total → left + k * width ≡ total → width ≤ left
enough_left width k count left total below most is =
    let one_more : (k + 1) * width ≤ count * width = mul-le-mul_right width (omega arith) in
    let sum : (k + 1) * width ≡ k * width + width = omega arith in
    omega arith

pub none_passed : (width : ℕ) (packed : List ℕ) → bits 0 0 ++ byte_bits packed ≡ drop (0 * width) (byte_bits packed)
unfolding bits
none_passed width packed =
    let none : 0 * width ≡ 0 = omega arith in
    rw none refl

pub byte_bits-append : (a b : List ℕ) → byte_bits (a ++ b) ≡ byte_bits a ++ byte_bits b
unfolding byte_bits
byte_bits-append a b = flat_map-append (bits 8) a b
