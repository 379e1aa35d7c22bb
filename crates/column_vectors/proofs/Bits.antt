-- Flags as bits, in blocks of 64.
use Rattle.std.proofs.Common.{◌≡◌, ◌≢◌, ◌⊎◌, ℕ, zero, suc, ◌+◌, ◌-◌, ◌*◌, ◌/◌, ◌%◌, ◌^◌, ◌<◌, ◌≤◌, ◌==◌, List, [], ◌∷◌, ◌++◌, length, take, get_or, slice_get, bit_and, Bool, true, false, Some, refl, sym, ap, ◌∙◌, subst, inl, inr, arith, length-append, add-one, add-zero, get_or-set_same, get_or-set_other}
use Rattle.std.proofs.Math.ListN.{set, get_or-append, length-set}
use Rattle.std.proofs.Math.Nat.{eq-or-lt_of_le, mod-lt, le_of_suc-le-suc, one-mul, mod-eq_of_lt}
use Rattle.std.proofs.lemmas.Bool.Decides.{eqb_tells}
use Rattle.std.proofs.lemmas.List.{get_or_push, get_or_default}
use Rattle.std.proofs.lemmas.Nat.{ones_cat, mod-pow-add, pow_pos, pow_below, and_mask}
use Rattle.std.proofs.lemmas.Nat.Bits.{bit_at-lt, shr_and_one}
use Rattle.std.specs.Int.{bit_at}
use Rattle.std.specs.Int.Count.{ones}
use Rattle.column_vectors.proofs.Counts.{count_of-append}
use Rattle.column_vectors.proofs.Tested.{flags_of-more, flags_of-same, flags_of-none, take-flags_of, slice_get-flags_of}
use Rattle.column_vectors.specs.Blocks.{empty_block, block_at, flag_at, flag_number, IsSelection, AddsFlag}
use Rattle.column_vectors.specs.Flags.{count_of, flags_of}
use Rattle.column_vectors.specs.declared.block.Block.{Block}

ones-bit : (b : ℕ) → b < 2 → ones b ≡ b
unfolding ones
ones-bit zero low = refl
ones-bit (suc zero) low = refl
ones-bit (suc (suc b)) low = absurd (omega arith)

-- one bit more of a number's lowest ones
ones-more : (n k : ℕ) → ones (n % 2 ^ (k + 1)) ≡ bit_at n k + ones (n % 2 ^ k)
ones-more n k =
    let next : n % 2 ^ (k + 1) ≡ bit_at n k * 2 ^ k + n % 2 ^ k = ap (λ (j : ℕ). n % 2 ^ j) (omega arith) ∙ mod-pow-add n 1 k in
    ap ones next ∙ ones_cat k (bit_at n k) (n % 2 ^ k) (mod-lt n (pow_pos k)) ∙ ap (λ (b : ℕ). b + ones (n % 2 ^ k)) (ones-bit (bit_at n k) (bit_at-lt n k))

count_of-bit : (b : ℕ) → b < 2 → count_of ((b == 1) ∷ []) ≡ b
count_of-bit zero low = refl
count_of-bit (suc zero) low = refl
count_of-bit (suc (suc b)) low = absurd (omega arith)

count_of-flag : (flag : Bool) → count_of (flag ∷ []) ≡ flag_number flag
count_of-flag true = refl
count_of-flag false = refl

flag_number-is : (flag : Bool) → (flag_number flag == 1) ≡ flag
flag_number-is true = refl
flag_number-is false = refl

-- how many flags of a block's first rows are set
pub count_of-block : (n m k : ℕ) (f : ℕ → Bool) → ((i : ℕ) → i < k → f (m + i) ≡ (bit_at n i == 1)) → count_of (flags_of (m + k) f) ≡ count_of (flags_of m f) + ones (n % 2 ^ k)
count_of-block n m zero f same =
    let none : ones (n % 1) ≡ 0 = ap ones (omega arith) ∙ ones-bit 0 (omega arith) in
    omega (arith, none, ap (λ (r : ℕ). count_of (flags_of r f)) (add-zero m))
count_of-block n m (suc k) f same =
    let whole : flags_of (m + suc k) f ≡ flags_of (m + k) f ++ f (m + k) ∷ [] = ap (λ (r : ℕ). flags_of r f) (omega arith) ∙ flags_of-more (m + k) f in
    let last : count_of (f (m + k) ∷ []) ≡ bit_at n k = ap (λ (b : Bool). count_of (b ∷ [])) (same k (omega arith)) ∙ count_of-bit (bit_at n k) (bit_at-lt n k) in
    let more : ones (n % 2 ^ suc k) ≡ bit_at n k + ones (n % 2 ^ k) = ap (λ (j : ℕ). ones (n % 2 ^ j)) (omega arith) ∙ ones-more n k in
    omega (arith, ap count_of whole, count_of-append (flags_of (m + k) f) (f (m + k) ∷ []), last, more, count_of-block n m k f (λ i low. same i (omega arith)))

-- ---- one flag more

-- a block is as before, or is new and counts all rows
abbrev Counts : List Block → List Block → ℕ → ℕ → ℕ → Type 0
Counts old new rows count at = ((at < length old) × ((block_at new at).before ≡ (block_at old at).before)) ⊎ ((64 * at ≡ rows) × ((block_at new at).before ≡ count))

adds_flag : (old new : List Block) (rows count : ℕ) (flag : Bool) → IsSelection old rows count → ((i : ℕ) → i < rows → flag_at old i ≡ flag_at new i) → flag_at new rows ≡ flag → rows + 1 ≤ 64 * length new → 64 * length new < rows + 1 + 64 → ((at : ℕ) → at < length new → Counts old new rows count at) → AddsFlag old new rows count flag
adds_flag old new rows count flag is same last enough few counts =
    let front : flags_of rows (flag_at old) ≡ flags_of rows (flag_at new) = flags_of-same rows (flag_at old) (flag_at new) same in
    let flags : flags_of (rows + 1) (flag_at new) ≡ flags_of rows (flag_at old) ++ flag ∷ [] =
    flags_of-more rows (flag_at new) ∙ ap (λ (b : Bool). flags_of rows (flag_at new) ++ b ∷ []) last ∙ ap (λ (fs : List Bool). fs ++ flag ∷ []) (sym front) in
    record {
      flags = flags;
      kept = record {
        enough = enough;
        few = few;
        counted = omega (arith, is.counted, ap count_of flags, count_of-append (flags_of rows (flag_at old)) (flag ∷ []), count_of-flag flag);
        before = λ at low. elim (counts at low) [
          | inl old_one ↦ old_one.1 ∙ is.before at old_one.0 ∙ ap count_of (flags_of-same (64 * at) (flag_at old) (flag_at new) (λ i less. same i (omega (arith, is.few, old_one.0))))
          | inr fresh ↦ fresh.1 ∙ is.counted ∙ ap count_of (front ∙ ap (λ (r : ℕ). flags_of r (flag_at new)) (sym fresh.0))
        ];
      };
    }

same_or_other : (a b : ℕ) → (a ≡ b) ⊎ (a ≢ b)
same_or_other a b = elim (eqb_tells a b) [ inl e ↦ inl e.1 | inr e ↦ inr e.1 ]

-- a new block
pub block_pushed : (blocks : List Block) (rows count : ℕ) (flag : Bool) (block : Block) → IsSelection blocks rows count → rows % 64 ≡ 0 → bit_at block.bits 0 ≡ flag_number flag → block.before ≡ count → AddsFlag blocks (blocks ++ block ∷ []) rows count flag
block_pushed blocks rows count flag block is whole bit before =
    let long : length (blocks ++ block ∷ []) ≡ length blocks + 1 = length-append blocks (block ∷ []) in
    let full : length blocks ≡ rows / 64 = omega (arith, is.enough, is.few, whole) in
    let new_one : block_at (blocks ++ block ∷ []) (rows / 64) ≡ block = get_or_push blocks block empty_block (rows / 64) full in
    adds_flag blocks (blocks ++ block ∷ []) rows count flag is
    (λ i low. ap (λ (b : Block). bit_at b.bits (i % 64) == 1) (sym (get_or-append blocks (block ∷ []) empty_block (i / 64) (omega (arith, full, whole)))))
    (ap (λ (b : Block). bit_at b.bits (rows % 64) == 1) new_one ∙ ap (λ (k : ℕ). bit_at block.bits k == 1) whole ∙ ap (λ (k : ℕ). k == 1) bit ∙ flag_number-is flag)
    (omega (arith, long, full, whole))
    (omega (arith, long, full, whole))
    (λ at low. elim (eq-or-lt_of_le (le_of_suc-le-suc (subst (λ (n : ℕ). at < n) (long ∙ add-one (length blocks)) low))) [
      | inl here ↦ inr (omega (arith, full, whole, here), ap (λ (b : Block). b.before) (get_or_push blocks block empty_block at (sym here)) ∙ before)
      | inr less ↦ inl (less, ap (λ (b : Block). b.before) (get_or-append blocks (block ∷ []) empty_block at less))
    ])

-- one bit of the last block
pub block_set : (blocks : List Block) (rows count : ℕ) (flag : Bool) (block : Block) → IsSelection blocks rows count → (rows % 64 ≡ 0 → ⊥) → bit_at block.bits (rows % 64) ≡ flag_number flag → ((other : ℕ) → other < 64 → other ≢ rows % 64 → bit_at block.bits other ≡ bit_at (block_at blocks (rows / 64)).bits other) → block.before ≡ (block_at blocks (rows / 64)).before → AddsFlag blocks (set blocks (rows / 64) block) rows count flag
block_set blocks rows count flag block is part bit others before =
    let long : length (set blocks (rows / 64) block) ≡ length blocks = length-set blocks (rows / 64) block in
    let within : rows / 64 < length blocks = omega (arith, is.enough, part) in
    let here : block_at (set blocks (rows / 64) block) (rows / 64) ≡ block = get_or-set_same blocks (rows / 64) block empty_block within in
    adds_flag blocks (set blocks (rows / 64) block) rows count flag is
    (λ i low. elim (eq-or-lt_of_le {n = i / 64} {m = rows / 64} (omega (arith, low))) [
      | inl e ↦
          ap (λ (j : ℕ). bit_at (block_at blocks j).bits (i % 64) == 1) e
          ∙ ap (λ (b : ℕ). b == 1) (sym (others (i % 64) (omega arith) (omega (arith, e, low))))
          ∙ ap (λ (b : Block). bit_at b.bits (i % 64) == 1) (sym here)
          ∙ ap (λ (j : ℕ). bit_at (block_at (set blocks (rows / 64) block) j).bits (i % 64) == 1) (sym e)
      | inr less ↦ ap (λ (b : Block). bit_at b.bits (i % 64) == 1) (sym (get_or-set_other blocks (rows / 64) (i / 64) block empty_block (omega (arith, less))))
    ])
    (ap (λ (b : Block). bit_at b.bits (rows % 64) == 1) here ∙ ap (λ (k : ℕ). k == 1) bit ∙ flag_number-is flag)
    (omega (arith, long, within))
    (omega (arith, long, is.few))
    (λ at low. inl (
      omega (arith, long, low),
      elim (same_or_other at (rows / 64)) [
        | inl e ↦ ap (λ (j : ℕ). (block_at (set blocks (rows / 64) block) j).before) e ∙ ap (λ (b : Block). b.before) here ∙ before ∙ ap (λ (j : ℕ). (block_at blocks j).before) (sym e)
        | inr other ↦ ap (λ (b : Block). b.before) (get_or-set_other blocks (rows / 64) at block empty_block other)
      ],
    ))

-- no row and no block
pub no_rows : (blocks : List Block) → blocks ≡ [] → IsSelection blocks 0 0
no_rows blocks none = record {
  enough = omega arith;
  few = rw none (omega arith);
  counted = ap count_of (sym (flags_of-none (flag_at blocks)));
  before = λ at low. absurd (omega (arith, low, ap (λ (bs : List Block). length bs) none));
}

-- ---- what is read

module _ (blocks : List Block) (rows count row : ℕ) (block : Block) (is : IsSelection blocks rows count) (low : row < rows) (read : block ≡ get_or blocks (row / 64) block) where
  pub row_within : row / 64 < length blocks
  row_within = omega (arith, is.enough, low)

  read_is : block ≡ block_at blocks (row / 64)
  read_is = read ∙ get_or_default blocks (row / 64) block empty_block row_within

  pub row_tested : slice_get (flags_of rows (flag_at blocks)) row ≡ Some (bit_and (block.bits / 2 ^ (row % 64)) 1 == 1)
  row_tested =
      slice_get-flags_of rows row (flag_at blocks) low
      ∙ ap (λ (b : Block). Some (bit_at b.bits (row % 64) == 1)) (sym read_is)
      ∙ ap (λ (n : ℕ). Some (n == 1)) (sym (shr_and_one block.bits (row % 64)))

  mask_is : 1 * 2 ^ (row % 64) % 2 ^ 64 - 1 ≡ 2 ^ (row % 64) - 1
  mask_is = ap (λ (n : ℕ). n - 1) (ap (λ (n : ℕ). n % 2 ^ 64) (one-mul (2 ^ (row % 64))) ∙ mod-eq_of_lt (pow_below (row % 64) 64 (omega arith)))

  pub row_counted : block.before + ones (bit_and block.bits (1 * 2 ^ (row % 64) % 2 ^ 64 - 1)) ≡ count_of (take row (flags_of rows (flag_at blocks)))
  row_counted =
      let masked : ones (bit_and block.bits (1 * 2 ^ (row % 64) % 2 ^ 64 - 1)) ≡ ones (block.bits % 2 ^ (row % 64)) =
      ap (λ (n : ℕ). ones (bit_and block.bits n)) mask_is ∙ ap ones (and_mask block.bits (row % 64)) in
      let start : block.before ≡ count_of (flags_of (64 * (row / 64)) (flag_at blocks)) = ap (λ (b : Block). b.before) read_is ∙ is.before (row / 64) row_within in
      let bits : (i : ℕ) → i < row % 64 → flag_at blocks (64 * (row / 64) + i) ≡ (bit_at block.bits i == 1) = λ i small.
      let block_is : (64 * (row / 64) + i) / 64 ≡ row / 64 = omega (arith, small) in
      let bit_is : (64 * (row / 64) + i) % 64 ≡ i = omega (arith, small) in
      rw (block_is, bit_is) (ap (λ (b : Block). bit_at b.bits i == 1) (sym read_is)) in
      let whole : 64 * (row / 64) + row % 64 ≡ row = omega arith in
      let all : count_of (take row (flags_of rows (flag_at blocks))) ≡ count_of (flags_of (64 * (row / 64) + row % 64) (flag_at blocks)) =
      ap count_of (take-flags_of rows row (flag_at blocks) (omega (arith, low)) ∙ ap (λ (n : ℕ). flags_of n (flag_at blocks)) (sym whole)) in
      omega (arith, masked, start, all, count_of-block block.bits (64 * (row / 64)) (row % 64) (flag_at blocks) bits)

-- the last block, where it has room
pub last_read : (blocks : List Block) (rows count : ℕ) (block : Block) → IsSelection blocks rows count → (rows % 64 ≡ 0 → ⊥) → block ≡ get_or blocks (rows / 64) block → block ≡ block_at blocks (rows / 64)
last_read blocks rows count block is part read = read ∙ get_or_default blocks (rows / 64) block empty_block (omega (arith, is.enough, part))
