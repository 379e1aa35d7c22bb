-- Varints as the reader's function has them, and as they are spelled.
use Rattle.std.proofs.Common.{◌≡◌, ℕ, zero, suc, ◌+◌, ◌*◌, ◌%◌, ◌^◌, ◌<◌, ◌≤◌, List, [], ◌∷◌, ◌++◌, length, Some, None, Bool, true, false, cond, ltb, refl, sym, ap, subst, arith}
use Rattle.std.proofs.lemmas.Bool.{ltb-true, ltb-false, lt-ltb, le-ltb}
use Rattle.dm_types.specs.Then.{◌>>=◌}
use Rattle.level_runs.specs.Varint.{groups_number, IsChain, IsVarint}
use Rattle.level_runs.specs.Reading.{Front, with_group, chain_at, unless_large, varint_at}

-- a chain at the front of bytes
pub record ChainFound (places : ℕ) (bytes : List ℕ) (number : ℕ) (rest : List ℕ) : Type 0 where
  pub chain : List ℕ
  pub is : IsChain chain
  pub whole : bytes ≡ chain ++ rest
  pub value : number ≡ groups_number chain
  pub size : length chain ≤ places

pub longer : (b : ℕ) (chain : List ℕ) → 128 ≤ b → IsChain chain → IsChain (b ∷ chain)
longer b [] large is = absurd is
longer b (c ∷ cs) large is = (large, is)

found_behind : (places b : ℕ) (bs : List ℕ) (known : Front ℕ) (found : ℕ × List ℕ) → 128 ≤ b → with_group b known ≡ Some found
    → ((high : ℕ × List ℕ) → known ≡ Some high → ChainFound places bs high.0 high.1) → ChainFound (suc places) (b ∷ bs) found.0 found.1
found_behind places b bs None found large is later = absurd cc
found_behind places b bs (Some high) found large is later =
    let behind = later high refl in
    let same : ◌≡◌ {A = ℕ × List ℕ} (b % 128 + 128 * high.0, high.1) found = cc in
    subst (λ (f : ℕ × List ℕ). ChainFound (suc places) (b ∷ bs) f.0 f.1) same (record {
      chain = b ∷ behind.chain;
      is = longer b behind.chain large behind.is;
      whole = ap (λ xs. b ∷ xs) behind.whole;
      value = ap (λ n. b % 128 + 128 * n) behind.value;
      size = omega (arith, behind.size);
    })

found_by : (places b : ℕ) (bs : List ℕ) (found : ℕ × List ℕ) (small : Bool) → ltb b 128 ≡ small → cond small (Some (b, bs)) (with_group b (chain_at places bs)) ≡ Some found
    → ((high : ℕ × List ℕ) → chain_at places bs ≡ Some high → ChainFound places bs high.0 high.1) → ChainFound (suc places) (b ∷ bs) found.0 found.1
found_by places b bs found true small is later =
    let below : b < 128 = ltb-true b 128 small in
    let same : ◌≡◌ {A = ℕ × List ℕ} (b, bs) found = cc in
    subst (λ (f : ℕ × List ℕ). ChainFound (suc places) (b ∷ bs) f.0 f.1) same (record { chain = b ∷ []; is = below; whole = refl; value = omega arith; size = omega arith })
found_by places b bs found false large is later = found_behind places b bs (chain_at places bs) found (ltb-false b 128 large) is later

pub chain_found : (places : ℕ) (bytes : List ℕ) (found : ℕ × List ℕ) → chain_at places bytes ≡ Some found → ChainFound places bytes found.0 found.1
chain_found zero bytes found is = absurd cc
chain_found (suc places) [] found is = absurd cc
chain_found (suc places) (b ∷ bs) found is = found_by places b bs found (ltb b 128) refl is (λ high known. chain_found places bs high known)

pub chain_again : (places : ℕ) (chain rest : List ℕ) → IsChain chain → length chain ≤ places → chain_at places (chain ++ rest) ≡ Some (groups_number chain, rest)
chain_again places [] rest is size = absurd is
chain_again zero (b ∷ bs) rest is size = absurd (omega arith)
chain_again (suc places) (b ∷ []) rest is size =
    let small : ltb b 128 ≡ true = lt-ltb b 128 is in
    let value : b ≡ b % 128 + 128 * 0 = omega arith in
    rw small (ap (λ n. Some (n, rest)) value)
chain_again (suc places) (b ∷ c ∷ cs) rest is size =
    let large : ltb b 128 ≡ false = le-ltb b 128 is.0 in
    rw large (ap (with_group b) (chain_again places (c ∷ cs) rest is.1 (omega arith)))

-- a varint at the front of bytes
pub record VarintFound (bytes : List ℕ) (number : ℕ) (rest : List ℕ) : Type 0 where
  pub header : List ℕ
  pub is : IsVarint header number
  pub whole : bytes ≡ header ++ rest

small_by : (bytes : List ℕ) (high found : ℕ × List ℕ) (small : Bool) → ltb high.0 (2 ^ 64) ≡ small → cond small (Some high) None ≡ Some found → ChainFound 10 bytes high.0 high.1
    → VarintFound bytes found.0 found.1
small_by bytes high found true small is chain =
    let same : high ≡ found = cc in
    let below = ltb-true high.0 (2 ^ 64) small in
    subst (λ (f : ℕ × List ℕ). VarintFound bytes f.0 f.1) same (record {
      header = chain.chain;
      is = record { chain = chain.is; size = chain.size; value = chain.value; small = below };
      whole = chain.whole;
    })
small_by bytes high found false large is chain = absurd cc

varint_by : (bytes : List ℕ) (found : ℕ × List ℕ) (known : Front ℕ) → chain_at 10 bytes ≡ known → (known >>= unless_large) ≡ Some found → VarintFound bytes found.0 found.1
varint_by bytes found None known is = absurd cc
varint_by bytes found (Some high) known is = small_by bytes high found (ltb high.0 (2 ^ 64)) refl is (chain_found 10 bytes high known)

pub varint_found : (bytes : List ℕ) (found : ℕ × List ℕ) → varint_at bytes ≡ Some found → VarintFound bytes found.0 found.1
unfolding varint_at
varint_found bytes found is = varint_by bytes found (chain_at 10 bytes) refl is

pub varint_again : (header rest : List ℕ) (number : ℕ) → IsVarint header number → varint_at (header ++ rest) ≡ Some (number, rest)
unfolding varint_at
varint_again header rest number is =
    let chain = chain_again 10 header rest is.chain is.size in
    let below : ltb number (2 ^ 64) ≡ true = lt-ltb number (2 ^ 64) is.small in
    rw (chain, sym is.value, below) refl
