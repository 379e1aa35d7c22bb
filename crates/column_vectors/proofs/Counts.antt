-- Counts of flags.
use Rattle.std.proofs.Common.{◌≡◌, ℕ, zero, suc, ◌+◌, ◌<◌, ◌≤◌, List, [], ◌∷◌, ◌++◌, length, take, slice_get, Bool, true, false, Some, arith}
use Rattle.column_vectors.specs.Flags.{count_of}

pub count_of-append : (xs ys : List Bool) → count_of (xs ++ ys) ≡ count_of xs + count_of ys
count_of-append [] ys = omega arith
count_of-append (true ∷ xs) ys = omega (arith, count_of-append xs ys)
count_of-append (false ∷ xs) ys = count_of-append xs ys

pub count_of-le : (xs : List Bool) → count_of xs ≤ length xs
count_of-le [] = omega arith
count_of-le (true ∷ xs) = omega (arith, count_of-le xs)
count_of-le (false ∷ xs) = omega (arith, count_of-le xs)

-- a flag that is set is one more than those before it
pub count_of-before : (xs : List Bool) (i : ℕ) → slice_get xs i ≡ Some true → count_of (take i xs) < count_of xs
count_of-before [] i set = absurd cc
count_of-before (true ∷ xs) zero set = omega arith
count_of-before (false ∷ xs) zero set = absurd cc
count_of-before (true ∷ xs) (suc i) set = omega (arith, count_of-before xs i set)
count_of-before (false ∷ xs) (suc i) set = count_of-before xs i set

pub none_set : (xs : List Bool) (i : ℕ) → slice_get xs i ≡ Some true → count_of xs ≡ 0 → ⊥
none_set xs i set none = omega (arith, count_of-before xs i set)
