-- The versions of a set, and one more.
use Rattle.std.proofs.Common.{◌≡◌, ℕ, List, [], ◌∷◌, refl, ◌==◌, ◌||◌, arith}
use Rattle.std.specs.Ordering.{nat_cmp}
use Rattle.std.specs.BTreeSet.{insert_key}
use Rattle.std.proofs.lemmas.Bool.Decides.{nat_tests}
use Rattle.log_replay.specs.Numbers.{is_in}

-- one more version

insert_by : (n k x : ℕ) (xs : List ℕ) → is_in n (insert_key nat_cmp xs k) ≡ ((k == n) || is_in n xs) → is_in n (insert_key nat_cmp (x ∷ xs) k) ≡ ((k == n) || is_in n (x ∷ xs))
insert_by n k x xs rest = grind (arith, nat_tests)

pub insert_key-in : (n k : ℕ) (ks : List ℕ) → is_in n (insert_key nat_cmp ks k) ≡ ((k == n) || is_in n ks)
insert_key-in n k [] = refl
insert_key-in n k (x ∷ xs) = insert_by n k x xs (insert_key-in n k xs)
