-- Pairs that are put in one after another stand in byte order of their names.
use Rattle.std.proofs.Common.{◌≡◌, ℕ, List, [], ◌∷◌, refl, ap, ◌∙◌}
use Rattle.std.specs.BTreeMap.{insert_entry}
use Rattle.std.specs.Cmp.Lexicographic.{slice_cmp}
use Rattle.std.specs.List.{AllByRecursion}
use Rattle.std.specs.List.Sorted.{IsStrictlySortedBy}
use Rattle.std.specs.Map.{keys_of}
use Rattle.std.specs.Ordering.{nat_cmp, match_ordering, ordering_reverse}
use Rattle.std.specs.declared.cmp.Ordering.{Ordering}
use Rattle.std.specs.declared.cmp.Ordering.TheVariants.{Less, Equal, Greater}
use Rattle.std.proofs.lemmas.Cmp.{nat_list_cmp_total}
use Rattle.delta_actions.specs.Writable.{AreOrdered}
use Rattle.table_make.specs.NewProperties.{Pairs, with_pairs}

abbrev compare : List ℕ → List ℕ → Ordering
compare = slice_cmp nat_cmp

abbrev IsBelow : List ℕ → List (List ℕ) → Type 0
IsBelow name names = AllByRecursion (λ other. compare name other ≡ Less) names

below_more : (a b : List ℕ) (names : List (List ℕ)) → compare a b ≡ Less → IsBelow b names → IsBelow a names
below_more a b [] less below = tt
below_more a b (name ∷ names) less below = (nat_list_cmp_total.trans a b name less below.0, below_more a b names less below.1)

-- what is below the pairs, and below a name, is below the pairs with that name
below_inserted : (a name text : List ℕ) (pairs : Pairs) → compare a name ≡ Less → IsBelow a (keys_of pairs) → IsBelow a (keys_of (insert_entry compare pairs name text))
below_inserted a name text [] less below = (less, tt)
below_inserted a name text (pair ∷ pairs) less below = placed (compare name pair.0) (below_inserted a name text pairs less below.1)
  where
    placed : (o : Ordering) → IsBelow a (keys_of (insert_entry compare pairs name text)) → IsBelow a (keys_of (match_ordering o ((name, text) ∷ pair ∷ pairs) ((pair.0, text) ∷ pairs) (pair ∷ insert_entry compare pairs name text)))
    placed Less rest = (less, below)
    placed Equal rest = below
    placed Greater rest = (below.0, rest)

turned : (a b : List ℕ) → compare a b ≡ Greater → compare b a ≡ Less
turned a b greater = nat_list_cmp_total.antisymm b a ∙ ap ordering_reverse greater

inserted : (name text : List ℕ) (pairs : Pairs) → AreOrdered pairs → AreOrdered (insert_entry compare pairs name text)
unfolding IsStrictlySortedBy
inserted name text [] up = (tt, tt)
inserted name text (pair ∷ pairs) up = placed (compare name pair.0) refl (inserted name text pairs up.1)
  where
    placed : (o : Ordering) → compare name pair.0 ≡ o → AreOrdered (insert_entry compare pairs name text) → AreOrdered (match_ordering o ((name, text) ∷ pair ∷ pairs) ((pair.0, text) ∷ pairs) (pair ∷ insert_entry compare pairs name text))
    placed Less is rest = ((is, below_more name pair.0 (keys_of pairs) is up.0), up)
    placed Equal is rest = up
    placed Greater is rest = (below_inserted pair.0 name text pairs (turned name pair.0 is) up.0, rest)

ordered_onto : (found pairs : Pairs) → AreOrdered found → AreOrdered (with_pairs found pairs)
unfolding with_pairs
ordered_onto found [] up = up
ordered_onto found (pair ∷ pairs) up = ordered_onto (insert_entry compare found pair.0 pair.1) pairs (inserted pair.0 pair.1 found up)

pub none_ordered : AreOrdered {A = List ℕ} []
unfolding IsStrictlySortedBy
none_ordered = tt

pub ordered : (pairs : Pairs) → AreOrdered (with_pairs [] pairs)
ordered pairs = ordered_onto [] pairs none_ordered
