-- Columns that are put one behind the other.
use Rattle.std.proofs.Common.{◌≡◌, ℕ, suc, ◌+◌, ◌<◌, List, [], ◌∷◌, ◌++◌, length, length-append, map, drop, Some, refl, sym, ap, ◌∙◌, subst, arith, add-one, append_assoc}
use Rattle.std.specs.Prelude.{All, slice_get}
use Rattle.std.proofs.Math.Seq.{drop-cons}
use Rattle.std.proofs.lemmas.List.{length-drop, length-map}
use Rattle.std.proofs.lemmas.List.Elements.{All-get_or, All-head}
use Rattle.std.proofs.lemmas.Option.{get_or_from_slice_get}
use Rattle.column_vectors.specs.Cells.{Cells}
use Rattle.dm_types.specs.declared.value.DataType.{DataType}
use Rattle.table_load.specs.Files.{joined}

abbrev pub kinds : List Cells → List DataType
kinds columns = map (λ column. column.kind) columns

-- each column has a value for each of so many rows
abbrev pub AreEven : ℕ → List Cells → Type 0
AreEven rows columns = All (λ column. length column.values ≡ rows) columns

-- a column has one at its place behind which it is put
pub within : (items rest more : List Cells) (column : Cells) (n : ℕ) → items ≡ column ∷ rest → kinds items ≡ kinds (drop n more) → n < length more
within items rest more column n is same =
    let long : length items ≡ length (drop n more) = sym (length-map items (λ (c : Cells). c.kind)) ∙ ap length same ∙ length-map (drop n more) (λ (c : Cells). c.kind) in
    omega (arith, ap length is, long, length-drop n more)

pub next_of : (more : List Cells) (other : Cells) (n : ℕ) → n < length more → slice_get more n ≡ Some other → drop n more ≡ other ∷ drop (n + 1) more
next_of more other n inside at =
    drop-cons more n other inside ∙ ap (λ (c : Cells). c ∷ drop (suc n) more) (get_or_from_slice_get more n other other at) ∙ ap (λ (k : ℕ). other ∷ drop k more) (sym (add-one n))

pub same_kind : (items rest more : List Cells) (column other : Cells) (n : ℕ) → items ≡ column ∷ rest → kinds items ≡ kinds (drop n more) → drop n more ≡ other ∷ drop (n + 1) more → (column.kind ≡ other.kind) × (kinds rest ≡ kinds (drop (n + 1) more))
same_kind items rest more column other n is same cut =
    let e : ◌≡◌ {A = List DataType} (column.kind ∷ kinds rest) (other.kind ∷ kinds (drop (n + 1) more)) = sym (ap kinds is) ∙ same ∙ ap kinds cut in
    (cc, cc)

abbrev pub behind : Cells → Cells → Cells
behind column other = record { kind = column.kind; values = column.values ++ other.values }

pub one_more : (items rest more all now whole : List Cells) (column other : Cells) → items ≡ column ∷ rest → drop (length all) more ≡ other ∷ drop (length all + 1) more → now ≡ all ++ behind column other ∷ []
    → whole ≡ all ++ joined items (drop (length all) more) → whole ≡ now ++ joined rest (drop (length now) more)
unfolding joined
one_more items rest more all now whole column other is cut pushed before =
    let long : length now ≡ length all + 1 = ap length pushed ∙ length-append all (behind column other ∷ []) in
    before ∙ rw (is, cut) (sym (append_assoc all (behind column other ∷ []) (joined rest (drop (length all + 1) more)))) ∙ ap (λ (xs : List Cells). xs ++ joined rest (drop (length all + 1) more)) (sym pushed) ∙ ap (λ (k : ℕ). now ++ joined rest (drop k more)) (sym long)

pub no_more : (items more all whole : List Cells) → items ≡ [] → whole ≡ all ++ joined items (drop (length all) more) → all ≡ whole
unfolding joined
no_more items more all whole is before = sym (before ∙ rw is (append-none all))
  where
    append-none : (xs : List Cells) → xs ++ [] ≡ xs
    append-none [] = refl
    append-none (x ∷ xs) = ap (λ (ys : List Cells). x ∷ ys) (append-none xs)

pub long_next : (all now : List Cells) (column : Cells) → now ≡ all ++ column ∷ [] → length now ≡ length all + 1
long_next all now column pushed = ap length pushed ∙ length-append all (column ∷ [])

-- both columns are as long as their batches say
pub both_long : (items rest more : List Cells) (column other : Cells) (n rows more_rows : ℕ) → items ≡ column ∷ rest → n < length more → slice_get more n ≡ Some other → AreEven rows items → AreEven more_rows more → length (behind column other).values ≡ rows + more_rows
both_long items rest more column other n rows more_rows is inside at even more_even =
    length-append column.values other.values ∙ ap (λ (k : ℕ). k + length other.values) (All-head (λ (c : Cells). length c.values ≡ rows) column rest (subst (AreEven rows) is even))
    ∙ ap (λ (k : ℕ). rows + k) (subst (λ (c : Cells). length c.values ≡ more_rows) (get_or_from_slice_get more n other other at) (All-get_or (λ (c : Cells). length c.values ≡ more_rows) more n other inside more_even))
