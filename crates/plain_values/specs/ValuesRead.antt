-- Values that stand one after the other are read as they are spelled, as the laws of `Plain` say.
use Rattle.std.proofs.Common.{◌≡◌, ℕ, zero, suc, ◌+◌, ◌<◌, List, [], ◌∷◌, ◌++◌, length, Some, None, refl, sym, ap, ◌∙◌, subst, append_assoc}
use Rattle.std.specs.List.{AllByRecursion, flat_map}
use Rattle.std.proofs.lemmas.List.{append-nil, get_or-append-add}
use Rattle.std.proofs.lemmas.List.Elements.{All-from_recursion, recursion_from_All}
use Rattle.dm_types.specs.Then.{◌>>=◌}
use Rattle.plain_values.specs.Meaning.{AreBytes, StandInTurn, Front, with_value, values_at, whole_at, whole, Judges}
use Rattle.plain_values.specs.Steps.{IsReaderOf}

pub bytes_behind : (front rest : List ℕ) → AreBytes (front ++ rest) → AreBytes rest
bytes_behind front rest are = λ place. subst (λ n. n < 256) (get_or-append-add front rest place 0) (are (length front + place))

-- values at the front of bytes
pub record Found {V : Type 0} (is : V → Type 0) (spelled : V → List ℕ) (count : ℕ) (bytes : List ℕ) (values : List V) (rest : List ℕ) : Type 0 where
  pub counted : length values ≡ count
  pub each : AllByRecursion is values
  pub joined : bytes ≡ flat_map spelled values ++ rest

module _ {V : Type 0} (one : List ℕ → Front V) (is : V → Type 0) (spelled : V → List ℕ) (read : IsReaderOf one is spelled) where
  found_behind : (count : ℕ) (bytes : List ℕ) (first : V × List ℕ) (known : Front (List V)) (found : List V × List ℕ) → AreBytes bytes → one bytes ≡ Some first → with_value first.0 known ≡ Some found
      → ((more : List V × List ℕ) → AreBytes first.1 → known ≡ Some more → Found is spelled count first.1 more.0 more.1) → Found is spelled (suc count) bytes found.0 found.1
  found_behind count bytes first None found are taken known later = absurd cc
  found_behind count bytes first (Some more) found are taken known later =
      let one_value = read.found bytes first.0 first.1 are taken in
      let behind : AreBytes first.1 = bytes_behind (spelled first.0) first.1 (subst AreBytes one_value.1 are) in
      let others = later more behind refl in
      let same : ◌≡◌ {A = List V × List ℕ} (first.0 ∷ more.0, more.1) found = cc in
      subst (λ (f : List V × List ℕ). Found is spelled (suc count) bytes f.0 f.1) same (record {
        counted = ap suc others.counted;
        each = (one_value.0, others.each);
        joined = one_value.1 ∙ ap (λ bs. spelled first.0 ++ bs) others.joined ∙ sym (append_assoc (spelled first.0) (flat_map spelled more.0) more.1);
      })

  found_first : (count : ℕ) (bytes : List ℕ) (known : Front V) (found : List V × List ℕ) → AreBytes bytes → one bytes ≡ known → (known >>= λ first. with_value first.0 (values_at one count first.1)) ≡ Some found
      → ((rest : List ℕ) (more : List V × List ℕ) → AreBytes rest → values_at one count rest ≡ Some more → Found is spelled count rest more.0 more.1) → Found is spelled (suc count) bytes found.0 found.1
  found_first count bytes None found are taken known later = absurd cc
  found_first count bytes (Some first) found are taken known later =
      found_behind count bytes first (values_at one count first.1) found are taken known (λ more behind known. later first.1 more behind known)

  pub values_found : (count : ℕ) (bytes : List ℕ) (found : List V × List ℕ) → AreBytes bytes → values_at one count bytes ≡ Some found → Found is spelled count bytes found.0 found.1
  unfolding values_at
  values_found zero bytes found are known =
      let same : ◌≡◌ {A = List V × List ℕ} ([], bytes) found = cc in
      subst (λ (f : List V × List ℕ). Found is spelled 0 bytes f.0 f.1) same (record { counted = refl; each = tt; joined = refl })
  values_found (suc count) bytes found are known = found_first count bytes (one bytes) found are refl known (λ rest more behind known. values_found count rest more behind known)

  pub values_again : (values : List V) (rest : List ℕ) → AllByRecursion is values → values_at one (length values) (flat_map spelled values ++ rest) ≡ Some (values, rest)
  unfolding values_at
  values_again [] rest each = refl
  values_again (value ∷ values) rest each =
      let first = read.again value (flat_map spelled values ++ rest) each.0 in
      let whole' = append_assoc (spelled value) (flat_map spelled values) rest in
      ap (λ (bs : List ℕ). one bs >>= λ first. with_value first.0 (values_at one (length values) first.1)) whole'
      ∙ ap (λ (known : Front V). known >>= λ first. with_value first.0 (values_at one (length values) first.1)) first
      ∙ ap (with_value value) (values_again values rest each.1)

  -- ---- the laws

  tells_found : (count : ℕ) (bytes : List ℕ) (values : List V) (rest : List ℕ) → Found is spelled count bytes values rest → Judges length (StandInTurn is spelled) count bytes (whole_at values rest)
  tells_found count bytes values [] found = (found.counted, record { each = All-from_recursion is values found.each; joined = found.joined ∙ append-nil (flat_map spelled values) })
  tells_found count bytes values (b ∷ bs) found = record {
    values = values;
    front = flat_map spelled values;
    rest = b ∷ bs;
    counted = found.counted;
    is = record { each = All-from_recursion is values found.each; joined = refl };
    whole = found.joined;
    left = λ none. absurd cc;
  }

  tells_by : (count : ℕ) (bytes : List ℕ) (known : Front (List V)) → AreBytes bytes → values_at one count bytes ≡ known → Judges length (StandInTurn is spelled) count bytes (whole known)
  tells_by count bytes None are known = λ values front rest counted means joined.
      let spelled_so : bytes ≡ flat_map spelled values ++ rest = joined ∙ ap (λ bs. bs ++ rest) means.joined in
      let read_so = sym known ∙ ap (values_at one count) spelled_so ∙ ap (λ n. values_at one n (flat_map spelled values ++ rest)) (sym counted) ∙ values_again values rest (recursion_from_All is values means.each) in
      cc
  tells_by count bytes (Some found) are known = tells_found count bytes found.0 found.1 (values_found count bytes found are known)

  pub in_turn_judges : (count : ℕ) (bytes : List ℕ) → AreBytes bytes → Judges length (StandInTurn is spelled) count bytes (whole (values_at one count bytes))
  in_turn_judges count bytes are = tells_by count bytes (values_at one count bytes) are refl

  pub in_turn_again : (values : List V) (bytes rest : List ℕ) → StandInTurn is spelled values bytes → whole (values_at one (length values) (bytes ++ rest)) ≡ whole_at values rest
  in_turn_again values bytes rest means =
      ap (λ bs. whole (values_at one (length values) (bs ++ rest))) means.joined ∙ ap whole (values_again values rest (recursion_from_All is values means.each))
