-- Values that are read and written one after the other.
use Rattle.std.proofs.Common.{◌≡◌, ℕ, zero, suc, ◌+◌, ◌-◌, ◌<◌, ◌≤◌, List, [], ◌∷◌, ◌++◌, length, take, Some, None, Ok, Err, Result, refl, sym, ap, ◌∙◌, append_assoc, length-append, arith}
use Rattle.std.specs.Prelude.{option_map}
use Rattle.std.proofs.lemmas.List.{append-nil, take-take, take_at, take_all}
use Rattle.dm_types.specs.Then.{◌>>=◌}
use Rattle.std.specs.Borrow.{Bor}
use Rattle.plain_values.specs.Answers.{ReadsPlain, ReadsLent, BeginsWith, lent_values}
use Rattle.plain_values.specs.Steps.{GivesFront}
use Rattle.plain_values.specs.Meaning.{Wrong, extra, Front, with_value, values_at, whole_at, whole}
use Rattle.plain_values.specs.declared.fault.PlainFault.{PlainFault}
use Rattle.plain_values.specs.declared.fault.PlainFault.TheVariants as fault

-- values before those behind them
abbrev pub with_values : {V : Type 0} → List V → Front (List V) → Front (List V)
with_values values more = option_map (λ found. (values ++ found.0, found.1)) more

module _ {V : Type 0} (one : List ℕ → Front V) where
  pub none_read : (left : ℕ) (bytes : List ℕ) → values_at one left bytes ≡ with_values [] (values_at one (left - 0) bytes)
  none_read left bytes = let all : left - 0 ≡ left = omega arith in rw all (same_by (values_at one left bytes))
    where
      same_by : (read : Front (List V)) → read ≡ with_values [] read
      same_by None = refl
      same_by (Some found) = refl

  value_first : (old : List V) (value : V) (more : Front (List V)) → with_values old (with_value value more) ≡ with_values (old ++ value ∷ []) more
  value_first old value None = refl
  value_first old value (Some found) = ap (λ vs. Some (vs, found.1)) (sym (append_assoc old (value ∷ []) found.0))

  next : (left : ℕ) (bytes : List ℕ) → 0 < left → values_at one left bytes ≡ (one bytes >>= λ first. with_value first.0 (values_at one (left - 1) first.1))
  unfolding values_at
  next zero bytes some = absurd (omega arith)
  next (suc left) bytes some = let less : suc left - 1 ≡ left = omega arith in rw less refl

  pub value_read : (old : List V) (value : V) (count place : ℕ) (bytes rest : List ℕ) → place < count → one bytes ≡ Some (value, rest)
      → with_values old (values_at one (count - place) bytes) ≡ with_values (old ++ value ∷ []) (values_at one (count - (place + 1)) rest)
  value_read old value count place bytes rest below is =
      let less : count - place - 1 ≡ count - (place + 1) = omega arith in
      ap (with_values old) (next (count - place) bytes (omega arith) ∙ ap (λ (known : Front V). known >>= λ first. with_value first.0 (values_at one (count - place - 1) first.1)) is)
      ∙ value_first old value (values_at one (count - place - 1) rest)
      ∙ ap (λ n. with_values (old ++ value ∷ []) (values_at one n rest)) less

  value_missing : (old : List V) (count place : ℕ) (bytes : List ℕ) → place < count → one bytes ≡ None → with_values old (values_at one (count - place) bytes) ≡ None
  value_missing old count place bytes below is =
      ap (with_values old) (next (count - place) bytes (omega arith) ∙ ap (λ (known : Front V). known >>= λ first. with_value first.0 (values_at one (count - place - 1) first.1)) is)

  pub fault_handed : (fault : PlainFault) {X : Type 0} (view : X → V × List ℕ) (old : List V) (count place : ℕ) (bytes now : List ℕ) → place < count
      → values_at one count bytes ≡ with_values old (values_at one (count - place) now) → GivesFront view (one now) (Err fault) → ReadsPlain (whole (values_at one count bytes)) (Err fault)
  fault_handed fault.Short view old count place bytes now below left missing = ap whole (left ∙ value_missing old count place now below missing)
  fault_handed fault.Extra view old count place bytes now below left never = absurd never
  fault_handed fault.Memory view old count place bytes now below left memory = tt

  nothing_more : (old : List V) (bytes : List ℕ) → with_values old (values_at one 0 bytes) ≡ Some (old, bytes)
  unfolding values_at
  nothing_more old bytes = ap (λ vs. Some (vs, bytes)) (append-nil old)

  pub all_read : (values : List V) (count place : ℕ) (bytes rest : List ℕ) → count ≤ place → values_at one count bytes ≡ with_values values (values_at one (count - place) rest)
      → whole (values_at one count bytes) ≡ whole_at values rest
  all_read values count place bytes rest past left =
      let none : count - place ≡ 0 = omega arith in
      ap whole (left ∙ ap (λ n. with_values values (values_at one n rest)) none ∙ nothing_more values rest)

pub left_over : {A : Type 0} (values : A) (rest : List ℕ) → 0 < length rest → whole_at values rest ≡ Err extra
left_over values [] some = absurd (omega arith)
left_over values (b ∷ bs) some = refl

pub none_over : {A : Type 0} (values : A) (rest : List ℕ) → length rest ≡ 0 → whole_at values rest ≡ Ok values
none_over values [] none = refl
none_over values (b ∷ bs) none = absurd (omega arith)

pub begins_still : (old now new more : List ℕ) → now ≡ old ++ more → BeginsWith now new → BeginsWith old new
begins_still old now new more is begins =
    let sizes : length now ≡ length old + length more = ap length is ∙ length-append old more in
    sym (take-take (length old) (length now) new (omega arith)) ∙ ap (take (length old)) (begins ∙ is) ∙ take_at old more (length old) refl

pub begins_same : (old new : List ℕ) → new ≡ old → BeginsWith old new
begins_same old new is = ap (take (length old)) is ∙ take_all (length old) old (omega arith)

-- ---- values that are lent

pub lent_fault : (known : Result (List (List ℕ)) Wrong) (f : PlainFault) → ReadsPlain known (Err f) → ReadsLent known (Err f)
lent_fault known fault.Short is = is
lent_fault known fault.Extra is = is
lent_fault known fault.Memory is = tt

pub lent_more : (lent : List (Bor (List ℕ))) (value : Bor (List ℕ)) → lent_values (lent ++ value ∷ []) ≡ lent_values lent ++ value.now ∷ []
lent_more [] value = refl
lent_more (first ∷ lent) value = ap (λ values. first.now ∷ values) (lent_more lent value)
