-- The laws of the varint at the front of bytes.
use Rattle.std.proofs.Common.{◌≡◌, ℕ, ◌-◌, ◌≤◌, List, ◌++◌, length, take, drop, Some, None, Ok, Err, refl, sym, ap, ◌∙◌, arith, length-drop, min}
use Rattle.std.proofs.Math.Seq.{take-length}
use Rattle.std.proofs.lemmas.List.{drop_min}
use Rattle.std.specs.Prelude.{IfSome}
use Rattle.thrift_compact.specs.Grammar.{IsVarint}
use Rattle.thrift_compact.specs.Reading.{Outcome, varint, varint_found, first_varint}
use Rattle.thrift_compact.specs.Places.{IsFrontVarint}
use Rattle.thrift_compact.specs.Steps.{StepsOnlyTo}
use Rattle.thrift_compact.specs.declared.fault.Fault.{Fault}
use Rattle.thrift_compact.specs.declared.fault.Fault.TheVariants.{Memory, Refused}
use Rattle.thrift_compact.proofs.Fronts.{rest_within, front_is, is_front}
use Rattle.thrift_compact.proofs.Numbers.{varint_reads}

pub varint_within : (bytes : List ℕ) (number : ℕ) (rest : List ℕ) → varint 64 bytes ≡ Ok (number, rest) → length rest ≤ length bytes
varint_within bytes number rest is = rest_within (varint_reads 64) bytes number rest is

found_by : (bytes : List ℕ) (o : Outcome ℕ) → varint 64 bytes ≡ o → IfSome (varint_found (length bytes) o) (λ found. IsFrontVarint bytes found.0 found.1)
found_by bytes (Err rest) e = tt
found_by bytes (Ok p) e = record { within = omega arith; spelled = front_is (varint_reads 64) bytes p.0 p.1 e }

pub first_found : (bytes : List ℕ) → IfSome (first_varint bytes) (λ found. IsFrontVarint bytes found.0 found.1)
unfolding first_varint
first_found bytes = found_by bytes (varint 64 bytes) refl

pub first_only : (bytes front : List ℕ) (number : ℕ) (more : List ℕ) → IsVarint 64 front number → bytes ≡ front ++ more → first_varint bytes ≡ Some (number, length front)
unfolding first_varint
first_only bytes front number more is split =
    let both = is_front (varint_reads 64) front number more is in
    ap (λ z. varint_found (length z) (varint 64 z)) split ∙ ap (varint_found (length (front ++ more))) both.0 ∙ ap (λ k. Some (number, k)) both.1

pub first_ok : (bytes : List ℕ) (number : ℕ) (rest : List ℕ) → varint 64 bytes ≡ Ok (number, rest) → first_varint bytes ≡ Some (number, length bytes - length rest)
unfolding first_varint
first_ok bytes number rest is = ap (varint_found (length bytes)) is

pub first_err : (bytes rest : List ℕ) → varint 64 bytes ≡ Err rest → first_varint bytes ≡ None
unfolding first_varint
first_err bytes rest is = ap (varint_found (length bytes)) is

pub no_fault : (bytes cursor : List ℕ) → cursor ≡ bytes → (e : Fault) (rest : List ℕ) → StepsOnlyTo (varint 64 cursor) (Err e) rest → first_varint bytes ≡ None
no_fault bytes cursor same Refused rest is = first_err bytes rest (ap (varint 64) (sym same) ∙ is)
no_fault bytes cursor same Memory rest is = absurd is

-- a cut at the place, or at the end where the place lies past it
pub cut : (at : ℕ) (bytes : List ℕ) (k : ℕ) → k ≡ min at (length bytes) → take (length bytes - k) (drop k bytes) ≡ drop at bytes
cut at bytes k is =
    ap (λ n. take n (drop k bytes)) (sym (length-drop k bytes)) ∙ take-length (drop k bytes) ∙ ap (λ n. drop n bytes) is ∙ drop_min at bytes
