-- The laws of the struct at the front of bytes.
use Rattle.std.proofs.Common.{◌≡◌, ℕ, ◌+◌, ◌-◌, ◌<◌, ◌≤◌, List, ◌++◌, length, take, drop, append_assoc, ◌⊎◌, inl, inr, Result, Ok, Err, refl, sym, ap, subst, ◌∙◌, arith, pos, length-append}
use Rattle.std.specs.Prelude.{IfOk}
use Rattle.std.proofs.lemmas.Bool.{cases_order}
use Rattle.std.proofs.Math.Seq.{take-add}
use Rattle.thrift_compact.specs.Grammar.{IsValue, IsStruct}
use Rattle.thrift_compact.specs.Reading.{Outcome, value, struct_fields, placed, read}
use Rattle.thrift_compact.specs.Gives.{Gives}
use Rattle.thrift_compact.specs.Places.{IsFront, IsPlace}
use Rattle.thrift_compact.specs.declared.tree.Field.{Field}
use Rattle.thrift_compact.specs.declared.fault.ThriftFault.{ThriftFault}
use Rattle.thrift_compact.specs.declared.fault.ThriftFault.TheVariants as fault
use Rattle.thrift_compact.proofs.Forms.{IsReaderOf}
use Rattle.thrift_compact.proofs.Fronts.{rest_within, front_is, is_front, one_value, place_within, place_goes_on, place_ends}
use Rattle.thrift_compact.proofs.ValueLaws.{value_reads, struct_reads}

reads : IsReaderOf IsStruct struct_fields
reads = struct_reads 63 (IsValue 63) (value 63) (value_reads 63) (pos 0)

found_by : (bytes : List ℕ) (o : Outcome (List Field)) → struct_fields bytes ≡ o → (tree : List Field) (size : ℕ) → placed (length bytes) o ≡ Ok (tree, size) → IsFront bytes tree size
found_by bytes (Err rest) e tree size is = absurd (cc)
found_by bytes (Ok p) e tree size is =
    let pair : ◌≡◌ {A = List Field × ℕ} (p.0, length bytes - length p.1) (tree, size) = cc in
    let same : length bytes - length p.1 ≡ size = ap (λ (q : List Field × ℕ). q.1) pair in
    let front = front_is reads bytes p.0 p.1 e in
    record {
      within = omega (arith, same);
      spelled = subst (λ k. IsStruct (take k bytes) tree) same (subst (λ t. IsStruct (take (length bytes - length p.1) bytes) t) (ap (λ (q : List Field × ℕ). q.0) pair) front);
    }

pub read_found : (bytes : List ℕ) (tree : List Field) (size : ℕ) → read bytes ≡ Ok (tree, size) → IsFront bytes tree size
unfolding read
read_found bytes tree size is = found_by bytes _ refl tree size is

pub read_only : (front : List ℕ) (tree : List Field) (more : List ℕ) → IsStruct front tree → read (front ++ more) ≡ Ok (tree, length front)
unfolding read
read_only front tree more is =
    let both = is_front reads front tree more is in
    ap (placed (length (front ++ more))) both.0 ∙ ap (λ k. Ok (tree, k)) both.1

place_by : (bytes : List ℕ) (o : Outcome (List Field)) → struct_fields bytes ≡ o → (at : ℕ) → placed (length bytes) o ≡ Err at → IsPlace bytes at
place_by bytes (Ok p) e at is = absurd (cc)
place_by bytes (Err rest) e at is =
    let same : length bytes - length rest ≡ at = cc in
    let place : IsPlace bytes (length bytes - length rest) = record { within = place_within reads bytes rest e; goes_on = place_goes_on reads bytes rest e; ends = place_ends reads bytes rest e } in
    subst (λ k. IsPlace bytes k) same place

pub read_place : (bytes : List ℕ) (at : ℕ) → read bytes ≡ Err at → IsPlace bytes at
unfolding read
read_place bytes at is = place_by bytes _ refl at is

pub one_struct : (front other more rest : List ℕ) (x y : List Field) → IsStruct front x → IsStruct other y → front ++ more ≡ other ++ rest → (front ≡ other) × (x ≡ y)
one_struct front other more rest x y is also same = one_value reads front other more rest x y is also same

-- ---- the same, of what a call gave

pub call_found : (bytes : List ℕ) (result : Result (List Field × ℕ) ThriftFault) → Gives (read bytes) result → IfOk result (λ found. IsFront bytes found.0 found.1)
call_found bytes (Ok found) is = read_found bytes found.0 found.1 is
call_found bytes (Err fault) is = tt

pub call_only : (bytes : List ℕ) (result : Result (List Field × ℕ) ThriftFault) → Gives (read bytes) result → (front : List ℕ) (tree : List Field) (more : List ℕ) → IsStruct front tree → bytes ≡ front ++ more → Gives (Ok (tree, length front)) result
call_only bytes (Ok found) is front tree more spelled split = sym (read_only front tree more spelled) ∙ ap read (sym split) ∙ is
call_only bytes (Err (fault.BadThrift at)) is front tree more spelled split = sym (read_only front tree more spelled) ∙ ap read (sym split) ∙ is
call_only bytes (Err fault.Memory) is front tree more spelled split = tt

pub call_place : (bytes : List ℕ) (result : Result (List Field × ℕ) ThriftFault) → Gives (read bytes) result → (at : ℕ) → result ≡ Err (fault.BadThrift at) → IsPlace bytes at
call_place bytes (Ok found) is at bad = absurd (cc)
call_place bytes (Err (fault.BadThrift place)) is at bad = let same : place ≡ at = cc in read_place bytes at (is ∙ ap Err same)
call_place bytes (Err fault.Memory) is at bad = absurd (cc)

-- ---- the subtractions of the calls

pub struct_within : (bytes : List ℕ) (tree : List Field) (rest : List ℕ) → struct_fields bytes ≡ Ok (tree, rest) → length rest ≤ length bytes
struct_within bytes tree rest is = rest_within reads bytes tree rest is

pub fault_within : (bytes rest : List ℕ) → struct_fields bytes ≡ Err rest → length rest ≤ length bytes
fault_within bytes rest is = let stop = reads.stops bytes rest is in omega (arith, ap length stop.split, length-append stop.before rest)

pub struct_placed : (bytes : List ℕ) (tree : List Field) (rest : List ℕ) → struct_fields bytes ≡ Ok (tree, rest) → read bytes ≡ Ok (tree, length bytes - length rest)
unfolding read
struct_placed bytes tree rest is = ap (placed (length bytes)) is

pub fault_placed : (bytes rest : List ℕ) → struct_fields bytes ≡ Err rest → read bytes ≡ Err (length bytes - length rest)
unfolding read
fault_placed bytes rest is = ap (placed (length bytes)) is

-- ---- one place

not_later : (bytes : List ℕ) (at also : ℕ) → IsPlace bytes at → IsPlace bytes also → at < also → ⊥
not_later bytes at also first second later =
    let onward = second.goes_on in
    let short : at + 1 ≤ also = omega arith in
    let split : take also bytes ≡ take (at + 1) bytes ++ take (also - (at + 1)) (drop (at + 1) bytes) = ap (λ k. take k bytes) (omega arith) ∙ take-add (at + 1) (also - (at + 1)) bytes in
    let whole : take also bytes ++ onward.0 ≡ take (at + 1) bytes ++ (take (also - (at + 1)) (drop (at + 1) bytes) ++ onward.0) = ap (λ z. z ++ onward.0) split ∙ append_assoc (take (at + 1) bytes) (take (also - (at + 1)) (drop (at + 1) bytes)) onward.0 in
    first.ends (omega (arith, second.within)) (take (also - (at + 1)) (drop (at + 1) bytes) ++ onward.0) onward.1 (subst (λ z. IsStruct z onward.1) whole onward.2)

pub one_place : (bytes : List ℕ) (at also : ℕ) → IsPlace bytes at → IsPlace bytes also → at ≡ also
one_place bytes at also first second = by_order (cases_order at also)
  where
    by_order : (at ≡ also) ⊎ ((at < also) ⊎ (also < at)) → at ≡ also
    by_order (inl same) = same
    by_order (inr (inl later)) = absurd (not_later bytes at also first second later)
    by_order (inr (inr later)) = absurd (not_later bytes also at second first later)
