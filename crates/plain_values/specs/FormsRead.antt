-- What is read of one value is what its bytes are, which the laws of the physical types cite.
use Rattle.std.proofs.Common.{◌≡◌, ℕ, ℤ, ◌^◌, ◌<◌, ◌≤◌, List, [], ◌++◌, length, take, drop, Some, None, Bool, true, false, cond, ltb, ⊎_elim, refl, sym, ap, ◌∙◌, subst, append_assoc, length-append, arith}
use Rattle.std.specs.Prelude.{option_map}
use Rattle.std.specs.Int.{w32, w64, cast_signed, cast_unsigned}
use Rattle.std.proofs.Math.Facts.{sfits_to_z, Fits-of_z, Fits-of_lt, Fits-lt-pow}
use Rattle.std.proofs.lemmas.Bool.{cases_lt, ltb-false, le-ltb}
use Rattle.std.proofs.lemmas.Int.{of_z-to_z, to_z-of_z}
use Rattle.std.proofs.lemmas.List.{append-nil, take_at, drop_at, take-append-drop, length-take-le, get_or_append_left, get_or_past}
use Rattle.std.proofs.lemmas.Nat.{le_bytes_4, le_bytes_8}
use Rattle.byteorder.specs.Endian.{little_number, little_bytes}
use Rattle.byteorder.specs.Numbers.{little_number-reads_back, length-bytes_low_first, little_from-lt}
use Rattle.dm_types.specs.Then.{◌>>=◌}
use Rattle.plain_values.specs.Meaning.{AreBytes, Front, bytes_at}
use Rattle.plain_values.specs.Steps.{IsReaderOf}
use Rattle.plain_values.specs.Forms.{int32_bytes, int64_bytes, array_bytes, own_bytes, IsInt32, IsInt64, IsArray, HasSize, as_int32, int32_at, as_int64, int64_at, array_at}

-- ---- so many bytes

record BytesFound (size : ℕ) (bytes front rest : List ℕ) : Type 0 where
  held : length front ≡ size
  whole : bytes ≡ front ++ rest

bytes_by : (size : ℕ) (bytes : List ℕ) (found : List ℕ × List ℕ) (small : Bool) → ltb (length bytes) size ≡ small → ◌≡◌ {A = Front (List ℕ)} (cond small None (Some (take size bytes, drop size bytes))) (Some found)
    → BytesFound size bytes found.0 found.1
bytes_by size bytes found true small is = absurd cc
bytes_by size bytes found false small is =
    let held = ltb-false (length bytes) size small in
    let same : ◌≡◌ {A = List ℕ × List ℕ} (take size bytes, drop size bytes) found = cc in
    subst (λ (f : List ℕ × List ℕ). BytesFound size bytes f.0 f.1) same (record { held = length-take-le size bytes held; whole = sym (take-append-drop size bytes) })

bytes_found : (size : ℕ) (bytes : List ℕ) (found : List ℕ × List ℕ) → bytes_at size bytes ≡ Some found → BytesFound size bytes found.0 found.1
bytes_found size bytes found is = bytes_by size bytes found (ltb (length bytes) size) refl is

bytes_again : (size : ℕ) (front rest : List ℕ) → length front ≡ size → bytes_at size (front ++ rest) ≡ Some (front, rest)
bytes_again size front rest is =
    let enough : size ≤ length (front ++ rest) = omega (arith, length-append front rest) in
    let held : ltb (length (front ++ rest)) size ≡ false = le-ltb (length (front ++ rest)) size enough in
    rw (held, take_at front rest size is, drop_at front rest size is) refl

bytes_before : (front rest : List ℕ) → AreBytes (front ++ rest) → AreBytes front
bytes_before front rest are = λ place.
    ⊎_elim
    (λ (within : place < length front). subst (λ n. n < 256) (get_or_append_left front rest 0 place within) (are place))
    (λ (past : length front ≤ place). let none = get_or_past front place 0 past in omega arith)
    (cases_lt place (length front))

-- ---- INT96, FLOAT, DOUBLE and FIXED_LEN_BYTE_ARRAY

pub own_read : (size : ℕ) → IsReaderOf (bytes_at size) (HasSize size) own_bytes
own_read size = record {
  found = λ bytes value rest are is. let parts = bytes_found size bytes (value, rest) is in (parts.held, parts.whole);
  again = λ value rest is. bytes_again size value rest is;
}

-- ---- INT32 and INT64

little_4 : (bytes : List ℕ) → length bytes ≡ 4 → AreBytes bytes → little_bytes 4 (little_number 4 bytes) ≡ bytes
little_4 bytes size are = le_bytes_4 bytes (little_number 4 bytes) size are (omega arith)

little_8 : (bytes : List ℕ) → length bytes ≡ 8 → AreBytes bytes → little_bytes 8 (little_number 8 bytes) ≡ bytes
little_8 bytes size are = le_bytes_8 bytes (little_number 8 bytes) size are (omega arith)

int32_found : (bytes : List ℕ) (value : ℤ) (rest : List ℕ) (known : Front (List ℕ)) → AreBytes bytes → bytes_at 4 bytes ≡ known → option_map as_int32 known ≡ Some (value, rest) → IsInt32 value × (bytes ≡ int32_bytes value ++ rest)
int32_found bytes value rest None are known is = absurd cc
int32_found bytes value rest (Some found) are known is =
    let parts = bytes_found 4 bytes found known in
    let own = bytes_before found.0 found.1 (subst AreBytes parts.whole are) in
    let small : little_number 4 found.0 < 2 ^ 32 = little_from-lt 0 4 found.0 own in
    let same : as_int32 found ≡ (value, rest) = cc in
    let first : cast_signed w32 (little_number 4 found.0) ≡ value = ap (λ (p : ℤ × List ℕ). p.0) same in
    let second : found.1 ≡ rest = ap (λ (p : ℤ × List ℕ). p.1) same in
    let back : int32_bytes value ≡ found.0 =
    ap int32_bytes (sym first) ∙ ap (little_bytes 4) (of_z-to_z w32 (little_number 4 found.0) small) ∙ little_4 found.0 parts.held own in
    (subst IsInt32 first (sfits_to_z {w = w32} {n = little_number 4 found.0} (Fits-of_lt {w = w32} small)), parts.whole ∙ ap (λ bs. found.0 ++ bs) second ∙ ap (λ bs. bs ++ rest) (sym back))

pub int32_read : IsReaderOf int32_at IsInt32 int32_bytes
int32_read = record {
  found = λ bytes value rest are is. int32_found bytes value rest (bytes_at 4 bytes) are refl is;
  again = λ value rest is.
      let front = bytes_again 4 (int32_bytes value) rest (length-bytes_low_first 0 4 (cast_unsigned w32 value)) in
      let small : cast_unsigned w32 value < 256 ^ 4 = Fits-lt-pow {w = w32} (Fits-of_z {w = w32} {z = value} is) in
      let number : little_number 4 (int32_bytes value) ≡ cast_unsigned w32 value =
      ap (little_number 4) (sym (append-nil (int32_bytes value))) ∙ little_number-reads_back 4 (cast_unsigned w32 value) [] small in
      ap (option_map as_int32) front ∙ ap (λ n. Some (cast_signed w32 n, rest)) number ∙ ap (λ z. Some (z, rest)) (to_z-of_z w32 value is);
}

int64_found : (bytes : List ℕ) (value : ℤ) (rest : List ℕ) (known : Front (List ℕ)) → AreBytes bytes → bytes_at 8 bytes ≡ known → option_map as_int64 known ≡ Some (value, rest) → IsInt64 value × (bytes ≡ int64_bytes value ++ rest)
int64_found bytes value rest None are known is = absurd cc
int64_found bytes value rest (Some found) are known is =
    let parts = bytes_found 8 bytes found known in
    let own = bytes_before found.0 found.1 (subst AreBytes parts.whole are) in
    let small : little_number 8 found.0 < 2 ^ 64 = little_from-lt 0 8 found.0 own in
    let same : as_int64 found ≡ (value, rest) = cc in
    let first : cast_signed w64 (little_number 8 found.0) ≡ value = ap (λ (p : ℤ × List ℕ). p.0) same in
    let second : found.1 ≡ rest = ap (λ (p : ℤ × List ℕ). p.1) same in
    let back : int64_bytes value ≡ found.0 =
    ap int64_bytes (sym first) ∙ ap (little_bytes 8) (of_z-to_z w64 (little_number 8 found.0) small) ∙ little_8 found.0 parts.held own in
    (subst IsInt64 first (sfits_to_z {w = w64} {n = little_number 8 found.0} (Fits-of_lt {w = w64} small)), parts.whole ∙ ap (λ bs. found.0 ++ bs) second ∙ ap (λ bs. bs ++ rest) (sym back))

pub int64_read : IsReaderOf int64_at IsInt64 int64_bytes
int64_read = record {
  found = λ bytes value rest are is. int64_found bytes value rest (bytes_at 8 bytes) are refl is;
  again = λ value rest is.
      let front = bytes_again 8 (int64_bytes value) rest (length-bytes_low_first 0 8 (cast_unsigned w64 value)) in
      let small : cast_unsigned w64 value < 256 ^ 8 = Fits-lt-pow {w = w64} (Fits-of_z {w = w64} {z = value} is) in
      let number : little_number 8 (int64_bytes value) ≡ cast_unsigned w64 value =
      ap (little_number 8) (sym (append-nil (int64_bytes value))) ∙ little_number-reads_back 8 (cast_unsigned w64 value) [] small in
      ap (option_map as_int64) front ∙ ap (λ n. Some (cast_signed w64 n, rest)) number ∙ ap (λ z. Some (z, rest)) (to_z-of_z w64 value is);
}

-- ---- BYTE_ARRAY

array_found : (bytes value rest : List ℕ) (known : Front (List ℕ)) → AreBytes bytes → bytes_at 4 bytes ≡ known → ◌≡◌ {A = Front (List ℕ)} (known >>= λ size. bytes_at (little_number 4 size.0) size.1) (Some (value, rest))
    → IsArray value × (bytes ≡ array_bytes value ++ rest)
array_found bytes value rest None are known is = absurd cc
array_found bytes value rest (Some found) are known is =
    let head = bytes_found 4 bytes found known in
    let own = bytes_before found.0 found.1 (subst AreBytes head.whole are) in
    let small : little_number 4 found.0 < 2 ^ 32 = little_from-lt 0 4 found.0 own in
    let body = bytes_found (little_number 4 found.0) found.1 (value, rest) is in
    let size : little_bytes 4 (length value) ≡ found.0 = ap (little_bytes 4) body.held ∙ little_4 found.0 head.held own in (
      subst (λ n. n < 2 ^ 32) (sym body.held) small,
      head.whole ∙ ap (λ bs. found.0 ++ bs) body.whole ∙ sym (append_assoc found.0 value rest) ∙ ap (λ bs. bs ++ value ++ rest) (sym size),
    )

pub array_read : IsReaderOf array_at IsArray array_bytes
array_read = record {
  found = λ bytes value rest are is. array_found bytes value rest (bytes_at 4 bytes) are refl is;
  again = λ value rest is.
      let head = little_bytes 4 (length value) in
      let front = bytes_again 4 head (value ++ rest) (length-bytes_low_first 0 4 (length value)) in
      let number : little_number 4 head ≡ length value = ap (little_number 4) (sym (append-nil head)) ∙ little_number-reads_back 4 (length value) [] is in
      ap array_at (append_assoc head value rest)
      ∙ ap (λ (known : Front (List ℕ)). known >>= λ size. bytes_at (little_number 4 size.0) size.1) front
      ∙ ap (λ n. bytes_at n (value ++ rest)) number
      ∙ bytes_again (length value) value rest refl;
}
