-- The last digits of a number, one after the other.
use Rattle.std.proofs.Common.{◌≡◌, ℕ, suc, ◌+◌, ◌-◌, ◌/◌, ◌%◌, ◌^◌, ◌<◌, ◌≤◌, List, [], ◌∷◌, ◌++◌, sym, ◌∙◌, arith}
use Rattle.std.proofs.lemmas.List.{append_assoc, append-nil}
use Rattle.dm_text.specs.Printing.{places}

pub place_written : (out next whole : List ℕ) (count written number : ℕ) → out ++ places (count - written) number ≡ whole → written < count → next ≡ out ++ (48 + number / 10 ^ (count - 1 - written) % 10) ∷ [] → next ++ places (count - (written + 1)) number ≡ whole
unfolding places
place_written out next whole count written number front less is =
    let first : count - written ≡ suc (count - 1 - written) = omega arith in
    let behind : count - (written + 1) ≡ count - 1 - written = omega arith in
    let parted : out ++ places (suc (count - 1 - written)) number ≡ whole = rw first at front in
    rw (is, behind, append_assoc out ((48 + number / 10 ^ (count - 1 - written) % 10) ∷ []) (places (count - 1 - written) number)) parted

pub places_done : (out whole : List ℕ) (count written number : ℕ) → out ++ places (count - written) number ≡ whole → count ≤ written → out ≡ whole
unfolding places
places_done out whole count written number front done =
    let none : count - written ≡ 0 = omega arith in
    let parted : out ++ [] ≡ whole = rw none at front in
    sym (append-nil out) ∙ parted
