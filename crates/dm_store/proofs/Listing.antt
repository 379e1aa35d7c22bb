-- A name that a listing gives is that of a path.
use Rattle.std.proofs.Common.{◌≡◌, ℕ, ◌<◌, List, ◌∷◌, ◌++◌, length, take, drop, get_or, Some, refl, sym, ◌∙◌, add-one, arith}
use Rattle.std.proofs.lemmas.Bool.{and_parts, eqb-true}
use Rattle.std.proofs.lemmas.Option.{cond_some}
use Rattle.std.proofs.lemmas.List.{take-append-drop, get_or_past}
use Rattle.std.proofs.lemmas.Slice.Eq.{bytes_eq-Decides}
use Rattle.std.proofs.Math.Seq.{drop-cons}
use Rattle.dm_store.specs.Files.{name_below}

-- a byte that isn't 0 stands within the text
within : (path : List ℕ) (n : ℕ) → get_or path n 0 ≡ 47 → n < length path
within path n is = grind (arith, get_or_past)

-- a name below a folder follows the folder and a slash
pub name_below-path : (dir path name : List ℕ) → name_below dir path ≡ Some name → path ≡ dir ++ 47 ∷ name
name_below-path dir path name e =
    let found = cond_some _ _ _ e in
    let parts = and_parts _ _ found.0 in
    let front = and_parts _ _ parts.0 in
    let folder : take (length dir) path ≡ dir = (bytes_eq-Decides (take (length dir) path) dir).0 front.0 in
    let slash : get_or path (length dir) 0 ≡ 47 = eqb-true _ _ front.1 in
    let rest : drop (length dir) path ≡ 47 ∷ name = drop-cons path (length dir) 0 (within path (length dir) slash) ∙ rw (slash, ← add-one (length dir), found.1) refl in
    sym (take-append-drop (length dir) path) ∙ rw (folder, rest) refl
