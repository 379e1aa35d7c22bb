-- How many levels are full.
use Rattle.std.proofs.Common.{◌≡◌, ℕ, zero, suc, ◌+◌, ◌<◌, List, [], ◌∷◌, length, take, get_or, Bool, true, false, refl, ap, ◌∙◌, length-append}
use Rattle.std.specs.Prelude.{replicate, slice_index, ◌==◌, not, if◌then◌else◌}
use Rattle.std.specs.List.{filter}
use Rattle.std.proofs.Math.Seq.{take-suc}
use Rattle.std.proofs.lemmas.List.Elements.{filter-append}
use Rattle.parquet_pages.specs.Entries.{full}

pub full-replicate : (count : ℕ) → count ≡ full (replicate count 1)
full-replicate zero = refl
full-replicate (suc count) = ap suc (full-replicate count)

abbrev pub one_if : Bool → ℕ
one_if b = if b then 1 else 0

full_one : (level : ℕ) (b : Bool) → not (level == 0) ≡ b → full (level ∷ []) ≡ one_if b
full_one level true is = rw is refl
full_one level false is = rw is refl

-- one level more
pub full-more : (levels : List ℕ) (at : ℕ) → at < length levels → full (take (suc at) levels) ≡ full (take at levels) + one_if (not (slice_index levels at == 0))
full-more levels at less =
    ap full (take-suc levels at 0 less)
    ∙ ap length (filter-append (λ level. not (level == 0)) (take at levels) (get_or levels at 0 ∷ []))
    ∙ length-append (filter (λ level. not (level == 0)) (take at levels)) (filter (λ level. not (level == 0)) (get_or levels at 0 ∷ []))
    ∙ ap (λ n. full (take at levels) + n) (full_one (get_or levels at 0) (not (get_or levels at 0 == 0)) refl)
