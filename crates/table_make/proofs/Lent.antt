-- What is found among elements is found among those that lend them.
use Rattle.std.proofs.Common.{◌≡◌, List, [], ◌∷◌, map, drop, Bool, ◌||◌, Option, refl, ap, ◌∙◌}
use Rattle.std.proofs.lemmas.List.{drop-map}
use Rattle.std.proofs.lemmas.List.Folds.{list_all-map}
use Rattle.std.proofs.lemmas.Simd.{map-map}
use Rattle.std.specs.List.{cons_option, filter_map, list_all, list_any}
use Rattle.delta_schema.specs.declared.columns.TheConstants.{MAX_COLUMNS}
use Rattle.table_make.specs.Faults as spec
use Rattle.table_make.specs.Steps.{column_at}
use Rattle.table_make.specs.declared.elements.Column.{Column}

pub filter_map_map : {A B C : Type 0} (f : B → Option C) (g : A → B) (xs : List A) → filter_map f (map g xs) ≡ filter_map (λ x. f (g x)) xs
filter_map_map f g [] = refl
filter_map_map f g (x ∷ xs) = ap (cons_option (f (g x))) (filter_map_map f g xs)

pub list_any_map : {A B : Type 0} (p : B → Bool) (g : A → B) (xs : List A) → list_any p (map g xs) ≡ list_any (λ x. p (g x)) xs
list_any_map p g [] = refl
list_any_map p g (x ∷ xs) = ap (λ more. p (g x) || more) (list_any_map p g xs)

pub list_all_map : {A B : Type 0} (p : B → Bool) (g : A → B) (xs : List A) → list_all p (map g xs) ≡ list_all (λ x. p (g x)) xs
list_all_map p g xs = list_all-map p g xs

-- the columns behind those that a table can have
pub beyond : (columns : List Column) → spec.beyond (map column_at columns) ≡ map (λ column. spec.name_place (column_at column)) (drop MAX_COLUMNS columns)
beyond columns =
    ap (map spec.name_place) (drop-map column_at MAX_COLUMNS columns)
    ∙ map-map spec.name_place column_at (drop MAX_COLUMNS columns)
