-- The loop that writes fields.
use Rattle.std.proofs.Common.{◌≡◌, ℕ, suc, ◌+◌, ◌<◌, List, [], ◌∷◌, ◌++◌, length, take, drop, get_or, sym, ap, ◌∙◌, arith, append_assoc, drop-cons}
use Rattle.std.specs.Prelude.{map}
use Rattle.std.proofs.Math.Seq.{take-suc}
use Rattle.thrift_compact.specs.Values.{id_of}
use Rattle.thrift_compact.specs.Reading.{last_id}
use Rattle.thrift_compact.specs.Written as w
use Rattle.thrift_compact.specs.declared.tree.Field.{Field}
use Rattle.thrift_compact.specs.declared.tree.Node.TheFolds.{fold_out-Field}
use Rattle.thrift_compact.proofs.Turns.{last_id-push}

pub form_id : (field : Field) → (w.field_form_of field).id ≡ id_of field
form_id field = ap (λ f. f.id) (fold_out-Field (ℕ → w.Form) w.FieldForm w.node_form w.field_form field)

pub field_turn : (whole out new : List ℕ) (fields : List Field) (index : ℕ) (field : Field) → whole ≡ out ++ w.fields (last_id (take index fields)) (map w.field_form_of (drop index fields)) → index < length fields → field ≡ get_or fields index field
    → new ≡ out ++ w.field (last_id (take index fields)) (w.field_form_of field) → whole ≡ new ++ w.fields (last_id (take (index + 1) fields)) (map w.field_form_of (drop (index + 1) fields))
field_turn whole out new fields index field is below stands written =
    let next : suc index ≡ index + 1 = omega arith in
    let opened : drop index fields ≡ field ∷ drop (index + 1) fields = drop-cons fields index field below ∙ ap (λ x. x ∷ drop (suc index) fields) (sym stands) ∙ ap (λ k. field ∷ drop k fields) next in
    let passed : take (index + 1) fields ≡ take index fields ++ (field ∷ []) = ap (λ k. take k fields) (sym next) ∙ take-suc fields index field below ∙ ap (λ x. take index fields ++ (x ∷ [])) (sym stands) in
    let last : (w.field_form_of field).id ≡ last_id (take (index + 1) fields) = form_id field ∙ sym (ap last_id passed ∙ last_id-push (take index fields) field) in
    is
    ∙ ap (λ xs. out ++ w.fields (last_id (take index fields)) (map w.field_form_of xs)) opened
    ∙ sym (append_assoc out (w.field (last_id (take index fields)) (w.field_form_of field)) (w.fields (w.field_form_of field).id (map w.field_form_of (drop (index + 1) fields))))
    ∙ ap (λ z. z ++ w.fields (w.field_form_of field).id (map w.field_form_of (drop (index + 1) fields))) (sym written)
    ∙ ap (λ id. new ++ w.fields id (map w.field_form_of (drop (index + 1) fields))) last
