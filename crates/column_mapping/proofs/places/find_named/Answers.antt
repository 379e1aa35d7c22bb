use Rattle.std.proofs.Common.{◌≡◌, ◌∙◌, Some, refl, ap, take, true, List}
use Rattle.std.proofs.lemmas.List.{take_all}
use Rattle.std.specs.Str.{bytes_eq}
use Rattle.parquet_meta.specs.declared.metadata.LeafSchema.{LeafSchema}
use Rattle.column_mapping.specs.Places.{is_named, carriers, choice_of}
use Rattle.column_mapping.specs.Steps.{carried}
use Rattle.column_mapping.proofs.Joining.{carried_none, carried_step, settled-carried}
use Rattle.column_mapping.proofs.Within.{carriers_within}
use Rattle.column_mapping.proofs.places.find_named.Goals as goal

pub loop-at-init : goal.loop-at-init
loop-at-init c = carried_none (is_named (Some c.args.name.now))

pub loop-at-preserved : goal.loop-at-preserved
loop-at-preserved c =
    let same : c.eq-carries.result ≡ bytes_eq c.leaf-item.result.name c.args.name.now = c.eq-carries.ensures ∙ rw (c.as_slice.ensures, c.as_bytes.ensures.value) refl in
    carried_step (is_named (Some c.args.name.now)) c.as_slice-leaf-items.result.now c.loop-at.at c.leaf-item.result c.loop-at.found c.joined_if-found.result c.single.result c.loop-at.invariant c.loop-at-test.true c.leaf-item.is c.single.ensures (rw (← same) c.joined_if-found.ensures)

pub returns-clause-within : goal.returns-clause-within
returns-clause-within c =
    let leaves = c.as_slice-leaf-items.result.now in
    let test = is_named (Some c.args.name.now) in
    let whole : take c.loop-at.at leaves ≡ leaves = take_all c.loop-at.at leaves c.loop-at-test.false in
    let is : c.settled.result ≡ choice_of true (carriers test leaves) = c.settled.ensures ∙ settled-carried true test leaves c.loop-at.found (c.loop-at.invariant ∙ ap (λ (xs : List LeafSchema). carried (carriers test xs)) whole) in
    rw (← c.as_slice-leaf-items.ensures, is) (carriers_within test leaves true)
