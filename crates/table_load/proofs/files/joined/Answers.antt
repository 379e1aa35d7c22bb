use Rattle.std.proofs.Common.{◌≡◌, ◌∷◌, ◌++◌, [], length, drop, sym, ap, ◌∙◌, subst}
use Rattle.std.specs.Prelude.{Some, slice_get}
use Rattle.std.proofs.lemmas.List.{nil_from_length}
use Rattle.std.proofs.lemmas.List.Elements.{All-rest}
use Rattle.std.specs.Vec.Iter.{into_iter_items}
use Rattle.column_vectors.specs.Cells.{Cells}
use Rattle.table_load.proofs.Joining.{behind, both_long, kinds, long_next, next_of, no_more, one_more, same_kind, within}
use Rattle.table_load.specs.Files.{joined}
use Rattle.table_load.proofs.files.joined.Goals as goal

pub concat-requires : goal.concat-requires
concat-requires c =
    let items = into_iter_items c.loop-column.column-iterator in
    let rest = into_iter_items c.next.new.self in
    let more = c.args.more.now.columns in
    let at = length c.loop-column.all.columns in
    let is = c.in-Some-column.ensures.steps.0 in
    let inside = within items rest more c.in-Some-column.column at is c.loop-column.invariant.kinds in
    let cut = next_of more c.get.result.now at inside (subst (λ n. slice_get more n ≡ Some c.get.result.now) c.len-at.ensures c.get.ensures) in
    (same_kind items rest more c.in-Some-column.column c.get.result.now at is c.loop-column.invariant.kinds cut).0

pub push-requires : goal.push-requires
push-requires c =
    let items = into_iter_items c.loop-column.column-iterator in
    let rest = into_iter_items c.next.new.self in
    let more = c.args.more.now.columns in
    let at = length c.loop-column.all.columns in
    let is = c.in-Some-column.ensures.steps.0 in
    let inside = within items rest more c.in-Some-column.column at is c.loop-column.invariant.kinds in
    ap (λ (column : Cells). length column.values) c.in_ok-concat.ensures
    ∙ both_long items rest more c.in-Some-column.column c.get.result.now at c.args.batch.rows c.args.more.now.rows is inside (subst (λ n. slice_get more n ≡ Some c.get.result.now) c.len-at.ensures c.get.ensures) c.loop-column.invariant.even c.args.more.now.even
    ∙ sym c.loop-column.invariant.rows

pub loop-column-preserved : goal.loop-column-preserved
loop-column-preserved c =
    let items = into_iter_items c.loop-column.column-iterator in
    let rest = into_iter_items c.next.new.self in
    let more = c.args.more.now.columns in
    let all = c.loop-column.all.columns in
    let at = length all in
    let is = c.in-Some-column.ensures.steps.0 in
    let inside = within items rest more c.in-Some-column.column at is c.loop-column.invariant.kinds in
    let cut = next_of more c.get.result.now at inside (subst (λ n. slice_get more n ≡ Some c.get.result.now) c.len-at.ensures c.get.ensures) in
    let same = same_kind items rest more c.in-Some-column.column c.get.result.now at is c.loop-column.invariant.kinds cut in
    let pushed = c.in_ok-push.ensures.ok ∙ ap (λ (column : Cells). all ++ column ∷ []) c.in_ok-concat.ensures in
    let long = long_next all c.push.new.self.columns (behind c.in-Some-column.column c.get.result.now) pushed in
    record {
      rows = c.in_ok-push.ensures.rows ∙ c.loop-column.invariant.rows;
      whole = one_more items rest more all c.push.new.self.columns (joined c.args.batch.columns more) c.in-Some-column.column c.get.result.now is cut pushed c.loop-column.invariant.whole;
      kinds = same.1 ∙ ap (λ n. kinds (drop n more)) (sym long);
      even = All-rest (λ (column : Cells). length column.values ≡ c.args.batch.rows) c.in-Some-column.column rest items is c.loop-column.invariant.even;
    }

pub returns-clause-columns : goal.returns-clause-columns
returns-clause-columns c =
    no_more (into_iter_items c.loop-column.column-iterator) c.args.more.now.columns c.loop-column.all.columns (joined c.args.batch.columns c.args.more.now.columns) (nil_from_length (into_iter_items c.loop-column.column-iterator) (sym c.loop-column.column-iterator.rest.ok.0 ∙ c.in-None.ensures.steps.0)) c.loop-column.invariant.whole
