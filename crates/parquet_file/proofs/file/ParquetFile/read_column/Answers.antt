use Rattle.std.proofs.Common.{◌≡◌, ◌∙◌, sym, subst, Some, Err, true, false, slice_get, rules}
use Rattle.std.specs.Prelude.{All}
use Rattle.parquet_meta.specs.Meaning.{IsSound}
use Rattle.parquet_file.specs.Groups.{HasChunk}
use Rattle.parquet_pages.specs.Kept.{begun}
use Rattle.parquet_pages.specs.Types.{fits}
use Rattle.parquet_pages.specs.declared.fault.FileFault.TheVariants as fault
use Rattle.parquet_file.proofs.GroupsRead.{mismatch, column-read, column-fails, column-finished, column_says, for_leaf, still-same}
use Rattle.parquet_file.proofs.SoundGroups.{groups-have}
use Rattle.parquet_file.proofs.file.ParquetFile.read_column.Goals as goal

pub read_groups-requires : goal.read_groups-requires
read_groups-requires c =
    let sound : IsSound c.args.self.now.footer = search rules in
    let same : c.args.self.now.footer.groups ≡ c.as_slice-groups.result.now = search rules in
    subst (All (HasChunk c.args.i)) same (groups-have c.args.self.now.footer c.args.i sound c.requires.leaf)

pub returns-then-not-fits : goal.returns-then-not-fits
returns-then-not-fits c =
    let leaf = c.get-leaf.result.now in
    let at : slice_get c.args.self.now.footer.leaves c.args.i ≡ Some leaf = search rules in
    let bad : fits c.args.kind.now leaf ≡ false = search rules in
    for_leaf (column_says c.args.self.now c.args.i c.args.kind.now c.args.nullable c.args.text_left (Err fault.Mismatch)) c.args.self.now.footer.leaves c.args.i leaf at
    (mismatch c.args.self.now c.args.i c.args.kind.now c.args.nullable c.args.text_left leaf bad)

pub returns-in_err-reader : goal.returns-in_err-reader
returns-in_err-reader c =
    let leaf = c.get-leaf.result.now in
    let at : slice_get c.args.self.now.footer.leaves c.args.i ≡ Some leaf = search rules in
    let good : fits c.args.kind.now leaf ≡ true = search rules in
    let read = column-read c.columns_grow.ensures.whole c.args.self.now c.args.i c.args.kind.now c.args.nullable c.args.text_left leaf good in
    let same = still-same c.self.inside.pages.now c.args.self.now.pages leaf c.args.i c.as_slice-groups.result.now c.args.self.now.footer.groups c.new-reader.result (begun c.args.kind.now c.args.nullable c.args.text_left) (search rules) (search rules) c.new-reader.ensures in
    for_leaf (column_says c.args.self.now c.args.i c.args.kind.now c.args.nullable c.args.text_left c.from_residual.result) c.args.self.now.footer.leaves c.args.i leaf at
    (column-fails _ _ _ c.in_err-reader.field-0.0 c.from_residual.result same c.in_err-reader.ensures read (search rules))

pub returns : goal.returns
returns c =
    let leaf = c.get-leaf.result.now in
    let at : slice_get c.args.self.now.footer.leaves c.args.i ≡ Some leaf = search rules in
    let good : fits c.args.kind.now leaf ≡ true = search rules in
    let read = column-read c.columns_grow.ensures.whole c.args.self.now c.args.i c.args.kind.now c.args.nullable c.args.text_left leaf good in
    let same = still-same c.self.inside.pages.now c.args.self.now.pages leaf c.args.i c.as_slice-groups.result.now c.args.self.now.footer.groups c.new-reader.result (begun c.args.kind.now c.args.nullable c.args.text_left) (search rules) (search rules) c.new-reader.ensures in
    for_leaf (column_says c.args.self.now c.args.i c.args.kind.now c.args.nullable c.args.text_left c.finish.result) c.args.self.now.footer.leaves c.args.i leaf at
    (column-finished _ _ c.in_ok-reader.reader c.finish.result (sym same ∙ c.in_ok-reader.ensures) read c.finish.ensures)
