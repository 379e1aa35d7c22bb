use Rattle.std.proofs.Common.{◌≡◌, ◌<◌, ◌||◌, rules, ap, Bool, length, get_or, sym, ◌∙◌}
use Rattle.table_load.specs.Files.{is_same_path}
use Rattle.table_load.specs.Loaded.{come_to}
use Rattle.table_load.specs.StepsLoading.{is_held}
use Rattle.table_load.specs.declared.files.Reading.{Reading}
use Rattle.dm_store.specs.LoggedPath.{path_of}
use Rattle.table_load.proofs.Following.{ends, goes, path_more, stops}
use Rattle.table_load.proofs.files.live_files.Goals as goal

pub returns-in_err-reading-2-clause-joined : goal.returns-in_err-reading-2-clause-joined
returns-in_err-reading-2-clause-joined g c =
    stops Reading come_to (g.S.Store.files c.args.store.now) (g.S.Store.files c.loop-add.store) c.args.folder.now c.args.head.now c.loop-add.add-index c.add-item.result (is_held c.loop-add.paths.keys) (come_to c.loop-add.reading) c.in_err-reading-2.field-0.0 c.from_residual-in_err-reading-2.result
    c.loop-add.invariant.kept (search rules) (search rules) c.loop-add.invariant.paths c.loop-add.invariant.follows c.in_err-reading-2.ensures.joined (search rules)

pub loop-add-preserved : goal.loop-add-preserved
loop-add-preserved g c =
    let live = c.args.head.now.snapshot.live in
    let i = c.loop-add.add-index in
    let inside : i < length live = search rules in
    let at : c.add-item.result ≡ get_or live i c.add-item.result = search rules in
    record {
      kept = c.in_ok-reading-2.ensures.kept ∙ c.loop-add.invariant.kept;
      faults = search rules;
      taken = c.in_ok-reading-2.ensures.taken ∙ c.loop-add.invariant.taken;
      follows = goes (g.S.Store.files c.args.store.now) (g.S.Store.files c.loop-add.store) c.args.folder.now c.args.head.now i c.add-item.result (is_held c.loop-add.paths.keys) (come_to c.loop-add.reading) (come_to c.in_ok-reading-2.reading)
          c.loop-add.invariant.kept inside at c.loop-add.invariant.paths c.loop-add.invariant.follows c.in_ok-reading-2.ensures.joined;
      paths = λ path. c.in_ok-reading-2.ensures.paths path ∙ ap (λ (b : Bool). b || is_same_path path (path_of c.add-item.result.path)) (c.loop-add.invariant.paths path) ∙ sym (path_more live i c.add-item.result path inside at);
      reading = c.in_ok-reading-2.ensures.reading;
    }

pub returns-clause-joined : goal.returns-clause-joined
returns-clause-joined g c =
    ends (g.S.Store.files c.args.store.now) c.args.folder.now c.args.head.now c.loop-add.add-index (come_to c.loop-add.reading) (search rules) c.loop-add.invariant.follows
