use Rattle.std.proofs.Common.{rules, arith, take, List, ℕ, ◌≡◌, ap, ◌∙◌}
use Rattle.std.specs.List.{filter_map}
use Rattle.std.proofs.lemmas.Grind.{common_steps}
use Rattle.log_replay.specs.Numbers.{is_in}
use Rattle.table_log.specs.Log.{version_of}
use Rattle.table_log.proofs.Found.{versions_listed, versions_more}
use Rattle.table_log.proofs.files.list_versions.Goals as goal

pub loop-name-preserved : goal.loop-name-preserved
loop-name-preserved g c = record {
  found = λ n. versions_more _ c.name-item.result c.loop-name.name-index n c.loop-name.versions.keys _ (search rules) (search rules) (rw (c.as_str-in-loop-name.ensures) at (c.in_ok-add_version.ensures.added n)) (c.loop-name.invariant.found n);
  small = search rules;
}

pub returns-clause-versions : goal.returns-clause-versions
returns-clause-versions g c =
    let all : take c.loop-name.name-index c.as_slice-name-items.result.now ≡ c.in_ok-names.names = grind (arith, common_steps) in
    versions_listed (g.S.Store.files c.args.store.now) c.args.table.now c.as_str.result.now c.in_ok-names.names c.loop-name.versions.keys (search rules) (search rules) (λ n. c.loop-name.invariant.found n ∙ ap (λ (names : List (List ℕ)). is_in n (filter_map version_of names)) all)
