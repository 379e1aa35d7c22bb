use Rattle.std.proofs.lemmas.List.Elements.{All-from_recursion}
use Rattle.std.proofs.Common.{◌≡◌, true}
use Rattle.table_features.specs.Features.{is_writer_feature}
use Rattle.table_features.specs.Needed.{needed}
use Rattle.table_features.proofs.Needs.{known-all}
use Rattle.table_features.proofs.laws.needed_are_known.Goals as goal

pub returns : goal.returns
returns c = λ schema configuration. All-from_recursion (λ name. is_writer_feature name ≡ true) (needed schema configuration) (known-all schema configuration)
