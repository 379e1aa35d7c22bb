use Rattle.std.proofs.Common.{◌≡◌, sym, ◌∙◌}
use Rattle.std.specs.List.{dedup}
use Rattle.std.specs.Str.{bytes_eq}
use Rattle.std.proofs.lemmas.List.Filters.{dedup_is}
use Rattle.std.proofs.lemmas.List.Sorted.{list_any-IsPermutation}
use Rattle.dm_store.proofs.Deduped.{distinct-dedup, among-dedup}
use Rattle.dm_store.proofs.texts.each_once.Goals as goal

pub returns-clause-distinct : goal.returns-clause-distinct
returns-clause-distinct c =
    let is : c.from_vec.result ≡ dedup bytes_eq c.sort_unstable.new.self.items = c.from_vec.ensures ∙ dedup_is bytes_eq _ _ c.dedup.ensures.filtered in
    rw is (distinct-dedup c.sort_unstable.new.self.items c.sort_unstable.ensures.sorted)

pub returns-clause-same : goal.returns-clause-same
returns-clause-same c text =
    let is : c.from_vec.result ≡ dedup bytes_eq c.sort_unstable.new.self.items = c.from_vec.ensures ∙ dedup_is bytes_eq _ _ c.dedup.ensures.filtered in
    rw (is, ← c.into_vec-texts.ensures) (among-dedup text c.sort_unstable.new.self.items ∙ sym (list_any-IsPermutation (bytes_eq text) _ _ c.sort_unstable.ensures.permutation))
