use Rattle.std.proofs.Common.{ap, ◌∙◌, sym, []}
use Rattle.std.proofs.lemmas.List.{append-nil}
use Rattle.std.proofs.lemmas.Result.{on_ok_weaker}
use Rattle.parquet_pages.proofs.lists.write_list.Goals as goal

pub returns-clause-again : goal.returns-clause-again
returns-clause-again g c =
    let spelled = g.T.Plain.spelling c.args.values.now in
    on_ok_weaker c.write_plain.result (λ means. λ size even. ap (g.T.Plain.plain_of size (g.T.Plain.count_of c.args.values.now)) (sym (append-nil spelled)) ∙ c.plain_again.ensures size c.args.values.now spelled [] (means size even)) c.write_plain.ensures.means
