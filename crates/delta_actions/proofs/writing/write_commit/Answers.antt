use Rattle.std.proofs.Common.{◌≡◌, take, ap, ◌∙◌, subst}
use Rattle.std.specs.List.{AllByRecursion}
use Rattle.std.proofs.lemmas.List.{take_all}
use Rattle.delta_actions.specs.Meaning.{commit_of}
use Rattle.delta_actions.specs.StepsWriting.{HasWholes}
use Rattle.delta_actions.specs.Written.{commit_text}
use Rattle.delta_actions.proofs.Lines.{IsSpelled, text_of, commit_back}
use Rattle.delta_actions.proofs.writing.write_commit.Goals as goal

pub returns-clause-text : goal.returns-clause-text
unfolding commit_text
returns-clause-text c =
    let all : take c.loop-action.action-index c.as_slice-action-items.result.now ≡ c.args.actions.now = take_all _ _ c.loop-action-test.false ∙ c.as_slice-action-items.ensures in
    c.loop-action.invariant.text ∙ ap text_of all

pub returns-clause-reads_back : goal.returns-clause-reads_back
unfolding commit_of
returns-clause-reads_back c = λ w.
    let all : take c.loop-action.action-index c.as_slice-action-items.result.now ≡ c.args.actions.now = take_all _ _ c.loop-action-test.false ∙ c.as_slice-action-items.ensures in
    ap commit_of (c.loop-action.invariant.text ∙ ap text_of all) ∙ commit_back c.args.actions.now 1 w (subst (AllByRecursion IsSpelled) all c.loop-action.invariant.utf8) (subst (AllByRecursion HasWholes) all c.loop-action.invariant.wholes)
