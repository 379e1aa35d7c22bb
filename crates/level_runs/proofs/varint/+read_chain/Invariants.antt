use Rattle.level_runs.proofs.varint.+read_chain.Given as goal

abbrev pub decreases-read_chain : goal.decreases-read_chain
decreases-read_chain l = l.places
