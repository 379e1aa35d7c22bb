use Rattle.script_run.proofs.runs.run_words.Given as goal

abbrev pub ghosts-run_statements : goal.ghosts-run_statements
ghosts-run_statements g a = record { name = a.blank.name; parts = a.blank.parts }
