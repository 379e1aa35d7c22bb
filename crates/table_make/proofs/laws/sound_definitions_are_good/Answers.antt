use Rattle.table_make.proofs.Sound.{faultless, good_columns, good_properties}
use Rattle.table_make.proofs.laws.sound_definitions_are_good.Goals as goal

pub returns-clause-columns : goal.returns-clause-columns
returns-clause-columns c = λ stmt e written. good_columns stmt (faultless stmt e) written

pub returns-clause-properties : goal.returns-clause-properties
returns-clause-properties c = λ stmt e. good_properties stmt (faultless stmt e)
