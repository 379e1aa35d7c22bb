use Rattle.table_write.proofs.Deleted.{empties}
use Rattle.table_write.proofs.laws.delete_empties.Goals as goal

pub returns : goal.returns
returns c = empties (record { numbers = c.live_after_commit.ensures.numbers; forms = c.good_forms.ensures; live = c.forms_of_live.ensures; removal = c.removal_of_all.ensures; next = c.next_version_stands_alone.ensures; says = c.says_next.ensures; plain = c.opened_files_are_plain.ensures; beside = c.next_version_keeps_states.ensures.beside; elsewhere = c.next_version_keeps_states.ensures.elsewhere })
