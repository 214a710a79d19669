use Rattle.seq_file.proofs.ListReading.{IsReadInList}
use Rattle.seq_file.proofs.list_reading.read_list.Given as goal

-- the list is read up to the place
abbrev pub invariant-loop-left : goal.invariant-loop-left
invariant-loop-left l = IsReadInList l.numbers l.task l.place l.events.items l.at l.left

abbrev pub decreases-loop-left : goal.decreases-loop-left
decreases-loop-left l = l.left
