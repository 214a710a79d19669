use Rattle.std.proofs.Common.{◌≡◌, length, map}
use Rattle.seq_file.proofs.ListReading.{AreRead}
use Rattle.seq_file.proofs.list_reading.read_lists.Given as goal

-- the file is read up to the place, with the lists of the tasks before this one
abbrev pub invariant-loop-task : goal.invariant-loop-task
invariant-loop-task l = record {
  count : length (map (λ v. v.items) l.lists.items) ≡ l.task;
  read : AreRead l.bytes l.numbers l.names (map (λ v. v.items) l.lists.items) l.place;
}
