use Rattle.std.proofs.Common.{◌≡◌, take, map, Ok}
use Rattle.ded_io.specs.declared.writing.SinkError.{SinkError}
use Rattle.ded_io.specs.Written.{Wrote}
use Rattle.seq_file.specs.Lists.{lists_text}
use Rattle.seq_file.proofs.list_writing.put_lists.Given as goal

-- the lists so far are written, and no fault was met
abbrev pub invariant-loop-list : goal.invariant-loop-list
invariant-loop-list g l = record {
  task : l.task ≡ l.list-index;
  written : Wrote {A = Unit {0}} {E = SinkError} (Ok tt) (g.K.Sink.told l.initial.out) (g.K.Sink.told l.out) (lists_text 0 (map (λ v. v.items) (take l.list-index l.lists)));
  faults : g.K.Sink.faults l.out ≡ g.K.Sink.faults l.initial.out;
}
