-- The values that an acceptor hands back at the end of an accept body (6.2, 11.5).
use Rattle.std.specs.Prelude.{List, [], Option, Some, None}
use Rattle.ada_value.specs.declared.values.Value.{Value}
use Rattle.ada_value.specs.declared.values.Raised.{Raised}
use Rattle.task_model.specs.Tasks.{Task}
use Rattle.task_model.specs.Rendezvous.{finals_of, pending_of}

-- values, where no exception is pending
abbrev pub unless_pending : Option Raised → List Value → List Value
unless_pending None values = values
unless_pending (Some x) values = []

-- The values that go back from the accept body at whose end a task stands; none where an exception is pending (11.5).
abbrev pub handed_back : Task → List Value
handed_back t = unless_pending (pending_of t) (finals_of t)
