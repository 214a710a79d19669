-- What goes back to a caller, for the machine above.
use Rattle.std.proofs.Common.{◌≡◌, List, Option, Some, None, refl}
use Rattle.ada_value.specs.declared.values.Value.{Value}
use Rattle.ada_value.specs.declared.values.Raised.{Raised}
use Rattle.task_model.specs.Tasks.{Task}
use Rattle.task_model.specs.Rendezvous.{finals_of, pending_of, resumed, resumed_with}
use Rattle.task_local.specs.rendezvous.Handed.{handed_back, unless_pending}

with_values : (pending : Option Raised) (values : List Value) (t : Task) → resumed_with pending (unless_pending pending values) t ≡ resumed_with pending values t
with_values None values t = refl
with_values (Some x) values t = refl

-- a caller goes on by what its acceptor hands back
pub resumes_by : (acceptor t : Task) → resumed_with (pending_of acceptor) (handed_back acceptor) t ≡ resumed acceptor t
resumes_by acceptor t = with_values (pending_of acceptor) (finals_of acceptor) t
