-- The laws of the variables of a task's unit, from their parts.
use Rattle.std.proofs.Common.{ℕ, Bool, [], ◌∷◌, subst}
use Rattle.ada_value.specs.Variables.{Variables}
use Rattle.task_model.specs.Frames.{Around, brought}
use Rattle.task_model.specs.Tasks.{place_of, outer_of, vars_of}
use Rattle.task_model.specs.Starting.{unit_of}
use Rattle.task_laws.specs.statements.variables.Held.{DeclaresInner, FirstInner}
use Rattle.task_laws.specs.statements.variables.Laws.{unit_objects, VariablesStart, VariablesStay, InnerStays, NamesMeanKept, LatestHasOne, CountsOne}
use Rattle.task_laws.proofs.statements.Carried.{stays-so}
use Rattle.task_laws.proofs.statements.variables.Kept.{all-kept, means-held}
use Rattle.task_laws.proofs.statements.variables.Steps.{goes-stepped}
use Rattle.task_laws.proofs.statements.variables.Meetings.{goes-accepted, goes-finished, goes-resumed, goes-failed, goes-else, goes-delay, goes-passed}

pub variables_start : VariablesStart
variables_start inner g inputs t = (tt, all-kept (unit_objects g (unit_of g.program g.numbers t)))

pub variables_stay : VariablesStay
variables_stay inner start t d h = record {
  stepped = goes-stepped inner start t d h;
  accepted = λ e i caller calling. goes-accepted inner start e i caller calling t d h;
  finished = goes-finished inner start t h;
  resumed = λ acceptor. goes-resumed inner start acceptor t h;
  raised = goes-failed inner start t h;
  took_else = goes-else inner start t h;
  took_delay = λ k. goes-delay inner start k t h;
  passed = goes-passed inner start t h;
}

pub inner_stays : InnerStays
inner_stays inner t h = stays-so (DeclaresInner inner) (λ loops c d cs s i. tt) t h

pub names_mean_kept : NamesMeanKept
names_mean_kept inner start t id e h = means-held inner start (brought (place_of t)) (outer_of t) (vars_of t) id e h.0 h.1

latest-one : (inner : ℕ → Bool) (vars : Variables) → FirstInner inner 1 vars → LatestHasOne vars
latest-one inner [] h = tt
latest-one inner (o ∷ vars) h = h.1

pub counts_one : CountsOne
counts_one inner start t name backwards last stmts h e = latest-one inner (vars_of t) (subst (λ (place : Around). FirstInner inner (brought place) (vars_of t)) e h.0)
