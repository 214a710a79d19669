-- What a judge shows of a task.
use Rattle.std.specs.Prelude.{◌≡◌, ℕ, List}
use Rattle.event_machine.specs.declared.Event.{Event}
use Rattle.event_machine.specs.States.{is_closed}
use Rattle.syn_event.specs.Numbering.{Numbering}
use Rattle.task_model.specs.Machine.{ProgramWithInputs}
use Rattle.task_local.specs.OfferView.{offer_as}
use Rattle.task_machine.specs.Views.{View, Busy as BusyView, At as AtView, Completed, Abnormal, StandsIn, ViewIs}
use Rattle.feasible.specs.declared.showing.TaskView.{TaskView}
use Rattle.feasible.specs.declared.showing.TaskView.TheVariants.{Closed, Busy, At}

-- After the events the task is closed, is a caller in a rendezvous and not closed, or is free, at rest, and offers this.
abbrev pub IsShown : ProgramWithInputs → Numbering → List Event → ℕ → TaskView → Type 0
IsShown setup numbers events t Closed = StandsIn setup numbers events t is_closed
IsShown setup numbers events t Busy = ViewIs setup numbers events t BusyView
IsShown setup numbers events t (At offer) = ViewIs setup numbers events t (AtView (offer_as offer))

-- what is shown of a view
abbrev pub Shows : View → TaskView → Type 0
Shows Completed view = view ≡ Closed
Shows Abnormal view = view ≡ Closed
Shows BusyView view = view ≡ Busy
Shows (AtView offer) Closed = ⊥
Shows (AtView offer) Busy = ⊥
Shows (AtView offer) (At shown) = offer_as shown ≡ offer
