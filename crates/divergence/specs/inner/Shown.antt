-- The lines of what a judge shows of a task (this project's format).
use Rattle.std.specs.Prelude.{ℕ, List, codes}
use Rattle.task_local.specs.OfferView.{offer_as}
use Rattle.feasible.specs.declared.showing.TaskView.{TaskView}
use Rattle.feasible.specs.declared.showing.TaskView.TheVariants.{Closed, Busy, At}
use Rattle.divergence.specs.ViewText.{offer_lines}

-- the lines of what is shown: those of any view that is shown so
abbrev pub shown_lines : TaskView → List ℕ
shown_lines Closed = codes "  closed\n"
shown_lines Busy = codes "  busy\n"
shown_lines (At offer) = offer_lines (offer_as offer)
