use Rattle.std.proofs.Common.{ℕ, List, ◌||◌, ◌==◌, ◌∙◌, sym, ap, subst, slice_set}
use Rattle.event_machine.specs.declared.Event.{Event}
use Rattle.event_machine.specs.Applying.{is_first}
use Rattle.event_machine.specs.Worlds.{changes}
use Rattle.syn_event.specs.Numbering.{owner_of}
use Rattle.task_model.specs.Frames.{callers_in}
use Rattle.task_model.specs.TaskOps.{task_ops}
use Rattle.task_machine.specs.Table.{seat_of}
use Rattle.feasible.specs.inner.Recounts.{BeginAnew}
use Rattle.feasible.proofs.Recounting.{anew_both}
use Rattle.feasible.proofs.happening.recount.Goals as goal

pub returns-in-Some : goal.returns-in-Some
returns-in-Some c =
    let seats = c.args.seats.now in
    let a : ℕ = c.in-E.a in
    let callers : List ℕ = callers_in (seat_of seats a).local.control in
    subst (λ (e : Event). BeginAnew (changes task_ops (owner_of c.args.numbers.now) (λ u. seat_of seats u) e) c.args.steps.now c.begin_anew-in-Some.new.steps) (sym c.in-E.is)
    (subst (BeginAnew (λ t. (t == a) || is_first t callers) c.args.steps.now)
    (sym (c.begin_anew-in-Some.ensures ∙ ap (λ (steps : List ℕ). slice_set steps c.in-Some.c 0) c.begin_anew-in-E.ensures))
    (anew_both c.args.steps.now a c.in-Some.c callers (sym c.in-Some.is ∙ c.caller_at.ensures)))
