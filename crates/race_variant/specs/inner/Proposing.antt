-- What the offer of a task proposes of each letter, if the conditions on other tasks hold too; delays, of which there may be more, apart.
use Rattle.std.specs.Prelude.{ℕ, ℤ, Bool, not, ◌&&◌, ◌==◌, pred, List, [], Option, Some, None, option_map, length, if◌then◌else◌}
use Rattle.std.specs.List.{filter_map, list_all}
use Rattle.event_machine.specs.declared.CallForm.{CallForm}
use Rattle.event_machine.specs.declared.Choice.{Choice}
use Rattle.event_machine.specs.declared.Choice.TheVariants as choice
use Rattle.event_machine.specs.declared.Event.{Event}
use Rattle.event_machine.specs.declared.Event.TheVariants as event
use Rattle.event_machine.specs.Offers.{Offer, Nothing, Calls, Waits, Finishes, Ends, Aborts, is_any_form, is_conditional, is_timed, waits_with, opens, is_else, is_finish, is_end, aborted_by}
use Rattle.syn_event.specs.Numbering.{Numbering, owner_of}
use Rattle.task_machine.specs.Conditions.{holds, is_closed_view, others_may_end}
use Rattle.task_machine.specs.Views.{View}
use Rattle.race_variant.specs.declared.proposing.Letter.{Letter}
use Rattle.race_variant.specs.declared.proposing.Letter.TheVariants.{R, E, S, D, C, T, F, X, B, Z}
use Rattle.race_variant.specs.inner.Passing.{offer_seen}

-- the place of a letter among all
abbrev pub place_of : Letter → ℕ
place_of R = 0
place_of E = 1
place_of S = 2
place_of D = 3
place_of C = 4
place_of T = 5
place_of F = 6
place_of X = 7
place_of B = 8
place_of Z = 9

-- the event, where the test passes
abbrev pub only_if : Bool → Event → Option Event
only_if test e = if test then Some e else None

-- the numbers of the delays that can be taken
abbrev pub delay_number : Choice → Option ℕ
delay_number (choice.Accept e i) = None
delay_number choice.Else = None
delay_number (choice.Delay k) = Some k
delay_number choice.Terminate = None

abbrev pub delays_in : Offer → List ℕ
delays_in Nothing = []
delays_in (Calls form e i) = []
delays_in (Waits choices) = filter_map delay_number choices
delays_in Finishes = []
delays_in Ends = []
delays_in (Aborts x) = []

-- of a call, in a form that passes the test, of a member of which the rest holds: the event of that member
abbrev pub with_call : (CallForm → Bool) → (ℕ → ℤ → Bool) → (ℕ → ℤ → Event) → Offer → Option Event
with_call test rest event Nothing = None
with_call test rest event (Calls form e i) = only_if (test form && rest e i) (event e i)
with_call test rest event (Waits choices) = None
with_call test rest event Finishes = None
with_call test rest event Ends = None
with_call test rest event (Aborts x) = None

module _ (numbers : Numbering) (views : ℕ → View) where
  -- the owner of the entry waits with an open accept of the member
  abbrev pub is_awaited : ℕ → ℤ → Bool
  is_awaited e i = waits_with (opens e i) (offer_seen (views (owner_of numbers e)))

  -- the owner of the entry is closed
  abbrev pub is_gone : ℕ → ℤ → Bool
  is_gone e i = is_closed_view (views (owner_of numbers e))

  -- all tasks beside the main program can end
  abbrev pub others_can_end : Bool
  others_can_end = list_all (holds views) (others_may_end (pred (length numbers.tasks)))

  -- the one event of this letter that the task t with this offer proposes
  abbrev pub proposed : Letter → ℕ → Offer → Option Event
  proposed R t offer = with_call is_any_form is_awaited (event.R t) offer
  proposed E t offer = only_if (is_finish offer) (event.E t)
  proposed S t offer = only_if (waits_with is_else offer) (event.S t)
  proposed D t offer = None
  proposed C t offer = with_call is_conditional (λ e i. not (is_gone e i)) (event.C t) offer
  proposed T t offer = with_call is_timed (λ e i. not (is_gone e i)) (event.T t) offer
  proposed F t offer = with_call is_any_form is_gone (event.F t) offer
  proposed X t offer = only_if (not (t == 0) && is_end offer) (event.X t)
  proposed B t offer = option_map (event.B t) (aborted_by offer)
  proposed Z t offer = only_if ((t == 0) && (is_end offer && others_can_end)) event.Z
