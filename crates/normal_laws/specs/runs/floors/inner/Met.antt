-- Where a task of the normal form stands as the program's task does (9.4, 9.5, 9.7, 9.10; this project's rule): both have a local step, both raise
-- the same, or both make the same offer; and what then becomes of both.
use Rattle.std.specs.Prelude.{◌≡◌, ℕ, ℤ, true, false, List, [], ◌∷◌, Ok}
use Rattle.std.specs.List.{list_any}
use Rattle.event_machine.specs.declared.CallForm.{CallForm}
use Rattle.event_machine.specs.declared.CallForm.TheVariants as forms
use Rattle.event_machine.specs.declared.Choice.{Choice}
use Rattle.event_machine.specs.Offers.{Waits, Finishes, Ends, Aborts, opens, is_else, is_delay}
use Rattle.ada_value.specs.declared.values.Value.{Value}
use Rattle.ada_value.specs.declared.values.Raised.{Raised}
use Rattle.ada_value.specs.Values.{position_of, lies_in}
use Rattle.task_model.specs.declared.parameters.FormalParameter.{FormalParameter}
use Rattle.task_model.specs.Setting.{entry_parameters}
use Rattle.task_model.specs.Tasks.{Task, place_of, raised_there}
use Rattle.task_model.specs.Calls.{Called, values_handed, comes_back}
use Rattle.task_model.specs.Waits.{alternative_for}
use Rattle.task_model.specs.Stands.{Steps, Raises, At, call_stand, stand_of, stepped}
use Rattle.task_model.specs.Rendezvous.{alternative_opened, returned, took_else, took_delay, past_name}
use Rattle.task_laws.specs.translation.Translations.{Programs, Translation, IsKnown}
use Rattle.task_laws.specs.translation.Controls.{Alike, AreInside, AreAround, StepAlike}
use Rattle.normal_laws.specs.runs.floors.Meetings.{AreValues, IsOpened}
use Rattle.normal_laws.specs.runs.floors.Preludes.{Reaches}

-- A task of the normal form comes, by local steps that write nothing, to one that is alike.
pub record Catches (x : Translation) (σ from : Task) : Type 0 where
  pub reached : Task
  pub reach : Reaches from reached
  pub after : Alike x σ reached

-- values that come back to a call of these formals: of known kinds, and in the formals' subtypes
pub data AreBack (b : Programs) : List FormalParameter → List Value → Type 0 where
  none_back : (vs : List Value) → AreBack b [] vs
  in_back : (f : FormalParameter) (fs : List FormalParameter) (vs : List Value) → comes_back f.mode ≡ false → AreBack b fs vs → AreBack b (f ∷ fs) vs
  one_back : (f : FormalParameter) (fs : List FormalParameter) (v : Value) (vs : List Value) → comes_back f.mode ≡ true → IsKnown b v → lies_in f.limits (position_of v) ≡ true → AreBack b fs vs →
      AreBack b (f ∷ fs) (v ∷ vs)

-- Both stand at a call that comes to the same; behind it, and in its other part, the task of the normal form comes to one that is alike.
pub record CallMet (x : Translation) (σ κ : Task) : Type 0 where
  pub form : CallForm
  pub result : Called
  pub stands : stand_of σ ≡ call_stand form (Ok result)
  pub stands_too : stand_of κ ≡ call_stand form (Ok result)
  pub handed : values_handed σ ≡ result.values
  pub handed_too : values_handed κ ≡ result.values
  pub known : AreValues x.text.programs result.values
  pub around : AreAround x σ κ
  pub returns : (values : List Value) → AreBack x.text.programs (entry_parameters x.text.programs.original result.entry) values → Catches x (returned values σ) (returned values κ)
  pub otherwise : form ≡ forms.Conditional → Catches x (took_else σ) (took_else κ)
  pub delayed : form ≡ forms.Timed → Catches x (took_delay 1 σ) (took_delay 1 κ)

-- Both stand at an accept or a wait with the same choices; whichever of them is taken, they are alike behind it.
pub record WaitMet (x : Translation) (σ κ : Task) : Type 0 where
  pub choices : List Choice
  pub stands : stand_of σ ≡ At (Waits choices)
  pub stands_too : stand_of κ ≡ At (Waits choices)
  pub around : AreAround x σ κ
  pub accepts : (caller e : ℕ) (z : ℤ) (values : List Value) → AreValues x.text.programs values → list_any (opens e z) choices ≡ true →
      Alike x (alternative_opened caller (alternative_for σ e z) values σ) (alternative_opened caller (alternative_for κ e z) values κ)
  pub otherwise : list_any is_else choices ≡ true → Alike x (took_else σ) (took_else κ)
  pub delayed : (k : ℕ) → list_any (is_delay k) choices ≡ true → Alike x (took_delay k σ) (took_delay k κ)

-- Both stand at an abort of the same task.
pub record AbortMet (x : Translation) (σ κ : Task) : Type 0 where
  pub task : ℕ
  pub stands : stand_of σ ≡ At (Aborts task)
  pub stands_too : stand_of κ ≡ At (Aborts task)
  pub around : AreAround x σ κ
  pub passes : Alike x (past_name σ) (past_name κ)

-- Where a task stands, and its image with it. Where the evaluation of a synchronizing statement raises in the one, the image raises at a statement
-- that does not synchronize.
pub data Meets (x : Translation) (σ κ : Task) : Type 0 where
  in_step : stand_of σ ≡ Steps → stand_of κ ≡ Steps → AreAround x σ κ → StepAlike x σ κ → Meets x σ κ
  at_raise : (e : Raised) → stand_of σ ≡ Raises e → AreAround x σ κ → stand_of κ ≡ Steps → stepped κ ≡ raised_there e κ → Meets x σ κ
  at_call : CallMet x σ κ → Meets x σ κ
  at_wait : WaitMet x σ κ → Meets x σ κ
  at_abort : AbortMet x σ κ → Meets x σ κ
  at_finish : stand_of σ ≡ At Finishes → stand_of κ ≡ At Finishes → AreInside x σ κ → IsOpened (place_of σ) → Meets x σ κ
  at_end : stand_of σ ≡ At Ends → stand_of κ ≡ At Ends → AreInside x σ κ → Meets x σ κ

-- The task of the normal form comes, by local steps that write nothing, to where the program's task stands.
pub record Comes (x : Translation) (σ from : Task) : Type 0 where
  pub reached : Task
  pub reach : Reaches from reached
  pub meets : Meets x σ reached
