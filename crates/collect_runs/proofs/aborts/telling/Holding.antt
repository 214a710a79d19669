-- Where the image of a task stands, with what its variables say; and open accept bodies keep their callers where the variables of places mean the same.
use Rattle.std.proofs.Common.{ℕ, List}
use Rattle.ada_value.specs.Variables.{Variables}
use Rattle.task_model.specs.Frames.{Around, PFrame}
use Rattle.task_laws.specs.translation.Translations.{Programs}
use Rattle.task_laws.specs.translation.Controls.{Under}
use Rattle.collect_model.specs.aborts.AbortTeller.{AbortTeller}
use Rattle.collect_runs.specs.aborts.translation.Floors.{OpenPlace, HasPlaces, KeepCallers, keep_none, keep_then}
use Rattle.collect_runs.specs.aborts.telling.Texts.{Texts, teller, unit_translation}
use Rattle.collect_runs.proofs.aborts.telling.Placing.{MeanSame, callers-kept}

-- A task and its image stand in frames that go together, and the image's variables say which callers are served.
pub record Stays (x : Texts) (t : ℕ) (ps : List OpenPlace) (q q' : Around) (o o' : List PFrame) (V W : Variables) : Type 0 where
  pub under : Under (unit_translation x t ps) q o V q' o' W
  pub places : HasPlaces (teller x t) (x.places t) W
  pub keeps : KeepCallers (teller x t) (x.places t) W ps

-- whatever is open, where the variables of all places mean the same
pub callers-stay : (b : Programs) (x : AbortTeller) (last : ℕ) {V W : Variables} {ps : List OpenPlace} → MeanSame b x last last V W → KeepCallers x last V ps → KeepCallers x last W ps
callers-stay b x last same keep_none = keep_none
callers-stay b x last same (keep_then p ps above to taken refused rest) = callers-kept b x last _ last to same (keep_then p ps above to taken refused rest)
