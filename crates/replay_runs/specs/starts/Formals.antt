-- Which formals the entries of a replay text have (6.1, 9.5; this project's rule).
use Rattle.std.specs.Prelude.{◌≡◌, ℕ, suc, ◌<◌, List, [], ◌∷◌, Some}
use Rattle.event_machine.specs.declared.Event.{Event}
use Rattle.ada_tree.specs.declared.naming.NameId.{NameId}
use Rattle.ada_tree.specs.declared.statements.ParMode.TheVariants.{Give}
use Rattle.ada_tree.specs.NameList.{AreNames}
use Rattle.ada_tree.specs.PlainProgram.{PProgram}
use Rattle.ada_static_rules.specs.Refusals.{types_in}
use Rattle.syn_event.specs.declared.numbering.EntryInfo.{EntryInfo}
use Rattle.syn_event.specs.Numbering.{entry_at}
use Rattle.ada_value.specs.Values.{integer_limits}
use Rattle.task_model.specs.declared.parameters.FormalParameter.{FormalParameter}
use Rattle.task_model.specs.Setting.{Setting, entry_parameters}
use Rattle.run_laws.specs.replaying.Copies.{Spots}
use Rattle.replay_model.specs.Names.{kind_text, argument_text, index_text, added_id}
use Rattle.replay_model.specs.ReplayTree.{last_task}
use Rattle.replay_model.specs.ReplayNumbers.{numbers_replayed}
use Rattle.normal_laws.specs.structure.types.Laws.{IsOrdered, AreOwn}
use Rattle.normal_laws.specs.structure.numbers.Laws.{NoneIsDed}
use Rattle.replay_structure.specs.spots.Places.{text_spots}
use Rattle.replay_runs.specs.starts.Laws.{form_in, text_in}

-- the normal form and the replay text as their tasks read them, each by its own types
abbrev pub form_setting : PProgram → Setting
form_setting p = record { program = (form_in p).program; types = types_in (form_in p).program; numbers = (form_in p).numbers }

abbrev pub text_setting : PProgram → List Event → Setting
text_setting p events = record { program = text_in p events; types = types_in (text_in p events); numbers = numbers_replayed (form_in p) }

-- a formal of mode `out` and of INTEGER
abbrev pub number_given : NameId → FormalParameter
number_given id = record { name = id; mode = Give; limits = integer_limits }

-- `DED_K, DED_A, DED_I : out INTEGER`
abbrev pub permit_parameters : PProgram → List FormalParameter
permit_parameters q = number_given (added_id q kind_text) ∷ number_given (added_id q argument_text) ∷ number_given (added_id q index_text) ∷ []

-- In a replay text each entry of the program and its double have the formals that the entry has in the normal form; GO has those of a permit, and
-- each other entry that is added has none.
pub record HaveFormals (p : PProgram) (events : List Event) (far : Spots) : Type 0 where
  pub original : (e : ℕ) (x : EntryInfo) → entry_at (form_in p).numbers e ≡ Some x →
      entry_parameters (text_setting p events) ((text_spots far (form_in p)).original e) ≡ entry_parameters (form_setting p) e
  pub shadow : (e : ℕ) (x : EntryInfo) → entry_at (form_in p).numbers e ≡ Some x →
      entry_parameters (text_setting p events) ((text_spots far (form_in p)).shadow e) ≡ entry_parameters (form_setting p) e
  pub never : (t : ℕ) → t < last_task (form_in p).numbers → entry_parameters (text_setting p events) ((text_spots far (form_in p)).never (suc t)) ≡ []
  pub join : (t : ℕ) → t < last_task (form_in p).numbers → entry_parameters (text_setting p events) ((text_spots far (form_in p)).join (suc t)) ≡ []
  pub go : entry_parameters (text_setting p events) (text_spots far (form_in p)).go ≡ permit_parameters (form_in p).program
  pub done : entry_parameters (text_setting p events) (text_spots far (form_in p)).done ≡ []
  pub hold : entry_parameters (text_setting p events) (text_spots far (form_in p)).hold ≡ []
  pub stop : entry_parameters (text_setting p events) (text_spots far (form_in p)).stop ≡ []
  pub rest : entry_parameters (text_setting p events) (text_spots far (form_in p)).rest ≡ []

-- So it is of a program that meets the static rules, declares own names and no array of tasks named DED, and in which no text has two ids.
abbrev pub FormalsStay : Type 0
FormalsStay = (p : PProgram) (events : List Event) (far : Spots) → IsOrdered p → AreOwn p p.decls → NoneIsDed p → AreNames p.names → HaveFormals p events far
