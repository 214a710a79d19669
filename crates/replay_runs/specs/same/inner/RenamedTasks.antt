-- Tasks with other ids in the place of those of their program: their trees, types, numbers, frames and variables, while numbers, values and texts stay.
use Rattle.std.specs.Prelude.{◌∷◌, List, [], map, option_map, ℕ}
use Rattle.syn_event.specs.Numbering.{Numbering}
use Rattle.syn_event.specs.declared.numbering.EntryInfo.{EntryInfo}
use Rattle.syn_event.specs.declared.numbering.TaskInfo.{TaskInfo}
use Rattle.task_model.specs.Calls.{Copies}
use Rattle.task_model.specs.Frames.{Around, Block, Control, Counting, Endless, Handling, Loop, Opened, OwnBody, PFrame, Turns, While}
use Rattle.task_model.specs.Setting.{Lists, Setting}
use Rattle.task_model.specs.Tasks.{Task}
use Rattle.task_model.specs.Waits.{Accepts, Delays, Open, Terminates}
use Rattle.task_model.specs.declared.parameters.FormalParameter.{FormalParameter}
use Rattle.replay_runs.specs.same.Renamed.{KeepsTexts, renamed_body, renamed_decls, renamed_expr, renamed_handlers, renamed_head, renamed_id, renamed_program, renamed_stmts, renamed_types, renamed_word}
use Rattle.replay_runs.specs.same.inner.RenamedValues.{renamed_raised, renamed_vars}
use Rattle.task_model.specs.Starting as starting

-- the names for a program: none where it has none, as for a task that is none
abbrev pub names_for : List (List ℕ) → List (List ℕ) → List (List ℕ)
names_for names [] = []
names_for names (text ∷ texts) = names

module _ (f : ℕ → ℕ) where
  abbrev pub renamed_parameter : FormalParameter → FormalParameter
  renamed_parameter x = record { name = renamed_id f x.name; mode = x.mode; limits = x.limits }

  abbrev pub renamed_lists : Lists → Lists
  renamed_lists x = record { index = option_map (renamed_expr f) x.index; actuals = map (renamed_expr f) x.actuals }

  abbrev pub renamed_copies : Copies → Copies
  renamed_copies x = record { vars = renamed_vars f x.vars; stopped = option_map (renamed_raised f) x.stopped }

  abbrev pub renamed_turns : Turns → Turns
  renamed_turns Endless = Endless
  renamed_turns (While e) = While (renamed_expr f e)
  renamed_turns (Counting backwards last) = Counting backwards last

  abbrev pub renamed_around : Around → Around
  renamed_around (OwnBody handlers taken) = OwnBody (renamed_handlers f handlers) (option_map (renamed_raised f) taken)
  renamed_around (Block handlers) = Block (renamed_handlers f handlers)
  renamed_around (Handling x) = Handling (renamed_raised f x)
  renamed_around (Loop name turns stmts) = Loop (option_map (renamed_word f) name) (renamed_turns turns) (renamed_stmts f stmts)
  renamed_around (Opened caller formals pending) = Opened caller (map renamed_parameter formals) (option_map (renamed_raised f) pending)

  abbrev pub renamed_frame : PFrame → PFrame
  renamed_frame x = record { rest = renamed_stmts f x.rest; place = renamed_around x.place }

  abbrev pub renamed_control : Control → Control
  renamed_control c = record { top = renamed_frame c.top; outer = map renamed_frame c.outer; vars = renamed_vars f c.vars }

  abbrev pub renamed_open : Open → Open
  renamed_open (Accepts e i head stmts behind) = Accepts e i (renamed_head f head) (renamed_stmts f stmts) (renamed_stmts f behind)
  renamed_open (Delays k duration stmts) = Delays k duration (renamed_stmts f stmts)
  renamed_open Terminates = Terminates

  abbrev pub renamed_unit : starting.Unit → starting.Unit
  renamed_unit u = record { in_main = u.in_main; decls = renamed_decls f u.decls; body = renamed_body f u.body }

  -- ---- numbers

  abbrev pub renamed_task_info : TaskInfo → TaskInfo
  renamed_task_info x = record { name = renamed_id f x.name; added = x.added; unit = renamed_id f x.unit; member = x.member }

  abbrev pub renamed_entry_info : EntryInfo → EntryInfo
  renamed_entry_info x = record { name = renamed_id f x.name; owner = x.owner; family = x.family; first = x.first; last = x.last; added = x.added; stands_for = x.stands_for }

  abbrev pub renamed_numbers : Numbering → Numbering
  renamed_numbers x = record { main = renamed_id f x.main; tasks = map renamed_task_info x.tasks; entries = map renamed_entry_info x.entries }

  -- ---- tasks, whose program gets these names

  abbrev pub renamed_setting : List (List ℕ) → Setting → Setting
  renamed_setting names g = record {
    program = renamed_program f (names_for names g.program.names) g.program;
    types = renamed_types f g.types;
    numbers = renamed_numbers g.numbers;
  }

  abbrev pub renamed_state : List (List ℕ) → Task → Task
  renamed_state names t = record {
    setting = renamed_setting names t.setting;
    number = t.number;
    control = renamed_control t.control;
    input = t.input;
    output = t.output;
  }

  -- The names that the task's program gets have the texts that its own have.
  abbrev pub KeepsTextsOf : List (List ℕ) → Task → Type 0
  KeepsTextsOf names t = KeepsTexts f t.setting.program.names (names_for names t.setting.program.names)
