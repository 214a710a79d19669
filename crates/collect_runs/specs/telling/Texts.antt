-- A program in normal form beside its collecting text, and what is asked of the two, so that each task can tell the recorder (9.1, 9.5; this project's rule).
use Rattle.std.specs.Prelude.{◌≡◌, ℕ, ℤ, pos, true, false, List, ◌∷◌, ◌++◌, unwrap_or, Option, Ok}
use Rattle.event_machine.specs.Programs.{Program}
use Rattle.ada_tree.specs.declared.naming.Span.{Span}
use Rattle.ada_tree.specs.TypeTable.{TypeTable}
use Rattle.ada_tree.specs.PlainExpr.{PExpr}
use Rattle.ada_tree.specs.PlainStmt.{PCall, PHead, SAccept, SWait, PStmts, stmt_then, PMaybe, accepting, PAlts, alternative, PAltKind, AAccept, alt_then}
use Rattle.ada_static_rules.specs.StaticValue.{is_integer_value}
use Rattle.ada_value.specs.declared.values.Value.{Value}
use Rattle.ada_value.specs.declared.values.Value.TheVariants.{Number}
use Rattle.ada_value.specs.Values.{position_of, integer_limits, truth_limits, limits_named}
use Rattle.ada_value.specs.Variables.{Object, Variables}
use Rattle.ada_value.specs.Evaluating.{evaluated}
use Rattle.syn_event.specs.Numbering.{task_named, owner_of}
use Rattle.task_model.specs.Setting.{Setting, entry_of, is_family, member_index, parameters_of, entry_parameters, lists_of}
use Rattle.task_model.specs.Calls.{called, opened_objects, copied_back}
use Rattle.task_model.specs.Tasks.{Task}
use Rattle.task_model.specs.TaskOps.{task_ops}
use Rattle.task_laws.specs.translation.Translations.{Programs, Rewriting, Translation}
use Rattle.task_laws.specs.translation.Scopes.{AgreeOnTypes}
use Rattle.task_laws.specs.translation.OldTexts.{only_names}
use Rattle.normal_laws.specs.runs.floors.Meetings.{AreValues}
use Rattle.collect_model.specs.Teller.{Teller, teller_at}
use Rattle.collect_model.specs.Calling.{entry_called, member_called, call_telling}
use Rattle.collect_model.specs.Recording.{note_formals}
use Rattle.collect_runs.specs.translation.Rows.{telling_rows}
use Rattle.collect_runs.specs.translation.Floors.{AreNamesAdded, into_collecting}

-- The two programs, what main is told, the number of the recorder, which is that of tasks in front of it, and the number of its entry.
pub record Texts : Type 0 where
  pub programs : Programs
  pub main : Teller
  pub recorder : ℕ
  pub note : ℕ

-- what the tasks of the normal form read, and those of the text
abbrev pub form : Texts → Setting
form x = x.programs.original

abbrev pub text : Texts → Setting
text x = x.programs.made

-- the unit of the task t, its rows and its translation
abbrev pub teller : Texts → ℕ → Teller
teller x t = teller_at x.main t

abbrev pub unit_rows : Texts → ℕ → Rewriting
unit_rows x t = telling_rows (only_names x.programs) (teller x t)

abbrev pub unit_translation : Texts → ℕ → Translation
unit_translation x t = into_collecting (unit_rows x t) (teller x t)

-- the normal form as a program of tasks
abbrev pub program_of : Texts → Program Task
program_of x = record { ops = task_ops; owner = owner_of (form x).numbers; size = x.recorder }

-- INTEGER has the number
abbrev pub IsInteger : ℕ → Type 0
IsInteger n = is_integer_value (pos n) ≡ true

-- What is asked of the two as a whole. The added names are none of the normal form's, and the tables of types agree. The recorder is found by its name, and its entry, which has the formals of NOTE; INTEGER and BOOLEAN are the first and the fourth name.
pub record CanTell (x : Texts) : Type 0 where
  pub names : AreNamesAdded x.programs x.main.added
  pub types : AgreeOnTypes x.programs
  pub recorder : unwrap_or (task_named (text x).numbers x.main.added.recorder) 0 ≡ x.recorder
  pub note : entry_of (text x).numbers x.recorder x.main.added.note ≡ x.note
  pub single : is_family (text x).numbers x.note ≡ false
  pub span : Span
  pub formals : entry_parameters (text x) x.note ≡ parameters_of (text x).types (note_formals x.main.added span)
  pub integer : limits_named (text x).types record { 0 = 0 } ≡ integer_limits
  pub truth : limits_named (text x).types record { 0 = 3 } ≡ truth_limits

-- The expression is worth a value at this position, which is a number of INTEGER: a note tells the member by it (3.5.4, 3.5.5).
pub record TellsMember (T : TypeTable) (V : Variables) (e : PExpr) (z : ℤ) : Type 0 where
  pub value : Value
  pub worth : evaluated T V e ≡ Ok value
  pub position : position_of value ≡ z
  pub fits : is_integer_value z ≡ true

-- ---- calls

-- A call in the unit of the task t, with these variables of the task and of its image. It comes to the same entry and member in both, and the image hands over its own number in front of the same values. The number of the entry, the member and the owner are told as numbers of INTEGER. The values that come back go to the same variables.
pub record IsCallAlike (x : Texts) (t : ℕ) (c : PCall) (V W : Variables) : Type 0 where
  pub entry : ℕ
  pub index : ℤ
  pub values : List Value
  pub here : called (form x) V c ≡ Ok record { entry = entry; index = index; values = values }
  pub there : (s : Span) → called (text x) W (call_telling (teller x t) s c) ≡ Ok record { entry = entry; index = index; values = Number (pos t) ∷ values }
  pub known : AreValues x.programs values
  pub number : entry_called (teller x t) c ≡ entry
  pub member : (s : Span) → TellsMember (text x).types W (member_called (teller x t) s c) index
  pub owner : owner_of x.main.numbers entry ≡ owner_of (form x).numbers entry
  pub entry_fits : IsInteger entry
  pub owner_fits : IsInteger (owner_of (form x).numbers entry)
  pub copies : (s : Span) (vs : List Value) (U : Variables) →
      copied_back (entry_parameters (text x) entry) (lists_of (text x).numbers entry (call_telling (teller x t) s c).args).actuals vs U ≡
      copied_back (entry_parameters (form x) entry) (lists_of (form x).numbers entry c.args).actuals vs U

-- ---- accepts

-- The head of an accept in the unit of the task t, with these variables of the task and of its image. It is for the same entry, of the same range, in both, and its index is worth the same. Where it is worth z, z is told as a number of INTEGER in each accept body that it opens.
pub record IsHeadAlike (x : Texts) (t : ℕ) (h : PHead) (V W : Variables) : Type 0 where
  pub entry : entry_of (text x).numbers t h.entry.name ≡ entry_of (form x).numbers t h.entry.name
  pub number : entry_of x.main.numbers t h.entry.name ≡ entry_of (form x).numbers t h.entry.name
  pub index : member_index (text x) W (entry_of (text x).numbers t h.entry.name) h.index ≡ member_index (form x) V (entry_of (form x).numbers t h.entry.name) h.index
  pub entry_fits : IsInteger (entry_of (form x).numbers t h.entry.name)
  pub told : (z : ℤ) → member_index (form x) V (entry_of (form x).numbers t h.entry.name) h.index ≡ Ok z → (own : Object) → own.name ≡ x.main.added.caller → (vs : List Value) (s : Span) →
      TellsMember (text x).types (own ∷ (opened_objects (text x).types (parameters_of (text x).types h.formals) vs ++ W)) (x.main.member (entry_of x.main.numbers t h.entry.name) s h.index) z

-- the statement is an accept with this head, or has an alternative with it
pub data HasHead (h : PHead) : PAlts → Type 0 where
  has_first : (guard : Option PExpr) (o : PMaybe) (l : PStmts) (s : Span) (rest : PAlts) → HasHead h (alt_then (alternative guard (AAccept (accepting h o) l) s) rest)
  has_later : (guard : Option PExpr) (k : PAltKind) (s : Span) (rest : PAlts) → HasHead h rest → HasHead h (alt_then (alternative guard k s) rest)

pub data Accepts (h : PHead) : PStmts → Type 0 where
  at_accept : (o : PMaybe) (s : Span) (rest : PStmts) → Accepts h (stmt_then (SAccept (accepting h o) s) rest)
  at_wait : (alts : PAlts) (o : PMaybe) (s : Span) (rest : PStmts) → HasHead h alts → Accepts h (stmt_then (SWait alts o s) rest)
