-- What is asked of an original, beside that its normal form is well placed, so that its replay texts are (this project's rule). The rules on types
-- give it of a legal program: a called entry is declared, so its name is short, and an index of an INTEGER family is no relation.
use Rattle.std.specs.Prelude.{◌≡◌, length, None}
use Rattle.std.specs.List.{AllByRecursion}
use Rattle.ada_tree.specs.declared.naming.Span.{Span}
use Rattle.ada_tree.specs.Lexical.{IsIdentifier, IsInteger}
use Rattle.ada_tree.specs.PlainDecl.{PDecl, DTaskBody}
use Rattle.syn_event.specs.DeclaredTasks.{text_of, decl_list}
use Rattle.syn_event.specs.declared.numbering.TaskInfo.{TaskInfo}
use Rattle.task_model.specs.Setting.{Setting, entry_of}
use Rattle.normal_model.specs.Making.{moving}
use Rattle.normal_model.specs.Names.{task_name}
use Rattle.normal_model.specs.NormalTree.{unit_for, main_unit, running}
use Rattle.normal_model.specs.RewrittenUnit.{RewrittenUnit}
use Rattle.task_laws.specs.legal.asked.Asked.{Asks, AskedBody}
use Rattle.task_laws.specs.legal.asked.Kinds.{no_asks}
use Rattle.normal_laws.specs.structure.asked.Pieces.{IsAmong}
use Rattle.replay_model.specs.Names.{double_text}
use Rattle.replay_model.specs.Asking.{member_number}
use Rattle.replay_model.specs.ReplayTree.{normal_setting}
use Rattle.replay_structure.specs.placed.Fitting.{IsOperand}

-- the normal form of a program with its numbers
abbrev pub normal_of : Setting → Setting
normal_of g = normal_setting g.program g.types g.numbers

-- What is asked of calls and accepts alone, by the unit of the normal form: the double of a called entry has a name, and an index of an accept that
-- is static may as a number stand in a relation.
abbrev pub ready_asks : RewrittenUnit → Asks (Prim.Unit {0})
ready_asks v = record no_asks {
  call = λ c k x. IsIdentifier (double_text (text_of v.setting.program.names x.entry.name));
  head = λ c k h. moving v.setting.types h.index ≡ None → (s : Span) → IsOperand (member_number v.setting s (entry_of v.setting.numbers v.task h.entry.name) h.index);
}

-- the statements of a body are so for each task that runs it
abbrev pub ReadyBody : Setting → PDecl → Type 0
ReadyBody g (DTaskBody w objects its s) = (info : TaskInfo) → IsAmong info (running g w.name) → AskedBody (ready_asks (unit_for (normal_of g) (task_name g info))) tt 1 its
ReadyBody g _ = Prim.Unit {0}

-- What is asked: its bodies are so, and the numbers of its tasks and entries have literals.
pub record IsReady (g : Setting) : Type 0 where
  pub main : AskedBody (ready_asks (main_unit (normal_of g))) tt 1 g.program.body
  pub bodies : AllByRecursion (ReadyBody g) (decl_list g.program.decls)
  pub few_numbers : IsInteger (length g.numbers.tasks)
  pub few_tasks : IsInteger (length (normal_of g).numbers.tasks)
  pub few_entries : IsInteger (length g.numbers.entries)
