-- That the replay text by ids is that of the definitions (this project's rule).
use Rattle.std.specs.Prelude.{◌≡◌, ℕ, List, flat_map}
use Rattle.std.specs.List.{fold}
use Rattle.ada_tree.specs.NameList.{interned}
use Rattle.ada_tree.specs.PlainDecl.{PDecl, decls_of}
use Rattle.ada_tree.specs.PlainProgram.{PProgram}
use Rattle.syn_event.specs.DeclaredTasks.{decl_list, tasks_of}
use Rattle.control_script.specs.declared.Op.{Op}
use Rattle.task_model.specs.Setting.{Setting}
use Rattle.normal_model.specs.NormalTree.{main_unit}
use Rattle.normal_model.specs.RewrittenUnit.{RewrittenUnit}
use Rattle.replay_model.specs.Names.{replay_names, double_texts}
use Rattle.replay_model.specs.ReplayTree.{last_task, replay_of}
use Rattle.replay_model.specs.tables.ControlTexts.{ids_in}
use Rattle.replay_asking.specs.names.Added.{with_added}
use Rattle.replay_asking.specs.Voice.{Voice}
use Rattle.replay_asking.specs.Looked.{voice_of}
use Rattle.replay_asking.specs.declared.speaker.Speaker.{Speaker}
use Rattle.replay_statements.specs.rules.Replayed.{body_image}
use Rattle.replay_statements.specs.rules.Meant.{voice_in}
use Rattle.replay_declarations.specs.ids.Arranged.{decls_image}
use Rattle.replay_declarations.specs.control.Controlled.{control_body}
use Rattle.replay_declarations.specs.ids.Looking.{AreTables}

-- ---- the text by ids

-- The names that are added, interned in two steps: those that every text adds, and then the doubles'.
abbrev pub names_made : PProgram → List (List ℕ)
names_made q = fold interned (with_added q.names) (flat_map (double_texts q.names) (tasks_of q))

-- The body of the controller that makes these operations, by what main is told.
abbrev pub controller_by : Voice → Setting → List Op → PDecl
controller_by v g ops = control_body v.added (ids_in (names_made g.program)) v.numbers.tasks g.program.name.span ops

-- The replay text of a normal form by what main is told, with these operations.
abbrev pub text_by : Voice → Setting → List Op → PProgram
text_by v g ops = record {
  names = names_made g.program;
  text_io = g.program.text_io;
  name = g.program.name;
  decls = decls_of (decls_image v g.program.names (last_task g.numbers) g.program.name.span (controller_by v g ops) (decl_list g.program.decls));
  body = body_image v g.program.name.span g.program.body;
}

-- ---- the laws

-- Tables of a program and its replay text tell each unit what the definitions tell it.
abbrev pub TablesTell : Type 0
TablesTell =
    (u : RewrittenUnit) (x : Speaker) → AreTables u.setting (replay_names u.setting.program) x.tables.now → x.numbers.now ≡ u.setting.numbers → x.task ≡ u.task →
    voice_of x ≡ voice_in u

-- The text by ids is the replay text.
abbrev pub IdsAgree : Type 0
IdsAgree = (g : Setting) (ops : List Op) → text_by (voice_in (main_unit g)) g ops ≡ replay_of g ops
