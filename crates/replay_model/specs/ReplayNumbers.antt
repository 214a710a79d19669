-- The numbers of a replay text (this project's rule). Tasks keep their numbers, and behind them stand the controller and the idle task; entries are numbered task by task, so those of a task stand in front of their doubles, and each double stands for its entry.
use Rattle.std.specs.Prelude.{ℕ, zero, suc, ◌+◌, ◌==◌, pos, true, false, List, [], ◌∷◌, ◌++◌, map, None}
use Rattle.std.specs.List.{filter}
use Rattle.ada_tree.specs.PlainProgram.{PProgram}
use Rattle.ada_tree.specs.TypeTable.{TypeTable}
use Rattle.syn_event.specs.declared.numbering.EntryInfo.{EntryInfo}
use Rattle.syn_event.specs.Numbering.{Numbering}
use Rattle.syn_event.specs.AddedNames.{task_info, with_origins}
use Rattle.syn_event.specs.DeclaredTasks.{text_of}
use Rattle.task_model.specs.Setting.{Setting}
use Rattle.replay_model.specs.Names.{control_text, go_text, done_text, hold_text, idle_text, stop_text, rest_text, never_text, join_text, double_text, replay_names, added_id}
use Rattle.replay_model.specs.ReplayTree.{last_task, normal_setting}

-- a plain entry that is added
abbrev pub plain_info : PProgram → ℕ → List ℕ → EntryInfo
plain_info q owner text = record { name = added_id q text; owner = owner; family = false; first = pos 0; last = pos 0; added = true; stands_for = None }

-- a family for all tasks up to n that is added
abbrev pub family_info : PProgram → ℕ → List ℕ → ℕ → EntryInfo
family_info q owner text n = record { name = added_id q text; owner = owner; family = true; first = pos 0; last = pos n; added = true; stands_for = None }

-- the double of an entry, before it is known what it stands for
abbrev pub double_info : PProgram → EntryInfo → EntryInfo
double_info q x = record {
  name = added_id q (double_text (text_of q.names x.name));
  owner = x.owner;
  family = x.family;
  first = x.first;
  last = x.last;
  added = true;
  stands_for = None;
}

-- the entries of a task
abbrev pub own_entries : Numbering → ℕ → List EntryInfo
own_entries numbers t = filter (λ x. x.owner == t) numbers.entries

-- the entries of a task in the replay text
abbrev pub more_infos : Setting → ℕ → List EntryInfo
more_infos g t =
    own_entries g.numbers t ++ map (double_info g.program) (own_entries g.numbers t)
    ++ plain_info g.program t never_text ∷ plain_info g.program t join_text ∷ []

-- those of n tasks from t on
abbrev pub all_infos : Setting → ℕ → ℕ → List EntryInfo
all_infos g zero t = []
all_infos g (suc n) t = more_infos g t ++ all_infos g n (t + 1)

-- those of the controller and of the idle task, behind n tasks
abbrev pub added_infos : PProgram → ℕ → List EntryInfo
added_infos q n =
    family_info q (n + 1) go_text n ∷ family_info q (n + 1) done_text n ∷ plain_info q (n + 1) hold_text
    ∷ plain_info q (n + 2) stop_text ∷ plain_info q (n + 2) rest_text ∷ []

-- the numbers of the replay text of a normal form
abbrev pub numbers_replayed : Setting → Numbering
numbers_replayed g = record {
  main = g.numbers.main;
  tasks =
      g.numbers.tasks
      ++ task_info (replay_names g.program) (added_id g.program control_text) ∷ task_info (replay_names g.program) (added_id g.program idle_text) ∷ [];
  entries = with_origins (replay_names g.program) (all_infos g (last_task g.numbers) 1 ++ added_infos g.program (last_task g.numbers));
}

-- The numbers of the replay text of a program with these types and numbers; they hang on no sequence.
abbrev pub replay_numbers : PProgram → TypeTable → Numbering → Numbering
replay_numbers p types numbers = numbers_replayed (normal_setting p types numbers)
