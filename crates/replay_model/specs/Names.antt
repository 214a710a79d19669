-- The names that a replay text has beside those of the normal form (this project's rule). No declared name of an original begins with DED_, so those that do mean nothing else; the others are names of entries, which stand apart (9.5). Each goes behind the names that are there, where it is not among them.
use Rattle.std.specs.Prelude.{ℕ, List, [], ◌∷◌, ◌++◌, map, flat_map, codes}
use Rattle.std.specs.List.{fold}
use Rattle.ada_tree.specs.declared.naming.NameId.{NameId}
use Rattle.ada_tree.specs.declared.naming.Span.{Span}
use Rattle.ada_tree.specs.declared.naming.Word.{Word}
use Rattle.ada_tree.specs.NameList.{interned}
use Rattle.ada_tree.specs.PlainDecl.{PTask}
use Rattle.ada_tree.specs.PlainProgram.{PProgram}
use Rattle.syn_event.specs.DeclaredTasks.{text_of, tasks_of}
use Rattle.normal_model.specs.Names.{id_of}
use Rattle.normal_model.specs.Ranges.{word_at}

-- ---- texts

-- the variables of a unit that hold its permit: the kind of event, its argument, and the member of a family
abbrev pub kind_text : List ℕ
kind_text = codes "DED_K"

abbrev pub argument_text : List ℕ
argument_text = codes "DED_A"

abbrev pub index_text : List ℕ
index_text = codes "DED_I"

-- the controller and its entries: a permit is handed out, it is heard that an event has come, and nothing more comes
abbrev pub control_text : List ℕ
control_text = codes "DED_CONTROL"

abbrev pub go_text : List ℕ
go_text = codes "GO"

abbrev pub done_text : List ℕ
done_text = codes "DONE"

abbrev pub hold_text : List ℕ
hold_text = codes "HOLD"

-- the idle task and its entries: one that is never accepted, and one that is never called
abbrev pub idle_text : List ℕ
idle_text = codes "DED_IDLE"

abbrev pub stop_text : List ℕ
stop_text = codes "STOP"

abbrev pub rest_text : List ℕ
rest_text = codes "NEVER"

-- the entries that each task gets: one that is never called, and one that the controller calls to see it closed
abbrev pub never_text : List ℕ
never_text = codes "DED_NEVER"

abbrev pub join_text : List ℕ
join_text = codes "DED_JOIN"

-- the tables of the controller: what each operation is, its task, and the kind, the argument and the index of a permit
abbrev pub operations_text : List ℕ
operations_text = codes "DED_OPS"

abbrev pub tasks_text : List ℕ
tasks_text = codes "DED_TS"

abbrev pub kinds_text : List ℕ
kinds_text = codes "DED_KS"

abbrev pub arguments_text : List ℕ
arguments_text = codes "DED_AS"

abbrev pub indices_text : List ℕ
indices_text = codes "DED_IS"

-- its loop parameter, which counts the turns from 1
abbrev pub counter_text : List ℕ
counter_text = codes "DED_N"

-- The double of an entry E is named DED_S_E.
abbrev pub double_text : List ℕ → List ℕ
double_text entry = codes "DED_S_" ++ entry

-- ---- the names of the result

abbrev pub added_texts : List (List ℕ)
added_texts =
    kind_text ∷ argument_text ∷ index_text ∷ control_text ∷ go_text ∷ done_text ∷ hold_text ∷ idle_text ∷ stop_text ∷ rest_text ∷ never_text ∷ join_text
    ∷ operations_text ∷ tasks_text ∷ kinds_text ∷ arguments_text ∷ indices_text ∷ counter_text ∷ []

-- the names of the doubles of a task's entries, in order
abbrev pub double_texts : List (List ℕ) → PTask → List (List ℕ)
double_texts names t = map (λ e. double_text (text_of names e.name.name)) t.entries

-- The names of the replay text of a normal form: its own, those above, and those of the doubles, task by task.
abbrev pub replay_names : PProgram → List (List ℕ)
replay_names q = fold interned q.names (added_texts ++ flat_map (double_texts q.names) (tasks_of q))

-- the id of a name there
abbrev pub added_id : PProgram → List ℕ → NameId
added_id q text = id_of (replay_names q) text

-- the name as a word at a place
abbrev pub added_word : PProgram → Span → List ℕ → Word
added_word q s text = word_at s (added_id q text)

-- The word of an entry's double, in the entry's place.
abbrev pub double_word : PProgram → Word → Word
double_word q w = added_word q w.span (double_text (text_of q.names w.name))
