-- The names of the controller stand among those of each replay text.
use Rattle.std.proofs.Common.{◌≡◌, flat_map, refl}
use Rattle.std.specs.List.{AllByRecursion}
use Rattle.common_lemmas.proofs.Lists.{holds_at}
use Rattle.ada_tree.specs.PlainProgram.{PProgram}
use Rattle.syn_event.specs.DeclaredTasks.{tasks_of}
use Rattle.replay_model.specs.Names.{kind_text, argument_text, index_text, go_text, done_text, hold_text, join_text, operations_text, tasks_text, kinds_text, arguments_text, indices_text, counter_text, added_texts, double_texts, replay_names}
use Rattle.replay_model.specs.tables.ControlTexts.{control_texts, with_control_names}
use Rattle.table_law.proofs.Interned.{Has, first-there, none-new}

pub control-there : (q : PProgram) → AllByRecursion (Has (replay_names q)) control_texts
control-there q =
    let all : AllByRecursion (Has (replay_names q)) added_texts = first-there added_texts (flat_map (double_texts q.names) (tasks_of q)) q.names in
    let at = holds_at (Has (replay_names q)) added_texts in (
      at 0 kind_text refl all,
      (
        at 1 argument_text refl all,
        (
          at 2 index_text refl all,
          (
            at 4 go_text refl all,
            (
              at 5 done_text refl all,
              (
                at 6 hold_text refl all,
                (
                  at 11 join_text refl all,
                  (
                    at 12 operations_text refl all,
                    (at 13 tasks_text refl all, (at 14 kinds_text refl all, (at 15 arguments_text refl all, (at 16 indices_text refl all, (at 17 counter_text refl all, tt))))),
                  ),
                ),
              ),
            ),
          ),
        ),
      ),
    )

-- so interning them adds none
pub control-names-stay : (q : PProgram) → with_control_names (replay_names q) ≡ replay_names q
unfolding with_control_names
control-names-stay q = none-new control_texts (replay_names q) (control-there q)
