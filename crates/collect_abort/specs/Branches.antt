-- The branches of the recorder as lists, in their order.
use Rattle.std.specs.Prelude.{ℕ, ◌+◌, List, [], ◌∷◌, None}
use Rattle.ada_tree.specs.declared.naming.Span.{Span}
use Rattle.ada_tree.specs.PlainStmt.{SAbort, PCaseArm, case_arm}
use Rattle.syn_event.specs.declared.numbering.TaskInfo.{TaskInfo}
use Rattle.normal_model.specs.Ranges.{word_at}
use Rattle.normal_model.specs.Making.{one}
use Rattle.collect_model.specs.Noting.{before_call, has_begun, at_finish, has_failed, at_end}
use Rattle.collect_model.specs.Recording.{on_end}
use Rattle.collect_xform.specs.recorder.Branches.{arm_at}
use Rattle.collect_model.specs.aborts.AbortTeller.{AbortTeller}
use Rattle.collect_model.specs.aborts.Noting.{at_abort, has_returned}
use Rattle.collect_model.specs.aborts.Recording.{choice_of, on_before_call, on_begun, on_finish, on_back, on_abort}

-- `when u => abort` the name of a task `;`
abbrev pub abort_arm : Span → ℕ → TaskInfo → PCaseArm
abort_arm s u info = arm_at s u (one (SAbort (record { name = word_at s info.name; index = None } ∷ []) s))

-- those of tasks that are numbered from u on
abbrev pub abort_arms : Span → ℕ → List TaskInfo → List PCaseArm
abort_arms s u [] = []
abort_arms s u (info ∷ infos) = abort_arm s u info ∷ abort_arms s (u + 1) infos

-- the branches of rendezvous
abbrev pub first_arms : AbortTeller → Span → List PCaseArm
first_arms x s =
    arm_at s before_call (on_before_call x.teller.added s)
    ∷ arm_at s has_begun (on_begun x s)
    ∷ arm_at s at_finish (on_finish x s)
    ∷ []

-- that of a call that has come back
abbrev pub back_arm : AbortTeller → Span → PCaseArm
back_arm x s = case_arm (choice_of s has_failed ∷ choice_of s has_returned ∷ []) (on_back x s)

-- the branches of calls that have come back, of ends and of aborts
abbrev pub last_arms : AbortTeller → Span → List PCaseArm
last_arms x s = back_arm x s ∷ arm_at s at_end (on_end x.teller.added s) ∷ arm_at s at_abort (on_abort x s) ∷ []
