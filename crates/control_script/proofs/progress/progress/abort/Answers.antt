use Rattle.std.proofs.Common.{◌≡◌, false, if◌then◌else◌, sym, ap, ◌∙◌}
use Rattle.event_machine.specs.progress.Known.{Known, fall}
use Rattle.control_script.specs.progress.TaskRecords.{member_at, known_of}
use Rattle.control_script.proofs.progress.Shutting.{closed_known, shut_linked, shut_known, depth_within}
use Rattle.control_script.proofs.progress.progress.abort.Goals as goal

-- the task is open
is_open : (c : goal.After-members-1) → (member_at c.args.members.now c.args.x).closed ≡ false
is_open c = sym c.is_closed.ensures ∙ c.if-is_closed.false

pub overflow_sub-result : goal.overflow_sub-result
overflow_sub-result c = rw c.depth-callers.ensures (depth_within c.args.members.now c.args.served c.requires c.args.x (is_open c))

pub returns-clause-linked : goal.returns-clause-linked
returns-clause-linked c = rw (c.close.ensures, c.depth-callers.ensures) (shut_linked c.args.members.now c.args.served c.requires c.args.x (is_open c))

pub returns-clause-known : goal.returns-clause-known
returns-clause-known c = rw c.close.ensures (shut_known c.args.members.now c.args.served c.requires c.args.x (is_open c) ∙
    ap (λ b. (if◌then◌else◌ {A = Known} b (known_of c.args.members.now false) (fall (known_of c.args.members.now false) c.args.x)).parties)
    (sym (closed_known c.args.members.now c.args.x ∙ is_open c)))
