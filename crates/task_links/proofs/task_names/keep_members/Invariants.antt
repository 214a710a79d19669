use Rattle.std.proofs.Common.{◌≡◌, ◌==◌, ◌&&◌, ℕ, ℤ, take, position}
use Rattle.std.specs.HashMap.{get}
use Rattle.ada_static_rules.specs.StaticValue.{first_of_two}
use Rattle.task_model.specs.Setting.{is_member}
use Rattle.task_links.specs.inner.Keys.{member_eq}
use Rattle.task_links.proofs.task_names.keep_members.Given as goal

-- the numbers of the members so far are kept
abbrev pub invariant-loop-place : goal.invariant-loop-place
invariant-loop-place l = (q : ℕ × ℤ) → get member_eq l.map q ≡ first_of_two (get member_eq l.fn.map q) (position (λ info. (info.name.0 == q.0) && is_member q.1 info.member) (take l.place l.tasks))
