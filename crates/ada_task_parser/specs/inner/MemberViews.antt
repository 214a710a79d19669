-- How the members of a task are seen plainly.
use Rattle.ada_tree.specs.PlainExpr.{plain_expr}
use Rattle.ada_tree.specs.PlainDecl.{plain_entry}
use Rattle.ada_task_parser.specs.Tasks.{Member, MEntry, MPriority}
use Rattle.ada_task_parser.specs.declared.task_items.Member.{Member as Part}
use Rattle.ada_task_parser.specs.declared.task_items.Member.TheVariants.{Entry, Priority}

-- an entry or a pragma of a task
abbrev pub plain_member : Part → Member
plain_member (Entry x) = MEntry (plain_entry x)
plain_member (Priority e) = MPriority (plain_expr e)
