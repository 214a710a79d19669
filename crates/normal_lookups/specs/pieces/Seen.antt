-- Members of an array of tasks as the code holds them, and what they are in the normal form (9.1; this project's rule).
use Rattle.ada_tree.specs.declared.naming.NameId.{NameId}
use Rattle.ada_tree.specs.declared.naming.Span.{Span}
use Rattle.ada_tree.specs.PlainExpr.{PExpr, EName}
use Rattle.syn_event.specs.declared.numbering.TaskInfo.{TaskInfo}
use Rattle.task_model.specs.Setting.{Setting}
use Rattle.normal_model.specs.Names.{task_name}
use Rattle.normal_model.specs.Ranges.{array_range}
use Rattle.normal_model.specs.Members.{kind_of_index, integer_literal, index_literal}
use Rattle.normal_lookups.specs.declared.pieces.meanings.Literal.{Literal}
use Rattle.normal_lookups.specs.declared.pieces.meanings.Literal.TheVariants.{Number, Name}
use Rattle.normal_lookups.specs.declared.pieces.meanings.Member.{Member}

-- the literal at a place
abbrev pub literal_seen : Span → Literal → PExpr
literal_seen s (Number z) = integer_literal s z
literal_seen s (Name id) = EName id s

-- a member: its index as an expression at a place, and its name
abbrev pub member_seen : Span → Member → PExpr × NameId
member_seen s m = (literal_seen s m.index, m.name)

-- the same of a task that is a member of an array
abbrev pub member_meant : Setting → Span → NameId → TaskInfo → PExpr × NameId
member_meant g s array info = (index_literal (kind_of_index g.types (array_range g.program array)) s info.member, task_name g info)
