-- What contracts see of the uses of marks, attributes and operands.
use Rattle.std.specs.Prelude.{ℕ, Option, Some, None}
use Rattle.ada_tree.specs.Attributes as attribute
use Rattle.ada_static_rules.specs.ExprTypes.{Operand, of_kind, of_any_kind}
use Rattle.ada_static_rules.specs.Demand as demand
use Rattle.ada_expr_rules.specs.declared.marks.MarkUse.{MarkUse}
use Rattle.ada_expr_rules.specs.declared.marks.MarkUse.TheVariants as mark_use
use Rattle.ada_expr_rules.specs.declared.kinds.Attribute.{Attribute}
use Rattle.ada_expr_rules.specs.declared.kinds.Attribute.TheVariants.{First, Last, Pos, Val, Succ, Pred, Image, NoAttribute}

abbrev pub plain_use : MarkUse → demand.MarkUse
plain_use mark_use.Scalar = demand.scalar_only
plain_use mark_use.OrArray = demand.or_array
plain_use mark_use.OrTask = demand.or_task
plain_use mark_use.OrArrayOrTask = demand.or_array_or_task

abbrev pub plain_attribute : Attribute → attribute.Attribute
plain_attribute First = attribute.First
plain_attribute Last = attribute.Last
plain_attribute Pos = attribute.Pos
plain_attribute Val = attribute.Val
plain_attribute Succ = attribute.Succ
plain_attribute Pred = attribute.Pred
plain_attribute Image = attribute.Image
plain_attribute NoAttribute = attribute.NoAttribute

-- an operand of one kind, or of any
abbrev pub plain_operand : Option ℕ → Operand
plain_operand (Some k) = of_kind k
plain_operand None = of_any_kind
