-- What is refused first in an expression, by what is refused first in its parts.
use Rattle.std.specs.Prelude.{ℕ, Option, None}
use Rattle.ada_tree.specs.declared.naming.Span.{Span}
use Rattle.ada_tree.specs.PlainExpr.{PExpr, EInteger, EName, EIndex, EAttribute, EAttributeOf, EParen, EUnary, EBinary}
use Rattle.syn_event.specs.declared.limits.What.TheVariants.{Nesting}
use Rattle.syn_event.specs.CheckRefusals.{CheckRefusal}
use Rattle.syn_event.specs.CheckScope.{CheckScope, uses, counts}
use Rattle.syn_event.specs.CheckSites.{expr_sites}
use Rattle.ada_check_rules.specs.rules.Sooner.{sooner}
use Rattle.ada_check_rules.specs.rules.RefusedFirst.{Standard, refused_first_at, refused_first}

-- a part that stands so deep
abbrev pub deep : Standard → CheckScope → ℕ → Span → Option CheckRefusal
deep by around k s = refused_first_at by around (counts Nesting 0 k s)

-- what an expression asks itself: how deep it stands, and what its name stands for
abbrev pub own_expr_met : Standard → CheckScope → ℕ → PExpr → Option CheckRefusal
own_expr_met by around k (EInteger n s) = deep by around k s
own_expr_met by around k (EName id s) = sooner (deep by around k s) (refused_first_at by around (uses id s))
own_expr_met by around k (EIndex w e s) = sooner (deep by around k s) (refused_first_at by around (uses w.name w.span))
own_expr_met by around k (EAttribute m w s) = deep by around k s
own_expr_met by around k (EAttributeOf m w e s) = deep by around k s
own_expr_met by around k (EParen e s) = deep by around k s
own_expr_met by around k (EUnary op e s) = deep by around k s
own_expr_met by around k (EBinary op l r s) = deep by around k s

-- the parts of an expression, which have that nesting
abbrev pub operands_met : Standard → CheckScope → ℕ → PExpr → Option CheckRefusal
operands_met by around k (EIndex w e s) = refused_first by (expr_sites around k e)
operands_met by around k (EAttributeOf m w e s) = refused_first by (expr_sites around k e)
operands_met by around k (EParen e s) = refused_first by (expr_sites around k e)
operands_met by around k (EUnary op e s) = refused_first by (expr_sites around k e)
operands_met by around k (EBinary op l r s) = sooner (refused_first by (expr_sites around k l)) (refused_first by (expr_sites around k r))
operands_met by around k _ = None
