-- Rule TextUse: 'IMAGE stands elsewhere than as a part of what PUT or PUT_LINE writes; of several parts one is neither a string nor 'IMAGE; or PUT_LINE writes a plain expression (14.3; this project's rule).
use Rattle.std.specs.Prelude.{Bool, true, false, ◌||◌, not, if◌then◌else◌, List, [], ◌∷◌}
use Rattle.ada_tree.specs.declared.naming.Span.{Span}
use Rattle.ada_tree.specs.PlainExpr.{PExpr, EAttribute, EAttributeOf, EParen}
use Rattle.ada_tree.specs.Attributes.{attribute_of, is_image}
use Rattle.ada_static_rules.specs.Scope.{Scope}
use Rattle.ada_static_rules.specs.ExprTypes.{expr_place}
use Rattle.ada_static_rules.specs.Demand.{Demand, node, is_written}

-- the expression is 'IMAGE
abbrev pub is_image_of : PExpr → Bool
is_image_of (EAttribute m w s) = is_image (attribute_of w.name)
is_image_of (EAttributeOf m w e s) = is_image (attribute_of w.name)
is_image_of _ = false

-- the expression is 'IMAGE in parentheses
abbrev pub is_closed_image : PExpr → Bool
is_closed_image (EParen e s) = is_image_of e || is_closed_image e
is_closed_image _ = false

-- 'IMAGE as a node that is no part of a text
abbrev pub image_in_node : Bool → PExpr → List Span
image_in_node true e = []
image_in_node false e = if is_image_of e then expr_place e ∷ [] else []

-- a part of a text that is an expression: 'IMAGE, or alone in PUT a plain expression without 'IMAGE in parentheses
abbrev pub is_fit_part : Bool → PExpr → Bool
is_fit_part alone e = is_image_of e || fits_alone alone
  where
    fits_alone : Bool → Bool
    fits_alone true = not (is_closed_image e)
    fits_alone false = false

-- Parts of texts that may not stand there, and 'IMAGE elsewhere.
abbrev pub text_use : Scope → Demand → List Span
text_use scope (node written e) = image_in_node written e
text_use scope (is_written alone e) = if is_fit_part alone e then [] else expr_place e ∷ []
text_use scope _ = []
