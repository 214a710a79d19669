-- What a PUT comes to: its text is written, or an exception is raised in its place (14.3).
use Rattle.std.specs.Prelude.{ℕ, if◌then◌else◌, List, [], ◌++◌, Option, Some, None, Result, Ok, Err}
use Rattle.ada_tree.specs.PlainExpr.{PExpr, EInteger, EName, EIndex, EAttribute, EAttributeOf, EParen, EUnary, EBinary}
use Rattle.ada_tree.specs.Attributes.{attribute_of, is_image}
use Rattle.ada_value.specs.declared.values.Raised.{Raised}

-- the exception that is raised, if one is (11.4.1)
abbrev pub exception_of : {A : Type 0} → Result A Raised → Option Raised
exception_of (Ok a) = None
exception_of (Err x) = Some x

-- a text; none where an exception is raised
abbrev pub text_or_none : Result (List ℕ) Raised → List ℕ
text_or_none (Ok text) = text
text_or_none (Err x) = []

-- What is written: a text with a closing behind it, and nothing where an exception is raised, since all parts of a PUT are evaluated before any of them is written (this project's rule).
abbrev pub written_with : List ℕ → Result (List ℕ) Raised → List ℕ
written_with closing (Ok text) = text ++ closing
written_with closing (Err x) = []

-- the argument of an 'IMAGE, if an expression is one (3.5.5)
abbrev pub image_part : PExpr → Option PExpr
image_part (EInteger n s) = None
image_part (EName id s) = None
image_part (EIndex w e s) = None
image_part (EAttribute m w s) = None
image_part (EAttributeOf m w e s) = if is_image (attribute_of w.name) then Some e else None
image_part (EParen e s) = None
image_part (EUnary op e s) = None
image_part (EBinary op l r s) = None
