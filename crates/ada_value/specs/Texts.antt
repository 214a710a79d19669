-- What PUT writes (14.3; this project's rule for widths): the text of integers, of 'IMAGE (3.5.5) and of the parts of a PUT.
use Rattle.std.specs.Prelude.{ℕ, ℤ, pos, negsuc, if◌then◌else◌, List, [], ◌∷◌, ◌++◌, suc, codes, decimal, slice_get, Option, Some, None, unwrap_or, Result, Ok}
use Rattle.ada_tree.specs.declared.naming.NameId.{NameId}
use Rattle.ada_tree.specs.declared.static_types.Kind.{Kind}
use Rattle.ada_tree.specs.declared.static_types.Kind.TheVariants as kind
use Rattle.ada_tree.specs.TypeTable.{TypeTable}
use Rattle.ada_tree.specs.PlainExpr.{PExpr, EAttributeOf}
use Rattle.ada_tree.specs.PlainStmt.{PPart, PWords, PValue}
use Rattle.ada_tree.specs.Attributes.{attribute_of, is_image}
use Rattle.ada_value.specs.declared.values.Value.{Value}
use Rattle.ada_value.specs.declared.values.Value.TheVariants.{Number, Truth, Place}
use Rattle.ada_value.specs.declared.values.Raised.{Raised}
use Rattle.ada_value.specs.Values.{and_then, position_of}
use Rattle.ada_value.specs.Variables.{Variables}
use Rattle.ada_value.specs.Evaluating.{evaluated}

-- The text of an integer by PUT: its shortest decimal text (this project's rule: as if WIDTH => 0 were given).
abbrev pub integer_text : ℤ → List ℕ
integer_text (pos n) = decimal n
integer_text (negsuc n) = codes "-" ++ decimal (suc n)

-- 'IMAGE of an integer: a blank before one that is not negative (3.5.5)
abbrev pub integer_image : ℤ → List ℕ
integer_image (pos n) = codes " " ++ decimal n
integer_image (negsuc n) = codes "-" ++ decimal (suc n)

-- the text of a name; none where there is none
abbrev pub name_text : List (List ℕ) → Option NameId → List ℕ
name_text names None = []
name_text names (Some id) = unwrap_or (slice_get names id.0) []

-- the name of the literal of a kind at a position; a kind without literals has none
abbrev pub literal_text : List (List ℕ) → Option Kind → ℕ → List ℕ
literal_text names (Some (kind.Enumeration literals)) n = name_text names (slice_get literals n)
literal_text names _ n = []

-- 'IMAGE of a value: of an enumeration literal its name in upper case (3.5.5).
abbrev pub image : List (List ℕ) → TypeTable → Value → List ℕ
image names types (Number z) = integer_image z
image names types (Truth b) = if b then codes "TRUE" else codes "FALSE"
image names types (Place k n) = literal_text names (slice_get types.kinds k) n

-- the text of an expression as a part: that of an 'IMAGE, and else of an integer
abbrev pub expr_output : List (List ℕ) → TypeTable → Variables → PExpr → Result (List ℕ) Raised
expr_output names types vars (EAttributeOf m w e s) =
    if is_image (attribute_of w.name)
    then and_then (evaluated types vars e) (λ v. Ok (image names types v))
    else and_then (evaluated types vars (EAttributeOf m w e s)) (λ v. Ok (integer_text (position_of v)))
expr_output names types vars e = and_then (evaluated types vars e) (λ v. Ok (integer_text (position_of v)))

-- the text of a part: its own words, or that of its value
abbrev pub part_output : List (List ℕ) → TypeTable → Variables → PPart → Result (List ℕ) Raised
part_output names types vars (PWords text s) = Ok text
part_output names types vars (PValue e) = expr_output names types vars e

-- The text of the parts of a PUT, which are all evaluated, in order, before any of them is written (this project's rule).
abbrev pub parts_output : List (List ℕ) → TypeTable → Variables → List PPart → Result (List ℕ) Raised
parts_output names types vars [] = Ok []
parts_output names types vars (x ∷ rest) = and_then (part_output names types vars x) (λ a. and_then (parts_output names types vars rest) (λ b. Ok (a ++ b)))
