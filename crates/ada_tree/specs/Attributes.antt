-- The attributes of scalar types and subtypes (3.5.5), and the names that every program has with fixed ids.
use Rattle.std.specs.Prelude.{ℕ, Bool, true, false, ◌==◌, if◌then◌else◌}
use Rattle.ada_tree.specs.declared.naming.NameId.{NameId}

-- the two truth values (3.5.3)
abbrev pub false_name : ℕ
false_name = 4

-- the id of the name TRUE (3.5.3)
abbrev pub true_name : ℕ
true_name = 5

-- an attribute, or none where the word is none
pub data Attribute : Type 0 where
  First : Attribute
  Last : Attribute
  Pos : Attribute
  Val : Attribute
  Succ : Attribute
  Pred : Attribute
  Image : Attribute
  NoAttribute : Attribute

-- the attribute that a name stands for, by its fixed id; none where the name is no attribute's (3.5.5)
abbrev pub attribute_of : NameId → Attribute
attribute_of id =
    if id.0 == 18 then First
    else if id.0 == 19 then Last
    else if id.0 == 20 then Pos
    else if id.0 == 21 then Val
    else if id.0 == 22 then Succ
    else if id.0 == 23 then Pred
    else if id.0 == 24 then Image
    else NoAttribute

-- 'FIRST and 'LAST have no argument
abbrev pub is_bound : Attribute → Bool
is_bound First = true
is_bound Last = true
is_bound _ = false

-- all others have one
abbrev pub is_function : Attribute → Bool
is_function Pos = true
is_function Val = true
is_function Succ = true
is_function Pred = true
is_function Image = true
is_function _ = false

-- 'IMAGE gives a text, all others a value
abbrev pub is_image : Attribute → Bool
is_image Image = true
is_image _ = false
