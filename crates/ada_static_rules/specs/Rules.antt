-- The numbers of the rules.
use Rattle.std.specs.Prelude.{ℕ}
use Rattle.ada_static_rules.specs.declared.refusals.Rule.{Rule}
use Rattle.ada_static_rules.specs.declared.refusals.Rule.TheVariants.{Unknown, Duplicate, Mismatch, NotStatic, RangeBad, NotVariable, ReadOut, ArgCount, ChoiceBad, ArrayUse, TextUse, NotException}

abbrev pub number_of : Rule → ℕ
number_of Unknown = 1
number_of Duplicate = 2
number_of Mismatch = 3
number_of NotStatic = 4
number_of RangeBad = 5
number_of NotVariable = 6
number_of ReadOut = 7
number_of ArgCount = 8
number_of ChoiceBad = 9
number_of ArrayUse = 10
number_of TextUse = 11
number_of NotException = 12
