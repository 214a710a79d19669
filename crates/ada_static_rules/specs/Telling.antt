-- What an error tells of a program's types.
use Rattle.std.specs.Prelude.{ℕ, Option, Some, None}
use Rattle.ada_static_rules.specs.Refusals.{Refusal, IsFirstRefusal}
use Rattle.ada_tree.specs.PlainProgram.{PProgram}
use Rattle.ada_tree.specs.declared.naming.Span.{Span}
use Rattle.ada_static_rules.specs.declared.errors.TypeError.{TypeError}
use Rattle.ada_static_rules.specs.declared.errors.TypeError.TheVariants.{Unknown, Duplicate, Mismatch, NotStatic, RangeBad, NotVariable, ReadOut, ArgCount, ChoiceBad, ArrayUse, TextUse, NotException, Memory}

-- a refusal by the rule with this number at this place (this project's rule)
abbrev pub refusal : ℕ → Span → Refusal
refusal rule span = record { rule = rule; span = span }

-- the rule and the place that an error tells
abbrev pub refusal_of : TypeError → Option Refusal
refusal_of (Unknown s) = Some (refusal 1 s)
refusal_of (Duplicate s) = Some (refusal 2 s)
refusal_of (Mismatch s) = Some (refusal 3 s)
refusal_of (NotStatic s) = Some (refusal 4 s)
refusal_of (RangeBad s) = Some (refusal 5 s)
refusal_of (NotVariable s) = Some (refusal 6 s)
refusal_of (ReadOut s) = Some (refusal 7 s)
refusal_of (ArgCount s) = Some (refusal 8 s)
refusal_of (ChoiceBad s) = Some (refusal 9 s)
refusal_of (ArrayUse s) = Some (refusal 10 s)
refusal_of (TextUse s) = Some (refusal 11 s)
refusal_of (NotException s) = Some (refusal 12 s)
refusal_of Memory = None

-- the refusal is the first one of the program; of no refusal nothing is said (this project's rule)
abbrev pub IsFirst : PProgram → Option Refusal → Type 0
IsFirst p (Some r) = IsFirstRefusal p r
IsFirst p None = Unit {0}

-- An error but want of memory tells the first refusal of the program.
abbrev pub TellsFirst : PProgram → TypeError → Type 0
TellsFirst p e = IsFirst p (refusal_of e)
