-- The laws of the numbers of a legal program's normal form.
use Rattle.std.specs.Prelude.{◌≡◌}
use Rattle.ada_tree.specs.NameList.{AreNames}
use Rattle.ada_tree.specs.TypeTable.{TypeTable}
use Rattle.ada_tree.specs.PlainProgram.{PProgram}
use Rattle.ada_tree.specs.WellPlaced.{IsWellPlaced}
use Rattle.ada_static_rules.specs.Refusals.{types_in}
use Rattle.syn_event.specs.declared.numbering.Mode.TheVariants.{Original}
use Rattle.syn_event.specs.Numbering.{Numbering}
use Rattle.syn_event.specs.AllNumbers.{all_numbers}
use Rattle.syn_event.specs.Legal.{Legal}
use Rattle.normal_laws.specs.structure.units.Laws.{numbers_made}
use Rattle.normal_laws.specs.structure.numbers.Laws.{NoneIsDed}
use Rattle.normal_laws.specs.runs.forms.Choosing.{choosing}
use Rattle.normal_laws.specs.runs.forms.Normalisable.{numbers_of, made_for}
use Rattle.task_laws.specs.legal.types.Typed.{IsSmall}
use Rattle.task_laws.specs.legal.literals.Colours.{coloured}

-- In a legal original that is well placed no array of tasks is named DED (this project's rule).
abbrev pub NoneLegalIsDed : Type 0
NoneLegalIsDed = (p : PProgram) (types : TypeTable) (numbers : Numbering) → Legal p types numbers Original → IsWellPlaced p → NoneIsDed p

-- the numbers of the normal form of a program, as any program has them, are those that its definition tells (this project's rule)
abbrev pub HasNumbers : PProgram → Type 0
HasNumbers p = all_numbers (types_in (made_for p)) (made_for p) ≡ numbers_made p (types_in p) (numbers_of p)

-- So it is with each legal original that is well placed, has the names of every program, and has small enumerations.
abbrev pub LegalHasNumbers : Type 0
LegalHasNumbers =
    (p : PProgram) (types : TypeTable) (numbers : Numbering) → Legal p types numbers Original → IsWellPlaced p → AreNames p.names → IsSmall (types_in p) → HasNumbers p

-- So it is with two programs that are as the law of legal programs asks: one in which a variable chooses a member of an array of tasks, and one with
-- an array of tasks whose index is an enumeration.
abbrev pub IsMet : Type 0
IsMet = HasNumbers choosing × HasNumbers coloured
