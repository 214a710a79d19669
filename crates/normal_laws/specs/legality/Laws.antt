-- The law that the normal form of each legal program is legal as a text of any kind.
use Rattle.std.specs.Prelude.{◌≤◌, ◌^◌, [], length}
use Rattle.std.specs.List.{AllByRecursion}
use Rattle.ada_tree.specs.NameList.{AreNames}
use Rattle.ada_tree.specs.PlainProgram.{PProgram}
use Rattle.ada_static_rules.specs.Refusals.{types_in, MeetsTypeRules}
use Rattle.ada_static_rules.specs.Sites.{sites}
use Rattle.syn_event.specs.declared.numbering.Mode.TheVariants.{Any}
use Rattle.syn_event.specs.Legal.{Legal}
use Rattle.task_laws.specs.legal.alike_scopes.Laws.{IsMetBut}
use Rattle.normal_laws.specs.structure.units.Laws.{numbers_made}
use Rattle.normal_laws.specs.runs.forms.Choosing.{choosing}
use Rattle.normal_laws.specs.runs.forms.Normalisable.{numbers_of, made_for}
use Rattle.task_laws.specs.legal.literals.Colours.{coloured}
use Rattle.normal_laws.specs.existence.Laws.{IsLegalOriginal}
use Rattle.normal_laws.specs.structure.once.Once.{AllOnce}

-- ---- places

-- each place of the program meets the first twelve rules but for rule Duplicate
abbrev pub MeetsButOnce : PProgram → Type 0
MeetsButOnce p = AllByRecursion IsMetBut (sites p)

-- A program meets the first twelve rules where each of its places meets all of them but rule Duplicate, and that rule refuses nothing (this project's rule).
abbrev pub MeetsByPlaces : Type 0
MeetsByPlaces = (p : PProgram) → MeetsButOnce p → AllOnce [] (sites p) → MeetsTypeRules p

-- If it meets them, then so do its places.
abbrev pub PlacesMeet : Type 0
PlacesMeet = (p : PProgram) → MeetsTypeRules p → MeetsButOnce p × AllOnce [] (sites p)

-- ---- the normal form of a legal program

-- Its names are as those of every program where there are few enough: each id fits 32 bits (this project's rule).
abbrev pub NormalHasNames : Type 0
NormalHasNames = (p : PProgram) → IsLegalOriginal p → length (made_for p).names ≤ 2 ^ 32 → AreNames (made_for p).names

-- Each of its places meets the first twelve rules but for rule Duplicate.
abbrev pub NormalMeetsAtPlaces : Type 0
NormalMeetsAtPlaces = (p : PProgram) → IsLegalOriginal p → MeetsButOnce (made_for p)

-- So it meets the first twelve rules.
abbrev pub NormalMeetsTypes : Type 0
NormalMeetsTypes = (p : PProgram) → IsLegalOriginal p → MeetsTypeRules (made_for p)

-- the normal form of a program is legal as a text of any kind, with its own types, and with the numbers that its definition tells
abbrev pub IsLegalNormal : PProgram → Type 0
IsLegalNormal p = Legal (made_for p) (types_in (made_for p)) (numbers_made p (types_in p) (numbers_of p)) Any

-- It is legal.
abbrev pub NormalIsLegal : Type 0
NormalIsLegal = (p : PProgram) → IsLegalOriginal p → IsLegalNormal p

-- So it is with two programs that are as the law of legal programs asks: one in which a variable chooses a member of an array of tasks, and one with
-- an array of tasks whose index is an enumeration.
abbrev pub IsMet : Type 0
IsMet = IsLegalNormal choosing × IsLegalNormal coloured
