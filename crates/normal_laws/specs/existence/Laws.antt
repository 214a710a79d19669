-- The law that every legal program has a normal form that shows the same (this project's rule).
use Rattle.std.specs.Prelude.{ℤ, List}
use Rattle.ada_tree.specs.NameList.{AreNames}
use Rattle.ada_static_rules.specs.Refusals.{types_in}
use Rattle.ada_tree.specs.PlainProgram.{PProgram}
use Rattle.ada_tree.specs.WellPlaced.{IsWellPlaced}
use Rattle.syn_event.specs.declared.numbering.Mode.TheVariants.{Original}
use Rattle.syn_event.specs.Legal.{Legal}
use Rattle.run_laws.specs.imitation.Shown.{ShowSame, AllFreeAre}
use Rattle.normal_laws.specs.structure.units.Laws.{numbers_made}
use Rattle.normal_laws.specs.runs.runs.Laws.{opened, IsCalm}
use Rattle.normal_laws.specs.runs.runs.Premises.{IsNormalForm}
use Rattle.normal_laws.specs.runs.forms.Choosing.{choosing}
use Rattle.normal_laws.specs.runs.forms.Normalisable.{numbers_of, made_for, normal_rewrite, IsNormalisable}
use Rattle.task_laws.specs.legal.types.Typed.{IsSmall}
use Rattle.normal_laws.specs.existence.units.Weights.{IsLight}
use Rattle.task_laws.specs.legal.literals.Colours.{coloured}

-- The program is a legal original that the rewriters take: it is well placed, with the names of every program, small enumerations and light bodies.
-- All of this but that it is legal is so of each text that is read within the limit of `run` (`text_laws: normal`).
pub record IsLegalOriginal (p : PProgram) : Type 0 where
  pub legal : Legal p (types_in p) (numbers_of p) Original
  pub placed : IsWellPlaced p
  pub names : AreNames p.names
  pub small : IsSmall (types_in p)
  pub light : IsLight p

-- Such a program is as the law of normal forms asks, with all inputs.
abbrev pub LegalIsNormalisable : Type 0
LegalIsNormalisable = (p : PProgram) → IsLegalOriginal p → (inputs : List (List ℤ)) → IsNormalisable p inputs

-- What is made from it is a normal form of it.
abbrev pub LegalIsNormal : Type 0
LegalIsNormal = (p : PProgram) → IsLegalOriginal p → (inputs : List (List ℤ)) → IsNormalForm (normal_rewrite p inputs)

-- It shows the same as its normal form, whatever the inputs.
abbrev pub LegalShowsSame : Type 0
LegalShowsSame =
    (p : PProgram) → IsLegalOriginal p → (inputs : List (List ℤ)) →
    ShowSame (opened (record { program = p; types = types_in p; inputs = inputs }) (numbers_of p))
    (opened (record { program = made_for p; types = types_in (made_for p); inputs = inputs }) (numbers_made p (types_in p) (numbers_of p)))

-- Whatever its normal form does, with whatever inputs, no free task of that stands where the evaluation of a synchronizing statement raises.
abbrev pub LegalIsCalm : Type 0
LegalIsCalm =
    (p : PProgram) → IsLegalOriginal p → (inputs : List (List ℤ)) →
    AllFreeAre IsCalm (opened (record { program = made_for p; types = types_in (made_for p); inputs = inputs }) (numbers_made p (types_in p) (numbers_of p)))

-- Two programs are such ones: one in which a variable chooses a member of an array of tasks, and one with an array of tasks whose index is an enumeration.
abbrev pub IsMet : Type 0
IsMet = IsLegalOriginal choosing × IsLegalOriginal coloured
