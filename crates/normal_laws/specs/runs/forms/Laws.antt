-- The law of normal forms for a program and the normal form that is made from it (this project's rule).
use Rattle.std.specs.Prelude.{◌≡◌, ℤ, List, [], length}
use Rattle.ada_static_rules.specs.Refusals.{types_in}
use Rattle.ada_tree.specs.PlainProgram.{PProgram}
use Rattle.run_laws.specs.imitation.Shown.{ShowSame, AllFreeAre}
use Rattle.normal_laws.specs.structure.units.Laws.{numbers_made}
use Rattle.normal_laws.specs.runs.runs.Premises.{IsNormalForm}
use Rattle.normal_laws.specs.runs.runs.Example.{example}
use Rattle.normal_laws.specs.runs.runs.Laws.{opened, IsCalm}
use Rattle.normal_laws.specs.runs.forms.Normalisable.{numbers_of, made_for, variables_of, normal_rewrite, IsNormalisable}
use Rattle.normal_laws.specs.runs.forms.Choosing.{choosing}

-- What is made from such a program is a normal form of it.
abbrev pub MadeIsNormal : Type 0
MadeIsNormal = (p : PProgram) (inputs : List (List ℤ)) → IsNormalisable p inputs → IsNormalForm (normal_rewrite p inputs)

-- Such a program and its normal form show the same, whatever the inputs.
abbrev pub ProgramsShowSame : Type 0
ProgramsShowSame =
    (p : PProgram) (inputs : List (List ℤ)) → IsNormalisable p inputs →
    ShowSame (opened (record { program = p; types = types_in p; inputs = inputs }) (numbers_of p))
    (opened (record { program = made_for p; types = types_in (made_for p); inputs = inputs }) (numbers_made p (types_in p) (numbers_of p)))

-- Whatever the normal form of such a program does, with whatever inputs, no free task of it stands where the evaluation of a synchronizing statement raises.
abbrev pub MadeIsCalm : Type 0
MadeIsCalm =
    (p : PProgram) (inputs : List (List ℤ)) → IsNormalisable p inputs →
    AllFreeAre IsCalm (opened (record { program = made_for p; types = types_in (made_for p); inputs = inputs }) (numbers_made p (types_in p) (numbers_of p)))

-- Two programs are as it is asked: one with a family, a guard and an `in out` formal, and one in which a variable chooses a member of an array of
-- tasks, for a call and for an abort. So what is made from the second, which gets two variables, is a normal form of it.
abbrev pub IsMet : Type 0
IsMet = IsNormalisable example [] × IsNormalisable choosing [] × IsNormalForm (normal_rewrite choosing []) × (length (variables_of choosing 0) ≡ 2)
