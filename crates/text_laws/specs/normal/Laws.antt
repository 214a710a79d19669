-- The law that each text of a legal program has a normal form that shows the same (this project's rule).
use Rattle.std.specs.Prelude.{ℕ, ℤ, ◌<◌, ◌≤◌, ◌^◌, List, length}
use Rattle.ada_tree.specs.NameList.{AreNames}
use Rattle.ada_static_rules.specs.Refusals.{types_in}
use Rattle.ada_tree.specs.PlainProgram.{PProgram}
use Rattle.ada_parser.specs.Reads.{Reads}
use Rattle.syn_event.specs.declared.numbering.Mode.TheVariants.{Original}
use Rattle.syn_event.specs.Legal.{Legal}
use Rattle.run_laws.specs.imitation.Shown.{ShowSame, AllFreeAre}
use Rattle.normal_model.specs.NormalTree.{variables_needed}
use Rattle.normal_laws.specs.structure.units.Laws.{numbers_made}
use Rattle.normal_laws.specs.runs.runs.Laws.{opened, IsCalm}
use Rattle.normal_laws.specs.runs.runs.Premises.{IsNormalForm}
use Rattle.normal_laws.specs.runs.forms.Normalisable.{numbers_of, setting_for, made_for, normal_rewrite}
use Rattle.normal_laws.specs.existence.Laws.{IsLegalOriginal}
use Rattle.debug_outcome.specs.files.Wanting.{text_limit}
use Rattle.text_laws.specs.normal.Example.{calling_text, calling}

-- The bytes are the text of this program, they are no more than `print` and `run` read, and the program is a legal original.
pub record IsOriginalText (bytes : List ℕ) (p : PProgram) : Type 0 where
  pub reads : Reads bytes p
  pub short : length bytes ≤ text_limit
  pub legal : Legal p (types_in p) (numbers_of p) Original

-- Nothing more is asked of the program: it is as the law of legal programs asks.
abbrev pub TextIsLegal : Type 0
TextIsLegal = (bytes : List ℕ) (p : PProgram) → IsOriginalText bytes p → IsLegalOriginal p

-- So what is made from it is a normal form of it.
abbrev pub TextIsNormal : Type 0
TextIsNormal = (bytes : List ℕ) (p : PProgram) → IsOriginalText bytes p → (inputs : List (List ℤ)) → IsNormalForm (normal_rewrite p inputs)

-- And it shows the same as its normal form, whatever the inputs.
abbrev pub TextShowsSame : Type 0
TextShowsSame =
    (bytes : List ℕ) (p : PProgram) → IsOriginalText bytes p → (inputs : List (List ℤ)) →
    ShowSame (opened (record { program = p; types = types_in p; inputs = inputs }) (numbers_of p))
    (opened (record { program = made_for p; types = types_in (made_for p); inputs = inputs }) (numbers_made p (types_in p) (numbers_of p)))

-- Whatever its normal form does, with whatever inputs, no free task of that stands where the evaluation of a synchronizing statement raises.
abbrev pub TextIsCalm : Type 0
TextIsCalm =
    (bytes : List ℕ) (p : PProgram) → IsOriginalText bytes p → (inputs : List (List ℤ)) →
    AllFreeAre IsCalm (opened (record { program = made_for p; types = types_in (made_for p); inputs = inputs }) (numbers_made p (types_in p) (numbers_of p)))

-- How many names, tasks, entries and added variables there are: fewer than numbers of 32 bits (this project's rule).
pub record HasFewParts (p : PProgram) : Type 0 where
  -- of the program and of its normal form
  pub names : length p.names < 2 ^ 31
  pub made_names : length (made_for p).names < 2 ^ 31
  pub tasks : length (numbers_of p).tasks ≤ 201
  pub entries : length (numbers_of p).entries ≤ 1000
  -- in each unit of the normal form
  pub variables : variables_needed (setting_for p) < 2 ^ 31

-- So few has each original.
abbrev pub TextHasFewParts : Type 0
TextHasFewParts = (bytes : List ℕ) (p : PProgram) → IsOriginalText bytes p → HasFewParts p

-- So its normal form has the names of every program: they begin with the predefined ones, no text of a name has two ids, and each id fits 32 bits.
abbrev pub TextNormalHasNames : Type 0
TextNormalHasNames = (bytes : List ℕ) (p : PProgram) → IsOriginalText bytes p → AreNames (made_for p).names

-- A text with a task and a call is one.
abbrev pub IsMet : Type 0
IsMet = IsOriginalText calling_text calling
