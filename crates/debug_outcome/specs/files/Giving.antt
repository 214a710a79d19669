-- What the files of a command give: their bytes in order, and the choices (this project's rules).
use Rattle.std.specs.Prelude.{◌≡◌, ◌<◌, ◌≤◌, ◌-◌, ◌^◌, ℕ, List, [], ◌∷◌, ◌++◌, length, Option, option_map, option_to_list, IfSome, ⊤}
use Rattle.debug_outcome.specs.words.Words.{ChoiceSource, NoChoices, ChoicesIn, ChoicesBy}
use Rattle.debug_outcome.specs.declared.files.loading.ChoiceBytes.{ChoiceBytes}
use Rattle.debug_outcome.specs.declared.files.loading.ChoiceBytes.TheVariants.{Empty, In, Seeded}
use Rattle.debug_outcome.specs.declared.files.loading.StartFiles.{StartFiles}
use Rattle.debug_outcome.specs.declared.files.loading.RunFiles.{RunFiles}
use Rattle.debug_outcome.specs.declared.files.loading.JudgeFiles.{JudgeFiles}
use Rattle.debug_outcome.specs.declared.files.loading.ReplayFiles.{ReplayFiles}
use Rattle.debug_outcome.specs.declared.files.loading.RequireFiles.{RequireFiles}
use Rattle.debug_outcome.specs.declared.files.loading.ContinueFiles.{ContinueFiles}
use Rattle.debug_outcome.specs.files.Wanting.{original_bytes}

-- The choices of a run, or of going on, before any of their lines is read.
pub data Given : Type 0 where
  -- an empty list of choices
  NothingGiven : Given
  -- the bytes of a file of choices
  BytesGiven : List ℕ → Given
  -- the seed of a generator
  SeedGiven : ℕ → Given

-- choices that the words name come from where they say
abbrev pub IsGivenBy : ChoiceSource → Given → Type 0
IsGivenBy NoChoices given = given ≡ NothingGiven
IsGivenBy (ChoicesIn name) given = (bytes : List ℕ) × (given ≡ BytesGiven bytes)
IsGivenBy (ChoicesBy seed) given = given ≡ SeedGiven seed

-- the bytes of the file in which they stand, if they stand in one
abbrev pub given_bytes : Given → List (List ℕ)
given_bytes NothingGiven = []
given_bytes (BytesGiven bytes) = bytes ∷ []
given_bytes (SeedGiven seed) = []

abbrev pub given_as : ChoiceBytes → Given
given_as Empty = NothingGiven
given_as (In bytes) = BytesGiven bytes.items
given_as (Seeded seed) = SeedGiven seed

-- the bytes of a file that need not be named
abbrev pub inputs_in : StartFiles → Option (List ℕ)
inputs_in start = option_map (λ v. v.items) start.inputs

-- the bytes of the files, in the order of the words
abbrev pub start_contents : StartFiles → List (List ℕ)
start_contents start = start.text.items ∷ option_to_list (inputs_in start)

abbrev pub run_contents : RunFiles → List (List ℕ)
run_contents files = start_contents files.start ++ given_bytes (given_as files.choices)

abbrev pub judge_contents : JudgeFiles → List (List ℕ)
judge_contents files = start_contents files.start ++ (files.sequence.items ∷ [])

abbrev pub replay_contents : ReplayFiles → List (List ℕ)
replay_contents files = files.text.items ∷ files.sequence.items ∷ []

abbrev pub require_contents : RequireFiles → List (List ℕ)
require_contents files = replay_contents files.sequenced ++ (files.constraints.items ∷ [])

abbrev pub continue_contents : ContinueFiles → List (List ℕ)
continue_contents files = judge_contents files.judged ++ given_bytes (given_as files.choices)

-- there are few enough bytes that each place in them is a number of 32 bits
abbrev pub IsShort : List ℕ → Type 0
IsShort bytes = length bytes < 2 ^ 32 - 1

abbrev pub IsShortStart : StartFiles → Type 0
IsShortStart start = IsShort start.text.items × IfSome (inputs_in start) IsShort

abbrev pub AreShortChoices : ChoiceBytes → Type 0
AreShortChoices Empty = ⊤
AreShortChoices (In bytes) = IsShort bytes.items
AreShortChoices (Seeded seed) = ⊤

abbrev pub IsShortRun : RunFiles → Type 0
IsShortRun files = IsShortStart files.start × AreShortChoices files.choices

-- an original that is collected has no more bytes than one may have
abbrev pub IsShortCollect : RunFiles → Type 0
IsShortCollect files = (length files.start.text.items ≤ original_bytes) × IsShortRun files

abbrev pub IsShortJudge : JudgeFiles → Type 0
IsShortJudge files = IsShortStart files.start × IsShort files.sequence.items

-- an original that is replayed has no more bytes than one may have
abbrev pub IsShortReplay : ReplayFiles → Type 0
IsShortReplay files = (length files.text.items ≤ original_bytes) × IsShort files.sequence.items

abbrev pub IsShortRequire : RequireFiles → Type 0
IsShortRequire files = IsShortReplay files.sequenced × IsShort files.constraints.items

abbrev pub IsShortContinue : ContinueFiles → Type 0
IsShortContinue files = IsShortJudge files.judged × AreShortChoices files.choices
