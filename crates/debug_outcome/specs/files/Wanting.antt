-- Which files are loaded for what is asked, and how many bytes each may have (this project's rules).
use Rattle.std.specs.Prelude.{ℕ, List, [], ◌∷◌, ◌++◌, Option}
use Rattle.debug_outcome.specs.words.Words.{Asked, AsksPrint, AsksCheck, AsksRun, AsksJudge, AsksReplay, AsksRequire, AsksMigrate, AsksVariants, AsksContinue, AsksCollect, AsksCollectRun, AsksLoad, ChoiceSource, NoChoices, ChoicesIn, ChoicesBy}
use Rattle.debug_outcome.specs.Loads.{file_named, files_named}
use Rattle.debug_outcome.specs.Traces.{Wanted}

-- a program that is printed or run has at most so many bytes, and so has a replay text that is written (this project's limit)
abbrev pub text_limit : ℕ
text_limit = 33554432

-- an original, which is a program that is given to any other command, has at most so many bytes (this project's limit)
abbrev pub original_bytes : ℕ
original_bytes = 1048576

-- a file of inputs has at most so many bytes (this project's limit)
abbrev pub inputs_limit : ℕ
inputs_limit = 4194304

-- a file of a sequence has at most so many bytes (this project's limit)
abbrev pub sequence_limit : ℕ
sequence_limit = 16777216

-- a file of choices has at most so many bytes (this project's limit)
abbrev pub choices_limit : ℕ
choices_limit = 16777216

-- a file of constraints has at most so many bytes (this project's limit)
abbrev pub constraints_limit : ℕ
constraints_limit = 262144

-- choices may stand in a file
abbrev pub choice_files : ChoiceSource → List Wanted
choice_files NoChoices = []
choice_files (ChoicesIn name) = file_named name choices_limit ∷ []
choice_files (ChoicesBy seed) = []

-- a program, and the inputs of its tasks where they are named
abbrev pub start_files : List ℕ → ℕ → Option (List ℕ) → List Wanted
start_files file limit inputs = file_named file limit ∷ files_named inputs inputs_limit

-- the files of a run: the program, the inputs of its tasks where they are named, and the choices where they stand in a file
abbrev pub run_files : List ℕ → Option (List ℕ) → ChoiceSource → List Wanted
run_files file inputs choices = start_files file text_limit inputs ++ choice_files choices

-- the same of the run of a collecting text: the program is an original
abbrev pub collect_files : List ℕ → Option (List ℕ) → ChoiceSource → List Wanted
collect_files file inputs choices = start_files file original_bytes inputs ++ choice_files choices

-- the files of a judgement: the original, the inputs of its tasks where they are named, and the sequence
abbrev pub judge_files : List ℕ → Option (List ℕ) → List ℕ → List Wanted
judge_files file inputs sequence = start_files file original_bytes inputs ++ (file_named sequence sequence_limit ∷ [])

abbrev pub replay_files : List ℕ → List ℕ → List Wanted
replay_files file sequence = file_named file original_bytes ∷ file_named sequence sequence_limit ∷ []

-- the original, the sequence and the constraints
abbrev pub require_files : List ℕ → List ℕ → List ℕ → List Wanted
require_files file sequence constraints = replay_files file sequence ++ (file_named constraints constraints_limit ∷ [])

-- the files of a judgement, and the choices where they stand in a file
abbrev pub continue_files : List ℕ → Option (List ℕ) → List ℕ → ChoiceSource → List Wanted
continue_files file inputs sequence choices = judge_files file inputs sequence ++ choice_files choices

-- The files that are loaded for what is asked, in the order of the words.
abbrev pub wanted_by : Asked → List Wanted
wanted_by (AsksPrint file) = file_named file text_limit ∷ []
wanted_by (AsksCheck file) = file_named file original_bytes ∷ []
wanted_by (AsksRun file inputs choices turns) = run_files file inputs choices
wanted_by (AsksJudge file inputs sequence bound) = judge_files file inputs sequence
wanted_by (AsksReplay file sequence) = replay_files file sequence
wanted_by (AsksRequire file sequence constraints) = require_files file sequence constraints
wanted_by (AsksMigrate file sequence) = replay_files file sequence
wanted_by (AsksVariants file inputs sequence bound) = judge_files file inputs sequence
wanted_by (AsksContinue file inputs sequence choices count bound) = continue_files file inputs sequence choices
wanted_by (AsksCollect file) = file_named file original_bytes ∷ []
wanted_by (AsksCollectRun file inputs choices turns) = collect_files file inputs choices
wanted_by (AsksLoad n) = []
