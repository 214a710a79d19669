-- The usages: the words that the program takes (this project's rule).
use Rattle.std.specs.Prelude.{ℕ, ◌+◌, ◌-◌, ◌*◌, Bool, false, not, ◌&&◌, ◌||◌, nat_le, List, [], ◌∷◌, length, drop, nat_eq, Option, Some, None, option_map, option_and_then, if◌then◌else◌, codes, bytes_eq}
use Rattle.std.specs.List.{starts_with}

-- Where the choices of a run, or of going on, come from.
pub data ChoiceSource : Type 0 where
  -- nowhere: an empty list of choices
  NoChoices : ChoiceSource
  -- a file of this name
  ChoicesIn : List ℕ → ChoiceSource
  -- the generator of this seed
  ChoicesBy : ℕ → ChoiceSource

-- What is asked for.
pub data Asked : Type 0 where
  -- the text of the program in a file
  AsksPrint : List ℕ → Asked
  -- checking the program in a file
  AsksCheck : List ℕ → Asked
  -- a run of the program in a file, with the name of a file of inputs if there is one, with choices, and with a number of turns
  AsksRun : List ℕ → Option (List ℕ) → ChoiceSource → ℕ → Asked
  -- judging the sequence in the last file for the program in the first, with the name of a file of inputs if there is one, and with a number of local steps
  AsksJudge : List ℕ → Option (List ℕ) → List ℕ → ℕ → Asked
  -- the replay text of the program in the first file and the sequence in the second
  AsksReplay : List ℕ → List ℕ → Asked
  -- which of the constraints in the third file the sequence in the second breaks, for the program in the first
  AsksRequire : List ℕ → List ℕ → List ℕ → Asked
  -- the sequence in the second file in the other format, for the program in the first
  AsksMigrate : List ℕ → List ℕ → Asked
  -- what else can come at each place of the sequence in the last file, for the program in the first, with inputs and a number of local steps as of judging
  AsksVariants : List ℕ → Option (List ℕ) → List ℕ → ℕ → Asked
  -- going on from the sequence in the second file, for the program in the first, with inputs, choices, a greatest number of events and a number of local steps
  AsksContinue : List ℕ → Option (List ℕ) → List ℕ → ChoiceSource → ℕ → ℕ → Asked
  -- the collecting text of the program in a file
  AsksCollect : List ℕ → Asked
  -- the sequence that a run of the collecting text records, with inputs, choices and a number of turns as of a run
  AsksCollectRun : List ℕ → Option (List ℕ) → ChoiceSource → ℕ → Asked
  -- collecting the events of a run of LOAD with so many producers, judging them and replaying them
  AsksLoad : ℕ → Asked

-- the value of decimal digits behind a value so far
abbrev pub digits_value : ℕ → List ℕ → Option ℕ
digits_value value [] = Some value
digits_value value (digit ∷ digits) =
    if nat_le 48 digit && nat_le digit 57 then digits_value (value * 10 + (digit - 48)) digits else None

-- the digits do not begin with a zero, and there is one
abbrev pub begins_well : List ℕ → Bool
begins_well [] = false
begins_well (digit ∷ digits) = not (nat_eq digit 48)

-- a number up to a greatest one
abbrev pub up_to : ℕ → ℕ → Option ℕ
up_to most n = if nat_le n most then Some n else None

-- a number from 1 to 100,000,000 in decimal without leading zeros, so of at most nine digits
abbrev pub number_of : List ℕ → Option ℕ
number_of word = if begins_well word && nat_le (length word) 9 then option_and_then (up_to 100000000) (digits_value 0 word) else None

-- a number from 1 to 100,000 in decimal without leading zeros, so of at most six digits
abbrev pub count_of : List ℕ → Option ℕ
count_of word = if begins_well word && nat_le (length word) 6 then option_and_then (up_to 100000) (digits_value 0 word) else None

-- a number from 1 to 100 in decimal without leading zeros, so of at most three digits
abbrev pub producers_of : List ℕ → Option ℕ
producers_of word = if begins_well word && nat_le (length word) 3 then option_and_then (up_to 100) (digits_value 0 word) else None

-- the one digit 0
abbrev pub is_zero : List ℕ → Bool
is_zero (digit ∷ []) = nat_eq digit 48
is_zero _ = false

-- a number from 0 to 18,446,744,073,709,551,615 in decimal without leading zeros, so of at most twenty digits
abbrev pub seed_of : List ℕ → Option ℕ
seed_of digits =
    if is_zero digits
    then Some 0
    else (if not (begins_well digits) || not (nat_le (length digits) 20)
    then None
    else option_and_then (up_to 18446744073709551615) (digits_value 0 digits))

-- a word for inputs is the name of a file, or `-` for none
abbrev pub inputs_of : List ℕ → Option (List ℕ)
inputs_of word = if bytes_eq word (codes "-") then None else Some word

-- a word for choices is `-` for none, `seed:` and a number, or the name of a file; a word that begins with `seed:` is no file's name
abbrev pub choice_source : List ℕ → Option ChoiceSource
choice_source word =
    if bytes_eq word (codes "-")
    then Some NoChoices
    else (if starts_with nat_eq word (codes "seed:")
    then option_map ChoicesBy (seed_of (drop 5 word))
    else Some (ChoicesIn word))

-- a run of a file, where the words behind it are inputs, choices and a number of turns
abbrev pub asks_run : List ℕ → List ℕ → List ℕ → List ℕ → Option Asked
asks_run file inputs choices number =
    option_and_then (λ source. option_map (AsksRun file (inputs_of inputs) source) (number_of number)) (choice_source choices)

-- the same of the run of its collecting text
abbrev pub asks_collect_run : List ℕ → List ℕ → List ℕ → List ℕ → Option Asked
asks_collect_run file inputs choices number =
    option_and_then (λ source. option_map (AsksCollectRun file (inputs_of inputs) source) (number_of number)) (choice_source choices)

-- the judging of a file, where the words behind it are inputs, the name of a file of a sequence and a number of local steps
abbrev pub asks_judge : List ℕ → List ℕ → List ℕ → List ℕ → Option Asked
asks_judge file inputs sequence number = option_map (AsksJudge file (inputs_of inputs) sequence) (number_of number)

-- the variants of a sequence, where the words behind the file are as for judging
abbrev pub asks_variants : List ℕ → List ℕ → List ℕ → List ℕ → Option Asked
asks_variants file inputs sequence number = option_map (AsksVariants file (inputs_of inputs) sequence) (number_of number)

-- going on from a sequence: behind the file stand inputs, the name of a file of a sequence, choices, a number of events and a number of local steps
abbrev pub asks_continue : List ℕ → List ℕ → List ℕ → List ℕ → List ℕ → List ℕ → Option Asked
asks_continue file inputs sequence choices count number =
    option_and_then
    (λ source. option_and_then (λ most. option_map (AsksContinue file (inputs_of inputs) sequence source most) (number_of number)) (count_of count))
    (choice_source choices)

-- the usages of two words, where the second is a file's name or a number
abbrev pub asks_of_one : List ℕ → List ℕ → Option Asked
asks_of_one command file =
    if bytes_eq command (codes "print")
    then Some (AsksPrint file)
    else (if bytes_eq command (codes "check")
    then Some (AsksCheck file)
    else (if bytes_eq command (codes "collect")
    then Some (AsksCollect file)
    else (if bytes_eq command (codes "load")
    then option_map AsksLoad (producers_of file)
    else None)))

-- the usages of three words
abbrev pub asks_of_two : List ℕ → List ℕ → List ℕ → Option Asked
asks_of_two command file sequence =
    if bytes_eq command (codes "replay")
    then Some (AsksReplay file sequence)
    else (if bytes_eq command (codes "migrate")
    then Some (AsksMigrate file sequence)
    else None)

-- the usage of four words
abbrev pub asks_of_three : List ℕ → List ℕ → List ℕ → List ℕ → Option Asked
asks_of_three command file sequence constraints =
    if bytes_eq command (codes "require") then Some (AsksRequire file sequence constraints) else None

-- the usages of five words
abbrev pub asks_of_four : List ℕ → List ℕ → List ℕ → List ℕ → List ℕ → Option Asked
asks_of_four command file inputs other number =
    if bytes_eq command (codes "run")
    then asks_run file inputs other number
    else (if bytes_eq command (codes "judge")
    then asks_judge file inputs other number
    else (if bytes_eq command (codes "variants")
    then asks_variants file inputs other number
    else (if bytes_eq command (codes "collect-run")
    then asks_collect_run file inputs other number
    else None)))

-- the usage of seven words
abbrev pub asks_of_six : List ℕ → List ℕ → List ℕ → List ℕ → List ℕ → List ℕ → List ℕ → Option Asked
asks_of_six command file inputs sequence choices count number =
    if bytes_eq command (codes "continue") then asks_continue file inputs sequence choices count number else None

-- print FILE, check FILE, replay FILE SEQUENCE, migrate FILE SEQUENCE, require FILE SEQUENCE CONSTRAINTS, run FILE IN CHOICES TURNS,
-- judge FILE IN SEQUENCE STEPS, variants FILE IN SEQUENCE STEPS, continue FILE IN SEQUENCE CHOICES COUNT STEPS, collect FILE,
-- collect-run FILE IN CHOICES TURNS, and load PRODUCERS
abbrev pub asked_by : List (List ℕ) → Option Asked
asked_by (command ∷ file ∷ []) = asks_of_one command file
asked_by (command ∷ file ∷ sequence ∷ []) = asks_of_two command file sequence
asked_by (command ∷ file ∷ sequence ∷ constraints ∷ []) = asks_of_three command file sequence constraints
asked_by (command ∷ file ∷ inputs ∷ other ∷ number ∷ []) = asks_of_four command file inputs other number
asked_by (command ∷ file ∷ inputs ∷ sequence ∷ choices ∷ count ∷ number ∷ []) = asks_of_six command file inputs sequence choices count number
asked_by _ = None
