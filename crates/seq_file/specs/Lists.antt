-- Sequence files by tasks: for each task the events that touch it (this project's format, number 2).
use Rattle.std.specs.Prelude.{◌≡◌, ◌≤◌, ◌<◌, ◌+◌, ◌==◌, ℕ, Bool, true, false, not, ◌&&◌, nat_lt, nat_eq, bytes_eq, List, [], ◌∷◌, ◌++◌, length, codes, decimal, All, ◌⊎◌, Option, Some, None, is_some, option_and_then, if◌then◌else◌}
use Rattle.std.specs.Option.{option_map_or}
use Rattle.std.specs.List.{sum_by, starts_with}
use Rattle.ded_io.specs.Written.{◌⧺◌, each_text}
use Rattle.event_machine.specs.declared.Event.{Event}
use Rattle.syn_event.specs.Numbering.{Numbering, original_tasks, original_entries}
use Rattle.syn_event.specs.DeclaredTasks.{text_of}
use Rattle.seq_file.specs.text_lines.Lines.{first_line, words_of}
use Rattle.seq_file.specs.text_lines.Numerals.{natural}
use Rattle.seq_file.specs.declared.errors.SeqError.{SeqError}
use Rattle.seq_file.specs.declared.errors.SeqError.TheVariants.{BadLine, AfterEnd, TooMany}
use Rattle.seq_file.specs.Lines.{header_of_format, event_of_line}
use Rattle.seq_file.specs.Known.{is_known}
use Rattle.seq_file.specs.Files.{header_end, event_line, has_ended, NothingFollowsEnd, fault_of_header, fault_of_event}

-- ---- texts

-- a file has at most this many event lines (this project's limit)
abbrev pub most_listed : ℕ
most_listed = 700000

-- the bytes begin as a file by tasks does, and are read as one
abbrev pub is_in_lists : List ℕ → Bool
is_in_lists bytes = starts_with nat_eq bytes (codes "ded-seq 2 ")

-- the first line: the format, the name of the program, and how many tasks beside main and entries the original has
abbrev pub list_header_line : List (List ℕ) → Numbering → List ℕ
list_header_line names numbers = codes "ded-seq 2 " ⧺ header_end names numbers

-- the line that begins the list of a task, with the word that says how many event lines follow
abbrev pub task_line : ℕ → List ℕ → List ℕ
task_line task count = codes "task " ⧺ (decimal task ⧺ (codes " " ⧺ (count ⧺ codes "\n")))

-- the list of a task: its line with the number of its events, then one line for each event, in order
abbrev pub list_text : ℕ → List Event → List ℕ
list_text task events = task_line task (decimal (length events)) ⧺ each_text event_line events

-- the lists of the tasks from this one on
abbrev pub lists_text : ℕ → List (List Event) → List ℕ
lists_text task [] = []
lists_text task (events ∷ lists) = list_text task events ⧺ lists_text (task + 1) lists

-- The text of lists: the header, then the list of each task from 0.
abbrev pub ListText : List (List ℕ) → Numbering → List (List Event) → List ℕ
ListText names numbers lists = list_header_line names numbers ⧺ lists_text 0 lists

-- ---- reading

-- how many lists a file has: one for main and one for each other task of the original
abbrev pub list_count : Numbering → ℕ
list_count numbers = original_tasks numbers + 1

-- how many event lines lists have
abbrev pub listed : List (List Event) → ℕ
listed lists = sum_by length lists

-- the events may stand in one list, but for their number
pub record IsListFit (numbers : Numbering) (events : List Event) : Type 0 where
  -- every number is one that the program has
  pub known : All (λ event. is_known numbers event ≡ true) events
  pub end : NothingFollowsEnd events

-- the lists may stand in a file of a program with these numbers
pub record AreListsFit (numbers : Numbering) (lists : List (List Event)) : Type 0 where
  pub count : length lists ≡ list_count numbers
  pub each : All (IsListFit numbers) lists
  pub few : listed lists ≤ most_listed

-- The bytes are a file of these lists: they are the text of the lists, and the lists may stand in a file.
pub record ListReads (bytes : List ℕ) (numbers : Numbering) (names : List (List ℕ)) (lists : List (List Event)) : Type 0 where
  pub text : bytes ≡ ListText names numbers lists
  pub fit : AreListsFit numbers lists

-- ---- faults

-- the fault of the first line of a file, if it has one: it is in the grammar, and names the program and the original's counts
abbrev pub list_header_fault : List (List ℕ) → Numbering → List ℕ → Option SeqError
list_header_fault names numbers bytes =
    fault_of_header (text_of names numbers.main) (original_tasks numbers) (original_entries numbers)
    (option_and_then (λ line. header_of_format (codes "2") (words_of line)) (first_line bytes))

-- the word writes this number
abbrev pub writes_number : ℕ → List ℕ → Bool
writes_number n word = option_map_or (λ m. m == n) (natural word) false

-- how many event lines the words of a line ask for, where they begin the list of this task
abbrev pub asked_by_words : ℕ → List (List ℕ) → Option ℕ
asked_by_words task (word ∷ number ∷ count ∷ []) =
    if bytes_eq word (codes "task") && writes_number task number then natural count else None
asked_by_words task _ = None

-- how many event lines, of any number, a line asks for, where it begins the list of this task
abbrev pub asked_by_line : ℕ → List ℕ → Option ℕ
asked_by_line task line = asked_by_words task (words_of line)

-- the rest of a file begins with the line of this task's list
abbrev pub begins_list : ℕ → List ℕ → Bool
begins_list task rest = is_some (option_and_then (asked_by_line task) (first_line rest))

-- The fault of the rest of a file behind whole lists, if it has one, given how many lists there should be and are, whether the last of them
-- ends with Z, and the number of the next line: another line where the next list should begin, the file's early end, or a line behind the last list.
abbrev pub next_list_fault : ℕ → ℕ → Bool → ℕ → List ℕ → Option SeqError
next_list_fault count task ended line rest =
    if nat_lt task count
    then (if begins_list task rest then None
    else (if ended && not (length rest == 0) then Some (AfterEnd line) else Some (BadLine line)))
    else (if length rest == 0 then None else Some (AfterEnd line))

-- The fault of the rest of a file where the list of a task has fewer events than its line asks for, if it has one, given whether Z is among them,
-- how many events all lists have, and the number of the next line: the file's early end, the next list's line or another line behind Z, one event
-- too many, or the fault of the line as an event's.
abbrev pub next_event_fault : Numbering → ℕ → Bool → ℕ → ℕ → List ℕ → Option SeqError
next_event_fault numbers task ended before line rest =
    if length rest == 0 then Some (BadLine line)
    else (if ended
    then (if nat_lt (task + 1) (list_count numbers) && begins_list (task + 1) rest then Some (BadLine line) else Some (AfterEnd line))
    else (if nat_lt before most_listed then fault_of_event numbers line (option_and_then event_of_line (first_line rest))
    else Some (TooMany most_listed)))

-- the last of the lists has Z, or what is given where there is none
abbrev pub last_ended : Bool → List (List Event) → Bool
last_ended ended [] = ended
last_ended ended (events ∷ lists) = last_ended (has_ended events) lists

-- the number of the line behind the header and whole lists
abbrev pub line_behind : List (List Event) → ℕ
line_behind lists = length lists + listed lists + 2

-- the bytes begin with whole lists that may stand in a file, and no more than these, and these bytes are left
pub record IsBehindLists (bytes : List ℕ) (numbers : Numbering) (names : List (List ℕ)) (lists : List (List Event)) (rest : List ℕ) : Type 0 where
  pub text : bytes ≡ ListText names numbers lists ++ rest
  pub count : length lists ≤ list_count numbers
  pub each : All (IsListFit numbers) lists
  pub few : listed lists ≤ most_listed

-- the bytes begin a list, whose line asks for so many events: they go on with these, which are fewer, and these bytes are left
pub record IsInList (numbers : Numbering) (task before : ℕ) (bytes : List ℕ) (asked : ℕ) (events : List Event) (rest : List ℕ) : Type 0 where
  pub word : List ℕ
  pub text : bytes ≡ task_line task word ++ (each_text event_line events ++ rest)
  pub asks : natural word ≡ Some asked
  pub more : length events < asked
  pub fit : IsListFit numbers events
  pub few : before + length events ≤ most_listed

-- the file has this fault behind whole lists
pub record FailsBehindLists (bytes : List ℕ) (numbers : Numbering) (names : List (List ℕ)) (error : SeqError) : Type 0 where
  pub lists : List (List Event)
  pub rest : List ℕ
  pub at : IsBehindLists bytes numbers names lists rest
  pub fault : next_list_fault (list_count numbers) (length lists) (last_ended false lists) (line_behind lists) rest ≡ Some error

-- the file has this fault within the list behind whole ones
pub record FailsInList (bytes : List ℕ) (numbers : Numbering) (names : List (List ℕ)) (error : SeqError) : Type 0 where
  pub lists : List (List Event)
  pub list : List ℕ
  pub asked : ℕ
  pub events : List Event
  pub rest : List ℕ
  pub behind : IsBehindLists bytes numbers names lists list
  pub next : length lists < list_count numbers
  pub at : IsInList numbers (length lists) (listed lists) list asked events rest
  pub fault :
      next_event_fault numbers (length lists) (has_ended events) (listed lists + length events) (line_behind lists + length events + 1) rest
      ≡ Some error

-- The first fault of a file is this one: its header's, or it stands behind whole lists, or within a list.
abbrev pub HasFirstListFault : List ℕ → Numbering → List (List ℕ) → SeqError → Type 0
HasFirstListFault bytes numbers names error =
    (list_header_fault names numbers bytes ≡ Some error) ⊎ (FailsBehindLists bytes numbers names error ⊎ FailsInList bytes numbers names error)
