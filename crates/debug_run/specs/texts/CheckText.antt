-- The text of a program's numbers (this project's format).
use Rattle.std.specs.Prelude.{ℕ, ℤ, ◌+◌, Bool, true, false, List, [], codes, decimal}
use Rattle.std.specs.Fmt.{signed_decimal}
use Rattle.ded_io.specs.Written.{◌⧺◌}
use Rattle.syn_event.specs.declared.numbering.EntryInfo.{EntryInfo}
use Rattle.syn_event.specs.declared.numbering.TaskInfo.{TaskInfo}
use Rattle.syn_event.specs.Numbering.{Numbering}
use Rattle.syn_event.specs.DeclaredTasks.{text_of}
use Rattle.debug_run.specs.texts.RunText.{counts, task_lines, lines_at}

-- the first and the last index of a family; a plain entry has none
abbrev pub family_text : Bool → ℤ → ℤ → List ℕ
family_text true first last = codes " " ⧺ (signed_decimal first ⧺ (codes " " ⧺ signed_decimal last))
family_text false first last = []

-- an entry's number, that of the task that owns it, its name, and what indices it has
abbrev pub entry_line : List (List ℕ) → ℕ → EntryInfo → List ℕ
entry_line names e info =
    codes "entry " ⧺ (decimal e ⧺ (codes " " ⧺ (decimal info.owner ⧺ (codes " " ⧺ (text_of names info.name ⧺ (family_text info.family info.first info.last ⧺ codes "\n"))))))

-- the lines of all entries; the first one has the number 1
abbrev pub entry_lines : List (List ℕ) → List EntryInfo → List ℕ
entry_lines names entries = lines_at (λ place info. entry_line names (place + 1) info) 0 entries

-- the words that the text begins with; they stay shut, so that they do not compute away
unfoldable pub check_words : List ℕ
check_words = codes "ded-check 1 "

-- the name of the program and how many tasks beside main and entries it has
abbrev pub check_header : List (List ℕ) → Numbering → List ℕ
check_header names numbers = check_words ⧺ counts names numbers

-- the lines of all tasks, and then those of all entries
abbrev pub number_lines : List (List ℕ) → List TaskInfo → List EntryInfo → List ℕ
number_lines names tasks entries = task_lines names tasks ⧺ entry_lines names entries

-- The text of the numbers of a program: its name and how many tasks beside main and entries it has, its tasks from 0, and its entries from 1.
abbrev pub check_text : List (List ℕ) → Numbering → List ℕ
check_text names numbers = check_header names numbers ⧺ number_lines names numbers.tasks numbers.entries
