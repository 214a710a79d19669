-- The inputs of all tasks as the reader keeps them, by the number of the task.
use Rattle.std.specs.Prelude.{◌≡◌, ◌<◌, ◌^◌, ℕ, false, List, length, map, slice_index_or}
use Rattle.seq_file.specs.text_lines.Capped.{capped}
use Rattle.input_file.specs.declared.table.Line.{Line}
use Rattle.input_file.specs.declared.table.Table.{Table}
use Rattle.input_file.specs.InputFiles.{InputLine, input_with, has_line, input_count, AreListsOf}

-- the table has what the tasks read by these lines
pub record IsTableOf (tasks : ℕ) (lines : List InputLine) (table : Table) : Type 0 where
  pub small : tasks < 2 ^ 32
  pub lists : AreListsOf tasks lines (map (λ v. v.items) table.lists.items)
  pub seen_count : length table.seen.items ≡ tasks
  pub seen : (task : ℕ) → slice_index_or table.seen.items task false ≡ has_line task lines
  pub count : table.count ≡ input_count lines

-- a line as the code keeps it
abbrev pub plain_line : Line → InputLine
plain_line line = input_with line.task line.values.items

-- a line with the number of its task up to the cap
abbrev pub capped_line : InputLine → InputLine
capped_line line = input_with (capped line.task) line.values
