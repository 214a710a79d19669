-- The forms in memory: files in a list, an output of a fixed room, and a list of choices (this project's rule).
use Rattle.std.specs.Prelude.{ℕ, ◌+◌, List, [], ◌∷◌, ◌++◌, Bool, not, ◌&&◌, ◌||◌, length, nat_eq, nat_le, is_none, if◌then◌else◌}
use Rattle.std.specs.List.{list_any}
use Rattle.ded_io.specs.Counts.{one_more}
use Rattle.ded_io.specs.Told.{ToldFile, file_bytes}

-- files in memory: the files, the numbers of the calls that fail, the calls so far and the faults so far
pub record StoredFiles : Type 0 where
  pub files : List ToldFile
  pub failing : List ℕ
  pub calls : ℕ
  pub faults : ℕ

-- an output in memory: its bytes, the numbers of the calls that fail, its room in bytes, the calls so far and the faults so far
pub record StoredOutput : Type 0 where
  pub bytes : List ℕ
  pub failing : List ℕ
  pub room : ℕ
  pub calls : ℕ
  pub faults : ℕ

-- the call behind so many, which are counted from 1, is one of those that fail
abbrev pub is_failing : List ℕ → ℕ → Bool
is_failing failing calls = list_any (λ number. nat_eq number (one_more calls)) failing

-- the next load has a fault: its name is there, and its call is one that fails
abbrev pub has_fault : StoredFiles → List ℕ → Bool
has_fault stored name = not (is_none (file_bytes stored.files name)) && is_failing stored.failing stored.calls

-- the next load fails: its name is not there, or its call is one that fails
abbrev pub refuses : StoredFiles → List ℕ → Bool
refuses stored name = is_none (file_bytes stored.files name) || is_failing stored.failing stored.calls

-- the files behind a load of this name: the call is counted, and its fault where it has one
abbrev pub behind_load : StoredFiles → List ℕ → StoredFiles
behind_load stored name =
    record stored {
      calls = one_more stored.calls;
      faults = if has_fault stored name then one_more stored.faults else stored.faults;
    }

-- the next put is taken: its call is none that fails, and the room is enough
abbrev pub takes : StoredOutput → List ℕ → Bool
takes stored bytes = not (is_failing stored.failing stored.calls) && nat_le (length stored.bytes + length bytes) stored.room

-- the output behind a put: the call is counted, and the bytes are appended, or a fault is counted
abbrev pub behind_put : StoredOutput → List ℕ → StoredOutput
behind_put stored bytes =
    record stored {
      bytes = if takes stored bytes then stored.bytes ++ bytes else stored.bytes;
      calls = one_more stored.calls;
      faults = if takes stored bytes then stored.faults else one_more stored.faults;
    }

-- the next number of a list of choices, and 0 behind its end
abbrev pub first_choice : List ℕ → ℕ
first_choice [] = 0
first_choice (number ∷ rest) = number

-- the choices behind the next one
abbrev pub behind_choice : List ℕ → List ℕ
behind_choice [] = []
behind_choice (number ∷ rest) = rest
