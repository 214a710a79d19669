-- The loads of a call: which files were asked for, in which order, and with which answers (this project's rule).
use Rattle.std.specs.Prelude.{◌≡◌, ℕ, List, [], ◌∷◌, Some, Result, Ok, Err, IsTrue}
use Rattle.ded_io.specs.Stored.{StoredFiles, refuses, behind_load}
use Rattle.ded_io.specs.Told.{file_bytes, TooLongFor}
use Rattle.ded_io.specs.declared.loading.LoadError.{LoadError}
use Rattle.ded_io.specs.declared.loading.LoadError.TheVariants.{Failed, TooLong, Memory}

-- A file that the words name, of at most so many bytes.
pub record Wanted : Type 0 where
  pub name : List ℕ
  pub limit : ℕ

-- A load: the file that was asked for, and what came of it.
pub record Load : Type 0 where
  pub file : Wanted
  pub answer : Result (List ℕ) LoadError

-- what came of a load, with the bytes as a list
abbrev pub answer_by : {A : Type 0} → (A → List ℕ) → Result A LoadError → Result (List ℕ) LoadError
answer_by bytes (Ok x) = Ok (bytes x)
answer_by bytes (Err e) = Err e

-- the load of this file gave these bytes
abbrev pub gave : Wanted → List ℕ → Load
gave file bytes = record { file = file; answer = Ok bytes }

-- the load of this file failed
abbrev pub failed : Wanted → Load
failed file = record { file = file; answer = Err Failed }

-- the file was longer than its limit
abbrev pub was_longer : Wanted → Load
was_longer file = record { file = file; answer = Err (TooLong file.limit) }

-- Such loads, one behind the other, lead from one state of the files to another.
abbrev pub Led : {F : Type 0} → (F → Load → F → Type 0) → F → List Load → F → Type 0
Led leads old [] new = new ≡ old
Led {F} leads old (load ∷ loads) new = (between : F) × leads old load between × Led leads between loads new

-- These are all loads that were made between two states of the files, and this is so of them.
pub record HasLoads {F : Type 0} (leads : F → Load → F → Type 0) (old new : F) (IsSo : List Load → Type 0) : Type 0 where
  pub loads : List Load
  pub led : Led leads old loads new
  pub is_so : IsSo loads

-- what a load of files in memory says by its answer: a failure that it had to fail, bytes that they are the file's
abbrev pub StoredAnswer : StoredFiles → Wanted → Result (List ℕ) LoadError → Type 0
StoredAnswer stored file (Ok bytes) = file_bytes stored.files file.name ≡ Some bytes
StoredAnswer stored file (Err Failed) = IsTrue (refuses stored file.name)
StoredAnswer stored file (Err (TooLong limit)) = TooLongFor (Some stored.files) file.name file.limit (TooLong limit)
StoredAnswer stored file (Err Memory) = Unit {0}

-- A load of files in memory, with the files behind it.
pub record IsStoredLoad (old : StoredFiles) (load : Load) (new : StoredFiles) : Type 0 where
  pub behind : new ≡ behind_load old load.file.name
  pub answered : StoredAnswer old load.file load.answer
