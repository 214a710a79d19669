-- Which files a call loads, and what comes of it: the bytes of all, or the refusal of the first that is not loaded (this project's rules).
use Rattle.std.specs.Prelude.{◌≡◌, ◌≤◌, ℕ, List, [], ◌∷◌, length, Option, Some, None, Result, Ok, Err, ◌⊎◌, ⊤}
use Rattle.ded_io.specs.Counts.{Rose}
use Rattle.ded_io.specs.Told.{ToldFile, Gives, Lacks, Longer}
use Rattle.debug_outcome.specs.Coming.{Stops}
use Rattle.debug_outcome.specs.Outcomes.{Outcome, refuses}
use Rattle.debug_outcome.specs.Refusals.{named_line, unread_words}
use Rattle.debug_outcome.specs.Traces.{Wanted, Load, gave, failed, was_longer}
use Rattle.debug_outcome.specs.declared.refusal.Refusal.TheVariants.{TooLong}
use Rattle.debug_outcome.specs.declared.stopping.Stop.{Stop}

-- the file of this name, of at most so many bytes
abbrev pub file_named : List ℕ → ℕ → Wanted
file_named name limit = record { name = name; limit = limit }

-- the same of a name that need not be there; without one there is no file
abbrev pub files_named : Option (List ℕ) → ℕ → List Wanted
files_named None limit = []
files_named (Some name) limit = file_named name limit ∷ []

-- Bytes of the file were loaded, no more than its limit.
pub record WasLoaded (told : Option (List ToldFile)) (file : Wanted) (bytes : List ℕ) : Type 0 where
  pub given : Gives told file.name bytes
  pub within : length bytes ≤ file.limit

-- the refusal of a file that cannot be read
abbrev pub unreadable : List ℕ → Outcome
unreadable name = record { out = []; err = named_line unread_words name; status = 6 }

-- One load was made, that of this file, and it failed since the file is not there or a reading failed.
pub record IsUnread (told : Option (List ToldFile)) (faults faults' : ℕ) (file : Wanted) (loads : List Load) (o : Outcome) : Type 0 where
  pub were : loads ≡ failed file ∷ []
  pub cause : Lacks told file.name ⊎ Rose faults faults'
  pub is : o ≡ unreadable file.name

-- One load was made, that of this file, and the file is longer than its limit.
pub record IsTooLong (told : Option (List ToldFile)) (file : Wanted) (loads : List Load) (o : Outcome) : Type 0 where
  pub were : loads ≡ was_longer file ∷ []
  pub longer : Longer told file.name file.limit
  pub is : o ≡ refuses (TooLong file.limit)

-- the one load that was made did not give the file's bytes, and the outcome tells why
abbrev pub IsUnloaded : Option (List ToldFile) → ℕ → ℕ → Wanted → List Load → Outcome → Type 0
IsUnloaded told faults faults' file loads o = IsUnread told faults faults' file loads o ⊎ IsTooLong told file loads o

-- all files were loaded, and these are their bytes
abbrev pub AreLoaded : Option (List ToldFile) → List Wanted → List (List ℕ) → Type 0
AreLoaded told [] [] = ⊤
AreLoaded told (file ∷ files) (bytes ∷ more) = WasLoaded told file bytes × AreLoaded told files more
AreLoaded told files contents = ⊥

-- the loads by which these files gave these bytes
abbrev pub all_gave : List Wanted → List (List ℕ) → List Load
all_gave (file ∷ files) (bytes ∷ more) = gave file bytes ∷ all_gave files more
all_gave files contents = []

-- All files were loaded with these bytes, and these are the loads that were made.
pub record WereLoaded (told : Option (List ToldFile)) (files : List Wanted) (contents : List (List ℕ)) (loads : List Load) : Type 0 where
  pub are : AreLoaded told files contents
  pub were : loads ≡ all_gave files contents

-- A file was loaded, and so the loads go on behind its own.
pub record WasFirst (told : Option (List ToldFile)) (file : Wanted) (loads : List Load) (Later : List Load → Type 0) : Type 0 where
  pub bytes : List ℕ
  pub loaded : WasLoaded told file bytes
  pub rest : List Load
  pub were : loads ≡ gave file bytes ∷ rest
  pub later : Later rest

-- this is the refusal of the first file that was not loaded; those before it were, and no load was made behind its own
abbrev pub AreUnloaded : Option (List ToldFile) → ℕ → ℕ → List Wanted → List Load → Outcome → Type 0
AreUnloaded told faults faults' [] loads o = ⊥
AreUnloaded told faults faults' (file ∷ files) loads o =
    IsUnloaded told faults faults' file loads o
    ⊎ WasFirst told file loads (λ rest. AreUnloaded told faults faults' files rest o)

-- What came of the loading of files by these loads: the bytes of all, the refusal of the first that was not loaded, or want of memory.
abbrev pub CameOf : {A : Type 0} → (A → List (List ℕ)) → Option (List ToldFile) → ℕ → ℕ → List Wanted → Result A Stop → List Load → Type 0
CameOf contents told faults faults' files (Ok x) loads = WereLoaded told files (contents x) loads
CameOf contents told faults faults' files (Err stop) loads = Stops (AreUnloaded told faults faults' files loads) stop
