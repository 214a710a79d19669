-- What files tell: a list of names with bytes, and what a load may answer over it (this project's rule).
use Rattle.std.specs.Prelude.{◌≡◌, ◌<◌, ◌⊎◌, ℕ, List, Option, Some, None, option_map, Result, length, bytes_eq, find, IsErrOf}
use Rattle.ded_io.specs.declared.loading.LoadError.{LoadError}
use Rattle.ded_io.specs.declared.loading.LoadError.TheVariants.{Failed, TooLong, Memory}

-- a file whose bytes are told: the bytes of its name, and its own
pub record ToldFile : Type 0 where
  pub name : List ℕ
  pub bytes : List ℕ

-- the bytes of the first file of that name
abbrev pub file_bytes : List ToldFile → List ℕ → Option (List ℕ)
file_bytes files name = option_map (λ f. f.bytes) (find (λ f. bytes_eq f.name name) files)

-- where the files are told, these are the bytes of that name
abbrev pub Gives : Option (List ToldFile) → List ℕ → List ℕ → Type 0
Gives None name bytes = Unit {0}
Gives (Some files) name bytes = file_bytes files name ≡ Some bytes

-- the files are told, and none has that name
abbrev pub Lacks : Option (List ToldFile) → List ℕ → Type 0
Lacks None name = ⊥
Lacks (Some files) name = file_bytes files name ≡ None

-- where the files are told, that name has a file of more bytes than the limit
abbrev pub Longer : Option (List ToldFile) → List ℕ → ℕ → Type 0
Longer None name limit = Unit {0}
Longer (Some files) name limit = (bytes : List ℕ) × (file_bytes files name ≡ Some bytes) × (limit < length bytes)

-- no bytes were loaded: the file cannot be read, or memory was short
abbrev pub NoFile : {A : Type 0} → Result A LoadError → Type 0
NoFile result = IsErrOf result Failed ⊎ IsErrOf result Memory

-- an answer that the file is too long names the limit that was passed, and comes only where the file is longer
abbrev pub TooLongFor : Option (List ToldFile) → List ℕ → ℕ → LoadError → Type 0
TooLongFor told name limit Failed = Unit {0}
TooLongFor told name limit (TooLong n) = (n ≡ limit) × Longer told name limit
TooLongFor told name limit Memory = Unit {0}
