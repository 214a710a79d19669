-- What is known of a part that is handed on as a result.
use Rattle.std.specs.Prelude.{Result, Ok, Err}

-- the part came, and P holds of it
abbrev pub OkWith : {A E : Type 0} → Result A E → (A → Type 0) → Type 0
OkWith (Ok x) P = P x
OkWith (Err e) P = ⊥
