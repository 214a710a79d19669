-- A part of a tree that was read, and what another reader answers behind it.
use Rattle.std.specs.Prelude.{◌≡◌, Result, Ok, Err}
use Rattle.ada_expr_parser.specs.declared.errors.ParseError.{ParseError}

-- both come where the second was read, and else its fault
abbrev pub Joined : {A B : Type 0} → A → Result B ParseError → Result (A × B) ParseError → Type 0
Joined first (Ok b) both = both ≡ Ok (first, b)
Joined first (Err e) both = both ≡ Err e
