-- What contracts see of entries and ranges.
use Rattle.std.specs.Prelude.{◌≡◌, ◌==◌, ℕ, nat_eq, position, List, map}
use Rattle.std.specs.HashMap.{HashMap, get}
use Rattle.ada_static_rules.specs.Scope as scope
use Rattle.ada_scopes.specs.declared.denotations.Range.{Range}
use Rattle.ada_scopes.specs.declared.denotations.Family.{Family}
use Rattle.ada_scopes.specs.declared.denotations.Family.TheVariants.{Single, Over, Unclear}
use Rattle.ada_scopes.specs.declared.denotations.FormalPart.{FormalPart}
use Rattle.ada_scopes.specs.declared.denotations.EntryPart.{EntryPart}

abbrev pub plain_range : Range → scope.Range
plain_range r = record { kind = r.kind; first = r.first; last = r.last }

abbrev pub plain_family : Family → scope.Family
plain_family Single = scope.single
plain_family (Over r) = scope.family (plain_range r)
plain_family Unclear = scope.unclear

abbrev pub plain_part : FormalPart → scope.FormalPart
plain_part f = record { name = f.name; mode = f.mode; mark = f.mark; kind = f.kind }

abbrev pub plain_entry : EntryPart → scope.EntryPart
plain_entry e = record { name = e.name; family = plain_family e.family; formals = map plain_part e.formals.items }

-- the place of the first entry of each name
abbrev pub ArePlaced : {S : Type 0} → List EntryPart → HashMap ℕ ℕ S → Type 0
ArePlaced parts places = (q : ℕ) → get nat_eq places q ≡ position (λ e. e.name.0 == q) parts
