use Rattle.std.proofs.Common.{◌≡◌, ◌==◌, ◌||◌, ℕ, is_some, take}
use Rattle.std.specs.List.{list_any}
use Rattle.scoped_names.specs.Meaning.{meaning_in}
use Rattle.normal_lookups.proofs.static_names.know_literals.Given as goal

abbrev pub invariant-loop-name : goal.invariant-loop-name
invariant-loop-name l = (q : ℕ) → is_some (meaning_in l.known q) ≡ (is_some (meaning_in l.fn.known q) || list_any (λ n. n.0 == q) (take l.name-index l.names))
