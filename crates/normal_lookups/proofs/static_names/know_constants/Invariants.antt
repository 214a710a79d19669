use Rattle.std.proofs.Common.{◌≡◌, ◌==◌, ◌||◌, ℕ, is_some, take}
use Rattle.std.specs.List.{list_any}
use Rattle.scoped_names.specs.Meaning.{meaning_in}
use Rattle.normal_lookups.proofs.static_names.know_constants.Given as goal

abbrev pub invariant-loop-constant : goal.invariant-loop-constant
invariant-loop-constant l = (q : ℕ) → is_some (meaning_in l.known q) ≡ (is_some (meaning_in l.fn.known q) || list_any (λ c. c.name.0 == q) (take l.constant-index l.constants))
