-- What is known of the choices of a case that were looked at.
use Rattle.std.specs.Prelude.{◌≡◌, ◌↔◌, ℕ, ℤ, int_le, Bool, true, ◌&&◌, List, [], ◌∷◌, ◌++◌, Option}
use Rattle.std.specs.List.{list_any, list_all}
use Rattle.ada_tree.specs.PlainExpr.{PExpr}
use Rattle.ada_tree.specs.PlainStmt.{PChoice}
use Rattle.ada_static_rules.specs.Scope.{Scope, Range}
use Rattle.ada_static_rules.specs.Demand.{Site, must_lie_in}
use Rattle.ada_static_rules.specs.Sites.{site, static_of}
use Rattle.ada_static_rules.specs.RuleChoiceBad.{choice_range, with_range, overlapping, is_good}
use Rattle.ada_static_rules.specs.Sooner.{found}
use Rattle.ada_entry_rules.specs.case_choices.Covers.{Covers}
use Rattle.ada_entry_rules.specs.declared.case_choices.choices.Chosen.{Chosen}

-- a bound of a choice: of the selector's kind, static and in its range
abbrev pub bound_sites : Scope → Option ℕ → Option Range → PExpr → List Site
bound_sites scope k range e = static_of scope k e ++ site scope (must_lie_in e range) ∷ []

-- the values of the choices before, and of those of a list
abbrev pub seen_after : Scope → ℕ → List Range → List PChoice → List Range
seen_after scope k seen [] = seen
seen_after scope k seen (c ∷ cs) = seen_after scope k (with_range (choice_range scope k c) seen) cs

abbrev pub contains : ℤ → Range → Bool
contains z r = int_le r.first z && int_le z r.last

-- ranges without a value in common have the values of others
abbrev pub Shows : List (ℤ × ℤ) → List Range → Type 0
Shows ranges seen = (z : ℤ) → Covers ranges z ↔ (list_any (contains z) seen ≡ true)

-- the values of the choices, the first that overlaps an earlier one, and whether each is static, not empty and within the selector's values
pub record AreChosen (scope : Scope) (k : ℕ) (values : Option Range) (choices : List PChoice) (c : Chosen) : Type 0 where
  pub covers : Shows c.covered (seen_after scope k [] choices)
  pub refusal_is : c.refusal ≡ found 9 (overlapping scope k [] choices)
  pub good_is : c.good ≡ list_all (λ x. is_good values (choice_range scope k x)) choices
