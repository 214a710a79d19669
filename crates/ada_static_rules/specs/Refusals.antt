-- When a program meets the first twelve static rules, what refuses it else, and which types, marks and constants it has. Each rule has a number, and a place that it refuses is a refusal.
use Rattle.std.specs.Prelude.{◌≡◌, ℕ, ◌<◌, ◌≤◌, ◌⊎◌, List, [], ◌∷◌, ◌++◌, map, All, Contains}
use Rattle.ada_tree.specs.declared.naming.Span.{Span}
use Rattle.ada_tree.specs.TypeTable.{TypeTable}
use Rattle.ada_tree.specs.PlainProgram.{PProgram}
use Rattle.ada_static_rules.specs.Demand.{Site}
use Rattle.ada_static_rules.specs.Sites.{sites}
use Rattle.ada_static_rules.specs.Declaring.{first_scope, after_decls}
use Rattle.ada_static_rules.specs.RuleUnknown.{unknown}
use Rattle.ada_static_rules.specs.RuleDuplicate.{duplicate}
use Rattle.ada_static_rules.specs.RuleMismatch.{mismatch}
use Rattle.ada_static_rules.specs.RuleNotStatic.{not_static}
use Rattle.ada_static_rules.specs.RuleRangeBad.{range_bad}
use Rattle.ada_static_rules.specs.RuleNotVariable.{not_variable}
use Rattle.ada_static_rules.specs.RuleReadOut.{read_out}
use Rattle.ada_static_rules.specs.RuleArgCount.{arg_count}
use Rattle.ada_static_rules.specs.RuleChoiceBad.{choice_bad}
use Rattle.ada_static_rules.specs.RuleArrayUse.{array_use}
use Rattle.ada_static_rules.specs.RuleTextUse.{text_use}
use Rattle.ada_static_rules.specs.RuleNotException.{not_exception}

-- a refusal: the number of the rule, and the place that it refuses (this project's rule)
pub record Refusal : Type 0 where
  pub rule : ℕ
  pub span : Span

-- these places, each refused by the rule with this number (this project's rule)
abbrev pub by_rule : ℕ → List Span → List Refusal
by_rule n spans = map (λ s. record { rule = n; span = s }) spans

-- what the rules refuse at one place; `before` are the places before it
abbrev pub refused_at : List Site → Site → List Refusal
refused_at before s =
    by_rule 1 (unknown s.scope s.demand)
    ++ by_rule 2 (duplicate before s.scope s.demand)
    ++ by_rule 3 (mismatch s.scope s.demand)
    ++ by_rule 4 (not_static s.scope s.demand)
    ++ by_rule 5 (range_bad s.scope s.demand)
    ++ by_rule 6 (not_variable s.scope s.demand)
    ++ by_rule 7 (read_out s.scope s.demand)
    ++ by_rule 8 (arg_count s.scope s.demand)
    ++ by_rule 9 (choice_bad s.scope s.demand)
    ++ by_rule 10 (array_use s.scope s.demand)
    ++ by_rule 11 (text_use s.scope s.demand)
    ++ by_rule 12 (not_exception s.scope s.demand)

-- what the rules refuse at these places in their order; `before` are the places before them (this project's rule)
abbrev pub refused_from : List Site → List Site → List Refusal
refused_from before [] = []
refused_from before (s ∷ rest) = refused_at before s ++ refused_from (s ∷ before) rest

-- All that the rules refuse in a program.
abbrev pub refusals : PProgram → List Refusal
refusals p = refused_from [] (sites p)

-- The program meets the rules.
abbrev pub MeetsTypeRules : PProgram → Type 0
MeetsTypeRules p = refusals p ≡ []

-- a refusal whose place starts earlier, or at the same byte with no greater number
abbrev pub ComesFirst : Refusal → Refusal → Type 0
ComesFirst r q = (r.span.start < q.span.start) ⊎ ((r.span.start ≡ q.span.start) × (r.rule ≤ q.rule))

-- The refusal that is answered: one whose place starts first, and of several at one start one of the lowest number.
pub record IsFirstRefusal (p : PProgram) (r : Refusal) : Type 0 where
  pub is_one : Contains (refusals p) r
  pub is_first : All (ComesFirst r) (refusals p)

-- The kinds, marks and constants of a program.
abbrev pub types_in : PProgram → TypeTable
types_in p = (after_decls (first_scope p.name) p.decls).types
