-- When a program meets the rules 13 to 23, and what refuses it else. Each rule has a number, and a place that it refuses is a refusal.
use Rattle.std.specs.Prelude.{◌≡◌, ℕ, ◌<◌, ◌≤◌, ◌⊎◌, List, [], ◌++◌, map, flat_map, All, Contains, Option, Some, None}
use Rattle.ada_tree.specs.declared.naming.Span.{Span}
use Rattle.ada_tree.specs.PlainProgram.{PProgram}
use Rattle.syn_event.specs.declared.numbering.Mode.{Mode}
use Rattle.syn_event.specs.Limits.{what_order}
use Rattle.syn_event.specs.CheckScope.{CheckSite}
use Rattle.syn_event.specs.CheckSites.{check_sites}
use Rattle.syn_event.specs.RuleSharedVariable.{shared_variable}
use Rattle.syn_event.specs.RuleAcceptPlace.{accept_place}
use Rattle.syn_event.specs.RuleSelectForm.{select_form}
use Rattle.syn_event.specs.RuleSameEntryTwice.{same_entry_twice}
use Rattle.syn_event.specs.RuleReservedName.{reserved_name}
use Rattle.syn_event.specs.RuleMainEntry.{main_entry}
use Rattle.syn_event.specs.RuleAbortOrder.{abort_order}
use Rattle.syn_event.specs.RuleBodyMissing.{body_missing}
use Rattle.syn_event.specs.RuleExitPlace.{exit_place}
use Rattle.syn_event.specs.RuleRaisePlace.{raise_place}
use Rattle.syn_event.specs.RuleLimit.{Over, over_limit}

-- a refusal: the rule's number, the place, and of rule 23 the limit
pub record CheckRefusal : Type 0 where
  pub rule : ℕ
  pub over : Option Over
  pub span : Span

-- the refusals of the rule of that number, one for each place; none of them tells a limit (this project's rule)
abbrev pub by_rule : ℕ → List Span → List CheckRefusal
by_rule n spans = map (λ s. record { rule = n; over = None; span = s }) spans

-- what the rules refuse at one place of a program of these names
abbrev pub refused_at : Mode → List (List ℕ) → CheckSite → List CheckRefusal
refused_at m names x =
    by_rule 13 (shared_variable x.scope x.demand)
    ++ by_rule 14 (accept_place x.scope x.demand)
    ++ by_rule 15 (select_form x.scope x.demand)
    ++ by_rule 16 (same_entry_twice x.scope x.demand)
    ++ by_rule 17 (reserved_name m names x.demand)
    ++ by_rule 18 (main_entry x.scope x.demand)
    ++ by_rule 19 (abort_order x.scope x.demand)
    ++ by_rule 20 (body_missing x.demand)
    ++ by_rule 21 (exit_place x.scope x.demand)
    ++ by_rule 22 (raise_place x.scope x.demand)
    ++ map (λ o. record { rule = 23; over = Some o.over; span = o.span }) (over_limit m names x.demand)

-- All that the rules refuse in a program.
abbrev pub check_refusals : PProgram → Mode → List CheckRefusal
check_refusals p m = flat_map (refused_at m p.names) (check_sites p)

-- The program meets the rules.
abbrev pub MeetsCheckRules : PProgram → Mode → Type 0
MeetsCheckRules p m = check_refusals p m ≡ []

-- the order of limits at one place; the other rules have none
abbrev pub over_order : Option Over → ℕ
over_order (Some o) = what_order o.what
over_order None = 0

-- a refusal whose place starts earlier, or at the same byte with a lower number, or with the same number and no later limit
abbrev pub ComesFirst : CheckRefusal → CheckRefusal → Type 0
ComesFirst r q =
    (r.span.start < q.span.start)
    ⊎ ((r.span.start ≡ q.span.start) × ((r.rule < q.rule) ⊎ ((r.rule ≡ q.rule) × (over_order r.over ≤ over_order q.over))))

-- The refusal that is answered where the first twelve rules are met: one whose place starts first, of several at one start one of the lowest number, and of several limits there the first in their order.
pub record IsFirstCheckRefusal (p : PProgram) (m : Mode) (r : CheckRefusal) : Type 0 where
  pub is_one : Contains (check_refusals p m) r
  pub is_first : All (ComesFirst r) (check_refusals p m)
