-- What the static rules leave at one place of a program that meets them: nothing is refused there (this project's rule).
use Rattle.std.specs.Prelude.{◌≡◌, ℕ, List, [], Some}
use Rattle.ada_static_rules.specs.Scope.{Scope, Unclear, meaning}
use Rattle.ada_static_rules.specs.Demand.{Demand, addresses, Site}
use Rattle.ada_static_rules.specs.RuleUnknown.{unknown}
use Rattle.ada_static_rules.specs.RuleDuplicate.{duplicate}
use Rattle.ada_static_rules.specs.RuleMismatch.{mismatch}
use Rattle.ada_static_rules.specs.RuleNotStatic.{not_static}
use Rattle.ada_static_rules.specs.RuleRangeBad.{range_bad}
use Rattle.ada_static_rules.specs.RuleNotVariable.{not_variable}
use Rattle.ada_static_rules.specs.RuleReadOut.{read_out}
use Rattle.ada_static_rules.specs.RuleArgCount.{arg_count}
use Rattle.ada_static_rules.specs.RuleChoiceBad.{choice_bad}
use Rattle.ada_static_rules.specs.RuleArrayUse.{array_use}
use Rattle.ada_static_rules.specs.RuleTextUse.{text_use}
use Rattle.ada_static_rules.specs.RuleNotException.{not_exception}
use Rattle.syn_event.specs.declared.numbering.Mode.{Mode}
use Rattle.syn_event.specs.CheckScope.{CheckSite}
use Rattle.syn_event.specs.RuleSharedVariable.{shared_variable}
use Rattle.syn_event.specs.RuleAcceptPlace.{accept_place}
use Rattle.syn_event.specs.RuleSelectForm.{select_form}
use Rattle.syn_event.specs.RuleSameEntryTwice.{same_entry_twice}
use Rattle.syn_event.specs.RuleReservedName.{reserved_name}
use Rattle.syn_event.specs.RuleMainEntry.{main_entry}
use Rattle.syn_event.specs.RuleAbortOrder.{abort_order}
use Rattle.syn_event.specs.RuleBodyMissing.{body_missing}
use Rattle.syn_event.specs.RuleExitPlace.{exit_place}
use Rattle.syn_event.specs.RuleRaisePlace.{raise_place}
use Rattle.syn_event.specs.RuleLimit.{over_limit}

-- None of the first twelve rules refuses anything at the place, behind some places before it.
pub record IsMet (s : Site) : Type 0 where
  pub known : unknown s.scope s.demand ≡ []
  pub before : List Site
  pub once : duplicate before s.scope s.demand ≡ []
  pub matched : mismatch s.scope s.demand ≡ []
  pub static : not_static s.scope s.demand ≡ []
  pub ranged : range_bad s.scope s.demand ≡ []
  pub variable : not_variable s.scope s.demand ≡ []
  pub readable : read_out s.scope s.demand ≡ []
  pub counted : arg_count s.scope s.demand ≡ []
  pub chosen : choice_bad s.scope s.demand ≡ []
  pub arrays : array_use s.scope s.demand ≡ []
  pub texts : text_use s.scope s.demand ≡ []
  pub exceptions : not_exception s.scope s.demand ≡ []

-- None of the rules 13 to 23 refuses anything at the place, in a program of these names.
pub record IsCheckMet (m : Mode) (names : List (List ℕ)) (x : CheckSite) : Type 0 where
  pub shared : shared_variable x.scope x.demand ≡ []
  pub accepts : accept_place x.scope x.demand ≡ []
  pub selects : select_form x.scope x.demand ≡ []
  pub twice : same_entry_twice x.scope x.demand ≡ []
  pub reserved : reserved_name m names x.demand ≡ []
  pub main : main_entry x.scope x.demand ≡ []
  pub order : abort_order x.scope x.demand ≡ []
  pub bodies : body_missing x.demand ≡ []
  pub exits : exit_place x.scope x.demand ≡ []
  pub raises : raise_place x.scope x.demand ≡ []
  pub limits : over_limit m names x.demand ≡ []

-- the callee at the place is nothing of which the declaration is refused
abbrev pub IsAddressed : Scope → Demand → Type 0
IsAddressed scope (addresses c) = meaning scope c.name.name ≡ Some Unclear → ⊥
IsAddressed scope _ = Unit {0}
