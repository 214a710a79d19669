-- What the rules refuse first at a place, and at several places.
use Rattle.std.specs.Prelude.{ℕ, List, [], ◌∷◌, Option, None}
use Rattle.syn_event.specs.declared.numbering.Mode.{Mode}
use Rattle.syn_event.specs.CheckScope.{CheckScope, CheckDemand, CheckSite}
use Rattle.syn_event.specs.CheckRefusals.{CheckRefusal}
use Rattle.syn_event.specs.RuleSharedVariable.{shared_variable}
use Rattle.syn_event.specs.RuleAcceptPlace.{accept_place}
use Rattle.syn_event.specs.RuleSelectForm.{select_form}
use Rattle.syn_event.specs.RuleSameEntryTwice.{same_entry_twice}
use Rattle.syn_event.specs.RuleReservedName.{reserved_name}
use Rattle.syn_event.specs.RuleMainEntry.{main_entry}
use Rattle.syn_event.specs.RuleAbortOrder.{abort_order}
use Rattle.syn_event.specs.RuleBodyMissing.{body_missing}
use Rattle.syn_event.specs.RuleExitPlace.{exit_place}
use Rattle.syn_event.specs.RuleRaisePlace.{raise_place}
use Rattle.syn_event.specs.RuleLimit.{over_limit}
use Rattle.ada_check_rules.specs.rules.Sooner.{sooner, found, found_over}

-- by what a program is checked: its mode, and the texts of its names
pub record Standard : Type 0 where
  pub mode : Mode
  pub names : List (List ℕ)

unfoldable pub refused_first_at : Standard → CheckScope → CheckDemand → Option CheckRefusal
refused_first_at by around a =
    sooner (found 13 (shared_variable around a))
    (sooner (found 14 (accept_place around a))
    (sooner (found 15 (select_form around a))
    (sooner (found 16 (same_entry_twice around a))
    (sooner (found 17 (reserved_name by.mode by.names a))
    (sooner (found 18 (main_entry around a))
    (sooner (found 19 (abort_order around a))
    (sooner (found 20 (body_missing a))
    (sooner (found 21 (exit_place around a))
    (sooner (found 22 (raise_place around a)) (found_over (over_limit by.mode by.names a)))))))))))

unfoldable pub refused_first : Standard → List CheckSite → Option CheckRefusal
refused_first by [] = None
refused_first by (x ∷ rest) = sooner (refused_first_at by x.scope x.demand) (refused_first by rest)
