-- Where none of the rules 13 to 23 refuses anything at any place, the program meets them.
use Rattle.std.proofs.Common.{◌≡◌, ℕ, List, [], ◌∷◌, ◌++◌, map, flat_map, Some, refl, ap, ◌∙◌}
use Rattle.std.specs.List.{AllByRecursion}
use Rattle.ada_tree.specs.declared.naming.Span.{Span}
use Rattle.ada_tree.specs.PlainProgram.{PProgram}
use Rattle.syn_event.specs.declared.numbering.Mode.{Mode}
use Rattle.syn_event.specs.CheckScope.{CheckSite}
use Rattle.syn_event.specs.CheckSites.{check_sites}
use Rattle.syn_event.specs.CheckRefusals.{CheckRefusal, by_rule, refused_at, MeetsCheckRules}
use Rattle.syn_event.specs.RuleAcceptPlace.{accept_place}
use Rattle.syn_event.specs.RuleSelectForm.{select_form}
use Rattle.syn_event.specs.RuleSameEntryTwice.{same_entry_twice}
use Rattle.syn_event.specs.RuleReservedName.{reserved_name}
use Rattle.syn_event.specs.RuleMainEntry.{main_entry}
use Rattle.syn_event.specs.RuleAbortOrder.{abort_order}
use Rattle.syn_event.specs.RuleBodyMissing.{body_missing}
use Rattle.syn_event.specs.RuleExitPlace.{exit_place}
use Rattle.syn_event.specs.RuleRaisePlace.{raise_place}
use Rattle.syn_event.specs.RuleLimit.{OverAt, over_limit}
use Rattle.task_laws.specs.legal.sites.Met.{IsCheckMet}

abbrev told : OverAt → CheckRefusal
told o = record { rule = 23; over = Some o.over; span = o.span }

-- at a place
none-refused : (m : Mode) (names : List (List ℕ)) (x : CheckSite) → IsCheckMet m names x → refused_at m names x ≡ []
none-refused m names x h =
    ap (λ (l : List Span). by_rule 13 l ++ by_rule 14 (accept_place x.scope x.demand) ++ by_rule 15 (select_form x.scope x.demand) ++ by_rule 16 (same_entry_twice x.scope x.demand) ++ by_rule 17 (reserved_name m names x.demand) ++ by_rule 18 (main_entry x.scope x.demand) ++ by_rule 19 (abort_order x.scope x.demand) ++ by_rule 20 (body_missing x.demand) ++ by_rule 21 (exit_place x.scope x.demand) ++ by_rule 22 (raise_place x.scope x.demand) ++ map told (over_limit m names x.demand)) h.shared
    ∙ ap (λ (l : List Span). by_rule 13 [] ++ by_rule 14 l ++ by_rule 15 (select_form x.scope x.demand) ++ by_rule 16 (same_entry_twice x.scope x.demand) ++ by_rule 17 (reserved_name m names x.demand) ++ by_rule 18 (main_entry x.scope x.demand) ++ by_rule 19 (abort_order x.scope x.demand) ++ by_rule 20 (body_missing x.demand) ++ by_rule 21 (exit_place x.scope x.demand) ++ by_rule 22 (raise_place x.scope x.demand) ++ map told (over_limit m names x.demand)) h.accepts
    ∙ ap (λ (l : List Span). by_rule 13 [] ++ by_rule 14 [] ++ by_rule 15 l ++ by_rule 16 (same_entry_twice x.scope x.demand) ++ by_rule 17 (reserved_name m names x.demand) ++ by_rule 18 (main_entry x.scope x.demand) ++ by_rule 19 (abort_order x.scope x.demand) ++ by_rule 20 (body_missing x.demand) ++ by_rule 21 (exit_place x.scope x.demand) ++ by_rule 22 (raise_place x.scope x.demand) ++ map told (over_limit m names x.demand)) h.selects
    ∙ ap (λ (l : List Span). by_rule 13 [] ++ by_rule 14 [] ++ by_rule 15 [] ++ by_rule 16 l ++ by_rule 17 (reserved_name m names x.demand) ++ by_rule 18 (main_entry x.scope x.demand) ++ by_rule 19 (abort_order x.scope x.demand) ++ by_rule 20 (body_missing x.demand) ++ by_rule 21 (exit_place x.scope x.demand) ++ by_rule 22 (raise_place x.scope x.demand) ++ map told (over_limit m names x.demand)) h.twice
    ∙ ap (λ (l : List Span). by_rule 13 [] ++ by_rule 14 [] ++ by_rule 15 [] ++ by_rule 16 [] ++ by_rule 17 l ++ by_rule 18 (main_entry x.scope x.demand) ++ by_rule 19 (abort_order x.scope x.demand) ++ by_rule 20 (body_missing x.demand) ++ by_rule 21 (exit_place x.scope x.demand) ++ by_rule 22 (raise_place x.scope x.demand) ++ map told (over_limit m names x.demand)) h.reserved
    ∙ ap (λ (l : List Span). by_rule 13 [] ++ by_rule 14 [] ++ by_rule 15 [] ++ by_rule 16 [] ++ by_rule 17 [] ++ by_rule 18 l ++ by_rule 19 (abort_order x.scope x.demand) ++ by_rule 20 (body_missing x.demand) ++ by_rule 21 (exit_place x.scope x.demand) ++ by_rule 22 (raise_place x.scope x.demand) ++ map told (over_limit m names x.demand)) h.main
    ∙ ap (λ (l : List Span). by_rule 13 [] ++ by_rule 14 [] ++ by_rule 15 [] ++ by_rule 16 [] ++ by_rule 17 [] ++ by_rule 18 [] ++ by_rule 19 l ++ by_rule 20 (body_missing x.demand) ++ by_rule 21 (exit_place x.scope x.demand) ++ by_rule 22 (raise_place x.scope x.demand) ++ map told (over_limit m names x.demand)) h.order
    ∙ ap (λ (l : List Span). by_rule 13 [] ++ by_rule 14 [] ++ by_rule 15 [] ++ by_rule 16 [] ++ by_rule 17 [] ++ by_rule 18 [] ++ by_rule 19 [] ++ by_rule 20 l ++ by_rule 21 (exit_place x.scope x.demand) ++ by_rule 22 (raise_place x.scope x.demand) ++ map told (over_limit m names x.demand)) h.bodies
    ∙ ap (λ (l : List Span). by_rule 13 [] ++ by_rule 14 [] ++ by_rule 15 [] ++ by_rule 16 [] ++ by_rule 17 [] ++ by_rule 18 [] ++ by_rule 19 [] ++ by_rule 20 [] ++ by_rule 21 l ++ by_rule 22 (raise_place x.scope x.demand) ++ map told (over_limit m names x.demand)) h.exits
    ∙ ap (λ (l : List Span). by_rule 13 [] ++ by_rule 14 [] ++ by_rule 15 [] ++ by_rule 16 [] ++ by_rule 17 [] ++ by_rule 18 [] ++ by_rule 19 [] ++ by_rule 20 [] ++ by_rule 21 [] ++ by_rule 22 l ++ map told (over_limit m names x.demand)) h.raises
    ∙ ap (λ (l : List OverAt). map told l) h.limits

none-anywhere : (m : Mode) (names : List (List ℕ)) (xs : List CheckSite) → AllByRecursion (IsCheckMet m names) xs → flat_map (refused_at m names) xs ≡ []
none-anywhere m names [] h = refl
none-anywhere m names (x ∷ xs) h = ap (λ l. l ++ flat_map (refused_at m names) xs) (none-refused m names x h.0) ∙ none-anywhere m names xs h.1

pub meets-checks : (p : PProgram) (m : Mode) → AllByRecursion (IsCheckMet m p.names) (check_sites p) → MeetsCheckRules p m
meets-checks p m h = none-anywhere m p.names (check_sites p) h
