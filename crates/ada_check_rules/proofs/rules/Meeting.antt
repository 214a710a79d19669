-- What is refused first at a place, by what is asked there, and at several places.
use Rattle.std.specs.Prelude.{◌≡◌, ℕ, Bool, List, [], ◌∷◌, ◌++◌, Option, None, refl}
use Rattle.std.proofs.Common.{sym, ap, ◌∙◌}
use Rattle.ada_tree.specs.declared.naming.NameId.{NameId}
use Rattle.ada_tree.specs.declared.naming.Span.{Span}
use Rattle.ada_tree.specs.declared.naming.Word.{Word}
use Rattle.ada_tree.specs.PlainStmt.{PHead, PAlts}
use Rattle.syn_event.specs.declared.limits.What.{What}
use Rattle.syn_event.specs.CheckRefusals.{CheckRefusal}
use Rattle.syn_event.specs.CheckScope.{CheckScope, CheckDemand, declares, uses, addresses, aborts_before, accepts, waits, exits, raises_again, needs_body, counts, CheckSite}
use Rattle.syn_event.specs.CheckSites.{site}
use Rattle.syn_event.specs.RuleSharedVariable.{shared_variable}
use Rattle.syn_event.specs.RuleAcceptPlace.{accept_place}
use Rattle.syn_event.specs.RuleSelectForm.{select_form}
use Rattle.syn_event.specs.RuleSameEntryTwice.{same_entry_twice}
use Rattle.syn_event.specs.RuleReservedName.{reserved_in}
use Rattle.syn_event.specs.RuleMainEntry.{main_entry}
use Rattle.syn_event.specs.RuleAbortOrder.{abort_order}
use Rattle.syn_event.specs.RuleBodyMissing.{body_missing}
use Rattle.syn_event.specs.RuleExitPlace.{exit_place}
use Rattle.syn_event.specs.RuleRaisePlace.{raise_place}
use Rattle.syn_event.specs.RuleLimit.{over_limit, limit_passed}
use Rattle.syn_event.specs.Limits.{limit_of}
use Rattle.ada_check_rules.specs.rules.Sooner.{sooner, found, found_over}
use Rattle.ada_check_rules.specs.rules.RefusedFirst.{Standard, refused_first_at, refused_first}
use Rattle.ada_check_rules.proofs.rules.SoonerLaws.{sooner_assoc, sooner_none}

-- ---- at one place

pub at_declares : (by : Standard) (around : CheckScope) (w : Word) → refused_first_at by around (declares w) ≡ sooner (found 17 (reserved_in by.mode by.names w)) (found_over (over_limit by.mode by.names (declares w)))
unfolding refused_first_at
at_declares by around w = refl

pub at_uses : (by : Standard) (around : CheckScope) (id : NameId) (s : Span) → refused_first_at by around (uses id s) ≡ found 13 (shared_variable around (uses id s))
unfolding refused_first_at
at_uses by around id s = sooner_none _

pub at_addresses : (by : Standard) (around : CheckScope) (w : Word) → refused_first_at by around (addresses w) ≡ found 18 (main_entry around (addresses w))
unfolding refused_first_at
at_addresses by around w = sooner_none _

pub at_aborts : (by : Standard) (around : CheckScope) (w : Word) → refused_first_at by around (aborts_before w) ≡ found 19 (abort_order around (aborts_before w))
unfolding refused_first_at
at_aborts by around w = sooner_none _

pub at_accepts : (by : Standard) (around : CheckScope) (h : PHead) → refused_first_at by around (accepts h) ≡ found 14 (accept_place around (accepts h))
unfolding refused_first_at
at_accepts by around h = sooner_none _

pub at_waits : (by : Standard) (around : CheckScope) (x : PAlts) (b : Bool) (s : Span) → refused_first_at by around (waits x b s) ≡ sooner (found 15 (select_form around (waits x b s))) (found 16 (same_entry_twice around (waits x b s)))
unfolding refused_first_at
at_waits by around x b s = ap (sooner (found 15 (select_form around (waits x b s)))) (sooner_none _)

pub at_exits : (by : Standard) (around : CheckScope) (w : Option Word) (s : Span) → refused_first_at by around (exits w s) ≡ found 21 (exit_place around (exits w s))
unfolding refused_first_at
at_exits by around w s = sooner_none _

pub at_raises : (by : Standard) (around : CheckScope) (s : Span) → refused_first_at by around (raises_again s) ≡ found 22 (raise_place around (raises_again s))
unfolding refused_first_at
at_raises by around s = sooner_none _

pub at_needs : (by : Standard) (around : CheckScope) (bodies : List ℕ) (w : Word) (s : Span) → refused_first_at by around (needs_body bodies w s) ≡ found 20 (body_missing (needs_body bodies w s))
unfolding refused_first_at
at_needs by around bodies w s = sooner_none _

pub at_counts : (by : Standard) (around : CheckScope) (what : What) (b h : ℕ) (s : Span) → refused_first_at by around (counts what b h s) ≡ found_over (limit_passed what (limit_of by.mode what) b h s)
unfolding refused_first_at
at_counts by around what b h s = refl

-- ---- at several places

pub met_none : (by : Standard) → refused_first by [] ≡ None
unfolding refused_first
met_none by = refl

pub met_cons : (by : Standard) (around : CheckScope) (a : CheckDemand) (rest : List CheckSite) → refused_first by (site around a ∷ rest) ≡ sooner (refused_first_at by around a) (refused_first by rest)
unfolding refused_first
met_cons by around a rest = refl

pub met_one : (by : Standard) (around : CheckScope) (a : CheckDemand) → refused_first by (site around a ∷ []) ≡ refused_first_at by around a
unfolding refused_first
met_one by around a = sooner_none (refused_first_at by around a)

pub met_append : (by : Standard) (xs ys : List CheckSite) → refused_first by (xs ++ ys) ≡ sooner (refused_first by xs) (refused_first by ys)
unfolding refused_first
met_append by [] ys = refl
met_append by (x ∷ xs) ys = ap (sooner (refused_first_at by x.scope x.demand)) (met_append by xs ys) ∙ sym (sooner_assoc (refused_first_at by x.scope x.demand) (refused_first by xs) (refused_first by ys))

-- two lists of places, one behind the other
pub joined : (by : Standard) (xs ys : List CheckSite) (a b : Option CheckRefusal) → a ≡ refused_first by xs → b ≡ refused_first by ys → sooner a b ≡ refused_first by (xs ++ ys)
joined by xs ys a b p q = ap (λ o. sooner o b) p ∙ ap (sooner (refused_first by xs)) q ∙ sym (met_append by xs ys)

-- a place before others
pub before : (by : Standard) (around : CheckScope) (demand : CheckDemand) (ys : List CheckSite) (a b : Option CheckRefusal) → a ≡ refused_first_at by around demand → b ≡ refused_first by ys → sooner a b ≡ refused_first by (site around demand ∷ ys)
before by around demand ys a b p q = ap (λ o. sooner o b) p ∙ ap (sooner (refused_first_at by around demand)) q ∙ sym (met_cons by around demand ys)

pub ruleset asking = (at_declares, at_uses, at_addresses, at_aborts, at_accepts, at_waits, at_exits, at_raises, at_needs, at_counts)

pub ruleset meeting = (met_none, met_cons, met_one, met_append, sooner_assoc, sooner_none)
