-- What is refused at one place, by a test of what is known there.
use Rattle.std.specs.Prelude.{◌≡◌, Bool, true, false, not, ◌&&◌, if◌then◌else◌, [], ◌∷◌, Option, Some, None, option_map, is_some, refl}
use Rattle.std.specs.List.{list_any}
use Rattle.std.proofs.Common.{ap, ◌∙◌}
use Rattle.ada_tree.specs.declared.naming.NameId.{NameId}
use Rattle.ada_tree.specs.declared.naming.Span.{Span}
use Rattle.ada_tree.specs.declared.naming.Word.{Word}
use Rattle.syn_event.specs.declared.meanings.Meant.{Meant}
use Rattle.syn_event.specs.declared.meanings.Meant.TheVariants.{MainProcedure, TaskType, TaskOf, Shared, Inner}
use Rattle.syn_event.specs.CheckScope.{EnclosingUnit, CheckScope, meaning, uses, addresses, aborts_before, exits, raises_again}
use Rattle.syn_event.specs.CheckSites.{site}
use Rattle.syn_event.specs.RuleSharedVariable.{shared_name, in_body_of}
use Rattle.syn_event.specs.RuleMainEntry.{no_task}
use Rattle.syn_event.specs.RuleAbortOrder.{own_task}
use Rattle.syn_event.specs.RuleExitPlace.{is_left}
use Rattle.ada_check_rules.specs.rules.Sooner.{found}
use Rattle.ada_check_rules.specs.rules.RefusedFirst.{Standard, refused_first_at, refused_first}
use Rattle.ada_check_places.specs.parts.inner.Asking.{is_shared, is_no_task, is_own_task}
use Rattle.ada_check_rules.proofs.rules.Meeting.{at_uses, at_addresses, at_aborts, at_exits, at_raises, met_one}

used_by : (own : Option EnclosingUnit) (m : Option Meant) (s : Span) → in_body_of own (shared_name m s) ≡ (if is_some (option_map (λ u. u.name) own) && is_shared m then s ∷ [] else [])
used_by None m s = refl
used_by (Some u) None s = refl
used_by (Some u) (Some MainProcedure) s = refl
used_by (Some u) (Some TaskType) s = refl
used_by (Some u) (Some (TaskOf unit)) s = refl
used_by (Some u) (Some Shared) s = refl
used_by (Some u) (Some Inner) s = refl

pub uses_at : (by : Standard) (around : CheckScope) (id : NameId) (s : Span)
    → refused_first_at by around (uses id s) ≡ found 13 (if is_some (option_map (λ u. u.name) around.own) && is_shared (meaning around id) then s ∷ [] else [])
uses_at by around id s = at_uses by around id s ∙ ap (found 13) (used_by around.own (meaning around id) s)

addressed_by : (m : Option Meant) (s : Span) → no_task m s ≡ (if is_no_task m then s ∷ [] else [])
addressed_by None s = refl
addressed_by (Some MainProcedure) s = refl
addressed_by (Some TaskType) s = refl
addressed_by (Some (TaskOf unit)) s = refl
addressed_by (Some Shared) s = refl
addressed_by (Some Inner) s = refl

pub addresses_at : (by : Standard) (around : CheckScope) (w : Word) → refused_first_at by around (addresses w) ≡ found 18 (if is_no_task (meaning around w.name) then w.span ∷ [] else [])
addresses_at by around w = at_addresses by around w ∙ ap (found 18) (addressed_by (meaning around w.name) w.span)

aborted_by : (own : Option EnclosingUnit) (m : Option Meant) (s : Span) → own_task own m s ≡ (if is_own_task (option_map (λ u. u.name) own) m then s ∷ [] else [])
aborted_by None m s = refl
aborted_by (Some u) None s = refl
aborted_by (Some u) (Some MainProcedure) s = refl
aborted_by (Some u) (Some TaskType) s = refl
aborted_by (Some u) (Some (TaskOf unit)) s = refl
aborted_by (Some u) (Some Shared) s = refl
aborted_by (Some u) (Some Inner) s = refl

pub aborts_at : (by : Standard) (around : CheckScope) (w : Word)
    → refused_first_at by around (aborts_before w) ≡ found 19 (if is_own_task (option_map (λ u. u.name) around.own) (meaning around w.name) then w.span ∷ [] else [])
aborts_at by around w = at_aborts by around w ∙ ap (found 19) (aborted_by around.own (meaning around w.name) w.span)

turned : (b : Bool) (s : Span) → (if b then [] else s ∷ []) ≡ (if not b then s ∷ [] else [])
turned true s = refl
turned false s = refl

pub exits_at : (by : Standard) (around : CheckScope) (w : Option Word) (s : Span) → refused_first_at by around (exits w s) ≡ found 21 (if not (list_any (is_left w) around.loops) then s ∷ [] else [])
exits_at by around w s = at_exits by around w s ∙ ap (found 21) (turned (list_any (is_left w) around.loops) s)

pub raises_met : (by : Standard) (around : CheckScope) (s : Span) → refused_first by (site around (raises_again s) ∷ []) ≡ found 22 (if not around.in_handler then s ∷ [] else [])
raises_met by around s = met_one by around (raises_again s) ∙ at_raises by around s ∙ ap (found 22) (turned around.in_handler s)
