-- All goes well with a list exactly where it leads somewhere, and each event finds the tasks within the bound.
use Rattle.std.proofs.Common.{◌≡◌, ◌↔◌, ℕ, suc, ◌<◌, ◌≤◌, Bool, true, false, ◌&&◌, List, [], ◌∷◌, ◌++◌, refl, sym, ap, ◌∙◌, subst, ⊎_elim, append_assoc, arith}
use Rattle.std.specs.Prelude.{nat_le}
use Rattle.std.proofs.lemmas.Bool.{cases_lt, and_parts}
use Rattle.event_machine.specs.declared.Standing.TheVariants.{Live}
use Rattle.event_machine.specs.declared.Event.{Event}
use Rattle.event_machine.specs.States.{Seat, State, is_live}
use Rattle.event_machine.specs.Lawful.{IsLawful}
use Rattle.event_machine.specs.Programs.{Program, numbered, IsOpening}
use Rattle.event_machine.specs.Worlds.{World, world_of, needs}
use Rattle.event_machine.specs.Settling.{ran, HasSteps, Fires, Leads}
use Rattle.event_machine.specs.Tallies.{RestIs, before_end}
use Rattle.event_machine.proofs.Basics.{both}
use Rattle.event_machine.proofs.Standings.{is-Live}
use Rattle.event_machine.proofs.Stepping.{steps_fewer, step_before, settles_most}
use Rattle.event_machine.proofs.Following.{leads_once}
use Rattle.event_machine.proofs.Bases.{found_steps, steps_idle, steps_settle}
use Rattle.event_machine.proofs.Walking.{leads_append, leads_split}
use Rattle.event_machine.proofs.Reaching.{feasible_back}
use Rattle.event_machine.proofs.Resting.{feasible_leads, rest_back, rest_leads}
use Rattle.event_machine.proofs.Extending.{before_end-same}
use Rattle.syn_order.specs.exchange.Steps.{LeadsBy}
use Rattle.syn_order.specs.exchange.Verdicts.{IsOpenAt, AllFeasible}
use Rattle.syn_order.proofs.exchange.Leading.{by_split}
use Rattle.syn_order.proofs.exchange.Traces.{no_end}
use Rattle.common_lemmas.proofs.Numbers.{le_true, le_is}

-- at most the bound
abbrev pub within : ℕ → Event → ℕ → ℕ → Bool
within bound e t n = nat_le n bound

module _ {L : Type 0} (p : Program L) (IsProper : L → Type 0) (lawful : IsLawful p.ops IsProper) (s : State (ℕ → Seat L))
    (opening : IsOpening (numbered p) s) (proper : (t : ℕ) → t < p.size → IsProper (s.seats t).local) (bound : ℕ) where
  abbrev start : World L
  start = world_of s

  -- ---- one event

  module _ (before : List Event) (w : World L) (there : Leads p start before w) {e : Event} {next : World L} (fires : Fires p w e next) where
    before_same : before_end before ≡ before
    before_same = before_end-same before (no_end p before start w there fires.runs)

    -- where none of the tasks that it needs is open, it finds each within the bound
    none_within : ((t : ℕ) → needs p e t ≡ true → IsOpenAt (numbered p) s before t bound → ⊥) → (t : ℕ) → fires.steps t ≤ bound
    none_within none t = ⊎_elim (λ (l : bound < fires.steps t). absurd (above l (needs p e t && is_live (w.tasks t).standing) refl)) (λ (l : fires.steps t ≤ bound). l) (cases_lt bound (fires.steps t))
      where
        above : bound < fires.steps t → (b : Bool) → (needs p e t && is_live (w.tasks t).standing) ≡ b → ⊥
        above l true q =
            let parts = and_parts (needs p e t) (is_live (w.tasks t).standing) q in
            none t parts.0 (
              ran p.ops bound (w.tasks t).local,
              subst (λ es. RestIs (numbered p) s es t bound (ran p.ops bound (w.tasks t).local)) (sym before_same)
                  (rest_back p IsProper lawful s opening proper before (no_end p before start w there fires.runs) t bound (ran p.ops bound (w.tasks t).local)
                  (w, there, is-Live (w.tasks t).standing parts.1, steps_fewer p.ops (fires.steps t) bound (w.tasks t).local (omega (arith, l)) (found_steps p fires t), refl)),
              step_before p.ops (fires.steps t) bound (w.tasks t).local l (found_steps p fires t),
            )
        above l false q = let none_made : fires.steps t ≡ 0 = steps_idle p fires t q in omega (arith, l, none_made)

    -- and back
    within_none : ((t : ℕ) → fires.steps t ≤ bound) → (t : ℕ) → needs p e t ≡ true → IsOpenAt (numbered p) s before t bound → ⊥
    within_none steps t need (l, rest, more) =
        let (v, to, live', made, ends) = rest_leads p IsProper lawful s opening proper before t bound l (subst (λ es. RestIs (numbered p) s es t bound l) before_same rest) in
        let (free, has, is) = subst OpenIn (leads_once p before start v w to there) (live', made, ends) in
        let settle = steps_settle p fires t (both need (ap is_live free)) in
        let most : suc bound ≤ fires.steps t = settles_most p.ops (suc bound) (fires.steps t) (w.tasks t).local (has, ap p.ops.can_step (sym is) ∙ more) settle in
        omega (arith, most, steps t)
      where
        OpenIn : World L → Type 0
        OpenIn v = ((v.tasks t).standing ≡ Live) × HasSteps p.ops bound (v.tasks t).local × (l ≡ ran p.ops bound (v.tasks t).local)

  -- ---- a list

  well_leads : (before rest : List Event) (w : World L) → Leads p start before w → AllFeasible (numbered p) s bound (before ++ rest) →
      (last : World L) × LeadsBy (within bound) p w rest last
  well_leads before [] w there well = (w, refl)
  well_leads before (e ∷ rest) w there well =
      let (none, feasible) = well before rest e refl in
      let (end', leads) = feasible_leads p IsProper lawful s opening proper (before ++ e ∷ []) feasible in
      let (v, first, (next, fires, ends)) = leads_split p before (e ∷ []) start end' leads in
      let here : Fires p w e next = subst (λ u. Fires p u e next) (leads_once p before start v w first there) fires in
      let (last, more) = well_leads (before ++ e ∷ []) rest next (leads_append p before (e ∷ []) start w next there (next, here, refl))
      (subst (AllFeasible (numbered p) s bound) (sym (append_assoc before (e ∷ []) rest)) well) in
      (last, (next, here, (λ t. le_true (here.steps t) bound (none_within before w there here none t)), more))

  leads_well : (events : List Event) (last : World L) → LeadsBy (within bound) p start events last → AllFeasible (numbered p) s bound events
  leads_well events last h front back e q =
      let (w, there, (next, fires, passes, more)) = by_split p (within bound) front (e ∷ back) start last (subst (λ es. LeadsBy (within bound) p start es last) q h) in (
        within_none front w there fires (λ t. le_is (fires.steps t) bound (passes t)),
        feasible_back p IsProper lawful s opening proper (front ++ e ∷ []) next (leads_append p front (e ∷ []) start w next there (next, fires, refl)),
      )

  pub well_exactly : (events : List Event) → AllFeasible (numbered p) s bound events ↔ ((last : World L) × LeadsBy (within bound) p start events last)
  well_exactly events = (λ well. well_leads [] events start refl well, λ h. leads_well events h.0 h.1)
