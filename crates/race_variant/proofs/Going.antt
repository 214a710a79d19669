-- The turns of going on: how it ends by itself, and one more event.
use Rattle.std.proofs.Common.{◌≡◌, ℕ, ◌%◌, ◌<◌, true, false, List, [], ◌∷◌, ◌++◌, take, length, refl, sym, ap, ◌∙◌, subst, arith, Option, Some, None, append_assoc}
use Rattle.std.proofs.lemmas.List.{append-nil}
use Rattle.std.specs.Fn.{iterate}
use Rattle.std.specs.Prelude.{slice_get}
use Rattle.std.specs.List.{Contains}
use Rattle.event_machine.specs.declared.Event.{Event}
use Rattle.event_machine.specs.Tallies.{HasNoEnd}
use Rattle.syn_event.specs.Numbering.{Numbering}
use Rattle.task_model.specs.Machine.{ProgramWithInputs}
use Rattle.task_machine.specs.Judging.{VerdictIs}
use Rattle.task_machine.specs.declared.verdict.Verdict.TheVariants.{Feasible}
use Rattle.common_lemmas.proofs.Lists.{element_at, short_empty}
use Rattle.task_machine.proofs.OneVerdict.{verdict_unique}
use Rattle.feasible.specs.Keeping.{StandsFor, HaveEnded, is_feasible}
use Rattle.feasible.specs.Kept.{Kept}
use Rattle.feasible.proofs.Resting.{all_taken, no_end}
use Rattle.race_variant.specs.Variants.{AreVariants, CanFollow}
use Rattle.race_variant.specs.Continuing.{IsPicked, EndsSo, AreChosen}
use Rattle.race_variant.specs.declared.continuing.GoEnd.{GoEnd}
use Rattle.race_variant.specs.declared.continuing.GoEnd.TheVariants.{Stuck, Open, Count}
use Rattle.race_variant.specs.inner.Choosing.{HaltsBy, IsOneMore, LeavesFeasible, AreChosenBy, HasGoneOn, HasEnded}
use Rattle.race_variant.proofs.Choices.{in_at, turn_last, none_chosen, one_chosen}

-- ---- what a judge stands for

-- A judge that was given an event that can come next has found it feasible.
pub given_feasible : (setup : ProgramWithInputs) (events : List Event) (old new : Kept) (e : Event) → StandsFor setup (events ++ e ∷ []) new → new.numbers ≡ old.numbers → new.bound ≡ old.bound →
    CanFollow setup old.numbers old.bound events e → is_feasible new.verdict ≡ true
given_feasible setup events old new e s numbers bound follows =
    let there : VerdictIs setup old.numbers old.bound (events ++ e ∷ []) new.verdict =
    subst (λ n. VerdictIs setup n old.bound (events ++ e ∷ []) new.verdict) numbers (subst (λ b. VerdictIs setup new.numbers b (events ++ e ∷ []) new.verdict) bound s.verdict) in
    ap is_feasible (verdict_unique setup old.numbers old.bound (events ++ e ∷ []) new.verdict Feasible there follows.1)

-- ---- how it ends by itself

module _ (setup : ProgramWithInputs) (events : List Event) (numbers : Numbering) (bound : ℕ) where
  -- nothing can come next
  no_follower : (unsettled : List ℕ) → AreVariants setup numbers bound events None [] unsettled → (e : Event) → CanFollow setup numbers bound events e → ⊥
  no_follower unsettled v e follows =
      let k : Contains [] e = (v.members e).1 (follows, λ (same : ◌≡◌ {A = Option Event} None (Some e)). (cc)) in
      let less : k.0 < 0 = k.1 in omega arith

  pub halts_stuck : HasNoEnd events → AreVariants setup numbers bound events None [] [] → EndsSo setup numbers bound events Stuck
  halts_stuck more v = (
    more,
    no_follower [] v,
    λ t held. let k : Contains [] t = (v.open_tasks t).1 held in let less : k.0 < 0 = k.1 in omega arith,
  )

  pub halts_open : (t : ℕ) (rest : List ℕ) → AreVariants setup numbers bound events None [] (t ∷ rest) → EndsSo setup numbers bound events Open
  halts_open t rest v = (no_follower (t ∷ rest) v, (t, (v.open_tasks t).0 (0, omega arith, refl)))

-- Where nothing was found, the program runs and no task is open, it is stuck.
pub stuck_here : (setup : ProgramWithInputs) (events : List Event) (old new : Kept) (found : List Event) (unsettled : List ℕ) → StandsFor setup events new → is_feasible new.verdict ≡ true → new.ended ≡ false →
    length found ≡ 0 → length unsettled ≡ 0 → AreVariants setup old.numbers old.bound events None found unsettled → EndsSo setup old.numbers old.bound events Stuck
stuck_here setup events old new found unsettled s well running none nobody v =
    halts_stuck setup events old.numbers old.bound (no_end setup events new s well running)
    (subst (λ us. AreVariants setup old.numbers old.bound events None [] us) (short_empty unsettled (omega arith))
    (subst (λ fs. AreVariants setup old.numbers old.bound events None fs unsettled) (short_empty found (omega arith)) v))

-- Where nothing was found and a task is open, it ends by that.
pub open_here : (setup : ProgramWithInputs) (events : List Event) (old : Kept) (found : List Event) (unsettled : List ℕ) → length found ≡ 0 → (length unsettled ≡ 0 → ⊥) →
    AreVariants setup old.numbers old.bound events None found unsettled → EndsSo setup old.numbers old.bound events Open
open_here setup events old found [] none some v = absurd (some refl)
open_here setup events old found (t ∷ rest) none some v =
    halts_open setup events old.numbers old.bound t rest (subst (λ fs. AreVariants setup old.numbers old.bound events None fs (t ∷ rest)) (short_empty found (omega arith)) v)

-- Where the program has ended, it is that.
pub halts_ended : (setup : ProgramWithInputs) (events : List Event) (new : Kept) → StandsFor setup events new → is_feasible new.verdict ≡ true → HaveEnded (take new.taken events) → HaveEnded events
halts_ended setup events new s well ended = subst HaveEnded (all_taken setup events new s well) ended

-- ---- one more event

module _ {C : Type 0} (word : C → ℕ) (next : C → C) (j0 : Kept) (c0 : C) where
  pub gone_none : is_feasible j0.verdict ≡ true → HasGoneOn word next j0 c0 [] j0 c0
  gone_none well = record {
    chosen_by = record {
      picked = λ setup events s. none_chosen setup j0.numbers j0.bound word next events c0;
      feasible = λ setup events s. well;
      numbers = refl;
      bound = refl;
    };
    stands = λ setup events s. subst (λ es. StandsFor setup es j0) (sym (append-nil events)) s;
    turns = refl;
    kept = λ h. h;
  }

  -- the same judge with other tasks
  pub chosen_stays : (chosen : List Event) (j j1 : Kept) → AreChosenBy word next j0 c0 chosen j → j1.numbers ≡ j.numbers → j1.bound ≡ j.bound → j1.verdict ≡ j.verdict → AreChosenBy word next j0 c0 chosen j1
  chosen_stays chosen j j1 h numbers bound verdict = record {
    picked = h.picked;
    feasible = λ setup events s. ap is_feasible verdict ∙ h.feasible setup events s;
    numbers = numbers ∙ h.numbers;
    bound = bound ∙ h.bound;
  }

  module _ (chosen : List Event) (j : Kept) (c : C) (g : HasGoneOn word next j0 c0 chosen j c) where
    -- how it ends, in the numbers that the judge had before
    ends_here : (setup : ProgramWithInputs) (events : List Event) (end : GoEnd) → EndsSo setup j.numbers j.bound (events ++ chosen) end → EndsSo setup j0.numbers j0.bound (events ++ chosen) end
    ends_here setup events end h =
        subst (λ n. EndsSo setup n j0.bound (events ++ chosen) end) g.chosen_by.numbers (subst (λ b. EndsSo setup j.numbers b (events ++ chosen) end) g.chosen_by.bound h)

    -- it ended by itself
    pub gone_halted : (most : ℕ) (end : GoEnd) → (end ≡ Count → ⊥) →
        ((setup : ProgramWithInputs) (events : List Event) → StandsFor setup events j → is_feasible j.verdict ≡ true → EndsSo setup j.numbers j.bound events end) → HasEnded j0 most chosen end
    gone_halted most end no_count halts = record {
      ends = λ setup events s. ends_here setup events end (halts setup (events ++ chosen) (g.stands setup events s) (g.chosen_by.feasible setup events s));
      all = λ same. absurd (no_count same);
    }

    -- all are chosen, and one more can come next
    pub gone_counted : (most : ℕ) (found : List Event) → length chosen ≡ most → 0 < length found →
        ((setup : ProgramWithInputs) (events : List Event) → StandsFor setup events j → is_feasible j.verdict ≡ true → HaltsBy setup j.numbers j.bound events found None) → HasEnded j0 most chosen Count
    gone_counted most found all some halts = record {
      ends = λ setup events s. ends_here setup events Count
          (let (unsettled, v) = halts setup (events ++ chosen) (g.stands setup events s) (g.chosen_by.feasible setup events s) in
          let (e, at) = element_at found 0 some in (e, ((v.members e).0 (in_at found 0 e at)).0));
      all = λ same. all;
    }

    -- ---- after a look

    module _ (j1 : Kept) (stands1 : (setup : ProgramWithInputs) (events : List Event) → StandsFor setup events j → StandsFor setup events j1)
        (numbers1 : j1.numbers ≡ j.numbers) (bound1 : j1.bound ≡ j.bound) (verdict1 : j1.verdict ≡ j.verdict) where
      -- the judge that has looked
      pub gone_looked : j.lost ≡ false → HasGoneOn word next j0 c0 chosen j1 c
      gone_looked kept = record {
        chosen_by = chosen_stays chosen j j1 g.chosen_by numbers1 bound1 verdict1;
        stands = λ setup events s. stands1 setup (events ++ chosen) (g.stands setup events s);
        turns = g.turns;
        kept = λ h. g.kept kept;
      }

      module _ (found : List Event) (halts : (setup : ProgramWithInputs) (events : List Event) → StandsFor setup events j → is_feasible j.verdict ≡ true → HaltsBy setup j.numbers j.bound events found None)
          (j2 : Kept) (numbers2 : j2.numbers ≡ j1.numbers) (bound2 : j2.bound ≡ j1.bound) (well2 : LeavesFeasible found j1 j2) where
        -- all that was found can come next
        follow : (setup : ProgramWithInputs) (events : List Event) → StandsFor setup events j0 → (e : Event) → Contains found e → CanFollow setup j1.numbers j1.bound (events ++ chosen) e
        follow setup events s e k =
            let (unsettled, v) = halts setup (events ++ chosen) (g.stands setup events s) (g.chosen_by.feasible setup events s) in
            subst (λ n. CanFollow setup n j1.bound (events ++ chosen) e) (sym numbers1) (subst (λ b. CanFollow setup j.numbers b (events ++ chosen) e) (sym bound1) ((v.members e).0 k).0)

        well_there : (setup : ProgramWithInputs) (events : List Event) → StandsFor setup events j0 → is_feasible j2.verdict ≡ true
        well_there setup events s =
            well2 setup (events ++ chosen) (stands1 setup (events ++ chosen) (g.stands setup events s)) (ap is_feasible verdict1 ∙ g.chosen_by.feasible setup events s) (follow setup events s)

        -- nothing more was chosen, for want of memory
        pub gone_broken : AreChosenBy word next j0 c0 chosen j2
        gone_broken = record {
          picked = g.chosen_by.picked;
          feasible = well_there;
          numbers = numbers2 ∙ numbers1 ∙ g.chosen_by.numbers;
          bound = bound2 ∙ bound1 ∙ g.chosen_by.bound;
        }

        -- one more was chosen
        pub gone_more : (c2 : C) (chosen' : List Event) → IsOneMore word next found c c2 chosen chosen' j1 j2 → (j2.lost ≡ false → j0.lost ≡ false) → HasGoneOn word next j0 c0 chosen' j2 c2
        gone_more c2 chosen' o kept = record {
          chosen_by = record {
            picked = λ setup events s. subst (AreChosen word next setup j0.numbers j0.bound events c0) (sym o.chosen)
                (one_chosen setup j0.numbers j0.bound word next events c0 chosen o.event (g.chosen_by.picked setup events s) (is_picked setup events s));
            feasible = well_there;
            numbers = numbers2 ∙ numbers1 ∙ g.chosen_by.numbers;
            bound = bound2 ∙ bound1 ∙ g.chosen_by.bound;
          };
          stands = λ setup events s. subst (λ es. StandsFor setup es j2) (append_assoc events chosen (o.event ∷ []) ∙ ap (λ es. events ++ es) (sym o.chosen))
              (o.stands setup (events ++ chosen) (stands1 setup (events ++ chosen) (g.stands setup events s)) (follow setup events s o.event (in_at found (word c % length found) o.event o.place)).0);
          turns = o.chooser ∙ ap next g.turns ∙ sym (turn_last next chosen o.event c0) ∙ ap (λ es. iterate next (length es) c0) (sym o.chosen);
          kept = kept;
        }
          where
            is_picked : (setup : ProgramWithInputs) (events : List Event) → StandsFor setup events j0 →
                IsPicked setup j0.numbers j0.bound (events ++ chosen) (word (iterate next (length chosen) c0)) o.event
            is_picked setup events s =
                let (unsettled, v) = halts setup (events ++ chosen) (g.stands setup events s) (g.chosen_by.feasible setup events s) in
                record {
                  found = found;
                  unsettled = unsettled;
                  variants = subst (λ n. AreVariants setup n j0.bound (events ++ chosen) None found unsettled) g.chosen_by.numbers
                      (subst (λ b. AreVariants setup j.numbers b (events ++ chosen) None found unsettled) g.chosen_by.bound v);
                  place = ap (λ d. slice_get found (word d % length found)) (sym g.turns) ∙ o.place;
                }
