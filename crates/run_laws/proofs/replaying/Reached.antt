-- Worlds of the original that are reached: they are sound, what is known of their events is so, and they go on.
use Rattle.std.proofs.Common.{◌≡◌, ℕ, ◌<◌, true, false, not, if◌then◌else◌, List, [], ◌∷◌, ◌++◌, refl, sym, ap, ◌∙◌, subst, append-nil}
use Rattle.event_machine.specs.declared.Standing.TheVariants.{Live}
use Rattle.event_machine.specs.declared.Event.{Event}
use Rattle.event_machine.specs.declared.Event.TheVariants.{Z}
use Rattle.event_machine.specs.Worlds.{World, Move, Step, Happen, can_move, moved, happens, happened}
use Rattle.event_machine.specs.Admitting.{IsAdmitted}
use Rattle.event_machine.specs.Soundness.{IsSound, times}
use Rattle.event_machine.proofs.Basics.{both}
use Rattle.event_machine.proofs.Appends.{moves_append, world_append, happened_append}
use Rattle.event_machine.proofs.Bases.{IsBase}
use Rattle.event_machine.proofs.Walking.{sound_moves}
use Rattle.event_machine.proofs.Reaching.{start_base}
use Rattle.run_laws.specs.replaying.Scripts.{Progress, known, is_other}
use Rattle.run_laws.specs.replaying.Rewritings.{Setting, start}
use Rattle.run_laws.specs.replaying.inner.Stages.{IsReached}

pub known_snoc : {G : Type 0} (progress : Progress G) (g : G) (past : List Event) (e : Event) →
    known progress g (past ++ (e ∷ [])) ≡ progress.advance (known progress g past) e
known_snoc progress g [] e = refl
known_snoc progress g (c ∷ past) e = known_snoc progress (progress.advance g c) past e

module _ (x : Setting) where
  -- what is known after the events
  abbrev pub after_all : List Event → x.G
  after_all past = known x.progress x.progress.start past

  pub base : IsBase x.p x.IsProper x.lawful (start x)
  base = start_base x.p x.IsProper x.lawful x.opening x.opens_so x.proper

  pub reach_start : IsReached x [] (start x)
  reach_start = record { moves = []; made = tt; happens = refl; ends = refl }

  reach_move : (past : List Event) (d : World x.L) (move : Move) → IsReached x past d → can_move x.p d move ≡ true → IsReached x (past ++ happened (move ∷ [])) (moved x.p d move)
  reach_move past d move r h = record {
    moves = r.moves ++ (move ∷ []);
    made = moves_append x.p (start x) r.moves (move ∷ []) r.made (subst (λ v. can_move x.p v move ≡ true) (sym r.ends) h, tt);
    happens = happened_append r.moves (move ∷ []) ∙ ap (λ es. es ++ happened (move ∷ [])) r.happens;
    ends = world_append x.p (start x) r.moves (move ∷ []) ∙ ap (λ v. moved x.p v move) r.ends;
  }

  pub reach_step : (past : List Event) (d : World x.L) (t : ℕ) → IsReached x past d → can_move x.p d (Step t) ≡ true → IsReached x past (moved x.p d (Step t))
  reach_step past d t r h = subst (λ es. IsReached x es (moved x.p d (Step t))) (append-nil past) (reach_move past d (Step t) r h)

  pub reach_event : (past : List Event) (d : World x.L) (e : Event) → IsReached x past d → d.ended ≡ false → happens x.p d.tasks e ≡ true →
      IsReached x (past ++ (e ∷ [])) (moved x.p d (Happen e))
  reach_event past d e r runs h = reach_move past d (Happen e) r (both (ap not runs) h)

  module _ (past : List Event) (d : World x.L) (r : IsReached x past d) where
    pub reached_sound : IsSound x.p.ops x.IsProper d.tasks
    reached_sound = subst (λ (v : World x.L). IsSound x.p.ops x.IsProper v.tasks) r.ends (sound_moves x.p x.IsProper x.lawful r.moves (start x) base.sound r.made)

    pub reached_fine : d.ended ≡ false → (t : ℕ) → t < x.p.size → (d.tasks t).standing ≡ Live → x.Fine (d.tasks t).local
    reached_fine runs t below free = subst (λ (v : World x.L). (v.tasks t).standing ≡ Live → x.Fine (v.tasks t).local) r.ends
        (x.fine r.moves r.made (ap (λ (v : World x.L). v.ended) r.ends ∙ runs) t below) free

    pub reached_admitted : (e : Event) → d.ended ≡ false → x.progress.admits (after_all past) e ≡ true → IsAdmitted x.p.owner d.tasks e
    reached_admitted e runs h = subst (λ (v : World x.L). IsAdmitted x.p.owner v.tasks e) r.ends
        (x.knows.admitted r.moves e r.made (ap (λ (v : World x.L). v.ended) r.ends ∙ runs) (ap (λ es. x.progress.admits (after_all es) e) r.happens ∙ h))

    pub reached_complete : (e : Event) → d.ended ≡ false → happens x.p d.tasks e ≡ true → x.progress.admits (after_all past) e ≡ true
    reached_complete e runs h = ap (λ es. x.progress.admits (after_all es) e) (sym r.happens) ∙
        x.knows.complete r.moves e r.made (ap (λ (v : World x.L). v.ended) r.ends ∙ runs) (ap (λ (v : World x.L). happens x.p v.tasks e) r.ends ∙ h)

    pub reached_others : (t : ℕ) → d.ended ≡ false → x.progress.admits (after_all past) Z ≡ true →
        times t (x.progress.others (after_all past)) ≡ (if is_other x.p d t then 1 else 0)
    reached_others t runs h = ap (λ es. times t (x.progress.others (after_all es))) (sym r.happens) ∙
        x.knows.others r.moves r.made (ap (λ (v : World x.L). v.ended) r.ends ∙ runs) (ap (λ es. x.progress.admits (after_all es) Z) r.happens ∙ h) t ∙
        ap (λ v. if is_other x.p v t then 1 else 0) r.ends
