-- Worlds of the original that are reached: they are come to, past their last task all have completed, and they go on.
use Rattle.std.proofs.Common.{◌≡◌, ℕ, true, false, not, List, [], ◌∷◌, ◌++◌, refl, sym, ap, ◌∙◌, subst, append-nil}
use Rattle.event_machine.specs.declared.Event.{Event}
use Rattle.event_machine.specs.Worlds.{World, Move, Step, Happen, can_move, moved, happens, happened}
use Rattle.event_machine.proofs.Basics.{both}
use Rattle.event_machine.proofs.Appends.{moves_append, world_append, happened_append}
use Rattle.event_machine.proofs.Bases.{IsBase}
use Rattle.event_machine.proofs.Reaching.{start_base}
use Rattle.run_laws.specs.imitation.Imitations.{Original, start, IsComeTo}
use Rattle.run_laws.proofs.imitation.Following.{IsOver, come_after}
use Rattle.run_laws.proofs.imitation.Rested.{over_after}
use Rattle.run_laws.specs.collecting.inner.Beside.{IsReached}

module _ (o : Original) where
  pub base : IsBase o.p o.IsProper o.lawful (start o)
  base = start_base o.p o.IsProper o.lawful o.opening o.opens_so o.proper

  pub come_first : IsComeTo o (start o)
  come_first = record { known = o.known_first; sound = base.sound }

  pub reach_start : IsReached o [] (start o)
  reach_start = record { moves = []; made = tt; happens = refl; ends = refl }

  reach_move : (past : List Event) (d : World o.L) (move : Move) → IsReached o past d → can_move o.p d move ≡ true → IsReached o (past ++ happened (move ∷ [])) (moved o.p d move)
  reach_move past d move r h = record {
    moves = r.moves ++ (move ∷ []);
    made = moves_append o.p (start o) r.moves (move ∷ []) r.made (subst (λ v. can_move o.p v move ≡ true) (sym r.ends) h, tt);
    happens = happened_append r.moves (move ∷ []) ∙ ap (λ es. es ++ happened (move ∷ [])) r.happens;
    ends = world_append o.p (start o) r.moves (move ∷ []) ∙ ap (λ v. moved o.p v move) r.ends;
  }

  pub reach_step : (past : List Event) (d : World o.L) (t : ℕ) → IsReached o past d → can_move o.p d (Step t) ≡ true → IsReached o past (moved o.p d (Step t))
  reach_step past d t r h = subst (λ es. IsReached o es (moved o.p d (Step t))) (append-nil past) (reach_move past d (Step t) r h)

  pub reach_event : (past : List Event) (d : World o.L) (e : Event) → IsReached o past d → d.ended ≡ false → happens o.p d.tasks e ≡ true →
      IsReached o (past ++ (e ∷ [])) (moved o.p d (Happen e))
  reach_event past d e r runs h = reach_move past d (Happen e) r (both (ap not runs) h)

  pub reached_come : (past : List Event) (d : World o.L) → IsReached o past d → IsComeTo o d
  reached_come past d r = subst (IsComeTo o) r.ends (come_after o r.moves (start o) come_first r.made)

  pub reached_over : (past : List Event) (d : World o.L) → IsReached o past d → IsOver o d
  reached_over past d r = subst (IsOver o) r.ends (over_after o r.moves (start o) come_first base.beyond r.made)
