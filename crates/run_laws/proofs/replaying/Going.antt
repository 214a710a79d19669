-- The copy goes on with exactly the next events, as far as they are feasible.
use Rattle.std.proofs.Common.{◌≡◌, ℕ, ◌≤◌, true, false, not, ◌==◌, List, [], ◌∷◌, ◌++◌, append_assoc, append-nil, refl, sym, ap, ap₂, ◌∙◌, subst, true≢false}
use Rattle.std.proofs.lemmas.Bool.{and_parts, or_right}
use Rattle.event_machine.specs.declared.Event.{Event}
use Rattle.event_machine.specs.States.{is_completed}
use Rattle.event_machine.specs.Runs.{Feasible}
use Rattle.event_machine.specs.Programs.{numbered}
use Rattle.event_machine.specs.Soundness.{times}
use Rattle.event_machine.specs.Settling.{Fires, Leads, Follows}
use Rattle.event_machine.specs.Worlds.{World, Move, Happen, can_move, moved, happens, happened, AreMoves, world_after, counts_after}
use Rattle.event_machine.proofs.Appends.{moves_append, happened_append}
use Rattle.event_machine.proofs.Following.{leads_once}
use Rattle.event_machine.proofs.Walking.{leads_split, follow_moves, follows_self}
use Rattle.event_machine.proofs.Bases.{base_leads}
use Rattle.event_machine.proofs.Resting.{feasible_leads}
use Rattle.event_machine.proofs.Extending.{extend, feasible_before}
use Rattle.run_laws.specs.replaying.Copies.{Copy}
use Rattle.run_laws.specs.replaying.Rewritings.{Setting, start, twin}
use Rattle.run_laws.specs.replaying.Laws.{backs}
use Rattle.run_laws.specs.replaying.inner.Stages.{image, image_world, Stage, Held, Giving, Asked, Acted, Told, Parted, Over, member, in_order, Inv}
use Rattle.run_laws.proofs.replaying.Reached.{base, reached_complete}
use Rattle.run_laws.proofs.replaying.Afterwards.{Matched}
use Rattle.run_laws.proofs.replaying.Parting.{IsReady}
use Rattle.run_laws.proofs.replaying.Matching.{match_move}
use Rattle.run_laws.proofs.replaying.Tracking.{backs_append}
use Rattle.run_laws.proofs.replaying.Steering.{Led, settle, Mirrored, mirror}
use Rattle.run_laws.proofs.replaying.Granting.{takers_once, taker_rests, grant}
use Rattle.run_laws.proofs.replaying.Firing.{Shown, fire}

member_order : (t : ℕ) (given more : List ℕ) → member t more ≡ true → member t (in_order given more) ≡ true
member_order t [] more h = h
member_order t (u ∷ given) more h = member_order t given (u ∷ more) (or_right (t == u) (member t more) h)

append_cancel : (front xs ys : List Event) → front ++ xs ≡ front ++ ys → xs ≡ ys
append_cancel [] xs ys h = h
append_cancel (e ∷ front) xs ys h = append_cancel front xs ys (let k : e ∷ (front ++ xs) ≡ e ∷ (front ++ ys) = h in cc)

module _ (x : Setting) where
  -- ---- the invariant behind moves

  pub match_moves : (moves : List Move) (past rest : List Event) (stage : Stage) (w : World (Copy x.L)) → Inv x past rest stage w → AreMoves (twin x) w moves →
      Matched x (past ++ backs x (happened moves)) (world_after (twin x) w moves)
  match_moves [] past rest stage w inv h = record { rest = rest; stage = stage; inv = subst (λ es. Inv x es rest stage w) (sym (append-nil past)) inv }
  match_moves (move ∷ moves) past rest stage w inv h =
      let m = match_move x past rest stage w inv move h.0 in
      subst (λ es. Matched x es (world_after (twin x) (moved (twin x) w move) moves))
      (append_assoc past (backs x (happened (move ∷ []))) (backs x (happened moves)) ∙
      ap (λ es. past ++ es) (sym (backs_append x (happened (move ∷ [])) (happened moves)) ∙ ap (backs x) (sym (happened_append (move ∷ []) moves))))
      (match_moves moves (past ++ backs x (happened (move ∷ []))) m.rest m.stage (moved (twin x) w move) m.inv h.1)

  -- ---- what feasible means where the copy is

  -- local steps of the original after which the event can happen
  record Extended (w : World (Copy x.L)) (e : Event) : Type 0 where
    runs : w.ended ≡ false
    moves : List Move
    made : AreMoves x.p (image_world x w) moves
    silent : happened moves ≡ []
    can : can_move x.p (world_after x.p (image_world x w) moves) (Happen e) ≡ true

  extended : (past rest : List Event) (stage : Stage) (w : World (Copy x.L)) (e : Event) → Inv x past rest stage w → Feasible (numbered x.p) x.opening (past ++ (e ∷ [])) → Extended w e
  extended past rest stage w e inv h = go
      (follow_moves x.p x.IsProper x.lawful inv.reached.moves (start x) (start x) (λ u. 0) (base x).sound (follows_self x.p (start x)) inv.reached.made)
      (feasible_leads x.p x.IsProper x.lawful x.opening x.opens_so x.proper (past ++ (e ∷ [])) h)
    where
      go : (bases : World x.L) × Leads x.p (start x) (happened inv.reached.moves) bases ×
          Follows x.p bases (world_after x.p (start x) inv.reached.moves) (counts_after x.p (start x) inv.reached.moves (λ u. 0)) →
          (u : World x.L) × Leads x.p (start x) (past ++ (e ∷ [])) u → Extended w e
      go (bases, leads, follows) (u, lead) = inner (leads_split x.p past (e ∷ []) (start x) u lead)
        where
          leads' : Leads x.p (start x) past bases
          leads' = subst (λ es. Leads x.p (start x) es bases) inv.reached.happens leads

          follows' : Follows x.p bases (image_world x w) (counts_after x.p (start x) inv.reached.moves (λ u. 0))
          follows' = subst (λ v. Follows x.p bases v (counts_after x.p (start x) inv.reached.moves (λ u. 0))) inv.reached.ends follows

          beyond : (t : ℕ) → x.p.size ≤ t → is_completed (bases.tasks t).standing ≡ true
          beyond = (base_leads x.p x.IsProper x.lawful past (start x) bases leads' (base x)).beyond

          inner : (v : World x.L) × Leads x.p (start x) past v × Leads x.p v (e ∷ []) u → Extended w e
          inner (v, a, (last, fires, same)) =
              let f : Fires x.p bases e last = subst (λ z. Fires x.p z e last) (leads_once x.p past (start x) v bases a leads') fires in
              let (add, walk, can, none) = extend x.p f (image_world x w) (counts_after x.p (start x) inv.reached.moves (λ u. 0)) follows' beyond in
              record { runs = follows'.ended ∙ f.runs; moves = walk.moves; made = walk.made; silent = walk.silent; can = can }

  -- ---- one event

  pub goes_one : (past rest : List Event) (stage : Stage) (w : World (Copy x.L)) (e : Event) (tail : List Event) → Inv x past rest stage w → rest ≡ e ∷ tail →
      Feasible (numbered x.p) x.opening (past ++ (e ∷ [])) → Shown x w e
  goes_one past rest stage w e tail inv next h = go (settle x past rest stage w inv (extended past rest stage w e inv h).runs)
    where
      -- where the controller gives permits
      given_here : (ready : Stage) (w2 : World (Copy x.L)) → IsReady ready → Inv x past rest ready w2 → w2.ended ≡ false → happens x.p (image x w2.tasks) e ≡ true → Shown x w2 e
      given_here Held w2 r inv2 runs holds = absurd (true≢false (sym (reached_complete x past (image_world x w2) inv2.reached e runs holds) ∙ inv2.fits.1 e tail next))
      given_here (Giving f more given to_give) w2 r inv2 runs holds =
          let k : f ∷ more ≡ e ∷ tail = sym inv2.fits.1 ∙ next in
          let same : f ≡ e = cc in
          let here : Inv x past rest (Giving e more given to_give) w2 = subst (λ z. Inv x past rest (Giving z more given to_give) w2) same inv2 in
          let (all, led) = grant x past rest e more to_give given w2 here
          (λ t m. taker_rests x past w2 here.reached runs e here.fits.2 holds t (ap (member t) (sym here.fits.3) ∙ member_order t given to_give m))
          (λ t. subst (λ ts. times t ts ≤ 1) (sym here.fits.3) (takers_once x past w2 here.reached runs e here.fits.2 t)) in
          let w3 : World (Copy x.L) = world_after (twin x) w2 led.moves in
          let s : Shown x w3 e = fire x past rest e more all w3 led.inv (led.runs ∙ runs) (ap (λ g. happens x.p g e) led.same ∙ holds) in
          record {
            moves = led.moves ++ s.moves;
            made = moves_append (twin x) w2 led.moves s.moves led.made s.made;
            shows' = ap (backs x) (happened_append led.moves s.moves) ∙ backs_append x (happened led.moves) (happened s.moves) ∙ ap₂ (λ xs ys. xs ++ ys) led.silent s.shows';
          }
      given_here (Asked f more given a to_give) w2 r inv2 runs holds = absurd r
      given_here (Acted a) w2 r inv2 runs holds = absurd r
      given_here (Told a) w2 r inv2 runs holds = absurd r
      given_here (Parted a) w2 r inv2 runs holds = absurd r
      given_here Over w2 r inv2 runs holds = absurd r

      go : (ready : Stage) × IsReady ready × Led x past rest ready w → Shown x w e
      go (ready, r, led) =
          let w1 : World (Copy x.L) = world_after (twin x) w led.moves in
          let ex : Extended w1 e = extended past rest ready w1 e led.inv h in
          let m : Mirrored x past rest ready w1 ex.moves = mirror x past rest ready r ex.moves w1 led.inv ex.runs ex.made ex.silent in
          let w2 : World (Copy x.L) = world_after (twin x) w1 ex.moves in
          let holds : happens x.p (image x w2.tasks) e ≡ true = ap (λ (v : World x.L). happens x.p v.tasks e) m.same ∙
          (and_parts (not (world_after x.p (image_world x w1) ex.moves).ended) (happens x.p (world_after x.p (image_world x w1) ex.moves).tasks e) ex.can).1 in
          let s : Shown x w2 e = given_here ready w2 r m.inv (m.runs ∙ ex.runs) holds in
          record {
            moves = led.moves ++ (ex.moves ++ s.moves);
            made = moves_append (twin x) w led.moves (ex.moves ++ s.moves) led.made (moves_append (twin x) w1 ex.moves s.moves m.made s.made);
            shows' = ap (backs x) (happened_append led.moves (ex.moves ++ s.moves)) ∙ backs_append x (happened led.moves) (happened (ex.moves ++ s.moves)) ∙
                ap₂ (λ xs ys. xs ++ ys) led.silent
                (ap (backs x) (happened_append ex.moves s.moves) ∙ backs_append x (happened ex.moves) (happened s.moves) ∙ ap₂ (λ xs ys. xs ++ ys) (ap (backs x) ex.silent) s.shows');
          }

  -- ---- as many events as are feasible

  pub record Far (w : World (Copy x.L)) (events : List Event) : Type 0 where
    pub moves : List Move
    pub made : AreMoves (twin x) w moves
    pub shows' : backs x (happened moves) ≡ events

  pub goes_all : (events past rest : List Event) (stage : Stage) (w : World (Copy x.L)) (tail : List Event) → Inv x past rest stage w → x.s ≡ past ++ (events ++ tail) →
      Feasible (numbered x.p) x.opening (past ++ events) → Far w events
  goes_all [] past rest stage w tail inv splits h = record { moves = []; made = tt; shows' = refl }
  goes_all (e ∷ events) past rest stage w tail inv splits h =
      let next : rest ≡ e ∷ (events ++ tail) = append_cancel past rest (e ∷ (events ++ tail)) (inv.splits ∙ splits) in
      let one : Feasible (numbered x.p) x.opening (past ++ (e ∷ [])) = feasible_before x.p x.IsProper x.lawful x.opening x.opens_so x.proper (past ++ (e ∷ [])) events
      (subst (Feasible (numbered x.p) x.opening) (sym (append_assoc past (e ∷ []) events)) h) in
      let s : Shown x w e = goes_one past rest stage w e (events ++ tail) inv next one in
      let w1 : World (Copy x.L) = world_after (twin x) w s.moves in
      let m : Matched x (past ++ (e ∷ [])) w1 = subst (λ es. Matched x (past ++ es) w1) s.shows' (match_moves s.moves past rest stage w inv s.made) in
      let r : Far w1 events = goes_all events (past ++ (e ∷ [])) m.rest m.stage w1 tail m.inv (splits ∙ sym (append_assoc past (e ∷ []) (events ++ tail)))
      (subst (Feasible (numbered x.p) x.opening) (sym (append_assoc past (e ∷ []) events)) h) in
      record {
        moves = s.moves ++ r.moves;
        made = moves_append (twin x) w s.moves r.moves s.made r.made;
        shows' = ap (backs x) (happened_append s.moves r.moves) ∙ backs_append x (happened s.moves) (happened r.moves) ∙ ap₂ (λ xs ys. xs ++ ys) s.shows' r.shows';
      }
