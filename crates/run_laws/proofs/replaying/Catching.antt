-- The rewritten program makes the moves of its copy: its tasks catch up by local steps that write nothing, and then the event can happen.
use Rattle.std.proofs.Common.{◌≡◌, ℕ, zero, suc, ◌<◌, ◌≤◌, Bool, true, false, not, ◌&&◌, ◌||◌, ◌==◌, if◌then◌else◌, List, [], ◌∷◌, ◌++◌, refl, sym, ap, ap₂, ◌∙◌, subst, ⊎_elim, true≢false, arith}
use Rattle.std.proofs.lemmas.Bool.{eqb-true, and_parts, or_left, or_right, or_cases, cases_lt, ne_eqb}
use Rattle.event_machine.specs.declared.Standing.{Standing}
use Rattle.event_machine.specs.declared.Standing.TheVariants.{Live}
use Rattle.event_machine.specs.declared.Event.{Event}
use Rattle.event_machine.specs.declared.Event.TheVariants.{R, E, S, D, C, T, F, X, B, Z}
use Rattle.event_machine.specs.Offers.{Offer, Nothing, calls_in, is_any_form, is_conditional, is_timed, waits_with, is_finish, is_end, opens, is_else, is_delay, is_terminate}
use Rattle.event_machine.specs.States.{Ops, Seat, live, is_live, is_closed, is_completed}
use Rattle.event_machine.specs.Worlds.{World, Move, Step, Happen, can_move, moved, happens, happened, is_last, offers, others_end, aborts, AreMoves, world_after}
use Rattle.event_machine.proofs.Basics.{both}
use Rattle.event_machine.proofs.Standings.{is-Live}
use Rattle.event_machine.proofs.Appends.{moves_append, world_append, happened_append}
use Rattle.run_laws.specs.replaying.Copies.{Copy, copy_ops, copy_steps, copy_stepped, copy_offer}
use Rattle.run_laws.specs.replaying.Rewritings.{Setting, twin, ReachesIn, Reaches, Imitates}
use Rattle.run_laws.specs.replaying.Laws.{backs}
use Rattle.run_laws.specs.replaying.inner.Stages.{Stage, Inv}
use Rattle.run_laws.proofs.replaying.Facts.{put, put_self, put_other}
use Rattle.run_laws.proofs.replaying.Matching.{match_move, steps_fine, event_moves}
use Rattle.run_laws.proofs.replaying.Twins.{copy_rests}
use Rattle.run_laws.proofs.replaying.Alike.{rewritten, LocalsAt, IsAlike, AreAlike, freed_alike, acts_alike}
use Rattle.common_lemmas.proofs.Truth.{not_true}

module _ (x : Setting) {K : Type 0} (ops : Ops K) (out : K → List ℕ) (Meets : K → Copy x.L → Type 0) (imitates : Imitates x ops out Meets) where
  -- ---- one task catches up

  -- A world with the same copy, after local steps.
  pub record Caught (v : World K) (w : World (Copy x.L)) (n : ℕ) : Type 0 where
    pub moves : List Move
    pub made : AreMoves (rewritten x ops out Meets imitates) v moves
    pub silent : happened moves ≡ []
    pub alike : AreAlike x ops out Meets imitates (world_after (rewritten x ops out Meets imitates) v moves).tasks w.tasks
    pub ended : (world_after (rewritten x ops out Meets imitates) v moves).ended ≡ v.ended
    pub meets : (t : ℕ) → t < n → (w.tasks t).standing ≡ Live → Meets ((world_after (rewritten x ops out Meets imitates) v moves).tasks t).local (w.tasks t).local

  record CaughtOne (v : World K) (w : World (Copy x.L)) (t : ℕ) : Type 0 where
    moves : List Move
    made : AreMoves (rewritten x ops out Meets imitates) v moves
    silent : happened moves ≡ []
    alike : AreAlike x ops out Meets imitates (world_after (rewritten x ops out Meets imitates) v moves).tasks w.tasks
    ended : (world_after (rewritten x ops out Meets imitates) v moves).ended ≡ v.ended
    meets : (w.tasks t).standing ≡ Live → Meets ((world_after (rewritten x ops out Meets imitates) v moves).tasks t).local (w.tasks t).local
    others : (u : ℕ) → (u == t) ≡ false → (world_after (rewritten x ops out Meets imitates) v moves).tasks u ≡ v.tasks u

  catch_steps : (n : ℕ) (v : World K) (w : World (Copy x.L)) (t : ℕ) → v.ended ≡ false → AreAlike x ops out Meets imitates v.tasks w.tasks → (w.tasks t).standing ≡ Live →
      ReachesIn x ops out Meets n (v.tasks t).local (w.tasks t).local → CaughtOne v w t
  catch_steps zero v w t runs alike free h = record { moves = []; made = tt; silent = refl; alike = alike; ended = refl; meets = λ f. h; others = λ u q. refl }
  catch_steps (suc n) v w t runs alike free h =
      let at : (moved (rewritten x ops out Meets imitates) v (Step t)).tasks t ≡ live (ops.stepped (v.tasks t).local) = put_self v.tasks t (live (ops.stepped (v.tasks t).local)) in
      let r = catch_steps n (moved (rewritten x ops out Meets imitates) v (Step t)) w t runs still_alike free
      (subst (λ (y : Seat K). ReachesIn x ops out Meets n y.local (w.tasks t).local) (sym at) h.2) in
      record {
        moves = Step t ∷ r.moves;
        made = (both (ap not runs) (both (ap is_live ((alike t).standing ∙ free)) h.0), r.made);
        silent = r.silent;
        alike = r.alike;
        ended = r.ended;
        meets = r.meets;
        others = λ u q. r.others u q ∙ put_other v.tasks t u (live (ops.stepped (v.tasks t).local)) q;
      }
    where
      still_alike : AreAlike x ops out Meets imitates (put v.tasks t (live (ops.stepped (v.tasks t).local))) w.tasks
      still_alike u = go (u == t) refl
        where
          go : (b : Bool) → (u == t) ≡ b → IsAlike x ops out Meets imitates (if b then live (ops.stepped (v.tasks t).local) else v.tasks u) (w.tasks u)
          go true q =
              subst (IsAlike x ops out Meets imitates (live (ops.stepped (v.tasks t).local))) (ap w.tasks (sym (eqb-true u t q)))
              (record { standing = sym free; locals = subst (λ s. LocalsAt x ops out Meets imitates s (ops.stepped (v.tasks t).local) (w.tasks t).local) (sym free) (n, h.2) })
          go false q = alike u

  catch_one : (v : World K) (w : World (Copy x.L)) (t : ℕ) → v.ended ≡ false → AreAlike x ops out Meets imitates v.tasks w.tasks → CaughtOne v w t
  catch_one v w t runs alike = go (is_live (w.tasks t).standing) refl
    where
      go : (b : Bool) → is_live (w.tasks t).standing ≡ b → CaughtOne v w t
      go true q =
          let free : (w.tasks t).standing ≡ Live = is-Live (w.tasks t).standing q in
          let r : Reaches x ops out Meets (v.tasks t).local (w.tasks t).local = subst (λ s. LocalsAt x ops out Meets imitates s (v.tasks t).local (w.tasks t).local) free (alike t).locals in
          catch_steps r.0 v w t runs alike free r.1
      go false q = record { moves = []; made = tt; silent = refl; alike = alike; ended = refl; meets = λ f. absurd (true≢false (ap is_live (sym f) ∙ q)); others = λ u r. refl }

  -- All tasks catch up.
  pub catch_all : (n : ℕ) (v : World K) (w : World (Copy x.L)) → v.ended ≡ false → AreAlike x ops out Meets imitates v.tasks w.tasks → Caught v w n
  catch_all zero v w runs alike = record { moves = []; made = tt; silent = refl; alike = alike; ended = refl; meets = λ t l. absurd (omega (arith, l)) }
  catch_all (suc n) v w runs alike =
      let r = catch_all n v w runs alike in
      let v1 : World K = world_after (rewritten x ops out Meets imitates) v r.moves in
      let o : CaughtOne v1 w n = catch_one v1 w n (r.ended ∙ runs) r.alike in
      let is : world_after (rewritten x ops out Meets imitates) v (r.moves ++ o.moves) ≡ world_after (rewritten x ops out Meets imitates) v1 o.moves =
      world_append (rewritten x ops out Meets imitates) v r.moves o.moves in
      record {
        moves = r.moves ++ o.moves;
        made = moves_append (rewritten x ops out Meets imitates) v r.moves o.moves r.made o.made;
        silent = happened_append r.moves o.moves ∙ ap₂ (λ xs ys. xs ++ ys) r.silent o.silent;
        alike = subst (λ (z : World K). AreAlike x ops out Meets imitates z.tasks w.tasks) (sym is) o.alike;
        ended = ap (λ (z : World K). z.ended) is ∙ o.ended ∙ r.ended;
        meets = λ t l free. subst (λ (z : World K). Meets (z.tasks t).local (w.tasks t).local) (sym is)
            (meets_below n r.moves o.moves (λ u m. r.meets u m) o.meets (λ u q. o.others u q) t l free);
      }
    where
      meets_below : (n : ℕ) (rs os : List Move) → ((u : ℕ) → u < n → (w.tasks u).standing ≡ Live → Meets ((world_after (rewritten x ops out Meets imitates) v rs).tasks u).local (w.tasks u).local) →
          ((w.tasks n).standing ≡ Live → Meets ((world_after (rewritten x ops out Meets imitates) (world_after (rewritten x ops out Meets imitates) v rs) os).tasks n).local (w.tasks n).local) →
          ((u : ℕ) → (u == n) ≡ false → (world_after (rewritten x ops out Meets imitates) (world_after (rewritten x ops out Meets imitates) v rs) os).tasks u ≡ (world_after (rewritten x ops out Meets imitates) v rs).tasks u) →
          (t : ℕ) → t < suc n → (w.tasks t).standing ≡ Live → Meets ((world_after (rewritten x ops out Meets imitates) (world_after (rewritten x ops out Meets imitates) v rs) os).tasks t).local (w.tasks t).local
      meets_below n rs os before here others t l free = ⊎_elim
          (λ (m : t < n). subst (λ (y : Seat K). Meets y.local (w.tasks t).local) (sym (others t (ne_eqb t n (λ e. omega (arith, m, e))))) (before t m free))
          (λ (m : n ≤ t). let e : n ≡ t = omega (arith, m, l) in
          subst (λ u. (w.tasks u).standing ≡ Live → Meets ((world_after (rewritten x ops out Meets imitates) (world_after (rewritten x ops out Meets imitates) v rs) os).tasks u).local (w.tasks u).local) e here free)
          (cases_lt t n)

  -- ---- conditions

  module _ (tasks : ℕ → Seat K) (w : World (Copy x.L)) (alike : AreAlike x ops out Meets imitates tasks w.tasks)
      (meets : (t : ℕ) → (w.tasks t).standing ≡ Live → Meets (tasks t).local (w.tasks t).local) where
    offers_back : (test : Offer → Bool) → test Nothing ≡ false → (t : ℕ) → offers (copy_ops x.p.ops x.n) test (w.tasks t) ≡ true → offers ops test (tasks t) ≡ true
    offers_back test none t h = both (ap is_live ((alike t).standing ∙ free)) (ap test (imitates.offers (tasks t).local (w.tasks t).local (meets t free) rests).1 ∙ parts.1)
      where
        parts : (is_live (w.tasks t).standing ≡ true) × (test (copy_offer x.p.ops x.n (w.tasks t).local) ≡ true)
        parts = and_parts (is_live (w.tasks t).standing) (test (copy_offer x.p.ops x.n (w.tasks t).local)) h

        free : (w.tasks t).standing ≡ Live
        free = is-Live (w.tasks t).standing parts.0

        rests : copy_steps x.p.ops x.n (w.tasks t).local ≡ false
        rests = go (copy_steps x.p.ops x.n (w.tasks t).local) refl
          where
            go : (b : Bool) → copy_steps x.p.ops x.n (w.tasks t).local ≡ b → copy_steps x.p.ops x.n (w.tasks t).local ≡ false
            go true q = absurd (true≢false (sym parts.1 ∙ ap test (copy_rests x (w.tasks t).local q) ∙ none))
            go false q = q

    others_back : (n : ℕ) → others_end (copy_ops x.p.ops x.n) w.tasks n ≡ true → others_end ops tasks n ≡ true
    others_back zero h = refl
    others_back (suc n) h =
        let k = and_parts (others_end (copy_ops x.p.ops x.n) w.tasks n) (is_completed (w.tasks (suc n)).standing || offers (copy_ops x.p.ops x.n) (waits_with is_terminate) (w.tasks (suc n))) h in
        both (others_back n k.0) (⊎_elim
        (λ c. or_left (is_completed (tasks (suc n)).standing) (offers ops (waits_with is_terminate) (tasks (suc n))) (ap is_completed (alike (suc n)).standing ∙ c))
        (λ c. or_right (is_completed (tasks (suc n)).standing) (offers ops (waits_with is_terminate) (tasks (suc n))) (offers_back (waits_with is_terminate) refl (suc n) c))
        (or_cases (is_completed (w.tasks (suc n)).standing) (offers (copy_ops x.p.ops x.n) (waits_with is_terminate) (w.tasks (suc n))) k.1))

    two : {a b c d : Bool} → (a ≡ true → c ≡ true) → (b ≡ true → d ≡ true) → (a && b) ≡ true → (c && d) ≡ true
    two {a} {b} {c} {d} f g h = let k = and_parts a b h in both (f k.0) (g k.1)

    -- What can happen to the copies can happen to the tasks.
    pub happens_back : (e : Event) → happens (twin x) w.tasks e ≡ true → happens (rewritten x ops out Meets imitates) tasks e ≡ true
    happens_back (R c e i) h = two (offers_back (calls_in is_any_form e i) refl c) (offers_back (waits_with (opens e i)) refl (x.owner e)) h
    happens_back (E a) h = offers_back is_finish refl a h
    happens_back (S a) h = offers_back (waits_with is_else) refl a h
    happens_back (D a k) h = offers_back (waits_with (is_delay k)) refl a h
    happens_back (C c e i) h = two (offers_back (calls_in is_conditional e i) refl c) (λ q. ap (λ s. not (is_closed s)) (alike (x.owner e)).standing ∙ q) h
    happens_back (T c e i) h = two (offers_back (calls_in is_timed e i) refl c) (λ q. ap (λ s. not (is_closed s)) (alike (x.owner e)).standing ∙ q) h
    happens_back (F c e i) h = two (offers_back (calls_in is_any_form e i) refl c) (λ q. ap is_closed (alike (x.owner e)).standing ∙ q) h
    happens_back (X a) h = two (λ q. q) (offers_back is_end refl a) h
    happens_back (B t v) h = offers_back (aborts v) refl t h
    happens_back Z h = two (offers_back is_end refl 0) (others_back (suc x.p.size)) h

  -- ---- moves

  -- The moves of the rewritten program that are those of the copy.
  pub record Followed (v : World K) (w : World (Copy x.L)) (events : List Event) (next : World (Copy x.L)) : Type 0 where
    pub moves : List Move
    pub made : AreMoves (rewritten x ops out Meets imitates) v moves
    pub same : happened moves ≡ events
    pub alike : AreAlike x ops out Meets imitates (world_after (rewritten x ops out Meets imitates) v moves).tasks next.tasks
    pub ended : (world_after (rewritten x ops out Meets imitates) v moves).ended ≡ next.ended

  live_idle : (s : Standing) → is_completed s ≡ true → s ≡ Live → ⊥
  live_idle s h q = true≢false (sym h ∙ ap is_completed q)

  follow_move : (past rest : List Event) (stage : Stage) (v : World K) (w : World (Copy x.L)) → Inv x past rest stage w → AreAlike x ops out Meets imitates v.tasks w.tasks → v.ended ≡ w.ended →
      (move : Move) → can_move (twin x) w move ≡ true → Followed v w (happened (move ∷ [])) (moved (twin x) w move)
  follow_move past rest stage v w inv alike ended (Step t) h =
      let parts = and_parts (not w.ended) (is_live (w.tasks t).standing && copy_steps x.p.ops x.n (w.tasks t).local) h in
      let more = and_parts (is_live (w.tasks t).standing) (copy_steps x.p.ops x.n (w.tasks t).local) parts.1 in
      let runs : v.ended ≡ false = ended ∙ not_true w.ended parts.0 in
      let free : (w.tasks t).standing ≡ Live = is-Live (w.tasks t).standing more.0 in
      let o : CaughtOne v w t = catch_one v w t runs alike in
      let v1 : World K = world_after (rewritten x ops out Meets imitates) v o.moves in
      let s = imitates.steps (v1.tasks t).local (w.tasks t).local (o.meets free) (steps_fine x past rest stage w inv (not_true w.ended parts.0) t free more.1) more.1 in
      let is : world_after (rewritten x ops out Meets imitates) v (o.moves ++ (Step t ∷ [])) ≡ moved (rewritten x ops out Meets imitates) v1 (Step t) =
      world_append (rewritten x ops out Meets imitates) v o.moves (Step t ∷ []) in
      record {
        moves = o.moves ++ (Step t ∷ []);
        made = moves_append (rewritten x ops out Meets imitates) v o.moves (Step t ∷ []) o.made
            (both (ap not (o.ended ∙ runs)) (both (ap is_live ((o.alike t).standing ∙ free)) s.0), tt);
        same = happened_append o.moves (Step t ∷ []) ∙ ap (λ xs. xs ++ []) o.silent;
        alike = subst (λ (z : World K). AreAlike x ops out Meets imitates z.tasks (put w.tasks t (live (copy_stepped x.p.ops x.n (w.tasks t).local)))) (sym is)
            (freed_alike x ops out Meets imitates v1.tasks w.tasks t (ops.stepped (v1.tasks t).local) (copy_stepped x.p.ops x.n (w.tasks t).local) o.alike s.1);
        ended = ap (λ (z : World K). z.ended) is ∙ o.ended ∙ ended;
      }
  follow_move past rest stage v w inv alike ended (Happen e) h =
      let parts = and_parts (not w.ended) (happens (twin x) w.tasks e) h in
      let runs : v.ended ≡ false = ended ∙ not_true w.ended parts.0 in
      let c : Caught v w (suc (suc x.p.size)) = catch_all (suc (suc x.p.size)) v w runs alike in
      let v1 : World K = world_after (rewritten x ops out Meets imitates) v c.moves in
      let holds : happens (rewritten x ops out Meets imitates) v1.tasks e ≡ true = happens_back v1.tasks w c.alike
      (λ t free. ⊎_elim (λ (m : t < suc (suc x.p.size)). c.meets t m free) (λ (m : suc (suc x.p.size) ≤ t). absurd (live_idle (w.tasks t).standing (inv.beyond t m) free)) (cases_lt t (suc (suc x.p.size)))) e parts.1 in
      let situation = (event_moves x past rest stage w inv (not_true w.ended parts.0) e parts.1).0 in
      let is : world_after (rewritten x ops out Meets imitates) v (c.moves ++ (Happen e ∷ [])) ≡ moved (rewritten x ops out Meets imitates) v1 (Happen e) =
      world_append (rewritten x ops out Meets imitates) v c.moves (Happen e ∷ []) in
      record {
        moves = c.moves ++ (Happen e ∷ []);
        made = moves_append (rewritten x ops out Meets imitates) v c.moves (Happen e ∷ []) c.made (both (ap not (c.ended ∙ runs)) holds, tt);
        same = happened_append c.moves (Happen e ∷ []) ∙ ap (λ xs. xs ++ (e ∷ [])) c.silent;
        alike = subst (λ (z : World K). AreAlike x ops out Meets imitates z.tasks (moved (twin x) w (Happen e)).tasks) (sym is)
            (acts_alike x ops out Meets imitates v1.tasks w c.alike (steps_fine x past rest stage w inv (not_true w.ended parts.0)) e holds situation);
        ended = ap (λ (z : World K). z.ended) is ∙ ap (λ b. is_last e || b) (c.ended ∙ ended);
      }

  pub follow_moves_of : (moves : List Move) (past rest : List Event) (stage : Stage) (v : World K) (w : World (Copy x.L)) → Inv x past rest stage w → AreAlike x ops out Meets imitates v.tasks w.tasks →
      v.ended ≡ w.ended → AreMoves (twin x) w moves → Followed v w (happened moves) (world_after (twin x) w moves)
  follow_moves_of [] past rest stage v w inv alike ended h = record { moves = []; made = tt; same = refl; alike = alike; ended = ended }
  follow_moves_of (move ∷ moves) past rest stage v w inv alike ended h =
      let f = follow_move past rest stage v w inv alike ended move h.0 in
      let v1 : World K = world_after (rewritten x ops out Meets imitates) v f.moves in
      let m = match_move x past rest stage w inv move h.0 in
      let r : Followed v1 (moved (twin x) w move) (happened moves) (world_after (twin x) (moved (twin x) w move) moves) =
      follow_moves_of moves (past ++ backs x (happened (move ∷ []))) m.rest m.stage v1 (moved (twin x) w move) m.inv f.alike f.ended h.1 in
      let is : world_after (rewritten x ops out Meets imitates) v (f.moves ++ r.moves) ≡ world_after (rewritten x ops out Meets imitates) v1 r.moves =
      world_append (rewritten x ops out Meets imitates) v f.moves r.moves in
      record {
        moves = f.moves ++ r.moves;
        made = moves_append (rewritten x ops out Meets imitates) v f.moves r.moves f.made r.made;
        same = happened_append f.moves r.moves ∙ ap₂ (λ xs ys. xs ++ ys) f.same r.same ∙ sym (happened_append (move ∷ []) moves);
        alike = subst (λ (z : World K). AreAlike x ops out Meets imitates z.tasks (world_after (twin x) (moved (twin x) w move) moves).tasks) (sym is) r.alike;
        ended = ap (λ (z : World K). z.ended) is ∙ r.ended;
      }
