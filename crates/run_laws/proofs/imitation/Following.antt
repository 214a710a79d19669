-- Each program makes the moves of the other: the imitation is tracked by the original, and it catches up by local steps that write nothing and then follows.
use Rattle.std.proofs.Common.{◌≡◌, ℕ, zero, suc, ◌<◌, ◌≤◌, Bool, true, false, not, ◌&&◌, ◌||◌, ◌==◌, if◌then◌else◌, List, [], ◌∷◌, ◌++◌, refl, sym, ap, ap₂, ◌∙◌, subst, ⊎_elim, true≢false, arith}
use Rattle.std.specs.Prelude.{pred}
use Rattle.std.proofs.lemmas.Bool.{eqb-true, and_parts, or_left, or_right, or_cases, cases_lt, ne_eqb}
use Rattle.event_machine.specs.declared.Standing.{Standing}
use Rattle.event_machine.specs.declared.Standing.TheVariants.{Live}
use Rattle.event_machine.specs.declared.Event.{Event}
use Rattle.event_machine.specs.declared.Event.TheVariants.{R, E, S, D, C, T, F, X, B, Z}
use Rattle.event_machine.specs.Offers.{Offer, Nothing, calls_in, is_any_form, is_conditional, is_timed, waits_with, is_finish, is_end, opens, is_else, is_delay, is_terminate}
use Rattle.event_machine.specs.States.{Ops, Seat, live, is_live, is_closed, is_completed}
use Rattle.event_machine.specs.Programs.{Program}
use Rattle.event_machine.specs.Worlds.{World, Move, Step, Happen, can_move, moved, happens, happened, is_last, offers, others_end, aborts, AreMoves, world_after}
use Rattle.event_machine.proofs.Basics.{both}
use Rattle.event_machine.proofs.Standings.{is-Live}
use Rattle.event_machine.proofs.Appends.{moves_append, world_append, happened_append}
use Rattle.event_machine.proofs.Sound.{sound_moved}
use Rattle.run_laws.proofs.replaying.Facts.{put, put_self, put_other}
use Rattle.run_laws.specs.imitation.Imitations.{Original, IsComeTo, local_at, ReachesIn, Reaches, Imitates}
use Rattle.run_laws.proofs.imitation.Alike.{program, IsAlike, AreAlike, LocalsAt, alike_reaches, freed_alike, happens_too, acts_alike}
use Rattle.common_lemmas.proofs.Truth.{not_true}

module _ (x : Original) where
  -- what the original comes to it comes to from there
  pub come_on : (w : World x.L) (move : Move) → IsComeTo x w → can_move x.p w move ≡ true → IsComeTo x (moved x.p w move)
  come_on w move c h = record { known = x.known_on w move c.known c.sound h; sound = sound_moved x.p x.IsProper x.lawful w move c.sound h }

  pub come_after : (moves : List Move) (w : World x.L) → IsComeTo x w → AreMoves x.p w moves → IsComeTo x (world_after x.p w moves)
  come_after [] w c h = c
  come_after (move ∷ moves) w c h = come_after moves (moved x.p w move) (come_on w move c h.0) h.1

  -- past the last task all have completed, and stay so
  abbrev pub IsOver : World x.L → Type 0
  IsOver w = (t : ℕ) → x.p.size ≤ t → is_completed (w.tasks t).standing ≡ true

module _ (x : Original) {K : Type 0} (ops : Ops K) (out : K → List ℕ) (Meets : K → x.L → Type 0) (Fine : K → Type 0) (imitates : Imitates x ops out Meets Fine) where
  abbrev Q : Program K
  Q = program x ops out Meets Fine imitates

  abbrev Alike : (ℕ → Seat K) → (ℕ → Seat x.L) → Type 0
  Alike = AreAlike x ops out Meets Fine imitates

  -- one task is nearer to what the original's is
  put_left : (tasks : ℕ → Seat K) (others : ℕ → Seat x.L) (t : ℕ) (k : K) → Alike tasks others → (others t).standing ≡ Live → Reaches x ops out Meets Fine k (others t).local → Alike (put tasks t (live k)) others
  put_left tasks others t k alike free h u = go (u == t) refl
    where
      go : (b : Bool) → (u == t) ≡ b → IsAlike x ops out Meets Fine imitates u (if b then live k else tasks u) (others u)
      go true q =
          subst (λ v. IsAlike x ops out Meets Fine imitates v (live k) (others v)) (sym (eqb-true u t q))
          (record { standing = sym free; locals = subst (λ s. LocalsAt x ops out Meets Fine imitates t s k (others t).local) (sym free) h })
      go false q = alike u

  -- ---- the original tracks the imitation

  -- The original's moves with these events, behind which the two are alike.
  pub record Kept (v : World K) (w : World x.L) (events : List Event) : Type 0 where
    pub moves : List Move
    pub made : AreMoves x.p w moves
    pub same : happened moves ≡ events
    pub come : IsComeTo x (world_after x.p w moves)
    pub alike : Alike v.tasks (world_after x.p w moves).tasks
    pub ended : v.ended ≡ (world_after x.p w moves).ended

  track_move : (v : World K) (w : World x.L) → IsComeTo x w → Alike v.tasks w.tasks → v.ended ≡ w.ended → (move : Move) → can_move Q v move ≡ true → Kept (moved Q v move) w (happened (move ∷ []))
  track_move v w come alike ended (Step t) h = go reach.0 reach.1
    where
      parts : (not v.ended ≡ true) × ((is_live (v.tasks t).standing && ops.can_step (v.tasks t).local) ≡ true)
      parts = and_parts (not v.ended) (is_live (v.tasks t).standing && ops.can_step (v.tasks t).local) h

      more : (is_live (v.tasks t).standing ≡ true) × (ops.can_step (v.tasks t).local ≡ true)
      more = and_parts (is_live (v.tasks t).standing) (ops.can_step (v.tasks t).local) parts.1

      free : (w.tasks t).standing ≡ Live
      free = sym (alike t).standing ∙ is-Live (v.tasks t).standing more.0

      runs : w.ended ≡ false
      runs = sym ended ∙ not_true v.ended parts.0

      reach : Reaches x ops out Meets Fine (v.tasks t).local (local_at w t)
      reach = alike_reaches x ops out Meets Fine imitates t (v.tasks t) (w.tasks t) (alike t) free

      go : (n : ℕ) → ReachesIn x ops out Meets Fine n (v.tasks t).local (local_at w t) → Kept (moved Q v (Step t)) w []
      go zero r = meets (x.p.ops.can_step (local_at w t)) refl
        where
          meets : (b : Bool) → x.p.ops.can_step (local_at w t) ≡ b → Kept (moved Q v (Step t)) w []
          meets true q =
              let can : can_move x.p w (Step t) ≡ true = both (ap not runs) (both (ap is_live free) q) in
              record {
                moves = Step t ∷ [];
                made = (can, tt);
                same = refl;
                come = come_on x w (Step t) come can;
                alike = freed_alike x ops out Meets Fine imitates v.tasks w.tasks t (ops.stepped (v.tasks t).local) (x.p.ops.stepped (local_at w t)) alike (imitates.steps w come t (v.tasks t).local r can).1;
                ended = ended;
              }
          meets false q = absurd (true≢false (sym more.1 ∙ (imitates.offers w come t (v.tasks t).local r free q).0))
      go (suc n) r = record {
        moves = [];
        made = tt;
        same = refl;
        come = come;
        alike = put_left v.tasks w.tasks t (ops.stepped (v.tasks t).local) alike free (n, r.3);
        ended = ended;
      }
  track_move v w come alike ended (Happen e) h =
      let parts = and_parts (not v.ended) (happens Q v.tasks e) h in
      let runs : w.ended ≡ false = sym ended ∙ not_true v.ended parts.0 in
      let can : can_move x.p w (Happen e) ≡ true = both (ap not runs) (happens_too x ops out Meets Fine imitates w come runs v.tasks alike e parts.1) in
      record {
        moves = Happen e ∷ [];
        made = (can, tt);
        same = refl;
        come = come_on x w (Happen e) come can;
        alike = acts_alike x ops out Meets Fine imitates v.tasks w come alike runs e parts.1;
        ended = ap (λ b. is_last e || b) ended;
      }

  pub track_moves : (moves : List Move) (v : World K) (w : World x.L) → IsComeTo x w → Alike v.tasks w.tasks → v.ended ≡ w.ended → AreMoves Q v moves → Kept (world_after Q v moves) w (happened moves)
  track_moves [] v w come alike ended h = record { moves = []; made = tt; same = refl; come = come; alike = alike; ended = ended }
  track_moves (move ∷ moves) v w come alike ended h =
      let f : Kept (moved Q v move) w (happened (move ∷ [])) = track_move v w come alike ended move h.0 in
      let r : Kept (world_after Q (moved Q v move) moves) (world_after x.p w f.moves) (happened moves) =
      track_moves moves (moved Q v move) (world_after x.p w f.moves) f.come f.alike f.ended h.1 in
      let is : world_after x.p w (f.moves ++ r.moves) ≡ world_after x.p (world_after x.p w f.moves) r.moves = world_append x.p w f.moves r.moves in
      record {
        moves = f.moves ++ r.moves;
        made = moves_append x.p w f.moves r.moves f.made r.made;
        same = happened_append f.moves r.moves ∙ ap₂ (λ xs ys. xs ++ ys) f.same r.same ∙ sym (happened_append (move ∷ []) moves);
        come = subst (IsComeTo x) (sym is) r.come;
        alike = subst (λ (z : World x.L). Alike (world_after Q (moved Q v move) moves).tasks z.tasks) (sym is) r.alike;
        ended = r.ended ∙ ap (λ (z : World x.L). z.ended) (sym is);
      }

  -- ---- the imitation catches up

  -- Local steps behind which the two are alike still, and the free tasks below n meet the original's.
  pub record Caught (v : World K) (w : World x.L) (n : ℕ) : Type 0 where
    pub moves : List Move
    pub made : AreMoves Q v moves
    pub silent : happened moves ≡ []
    pub alike : Alike (world_after Q v moves).tasks w.tasks
    pub ended : (world_after Q v moves).ended ≡ v.ended
    pub meets : (t : ℕ) → t < n → (w.tasks t).standing ≡ Live → Meets ((world_after Q v moves).tasks t).local (local_at w t)

  record CaughtOne (v : World K) (w : World x.L) (t : ℕ) : Type 0 where
    moves : List Move
    made : AreMoves Q v moves
    silent : happened moves ≡ []
    alike : Alike (world_after Q v moves).tasks w.tasks
    ended : (world_after Q v moves).ended ≡ v.ended
    meets : (w.tasks t).standing ≡ Live → Meets ((world_after Q v moves).tasks t).local (local_at w t)
    others : (u : ℕ) → (u == t) ≡ false → (world_after Q v moves).tasks u ≡ v.tasks u

  catch_steps : (n : ℕ) (v : World K) (w : World x.L) (t : ℕ) → v.ended ≡ false → Alike v.tasks w.tasks → (w.tasks t).standing ≡ Live →
      ReachesIn x ops out Meets Fine n (v.tasks t).local (local_at w t) → CaughtOne v w t
  catch_steps zero v w t runs alike free h = record { moves = []; made = tt; silent = refl; alike = alike; ended = refl; meets = λ f. h; others = λ u q. refl }
  catch_steps (suc n) v w t runs alike free h =
      let at : (moved Q v (Step t)).tasks t ≡ live (ops.stepped (v.tasks t).local) = put_self v.tasks t (live (ops.stepped (v.tasks t).local)) in
      let r = catch_steps n (moved Q v (Step t)) w t runs (put_left v.tasks w.tasks t (ops.stepped (v.tasks t).local) alike free (n, h.3)) free
      (subst (λ (y : Seat K). ReachesIn x ops out Meets Fine n y.local (local_at w t)) (sym at) h.3) in
      record {
        moves = Step t ∷ r.moves;
        made = (both (ap not runs) (both (ap is_live ((alike t).standing ∙ free)) h.0), r.made);
        silent = r.silent;
        alike = r.alike;
        ended = r.ended;
        meets = r.meets;
        others = λ u q. r.others u q ∙ put_other v.tasks t u (live (ops.stepped (v.tasks t).local)) q;
      }

  catch_one : (v : World K) (w : World x.L) (t : ℕ) → v.ended ≡ false → Alike v.tasks w.tasks → CaughtOne v w t
  catch_one v w t runs alike = go (is_live (w.tasks t).standing) refl
    where
      go : (b : Bool) → is_live (w.tasks t).standing ≡ b → CaughtOne v w t
      go true q =
          let free : (w.tasks t).standing ≡ Live = is-Live (w.tasks t).standing q in
          let r : Reaches x ops out Meets Fine (v.tasks t).local (local_at w t) = alike_reaches x ops out Meets Fine imitates t (v.tasks t) (w.tasks t) (alike t) free in
          catch_steps r.0 v w t runs alike free r.1
      go false q = record { moves = []; made = tt; silent = refl; alike = alike; ended = refl; meets = λ f. absurd (true≢false (ap is_live (sym f) ∙ q)); others = λ u r. refl }

  -- All tasks catch up.
  pub catch_all : (n : ℕ) (v : World K) (w : World x.L) → v.ended ≡ false → Alike v.tasks w.tasks → Caught v w n
  catch_all zero v w runs alike = record { moves = []; made = tt; silent = refl; alike = alike; ended = refl; meets = λ t l. absurd (omega (arith, l)) }
  catch_all (suc n) v w runs alike =
      let r : Caught v w n = catch_all n v w runs alike in
      let v1 : World K = world_after Q v r.moves in
      let o : CaughtOne v1 w n = catch_one v1 w n (r.ended ∙ runs) r.alike in
      let is : world_after Q v (r.moves ++ o.moves) ≡ world_after Q v1 o.moves = world_append Q v r.moves o.moves in
      record {
        moves = r.moves ++ o.moves;
        made = moves_append Q v r.moves o.moves r.made o.made;
        silent = happened_append r.moves o.moves ∙ ap₂ (λ xs ys. xs ++ ys) r.silent o.silent;
        alike = subst (λ (z : World K). Alike z.tasks w.tasks) (sym is) o.alike;
        ended = ap (λ (z : World K). z.ended) is ∙ o.ended ∙ r.ended;
        meets = λ t l free. subst (λ (z : World K). Meets (z.tasks t).local (local_at w t)) (sym is)
            (below n v1 (world_after Q v1 o.moves) w r.meets o.meets o.others t l free);
      }
    where
      below : (n : ℕ) (v1 v2 : World K) (w : World x.L) → ((u : ℕ) → u < n → (w.tasks u).standing ≡ Live → Meets (v1.tasks u).local (local_at w u)) →
          ((w.tasks n).standing ≡ Live → Meets (v2.tasks n).local (local_at w n)) → ((u : ℕ) → (u == n) ≡ false → v2.tasks u ≡ v1.tasks u) →
          (t : ℕ) → t < suc n → (w.tasks t).standing ≡ Live → Meets (v2.tasks t).local (local_at w t)
      below n v1 v2 w before here others t l free = ⊎_elim
          (λ (m : t < n). subst (λ (y : Seat K). Meets y.local (local_at w t)) (sym (others t (ne_eqb t n (λ e. omega (arith, m, e))))) (before t m free))
          (λ (m : n ≤ t). let e : n ≡ t = omega (arith, m, l) in subst (λ u. (w.tasks u).standing ≡ Live → Meets (v2.tasks u).local (local_at w u)) e here free)
          (cases_lt t n)

  -- ---- conditions

  module _ (tasks : ℕ → Seat K) (w : World x.L) (come : IsComeTo x w) (alike : Alike tasks w.tasks) (meets : (t : ℕ) → (w.tasks t).standing ≡ Live → Meets (tasks t).local (local_at w t)) where
    offers_back : (test : Offer → Bool) → test Nothing ≡ false → (t : ℕ) → offers x.p.ops test (w.tasks t) ≡ true → offers ops test (tasks t) ≡ true
    offers_back test none t h = both (ap is_live ((alike t).standing ∙ free)) (ap test (imitates.offers w come t (tasks t).local (meets t free) free rests).1 ∙ parts.1)
      where
        parts : (is_live (w.tasks t).standing ≡ true) × (test (x.p.ops.offer (local_at w t)) ≡ true)
        parts = and_parts (is_live (w.tasks t).standing) (test (x.p.ops.offer (local_at w t))) h

        free : (w.tasks t).standing ≡ Live
        free = is-Live (w.tasks t).standing parts.0

        rests : x.p.ops.can_step (local_at w t) ≡ false
        rests = go (x.p.ops.can_step (local_at w t)) refl
          where
            go : (b : Bool) → x.p.ops.can_step (local_at w t) ≡ b → x.p.ops.can_step (local_at w t) ≡ false
            go true q = absurd (true≢false (sym parts.1 ∙ ap test (x.lawful.rests (local_at w t) q) ∙ none))
            go false q = q

    others_back : (n : ℕ) → others_end x.p.ops w.tasks n ≡ true → others_end ops tasks n ≡ true
    others_back zero h = refl
    others_back (suc n) h =
        let k = and_parts (others_end x.p.ops w.tasks n) (is_completed (w.tasks (suc n)).standing || offers x.p.ops (waits_with is_terminate) (w.tasks (suc n))) h in
        both (others_back n k.0) (⊎_elim
        (λ c. or_left (is_completed (tasks (suc n)).standing) (offers ops (waits_with is_terminate) (tasks (suc n))) (ap is_completed (alike (suc n)).standing ∙ c))
        (λ c. or_right (is_completed (tasks (suc n)).standing) (offers ops (waits_with is_terminate) (tasks (suc n))) (offers_back (waits_with is_terminate) refl (suc n) c))
        (or_cases (is_completed (w.tasks (suc n)).standing) (offers x.p.ops (waits_with is_terminate) (w.tasks (suc n))) k.1))

    two : {a b c d : Bool} → (a ≡ true → c ≡ true) → (b ≡ true → d ≡ true) → (a && b) ≡ true → (c && d) ≡ true
    two {a} {b} {c} {d} f g h = let k = and_parts a b h in both (f k.0) (g k.1)

    -- What can happen to the original's tasks can happen to these.
    pub happens_back : (e : Event) → happens x.p w.tasks e ≡ true → happens Q tasks e ≡ true
    happens_back (R c e i) h = two (offers_back (calls_in is_any_form e i) refl c) (offers_back (waits_with (opens e i)) refl (x.p.owner e)) h
    happens_back (E a) h = offers_back is_finish refl a h
    happens_back (S a) h = offers_back (waits_with is_else) refl a h
    happens_back (D a k) h = offers_back (waits_with (is_delay k)) refl a h
    happens_back (C c e i) h = two (offers_back (calls_in is_conditional e i) refl c) (λ q. ap (λ s. not (is_closed s)) (alike (x.p.owner e)).standing ∙ q) h
    happens_back (T c e i) h = two (offers_back (calls_in is_timed e i) refl c) (λ q. ap (λ s. not (is_closed s)) (alike (x.p.owner e)).standing ∙ q) h
    happens_back (F c e i) h = two (offers_back (calls_in is_any_form e i) refl c) (λ q. ap is_closed (alike (x.p.owner e)).standing ∙ q) h
    happens_back (X a) h = two (λ q. q) (offers_back is_end refl a) h
    happens_back (B t v) h = offers_back (aborts v) refl t h
    happens_back Z h = two (offers_back is_end refl 0) (others_back (pred x.p.size)) h

  -- ---- the imitation follows the original

  -- The imitation's moves with these events, behind which the two are alike.
  pub record Followed (v : World K) (next : World x.L) (events : List Event) : Type 0 where
    pub moves : List Move
    pub made : AreMoves Q v moves
    pub same : happened moves ≡ events
    pub alike : Alike (world_after Q v moves).tasks next.tasks
    pub ended : (world_after Q v moves).ended ≡ next.ended

  live_over : (s : Standing) → is_completed s ≡ true → s ≡ Live → ⊥
  live_over s h q = true≢false (sym h ∙ ap is_completed q)

  pub follow_move : (v : World K) (w : World x.L) → IsComeTo x w → IsOver x w → Alike v.tasks w.tasks → v.ended ≡ w.ended → (move : Move) → can_move x.p w move ≡ true →
      Followed v (moved x.p w move) (happened (move ∷ []))
  follow_move v w come over alike ended (Step t) h =
      let parts = and_parts (not w.ended) (is_live (w.tasks t).standing && x.p.ops.can_step (local_at w t)) h in
      let more = and_parts (is_live (w.tasks t).standing) (x.p.ops.can_step (local_at w t)) parts.1 in
      let runs : v.ended ≡ false = ended ∙ not_true w.ended parts.0 in
      let free : (w.tasks t).standing ≡ Live = is-Live (w.tasks t).standing more.0 in
      let o : CaughtOne v w t = catch_one v w t runs alike in
      let v1 : World K = world_after Q v o.moves in
      let s = imitates.steps w come t (v1.tasks t).local (o.meets free) h in
      let is : world_after Q v (o.moves ++ (Step t ∷ [])) ≡ moved Q v1 (Step t) = world_append Q v o.moves (Step t ∷ []) in
      record {
        moves = o.moves ++ (Step t ∷ []);
        made = moves_append Q v o.moves (Step t ∷ []) o.made (both (ap not (o.ended ∙ runs)) (both (ap is_live ((o.alike t).standing ∙ free)) s.0), tt);
        same = happened_append o.moves (Step t ∷ []) ∙ ap (λ xs. xs ++ []) o.silent;
        alike = subst (λ (z : World K). Alike z.tasks (put w.tasks t (live (x.p.ops.stepped (local_at w t))))) (sym is)
            (freed_alike x ops out Meets Fine imitates v1.tasks w.tasks t (ops.stepped (v1.tasks t).local) (x.p.ops.stepped (local_at w t)) o.alike s.1);
        ended = ap (λ (z : World K). z.ended) is ∙ o.ended ∙ ended;
      }
  follow_move v w come over alike ended (Happen e) h =
      let parts = and_parts (not w.ended) (happens x.p w.tasks e) h in
      let runs : v.ended ≡ false = ended ∙ not_true w.ended parts.0 in
      let c : Caught v w x.p.size = catch_all x.p.size v w runs alike in
      let v1 : World K = world_after Q v c.moves in
      let holds : happens Q v1.tasks e ≡ true = happens_back v1.tasks w come c.alike
      (λ t free. ⊎_elim (λ (m : t < x.p.size). c.meets t m free) (λ (m : x.p.size ≤ t). absurd (live_over (w.tasks t).standing (over t m) free)) (cases_lt t x.p.size)) e parts.1 in
      let is : world_after Q v (c.moves ++ (Happen e ∷ [])) ≡ moved Q v1 (Happen e) = world_append Q v c.moves (Happen e ∷ []) in
      record {
        moves = c.moves ++ (Happen e ∷ []);
        made = moves_append Q v c.moves (Happen e ∷ []) c.made (both (ap not (c.ended ∙ runs)) holds, tt);
        same = happened_append c.moves (Happen e ∷ []) ∙ ap (λ xs. xs ++ (e ∷ [])) c.silent;
        alike = subst (λ (z : World K). Alike z.tasks (moved x.p w (Happen e)).tasks) (sym is)
            (acts_alike x ops out Meets Fine imitates v1.tasks w come c.alike (not_true w.ended parts.0) e holds);
        ended = ap (λ (z : World K). z.ended) is ∙ ap (λ b. is_last e || b) (c.ended ∙ ended);
      }
