-- Each move keeps what is true of all tasks.
use Rattle.std.proofs.Common.{◌≡◌, inl, inr, ◌⊎◌, ⊎_elim, ℕ, ℤ, ◌+◌, ◌<◌, ◌≤◌, Bool, true, false, not, ◌&&◌, ◌==◌, if◌then◌else◌, List, [], ◌∷◌, ◌++◌, Option, Some, None, Ok, refl, sym, ap, ◌∙◌, subst, true≢false, arith}
use Rattle.std.proofs.lemmas.Bool.{and_parts, eqb-true, cases_lt, cases_Bool}
use Rattle.ada_tree.specs.PlainStmt.{PCall}
use Rattle.ada_value.specs.Values.{and_then}
use Rattle.event_machine.specs.declared.Standing.{Standing}
use Rattle.event_machine.specs.declared.Standing.TheVariants.{Live, Waiting, Queued, Served, Completed, Killed}
use Rattle.event_machine.specs.declared.Event.{Event}
use Rattle.event_machine.specs.declared.Event.TheVariants.{R, E, S, D, C, T, F, X, B, Z}
use Rattle.event_machine.specs.Offers.{calls_in, is_any_form, waits_with, opens}
use Rattle.event_machine.specs.States.{Seat, live, completed, is_live, is_closed, is_completed, is_served_by, is_abnormal}
use Rattle.event_machine.specs.Effects.{fallen, released_first, aborted, went_on, abort_seats}
use Rattle.event_machine.specs.Programs.{Program, numbered}
use Rattle.event_machine.specs.Soundness.{IsSound, times}
use Rattle.event_machine.specs.Worlds.{World, Move, Step, Happen, can_move, moved, happens, acted, offers}
use Rattle.event_machine.proofs.Basics.{same_member-true, none_some, some_path}
use Rattle.event_machine.proofs.Standings.{is-Live}
use Rattle.event_machine.proofs.Effected.{unchanged}
use Rattle.event_machine.proofs.Following.{serving}
use Rattle.event_machine.proofs.Killing.{completed_stays}
use Rattle.event_machine.proofs.Offering.{calls_waits}
use Rattle.run_laws.proofs.replaying.Facts.{put, put_each, let_go}
use Rattle.run_laws.proofs.replaying.Silently.{met_is}
use Rattle.run_laws.proofs.replaying.Aborting.{fell, abort_closed, abort_open, abort_self}
use Rattle.task_model.specs.declared.parameters.FormalParameter.{FormalParameter}
use Rattle.task_model.specs.Setting.{Setting, callee_task, member_index, lists_of, entry_of, entry_parameters, parameters_of}
use Rattle.task_model.specs.Frames.{Around, OwnBody, Block, Handling, Loop, Opened, PFrame, caller_at, callers_among, callers_in}
use Rattle.task_model.specs.Tasks.{Task, rest_of, place_of, outer_of, vars_of}
use Rattle.task_model.specs.Calls.{Called, called_with, call_in, called_by, opening_values, values_handed, openings, opened_objects}
use Rattle.task_model.specs.Waits.{Open, Accepts, Delays, Terminates, alternative_for}
use Rattle.task_model.specs.Rendezvous as rendezvous
use Rattle.task_model.specs.TaskOps.{task_ops}
use Rattle.task_model.specs.Laws.{IsProper}
use Rattle.task_laws.specs.invariants.Holding.{AreHeld, AreAlike, LowersFit, ValuesFit, Opening, opening_at, openings_among, openings_in}
use Rattle.task_laws.specs.invariants.Worlds.{Conforms, IsWellMade, IsIn, IsLinked, AreLinked, IsKept}
use Rattle.task_laws.proofs.invariants.Variables.{chain, ok_path, openings_fit, opened_held}
use Rattle.task_laws.proofs.invariants.Frames.{Good}
use Rattle.task_laws.proofs.invariants.Steady.{Goes, Stays, goes_stepped}
use Rattle.task_laws.proofs.invariants.Meetings.{leaves_finished, good_opened, Found, found_for, goes_resumed, goes_failed, goes_else, goes_delay, goes_passed}
use Rattle.task_laws.proofs.invariants.Offering.{AtCall, at_call, at_accept}
use Rattle.common_lemmas.proofs.Numbers.{equal_self}

-- ---- one task

module _ (g : Setting) where
  pub stays_in : (t : ℕ) (l : Task) → IsIn g t l → Stays (Conforms g t) l
  stays_in t l h = record { rest = h.rest; place = h.place; outer = h.outer; held = h.held }

  good_in : (t : ℕ) (l : Task) (os : List Opening) → Good (Conforms g t) os l.control → l.setting ≡ g → l.number ≡ t → IsIn g t l
  good_in t l os k s m = record { setting = s; number = m; rest = k.rest; place = k.place; outer = k.outer; held = k.held }

  goes_in : (t : ℕ) (l m : Task) → IsIn g t l → Goes (Conforms g t) l m → IsIn g t m
  goes_in t l m h k = good_in t m (openings_in l.control) k.good (k.setting ∙ h.setting) (k.number ∙ h.number)

-- the callers of opened accept bodies
abbrev callers_of : List Opening → List ℕ
callers_of [] = []
callers_of (o ∷ os) = o.caller ∷ callers_of os

callers_append : (xs ys : List Opening) → callers_of (xs ++ ys) ≡ callers_of xs ++ callers_of ys
callers_append [] ys = refl
callers_append (x ∷ xs) ys = ap (λ cs. x.caller ∷ cs) (callers_append xs ys)

callers_at : (place : Around) → callers_of (opening_at place) ≡ caller_at place
callers_at (OwnBody handlers taken) = refl
callers_at (Block handlers) = refl
callers_at (Handling x) = refl
callers_at (Loop name turns stmts) = refl
callers_at (Opened caller formals pending) = refl

callers_there : (parts : List PFrame) → callers_of (openings_among parts) ≡ callers_among parts
callers_there [] = refl
callers_there (part ∷ parts) = callers_append (opening_at part.place) (openings_among parts) ∙ ap (λ cs. cs ++ callers_of (openings_among parts)) (callers_at part.place) ∙
    ap (λ cs. caller_at part.place ++ cs) (callers_there parts)

callers_are : (t : Task) → callers_of (openings_in t.control) ≡ callers_in t.control
callers_are t = callers_append (opening_at (place_of t)) (openings_among (outer_of t)) ∙ ap (λ cs. cs ++ callers_of (openings_among (outer_of t))) (callers_at (place_of t)) ∙
    ap (λ cs. caller_at (place_of t) ++ cs) (callers_there (outer_of t))

times_tail : (c x : ℕ) (xs : List ℕ) → times c (x ∷ xs) ≡ 0 → times c xs ≡ 0
times_tail c x xs h = go (x == c) h
  where
    go : (b : Bool) → (if b then 1 else 0) + times c xs ≡ 0 → times c xs ≡ 0
    go true k = absurd (omega (arith, k))
    go false k = omega (arith, k)

times_head : (c : ℕ) (xs : List ℕ) → times c (c ∷ xs) ≡ 0 → ⊥
times_head c xs h =
    let k : 1 + times c xs ≡ 0 = sym (ap (λ b. (if b then 1 else 0) + times c xs) (equal_self c)) ∙ h in
    omega (arith, k)

-- the values of a call fit the formals of its entry
called_fits : (l : Task) (r : Called) → called_by l.setting (vars_of l) (call_in (rest_of l)) ≡ Some (Ok r) → ((e : ℕ) → LowersFit l.setting.types (entry_parameters l.setting e)) →
    ValuesFit l.setting.types (entry_parameters l.setting r.entry) r.values
called_fits l r h lowers = go (call_in (rest_of l)) h
  where
    go : (o : Option PCall) → called_by l.setting (vars_of l) o ≡ Some (Ok r) → ValuesFit l.setting.types (entry_parameters l.setting r.entry) r.values
    go None q = absurd (none_some q)
    go (Some call) q =
        let c = chain (callee_task l.setting (vars_of l) call.task)
        (λ owner. called_with l.setting (vars_of l) (entry_of l.setting.numbers owner call.entry.name) (lists_of l.setting.numbers (entry_of l.setting.numbers owner call.entry.name) call.args)) r (some_path q) in
        let e : ℕ = entry_of l.setting.numbers c.value call.entry.name in
        let lists = lists_of l.setting.numbers e call.args in
        let d = chain (member_index l.setting (vars_of l) e lists.index)
        (λ i. and_then (openings l.setting.types (vars_of l) (entry_parameters l.setting e) lists.actuals) (λ vs. Ok record { entry = e; index = i; values = vs })) r c.rest in
        let f = chain (openings l.setting.types (vars_of l) (entry_parameters l.setting e) lists.actuals) (λ vs. Ok record { entry = e; index = d.value; values = vs }) r d.rest in
        subst (λ (x : Called). ValuesFit l.setting.types (entry_parameters l.setting x.entry) x.values) (ok_path f.rest)
        (openings_fit l.setting.types (vars_of l) (entry_parameters l.setting e) lists.actuals f.value (lowers e) f.first)

-- ---- one world

module _ (g : Setting) (n : ℕ) (owner : ℕ → ℕ) (made : IsWellMade g) (w : World Task) (kept : IsKept g n w) (sound : IsSound task_ops IsProper w.tasks) where
  abbrev p : Program Task
  p = record { ops = task_ops; owner = owner; size = n }

  -- how the accept bodies that a task has open come from those before
  data From (a : ℕ) (os : List Opening) : Type 0 where
    from_same : openings_in (w.tasks a).local.control ≡ os → From a os
    from_tail : (o : Opening) → openings_in (w.tasks a).local.control ≡ o ∷ os → From a os
    from_more : (o : Opening) → o ∷ openings_in (w.tasks a).local.control ≡ os → IsLinked g o.formals (w.tasks o.caller).local → From a os

  -- a task after a move: one of the program, with such accept bodies
  abbrev Next : ℕ → Seat Task → Type 0
  Next u seat = u < n → IsIn g u seat.local × From u (openings_in seat.local.control)

  next_same : (u : ℕ) → Next u (w.tasks u)
  next_same u m = (kept.each u m, from_same refl)

  next_goes : (u : ℕ) (seat next : Seat Task) → Next u seat → (Stays (Conforms g u) seat.local → Goes (Conforms g u) seat.local next.local) → Next u next
  next_goes u seat next h goes m =
      let k = h m in
      let go = goes (stays_in g u seat.local k.0) in
      (goes_in g u seat.local next.local k.0 go, subst (From u) (sym go.good.same) k.1)

  next_standing : (u : ℕ) (seat : Seat Task) (standing : Standing) → Next u seat → Next u (record { local = seat.local; standing = standing })
  next_standing u seat standing h = h

  next_let_go : (f : Task → Task) → ((u : ℕ) (l : Task) → Stays (Conforms g u) l → Goes (Conforms g u) l (f l)) → (v u : ℕ) (seat : Seat Task) → Next u seat → Next u (let_go f v seat)
  next_let_go f goes v u seat h = go (is_served_by v seat.standing) (is_abnormal seat.standing)
    where
      go : (b c : Bool) → Next u (if b then (if c then completed seat.local else live (f seat.local)) else seat)
      go true true = h
      go true false = next_goes u seat (live (f seat.local)) h (goes u seat.local)
      go false c = h

  -- a task that acts by itself
  next_put : (f : Task → Task) → ((u : ℕ) (l : Task) → Stays (Conforms g u) l → Goes (Conforms g u) l (f l)) → (t u : ℕ) → Next u (put w.tasks t (live (f (w.tasks t).local)) u)
  next_put f goes t u = put_each Next w.tasks t (live (f (w.tasks t).local)) u
      (λ q. subst (λ v. Next u (live (f (w.tasks v).local))) (eqb-true u t q) (next_goes u (w.tasks u) (live (f (w.tasks u).local)) (next_same u) (goes u (w.tasks u).local)))
      (λ q. next_same u)

  next_fell : (tasks : ℕ → Seat Task) (v : ℕ) (closing : Standing) → ((u : ℕ) → Next u (tasks u)) → (u : ℕ) → Next u (fell task_ops.raised tasks v closing u)
  next_fell tasks v closing h u =
      put_each Next (λ z. let_go task_ops.raised v (tasks z)) v (record { local = (let_go task_ops.raised v (tasks v)).local; standing = fallen closing (let_go task_ops.raised v (tasks v)).standing }) u
      (λ q. subst (λ z. Next u (record { local = (let_go task_ops.raised v (tasks z)).local; standing = fallen closing (let_go task_ops.raised v (tasks z)).standing })) (eqb-true u v q) (gone u))
      (λ q. gone u)
    where
      gone : (u : ℕ) → Next u (let_go task_ops.raised v (tasks u))
      gone u = next_let_go task_ops.raised (λ z l k. goes_failed (Conforms g z) l k) v u (tasks u) (h u)

  -- ---- who is served behind a move

  -- whom a serves then it served before, in the same state; or that task was free, as a was
  abbrev Before : ℕ → ℕ → Seat Task → Type 0
  Before a c seat = is_served_by a seat.standing ≡ true →
      (seat.local ≡ (w.tasks c).local) × ((is_served_by a (w.tasks c).standing ≡ true) ⊎ (((w.tasks c).standing ≡ Live) × ((w.tasks a).standing ≡ Live)))

  before_same : (a c : ℕ) → Before a c (w.tasks c)
  before_same a c h = (refl, inl h)

  before_live : (a c : ℕ) (l : Task) → Before a c (live l)
  before_live a c l h = absurd (true≢false (sym h))

  before_let_go : (f : Task → Task) (v a c : ℕ) (seat : Seat Task) → Before a c seat → Before a c (let_go f v seat)
  before_let_go f v a c seat h = go (is_served_by v seat.standing) (is_abnormal seat.standing)
    where
      go : (b d : Bool) → Before a c (if b then (if d then completed seat.local else live (f seat.local)) else seat)
      go true true k = absurd (true≢false (sym k))
      go true false k = absurd (true≢false (sym k))
      go false d k = h k

  before_fallen : (closing : Standing) → ((a : ℕ) → is_served_by a closing ≡ false) → (a c : ℕ) (seat : Seat Task) → Before a c seat → Before a c (record { local = seat.local; standing = fallen closing seat.standing })
  before_fallen closing shut a c seat h = go seat.standing h
    where
      go : (s : Standing) → Before a c (record { local = seat.local; standing = s }) → Before a c (record { local = seat.local; standing = fallen closing s })
      go Live k q = absurd (true≢false (sym q ∙ shut a))
      go Waiting k q = absurd (true≢false (sym q ∙ shut a))
      go Queued k q = absurd (true≢false (sym q ∙ shut a))
      go (Served by abnormal) k q = k q
      go Completed k q = k q
      go Killed k q = k q

  before_put : (a t c : ℕ) (l : Task) → Before a c (put w.tasks t (live l) c)
  before_put a t c l = put_each (Before a) w.tasks t (live l) c (λ q. before_live a c l) (λ q. before_same a c)

  before_fell : (tasks : ℕ → Seat Task) (v : ℕ) (closing : Standing) → ((a : ℕ) → is_served_by a closing ≡ false) → (a : ℕ) → ((c : ℕ) → Before a c (tasks c)) → (c : ℕ) → Before a c (fell task_ops.raised tasks v closing c)
  before_fell tasks v closing shut a h c =
      put_each (Before a) (λ z. let_go task_ops.raised v (tasks z)) v (record { local = (let_go task_ops.raised v (tasks v)).local; standing = fallen closing (let_go task_ops.raised v (tasks v)).standing }) c
      (λ q. subst (λ z. Before a c (record { local = (let_go task_ops.raised v (tasks z)).local; standing = fallen closing (let_go task_ops.raised v (tasks z)).standing })) (eqb-true c v q)
      (before_fallen closing shut a c (let_go task_ops.raised v (tasks c)) (before_let_go task_ops.raised v a c (tasks c) (h c))))
      (λ q. before_let_go task_ops.raised v a c (tasks c) (h c))

  -- ---- links

  -- none of these callers is free while a is
  abbrev Sparse : ℕ → List Opening → Type 0
  Sparse a os = (c : ℕ) → (w.tasks c).standing ≡ Live → (w.tasks a).standing ≡ Live → times c (callers_of os) ≡ 0

  sparse : (a : ℕ) → Sparse a (openings_in (w.tasks a).local.control)
  sparse a c free open' = ap (times c) (callers_are (w.tasks a).local) ∙ sound.callers a c (ap is_closed open') ∙ ap (λ s. if is_served_by a s then 1 else 0) free

  links_on : (v : World Task) (a : ℕ) → ((c : ℕ) → Before a c (v.tasks c)) → (os : List Opening) → Sparse a os → AreLinked g w a os → AreLinked g v a os
  links_on v a before [] thin h = tt
  links_on v a before (o ∷ os) thin h = (
    λ served. go served (before o.caller served),
    links_on v a before os (λ c free open'. times_tail c o.caller (callers_of os) (thin c free open')) h.1,
  )
    where
      go : is_served_by a (v.tasks o.caller).standing ≡ true →
          ((v.tasks o.caller).local ≡ (w.tasks o.caller).local) × ((is_served_by a (w.tasks o.caller).standing ≡ true) ⊎ (((w.tasks o.caller).standing ≡ Live) × ((w.tasks a).standing ≡ Live))) →
          IsLinked g o.formals (v.tasks o.caller).local
      go served k = ⊎_elim
          (λ q. subst (IsLinked g o.formals) (sym k.0) (h.0 q))
          (λ q. absurd (times_head o.caller (callers_of os) (thin o.caller q.0 q.1))) k.1

  links_from : (v : World Task) (a : ℕ) → ((c : ℕ) → Before a c (v.tasks c)) → AreLinked g w a (openings_in (w.tasks a).local.control) → (os : List Opening) → From a os → AreLinked g v a os
  links_from v a before links os (from_same q) = subst (AreLinked g v a) q (links_on v a before (openings_in (w.tasks a).local.control) (sparse a) links)
  links_from v a before links os (from_tail o q) =
      links_on v a before os (λ c free open'. times_tail c o.caller (callers_of os) (subst (λ xs. times c (callers_of xs) ≡ 0) q (sparse a c free open'))) (subst (AreLinked g w a) q links).1
  links_from v a before links os (from_more o q linked) = subst (AreLinked g v a) q (
    λ served. subst (IsLinked g o.formals) (sym (before o.caller served).0) linked,
    links_on v a before (openings_in (w.tasks a).local.control) (sparse a) links,
  )

  -- what is kept behind a move
  behind : (v : World Task) → ((u : ℕ) → Next u (v.tasks u)) → ((a c : ℕ) → Before a c (v.tasks c)) → ((t : ℕ) → n ≤ t → is_completed (v.tasks t).standing ≡ true) → IsKept g n v
  behind v nexts befores over = record {
    each = λ t m. (nexts t m).0;
    links = λ a m. links_from v a (befores a) (kept.links a m) (openings_in (v.tasks a).local.control) (nexts a m).1;
    beyond = over;
  }

  -- ---- past the last task

  over_on : (move : Move) → can_move p w move ≡ true → (u : ℕ) → n ≤ u → is_completed ((moved p w move).tasks u).standing ≡ true
  over_on (Step t) h u l = go (u == t) refl
    where
      free : (w.tasks t).standing ≡ Live
      free = is-Live (w.tasks t).standing (and_parts (is_live (w.tasks t).standing) (task_ops.can_step (w.tasks t).local) (and_parts (not w.ended) (is_live (w.tasks t).standing && task_ops.can_step (w.tasks t).local) h).1).0

      go : (b : Bool) → (u == t) ≡ b → is_completed (if b then live (task_ops.stepped (w.tasks t).local) else w.tasks u).standing ≡ true
      go true q = absurd (true≢false (sym (kept.beyond u l) ∙ ap (λ v. is_completed (w.tasks v).standing) (eqb-true u t q) ∙ ap is_completed free))
      go false q = kept.beyond u l
  over_on (Happen e) h u l =
      ap (λ (y : Seat Task). is_completed y.standing)
      (unchanged p e w.tasks u (completed_stays p e w.tasks (and_parts (not w.ended) (happens p w.tasks e) h).1 (serving p IsProper w.tasks sound) u (kept.beyond u l))) ∙ kept.beyond u l

  -- ---- a rendezvous starts

  module _ (c e : ℕ) (i : ℤ) (h : happens p w.tasks (R c e i) ≡ true) where
    abbrev o : ℕ
    o = owner e

    parts : (offers task_ops (calls_in is_any_form e i) (w.tasks c) ≡ true) × (offers task_ops (waits_with (opens e i)) (w.tasks o) ≡ true)
    parts = and_parts (offers task_ops (calls_in is_any_form e i) (w.tasks c)) (offers task_ops (waits_with (opens e i)) (w.tasks o)) h

    calls : (is_live (w.tasks c).standing ≡ true) × (calls_in is_any_form e i (task_ops.offer (w.tasks c).local) ≡ true)
    calls = and_parts (is_live (w.tasks c).standing) (calls_in is_any_form e i (task_ops.offer (w.tasks c).local)) parts.0

    waits : (is_live (w.tasks o).standing ≡ true) × (waits_with (opens e i) (task_ops.offer (w.tasks o).local) ≡ true)
    waits = and_parts (is_live (w.tasks o).standing) (waits_with (opens e i) (task_ops.offer (w.tasks o).local)) parts.1

    other : (c == o) ≡ false
    other = go (c == o) refl
      where
        go : (b : Bool) → (c == o) ≡ b → (c == o) ≡ false
        go true q = absurd (calls_waits is_any_form (opens e i) e i (task_ops.offer (w.tasks c).local) calls.1
            (subst (λ v. waits_with (opens e i) (task_ops.offer (w.tasks v).local) ≡ true) (sym (eqb-true c o q)) waits.1))
        go false q = q

    -- a free task is one of the program
    inside : (t : ℕ) → is_live (w.tasks t).standing ≡ true → t < n
    inside t free = ⊎_elim (λ (m : t < n). m) (λ (m : n ≤ t). absurd (true≢false (sym (kept.beyond t m) ∙ ap is_completed (is-Live (w.tasks t).standing free)))) (cases_lt t n)

    caller_in : IsIn g c (w.tasks c).local
    caller_in = kept.each c (inside c calls.0)

    called_at : AtCall (w.tasks c).local e i
    called_at = at_call (w.tasks c).local e i calls.1

    found : (x : Open) × (alternative_for (w.tasks o).local e i ≡ Some x)
    found = at_accept (w.tasks o).local e i waits.1

    acceptor_in : (m : o < n) → IsIn g o (w.tasks o).local
    acceptor_in m = kept.each o m

    -- the values that the caller hands over fit the entry's formals
    values_fit : ValuesFit g.types (entry_parameters g e) (values_handed (w.tasks c).local)
    values_fit = subst (ValuesFit g.types (entry_parameters g e)) (sym (ap opening_values called_at.calls))
        (subst (λ f. ValuesFit g.types (entry_parameters g f) called_at.result.values) called_at.entry
        (subst (λ (s : Setting). ValuesFit s.types (entry_parameters s called_at.result.entry) called_at.result.values) caller_in.setting
        (called_fits (w.tasks c).local called_at.result called_at.calls (subst (λ (s : Setting). (f : ℕ) → LowersFit s.types (entry_parameters s f)) (sym caller_in.setting) made.lowers))))

    opened_next : (x : Open) → alternative_for (w.tasks o).local e i ≡ Some x → Next o (live (task_ops.accepted e i c (w.tasks c).local (w.tasks o).local))
    opened_next (Accepts f j head stmts later) q m =
        subst (λ l. IsIn g o l × From o (openings_in l.control)) (sym (ap (λ x. rendezvous.alternative_opened c x (values_handed (w.tasks c).local) (w.tasks o).local) q)) (
          good_in g o (rendezvous.body_opened c formals stmts later (values_handed (w.tasks c).local) (w.tasks o).local) (opening ∷ openings_in (w.tasks o).local.control) good
              (acceptor_in m).setting (acceptor_in m).number,
          from_more opening (sym good.same) linked,
        )
      where
        inner : Found (Conforms g o) (w.tasks o).local e i (Accepts f j head stmts later)
        inner = found_for (Conforms g o) (w.tasks o).local e i (Accepts f j head stmts later) (acceptor_in m).rest q

        formals : List FormalParameter
        formals = parameters_of (w.tasks o).local.setting.types head.formals

        opening : Opening
        opening = record { caller = c; formals = formals }

        same_entry : e ≡ entry_of g.numbers o head.entry.name
        same_entry = (same_member-true e f i j inner.accepts).0 ∙ inner.inside.0.1 ∙
            ap (λ (x : Setting). entry_of x.numbers (w.tasks o).local.number head.entry.name) (acceptor_in m).setting ∙ ap (λ k. entry_of g.numbers k head.entry.name) (acceptor_in m).number

        alike : AreAlike (entry_parameters g e) (parameters_of g.types head.formals)
        alike = subst (λ k. AreAlike (entry_parameters g k) (parameters_of g.types head.formals)) (sym same_entry) inner.inside.0.0

        held : AreHeld formals (opened_objects (w.tasks o).local.setting.types formals (values_handed (w.tasks c).local) ++ vars_of (w.tasks o).local)
        held = subst (λ (x : Setting). AreHeld (parameters_of x.types head.formals) (opened_objects x.types (parameters_of x.types head.formals) (values_handed (w.tasks c).local) ++ vars_of (w.tasks o).local))
            (sym (acceptor_in m).setting)
            (opened_held g.types (entry_parameters g e) (parameters_of g.types head.formals) (values_handed (w.tasks c).local) (vars_of (w.tasks o).local) alike (made.lowers e) values_fit)

        good : Good (Conforms g o) (opening ∷ openings_in (w.tasks o).local.control) (rendezvous.body_opened c formals stmts later (values_handed (w.tasks c).local) (w.tasks o).local).control
        good = good_opened (Conforms g o) c formals stmts later (values_handed (w.tasks c).local) (w.tasks o).local inner.inside.1.0 inner.inside.1.1 (stays_in g o (w.tasks o).local (acceptor_in m)) held

        linked : IsLinked g formals (w.tasks c).local
        linked = record {
          result = called_at.result;
          calls = called_at.calls;
          alike = subst (λ k. AreAlike (entry_parameters g k) formals) (sym called_at.entry)
              (subst (λ (x : Setting). AreAlike (entry_parameters g e) (parameters_of x.types head.formals)) (sym (acceptor_in m).setting) alike);
        }
    opened_next (Delays k duration stmts) q m = absurd (true≢false (sym (found_for (Conforms g o) (w.tasks o).local e i (Delays k duration stmts) (acceptor_in m).rest q).accepts))
    opened_next Terminates q m = absurd (true≢false (sym (found_for (Conforms g o) (w.tasks o).local e i Terminates (acceptor_in m).rest q).accepts))

    abbrev acceptor : Task
    acceptor = task_ops.accepted e i c (w.tasks c).local (w.tasks o).local

    abbrev served : Seat Task
    served = record { local = (w.tasks c).local; standing = Served o false }

    next_met : (u : ℕ) → Next u (acted (numbered p) w.tasks (R c e i) u)
    next_met u = subst (λ (ts : ℕ → Seat Task). Next u (ts u)) (sym (met_is w.tasks c o acceptor other))
        (put_each Next (put w.tasks o (live acceptor)) c served u
        (λ q. subst (λ v. Next u (record { local = (w.tasks v).local; standing = Served o false })) (eqb-true u c q) (next_same u))
        (λ q. put_each Next w.tasks o (live acceptor) u (λ r. subst (λ v. Next v (live acceptor)) (sym (eqb-true u o r)) (opened_next found.0 found.1)) (λ r. next_same u)))

    before_met : (a d : ℕ) → Before a d (acted (numbered p) w.tasks (R c e i) d)
    before_met a d = subst (λ (ts : ℕ → Seat Task). Before a d (ts d)) (sym (met_is w.tasks c o acceptor other))
        (put_each (Before a) (put w.tasks o (live acceptor)) c served d
        (λ q. subst (λ v. Before a v served) (sym (eqb-true d c q))
        (λ h'. (refl, inr (is-Live (w.tasks c).standing calls.0, subst (λ v. (w.tasks v).standing ≡ Live) (eqb-true o a h') (is-Live (w.tasks o).standing waits.0)))))
        (λ q. before_put a o d acceptor))

  -- ---- a rendezvous ends

  module _ (a : ℕ) where
    abbrev ended : ℕ → Seat Task
    ended = put w.tasks a (live (task_ops.finished (w.tasks a).local))

    left_next : (u : ℕ) → Next u (live (task_ops.finished (w.tasks u).local))
    left_next u m =
        let k = kept.each u m in
        let l = leaves_finished (Conforms g u) (w.tasks u).local (stays_in g u (w.tasks u).local k) in (
          good_in g u (task_ops.finished (w.tasks u).local) l.openings l.good (l.setting ∙ k.setting) (l.number ∙ k.number),
          ⊎_elim (λ q. from_same (q ∙ sym l.good.same)) (λ q. from_tail q.0 (q.1 ∙ ap (λ os. q.0 ∷ os) (sym l.good.same))) l.from,
        )

    ended_next : (u : ℕ) → Next u (ended u)
    ended_next u = put_each Next w.tasks a (live (task_ops.finished (w.tasks a).local)) u
        (λ q. subst (λ v. Next u (live (task_ops.finished (w.tasks v).local))) (eqb-true u a q) (left_next u)) (λ q. next_same u)

    first_next : (callers : List ℕ) (u : ℕ) → Next u (released_first (numbered p) a (w.tasks a).local callers ended u)
    first_next [] u = ended_next u
    first_next (c ∷ callers) u = put_each Next ended c (let_go (task_ops.resumed (w.tasks a).local) a (ended c)) u
        (λ q. subst (λ v. Next u (let_go (task_ops.resumed (w.tasks a).local) a (ended v))) (eqb-true u c q)
        (next_let_go (task_ops.resumed (w.tasks a).local) (λ z l k. goes_resumed (Conforms g z) (w.tasks a).local l k) a u (ended u) (ended_next u)))
        (λ q. ended_next u)

    first_before : (callers : List ℕ) (b d : ℕ) → Before b d (released_first (numbered p) a (w.tasks a).local callers ended d)
    first_before [] b d = before_put b a d (task_ops.finished (w.tasks a).local)
    first_before (c ∷ callers) b d = put_each (Before b) ended c (let_go (task_ops.resumed (w.tasks a).local) a (ended c)) d
        (λ q. subst (λ v. Before b d (let_go (task_ops.resumed (w.tasks a).local) a (ended v))) (eqb-true d c q)
        (before_let_go (task_ops.resumed (w.tasks a).local) a b d (ended d) (before_put b a d (task_ops.finished (w.tasks a).local))))
        (λ q. before_put b a d (task_ops.finished (w.tasks a).local))

  -- ---- an abort

  module _ (t v : ℕ) where
    abbrev passing : ℕ → Seat Task
    passing = put w.tasks t (live (task_ops.passed (w.tasks t).local))

    passing_next : (u : ℕ) → Next u (passing u)
    passing_next u = next_put task_ops.passed (λ z l k. goes_passed (Conforms g z) l k) t u

    -- a task that aborts itself though it is closed, as none does
    self_closed : is_closed (w.tasks v).standing ≡ true → (v == t) ≡ true → abort_seats (numbered p) w.tasks t v ≡ w.tasks
    self_closed s q =
        ap (λ b. if b then went_on (numbered p) w.tasks t v else aborted (numbered p) (went_on (numbered p) w.tasks t v) v (if v == t then Completed else Killed)) s ∙
        ap (λ b. if◌then◌else◌ {A = ℕ → Seat Task} b w.tasks (put w.tasks t (live (task_ops.passed (w.tasks t).local)))) q

    abort_next : (u : ℕ) → Next u (abort_seats (numbered p) w.tasks t v u)
    abort_next u = ⊎_elim itself (λ q. ⊎_elim (closed q) (opened' q) (cases_Bool (is_closed (w.tasks v).standing))) (cases_Bool (v == t))
      where
        itself : (v == t) ≡ true → Next u (abort_seats (numbered p) w.tasks t v u)
        itself q = ⊎_elim
            (λ s. subst (λ (ts : ℕ → Seat Task). Next u (ts u)) (sym (self_closed s q)) (next_same u))
            (λ s. subst (λ (ts : ℕ → Seat Task). Next u (ts u)) (sym (abort_self p w.tasks t v s q)) (next_fell w.tasks v Completed next_same u))
            (cases_Bool (is_closed (w.tasks v).standing))

        closed : (v == t) ≡ false → is_closed (w.tasks v).standing ≡ true → Next u (abort_seats (numbered p) w.tasks t v u)
        closed q s = subst (λ (ts : ℕ → Seat Task). Next u (ts u)) (sym (abort_closed p w.tasks t v s q)) (passing_next u)

        opened' : (v == t) ≡ false → is_closed (w.tasks v).standing ≡ false → Next u (abort_seats (numbered p) w.tasks t v u)
        opened' q s = subst (λ (ts : ℕ → Seat Task). Next u (ts u)) (sym (abort_open p w.tasks t v s q)) (next_fell passing v Killed passing_next u)

    abort_before : (a d : ℕ) → Before a d (abort_seats (numbered p) w.tasks t v d)
    abort_before a d = ⊎_elim itself (λ q. ⊎_elim (closed q) (opened' q) (cases_Bool (is_closed (w.tasks v).standing))) (cases_Bool (v == t))
      where
        itself : (v == t) ≡ true → Before a d (abort_seats (numbered p) w.tasks t v d)
        itself q = ⊎_elim
            (λ s. subst (λ (ts : ℕ → Seat Task). Before a d (ts d)) (sym (self_closed s q)) (before_same a d))
            (λ s. subst (λ (ts : ℕ → Seat Task). Before a d (ts d)) (sym (abort_self p w.tasks t v s q)) (before_fell w.tasks v Completed (λ b. refl) a (before_same a) d))
            (cases_Bool (is_closed (w.tasks v).standing))

        closed : (v == t) ≡ false → is_closed (w.tasks v).standing ≡ true → Before a d (abort_seats (numbered p) w.tasks t v d)
        closed q s = subst (λ (ts : ℕ → Seat Task). Before a d (ts d)) (sym (abort_closed p w.tasks t v s q)) (before_put a t d (task_ops.passed (w.tasks t).local))

        opened' : (v == t) ≡ false → is_closed (w.tasks v).standing ≡ false → Before a d (abort_seats (numbered p) w.tasks t v d)
        opened' q s = subst (λ (ts : ℕ → Seat Task). Before a d (ts d)) (sym (abort_open p w.tasks t v s q))
            (before_fell passing v Killed (λ b. refl) a (λ c. before_put a t c (task_ops.passed (w.tasks t).local)) d)

  -- ---- each move

  completed_next : (a u : ℕ) → Next u (put w.tasks a (record { local = (w.tasks a).local; standing = Completed }) u)
  completed_next a u = put_each Next w.tasks a (record { local = (w.tasks a).local; standing = Completed }) u
      (λ q. subst (λ v. Next u (record { local = (w.tasks v).local; standing = Completed })) (eqb-true u a q) (next_same u)) (λ q. next_same u)

  completed_before : (a b d : ℕ) → Before b d (put w.tasks a (record { local = (w.tasks a).local; standing = Completed }) d)
  completed_before a b d = put_each (Before b) w.tasks a (record { local = (w.tasks a).local; standing = Completed }) d (λ q h. absurd (true≢false (sym h))) (λ q. before_same b d)

  next_acted : (e : Event) → happens p w.tasks e ≡ true → (u : ℕ) → Next u (acted (numbered p) w.tasks e u)
  next_acted (R c e i) h u = next_met c e i h u
  next_acted (E a) h u = first_next a (task_ops.callers (w.tasks a).local) u
  next_acted (S a) h u = next_put task_ops.took_else (λ z l k. goes_else (Conforms g z) l k) a u
  next_acted (D a d) h u = next_put (task_ops.took_delay d) (λ z l k. goes_delay (Conforms g z) d l k) a u
  next_acted (C c e i) h u = next_put task_ops.took_else (λ z l k. goes_else (Conforms g z) l k) c u
  next_acted (T c e i) h u = next_put (task_ops.took_delay 1) (λ z l k. goes_delay (Conforms g z) 1 l k) c u
  next_acted (F c e i) h u = next_put task_ops.raised (λ z l k. goes_failed (Conforms g z) l k) c u
  next_acted (X a) h u = completed_next a u
  next_acted (B t v) h u = abort_next t v u
  next_acted Z h u = next_same u

  before_acted : (e : Event) → happens p w.tasks e ≡ true → (a d : ℕ) → Before a d (acted (numbered p) w.tasks e d)
  before_acted (R c e i) h a d = before_met c e i h a d
  before_acted (E b) h a d = first_before b (task_ops.callers (w.tasks b).local) a d
  before_acted (S b) h a d = before_put a b d (task_ops.took_else (w.tasks b).local)
  before_acted (D b k) h a d = before_put a b d (task_ops.took_delay k (w.tasks b).local)
  before_acted (C c e i) h a d = before_put a c d (task_ops.took_else (w.tasks c).local)
  before_acted (T c e i) h a d = before_put a c d (task_ops.took_delay 1 (w.tasks c).local)
  before_acted (F c e i) h a d = before_put a c d (task_ops.raised (w.tasks c).local)
  before_acted (X b) h a d = completed_before b a d
  before_acted (B t v) h a d = abort_before t v a d
  before_acted Z h a d = before_same a d

  pub kept_moved : (move : Move) → can_move p w move ≡ true → IsKept g n (moved p w move)
  kept_moved (Step t) h = behind (moved p w (Step t)) (next_put task_ops.stepped (λ z l k. goes_stepped (Conforms g z) l k) t) (λ a d. before_put a t d (task_ops.stepped (w.tasks t).local)) (over_on (Step t) h)
  kept_moved (Happen e) h =
      let holds = (and_parts (not w.ended) (happens p w.tasks e) h).1 in
      behind (moved p w (Happen e)) (next_acted e holds) (before_acted e holds) (over_on (Happen e) h)
