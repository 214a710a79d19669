-- The tasks of a normal form imitate those of the program, so the two show the same.
use Rattle.std.proofs.Common.{◌≡◌, ℕ, zero, suc, ◌<◌, ◌≤◌, ℤ, Bool, true, false, not, ◌&&◌, ◌==◌, ◌-◌, if◌then◌else◌, List, [], ◌∷◌, ◌++◌, length, Option, Some, None, Ok, refl, sym, ap, ap₂, subst, ◌∙◌, true≢false, slice_index_or, slice_get, ⊎_elim}
use Rattle.std.specs.Option.{option_map_or}
use Rattle.std.proofs.lemmas.Bool.{and_parts, cases_lt, eqb-false}
use Rattle.event_machine.specs.declared.Standing.{Standing}
use Rattle.event_machine.specs.declared.Standing.TheVariants.{Live, Waiting, Queued, Served, Completed, Killed}
use Rattle.event_machine.specs.declared.Event.{Event}
use Rattle.event_machine.specs.declared.Event.TheVariants.{R, E, S, D, C, T, F, B}
use Rattle.event_machine.specs.Offers.{is_any_form, is_conditional, is_timed, calls_in, waits_with, is_finish, opens, is_else, is_delay}
use Rattle.event_machine.specs.States.{Seat, State, is_live, is_closed, is_completed, is_served_by}
use Rattle.event_machine.specs.Programs.{Program, numbered, by_number, IsOpening}
use Rattle.event_machine.specs.Worlds.{World, Step, Happen, can_move, happens, offers, aborts}
use Rattle.ada_value.specs.declared.values.Value.{Value}
use Rattle.ada_value.specs.declared.values.Raised.{Raised}
use Rattle.ada_value.specs.declared.values.Raised.TheVariants as raised
use Rattle.syn_event.specs.Numbering.{owner_of}
use Rattle.task_model.specs.declared.parameters.FormalParameter.{FormalParameter}
use Rattle.task_model.specs.Setting.{Setting, entry_parameters}
use Rattle.ada_tree.specs.PlainStmt.{PStmts}
use Rattle.ada_value.specs.Variables.{Object, Variables}
use Rattle.task_model.specs.Frames.{Around, OwnBody, Opened, PFrame, control, caller_at, callers_among, callers_in}
use Rattle.task_model.specs.Steps.{block_stmts, block_handlers}
use Rattle.task_model.specs.Tasks.{Task, place_of, outer_of, vars_of, raised_there}
use Rattle.task_model.specs.Calls.{finals_in}
use Rattle.task_model.specs.Waits.{Open, Accepts, Delays, Terminates, alternative_for}
use Rattle.task_model.specs.Stands.{call_stand, stand_of, offered, steps_at, stepped_by, can_step, stepped, offer_of}
use Rattle.task_model.specs.Rendezvous.{alternative_opened, accepted, pending_of, finals_at, finals_of, finished, returned, resumed_with, resumed, call_failed, took_else, took_delay, past_name}
use Rattle.task_model.specs.Starting.{started}
use Rattle.task_model.specs.TaskOps.{task_ops}
use Rattle.task_model.specs.Machine.{setting_of, opening_of}
use Rattle.task_model.specs.Laws.{IsProper, program_in}
use Rattle.task_model.proofs.Lawful.{lawful}
use Rattle.task_model.proofs.Following as following
use Rattle.task_laws.specs.invariants.Holding.{AreHeld, Own, opening_at, openings_among, openings_in}
use Rattle.task_laws.specs.invariants.Worlds.{Conforms, IsIn, IsLinked, AreLinked, IsKept}
use Rattle.task_laws.proofs.invariants.Steady.{Goes, Stays, goes_stepped}
use Rattle.task_laws.proofs.invariants.Meetings.{leaves_finished, goes_resumed, goes_else, goes_delay, goes_passed}
use Rattle.task_laws.proofs.invariants.Keeping.{stays_in}
use Rattle.task_laws.proofs.invariants.Beginning as beginning
use Rattle.run_laws.specs.imitation.Imitations as imit
use Rattle.run_laws.specs.imitation.Shown.{ShowSame, AllFreeAre}
use Rattle.run_laws.proofs.imitation.Showing.{all_back, all_forth, all_fine}
use Rattle.task_laws.specs.translation.Translations.{Programs, Translation}
use Rattle.task_laws.specs.translation.Controls.{task_in, Under, on_floor, Alike, alike, inside, AreInside, are_inside, AreAround}
use Rattle.task_laws.specs.translation.Floors.{IsTranslation}
use Rattle.task_laws.proofs.translation.Locals.{raises-alike}
use Rattle.normal_laws.specs.runs.floors.Suited.{Rewritten}
use Rattle.normal_laws.specs.runs.floors.NormalLists.{normal_lists}
use Rattle.normal_laws.specs.runs.floors.NormalFloors.{AreOpen, accept_body, floor_at, normal}
use Rattle.normal_laws.specs.runs.floors.Meetings.{IsOpened, is_opened, EndAlike}
use Rattle.normal_laws.specs.runs.floors.Preludes.{Reaches, reaches_here, reaches_by, Added}
use Rattle.normal_laws.specs.runs.floors.inner.Met.{Catches, AreBack, CallMet, Meets, in_step, at_raise, at_call, at_wait, at_abort, at_finish, at_end}
use Rattle.normal_laws.proofs.runs.floors.Rows.{normal-images}
use Rattle.normal_laws.proofs.runs.floors.Floors.{normal-translates}
use Rattle.normal_laws.proofs.runs.floors.Meetings.{body-ends}
use Rattle.normal_laws.proofs.runs.floors.Carried.{normal_starts}
use Rattle.normal_laws.proofs.runs.tasks.Catching.{caught-up}
use Rattle.normal_laws.proofs.runs.tasks.Callers.{callers-same, output-same}
use Rattle.normal_laws.specs.runs.runs.Premises.{Rewrite, programs_of, unit_at, unit_before, objects_before, objects_after, IsNormalForm}
use Rattle.normal_laws.specs.runs.runs.Laws.{opened, NormalFormsShowSame, IsCalm, NormalFormsAreCalm}
use Rattle.normal_laws.proofs.runs.runs.Meeting.{meets-around, call-met, wait-met, wait-any, abort-met, Finishing, finish-met, conditional-form, timed-form, at-call, met-at-call, finals-back}
use Rattle.common_lemmas.proofs.Lists.{first_same}

-- the number of a task stays as an accept body is opened
opened-number : (caller : ℕ) (a : Option Open) (values : List Value) (t : Task) → (alternative_opened caller a values t).number ≡ t.number
opened-number caller None values t = refl
opened-number caller (Some (Accepts e z h l d)) values t = refl
opened-number caller (Some (Delays k d l)) values t = refl
opened-number caller (Some Terminates) values t = refl

inside-alike : (x : Translation) (σ κ : Task) → AreInside x σ κ → Alike x σ κ
inside-alike x σ κ (are_inside n i w r r' im u) = alike n i w (control r _ _ _) (control r' _ _ _) (inside r r' im u)

-- an accept body in which a task and its image stand: its formals are the latest variables
record OpenedFrame (b : Programs) (σ : Task) : Type 0 where
  caller : ℕ
  formals : List FormalParameter
  pending : Option Raised
  objects : List Object
  vars : Variables
  place : place_of σ ≡ Opened caller formals pending
  named : vars_of σ ≡ objects ++ vars
  own : AreOpen b formals objects

-- where a task of the normal form meets one of the program, it has a local step at a statement that does not synchronize, or it offers
calm-met : (x : Translation) (σ κ : Task) → Meets x σ κ → IsCalm κ
calm-met x σ κ (in_step st st' a sa) can = st'
calm-met x σ κ (at_raise e st a st' stop) can = st'
calm-met x σ κ (at_call c) can = absurd (true≢false (sym can ∙ ap steps_at c.stands_too))
calm-met x σ κ (at_wait c) can = absurd (true≢false (sym can ∙ ap steps_at c.stands_too))
calm-met x σ κ (at_abort c) can = absurd (true≢false (sym can ∙ ap steps_at c.stands_too))
calm-met x σ κ (at_finish st st' q o) can = absurd (true≢false (sym can ∙ ap steps_at st'))
calm-met x σ κ (at_end st st' q) can = absurd (true≢false (sym can ∙ ap steps_at st'))

module _ (w : Rewritten) (added : Added w.programs w.programs.original) where
  floor-frame : (k : ℕ) (n : ℕ) (i : List ℤ) (out : List ℕ) (r : PStmts) (p p' : Around) (o o' : List PFrame) (V W : Variables) → IsOpened p → floor_at (normal_lists w) added k p o V p' o' W →
      OpenedFrame w.programs (task_in w.programs.original n i out (control r p o V))
  floor-frame zero n i out r p p' o o' V1 W1 (is_opened c f e) (accept_body q q' a a' V W caller formals pending r1 r2 bs own im below) = absurd below
  floor-frame (suc k) n i out r p p' o o' V1 W1 (is_opened c f e) (accept_body q q' a a' V W caller formals pending r1 r2 bs own im below) =
      record { caller = caller; formals = formals; pending = pending; objects = bs; vars = V; place = refl; named = refl; own = own }

  under-frame : (n : ℕ) (i : List ℤ) (out : List ℕ) (r : PStmts) {p p' : Around} {o o' : List PFrame} {V W : Variables} → IsOpened p → Under (normal (normal_lists w) added) p o V p' o' W →
      OpenedFrame w.programs (task_in w.programs.original n i out (control r p o V))
  under-frame n i out r {p} {p'} {o} {o'} {V} {W} (is_opened c f e) (on_floor u) = floor-frame u.0 n i out r p p' o o' V W (is_opened c f e) u.1

  opened-frame : (σ κ : Task) → AreInside (normal (normal_lists w) added) σ κ → IsOpened (place_of σ) → OpenedFrame w.programs σ
  opened-frame σ κ (are_inside n i out r r' im u) q = under-frame n i out r q u

module _ (r : Rewrite) (form : IsNormalForm r) where
  abbrev b : Programs
  b = programs_of r

  abbrev g : Setting
  g = setting_of r.setup r.numbers

  -- the translation of a task's unit
  abbrev x : ℕ → Translation
  x t = normal (normal_lists (unit_at r t)) (form.added t)

  abbrev laws : (t : ℕ) → IsTranslation (x t)
  laws t = normal-translates (normal_lists (unit_at r t)) (normal-images (unit_at r t)) form.programs.types (form.added t)

  abbrev p : Program Task
  p = program_in r.setup r.numbers

  abbrev opening : State (ℕ → Seat Task)
  opening = by_number p (opening_of r.setup r.numbers).state

  opens_so : IsOpening (numbered p) opening
  opens_so =
      let o = following.opens r.setup r.numbers in
      record { line = o.line; ended = o.ended; live = o.live; callers = o.callers; beyond = o.beyond }

  abbrev original : imit.Original
  original = record {
    L = Task;
    p = p;
    out = λ t. t.output;
    IsProper = IsProper;
    lawful = lawful;
    opening = opening;
    opens_so = opens_so;
    proper = following.proper r.setup r.numbers;
    Known = IsKept g p.size;
    known_first = beginning.kept_first r.setup r.numbers form.well;
    known_on = λ w move kept sound can. beginning.kept_on r.setup r.numbers form.well w move kept sound can;
  }

  abbrev out : Task → List ℕ
  out t = t.output

  -- a task of the normal form meets one of the program in its unit
  abbrev MeetsIn : Task → Task → Type 0
  MeetsIn k l = Meets (x l.number) l k

  abbrev ComesTo : Task → Task → Type 0
  ComesTo k l = imit.Reaches original task_ops out MeetsIn IsCalm k l

  meets-in : (t : ℕ) (l k : Task) → l.number ≡ t → Meets (x t) l k → MeetsIn k l
  meets-in t l k e m = subst (λ n. Meets (x n) l k) (sym e) m

  meets-at : (t : ℕ) (l k : Task) → l.number ≡ t → MeetsIn k l → Meets (x t) l k
  meets-at t l k e m = subst (λ n. Meets (x n) l k) e m

  to-come : {k k1 : Task} → Reaches k k1 → (l : Task) → MeetsIn k1 l → ComesTo k l
  to-come (reaches_here k) l m = (0, m)
  to-come (reaches_by k k1 st e h) l m = let c = to-come h l m in (suc c.0, (ap steps_at st, λ can. st, e, c.1))

  -- one that is alike comes to where the other meets it
  caught : (t : ℕ) (l k : Task) → l.number ≡ t → Alike (x t) l k → ComesTo k l
  caught t l k e a = let c = caught-up (unit_at r t) form.programs (form.added t) (form.declared t) l k a e in to-come c.reach l (meets-in t l c.reached e c.meets)

  reach-more : {k k1 : Task} → Reaches k k1 → (l : Task) → ComesTo k1 l → ComesTo k l
  reach-more (reaches_here k) l c = c
  reach-more (reaches_by k k1 st e h) l c = let d = reach-more h l c in (suc d.0, (ap steps_at st, λ can. st, e, d.1))

  catches : (t : ℕ) (l k : Task) → l.number ≡ t → Catches (x t) l k → ComesTo k l
  catches t l k e c = reach-more c.reach l (caught t l c.reached e c.after)

  -- ---- a world that the program comes to

  module _ (w : World Task) (come : imit.IsComeTo original w) where
    -- a task that has not completed is one of the program's
    below : (t : ℕ) → is_completed (w.tasks t).standing ≡ false → t < p.size
    below t q = ⊎_elim (λ (l : t < p.size). l) (λ (l : p.size ≤ t). absurd (true≢false (sym (come.known.beyond t l) ∙ q))) (cases_lt t p.size)

    not-over : (s : Standing) → is_live s ≡ true → is_completed s ≡ false
    not-over Live e = refl
    not-over Waiting e = refl
    not-over Queued e = refl
    not-over (Served a y) e = refl
    not-over Completed e = cc
    not-over Killed e = cc

    abbrev task : ℕ → Task
    task t = (w.tasks t).local

    within : (t : ℕ) → is_live (w.tasks t).standing ≡ true → IsIn g t (task t)
    within t l = come.known.each t (below t (not-over (w.tasks t).standing l))

    served-within : (t a : ℕ) (y : Bool) → (w.tasks t).standing ≡ Served a y → IsIn g t (task t)
    served-within t a y e = come.known.each t (below t (ap is_completed e))

    stays : (t : ℕ) → IsIn g t (task t) → Stays (Conforms g t) (task t)
    stays t i = stays_in g t (task t) i

    -- what a task offers, where it offers it freely
    freely : (test : _ → Bool) (t : ℕ) → offers task_ops test (w.tasks t) ≡ true → (is_live (w.tasks t).standing ≡ true) × (test (offer_of (task t)) ≡ true)
    freely test t h = and_parts (is_live (w.tasks t).standing) (test (offer_of (task t))) h

    happened : (e : Event) → can_move p w (Happen e) ≡ true → happens p w.tasks e ≡ true
    happened e h = (and_parts (not w.ended) (happens p w.tasks e) h).1

    -- ---- local steps and offers

    steps : (t : ℕ) (k : Task) → MeetsIn k (task t) → can_move p w (Step t) ≡ true → (can_step k ≡ true) × ComesTo (stepped k) (stepped (task t))
    steps t k m h = go (meets-at t (task t) k i.number m)
      where
        both : (is_live (w.tasks t).standing ≡ true) × (can_step (task t) ≡ true)
        both = and_parts (is_live (w.tasks t).standing) (can_step (task t)) (and_parts (not w.ended) (is_live (w.tasks t).standing && can_step (task t)) h).1

        i : IsIn g t (task t)
        i = within t both.0

        goes : Goes (Conforms g t) (task t) (stepped (task t))
        goes = goes_stepped (Conforms g t) (task t) (stays t i)

        number : (stepped (task t)).number ≡ t
        number = goes.number ∙ i.number

        no-step : (st : _) → stand_of (task t) ≡ st → steps_at st ≡ false → (can_step k ≡ true) × ComesTo (stepped k) (stepped (task t))
        no-step st e f = absurd (true≢false (sym both.1 ∙ ap steps_at e ∙ f))

        go : Meets (x t) (task t) k → (can_step k ≡ true) × ComesTo (stepped k) (stepped (task t))
        go (in_step st st' a sa) = (sa.steps_too, caught t (stepped (task t)) (stepped k) number sa.after)
        go (at_raise e st a st' stop) =
            let f : stepped (task t) ≡ raised_there e (task t) = ap (λ s. stepped_by s (task t)) st in (
              ap steps_at st',
              subst (λ c. ComesTo c (stepped (task t))) (sym stop)
                  (subst (λ c. ComesTo (raised_there e k) c) (sym f) (caught t (raised_there e (task t)) (raised_there e k) i.number (raises-alike (x t) (laws t) (task t) k a e))),
            )
        go (at_call c) = no-step (call_stand c.form (Ok c.result)) c.stands refl
        go (at_wait c) = no-step _ c.stands refl
        go (at_abort c) = no-step _ c.stands refl
        go (at_finish st st' q o) = no-step _ st refl
        go (at_end st st' q) = no-step _ st refl

    offered-same : (t : ℕ) (k : Task) → MeetsIn k (task t) → can_step (task t) ≡ false → (can_step k ≡ false) × (offer_of k ≡ offer_of (task t))
    offered-same t k m h = go m
      where
        same : (st : _) → stand_of (task t) ≡ st → stand_of k ≡ st → steps_at st ≡ false → (can_step k ≡ false) × (offer_of k ≡ offer_of (task t))
        same st e f no-step = (ap steps_at f ∙ no-step, ap offered f ∙ sym (ap offered e))

        go : MeetsIn k (task t) → (can_step k ≡ false) × (offer_of k ≡ offer_of (task t))
        go (in_step st st' a sa) = absurd (true≢false (sym (ap steps_at st) ∙ h))
        go (at_raise e st a st' stop) = absurd (true≢false (sym (ap steps_at st) ∙ h))
        go (at_call c) = same (call_stand c.form (Ok c.result)) c.stands c.stands_too refl
        go (at_wait c) = same _ c.stands c.stands_too refl
        go (at_abort c) = same _ c.stands c.stands_too refl
        go (at_finish st st' q o) = same _ st st' refl
        go (at_end st st' q) = same _ st st' refl

    around : (t : ℕ) (k : Task) → IsIn g t (task t) → MeetsIn k (task t) → AreAround (x t) (task t) k
    around t k i m = meets-around (x t) (task t) k (meets-at t (task t) k i.number m)

    -- an exception that is raised in both
    raised-both : (e : Raised) (t : ℕ) (k : Task) → IsIn g t (task t) → MeetsIn k (task t) → ComesTo (raised_there e k) (raised_there e (task t))
    raised-both e t k i m = caught t (raised_there e (task t)) (raised_there e k) i.number (raises-alike (x t) (laws t) (task t) k (around t k i m) e)

    -- ---- a rendezvous starts

    met : (c e : ℕ) (z : ℤ) (j k : Task) → MeetsIn j (task c) → MeetsIn k (task (owner_of r.numbers e)) → can_move p w (Happen (R c e z)) ≡ true →
        ComesTo (accepted e z c j k) (accepted e z c (task c) (task (owner_of r.numbers e)))
    met c e z j k mj mk h =
        let o : ℕ = owner_of r.numbers e in
        let two = and_parts (offers task_ops (calls_in is_any_form e z) (w.tasks c)) (offers task_ops (waits_with (opens e z)) (w.tasks o)) (happened (R c e z) h) in
        let calls = freely (calls_in is_any_form e z) c two.0 in
        let waits = freely (waits_with (opens e z)) o two.1 in
        let ic : IsIn g c (task c) = within c calls.0 in
        let io : IsIn g o (task o) = within o waits.0 in
        let cm = call-met (x c) (task c) j is_any_form e z (meets-at c (task c) j ic.number mj) calls.1 in
        let wm = wait-met (x o) (task o) k (opens e z) (meets-at o (task o) k io.number mk) waits.1 in
        subst (λ vs. ComesTo (alternative_opened c (alternative_for k e z) vs k) (accepted e z c (task c) (task o))) (sym cm.handed_too)
        (subst (λ vs. ComesTo (alternative_opened c (alternative_for k e z) cm.result.values k) (alternative_opened c (alternative_for (task o) e z) vs (task o))) (sym cm.handed)
        (caught o (alternative_opened c (alternative_for (task o) e z) cm.result.values (task o)) (alternative_opened c (alternative_for k e z) cm.result.values k)
        (opened-number c (alternative_for (task o) e z) cm.result.values (task o) ∙ io.number)
        (wm.accepts c e z cm.result.values cm.known (wait-any (x o) (task o) k (opens e z) wm waits.1))))

    -- ---- a rendezvous ends

    ending : (a : ℕ) (k : Task) → MeetsIn k (task a) → can_move p w (Happen (E a)) ≡ true → (i : IsIn g a (task a)) × Finishing (x a) (task a) k
    ending a k m h =
        let f = freely is_finish a (happened (E a) h) in
        let i : IsIn g a (task a) = within a f.0 in
        (i, finish-met (x a) (task a) k (meets-at a (task a) k i.number m) f.1)

    ended-alike : (a : ℕ) (k : Task) → Finishing (x a) (task a) k → EndAlike (x a) (task a) k
    ended-alike a k f = body-ends (normal_lists (unit_at r a)) (normal-images (unit_at r a)) form.programs.types (form.added a) (task a) k f.within f.opened

    ended : (a : ℕ) (k : Task) → MeetsIn k (task a) → can_move p w (Happen (E a)) ≡ true → ComesTo (finished k) (finished (task a))
    ended a k m h =
        let q = ending a k m h in
        let l = leaves_finished (Conforms g a) (task a) (stays a q.0) in
        caught a (finished (task a)) (finished k) (l.number ∙ q.0.number) (ended-alike a k q.1).after

    -- ---- other parts

    else-taken : (a : ℕ) (k : Task) → MeetsIn k (task a) → can_move p w (Happen (S a)) ≡ true → ComesTo (took_else k) (took_else (task a))
    else-taken a k m h =
        let f = freely (waits_with is_else) a (happened (S a) h) in
        let i : IsIn g a (task a) = within a f.0 in
        let wm = wait-met (x a) (task a) k is_else (meets-at a (task a) k i.number m) f.1 in
        caught a (took_else (task a)) (took_else k) ((goes_else (Conforms g a) (task a) (stays a i)).number ∙ i.number) (wm.otherwise (wait-any (x a) (task a) k is_else wm f.1))

    delay-taken : (a d : ℕ) (k : Task) → MeetsIn k (task a) → can_move p w (Happen (D a d)) ≡ true → ComesTo (took_delay d k) (took_delay d (task a))
    delay-taken a d k m h =
        let f = freely (waits_with (is_delay d)) a (happened (D a d) h) in
        let i : IsIn g a (task a) = within a f.0 in
        let wm = wait-met (x a) (task a) k (is_delay d) (meets-at a (task a) k i.number m) f.1 in
        caught a (took_delay d (task a)) (took_delay d k) ((goes_delay (Conforms g a) d (task a) (stays a i)).number ∙ i.number) (wm.delayed d (wait-any (x a) (task a) k (is_delay d) wm f.1))

    call-else : (c e : ℕ) (z : ℤ) (k : Task) → MeetsIn k (task c) → can_move p w (Happen (C c e z)) ≡ true → ComesTo (took_else k) (took_else (task c))
    call-else c e z k m h =
        let f = freely (calls_in is_conditional e z) c (and_parts (offers task_ops (calls_in is_conditional e z) (w.tasks c)) (not (is_closed (w.tasks (owner_of r.numbers e)).standing)) (happened (C c e z) h)).0 in
        let i : IsIn g c (task c) = within c f.0 in
        let cm = call-met (x c) (task c) k is_conditional e z (meets-at c (task c) k i.number m) f.1 in
        catches c (took_else (task c)) (took_else k) ((goes_else (Conforms g c) (task c) (stays c i)).number ∙ i.number) (cm.otherwise (conditional-form (x c) (task c) k e z cm f.1))

    expired : (c e : ℕ) (z : ℤ) (k : Task) → MeetsIn k (task c) → can_move p w (Happen (T c e z)) ≡ true → ComesTo (took_delay 1 k) (took_delay 1 (task c))
    expired c e z k m h =
        let f = freely (calls_in is_timed e z) c (and_parts (offers task_ops (calls_in is_timed e z) (w.tasks c)) (not (is_closed (w.tasks (owner_of r.numbers e)).standing)) (happened (T c e z) h)).0 in
        let i : IsIn g c (task c) = within c f.0 in
        let cm = call-met (x c) (task c) k is_timed e z (meets-at c (task c) k i.number m) f.1 in
        catches c (took_delay 1 (task c)) (took_delay 1 k) ((goes_delay (Conforms g c) 1 (task c) (stays c i)).number ∙ i.number) (cm.delayed (timed-form (x c) (task c) k e z cm f.1))

    failed : (c e : ℕ) (z : ℤ) (k : Task) → MeetsIn k (task c) → can_move p w (Happen (F c e z)) ≡ true → ComesTo (call_failed k) (call_failed (task c))
    failed c e z k m h =
        let f = freely (calls_in is_any_form e z) c (and_parts (offers task_ops (calls_in is_any_form e z) (w.tasks c)) (is_closed (w.tasks (owner_of r.numbers e)).standing) (happened (F c e z) h)).0 in
        raised-both raised.Tasking c k (within c f.0) m

    passed-name : (t v : ℕ) (k : Task) → MeetsIn k (task t) → can_move p w (Happen (B t v)) ≡ true → ComesTo (past_name k) (past_name (task t))
    passed-name t v k m h =
        let f = freely (aborts v) t (happened (B t v) h) in
        let i : IsIn g t (task t) = within t f.0 in
        let am = abort-met (x t) (task t) k v (meets-at t (task t) k i.number m) f.1 in
        caught t (past_name (task t)) (past_name k) ((goes_passed (Conforms g t) (task t) (stays t i)).number ∙ i.number) am.passes

    -- ---- values come back

    same-number : (a : ℕ) → (a == a) ≡ true
    same-number a = go (a == a) refl
      where
        go : (t : Bool) → (a == a) ≡ t → t ≡ true
        go true e = refl
        go false e = absurd (eqb-false a a e refl)

    resumed-with : (c : ℕ) (j : Task) → IsIn g c (task c) → MeetsIn j (task c) → (cm : CallMet (x c) (task c) j) → (o : Option Raised) (vs : List Value) → AreBack b (entry_parameters g cm.result.entry) vs →
        (resumed_with o vs (task c)).number ≡ c → ComesTo (resumed_with o vs j) (resumed_with o vs (task c))
    resumed-with c j i m cm (Some e) vs back number = raised-both e c j i m
    resumed-with c j i m cm None vs back number = catches c (returned vs (task c)) (returned vs j) number (cm.returns vs back)

    resumes : (a c : ℕ) (outer : List ℕ) (j k : Task) → callers_in (task a).control ≡ c ∷ outer → (w.tasks c).standing ≡ Served a false → MeetsIn j (task c) → MeetsIn k (task a) → can_move p w (Happen (E a)) ≡ true →
        ComesTo (resumed k j) (resumed (task a) (task c))
    resumes a c outer j k callers served mj mk h =
        let q = ending a k mk h in
        let ic : IsIn g c (task c) = served-within c a false served in
        let f = opened-frame (unit_at r a) (form.added a) (task a) k q.1.within q.1.opened in
        let same : f.caller ≡ c = first_same (sym (ap (λ y. caller_at y ++ callers_among (outer_of (task a))) f.place) ∙ callers) in
        let linked : AreLinked g w a (openings_in (task a).control) = come.known.links a (below a (not-over (w.tasks a).standing (freely is_finish a (happened (E a) h)).0)) in
        let first : AreLinked g w a (record { caller = f.caller; formals = f.formals } ∷ openings_among (outer_of (task a))) =
        subst (λ y. AreLinked g w a (opening_at y ++ openings_among (outer_of (task a)))) f.place linked in
        let link : IsLinked g f.formals (task c) = subst (λ y. IsLinked g f.formals (task y)) same (first.0 (ap (λ y. is_served_by a (w.tasks y).standing) same ∙ ap (is_served_by a) served ∙ same-number a)) in
        let cm = met-at-call (x c) link.result (at-call (task c) link.result link.calls) (meets-at c (task c) j ic.number mj) in
        let held : AreHeld f.formals (f.objects ++ f.vars) = subst (λ y. AreHeld f.formals y) f.named (subst (λ y. Own y (vars_of (task a))) f.place q.0.held.0) in
        let finals : finals_of (task a) ≡ finals_in f.formals (f.objects ++ f.vars) = ap (λ y. finals_at y (vars_of (task a))) f.place ∙ ap (finals_in f.formals) f.named in
        let back : AreBack b (entry_parameters g cm.0.result.entry) (finals_of (task a)) =
        subst (λ y. AreBack b (entry_parameters g y) (finals_of (task a))) (sym cm.1)
        (subst (λ y. AreBack b (entry_parameters g link.result.entry) y) (sym finals) (finals-back b f.own f.vars held (entry_parameters g link.result.entry) link.alike)) in
        let ended = ended-alike a k q.1 in
        subst (λ o. ComesTo (resumed_with o (finals_of k) j) (resumed (task a) (task c))) ended.pending
        (subst (λ vs. ComesTo (resumed_with (pending_of (task a)) vs j) (resumed (task a) (task c))) ended.finals
        (resumed-with c j ic mj cm.0 (pending_of (task a)) (finals_of (task a)) back ((goes_resumed (Conforms g c) (task a) (task c) (stays c ic)).number ∙ ic.number)))

  imitates : imit.Imitates original task_ops out MeetsIn IsCalm
  imitates = record {
    rests = lawful.rests;
    output = λ k l m. output-same (normal_lists (unit_at r l.number)) (form.added l.number) l k (meets-around (x l.number) l k m);
    fine = λ w come t k m free. calm-met (x (imit.local_at w t).number) (imit.local_at w t) k m;
    steps = λ w come t k m h. steps w come t k m h;
    offers = λ w come t k m free rests. offered-same w come t k m rests;
    callers = λ w come a k m h. callers-same (normal_lists (unit_at r a)) (form.added a) (imit.local_at w a) k (around w come a k (ending w come a k m h).0 m);
    accepted = λ w come c e z j k mj mk h. met w come c e z j k mj mk h;
    finished = λ w come a k m h. ended w come a k m h;
    resumed = λ w come a c outer j k callers served mj mk h. resumes w come a c outer j k callers served mj mk h;
    took_else = λ w come a k m h. else-taken w come a k m h;
    took_delay = λ w come a d k m h. delay-taken w come a d k m h;
    call_else = λ w come c e z k m h. call-else w come c e z k m h;
    expired = λ w come c e z k m h. expired w come c e z k m h;
    failed = λ w come c e z k m h. failed w come c e z k m h;
    passed = λ w come t v k m h other. passed-name w come t v k m h;
    let_go = λ w come t v u k m served h. raised-both w come raised.Tasking u k (served-within w come u v false served) m;
  }

  -- ---- the start

  abbrev made-opening : State (ℕ → Seat Task)
  made-opening = by_number (program_in r.made r.made_numbers) (opening_of r.made r.made_numbers).state

  size-before : p.size ≡ length r.numbers.tasks
  size-before = beginning.length_first r.setup r.numbers (length r.numbers.tasks)

  size-after : (program_in r.made r.made_numbers).size ≡ length r.made_numbers.tasks
  size-after = beginning.length_first r.made r.made_numbers (length r.made_numbers.tasks)

  size-same : p.size ≡ (program_in r.made r.made_numbers).size
  size-same = size-before ∙ sym form.size ∙ sym size-after

  starts : (t : ℕ) → t < length r.numbers.tasks → ComesTo (started (setting_of r.made r.made_numbers) r.made.inputs t) (started g r.setup.inputs t)
  starts t l =
      caught t (started g r.setup.inputs t) (started (setting_of r.made r.made_numbers) r.made.inputs t) refl
      (subst (λ inputs. Alike (x t) (started g r.setup.inputs t) (started (setting_of r.made r.made_numbers) inputs t)) (sym form.inputs)
      (subst (λ its. Alike (x t) (started g r.setup.inputs t) (task_in (setting_of r.made r.made_numbers) t (slice_index_or r.setup.inputs t []) [] (control (block_stmts its) (OwnBody (block_handlers its) None) [] (objects_after r t))))
      (sym (form.bodies t l))
      (inside-alike (x t) _ _ (normal_starts (unit_at r t) (form.added t) (unit_before r t).body (objects_before r t) (objects_after r t) t (slice_index_or r.setup.inputs t []) (form.text t l) (form.begins t l) (form.objects t l) (form.there t l)))))

  opens-imitation : imit.OpensSo original task_ops out MeetsIn IsCalm made-opening
  opens-imitation =
      let o = following.opens r.made r.made_numbers in
      record {
        line = refl;
        ended = refl;
        standing = λ t l. o.live t (subst (λ n. t < n) size-same l);
        beyond = λ t l. o.beyond t (subst (λ n. n ≤ t) size-same l);
        tasks = λ t l.
            let m : t < length r.numbers.tasks = subst (λ n. t < n) size-before l in
            let m' : t < length r.made_numbers.tasks = subst (λ n. t < n) (sym form.size) m in
            subst (λ k. ComesTo k (opening.seats t).local) (sym (ap (λ (y : Seat Task). y.local) (beginning.first_is r.made r.made_numbers (length r.made_numbers.tasks) t m')))
            (subst (λ y. ComesTo (started (setting_of r.made r.made_numbers) r.made.inputs t) y) (sym (ap (λ (y : Seat Task). y.local) (beginning.first_is r.setup r.numbers (length r.numbers.tasks) t m))) (starts t m));
      }

  -- ---- the law

  program-same : imit.imitation original task_ops out MeetsIn IsCalm ≡ program_in r.made r.made_numbers
  program-same =
      ap₂ (λ owner n. record { ops = task_ops; owner = owner; size = n }) (ap (λ es. λ e. option_map_or (λ info. info.owner) (if e == 0 then None else slice_get es (e - 1)) 0) (sym form.programs.entries)) size-same

  pub shows-same : ShowSame (opened r.setup r.numbers) (opened r.made r.made_numbers)
  shows-same = subst (λ (y : Program Task). ShowSame (opened r.setup r.numbers) (record { program = y; out = out; at = made-opening })) program-same
      (all_back original task_ops out MeetsIn IsCalm imitates made-opening opens-imitation, all_forth original task_ops out MeetsIn IsCalm imitates made-opening opens-imitation)

  pub stays-calm : AllFreeAre IsCalm (opened r.made r.made_numbers)
  stays-calm = subst (λ (y : Program Task). AllFreeAre IsCalm (record { program = y; out = out; at = made-opening })) program-same (all_fine original task_ops out MeetsIn IsCalm imitates made-opening opens-imitation)

pub normal_forms_show_same : NormalFormsShowSame
normal_forms_show_same r form = shows-same r form

pub normal_forms_are_calm : NormalFormsAreCalm
normal_forms_are_calm r form = stays-calm r form
