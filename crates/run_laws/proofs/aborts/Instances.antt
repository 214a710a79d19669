-- The premises are met, for every program: its copy does what it is to do.
use Rattle.std.proofs.Common.{◌≡◌, ℕ, suc, ◌<◌, ◌≤◌, not, ◌&&◌, ◌==◌, if◌then◌else◌, refl, ap, ap₂, ◌∙◌, subst, ⊎_elim, arith}
use Rattle.std.proofs.lemmas.Bool.{and_parts, cases_lt}
use Rattle.event_machine.specs.declared.Standing.TheVariants.{Live}
use Rattle.event_machine.specs.States.{Seat, live, completed, is_live}
use Rattle.run_laws.specs.imitation.Imitations.{Original}
use Rattle.run_laws.specs.imitation.Imitating.{local_at}
use Rattle.run_laws.specs.aborts.Copies.{Copy, Based, Opening, copy_steps, copy_stepped, copy_callers, copy_finished, copy_passed, copy_offer, copy_accepted, copy_resumed}
use Rattle.run_laws.specs.aborts.Settings.{Setting, recorder, twin, out_of, start_copy, opening_copy}
use Rattle.run_laws.specs.aborts.Rewritings.{Imitates, OpensSo}
use Rattle.run_laws.specs.aborts.Told.{MetByAll}
use Rattle.run_laws.proofs.aborts.Lawful.{copy_rests}
use Rattle.common_lemmas.proofs.Numbers.{equal_self, lt_false, lt_true, unequal_above}

module _ {o : Original} (x : Setting o) where
  -- A state meets itself.
  abbrev pub IsSame : Copy o.L → Copy o.L → Type 0
  IsSame k m = k ≡ m

  pub copy_imitates : Imitates x (twin x).ops (out_of x) IsSame
  copy_imitates = record {
    rests = copy_rests x;
    output = λ k m h. ap (out_of x) h;
    fine = λ w found t k h free. tt;
    steps = λ w found t k h can. (
      ap (copy_steps o.p) h ∙ (and_parts (is_live (w.tasks t).standing) (copy_steps o.p (local_at w t)) (and_parts (not w.ended) (is_live
          (w.tasks t).standing && copy_steps o.p (local_at w t)) can).1).1,
      (0, ap (copy_stepped o.p) h),
    );
    offers = λ w found t k h free rests. (ap (copy_steps o.p) h ∙ rests, ap (copy_offer o.p x.note) h);
    callers = λ w found a k h can. ap (copy_callers o.p) h;
    accepted = λ w found c e i j k g h can. (0, ap₂ (copy_accepted o.p x.pends x.lines e i c) g h);
    finished = λ w found a k h can. (0, ap (copy_finished o.p) h);
    resumed = λ w found a c outer j k has served g h can. (0, ap₂ (copy_resumed o.p) h g);
    took_else = λ w found a k h can. (0, ap (twin x).ops.took_else h);
    took_delay = λ w found a d k h can. (0, ap ((twin x).ops.took_delay d) h);
    call_else = λ w found c e i k h can. (0, ap (twin x).ops.took_else h);
    expired = λ w found c e i k h can. (0, ap ((twin x).ops.took_delay 1) h);
    failed = λ w found c e i k h can. (0, ap (twin x).ops.raised h);
    passed = λ w found t v k h can other. (0, ap (copy_passed) h);
    let_go = λ w found t v u k h served can. (0, ap (twin x).ops.raised h);
  }

  -- ---- the start

  pub start_own : (t : ℕ) → t < o.p.size → start_copy x t ≡ live (Based t (o.opening.seats t).local)
  start_own t m = ap (λ b. if b then live (Based t (o.opening.seats t).local) else (if t == recorder x then live Opening else completed Opening)) (lt_true t o.p.size m)

  start_other : (t : ℕ) → o.p.size ≤ t → start_copy x t ≡ (if t == recorder x then live Opening else completed Opening)
  start_other t m = ap (λ b. if b then live (Based t (o.opening.seats t).local) else (if t == recorder x then live Opening else completed Opening)) (lt_false t o.p.size m)

  pub start_recorder : start_copy x (recorder x) ≡ live Opening
  start_recorder = start_other (recorder x) (omega arith) ∙ ap (λ b. if b then live Opening else completed Opening) (equal_self (recorder x))

  pub start_past : (t : ℕ) → suc o.p.size ≤ t → start_copy x t ≡ completed Opening
  start_past t m = start_other t (omega (arith, m)) ∙ ap (λ b. if b then live Opening else completed Opening) (unequal_above t (recorder x) (omega (arith, m)))

  pub start_live : (t : ℕ) → t < suc o.p.size → (start_copy x t).standing ≡ Live
  start_live t m = ⊎_elim
      (λ (k : t < o.p.size). ap (λ (y : Seat (Copy o.L)). y.standing) (start_own t k))
      (λ (k : o.p.size ≤ t). let e : recorder x ≡ t = omega (arith, k, m) in subst (λ u. (start_copy x u).standing ≡ Live) e (ap (λ (y : Seat (Copy o.L)). y.standing) start_recorder))
      (cases_lt t o.p.size)

  pub copy_opens : OpensSo x (twin x).ops (out_of x) IsSame (opening_copy x)
  copy_opens = record {
    line = refl;
    ended = refl;
    standing = start_live;
    beyond = λ t m. ap (λ (y : Seat (Copy o.L)). y.standing) (start_past t m);
    tasks = λ t m. (0, refl);
  }

module _ {L V : Type 0} where
  pub met_by_all : MetByAll L V
  met_by_all o x = record { imitates = copy_imitates x; opens = copy_opens x }
