-- Running tasks on: one walk behind another, and what settled tasks do.
use Rattle.std.proofs.Common.{◌≡◌, ℕ, zero, suc, pred, ◌+◌, ◌<◌, ◌≤◌, Bool, true, false, ◌==◌, List, [], ◌∷◌, ◌++◌, length, refl, sym, ap, ◌∙◌, subst, inl, inr, ◌⊎◌, ⊎_elim, true≢false, slice_set, arith, append_assoc}
use Rattle.std.specs.Prelude.{All, slice_index}
use Rattle.std.proofs.lemmas.Bool.{eqb-true, eqb-false, cases_lt}
use Rattle.std.proofs.lemmas.List.{get_or-set_same, get_or-set_other, get_or_past, length-set}
use Rattle.std.proofs.lemmas.List.Elements.{All-nil, All-cons, All-push, All-weaker}
use Rattle.event_machine.specs.States.{Seat, is_live, completed}
use Rattle.event_machine.specs.Settling.{ran, HasSteps}
use Rattle.event_machine.proofs.Basics.{seat_path}
use Rattle.event_machine.proofs.Stepping.{settles_most}
use Rattle.task_model.specs.Machine.{Tasks}
use Rattle.task_model.specs.Stands.{Stand, Steps, Raises, At, stand_of, steps_at, stepped_by, can_step, stepped}
use Rattle.task_model.specs.Starting.{nobody}
use Rattle.task_model.specs.TaskOps.{task_ops}
use Rattle.task_model.specs.Tasks.{Task}
use Rattle.task_machine.specs.Table.{seat_of}
use Rattle.task_machine.specs.Conditions.{tasks_to}
use Rattle.feasible.specs.Keeping.{IsSettled}
use Rattle.feasible.specs.inner.Needs.{HasRun, HaveRun, IsStuck, IsFirstStuck, tasks_below}

-- ---- the steps of one task

pub ran_on : (m n k : ℕ) (l : Task) → k ≡ m + n → ran task_ops m (ran task_ops n l) ≡ ran task_ops k l
ran_on zero n k l e = let q : n ≡ k = omega arith in ap (λ i. ran task_ops i l) q
ran_on (suc m) n zero l e = absurd (omega arith)
ran_on (suc m) n (suc k) l e = ap task_ops.stepped (ran_on m n k l (omega arith))

pub steps_on : (m n k : ℕ) (l : Task) → k ≡ m + n → HasSteps task_ops n l → HasSteps task_ops m (ran task_ops n l) → HasSteps task_ops k l
steps_on zero n k l e h g = let q : n ≡ k = omega arith in subst (λ i. HasSteps task_ops i l) q h
steps_on (suc m) n zero l e h g = absurd (omega arith)
steps_on (suc m) n (suc k) l e h g =
    let less : k ≡ m + n = omega arith in (steps_on m n k l less h g.0, ap can_step (sym (ran_on m n k l less)) ∙ g.1)

pub has_run_none : (l : Task) (c : ℕ) → HasRun l c l c
has_run_none l c = record { more = 0; made = tt; state = refl; count = omega arith }

pub has_run_on : {a b d : Task} {m n k : ℕ} → HasRun a m b n → HasRun b n d k → HasRun a m d k
has_run_on {a} {b} {d} {m} {n} {k} r s = record {
  more = s.more + r.more;
  made = steps_on s.more r.more (s.more + r.more) a refl r.made (subst (HasSteps task_ops s.more) r.state s.made);
  state = s.state ∙ ap (ran task_ops s.more) r.state ∙ ran_on s.more r.more (s.more + r.more) a refl;
  count = let p : n ≡ r.more + m = r.count in let q : k ≡ s.more + n = s.count in omega arith;
}

-- one more step, at a loop's turn
pub has_run_more : (a b d : Task) (m n k : ℕ) → HasRun a m b n → can_step b ≡ true → d ≡ stepped b → k ≡ n + 1 → HasRun a m d k
has_run_more a b d m n k r can e f = record {
  more = suc r.more;
  made = (r.made, ap can_step (sym r.state) ∙ can);
  state = e ∙ ap stepped r.state;
  count = let p : n ≡ r.more + m = r.count in omega arith;
}

-- the step of a task that has none leaves it as it is
stepped_none : (s : Stand) (t : Task) → steps_at s ≡ false → stepped_by s t ≡ t
stepped_none Steps t h = absurd (true≢false h)
stepped_none (Raises x) t h = absurd (true≢false h)
stepped_none (At offer) t h = refl

stepped_rest : (t : Task) → can_step t ≡ false → stepped t ≡ t
stepped_rest t h = stepped_none (stand_of t) t h

-- a turn that finds no step
pub has_run_rest : (a b d : Task) (m n : ℕ) → HasRun a m b n → can_step b ≡ false → d ≡ stepped b → HasRun a m d n
has_run_rest a b d m n r rest e = subst (λ l. HasRun a m l n) (sym (e ∙ stepped_rest b rest)) r

pub still_rests : (b d : Task) → can_step b ≡ false → d ≡ stepped b → can_step d ≡ false
still_rests b d rest e = ap can_step (e ∙ stepped_rest b rest) ∙ rest

-- a task without a step stays
pub run_at_rest : {a b : Task} {m n : ℕ} → HasRun a m b n → can_step a ≡ false → b ≡ a
run_at_rest {a} {b} {m} {n} r rest =
    let none : r.more ≤ 0 = settles_most task_ops r.more 0 a r.made (tt, rest) in
    let zero' : r.more ≡ 0 = omega arith in
    r.state ∙ ap (λ i. ran task_ops i a) zero'

-- ---- all tasks

module _ (bound : ℕ) where
  pub have_run_none : (tasks : Tasks) (steps : List ℕ) → HaveRun bound tasks steps tasks steps
  have_run_none tasks steps = record {
    standing = λ t. refl;
    each = λ t. has_run_none (seat_of tasks t).local (slice_index steps t);
    others = λ t h. (refl, refl);
    size = refl;
    counts = refl;
    within = λ h t. h t;
  }

  pub have_run_on : {a b d : Tasks} {m n k : List ℕ} → HaveRun bound a m b n → HaveRun bound b n d k → HaveRun bound a m d k
  have_run_on r s = record {
    standing = λ t. s.standing t ∙ r.standing t;
    each = λ t. has_run_on (r.each t) (s.each t);
    others = λ t h. let k = s.others t (ap is_live (r.standing t) ∙ h) in let g = r.others t h in (k.0 ∙ g.0, k.1 ∙ g.1);
    size = s.size ∙ r.size;
    counts = s.counts ∙ r.counts;
    within = λ h. s.within (r.within h);
  }

  -- one task has run on
  pub have_run_one : (tasks : Tasks) (steps : List ℕ) (t : ℕ) (l : Task) (c : ℕ) → t < length tasks → t < length steps → is_live (seat_of tasks t).standing ≡ true →
      HasRun (seat_of tasks t).local (slice_index steps t) l c → (slice_index steps t ≤ bound → c ≤ bound) →
      HaveRun bound tasks steps (slice_set tasks t (record { local = l; standing = (seat_of tasks t).standing })) (slice_set steps t c)
  have_run_one tasks steps t l c lt ls free r within = record {
    standing = λ u. at_seat u (λ x. x.standing ≡ (seat_of tasks u).standing) (λ e. ap (λ v. (seat_of tasks v).standing) e) refl;
    each = λ u. ⊎_elim
        (λ e. subst (λ v. HasRun (seat_of tasks v).local (slice_index steps v) (seat_of new v).local (slice_index counted v)) e
        (subst (λ (x : Seat Task). HasRun (seat_of tasks t).local (slice_index steps t) x.local (slice_index counted t)) (sym (get_or-set_same tasks t seat (completed nobody) lt))
        (subst (HasRun (seat_of tasks t).local (slice_index steps t) l) (sym (get_or-set_same steps t c 0 ls)) r)))
        (λ n. subst (λ (x : Seat Task). HasRun (seat_of tasks u).local (slice_index steps u) x.local (slice_index counted u)) (sym (get_or-set_other tasks t u seat (completed nobody) n))
        (subst (HasRun (seat_of tasks u).local (slice_index steps u) (seat_of tasks u).local) (sym (get_or-set_other steps t u c 0 n)) (has_run_none (seat_of tasks u).local (slice_index steps u))))
        (same_or_other u);
    others = λ u idle. ⊎_elim
        (λ e. absurd (true≢false (sym free ∙ ap (λ v. is_live (seat_of tasks v).standing) e ∙ idle)))
        (λ n. (get_or-set_other tasks t u seat (completed nobody) n, get_or-set_other steps t u c 0 n))
        (same_or_other u);
    size = length-set tasks t seat;
    counts = length-set steps t c;
    within = λ h u. ⊎_elim
        (λ e. subst (λ v. slice_index counted v ≤ bound) e (subst (λ n. n ≤ bound) (sym (get_or-set_same steps t c 0 ls)) (within (h t))))
        (λ n. subst (λ m. m ≤ bound) (sym (get_or-set_other steps t u c 0 n)) (h u))
        (same_or_other u);
  }
    where
      seat : Seat Task
      seat = record { local = l; standing = (seat_of tasks t).standing }

      new : Tasks
      new = slice_set tasks t seat

      counted : List ℕ
      counted = slice_set steps t c

      same_or_other : (u : ℕ) → (t ≡ u) ⊎ (u ≡ t → ⊥)
      same_or_other u = go (u == t) refl
        where
          go : (b : Bool) → (u == t) ≡ b → (t ≡ u) ⊎ (u ≡ t → ⊥)
          go true q = inl (sym (eqb-true u t q))
          go false q = inr (eqb-false u t q)

      at_seat : (u : ℕ) (P : Seat Task → Type 0) → (t ≡ u → P seat) → P (seat_of tasks u) → P (seat_of new u)
      at_seat u P here there = ⊎_elim
          (λ e. subst P (subst (λ v. seat ≡ seat_of new v) e (sym (get_or-set_same tasks t seat (completed nobody) lt))) (here e))
          (λ n. subst P (sym (get_or-set_other tasks t u seat (completed nobody) n)) there)
          (same_or_other u)

  -- ---- settled tasks

  module _ {a b : Tasks} {m n : List ℕ} (r : HaveRun bound a m b n) where
    -- a settled task is still where it was
    pub settled_same : (t : ℕ) → IsSettled a t → seat_of b t ≡ seat_of a t
    settled_same t h = go (is_live (seat_of a t).standing) refl
      where
        go : (z : Bool) → is_live (seat_of a t).standing ≡ z → seat_of b t ≡ seat_of a t
        go true q = seat_path (run_at_rest (r.each t) (h q)) (r.standing t)
        go false q = (r.others t q).0

    pub settled_stays : (t : ℕ) → IsSettled a t → IsSettled b t
    settled_stays t h = subst (λ (x : Seat Task). is_live x.standing ≡ true → can_step x.local ≡ false) (sym (settled_same t h)) h

    pub all_stay : (needed : List ℕ) → All (IsSettled a) needed → All (IsSettled b) needed
    all_stay needed h = All-weaker (IsSettled a) (IsSettled b) settled_stays needed h

  -- ---- the needed tasks

  -- the next task is stuck, and those before it are settled
  pub stuck_next : (tasks : Tasks) (steps : List ℕ) (earlier later needed : List ℕ) (t : ℕ) → needed ≡ earlier ++ t ∷ later → All (IsSettled tasks) earlier → IsStuck bound tasks steps t →
      IsFirstStuck bound tasks steps needed t
  stuck_next tasks steps earlier later needed t e h s = record { earlier = earlier; later = later; order = e; settled = h; stuck = s }

-- ---- all tasks, in order

pub tasks_to-below : (n : ℕ) → tasks_to n ≡ tasks_below (suc n)
tasks_to-below zero = refl
tasks_to-below (suc n) = ap (λ xs. xs ++ suc n ∷ []) (tasks_to-below n)

-- the tasks below one of them, it, and those behind it
pub tasks_from : (n t : ℕ) → t ≤ n → (later : List ℕ) × (tasks_to n ≡ tasks_below t ++ t ∷ later)
tasks_from zero t l = let e : 0 ≡ t = omega arith in subst (λ u. (later : List ℕ) × (tasks_to 0 ≡ tasks_below u ++ u ∷ later)) e ([], refl)
tasks_from (suc n) t l = ⊎_elim
    (λ (k : t < suc n). let (later, e) = tasks_from n t (omega arith) in
    (later ++ suc n ∷ [], ap (λ xs. xs ++ suc n ∷ []) e ∙ append_assoc (tasks_below t) (t ∷ later) (suc n ∷ [])))
    (λ (k : suc n ≤ t). let e : suc n ≡ t = omega arith in
    subst (λ u. (later : List ℕ) × (tasks_to (suc n) ≡ tasks_below u ++ u ∷ later)) e ([], ap (λ xs. xs ++ suc n ∷ []) (tasks_to-below n)))
    (cases_lt t (suc n))

-- all tasks are settled where those below their number are
pub settled_all : (n : ℕ) (tasks : Tasks) → length tasks ≡ n → All (IsSettled tasks) (tasks_below n) → All (IsSettled tasks) (tasks_to (pred n))
settled_all zero tasks size h = All-cons (IsSettled tasks) 0 [] (λ free. absurd (true≢false (sym free ∙ ap (λ (x : Seat Task). is_live x.standing) (get_or_past tasks 0 (completed nobody) (omega arith))))) (All-nil (IsSettled tasks))
settled_all (suc n) tasks size h = subst (All (IsSettled tasks)) (sym (tasks_to-below n)) h

-- one more is settled
pub settled_more : (tasks : Tasks) (t : ℕ) → All (IsSettled tasks) (tasks_below t) → IsSettled tasks t → All (IsSettled tasks) (tasks_below (t + 1))
settled_more tasks t h s = subst (λ n. All (IsSettled tasks) (tasks_below n)) (let e : suc t ≡ t + 1 = omega arith in e) (All-push (IsSettled tasks) (tasks_below t) t h s)
