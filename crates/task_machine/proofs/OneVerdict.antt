-- A list of events has one verdict: its first event that goes wrong is one, and the first condition that fails there goes by the views alone.
use Rattle.std.proofs.Common.{◌≡◌, ℕ, zero, suc, pred, ◌+◌, ◌≤◌, Bool, true, not, List, [], ◌∷◌, ◌++◌, length, if◌then◌else◌, refl, sym, ap, ◌∙◌, subst, arith, Option, Some, ◌⊎◌, inl, inr, ⊎_elim}
use Rattle.std.specs.Prelude.{All, find, option_map}
use Rattle.std.proofs.lemmas.List.Elements.{All-contains, Contains-append_right}
use Rattle.event_machine.specs.declared.Event.{Event}
use Rattle.event_machine.specs.declared.Event.TheVariants.{R, E, S, D, C, T, F, X, B, Z}
use Rattle.event_machine.specs.Offers.{Offer, calls_in, is_any_form, is_conditional, is_timed, waits_with, opens, is_else, is_delay, is_finish, is_end}
use Rattle.event_machine.specs.States.{is_closed}
use Rattle.event_machine.specs.Worlds.{aborts}
use Rattle.syn_event.specs.Numbering.{Numbering, owner_of}
use Rattle.task_model.specs.Machine.{ProgramWithInputs}
use Rattle.task_machine.specs.declared.verdict.Why.{Why}
use Rattle.task_machine.specs.declared.verdict.Verdict.TheVariants.{Feasible, Infeasible, Unsettled}
use Rattle.task_machine.specs.Views.{IsFeasible, IsOpenAt, View}
use Rattle.task_machine.specs.Conditions.{is_closed_view, Condition, closed, not_closed, not_served, at_offer, acts, others_may_end, may_end, is_end_of, conditions_of, needed_of, holds, why_of, failing_in, first_failing}
use Rattle.task_machine.specs.Judging.{AreViews, NoneOpen, AllFeasible, IsReached, IsInfeasibleAt, IsHeldUp}
use Rattle.task_machine.specs.TaskLaws.{VerdictsAgree}
use Rattle.task_machine.proofs.Tabled.{to_all}
use Rattle.task_machine.proofs.Judged.{view_unique, stands_unique}
use Rattle.task_machine.proofs.Verdicts.{cons_head, cons_tail}

-- ---- lists

-- Two places of a list: one, or one before the other.
pub two_splits : {A : Type 0} (xs ys rest others : List A) (x y : A) → (xs ++ x ∷ rest) ≡ (ys ++ y ∷ others) →
    ((xs ≡ ys) × (x ≡ y)) ⊎ (((mid : List A) × (ys ≡ (xs ++ x ∷ mid))) ⊎ ((mid : List A) × (xs ≡ (ys ++ y ∷ mid))))
two_splits [] [] rest others x y h = inl (refl, cons_head h)
two_splits [] (b ∷ ys) rest others x y h = inr (inl (ys, ap (λ z. z ∷ ys) (sym (cons_head h))))
two_splits (a ∷ xs) [] rest others x y h = inr (inr (xs, ap (λ z. z ∷ xs) (cons_head h)))
two_splits (a ∷ xs) (b ∷ ys) rest others x y h = ⊎_elim
    (λ (k : (xs ≡ ys) × (x ≡ y)). inl ((λ i. cons_head h i ∷ k.0 i), k.1))
    (⊎_elim
    (λ (k : (mid : List _) × (ys ≡ (xs ++ x ∷ mid))). inr (inl (k.0, (λ i. sym (cons_head h) i ∷ k.1 i))))
    (λ (k : (mid : List _) × (xs ≡ (ys ++ y ∷ mid))). inr (inr (k.0, (λ i. cons_head h i ∷ k.1 i)))))
    (two_splits xs ys rest others x y (cons_tail h))

-- what holds of each holds of the one at a place
at_split : (P : ℕ → Type 0) (xs rest : List ℕ) (x : ℕ) → All P (xs ++ x ∷ rest) → P x
at_split P xs rest x h = All-contains P (xs ++ x ∷ rest) x h (Contains-append_right xs (x ∷ rest) x (0, omega arith, refl))

-- ---- conditions of the same views

-- Each condition holds of both or of none.
AllSame : (ℕ → View) → (ℕ → View) → List Condition → Type 0
AllSame views others [] = Unit {0}
AllSame views others (x ∷ xs) = (holds views x ≡ holds others x) × AllSame views others xs

same_append : (views others : ℕ → View) (xs ys : List Condition) → AllSame views others xs → AllSame views others ys → AllSame views others (xs ++ ys)
unfolding AllSame
same_append views others [] ys h k = k
same_append views others (x ∷ xs) ys h k = (h.0, same_append views others xs ys h.1 k)

find_same : (b : Bool) (x : Condition) (rest others : Option Condition) → option_map why_of rest ≡ option_map why_of others →
    option_map why_of (if not b then Some x else rest) ≡ option_map why_of (if not b then Some x else others)
find_same true x rest others h = h
find_same _ x rest others h = refl

failing_same : (views others : ℕ → View) (conditions : List Condition) → AllSame views others conditions → failing_in views conditions ≡ failing_in others conditions
unfolding AllSame
failing_same views others [] h = refl
failing_same views others (x ∷ xs) h =
    ap (λ b. option_map why_of (if not b then Some x else find (λ condition. not (holds views condition)) xs)) h.0
    ∙ find_same (holds others x) x (find (λ condition. not (holds views condition)) xs) (find (λ condition. not (holds others condition)) xs) (failing_same views others xs h.1)

module _ (numbers : Numbering) (views others : ℕ → View) (closed_same : (t : ℕ) → is_closed_view (views t) ≡ is_closed_view (others t)) where
  same_acts : (t : ℕ) (test : Offer → Bool) → views t ≡ others t → AllSame views others (acts t test)
  unfolding AllSame
  same_acts t test h = (ap (not_closed t).test h, (ap (not_served t).test h, (ap (at_offer t test).test h, tt)))

  same_not_closed : (t : ℕ) → AllSame views others (not_closed t ∷ [])
  unfolding AllSame
  same_not_closed t = (ap not (closed_same t), tt)

  same_closed : (t : ℕ) → AllSame views others (closed t ∷ [])
  unfolding AllSame
  same_closed t = (closed_same t, tt)

  same_others : (n : ℕ) → ((t : ℕ) → t ≤ n → views t ≡ others t) → AllSame views others (others_may_end n)
  unfolding AllSame
  same_others zero h = tt
  same_others (suc n) h = same_append views others (others_may_end n) (not_served (suc n) ∷ may_end (suc n) ∷ []) (same_others n (λ t le. h t (omega arith)))
      (ap (not_served (suc n)).test (h (suc n) (omega arith)), (ap (may_end (suc n)).test (h (suc n) (omega arith)), tt))

  same_all : (e : Event) → All (λ t. views t ≡ others t) (needed_of numbers e) → AllSame views others (conditions_of numbers e)
  unfolding AllSame
  same_all (R c e i) h = same_append views others (acts c (calls_in is_any_form e i)) (acts (owner_of numbers e) (waits_with (opens e i)))
      (same_acts c (calls_in is_any_form e i) (h 0 0 (omega arith))) (same_acts (owner_of numbers e) (waits_with (opens e i)) (h 1 0 (omega arith)))
  same_all (E a) h = same_acts a is_finish (h 0 0 (omega arith))
  same_all (S a) h = same_acts a (waits_with is_else) (h 0 0 (omega arith))
  same_all (D a k) h = same_acts a (waits_with (is_delay k)) (h 0 0 (omega arith))
  same_all (C c e i) h = same_append views others (acts c (calls_in is_conditional e i)) (not_closed (owner_of numbers e) ∷ [])
      (same_acts c (calls_in is_conditional e i) (h 0 0 (omega arith))) (same_not_closed (owner_of numbers e))
  same_all (T c e i) h = same_append views others (acts c (calls_in is_timed e i)) (not_closed (owner_of numbers e) ∷ [])
      (same_acts c (calls_in is_timed e i) (h 0 0 (omega arith))) (same_not_closed (owner_of numbers e))
  same_all (F c e i) h = same_append views others (acts c (calls_in is_any_form e i)) (closed (owner_of numbers e) ∷ [])
      (same_acts c (calls_in is_any_form e i) (h 0 0 (omega arith))) (same_closed (owner_of numbers e))
  same_all (X a) h = same_acts a (is_end_of a) (h 0 0 (omega arith))
  same_all (B t x) h = same_acts t (aborts x) (h 0 0 (omega arith))
  same_all Z h =
      let at : (t : ℕ) → t ≤ pred (length numbers.tasks) → views t ≡ others t = to_all (λ t. views t ≡ others t) (pred (length numbers.tasks)) h in
      (ap (not_served 0).test (at 0 (omega arith)), (ap (at_offer 0 is_end).test (at 0 (omega arith)), same_others (pred (length numbers.tasks)) at))

module _ (setup : ProgramWithInputs) (numbers : Numbering) where
  -- The first condition that fails is the same of all views after the events.
  pub failing_unique : (events : List Event) (e : Event) (views others : ℕ → View) → AreViews setup numbers events e views → AreViews setup numbers events e others →
      first_failing numbers views e ≡ first_failing numbers others e
  failing_unique events e views others seen seen' = failing_same views others (conditions_of numbers e) (same_all numbers views others closed_same e
      (λ k d less. view_unique setup numbers events _ _ _ (seen.needed k d less) (seen'.needed k d less)))
    where
      closed_same : (t : ℕ) → is_closed_view (views t) ≡ is_closed_view (others t)
      closed_same t =
          let (z, stands, h) = seen.closed t in
          let (y, stands', k) = seen'.closed t in
          sym h ∙ ap is_closed (stands_unique setup numbers events t z y stands stands') ∙ k

  module _ (bound : ℕ) (events : List Event) where
    -- The event does not go on behind the events before it: it finds a task open, or is not feasible.
    GoesWrong : List Event → Event → Type 0
    GoesWrong before e = NoneOpen setup numbers bound before (needed_of numbers e) → IsFeasible setup numbers (before ++ e ∷ []) → ⊥

    refused_wrong : (at : ℕ) (why : Why) (v : IsInfeasibleAt setup numbers bound events at why) → GoesWrong v.before v.event
    unfolding GoesWrong
    refused_wrong at why v none feasible = v.infeasible feasible

    open_wrong : (before : List Event) (e : Event) (earlier later : List ℕ) (task : ℕ) → needed_of numbers e ≡ (earlier ++ task ∷ later) → IsOpenAt setup numbers before task bound →
        NoneOpen setup numbers bound before (needed_of numbers e) → ⊥
    open_wrong before e earlier later task order stays none =
        at_split (λ t. IsOpenAt setup numbers before t bound → ⊥) earlier later task (subst (λ ts. NoneOpen setup numbers bound before ts) order none) stays

    held_wrong : (at task : ℕ) (v : IsHeldUp setup numbers bound events at task) → GoesWrong v.before v.event
    unfolding GoesWrong
    held_wrong at task v none feasible = open_wrong v.before v.event v.earlier v.later task v.order v.stays_open none

    -- no event goes wrong where all went well
    none_wrong : (well : List Event) (before rest : List Event) (e : Event) → AllFeasible setup numbers bound well → well ≡ (before ++ e ∷ rest) → GoesWrong before e → ⊥
    unfolding GoesWrong
    none_wrong well before rest e h is wrong = let k = h before rest e is in wrong k.0 k.1

    -- The first event that goes wrong is one.
    same_place : (at other_at : ℕ) (before other : List Event) (e f : Event) → IsReached setup numbers bound events at before e → GoesWrong before e →
        IsReached setup numbers bound events other_at other f → GoesWrong other f → (before ≡ other) × (e ≡ f)
    same_place at other_at before other e f r wrong r' wrong' = ⊎_elim
        (λ (k : (before ≡ other) × (e ≡ f)). k)
        (⊎_elim
        (λ (k : (mid : List Event) × (other ≡ (before ++ e ∷ mid))). absurd (none_wrong other before k.0 e r'.went_well k.1 wrong))
        (λ (k : (mid : List Event) × (before ≡ (other ++ f ∷ mid))). absurd (none_wrong before other k.0 f r.went_well k.1 wrong')))
        (two_splits before other r.rest r'.rest e f (sym r.splits ∙ r'.splits))

    places : (at other_at : ℕ) (before other : List Event) (e f : Event) → IsReached setup numbers bound events at before e → IsReached setup numbers bound events other_at other f →
        before ≡ other → at ≡ other_at
    places at other_at before other e f r r' h = r.place ∙ ap (λ (es : List Event). length es + 1) h ∙ sym r'.place

    some_same : (why other : Why) → ◌≡◌ {A = Option Why} (Some why) (Some other) → why ≡ other
    some_same why other h = cc

    refused_refused : (at other_at : ℕ) (why other : Why) → IsInfeasibleAt setup numbers bound events at why → IsInfeasibleAt setup numbers bound events other_at other → (at ≡ other_at) × (why ≡ other)
    refused_refused at other_at why other v u =
        let (b, e) = same_place at other_at v.before u.before v.event u.event v.reached (refused_wrong at why v) u.reached (refused_wrong other_at other u) in (
          places at other_at v.before u.before v.event u.event v.reached u.reached b,
          some_same why other (sym v.fails
              ∙ failing_unique v.before v.event v.views u.views v.seen
              (subst (λ (es : List Event). AreViews setup numbers es v.event u.views) (sym b) (subst (λ x. AreViews setup numbers u.before x u.views) (sym e) u.seen))
              ∙ ap (λ x. first_failing numbers u.views x) e ∙ u.fails),
        )

    held_held : (at other_at task other : ℕ) → IsHeldUp setup numbers bound events at task → IsHeldUp setup numbers bound events other_at other → (at ≡ other_at) × (task ≡ other)
    held_held at other_at task other v u =
        let (b, e) = same_place at other_at v.before u.before v.event u.event v.reached (held_wrong at task v) u.reached (held_wrong other_at other u) in (
          places at other_at v.before u.before v.event u.event v.reached u.reached b,
          ⊎_elim
              (λ (k : (v.earlier ≡ u.earlier) × (task ≡ other)). k.1)
              (⊎_elim
              (λ (k : (mid : List ℕ) × (u.earlier ≡ (v.earlier ++ task ∷ mid))). absurd (at_split (λ t. IsOpenAt setup numbers u.before t bound → ⊥) v.earlier k.0 task
              (subst (λ ts. NoneOpen setup numbers bound u.before ts) k.1 u.none_open) (subst (λ (es : List Event). IsOpenAt setup numbers es task bound) b v.stays_open)))
              (λ (k : (mid : List ℕ) × (v.earlier ≡ (u.earlier ++ other ∷ mid))). absurd (at_split (λ t. IsOpenAt setup numbers v.before t bound → ⊥) u.earlier k.0 other
              (subst (λ ts. NoneOpen setup numbers bound v.before ts) k.1 v.none_open) (subst (λ (es : List Event). IsOpenAt setup numbers es other bound) (sym b) u.stays_open))))
              (two_splits v.earlier u.earlier v.later u.later task other (sym v.order ∙ ap (needed_of numbers) e ∙ u.order)),
        )

    refused_held : (at other_at : ℕ) (why : Why) (task : ℕ) → IsInfeasibleAt setup numbers bound events at why → IsHeldUp setup numbers bound events other_at task → ⊥
    refused_held at other_at why task v u =
        let (b, e) = same_place at other_at v.before u.before v.event u.event v.reached (refused_wrong at why v) u.reached (held_wrong other_at task u) in
        open_wrong v.before v.event u.earlier u.later task (ap (needed_of numbers) e ∙ u.order) (subst (λ (es : List Event). IsOpenAt setup numbers es task bound) (sym b) u.stays_open) v.none_open

-- A list of events has one verdict.
pub verdict_unique : VerdictsAgree
verdict_unique setup numbers bound events Feasible Feasible v u = refl
verdict_unique setup numbers bound events Feasible (Infeasible at why) v u = absurd (none_wrong setup numbers bound events events u.before u.reached.rest u.event v u.reached.splits (refused_wrong setup numbers bound events at why u))
verdict_unique setup numbers bound events Feasible (Unsettled at task) v u = absurd (none_wrong setup numbers bound events events u.before u.reached.rest u.event v u.reached.splits (held_wrong setup numbers bound events at task u))
verdict_unique setup numbers bound events (Infeasible at why) Feasible v u = absurd (none_wrong setup numbers bound events events v.before v.reached.rest v.event u v.reached.splits (refused_wrong setup numbers bound events at why v))
verdict_unique setup numbers bound events (Infeasible at why) (Infeasible other_at other) v u =
    let k = refused_refused setup numbers bound events at other_at why other v u in λ i. Infeasible (k.0 i) (k.1 i)
verdict_unique setup numbers bound events (Infeasible at why) (Unsettled other_at task) v u = absurd (refused_held setup numbers bound events at other_at why task v u)
verdict_unique setup numbers bound events (Unsettled at task) Feasible v u = absurd (none_wrong setup numbers bound events events v.before v.reached.rest v.event u v.reached.splits (held_wrong setup numbers bound events at task v))
verdict_unique setup numbers bound events (Unsettled at task) (Infeasible other_at why) v u = absurd (refused_held setup numbers bound events other_at at why task u v)
verdict_unique setup numbers bound events (Unsettled at task) (Unsettled other_at other) v u =
    let k = held_held setup numbers bound events at other_at task other v u in λ i. Unsettled (k.0 i) (k.1 i)
