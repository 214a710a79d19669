-- What a test on an offer says of the offer.
use Rattle.std.proofs.Common.{◌≡◌, ℕ, Bool, true, false, not, List, [], ◌∷◌, refl, sym, ap, ◌∙◌, true≢false}
use Rattle.std.specs.Prelude.{ℤ}
use Rattle.std.specs.List.{list_any}
use Rattle.std.proofs.lemmas.Bool.{eqb-true, or_from}
use Rattle.event_machine.specs.declared.CallForm.{CallForm}
use Rattle.event_machine.specs.declared.CallForm.TheVariants.{Plain, Conditional, Timed}
use Rattle.event_machine.specs.declared.Choice.{Choice}
use Rattle.event_machine.specs.declared.Choice.TheVariants.{Accept, Else, Delay, Terminate}
use Rattle.event_machine.specs.Offers.{Offer, Nothing, Calls, Waits, Finishes, Ends, Aborts, calls_in, queues_up, is_conditional, is_timed, waits_with, is_finish, is_end}
use Rattle.event_machine.specs.States.{Ops, Seen}
use Rattle.event_machine.specs.Applying.{has_caller, has_no_caller}
use Rattle.event_machine.specs.Worlds.{aborts}
use Rattle.event_machine.proofs.Basics.{split, same_member-true}

-- a call of the member, in a form that passes
pub calls_is : (test : CallForm → Bool) (e : ℕ) (i : ℤ) (o : Offer) → calls_in test e i o ≡ true → (form : CallForm) × (o ≡ Calls form e i) × (test form ≡ true)
calls_is test e i Nothing h = absurd (true≢false (sym h))
calls_is test e i (Calls form f j) h =
    let m = same_member-true e f i j (split h).1 in
    (form, λ k. Calls form ((sym m.0) k) ((sym m.1) k), (split h).0)
calls_is test e i (Waits choices) h = absurd (true≢false (sym h))
calls_is test e i Finishes h = absurd (true≢false (sym h))
calls_is test e i Ends h = absurd (true≢false (sym h))
calls_is test e i (Aborts x) h = absurd (true≢false (sym h))

pub waits_is : (test : Choice → Bool) (o : Offer) → waits_with test o ≡ true → (choices : List Choice) × (o ≡ Waits choices)
waits_is test Nothing h = absurd (true≢false (sym h))
waits_is test (Calls form f j) h = absurd (true≢false (sym h))
waits_is test (Waits choices) h = (choices, refl)
waits_is test Finishes h = absurd (true≢false (sym h))
waits_is test Ends h = absurd (true≢false (sym h))
waits_is test (Aborts x) h = absurd (true≢false (sym h))

pub finish_is : (o : Offer) → is_finish o ≡ true → o ≡ Finishes
finish_is Nothing h = absurd (true≢false (sym h))
finish_is (Calls form f j) h = absurd (true≢false (sym h))
finish_is (Waits choices) h = absurd (true≢false (sym h))
finish_is Finishes h = refl
finish_is Ends h = absurd (true≢false (sym h))
finish_is (Aborts x) h = absurd (true≢false (sym h))

pub end_is : (o : Offer) → is_end o ≡ true → o ≡ Ends
end_is Nothing h = absurd (true≢false (sym h))
end_is (Calls form f j) h = absurd (true≢false (sym h))
end_is (Waits choices) h = absurd (true≢false (sym h))
end_is Finishes h = absurd (true≢false (sym h))
end_is Ends h = refl
end_is (Aborts x) h = absurd (true≢false (sym h))

pub aborts_is : (x : ℕ) (o : Offer) → aborts x o ≡ true → o ≡ Aborts x
aborts_is x Nothing h = absurd (true≢false (sym h))
aborts_is x (Calls form f j) h = absurd (true≢false (sym h))
aborts_is x (Waits choices) h = absurd (true≢false (sym h))
aborts_is x Finishes h = absurd (true≢false (sym h))
aborts_is x Ends h = absurd (true≢false (sym h))
aborts_is x (Aborts y) h = ap Aborts (sym (eqb-true x y h))

pub timed_queues : (form : CallForm) → is_timed form ≡ true → queues_up form ≡ true
timed_queues Plain h = refl
timed_queues Conditional h = absurd (true≢false (sym h))
timed_queues Timed h = refl

pub else_conditional : (form : CallForm) → queues_up form ≡ false → is_conditional form ≡ true
else_conditional Plain h = absurd (true≢false h)
else_conditional Conditional h = refl
else_conditional Timed h = absurd (true≢false h)

pub none_any : {X : Type 0} (test : X → Bool) → ((x : X) → test x ≡ false) → (xs : List X) → list_any test xs ≡ false
none_any test h [] = refl
none_any test h (x ∷ xs) = or_from (test x) (list_any test xs) (h x) (none_any test h xs)

-- where nobody is queued no open accept has a caller
module _ {L : Type 0} (ops : Ops L) (s : Seen L) (empty : s.line ≡ []) where
  no_caller_at : (choice : Choice) → has_caller ops s choice ≡ false
  no_caller_at (Accept e i) = λ k. has_caller ops (record { tasks = s.tasks; size = s.size; line = empty k }) (Accept e i)
  no_caller_at Else = refl
  no_caller_at (Delay k) = refl
  no_caller_at Terminate = refl

  pub no_caller : (o : Offer) → has_no_caller ops s o ≡ true
  no_caller Nothing = refl
  no_caller (Calls form e i) = refl
  no_caller (Waits choices) = ap not (none_any (has_caller ops s) no_caller_at choices)
  no_caller Finishes = refl
  no_caller Ends = refl
  no_caller (Aborts x) = refl

-- who calls does not wait
pub calls_waits : (test : CallForm → Bool) (other : Choice → Bool) (e : ℕ) (i : ℤ) (o : Offer) → calls_in test e i o ≡ true → waits_with other o ≡ true → ⊥
calls_waits test other e i o h k =
    let (form, q, passes) = calls_is test e i o h in
    let wait : waits_with other (Calls form e i) ≡ true = ap (waits_with other) (sym q) ∙ k in
    true≢false (sym wait)
