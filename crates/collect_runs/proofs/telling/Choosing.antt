-- Which choices a wait has, by its open alternatives; and the alternatives that a task and its image have open alike.
use Rattle.std.proofs.Common.{◌≡◌, ◌==◌, ℕ, ℤ, Bool, true, false, ◌||◌, cond, if◌then◌else◌, List, [], ◌∷◌, ◌++◌, find, Option, Some, None, Result, Ok, Err, refl, sym, ap, ap₂, subst, ◌∙◌, true≢false}
use Rattle.std.specs.List.{filter_map, list_any, cons_option}
use Rattle.event_machine.specs.declared.Choice.{Choice}
use Rattle.event_machine.specs.declared.Choice.TheVariants.{Accept, Delay, Terminate}
use Rattle.event_machine.specs.Offers.{Offer, Nothing, Calls, Waits, Finishes, Ends, Aborts, opens, is_else, is_delay}
use Rattle.ada_value.specs.declared.values.Raised.{Raised}
use Rattle.task_model.specs.Stands.{choices_stand, wait_stand, steps_at, offered}
use Rattle.task_model.specs.Waits.{Open, Accepts, Delays, Terminates, accept_choice, is_shorter, delay_choice, terminate_choice, else_choice, choices_of, accepts_member}
use Rattle.task_laws.proofs.translation.Results.{Both, both_ok, both_err}
use Rattle.run_laws.specs.collecting.Copies.{based_offer}
use Rattle.replay_runs.proofs.controls.meanings.Choosing.{any-none, no-else, parts, any-choice, chosen, no-accept as accept-chosen, no-close as close-chosen, no-delay as delay-chosen}

-- ---- one wait

or-none : (a : Bool) → (a || (false || (false || false))) ≡ a
or-none true = refl
or-none false = refl

delay-if : (test : Choice → Bool) (n : ℕ) (c : Bool) → test (Delay n) ≡ false → chosen test (if c then None else Some (Delay n)) ≡ false
delay-if test n true none = refl
delay-if test n false none = none

module _ (b : Bool) (all : List Open) where
  accepts-none : (test : Choice → Bool) → ((e : ℕ) (z : ℤ) → test (Accept e z) ≡ false) → list_any test (filter_map accept_choice all) ≡ false
  accepts-none test none = any-choice test accept_choice (λ op. false) (accept-chosen test none) all ∙ any-none all

  delays-none : (test : Choice → Bool) → ((k : ℕ) → test (Delay k) ≡ false) → list_any test (filter_map (delay_choice all) all) ≡ false
  delays-none test none = any-choice test (delay_choice all) (λ op. false) (delay-chosen test none all) all ∙ any-none all

  closes-none : (test : Choice → Bool) → test Terminate ≡ false → list_any test (filter_map terminate_choice all) ≡ false
  closes-none test none = any-choice test terminate_choice (λ op. false) (close-chosen test none) all ∙ any-none all

  member-chosen : (e : ℕ) (z : ℤ) (op : Open) → chosen (opens e z) (accept_choice op) ≡ accepts_member e z op
  member-chosen e z (Accepts f j head body behind) = refl
  member-chosen e z (Delays n d l) = refl
  member-chosen e z Terminates = refl

  pub opens-any : (e : ℕ) (z : ℤ) → list_any (opens e z) (choices_of b all) ≡ list_any (accepts_member e z) all
  opens-any e z =
      parts (opens e z) b all (list_any (accepts_member e z) all) false false false (any-choice (opens e z) accept_choice (accepts_member e z) (member-chosen e z) all) (no-else (opens e z) refl b)
      (delays-none (opens e z) (λ k. refl)) (closes-none (opens e z) refl) ∙ or-none (list_any (accepts_member e z) all)

-- without an else part none is chosen
pub else-there : (b : Bool) (all : List Open) → list_any is_else (choices_of b all) ≡ true → b ≡ true
else-there true all h = refl
else-there false all h =
    absurd (true≢false (sym h ∙ parts is_else false all false false false false (accepts-none false all is_else (λ e z. refl)) refl (delays-none false all is_else (λ k. refl)) (closes-none false all is_else refl)))

-- the delay alternative of this number
abbrev pub delays_at : ℕ → Open → Bool
delays_at k (Accepts e z head body behind) = false
delays_at k (Delays n d l) = k == n
delays_at k Terminates = false

-- what a test of fewer finds
any-fewer : (f g : Open → Bool) → ((op : Open) → f op ≡ true → g op ≡ true) → (xs : List Open) → list_any f xs ≡ true → list_any g xs ≡ true
any-fewer f g less [] h = h
any-fewer f g less (op ∷ xs) h = go (any-fewer f g less xs) (f op) refl h
  where
    either : (a c : Bool) → c ≡ true → (a || c) ≡ true
    either true c e = refl
    either false c e = e

    go : (list_any f xs ≡ true → list_any g xs ≡ true) → (a : Bool) → f op ≡ a → (a || list_any f xs) ≡ true → (g op || list_any g xs) ≡ true
    go more true e k = ap (λ c. c || list_any g xs) (less op e)
    go more false e k = either (g op) (list_any g xs) (more k)

-- an open delay that can be taken
abbrev pauses : ℕ → List Open → Open → Bool
pauses k all op = chosen (is_delay k) (delay_choice all op)

pauses-less : (k : ℕ) (all : List Open) (op : Open) → pauses k all op ≡ true → delays_at k op ≡ true
pauses-less k all (Accepts e z head body behind) h = h
pauses-less k all (Delays n d l) h = by_test (list_any (is_shorter d) all) h
  where
    by_test : (c : Bool) → chosen (is_delay k) (if c then None else Some (Delay n)) ≡ true → (k == n) ≡ true
    by_test true e = absurd (true≢false (sym e))
    by_test false e = e
pauses-less k all Terminates h = h

or-left : (a : Bool) → (false || (false || (a || false))) ≡ a
or-left true = refl
or-left false = refl

pub delay-there : (k : ℕ) (b : Bool) (all : List Open) → list_any (is_delay k) (choices_of b all) ≡ true → list_any (delays_at k) all ≡ true
delay-there k b all h =
    any-fewer (pauses k all) (delays_at k) (pauses-less k all) all
    (sym (parts (is_delay k) b all false false (list_any (pauses k all) all) false (accepts-none b all (is_delay k) (λ e z. refl)) (no-else (is_delay k) refl b)
    (any-choice (is_delay k) (delay_choice all) (pauses k all) (λ op. refl) all) (closes-none b all (is_delay k) refl) ∙ or-left (list_any (pauses k all) all)) ∙ h)

-- ---- two waits

module _ (Same : Open → Open → Type 0) where
  -- alternatives that are open alike, in order
  pub data AreSame : List Open → List Open → Type 0 where
    same_none : AreSame [] []
    same_then : (o o' : Open) (os os' : List Open) → Same o o' → AreSame os os' → AreSame (o ∷ os) (o' ∷ os')

  module _ (same-accept : (o o' : Open) → Same o o' → accept_choice o ≡ accept_choice o') (same-shorter : (d : ℕ) (o o' : Open) → Same o o' → is_shorter d o ≡ is_shorter d o')
      (same-delay : (all all' : List Open) → ((d : ℕ) → list_any (is_shorter d) all ≡ list_any (is_shorter d) all') → (o o' : Open) → Same o o' → delay_choice all o ≡ delay_choice all' o')
      (same-close : (o o' : Open) → Same o o' → terminate_choice o ≡ terminate_choice o') where
    mapped-same : (c c' : Open → Option Choice) → ((o o' : Open) → Same o o' → c o ≡ c' o') → {os os' : List Open} → AreSame os os' → filter_map c os ≡ filter_map c' os'
    mapped-same c c' h same_none = refl
    mapped-same c c' h (same_then o o' os os' s ss) = ap₂ cons_option (h o o' s) (mapped-same c c' h ss)

    any-same : (f : Open → Bool) → ((o o' : Open) → Same o o' → f o ≡ f o') → {os os' : List Open} → AreSame os os' → list_any f os ≡ list_any f os'
    any-same f h same_none = refl
    any-same f h (same_then o o' os os' s ss) = ap₂ (λ (a b : Bool). a || b) (h o o' s) (any-same f h ss)

    pub choices-same : (b : Bool) {os os' : List Open} → AreSame os os' → choices_of b os' ≡ choices_of b os
    choices-same b {os} {os'} s =
        sym (ap₂ (λ (u v : List Choice). u ++ v) (mapped-same accept_choice accept_choice same-accept s)
        (ap (λ v. else_choice b ++ v)
        (ap₂ (λ (u v : List Choice). u ++ v) (mapped-same (delay_choice os) (delay_choice os') (same-delay os os' (λ d. any-same (is_shorter d) (same-shorter d) s)) s)
        (mapped-same terminate_choice terminate_choice same-close s))))

  -- the first that accepts a member
  pub data AreFound (e : ℕ) (z : ℤ) : Option Open → Option Open → Type 0 where
    found_none : AreFound e z None None
    found_some : (o o' : Open) → Same o o' → accepts_member e z o ≡ true → AreFound e z (Some o) (Some o')

  pub first-same : ((e : ℕ) (z : ℤ) (o o' : Open) → Same o o' → accepts_member e z o ≡ accepts_member e z o') → (e : ℕ) (z : ℤ) {os os' : List Open} → AreSame os os' →
      AreFound e z (find (accepts_member e z) os) (find (accepts_member e z) os')
  first-same h e z same_none = found_none
  first-same h e z (same_then o o' os os' s ss) = go (accepts_member e z o) (accepts_member e z o') refl (h e z o o' s) (first-same h e z ss)
    where
      go : (c d : Bool) → accepts_member e z o ≡ c → c ≡ d → AreFound e z (find (accepts_member e z) os) (find (accepts_member e z) os') →
          AreFound e z (cond c (Some o) (find (accepts_member e z) os)) (cond d (Some o') (find (accepts_member e z) os'))
      go true true q k more = found_some o o' s q
      go true false q k more = absurd (true≢false k)
      go false true q k more = absurd (true≢false (sym k))
      go false false q k more = more

-- where one accepts a member the first is found
pub finds : (f : Open → Bool) (os : List Open) → list_any f os ≡ true → find f os ≡ None → ⊥
finds f [] h k = true≢false (sym h)
finds f (o ∷ os) h k = go (finds f os) (f o) h k
  where
    some : Option Open → Bool
    some None = false
    some (Some o) = true

    go : (list_any f os ≡ true → find f os ≡ None → ⊥) → (c : Bool) → (c || list_any f os) ≡ true → cond c (Some o) (find f os) ≡ None → ⊥
    go more true j e = true≢false (ap some e)
    go more false j e = more j e

-- ---- where a task rests at its wait

pub rests-ok : (b : Bool) (r : Result (List Open) Raised) → steps_at (wait_stand b r) ≡ false → (os : List Open) × (r ≡ Ok os)
rests-ok b (Ok os) e = (os, refl)
rests-ok b (Err x) e = absurd (true≢false e)

pub both-ok : {R : List Open → List Open → Type 0} {r r' : Result (List Open) Raised} → Both R r r' → (os : List Open) → r ≡ Ok os → (os' : List Open) × (r' ≡ Ok os') × R os os'
both-ok {R} (both_ok a b h) os e = (b, refl, subst (λ k. R k b) (ap came e) h)
  where
    came : Result (List Open) Raised → List Open
    came (Ok k) = k
    came (Err x) = []
both-ok (both_err x) os e = absurd (true≢false (sym (ap is_ok e)))
  where
    is_ok : Result (List Open) Raised → Bool
    is_ok (Ok k) = true
    is_ok (Err y) = false

-- it offers a wait, and so it is based
pub based-wait : (note t : ℕ) (cs : List Choice) → steps_at (choices_stand cs) ≡ false → based_offer note t (offered (choices_stand cs)) ≡ offered (choices_stand cs)
based-wait note t [] e = absurd (true≢false e)
based-wait note t (c ∷ cs) e = refl

-- no call and no end
abbrev pub is_wait : Offer → Bool
is_wait Nothing = true
is_wait (Calls form e i) = false
is_wait (Waits cs) = true
is_wait Finishes = false
is_wait Ends = false
is_wait (Aborts x) = false

pub waits-there : (cs : List Choice) → is_wait (offered (choices_stand cs)) ≡ true
waits-there [] = refl
waits-there (c ∷ cs) = refl
