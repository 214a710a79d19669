-- Which open alternative of a selective wait a permit is for.
use Rattle.std.proofs.Common.{◌≡◌, ℕ, ◌≤◌, ℤ, Bool, true, false, not, ◌&&◌, ◌||◌, ◌==◌, if◌then◌else◌, List, [], ◌∷◌, ◌++◌, Option, Some, None, refl, sym, ap, ap₂, ◌∙◌}
use Rattle.std.proofs.lemmas.List.Folds.{list_any-append}
use Rattle.std.specs.List.{list_any, filter_map, cons_option}
use Rattle.common_lemmas.proofs.Numbers.{unequal_above}
use Rattle.common_lemmas.proofs.Truth.{and_false, or_false}
use Rattle.event_machine.specs.declared.Choice.{Choice}
use Rattle.event_machine.specs.declared.Choice.TheVariants.{Accept, Else, Delay, Terminate}
use Rattle.event_machine.specs.Offers.{Waits, opens, is_else, is_delay, is_terminate, is_end}
use Rattle.task_model.specs.Waits.{Open, Accepts, Delays, Terminates, accept_choice, is_shorter, delay_choice, terminate_choice, else_choice, choices_of, accepts_member}
use Rattle.run_laws.specs.replaying.Permits.{Permit, ToMeet, ToFinish, ToElse, ToDelay, ToCallElse, ToExpire, ToFail, ToEnd, ToAbort, ToClose, wants}
use Rattle.replay_runs.specs.script.Spelling.{kind}

-- it is the delay of this number, and no open delay is shorter
abbrev pub pauses_so : ℕ → List Open → Open → Bool
pauses_so k all (Accepts e z head body behind) = false
pauses_so k all (Delays n d l) = (k == n) && not (list_any (is_shorter d) all)
pauses_so k all Terminates = false

abbrev pub closes : Open → Bool
closes (Accepts e z head body behind) = false
closes (Delays n d l) = false
closes Terminates = true

-- The permit is for this one of all open alternatives.
abbrev pub is_for : Permit → List Open → Open → Bool
is_for (ToMeet e z) all op = accepts_member e z op
is_for ToFinish all op = false
is_for ToElse all op = false
is_for (ToDelay k) all op = pauses_so k all op
is_for (ToCallElse e z) all op = false
is_for (ToExpire e z) all op = false
is_for (ToFail e z) all op = false
is_for ToEnd all op = false
is_for (ToAbort x) all op = false
is_for ToClose all op = closes op

-- ---- choices

pub any-none : (xs : List Open) → list_any (λ op. false) xs ≡ false
any-none [] = refl
any-none (x ∷ xs) = any-none xs

-- the choice that an open alternative gives, if it gives one, passes the test
abbrev pub chosen : (Choice → Bool) → Option Choice → Bool
chosen test None = false
chosen test (Some c) = test c

pub one-more : (test : Choice → Bool) (o : Option Choice) (cs : List Choice) → list_any test (cons_option o cs) ≡ (chosen test o || list_any test cs)
one-more test None cs = refl
one-more test (Some c) cs = refl

pub any-choice : (test : Choice → Bool) (c : Open → Option Choice) (f : Open → Bool) → ((op : Open) → chosen test (c op) ≡ f op) → (xs : List Open) → list_any test (filter_map c xs) ≡ list_any f xs
any-choice test c f same [] = refl
any-choice test c f same (op ∷ xs) = one-more test (c op) (filter_map c xs) ∙ ap₂ (λ (a b : Bool). a || b) (same op) (any-choice test c f same xs)

-- what of the choices passes a test, part by part
pub parts : (test : Choice → Bool) (has_else : Bool) (all : List Open) (a b c d : Bool) → list_any test (filter_map accept_choice all) ≡ a → list_any test (else_choice has_else) ≡ b →
    list_any test (filter_map (delay_choice all) all) ≡ c → list_any test (filter_map terminate_choice all) ≡ d → list_any test (choices_of has_else all) ≡ (a || (b || (c || d)))
parts test has_else all a b c d ea eb ec ed =
    list_any-append test (filter_map accept_choice all) (else_choice has_else ++ (filter_map (delay_choice all) all ++ filter_map terminate_choice all))
    ∙ ap₂ (λ (x y : Bool). x || y) ea
    (list_any-append test (else_choice has_else) (filter_map (delay_choice all) all ++ filter_map terminate_choice all)
    ∙ ap₂ (λ (x y : Bool). x || y) eb (list_any-append test (filter_map (delay_choice all) all) (filter_map terminate_choice all) ∙ ap₂ (λ (x y : Bool). x || y) ec ed))

member-chosen : (e : ℕ) (z : ℤ) (op : Open) → chosen (opens e z) (accept_choice op) ≡ accepts_member e z op
member-chosen e z (Accepts f j head body behind) = refl
member-chosen e z (Delays n d l) = refl
member-chosen e z Terminates = refl

pub no-accept : (test : Choice → Bool) → ((e : ℕ) (z : ℤ) → test (Accept e z) ≡ false) → (op : Open) → chosen test (accept_choice op) ≡ false
no-accept test none (Accepts f j head body behind) = none f j
no-accept test none (Delays n d l) = refl
no-accept test none Terminates = refl

delay-if : (test : Choice → Bool) (n : ℕ) (c : Bool) → chosen test (if c then None else Some (Delay n)) ≡ (test (Delay n) && not c)
delay-if test n true = sym (and_false (test (Delay n)))
delay-if test n false = by_test (test (Delay n))
  where
    by_test : (c : Bool) → c ≡ (c && true)
    by_test true = refl
    by_test false = refl

delay-chosen : (k : ℕ) (all : List Open) (op : Open) → chosen (is_delay k) (delay_choice all op) ≡ pauses_so k all op
delay-chosen k all (Accepts f j head body behind) = refl
delay-chosen k all (Delays n d l) = delay-if (is_delay k) n (list_any (is_shorter d) all)
delay-chosen k all Terminates = refl

pub no-delay : (test : Choice → Bool) → ((k : ℕ) → test (Delay k) ≡ false) → (all : List Open) (op : Open) → chosen test (delay_choice all op) ≡ false
no-delay test none all (Accepts f j head body behind) = refl
no-delay test none all (Delays n d l) = delay-if test n (list_any (is_shorter d) all) ∙ ap (λ c. c && not (list_any (is_shorter d) all)) (none n)
no-delay test none all Terminates = refl

close-chosen : (op : Open) → chosen is_terminate (terminate_choice op) ≡ closes op
close-chosen (Accepts f j head body behind) = refl
close-chosen (Delays n d l) = refl
close-chosen Terminates = refl

pub no-close : (test : Choice → Bool) → test Terminate ≡ false → (op : Open) → chosen test (terminate_choice op) ≡ false
no-close test none (Accepts f j head body behind) = refl
no-close test none (Delays n d l) = refl
no-close test none Terminates = none

else-same : (has_else : Bool) → list_any is_else (else_choice has_else) ≡ has_else
else-same true = refl
else-same false = refl

pub no-else : (test : Choice → Bool) → test Else ≡ false → (has_else : Bool) → list_any test (else_choice has_else) ≡ false
no-else test none true = ap (λ c. c || false) none
no-else test none false = refl

-- no accept, no delay and no terminate alternative passes the test
module _ (test : Choice → Bool) (all : List Open) where
  accepts-none : ((e : ℕ) (z : ℤ) → test (Accept e z) ≡ false) → list_any test (filter_map accept_choice all) ≡ false
  accepts-none none = any-choice test accept_choice (λ op. false) (no-accept test none) all ∙ any-none all

  delays-none : ((k : ℕ) → test (Delay k) ≡ false) → list_any test (filter_map (delay_choice all) all) ≡ false
  delays-none none = any-choice test (delay_choice all) (λ op. false) (no-delay test none all) all ∙ any-none all

  closes-none : test Terminate ≡ false → list_any test (filter_map terminate_choice all) ≡ false
  closes-none none = any-choice test terminate_choice (λ op. false) (no-close test none) all ∙ any-none all

not-main : (t : ℕ) → 1 ≤ t → (t == 0) ≡ false
not-main t l = unequal_above t 0 l

-- A task beside main can use the permit at a selective wait, where the permit is for one of the open alternatives, or for the else part that is there.
pub wants_wait : (t : ℕ) → 1 ≤ t → (permit : Permit) (has_else : Bool) (all : List Open) → wants t permit (Waits (choices_of has_else all)) ≡ (list_any (is_for permit all) all || ((kind permit == 3) && has_else))
wants_wait t l (ToMeet e z) has_else all =
    parts (opens e z) has_else all (list_any (accepts_member e z) all) false false false (any-choice (opens e z) accept_choice (accepts_member e z) (member-chosen e z) all) (no-else (opens e z) refl has_else)
    (delays-none (opens e z) all (λ k. refl)) (closes-none (opens e z) all refl)
wants_wait t l ToElse has_else all =
    parts is_else has_else all false has_else false false (accepts-none is_else all (λ e z. refl)) (else-same has_else) (delays-none is_else all (λ k. refl)) (closes-none is_else all refl)
    ∙ or_false has_else ∙ sym (ap (λ c. c || has_else) (any-none all))
wants_wait t l (ToDelay k) has_else all =
    parts (is_delay k) has_else all false false (list_any (pauses_so k all) all) false (accepts-none (is_delay k) all (λ e z. refl)) (no-else (is_delay k) refl has_else)
    (any-choice (is_delay k) (delay_choice all) (pauses_so k all) (delay-chosen k all) all) (closes-none (is_delay k) all refl)
wants_wait t l ToClose has_else all =
    ap (λ c. if c then is_end (Waits (choices_of has_else all)) else list_any is_terminate (choices_of has_else all)) (not-main t l)
    ∙ parts is_terminate has_else all false false false (list_any closes all) (accepts-none is_terminate all (λ e z. refl)) (no-else is_terminate refl has_else) (delays-none is_terminate all (λ k. refl))
    (any-choice is_terminate terminate_choice closes close-chosen all)
    ∙ sym (or_false (list_any closes all))
wants_wait t l ToEnd has_else all = and_false (not (t == 0)) ∙ sym (ap (λ c. c || false) (any-none all))
wants_wait t l ToFinish has_else all = sym (ap (λ c. c || false) (any-none all))
wants_wait t l (ToCallElse e z) has_else all = sym (ap (λ c. c || false) (any-none all))
wants_wait t l (ToExpire e z) has_else all = sym (ap (λ c. c || false) (any-none all))
wants_wait t l (ToFail e z) has_else all = sym (ap (λ c. c || false) (any-none all))
wants_wait t l (ToAbort x) has_else all = sym (ap (λ c. c || false) (any-none all))
