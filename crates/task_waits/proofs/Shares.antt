-- The choices of a wait by their sorts, and how many there are.
use Rattle.std.specs.Prelude.{◌≡◌, ◌≤◌, ◌+◌, ℕ, suc, nat_lt, Bool, true, false, ◌||◌, if◌then◌else◌, List, [], ◌∷◌, ◌++◌, length, map, Option, Some, None, option_map, Result, Ok, Err, refl}
use Rattle.std.specs.List.{filter_map, list_any, cons_option}
use Rattle.std.proofs.Common.{◌∙◌, ap, arith}
use Rattle.std.proofs.lemmas.Bool.Decides.{nat_tests}
use Rattle.ada_tree.specs.declared.statements.Alt.{Alt}
use Rattle.ada_tree.specs.PlainExpr.{plain_expr}
use Rattle.ada_tree.specs.PlainStmt.{plain_alt, plain_alt_kind, alts_of}
use Rattle.ada_value.specs.declared.values.Raised.{Raised}
use Rattle.ada_value.specs.Values.{and_then}
use Rattle.event_machine.specs.declared.Choice.{Choice}
use Rattle.event_machine.specs.declared.Choice.TheVariants as choice
use Rattle.task_model.specs.Tasks.{Task}
use Rattle.task_model.specs.Waits.{Open, guard_holds, kind_opened, opened_if, delays_with, alternatives_open, Accepts, Delays, Terminates, accept_choice, is_shorter, delay_choice, terminate_choice, else_choice, choices_of}
use Rattle.task_waits.specs.declared.choosing.Sort.{Sort}
use Rattle.task_waits.specs.declared.choosing.Sort.TheVariants as sort
use Rattle.task_waits.specs.inner.Choosing.{duration_of, lesser, least_among, is_longer, chosen}
use Rattle.task_waits.proofs.Opens.{lesser_none}
use Rattle.common_lemmas.proofs.Truth.{or_grouped, or_none}

-- ---- the choices of each sort

same_filtered : {X Y : Type 0} (f g : X → Option Y) → ((x : X) → f x ≡ g x) → (xs : List X) → filter_map f xs ≡ filter_map g xs
same_filtered f g same [] = refl
same_filtered f g same (x ∷ xs) = λ k. cons_option (same x k) (same_filtered f g same xs k)

accepts_chosen : (o : Open) → chosen sort.Accepts o ≡ accept_choice o
accepts_chosen (Accepts e i head stmts behind) = refl
accepts_chosen (Delays k d stmts) = refl
accepts_chosen Terminates = refl

terminates_chosen : (o : Open) → chosen sort.Terminates o ≡ terminate_choice o
terminates_chosen (Accepts e i head stmts behind) = refl
terminates_chosen (Delays k d stmts) = refl
terminates_chosen Terminates = refl

lesser_longer : (m d n : ℕ) → is_longer (lesser (Some m) (Some d)) n ≡ (nat_lt m n || nat_lt d n)
lesser_longer m d n = grind (arith, nat_tests)

-- a duration is above the lesser of two where it is above one of them
longer_than_lesser : (m : Option ℕ) (o : Open) (n : ℕ) → is_longer (lesser m (duration_of o)) n ≡ (is_longer m n || is_shorter n o)
longer_than_lesser m (Accepts e i head stmts behind) n = ap (λ q. is_longer q n) (lesser_none m) ∙ or_none (is_longer m n)
longer_than_lesser None (Delays k d stmts) n = refl
longer_than_lesser (Some m) (Delays k d stmts) n = lesser_longer m d n
longer_than_lesser m Terminates n = ap (λ q. is_longer q n) (lesser_none m) ∙ or_none (is_longer m n)

-- a duration is above the least one where it is above one
longer_than_least : (all : List Open) (m : Option ℕ) (n : ℕ) → is_longer (least_among m all) n ≡ (is_longer m n || list_any (is_shorter n) all)
longer_than_least [] m n = or_none (is_longer m n)
longer_than_least (o ∷ os) m n =
    longer_than_least os (lesser m (duration_of o)) n
    ∙ ap (λ b. b || list_any (is_shorter n) os) (longer_than_lesser m o n)
    ∙ or_grouped (is_longer m n) (is_shorter n o) (list_any (is_shorter n) os)

delays_chosen : (all : List Open) (o : Open) → chosen (sort.Delays (least_among None all)) o ≡ delay_choice all o
delays_chosen all (Accepts e i head stmts behind) = refl
delays_chosen all (Delays k d stmts) = ap (λ (b : Bool). if b then None else Some (choice.Delay k)) (longer_than_least all None d)
delays_chosen all Terminates = refl

-- the choices of one sort after another, with the else part behind the accepts, are the choices of the wait
pub choices_by_sorts : (has_else : Bool) (all : List Open) →
    filter_map (chosen sort.Accepts) all ++ (else_choice has_else ++ (filter_map (chosen (sort.Delays (least_among None all))) all ++ filter_map (chosen sort.Terminates) all))
    ≡ choices_of has_else all
choices_by_sorts has_else all = λ k.
    same_filtered (chosen sort.Accepts) accept_choice accepts_chosen all k
    ++ (else_choice has_else
    ++ (same_filtered (chosen (sort.Delays (least_among None all))) (delay_choice all) (delays_chosen all) all k
    ++ same_filtered (chosen sort.Terminates) terminate_choice terminates_chosen all k))

-- ---- how many there are

at_most_one : (q : Option Choice) (xs : List Choice) → length (cons_option q xs) ≤ suc (length xs)
at_most_one None xs = omega arith
at_most_one (Some c) xs = omega arith

-- how many choices of a sort there are
abbrev pub many : Sort → List Open → ℕ
many s all = length (filter_map (chosen s) all)

-- each open alternative gives one choice at most
pub few_choices : (least : Option ℕ) (all : List Open) → many sort.Accepts all + (many (sort.Delays least) all + many sort.Terminates all) ≤ length all
few_choices least [] = omega arith
few_choices least (Accepts e i head stmts behind ∷ os) = omega (arith, few_choices least os)
few_choices least (Delays k d stmts ∷ os) =
    omega (arith, few_choices least os, at_most_one (chosen (sort.Delays least) (Delays k d stmts)) (filter_map (chosen (sort.Delays least)) os))
few_choices least (Terminates ∷ os) = omega (arith, few_choices least os)

few_first : (g : Result Bool Raised) (here : Result Open Raised) (later : Result (List Open) Raised) (all : List Open) (n : ℕ) → and_then g (λ b. opened_if b here later) ≡ Ok all
    → ((os : List Open) → later ≡ Ok os → length os ≤ n) → length all ≤ suc n
few_first (Err x) here later all n is more = absurd (cc)
few_first (Ok false) here later all n is more = omega (arith, more all is)
few_first (Ok true) (Err x) later all n is more = absurd (cc)
few_first (Ok true) (Ok o) (Err x) all n is more = absurd (cc)
few_first (Ok true) (Ok o) (Ok os) all n is more = let same : o ∷ os ≡ all = cc in omega (arith, more os refl, ap length same)

-- no more alternatives are open than there are
pub few_open : (t : Task) (alts : List Alt) (k : ℕ) (all : List Open) → alternatives_open t (alts_of (map plain_alt alts)) k ≡ Ok all → length all ≤ length alts
few_open t [] k all is = let none : [] ≡ all = cc in omega (arith, ap length none)
few_open t (a ∷ alts) k all is =
    few_first (guard_holds t (option_map plain_expr a.guard)) (kind_opened t (plain_alt_kind a.kind) k) (alternatives_open t (alts_of (map plain_alt alts)) (delays_with (plain_alt_kind a.kind) k)) all (length alts) is
    (λ os e. few_open t alts (delays_with (plain_alt_kind a.kind) k) os e)
