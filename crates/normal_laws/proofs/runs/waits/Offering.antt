-- Where an alternative is open there is a choice, and where one has no guard it is open: so a wait behind its test can go on.
use Rattle.std.proofs.Common.{◌≡◌, ℕ, zero, suc, ◌<◌, Bool, true, false, if◌then◌else◌, List, [], ◌∷◌, ◌++◌, Option, Some, None, Result, Ok, Err, refl, sym, ap, ◌∙◌, true≢false, arith, ⊎_elim}
use Rattle.std.specs.List.{filter_map, list_any, cons_option}
use Rattle.std.proofs.lemmas.Bool.{or_cases, ltb-true}
use Rattle.ada_tree.specs.PlainExpr.{PExpr}
use Rattle.ada_tree.specs.PlainStmt.{alternative, PAlts, no_alt, alt_then}
use Rattle.event_machine.specs.declared.Choice.{Choice}
use Rattle.event_machine.specs.declared.Choice.TheVariants as choice
use Rattle.ada_value.specs.declared.values.Raised.{Raised}
use Rattle.ada_value.specs.Values.{and_then}
use Rattle.task_model.specs.Tasks.{Task}
use Rattle.task_model.specs.Waits.{Open, Accepts, Delays, Terminates, guard_holds, kind_opened, delays_with, opened_if, alternatives_open, accept_choice, is_shorter, delay_choice, terminate_choice, else_choice, choices_of}
use Rattle.normal_model.specs.Waits.{guard_then, all_guards}
use Rattle.normal_laws.specs.runs.floors.Suited.{Rewritten}
use Rattle.normal_laws.proofs.runs.waits.Alternatives.{OpensAlike, no_opens, open_more}
use Rattle.syn_event.proofs.Nothing.{append_nothing as both-none}

-- ---- choices

-- what is mapped to nothing in a list of which nothing is left
none-left : (f : Open → Option Choice) (op : Open) (ops : List Open) → cons_option (f op) (filter_map f ops) ≡ [] → (f op ≡ None) × (filter_map f ops ≡ [])
none-left f op ops e = go (f op) e
  where
    go : (o : Option Choice) → cons_option o (filter_map f ops) ≡ [] → (o ≡ None) × (filter_map f ops ≡ [])
    go None h = (refl, h)
    go (Some c) h = cc

-- an open delay of a duration below a bound, of which no choice comes
record IsBelow (all : List Open) (bound : ℕ) : Type 0 where
  duration : ℕ
  below : duration < bound
  longer : list_any (is_shorter duration) all ≡ true

chosen-not : (all : List Open) (k : ℕ) (b : Bool) → (if b then None else Some (choice.Delay k)) ≡ None → b ≡ true
chosen-not all k true e = refl
chosen-not all k false e = cc

-- the first open alternative that is shorter
shorter-one : (all : List Open) (bound : ℕ) (ops : List Open) → filter_map (delay_choice all) ops ≡ [] → list_any (is_shorter bound) ops ≡ true → IsBelow all bound
shorter-one all bound [] none some = absurd (true≢false (sym some))
shorter-one all bound (op ∷ ops) none some =
    let n = none-left (delay_choice all) op ops none in
    ⊎_elim (one op n.0) (shorter-one all bound ops n.1) (or_cases (is_shorter bound op) (list_any (is_shorter bound) ops) some)
  where
    one : (op : Open) → delay_choice all op ≡ None → is_shorter bound op ≡ true → IsBelow all bound
    one (Accepts e z h l d) c s = absurd (true≢false (sym s))
    one (Delays k d l) c s = record { duration = d; below = ltb-true d bound s; longer = chosen-not all k (list_any (is_shorter d) all) c }
    one Terminates c s = absurd (true≢false (sym s))

-- of open delays one is of the least duration, so a choice comes of one
no-descent : (all : List Open) → filter_map (delay_choice all) all ≡ [] → (n bound : ℕ) → bound < n → list_any (is_shorter bound) all ≡ true → ⊥
no-descent all none zero bound l some = omega (arith, l)
no-descent all none (suc n) bound l some = let b = shorter-one all bound all none some in no-descent all none n b.duration (let m : b.duration < bound = b.below in omega (arith, l, m)) b.longer

-- Where nothing can be chosen nothing is open, and there is no else part.
pub no-choice : (has_else : Bool) (os : List Open) → choices_of has_else os ≡ [] → (os ≡ []) × (has_else ≡ false)
no-choice has_else os e = (first os refl a.0 (both-none _ _ (both-none _ _ a.1).1).0 (both-none _ _ (both-none _ _ a.1).1).1, no-else has_else (both-none _ _ a.1).0)
  where
    a : (filter_map accept_choice os ≡ []) × (else_choice has_else ++ (filter_map (delay_choice os) os ++ filter_map terminate_choice os) ≡ [])
    a = both-none (filter_map accept_choice os) (else_choice has_else ++ (filter_map (delay_choice os) os ++ filter_map terminate_choice os)) e

    no-else : (b : Bool) → else_choice b ≡ [] → b ≡ false
    no-else true h = cc
    no-else false h = refl

    some-none : {c : Choice} → Some c ≡ None → ⊥
    some-none h = cc

    first : (ops : List Open) → os ≡ ops → filter_map accept_choice ops ≡ [] → filter_map (delay_choice os) os ≡ [] → filter_map terminate_choice ops ≡ [] → os ≡ []
    first [] f accepts delays ends = f
    first (Accepts x z h l d ∷ ops) f accepts delays ends = absurd (some-none (none-left accept_choice (Accepts x z h l d) ops accepts).0)
    first (Delays k d l ∷ ops) f accepts delays ends =
        let n = none-left (delay_choice os) (Delays k d l) ops (sym (ap (filter_map (delay_choice os)) f) ∙ delays) in
        absurd (no-descent os delays (suc d) d (omega arith) (chosen-not os k (list_any (is_shorter d) os) n.0))
    first (Terminates ∷ ops) f accepts delays ends = absurd (some-none (none-left terminate_choice Terminates ops ends).0)

-- ---- alternatives without a guard

-- Where not each alternative has a guard, one is open.
pub unguarded-opens : (c : Task) (alts : PAlts) (k : ℕ) → all_guards alts ≡ None → alternatives_open c alts k ≡ Ok [] → ⊥
unguarded-opens c no_alt k none e = cc
unguarded-opens c (alt_then (alternative None what s) rest) k none e = go (kind_opened c what k) (alternatives_open c rest (delays_with what k)) e
  where
    go : (r : Result Open Raised) (rs : Result (List Open) Raised) → and_then r (λ o. and_then rs (λ os. Ok (o ∷ os))) ≡ Ok [] → ⊥
    go (Ok o) (Ok os) h = cc
    go (Ok o) (Err y) h = cc
    go (Err y) rs h = cc
unguarded-opens c (alt_then (alternative (Some g) what s) rest) k none e =
    unguarded-opens c rest (delays_with what k) (guards (all_guards rest) none) (go (guard_holds c (Some g)) (kind_opened c what k) (alternatives_open c rest (delays_with what k)) e)
  where
    guards : (gs : Option (List PExpr)) → guard_then (Some g) gs ≡ None → gs ≡ None
    guards None h = refl
    guards (Some gs) h = cc

    opened : (r : Result Open Raised) (rs : Result (List Open) Raised) → and_then r (λ o. and_then rs (λ os. Ok (o ∷ os))) ≡ Ok [] → rs ≡ Ok []
    opened (Ok o) (Ok os) h = cc
    opened (Ok o) (Err y) h = cc
    opened (Err y) rs h = cc

    go : (b : Result Bool Raised) (r : Result Open Raised) (rs : Result (List Open) Raised) → and_then b (λ t. opened_if t r rs) ≡ Ok [] → rs ≡ Ok []
    go (Ok true) r rs h = opened r rs h
    go (Ok false) r rs h = h
    go (Err y) r rs h = cc

pub none-alike : (w : Rewritten) {os os' : List Open} → OpensAlike w os os' → os ≡ [] → os' ≡ []
none-alike w no_opens e = refl
none-alike w (open_more o o' os os' a more) e = cc
