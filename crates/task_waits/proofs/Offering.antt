-- What a task stands at, by what was found of its statement.
use Rattle.std.specs.Prelude.{◌≡◌, ◌<◌, ◌≤◌, ◌+◌, ℕ, ℤ, ◌&&◌, ◌==◌, Bool, true, false, List, [], ◌∷◌, ◌++◌, length, map, Option, Some, None, Result, Ok, Err, IsOk, refl}
use Rattle.std.specs.List.{filter_map}
use Rattle.std.specs.Ordering.{int_eq}
use Rattle.std.proofs.Common.{◌∙◌, sym, ap, arith}
use Rattle.std.proofs.lemmas.List.{append_assoc}
use Rattle.ada_tree.specs.declared.statements.Alt.{Alt}
use Rattle.ada_tree.specs.PlainStmt.{PHead, PAccept, accepting, PStmts, no_stmt, plain_alt, alts_of}
use Rattle.event_machine.specs.declared.Choice.{Choice}
use Rattle.event_machine.specs.declared.Choice.TheVariants as choice
use Rattle.event_machine.specs.Offers.{Waits}
use Rattle.ada_value.specs.declared.values.Raised.{Raised}
use Rattle.ada_value.specs.declared.values.Raised.TheVariants as raised
use Rattle.ada_value.specs.Values.{and_then}
use Rattle.task_waits.specs.declared.calls.calls.Member.{Member}
use Rattle.task_model.specs.Setting.{entry_of, member_index}
use Rattle.task_model.specs.Tasks.{Task, vars_of, stmts_or_none}
use Rattle.task_model.specs.Waits.{Open, Accepts, accept_opened, alternatives_open, else_choice, choices_of}
use Rattle.task_model.specs.Stands.{At, Raises, choices_stand, wait_stand}
use Rattle.task_waits.specs.declared.choosing.Sort.TheVariants as sort
use Rattle.task_waits.specs.inner.Choosing.{member_accepted, duration_of, least_among, chosen, opens_or_none, accepts_in}
use Rattle.task_waits.proofs.Opens.{least_of}
use Rattle.task_waits.proofs.Shares.{many, few_choices, few_open, choices_by_sorts}

-- ---- a wait whose guards and indexes raise nothing

pub open_then : (least : Option ℕ) (r : Result (List Open) Raised) → Ok least ≡ least_of None r → IsOk r
open_then least (Ok all) is = refl
open_then least (Err x) is = absurd (cc)

pub open_if : {A : Type 0} (a : A) (f : List Open → A) (r : Result (List Open) Raised) → Ok a ≡ and_then r (λ all. Ok (f all)) → IsOk r
open_if a f (Ok all) is = refl
open_if a f (Err x) is = absurd (cc)

least_is : (least : Option ℕ) (r : Result (List Open) Raised) → Ok least ≡ least_of None r → least ≡ least_among None (opens_or_none r)
least_is least (Ok all) is = cc
least_is least (Err x) is = absurd (cc)

pub all_fit : (t : Task) (alts : List Alt) (least : Option ℕ) (r : Result (List Open) Raised) → r ≡ alternatives_open t (alts_of (map plain_alt alts)) 0
    → many sort.Accepts (opens_or_none r) + (many (sort.Delays least) (opens_or_none r) + many sort.Terminates (opens_or_none r)) ≤ length alts
all_fit t alts least (Ok all) is = omega (arith, few_choices least all, few_open t alts 0 all (sym is))
all_fit t alts least (Err x) is = omega arith

pub else_few : (b : Bool) → length (else_choice b) ≤ 1
else_few true = omega arith
else_few false = omega arith

regroup : (a e d t : List Choice) → (((a ++ e) ++ d) ++ t) ≡ a ++ (e ++ (d ++ t))
regroup a e d t = append_assoc (a ++ e) d t ∙ append_assoc a e (d ++ t)

pub all_put : (has_else : Bool) (least : Option ℕ) (r : Result (List Open) Raised) (before first second third last : List Choice) → Ok least ≡ least_of None r
    → before ≡ [] → first ≡ before ++ filter_map (chosen sort.Accepts) (opens_or_none r) → second ≡ first ++ else_choice has_else
    → third ≡ second ++ filter_map (chosen (sort.Delays least)) (opens_or_none r) → last ≡ third ++ filter_map (chosen sort.Terminates) (opens_or_none r)
    → last ≡ choices_of has_else (opens_or_none r)
all_put has_else least r before first second third last is p0 p1 p2 p3 p4 =
    let all = opens_or_none r in
    let a = filter_map (chosen sort.Accepts) all in
    let d = filter_map (chosen (sort.Delays least)) all in
    let t = filter_map (chosen sort.Terminates) all in
    p4
    ∙ ap (λ l. l ++ t) (p3 ∙ ap (λ l. l ++ d) (p2 ∙ ap (λ l. l ++ else_choice has_else) (p1 ∙ ap (λ l. l ++ a) p0)))
    ∙ regroup a (else_choice has_else) d t
    ∙ ap (λ m. a ++ (else_choice has_else ++ (filter_map (chosen (sort.Delays m)) all ++ t))) (least_is least r is)
    ∙ choices_by_sorts has_else all

stands_by : (choices : List Choice) (whole : List Choice) → choices ≡ whole → length choices ≡ 0 → Raises raised.Program ≡ choices_stand whole
stands_by [] whole is none = ap choices_stand is
stands_by (c ∷ choices) whole is none = absurd (omega arith)

waits_by : (choices : List Choice) (whole : List Choice) → choices ≡ whole → 0 < length choices → At (Waits choices) ≡ choices_stand whole
waits_by [] whole is some = absurd (omega arith)
waits_by (c ∷ choices) whole is some = ap choices_stand is

pub stands_closed : (has_else : Bool) (least : Option ℕ) (r : Result (List Open) Raised) (choices : List Choice) → Ok least ≡ least_of None r → choices ≡ choices_of has_else (opens_or_none r) → length choices ≡ 0
    → Raises raised.Program ≡ wait_stand has_else r
stands_closed has_else least (Ok all) choices is put none = stands_by choices (choices_of has_else all) put none
stands_closed has_else least (Err x) choices is put none = absurd (cc)

pub stands_waiting : (has_else : Bool) (least : Option ℕ) (r : Result (List Open) Raised) (choices : List Choice) → Ok least ≡ least_of None r → choices ≡ choices_of has_else (opens_or_none r) → 0 < length choices
    → At (Waits choices) ≡ wait_stand has_else r
stands_waiting has_else least (Ok all) choices is put some = waits_by choices (choices_of has_else all) put some
stands_waiting has_else least (Err x) choices is put some = absurd (cc)

pub stands_raising : (has_else : Bool) (x : Raised) (r : Result (List Open) Raised) → Err x ≡ least_of None r → Raises x ≡ wait_stand has_else r
stands_raising has_else x (Ok all) is = absurd (cc)
stands_raising has_else x (Err y) is = cc

-- ---- an accept

-- what an accept comes to, of the index
abbrev member_by : ℕ → Result ℤ Raised → Result Member Raised
member_by e index = and_then index (λ i. Ok record { entry = e; index = i })

abbrev accept_by : ℕ → PHead → PStmts → PStmts → Result ℤ Raised → Result Open Raised
accept_by e head stmts behind index = and_then index (λ i. Ok (Accepts e i head stmts behind))

waits_for : (e : ℕ) (head : PHead) (stmts : PStmts) (index : Result ℤ Raised) (m : Member) → Ok m ≡ member_by e index
    → At (Waits (choice.Accept m.entry m.index ∷ [])) ≡ wait_stand false (and_then (accept_by e head stmts no_stmt index) (λ o. Ok (o ∷ [])))
waits_for e head stmts (Ok i) m is = let same : m ≡ record { entry = e; index = i } = cc in ap (λ (n : Member). At (Waits (choice.Accept n.entry n.index ∷ []))) same
waits_for e head stmts (Err x) m is = absurd (cc)

raises_for : (e : ℕ) (head : PHead) (stmts : PStmts) (index : Result ℤ Raised) (x : Raised) → Err x ≡ member_by e index
    → Raises x ≡ wait_stand false (and_then (accept_by e head stmts no_stmt index) (λ o. Ok (o ∷ [])))
raises_for e head stmts (Ok i) x is = absurd (cc)
raises_for e head stmts (Err y) x is = cc

is_for_by : (e : ℕ) (head : PHead) (stmts behind : PStmts) (index : Result ℤ Raised) (m : Member) (f : ℕ) (j : ℤ) → Ok m ≡ member_by e index
    → ((f == m.entry) && int_eq j m.index) ≡ accepts_in f j (accept_by e head stmts behind index)
is_for_by e head stmts behind (Ok i) m f j is = let same : m ≡ record { entry = e; index = i } = cc in ap (λ (n : Member). (f == n.entry) && int_eq j n.index) same
is_for_by e head stmts behind (Err x) m f j is = absurd (cc)

not_for_by : (e : ℕ) (head : PHead) (stmts behind : PStmts) (index : Result ℤ Raised) (x : Raised) (f : ℕ) (j : ℤ) → Err x ≡ member_by e index
    → false ≡ accepts_in f j (accept_by e head stmts behind index)
not_for_by e head stmts behind (Ok i) x f j is = absurd (cc)
not_for_by e head stmts behind (Err y) x f j is = refl

lasts_by : (e : ℕ) (head : PHead) (stmts behind : PStmts) (index : Result ℤ Raised) (m : Member) → Ok m ≡ member_by e index → Ok None ≡ and_then (accept_by e head stmts behind index) (λ o. Ok (duration_of o))
lasts_by e head stmts behind (Ok i) m is = refl
lasts_by e head stmts behind (Err x) m is = absurd (cc)

stops_by : (e : ℕ) (head : PHead) (stmts behind : PStmts) (index : Result ℤ Raised) (x : Raised) → Err x ≡ member_by e index → Err x ≡ and_then (accept_by e head stmts behind index) (λ o. Ok (duration_of o))
stops_by e head stmts behind (Ok i) x is = absurd (cc)
stops_by e head stmts behind (Err y) x is = cc

chosen_by : (e : ℕ) (head : PHead) (stmts behind : PStmts) (index : Result ℤ Raised) (m : Member) (o : Open) → Ok m ≡ member_by e index → accept_by e head stmts behind index ≡ Ok o
    → Some (choice.Accept m.entry m.index) ≡ chosen sort.Accepts o
chosen_by e head stmts behind (Ok i) m o is opened =
    let same : m ≡ record { entry = e; index = i } = cc in
    let here : Accepts e i head stmts behind ≡ o = cc in
    ap (λ (n : Member). Some (choice.Accept n.entry n.index)) same ∙ ap (chosen sort.Accepts) here
chosen_by e head stmts behind (Err x) m o is opened = absurd (cc)

pub accept_waits : (t : Task) (a : PAccept) (m : Member) (before choices : List Choice) → Ok m ≡ member_accepted t a → before ≡ [] → choices ≡ before ++ choice.Accept m.entry m.index ∷ []
    → At (Waits choices) ≡ wait_stand false (and_then (accept_opened t a no_stmt) (λ o. Ok (o ∷ [])))
accept_waits t (accepting head stmts) m before choices is none put =
    ap (λ l. At (Waits l)) (put ∙ ap (λ l. l ++ choice.Accept m.entry m.index ∷ []) none)
    ∙ waits_for (entry_of t.setting.numbers t.number head.entry.name) head (stmts_or_none stmts)
    (member_index t.setting (vars_of t) (entry_of t.setting.numbers t.number head.entry.name) head.index) m is

pub accept_raises : (t : Task) (a : PAccept) (x : Raised) → Err x ≡ member_accepted t a → Raises x ≡ wait_stand false (and_then (accept_opened t a no_stmt) (λ o. Ok (o ∷ [])))
accept_raises t (accepting head stmts) x is =
    raises_for (entry_of t.setting.numbers t.number head.entry.name) head (stmts_or_none stmts)
    (member_index t.setting (vars_of t) (entry_of t.setting.numbers t.number head.entry.name) head.index) x is

pub accept_is_for : (t : Task) (a : PAccept) (behind : PStmts) (m : Member) (f : ℕ) (j : ℤ) → Ok m ≡ member_accepted t a → ((f == m.entry) && int_eq j m.index) ≡ accepts_in f j (accept_opened t a behind)
accept_is_for t (accepting head stmts) behind m f j is =
    is_for_by (entry_of t.setting.numbers t.number head.entry.name) head (stmts_or_none stmts) behind
    (member_index t.setting (vars_of t) (entry_of t.setting.numbers t.number head.entry.name) head.index) m f j is

pub accept_not_for : (t : Task) (a : PAccept) (behind : PStmts) (x : Raised) (f : ℕ) (j : ℤ) → Err x ≡ member_accepted t a → false ≡ accepts_in f j (accept_opened t a behind)
accept_not_for t (accepting head stmts) behind x f j is =
    not_for_by (entry_of t.setting.numbers t.number head.entry.name) head (stmts_or_none stmts) behind
    (member_index t.setting (vars_of t) (entry_of t.setting.numbers t.number head.entry.name) head.index) x f j is

-- the duration of an accept, which is none
pub accept_lasts : (t : Task) (a : PAccept) (behind : PStmts) (m : Member) → Ok m ≡ member_accepted t a → Ok None ≡ and_then (accept_opened t a behind) (λ o. Ok (duration_of o))
accept_lasts t (accepting head stmts) behind m is = lasts_by (entry_of t.setting.numbers t.number head.entry.name) head (stmts_or_none stmts) behind (member_index t.setting (vars_of t) (entry_of t.setting.numbers t.number head.entry.name) head.index) m is

pub accept_stops : (t : Task) (a : PAccept) (behind : PStmts) (x : Raised) → Err x ≡ member_accepted t a → Err x ≡ and_then (accept_opened t a behind) (λ o. Ok (duration_of o))
accept_stops t (accepting head stmts) behind x is = stops_by (entry_of t.setting.numbers t.number head.entry.name) head (stmts_or_none stmts) behind (member_index t.setting (vars_of t) (entry_of t.setting.numbers t.number head.entry.name) head.index) x is

-- its choice
pub accept_chosen : (t : Task) (a : PAccept) (behind : PStmts) (m : Member) (o : Open) → Ok m ≡ member_accepted t a → accept_opened t a behind ≡ Ok o → Some (choice.Accept m.entry m.index) ≡ chosen sort.Accepts o
accept_chosen t (accepting head stmts) behind m o is opened = chosen_by (entry_of t.setting.numbers t.number head.entry.name) head (stmts_or_none stmts) behind (member_index t.setting (vars_of t) (entry_of t.setting.numbers t.number head.entry.name) head.index) m o is opened
