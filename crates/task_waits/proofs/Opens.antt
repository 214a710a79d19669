-- The open alternatives of a wait, one alternative after another.
use Rattle.std.specs.Prelude.{◌≡◌, ◌<◌, ◌≤◌, ◌+◌, ℕ, ℤ, zero, suc, ◌==◌, Bool, true, false, cond, if◌then◌else◌, List, [], ◌∷◌, ◌++◌, length, drop, map, find, Option, Some, None, option_map, Result, Ok, Err, IsOk, refl}
use Rattle.std.specs.List.{filter_map, cons_option}
use Rattle.std.proofs.Common.{◌∙◌, sym, ap, subst, get_or, add-one, arith}
use Rattle.std.proofs.lemmas.List.{drop_all, append-nil, length-append}
use Rattle.std.proofs.Math.Seq.{append_snoc}
use Rattle.ada_tree.specs.declared.statements.Alt.{Alt}
use Rattle.ada_tree.specs.PlainExpr.{plain_expr}
use Rattle.ada_tree.specs.PlainStmt.{PStmts, no_stmt, plain_alt, plain_alt_kind, alts_of}
use Rattle.event_machine.specs.declared.Choice.{Choice}
use Rattle.ada_value.specs.declared.values.Raised.{Raised}
use Rattle.ada_value.specs.Values.{and_then}
use Rattle.task_model.specs.Tasks.{Task}
use Rattle.task_model.specs.Waits.{Open, guard_holds, kind_opened, opened_if, delays_with, alternatives_open}
use Rattle.task_waits.specs.declared.choosing.Sort.{Sort}
use Rattle.task_waits.specs.Standing.{Parts, parts_in, parts_opened}
use Rattle.task_waits.specs.inner.Choosing.{if_open, alternative_open, duration_of, duration_if, lesser, least_among, chosen, chosen_if, with_choice, opens_or_none, delay_at, taken_if}
use Rattle.task_model.specs.Waits.{accepts_member, delay_part, delay_here, delay_stmts}
use Rattle.common_lemmas.proofs.Lists.{rest_at}

-- an alternative in front of the open ones behind it
abbrev pub in_front : Option Open → Result (List Open) Raised → Result (List Open) Raised
in_front None later = later
in_front (Some o) later = and_then later (λ os. Ok (o ∷ os))

-- an alternative that may raise in front of them
abbrev pub with_front : Result (Option Open) Raised → Result (List Open) Raised → Result (List Open) Raised
with_front here later = and_then here (λ o. in_front o later)

opened_first : (g : Result Bool Raised) (here : Result Open Raised) (later : Result (List Open) Raised) →
    and_then g (λ b. opened_if b here later) ≡ with_front (and_then g (λ b. if_open b here)) later
opened_first (Err x) here later = refl
opened_first (Ok false) here later = refl
opened_first (Ok true) (Ok o) later = refl
opened_first (Ok true) (Err x) later = refl

-- the number of delay alternatives up to and with an alternative
abbrev pub counted_with : Alt → ℕ → ℕ
counted_with a k = delays_with (plain_alt_kind a.kind) k

-- the number of delay alternatives among the first ones
abbrev pub delays_before : List Alt → ℕ → ℕ → ℕ
delays_before [] i k = k
delays_before (a ∷ alts) zero k = k
delays_before (a ∷ alts) (suc i) k = delays_before alts i (counted_with a k)

delays_next : (alts : List Alt) (i k : ℕ) (a : Alt) → i < length alts → a ≡ get_or alts i a → delays_before alts (suc i) k ≡ counted_with a (delays_before alts i k)
delays_next [] i k a h is = absurd (omega arith)
delays_next (b ∷ []) zero k a h is = ap (λ x. counted_with x k) (sym is)
delays_next (b ∷ c ∷ alts) zero k a h is = ap (λ x. counted_with x k) (sym is)
delays_next (b ∷ alts) (suc i) k a h is = delays_next alts i (counted_with b k) a (omega arith) is

pub delays_more : (alts : List Alt) (i k : ℕ) (a : Alt) → i < length alts → a ≡ get_or alts i a → delays_before alts (i + 1) k ≡ counted_with a (delays_before alts i k)
delays_more alts i k a h is = ap (λ n. delays_before alts n k) (add-one i) ∙ delays_next alts i k a h is

pub delays_none : (alts : List Alt) (k : ℕ) → delays_before alts 0 k ≡ k
delays_none [] k = refl
delays_none (a ∷ alts) k = refl

-- the open alternatives from a place on
abbrev pub opens_from : Task → List Alt → ℕ → Result (List Open) Raised
opens_from t alts i = alternatives_open t (alts_of (map plain_alt (drop i alts))) (delays_before alts i 0)

pub opens_all : (t : Task) (alts : List Alt) → alternatives_open t (alts_of (map plain_alt alts)) 0 ≡ opens_from t alts 0
opens_all t alts = ap (alternatives_open t (alts_of (map plain_alt alts))) (sym (delays_none alts 0))

pub opens_next : (t : Task) (alts : List Alt) (i : ℕ) (a : Alt) → i < length alts → a ≡ get_or alts i a →
    opens_from t alts i ≡ with_front (alternative_open t (plain_alt a) (delays_before alts i 0)) (opens_from t alts (i + 1))
opens_next t alts i a h is =
    let k = delays_before alts i 0 in
    let rest = alts_of (map plain_alt (drop (i + 1) alts)) in
    ap (λ l. alternatives_open t (alts_of (map plain_alt l)) k) (rest_at alts i a a h is)
    ∙ opened_first (guard_holds t (option_map plain_expr a.guard)) (kind_opened t (plain_alt_kind a.kind) k) (alternatives_open t rest (counted_with a k))
    ∙ ap (λ n. with_front (alternative_open t (plain_alt a) k) (alternatives_open t rest n)) (sym (delays_more alts i 0 a h is))

pub opens_end : (t : Task) (alts : List Alt) (i : ℕ) → length alts ≤ i → opens_from t alts i ≡ Ok []
opens_end t alts i h = ap (λ l. alternatives_open t (alts_of (map plain_alt l)) (delays_before alts i 0)) (drop_all i alts h)

-- ---- the least duration

-- the least duration of open alternatives, with one before them
abbrev pub least_of : Option ℕ → Result (List Open) Raised → Result (Option ℕ) Raised
least_of least r = and_then r (λ all. Ok (least_among least all))

pub lesser_none : (least : Option ℕ) → lesser least None ≡ least
lesser_none None = refl
lesser_none (Some m) = refl

least_on : (least d : Option ℕ) (here : Result (Option Open) Raised) (later : Result (List Open) Raised) → Ok d ≡ and_then here (λ o. Ok (duration_if o))
    → least_of least (with_front here later) ≡ least_of (lesser least d) later
least_on least d (Err x) later is = absurd (cc)
least_on least d (Ok None) later is = let e : d ≡ None = cc in ap (λ m. least_of m later) (sym (lesser_none least)) ∙ ap (λ x. least_of (lesser least x) later) (sym e)
least_on least d (Ok (Some o)) (Ok os) is = let e : d ≡ duration_of o = cc in ap (λ x. least_of (lesser least x) (Ok os)) (sym e)
least_on least d (Ok (Some o)) (Err x) is = refl

least_raised : (least : Option ℕ) (x : Raised) (here : Result (Option Open) Raised) (later : Result (List Open) Raised) → Err x ≡ and_then here (λ o. Ok (duration_if o))
    → Err x ≡ least_of least (with_front here later)
least_raised least x (Err y) later is = cc
least_raised least x (Ok o) later is = absurd (cc)

pub least_more : (t : Task) (alts : List Alt) (i : ℕ) (a : Alt) (least d now : Option ℕ) (all : Result (Option ℕ) Raised) → i < length alts → a ≡ get_or alts i a
    → ((k : ℕ) → Ok d ≡ and_then (alternative_open t (plain_alt a) k) (λ o. Ok (duration_if o))) → now ≡ lesser least d
    → all ≡ least_of least (opens_from t alts i) → all ≡ least_of now (opens_from t alts (i + 1))
least_more t alts i a least d now all h is told lessens before =
    before ∙ ap (least_of least) (opens_next t alts i a h is)
    ∙ least_on least d (alternative_open t (plain_alt a) (delays_before alts i 0)) (opens_from t alts (i + 1)) (told (delays_before alts i 0))
    ∙ ap (λ m. least_of m (opens_from t alts (i + 1))) (sym lessens)

pub least_raises : (t : Task) (alts : List Alt) (i : ℕ) (a : Alt) (least : Option ℕ) (x : Raised) (all : Result (Option ℕ) Raised) → i < length alts → a ≡ get_or alts i a
    → ((k : ℕ) → Err x ≡ and_then (alternative_open t (plain_alt a) k) (λ o. Ok (duration_if o)))
    → all ≡ least_of least (opens_from t alts i) → Err x ≡ all
least_raises t alts i a least x all h is told before =
    least_raised least x (alternative_open t (plain_alt a) (delays_before alts i 0)) (opens_from t alts (i + 1)) (told (delays_before alts i 0))
    ∙ ap (least_of least) (sym (opens_next t alts i a h is)) ∙ sym before

pub least_end : (t : Task) (alts : List Alt) (i : ℕ) (least : Option ℕ) (all : Result (Option ℕ) Raised) → length alts ≤ i
    → all ≡ least_of least (opens_from t alts i) → Ok least ≡ all
least_end t alts i least all h before = sym (before ∙ ap (least_of least) (opens_end t alts i h))

-- ---- choices

-- choices in front of those of the open alternatives that are left are the whole
abbrev pub AreLeft : Sort → Result (List Open) Raised → List Choice → List Choice → Type 0
AreLeft s (Ok all) choices whole = choices ++ filter_map (chosen s) all ≡ whole
AreLeft s (Err x) choices whole = ⊥

cons_after : (q : Option Choice) (choices rest : List Choice) → choices ++ cons_option q rest ≡ with_choice choices q ++ rest
cons_after None choices rest = refl
cons_after (Some c) choices rest = sym (append_snoc choices c rest)

-- what an open alternative in front gives
one_chosen : (s : Sort) (o : Open) (os : List Open) (c : Option Choice) (choices : List Choice) → c ≡ chosen s o
    → choices ++ filter_map (chosen s) (o ∷ os) ≡ with_choice choices c ++ filter_map (chosen s) os
one_chosen s o os c choices is = cons_after (chosen s o) choices (filter_map (chosen s) os) ∙ ap (λ q. with_choice choices q ++ filter_map (chosen s) os) (sym is)

pub choices_on : (s : Sort) (here : Result (Option Open) Raised) (later : Result (List Open) Raised) (c : Option Choice) (choices whole : List Choice)
    → ((o : Option Open) → here ≡ Ok o → c ≡ chosen_if s o)
    → AreLeft s (with_front here later) choices whole → AreLeft s later (with_choice choices c) whole
choices_on s (Err x) later c choices whole told left = absurd left
choices_on s (Ok None) later c choices whole told left = subst (λ d. AreLeft s later (with_choice choices d) whole) (sym (told None refl)) left
choices_on s (Ok (Some o)) (Ok os) c choices whole told left = sym (one_chosen s o os c choices (told (Some o) refl)) ∙ left
choices_on s (Ok (Some o)) (Err x) c choices whole told left = absurd left

pub choices_more : (s : Sort) (t : Task) (alts : List Alt) (i : ℕ) (a : Alt) (c : Option Choice) (choices whole : List Choice) → i < length alts → a ≡ get_or alts i a
    → ((o : Option Open) → alternative_open t (plain_alt a) (delays_before alts i 0) ≡ Ok o → c ≡ chosen_if s o)
    → AreLeft s (opens_from t alts i) choices whole → AreLeft s (opens_from t alts (i + 1)) (with_choice choices c) whole
choices_more s t alts i a c choices whole h is told left =
    choices_on s (alternative_open t (plain_alt a) (delays_before alts i 0)) (opens_from t alts (i + 1)) c choices whole told
    (subst (λ r. AreLeft s r choices whole) (opens_next t alts i a h is) left)

pub choices_end : (s : Sort) (t : Task) (alts : List Alt) (i : ℕ) (choices whole : List Choice) → length alts ≤ i → AreLeft s (opens_from t alts i) choices whole → choices ≡ whole
choices_end s t alts i choices whole h left = sym (append-nil choices) ∙ subst (λ r. AreLeft s r choices whole) (opens_end t alts i h) left

pub choices_first : (s : Sort) (r q : Result (List Open) Raised) (old : List Choice) → IsOk r → r ≡ q → AreLeft s q old (old ++ filter_map (chosen s) (opens_or_none r))
choices_first s (Ok all) q old ok e = subst (λ x. AreLeft s x old (old ++ filter_map (chosen s) all)) e refl
choices_first s (Err x) q old ok e = absurd (cc)

-- the choices so far are no more than the whole, and with one more of the open alternatives left they are not either
pub left_within : (s : Sort) (r : Result (List Open) Raised) (choices whole : List Choice) → AreLeft s r choices whole → length choices ≤ length whole
left_within s (Ok all) choices whole left = omega (arith, length-append choices (filter_map (chosen s) all), ap length left)
left_within s (Err x) choices whole left = absurd left

-- ---- the alternative that is taken

-- the parts of the first open alternative left that is taken are those of the first of all
abbrev pub IsFirst : ℕ → ℤ → Result (List Open) Raised → Parts → Type 0
IsFirst e i (Ok all) parts = parts_opened (find (accepts_member e i) all) ≡ parts
IsFirst e i (Err x) parts = ⊥

taken_here : (b : Bool) (o : Open) (rest : Option Open) (p : Option Parts) → p ≡ option_map parts_in (if b then Some o else None) → p ≡ None → cond b (Some o) rest ≡ rest
taken_here true o rest p told none = absurd (cc)
taken_here false o rest p told none = refl

found_here : (b : Bool) (o : Open) (rest : Option Open) (parts : Parts) → Some parts ≡ option_map parts_in (if b then Some o else None) → parts ≡ parts_opened (cond b (Some o) rest)
found_here true o rest parts told = cc
found_here false o rest parts told = absurd (cc)

taken_on : (e : ℕ) (i : ℤ) (here : Result (Option Open) Raised) (later : Result (List Open) Raised) (p : Option Parts) (whole : Parts)
    → ((o : Option Open) → here ≡ Ok o → p ≡ option_map parts_in (taken_if e i o))
    → IsFirst e i (with_front here later) whole → p ≡ None → IsFirst e i later whole
taken_on e i (Err x) later p whole told first none = absurd first
taken_on e i (Ok None) later p whole told first none = first
taken_on e i (Ok (Some o)) (Ok os) p whole told first none =
    ap parts_opened (sym (taken_here (accepts_member e i o) o (find (accepts_member e i) os) p (told (Some o) refl) none)) ∙ first
taken_on e i (Ok (Some o)) (Err x) p whole told first none = absurd first

found_on : (e : ℕ) (i : ℤ) (here : Result (Option Open) Raised) (later : Result (List Open) Raised) (parts whole : Parts)
    → ((o : Option Open) → here ≡ Ok o → Some parts ≡ option_map parts_in (taken_if e i o))
    → IsFirst e i (with_front here later) whole → parts ≡ whole
found_on e i (Err x) later parts whole told first = absurd first
found_on e i (Ok None) later parts whole told first = let none : Some parts ≡ None = told None refl in absurd (cc)
found_on e i (Ok (Some o)) (Ok os) parts whole told first = found_here (accepts_member e i o) o (find (accepts_member e i) os) parts (told (Some o) refl) ∙ first
found_on e i (Ok (Some o)) (Err x) parts whole told first = absurd first

pub taken_more : (e : ℕ) (i : ℤ) (t : Task) (alts : List Alt) (n : ℕ) (a : Alt) (p : Option Parts) (whole : Parts) → n < length alts → a ≡ get_or alts n a
    → ((k : ℕ) (o : Option Open) → alternative_open t (plain_alt a) k ≡ Ok o → p ≡ option_map parts_in (taken_if e i o)) → p ≡ None
    → IsFirst e i (opens_from t alts n) whole → IsFirst e i (opens_from t alts (n + 1)) whole
taken_more e i t alts n a p whole h is told none first =
    let k = delays_before alts n 0 in
    taken_on e i (alternative_open t (plain_alt a) k) (opens_from t alts (n + 1)) p whole (told k) (subst (λ r. IsFirst e i r whole) (opens_next t alts n a h is) first) none

pub taken_found : (e : ℕ) (i : ℤ) (t : Task) (alts : List Alt) (n : ℕ) (a : Alt) (parts whole : Parts) → n < length alts → a ≡ get_or alts n a
    → ((k : ℕ) (o : Option Open) → alternative_open t (plain_alt a) k ≡ Ok o → Some parts ≡ option_map parts_in (taken_if e i o))
    → IsFirst e i (opens_from t alts n) whole → parts ≡ whole
taken_found e i t alts n a parts whole h is told first =
    let k = delays_before alts n 0 in
    found_on e i (alternative_open t (plain_alt a) k) (opens_from t alts (n + 1)) parts whole (told k) (subst (λ r. IsFirst e i r whole) (opens_next t alts n a h is) first)

pub taken_none : (e : ℕ) (i : ℤ) (t : Task) (alts : List Alt) (n : ℕ) (parts whole : Parts) → length alts ≤ n → parts ≡ parts_opened None
    → IsFirst e i (opens_from t alts n) whole → parts ≡ whole
taken_none e i t alts n parts whole h none first = none ∙ subst (λ r. IsFirst e i r whole) (opens_end t alts n h) first

pub taken_first : (e : ℕ) (i : ℤ) (r q : Result (List Open) Raised) → IsOk r → r ≡ q → IsFirst e i q (parts_opened (find (accepts_member e i) (opens_or_none r)))
taken_first e i (Ok all) q ok is = subst (λ x. IsFirst e i x (parts_opened (find (accepts_member e i) all))) is refl
taken_first e i (Err x) q ok is = absurd (cc)

-- ---- delays by their numbers

delay_passed : (q p : Option PStmts) (b : Bool) (later : PStmts) → p ≡ (if b then q else None) → p ≡ None → delay_here q b later ≡ later
delay_passed None p b later told none = refl
delay_passed (Some stmts) p true later told none = absurd (cc)
delay_passed (Some stmts) p false later told none = refl

delay_met : (q : Option PStmts) (stmts : PStmts) (b : Bool) (later : PStmts) → Some stmts ≡ (if b then q else None) → stmts ≡ delay_here q b later
delay_met None stmts true later told = absurd (cc)
delay_met (Some found) stmts true later told = cc
delay_met q stmts false later told = absurd (cc)

-- the statements of the k-th delay among the alternatives from a place on, with m delays before them
abbrev pub delay_from : List Alt → ℕ → ℕ → ℕ → PStmts
delay_from alts i m k = delay_stmts (alts_of (map plain_alt (drop i alts))) m k

delay_next : (alts : List Alt) (i m k : ℕ) (a : Alt) → i < length alts → a ≡ get_or alts i a
    → delay_from alts i m k ≡ delay_here (delay_part (plain_alt_kind a.kind)) (k == m + 1) (delay_from alts (i + 1) (counted_with a m) k)
delay_next alts i m k a h is = ap (λ l. delay_stmts (alts_of (map plain_alt l)) m k) (rest_at alts i a a h is)

pub delay_more : (alts : List Alt) (i m k next : ℕ) (a : Alt) (p : Option PStmts) (whole : PStmts) → i < length alts → a ≡ get_or alts i a
    → p ≡ delay_at (plain_alt_kind a.kind) m k → p ≡ None → next ≡ counted_with a m
    → delay_from alts i m k ≡ whole → delay_from alts (i + 1) next k ≡ whole
delay_more alts i m k next a p whole h is told none counts before =
    ap (λ n. delay_from alts (i + 1) n k) counts
    ∙ sym (delay_passed (delay_part (plain_alt_kind a.kind)) p (k == m + 1) (delay_from alts (i + 1) (counted_with a m) k) told none)
    ∙ sym (delay_next alts i m k a h is) ∙ before

pub delay_found : (alts : List Alt) (i m k : ℕ) (a : Alt) (stmts whole : PStmts) → i < length alts → a ≡ get_or alts i a
    → Some stmts ≡ delay_at (plain_alt_kind a.kind) m k → delay_from alts i m k ≡ whole → stmts ≡ whole
delay_found alts i m k a stmts whole h is told before =
    delay_met (delay_part (plain_alt_kind a.kind)) stmts (k == m + 1) (delay_from alts (i + 1) (counted_with a m) k) told
    ∙ sym (delay_next alts i m k a h is) ∙ before

pub delay_none : (alts : List Alt) (i m k : ℕ) (whole : PStmts) → length alts ≤ i → delay_from alts i m k ≡ whole → no_stmt ≡ whole
delay_none alts i m k whole h before = sym (ap (λ l. delay_stmts (alts_of (map plain_alt l)) m k) (drop_all i alts h)) ∙ before
