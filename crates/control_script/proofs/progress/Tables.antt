-- Reading and writing the tables.
use Rattle.std.proofs.Common.{◌≡◌, ℕ, zero, suc, ◌+◌, ◌<◌, Bool, true, false, not, ◌&&◌, ◌==◌, if◌then◌else◌, List, [], ◌∷◌, length, get_or, set, map, Option, Some, None, is_some, refl, sym, ap, ap₂, ◌∙◌, subst, ⊎_elim, true≢false, arith}
use Rattle.std.specs.Prelude.{count_by}
use Rattle.std.proofs.Math.ListN.{get_or-map}
use Rattle.std.proofs.lemmas.Bool.{cases_lt, eqb-true, eqb-false, and_parts}
use Rattle.std.proofs.lemmas.List.{get_or-set_same, get_or-set_other, get_or_past, length-map, length-set, ext_get_or}
use Rattle.std.proofs.lemmas.List.Sums.{sum_by-set, sum_by-cons}
use Rattle.event_machine.specs.Soundness.{times}
use Rattle.event_machine.specs.progress.Known.{Party, nobody, party, is_by, is_free}
use Rattle.control_script.specs.declared.progress.task_records.Member.{Member}
use Rattle.control_script.specs.progress.TaskRecords.{no_member, member_at, chain, open_server, seen, known_of}
use Rattle.common_lemmas.proofs.Truth.{not_true}

pub at_known : (ms : List Member) (ended : Bool) (t : ℕ) → party (known_of ms ended) t ≡ seen ms (member_at ms t)
at_known ms ended t = get_or-map (seen ms) ms t no_member

-- who is read otherwise than nobody is a task
pub member_below : (test : Member → Bool) (ms : List Member) (t : ℕ) → test no_member ≡ false → test (member_at ms t) ≡ true → t < length ms
member_below test ms t n h = ⊎_elim (λ l. l) (λ l. absurd (true≢false (sym h ∙ ap test (get_or_past ms t no_member l) ∙ n))) (cases_lt t (length ms))

pub at_self : (ms : List Member) (t : ℕ) (m : Member) → t < length ms → member_at (set ms t m) t ≡ m
at_self ms t m l = get_or-set_same ms t m no_member l

pub at_other : (ms : List Member) (t u : ℕ) (m : Member) → (u == t) ≡ false → member_at (set ms t m) u ≡ member_at ms u
at_other ms t u m h = get_or-set_other ms t u m no_member (eqb-false u t h)

-- what a write leaves of the written task it leaves of all
pub set_keeps : {A : Type 0} (f : Member → A) (ms : List Member) (t : ℕ) (m : Member) → t < length ms → f m ≡ f (member_at ms t) → (u : ℕ) → f (member_at (set ms t m) u) ≡ f (member_at ms u)
set_keeps f ms t m l h u = go (u == t) refl
  where
    go : (b : Bool) → (u == t) ≡ b → f (member_at (set ms t m) u) ≡ f (member_at ms u)
    go true q = ap (λ v. f (member_at (set ms t m) v)) (eqb-true u t q) ∙ ap f (at_self ms t m l) ∙ h ∙ ap (λ v. f (member_at ms v)) (sym (eqb-true u t q))
    go false q = ap f (at_other ms t u m q)

-- ---- two tasks that are written one after the other

pub both_length : (ms : List Member) (a c : ℕ) (x y : Member) → length (set (set ms a x) c y) ≡ length ms
both_length ms a c x y = length-set (set ms a x) c y ∙ length-set ms a x

pub second_below : (ms : List Member) (a c : ℕ) (x : Member) → c < length ms → c < length (set ms a x)
second_below ms a c x l = subst (λ n. c < n) (sym (length-set ms a x)) l

-- what both writes leave of the written tasks they leave of all
pub both_keep : {A : Type 0} (f : Member → A) (ms : List Member) (a c : ℕ) (x y : Member) → a < length ms → c < length ms → f x ≡ f (member_at ms a) → f y ≡ f (member_at (set ms a x) c) →
    (u : ℕ) → f (member_at (set (set ms a x) c y) u) ≡ f (member_at ms u)
both_keep f ms a c x y l k h g u = set_keeps f (set ms a x) c y (second_below ms a c x k) g u ∙ set_keeps f ms a x l h u

-- what the first write leaves is left of all but the second task
pub first_keeps : {A : Type 0} (f : Member → A) (ms : List Member) (a c : ℕ) (x y : Member) → a < length ms → f x ≡ f (member_at ms a) → (u : ℕ) → (u == c) ≡ false →
    f (member_at (set (set ms a x) c y) u) ≡ f (member_at ms u)
first_keeps f ms a c x y l h u q = ap f (at_other (set ms a x) c u y q) ∙ set_keeps f ms a x l h u

-- ---- counts

pub count_set : (test : Member → Bool) (ms : List Member) (t : ℕ) (m : Member) → t < length ms →
    count_by test (set ms t m) + (if test (member_at ms t) then 1 else 0) ≡ count_by test ms + (if test m then 1 else 0)
count_set test ms t m l = sum_by-set (λ x. if test x then 1 else 0) ms t m no_member l

pub count_keeps : (test : Member → Bool) (ms : List Member) (t : ℕ) (m : Member) → t < length ms → test m ≡ test (member_at ms t) → count_by test (set ms t m) ≡ count_by test ms
count_keeps test ms t m l h = go (test m) (test (member_at ms t)) h (count_set test ms t m l)
  where
    go : (a b : Bool) → a ≡ b → count_by test (set ms t m) + (if b then 1 else 0) ≡ count_by test ms + (if a then 1 else 0) → count_by test (set ms t m) ≡ count_by test ms
    go true true q k = omega (arith, k)
    go true false q k = absurd (true≢false q)
    go false true q k = absurd (true≢false (sym q))
    go false false q k = omega (arith, k)

pub count_same : (f g : Member → Bool) (ms : List Member) → ((m : Member) → f m ≡ g m) → count_by f ms ≡ count_by g ms
count_same f g ms h = ap (λ (t : Member → Bool). count_by t ms) (λ i m. h m i)

-- those that pass f are those that pass g and those that pass h
pub count_split : (f g h : Member → Bool) (ms : List Member) → ((m : Member) → (if f m then 1 else 0) ≡ (if g m then 1 else 0) + (if h m then 1 else 0)) →
    count_by f ms ≡ count_by g ms + count_by h ms
count_split f g h [] e = omega arith
count_split f g h (m ∷ ms) e = sum_by-cons (λ x. if f x then 1 else 0) m ms ∙
    sums (if f m then 1 else 0) (if g m then 1 else 0) (if h m then 1 else 0) (count_by f ms) (count_by g ms) (count_by h ms) (e m) (count_split f g h ms e) ∙
    sym (ap₂ (λ x y. x + y) (sum_by-cons (λ x. if g x then 1 else 0) m ms) (sum_by-cons (λ x. if h x then 1 else 0) m ms))
  where
    sums : (a b c x y z : ℕ) → a ≡ b + c → x ≡ y + z → a + x ≡ (b + y) + (c + z)
    sums a b c x y z p q = omega (arith, p, q)

-- ---- servers

pub is_by-self : (a : ℕ) (r : Option ℕ) → is_by a r ≡ true → r ≡ Some a
is_by-self a None h = absurd (true≢false (sym h))
is_by-self a (Some b) h = ap (λ c. Some c) (eqb-true b a h)

pub none_is : (r : Option ℕ) → is_some r ≡ false → r ≡ None
none_is None h = refl
none_is (Some a) h = absurd (true≢false h)

pub open_same : (ms ns : List Member) → ((u : ℕ) → (member_at ns u).closed ≡ (member_at ms u).closed) → (r : Option ℕ) → open_server ns r ≡ open_server ms r
open_same ms ns h None = refl
open_same ms ns h (Some a) = ap (λ (b : Bool). if◌then◌else◌ {A = Option ℕ} b None (Some a)) (h a)

pub open_some : (ms : List Member) (a : ℕ) → (member_at ms a).closed ≡ false → open_server ms (Some a) ≡ Some a
open_some ms a h = ap (λ (b : Bool). if◌then◌else◌ {A = Option ℕ} b None (Some a)) h

-- who has no open server is not served by an open task
pub open_none : (ms : List Member) (r : Option ℕ) (b : ℕ) → open_server ms r ≡ None → (member_at ms b).closed ≡ false → is_by b r ≡ false
open_none ms None b h k = refl
open_none ms (Some x) b h k = go (x == b) refl
  where
    some_none : (y : Option ℕ) → y ≡ Some x → y ≡ None → ⊥
    some_none y p q = cc

    go : (c : Bool) → (x == b) ≡ c → (x == b) ≡ false
    go true q = absurd (some_none (open_server ms (Some x)) (open_some ms x (ap (λ v. (member_at ms v).closed) (eqb-true x b q) ∙ k)) h)
    go false q = q

-- a free task is open, and has no open server
pub free_parts : (ms : List Member) (t : ℕ) → is_free (known_of ms false) t ≡ true → ((member_at ms t).closed ≡ false) × (open_server ms (member_at ms t).server ≡ None)
free_parts ms t h = (not_true (member_at ms t).closed parts.0, none_is (open_server ms (member_at ms t).server) (not_true (is_some (open_server ms (member_at ms t).server)) parts.1))
  where
    parts : (not (member_at ms t).closed ≡ true) × (not (is_some (open_server ms (member_at ms t).server)) ≡ true)
    parts = and_parts (not (member_at ms t).closed) (not (is_some (open_server ms (member_at ms t).server)))
        (ap (λ (y : Party). not y.closed && not (is_some y.server)) (sym (at_known ms false t)) ∙ h)

pub open_below : (ms : List Member) (t : ℕ) → (member_at ms t).closed ≡ false → t < length ms
open_below ms t h = member_below (λ m. not m.closed) ms t refl (ap not h)

-- ---- chains

pub chain_same : (ms ns : List Member) → ((u : ℕ) → (member_at ns u).outer ≡ (member_at ms u).outer) → (n c : ℕ) → chain ns n c ≡ chain ms n c
chain_same ms ns h zero c = refl
chain_same ms ns h (suc n) c = ap (λ x. c ∷ chain ns n x) (h c) ∙ ap (λ xs. c ∷ xs) (chain_same ms ns h n (member_at ms c).outer)

pub chain_apart : (ms ns : List Member) (d : ℕ) → ((u : ℕ) → (u == d) ≡ false → (member_at ns u).outer ≡ (member_at ms u).outer) → (n c : ℕ) → times d (chain ms n c) ≡ 0 →
    chain ns n c ≡ chain ms n c
chain_apart ms ns d h zero c k = refl
chain_apart ms ns d h (suc n) c k = go (c == d) refl k (chain_apart ms ns d h n (member_at ms c).outer)
  where
    rest : (m : ℕ) → 0 + m ≡ 0 → m ≡ 0
    rest m e = omega (arith, e)

    go : (b : Bool) → (c == d) ≡ b → (if b then 1 else 0) + times d (chain ms n (member_at ms c).outer) ≡ 0 →
        (times d (chain ms n (member_at ms c).outer) ≡ 0 → chain ns n (member_at ms c).outer ≡ chain ms n (member_at ms c).outer) → chain ns (suc n) c ≡ chain ms (suc n) c
    go true q r more = absurd (omega (arith, r))
    go false q r more = ap (λ x. c ∷ chain ns n x) (h c q) ∙ ap (λ xs. c ∷ xs) (more (rest (times d (chain ms n (member_at ms c).outer)) r))

-- ---- what is known, task by task

pub known_by : (ms : List Member) (parties : List Party) → length parties ≡ length ms → ((t : ℕ) → seen ms (member_at ms t) ≡ get_or parties t nobody) → map (seen ms) ms ≡ parties
known_by ms parties l h = ext_get_or nobody (map (seen ms) ms) parties (length-map ms (seen ms) ∙ sym l) (λ t m. at_known ms false t ∙ h t)
