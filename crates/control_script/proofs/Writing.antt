-- Scripts as they are written, event by event and task by task.
use Rattle.std.proofs.Common.{◌≡◌, ℕ, zero, suc, ◌+◌, ◌-◌, ◌<◌, ◌≤◌, Bool, true, false, not, ◌&&◌, if◌then◌else◌, List, [], ◌∷◌, ◌++◌, map, length, pred, drop, get_or, refl, sym, ap, ◌∙◌, append_assoc, length-set, arith}
use Rattle.std.specs.List.{filter, range_with_len}
use Rattle.std.proofs.lemmas.List.{length-map, drop_more, drop_all}
use Rattle.std.proofs.lemmas.List.Elements.{filter-append}
use Rattle.event_machine.specs.declared.Event.{Event}
use Rattle.event_machine.specs.declared.Event.TheVariants.{R, E, S, D, C, T, F, X, B, Z}
use Rattle.event_machine.specs.Worlds.{is_last}
use Rattle.event_machine.specs.progress.Known.{Known, party, put, part, let_go, fall, with_callers, with_server, is_closed, idle_parties, known_at_start, admits, suits, advanced}
use Rattle.control_script.specs.declared.Op.{Op}
use Rattle.control_script.specs.declared.Op.TheVariants.{Hold}
use Rattle.control_script.specs.Script.{open_tasks, to_close, operations, held, script_from, script}

-- ---- what is known

-- as many tasks as before
pub as_many : (owner : ℕ → ℕ) (k : Known) (e : Event) → length (advanced owner k e).parties ≡ length k.parties
as_many owner k (R c e i) = length-set (put k (owner e) (with_callers (c ∷ (party k (owner e)).callers) (party k (owner e)))).parties c (with_server _ (party k c))
    ∙ length-set k.parties (owner e) (with_callers (c ∷ (party k (owner e)).callers) (party k (owner e)))
as_many owner k (E a) = go (party k a).callers
  where
    go : (callers : List ℕ) → length (part k a callers).parties ≡ length k.parties
    go [] = refl
    go (c ∷ callers) = length-set (put k a (with_callers callers (party k a))).parties c (with_server _ (party k c)) ∙ length-set k.parties a (with_callers callers (party k a))
as_many owner k (S a) = refl
as_many owner k (D a n) = refl
as_many owner k (C c e i) = refl
as_many owner k (T c e i) = refl
as_many owner k (F c e i) = refl
as_many owner k (X a) = length-set k.parties a (record { closed = true; server = (party k a).server; callers = (party k a).callers })
as_many owner k (B t x) = go (is_closed k x)
  where
    go : (b : Bool) → length (if b then k else fall k x).parties ≡ length k.parties
    go true = refl
    go false = length-set (map (let_go x) k.parties) x (record { closed = true; server = (party k x).server; callers = [] }) ∙ length-map k.parties (let_go x)
as_many owner k Z = refl

pub as_many_at_start : (n : ℕ) → length (known_at_start n).parties ≡ n
as_many_at_start n = go n
  where
    go : (m : ℕ) → length (idle_parties m) ≡ m
    go zero = refl
    go (suc m) = ap suc (go m)

-- the program has ended behind its last event
pub ends_last : (owner : ℕ → ℕ) (k : Known) (e : Event) → k.ended ≡ false → (advanced owner k e).ended ≡ is_last e
ends_last owner k (R c e i) h = h
ends_last owner k (E a) h = go (party k a).callers
  where
    go : (callers : List ℕ) → (part k a callers).ended ≡ false
    go [] = h
    go (c ∷ callers) = h
ends_last owner k (S a) h = h
ends_last owner k (D a n) h = h
ends_last owner k (C c e i) h = h
ends_last owner k (T c e i) h = h
ends_last owner k (F c e i) h = h
ends_last owner k (X a) h = h
ends_last owner k (B t x) h = go (is_closed k x)
  where
    go : (b : Bool) → (if b then k else fall k x).ended ≡ false
    go true = h
    go false = h
ends_last owner k Z h = refl

-- before an event that can come next the program has not ended
pub not_ended : (owner : ℕ → ℕ) (k : Known) (e : Event) → admits owner k e ≡ true → k.ended ≡ false
not_ended owner k e h = go k.ended h
  where
    go : (b : Bool) → (not b && suits owner k e) ≡ true → b ≡ false
    go true q = cc
    go false q = refl

-- ---- events

-- the script goes on behind an event that can come next
pub goes_on : (owner : ℕ → ℕ) (k : Known) (e : Event) (rest : List Event) → admits owner k e ≡ true →
    script_from owner k (e ∷ rest) ≡ operations owner k e ++ script_from owner (advanced owner k e) rest
goes_on owner k e rest h = ap (λ b. if b then operations owner k e ++ script_from owner (advanced owner k e) rest else held k) h

-- it ends where an event cannot
pub ends_there : (owner : ℕ → ℕ) (k : Known) (e : Event) (rest : List Event) → admits owner k e ≡ false → script_from owner k (e ∷ rest) ≡ held k
ends_there owner k e rest h = ap (λ b. if b then operations owner k e ++ script_from owner (advanced owner k e) rest else held k) h

-- ---- tasks

range_more : (a n : ℕ) → range_with_len a (suc n) ≡ range_with_len a n ++ (a + n) ∷ []
range_more a zero = ap (λ x. x ∷ []) (omega arith)
range_more a (suc n) = ap (λ xs. a ∷ xs) (range_more (a + 1) n ∙ ap (λ x. range_with_len (a + 1) n ++ x ∷ []) (omega arith))

-- the permits to end with the program, of the first n tasks from 1 up
abbrev pub closings : Known → ℕ → List Op
closings k n = map to_close (filter (λ t. not (is_closed k t)) (range_with_len 1 n))

map_append : (xs ys : List ℕ) → map to_close (xs ++ ys) ≡ map to_close xs ++ map to_close ys
map_append [] ys = refl
map_append (x ∷ xs) ys = ap (λ zs. to_close x ∷ zs) (map_append xs ys)

closings_suc : (k : Known) (n : ℕ) → closings k (suc n) ≡ closings k n ++ (if is_closed k (1 + n) then [] else to_close (1 + n) ∷ [])
closings_suc k n =
    ap (λ xs. map to_close (filter (λ t. not (is_closed k t)) xs)) (range_more 1 n)
    ∙ ap (map to_close) (filter-append (λ t. not (is_closed k t)) (range_with_len 1 n) ((1 + n) ∷ []))
    ∙ map_append (filter (λ t. not (is_closed k t)) (range_with_len 1 n)) (filter (λ t. not (is_closed k t)) ((1 + n) ∷ []))
    ∙ ap (λ xs. closings k n ++ xs) (go (is_closed k (1 + n)) refl)
  where
    go : (b : Bool) → is_closed k (1 + n) ≡ b → map to_close (filter (λ t. not (is_closed k t)) ((1 + n) ∷ [])) ≡ (if b then [] else to_close (1 + n) ∷ [])
    go true h = rw h refl
    go false h = rw h refl

-- one task more
pub closings_more : (k : Known) (old now new : List Op) (t : ℕ) → 1 ≤ t → now ≡ old ++ closings k (t - 1) →
    new ≡ now ++ (if is_closed k t then [] else to_close t ∷ []) → new ≡ old ++ closings k (t + 1 - 1)
closings_more k old now new zero l h h' = absurd (omega arith)
closings_more k old now new (suc n) l h h' =
    let less : suc n - 1 ≡ n = omega arith in
    let more : suc n ≡ 1 + n = omega arith in
    let next : suc n ≡ suc n + 1 - 1 = omega arith in
    h' ∙ ap (λ xs. xs ++ (if is_closed k (suc n) then [] else to_close (suc n) ∷ [])) (h ∙ ap (λ m. old ++ closings k m) less)
    ∙ append_assoc old (closings k n) (if is_closed k (suc n) then [] else to_close (suc n) ∷ [])
    ∙ ap (λ m. old ++ (closings k n ++ (if is_closed k m then [] else to_close m ∷ []))) more
    ∙ ap (λ xs. old ++ xs) (sym (closings_suc k n))
    ∙ ap (λ m. old ++ closings k m) next

pred_is : (n : ℕ) → pred n ≡ n - 1
pred_is zero = refl
pred_is (suc n) = omega arith

-- all tasks, and then the main program
pub closings_end : (k : Known) (old now new : List Op) (t : ℕ) → 1 ≤ t → t ≤ 1 + (length k.parties - 1) → length k.parties ≤ t →
    now ≡ old ++ closings k (t - 1) → new ≡ now ++ to_close 0 ∷ [] → new ≡ old ++ (map to_close (open_tasks k) ++ to_close 0 ∷ [])
closings_end k old now new t l m e h h' =
    let all : t - 1 ≡ length k.parties - 1 = omega arith in
    h' ∙ ap (λ xs. xs ++ to_close 0 ∷ []) (h ∙ ap (λ n. old ++ closings k n) (all ∙ sym (pred_is (length k.parties))))
    ∙ append_assoc old (map to_close (open_tasks k)) (to_close 0 ∷ [])

-- ---- the events one by one

-- one event more is written
pub script_more : (owner : ℕ → ℕ) (n : ℕ) (events : List Event) (i : ℕ) (d : Event) (k k' : Known) (ops ops' : List Op) → i < length events →
    script owner n events ≡ ops ++ script_from owner k (drop i events) → admits owner k (get_or events i d) ≡ true →
    ops' ≡ ops ++ operations owner k (get_or events i d) → k' ≡ advanced owner k (get_or events i d) →
    script owner n events ≡ ops' ++ script_from owner k' (drop (i + 1) events)
script_more owner n events i d k k' ops ops' l h a o s =
    let e : Event = get_or events i d in
    let rest : List Event = drop (i + 1) events in
    h ∙ ap (λ es. ops ++ script_from owner k es) (drop_more events i d l)
    ∙ ap (λ xs. ops ++ xs) (goes_on owner k e rest a)
    ∙ sym (append_assoc ops (operations owner k e) (script_from owner (advanced owner k e) rest))
    ∙ ap (λ xs. xs ++ script_from owner (advanced owner k e) rest) (sym o)
    ∙ ap (λ x. ops' ++ script_from owner x rest) (sym s)

-- the next event cannot come next
pub script_stops : (owner : ℕ → ℕ) (n : ℕ) (events : List Event) (i : ℕ) (d : Event) (k : Known) (ops all : List Op) (ended : Bool) → i < length events →
    script owner n events ≡ ops ++ script_from owner k (drop i events) → admits owner k (get_or events i d) ≡ false → ended ≡ k.ended →
    all ≡ ops ++ (if ended then [] else Hold ∷ []) → all ≡ script owner n events
script_stops owner n events i d k ops all ended l h a q r =
    r ∙ ap (λ b. ops ++ (if b then [] else Hold ∷ [])) q
    ∙ ap (λ xs. ops ++ xs) (sym (ends_there owner k (get_or events i d) (drop (i + 1) events) a))
    ∙ ap (λ es. ops ++ script_from owner k es) (sym (drop_more events i d l))
    ∙ sym h

-- no event is left
pub script_over : (owner : ℕ → ℕ) (n : ℕ) (events : List Event) (i : ℕ) (k : Known) (ops all : List Op) (ended : Bool) → length events ≤ i →
    script owner n events ≡ ops ++ script_from owner k (drop i events) → ended ≡ k.ended →
    all ≡ ops ++ (if ended then [] else Hold ∷ []) → all ≡ script owner n events
script_over owner n events i k ops all ended l h q r =
    r ∙ ap (λ b. ops ++ (if b then [] else Hold ∷ [])) q ∙ ap (λ es. ops ++ script_from owner k es) (sym (drop_all i events l)) ∙ sym h
