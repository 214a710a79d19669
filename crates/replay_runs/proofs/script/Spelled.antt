-- The script, spelled event by event.
use Rattle.std.proofs.Common.{◌≡◌, ℕ, ℤ, pos, Bool, true, false, not, ◌&&◌, ◌==◌, if◌then◌else◌, List, [], ◌∷◌, ◌++◌, map, refl, sym, ap, ◌∙◌}
use Rattle.event_machine.specs.declared.Event.{Event}
use Rattle.event_machine.specs.declared.Event.TheVariants.{R, E, S, D, C, T, F, X, B, Z}
use Rattle.event_machine.specs.Worlds.{is_last}
use Rattle.event_machine.specs.progress.Known.{Known, known_at_start, admits, suits, advanced}
use Rattle.run_laws.specs.replaying.Permits as law
use Rattle.run_laws.specs.replaying.Permits.{Permit, ToMeet, ToFinish, ToElse, ToDelay, ToCallElse, ToExpire, ToFail, ToEnd, ToAbort, ToClose, permit_of}
use Rattle.run_laws.specs.replaying.Scripts as law_script
use Rattle.run_laws.specs.telling.ByEvents.{by_events, others}
use Rattle.control_script.specs.declared.Op.TheVariants.{Go, Done, Join, Hold}
use Rattle.control_script.proofs.Writing.{ends_last}
use Rattle.control_script.specs.Script.{to_close, after_abort, operations, held, script_from}
use Rattle.replay_runs.specs.script.Spelling.{kind, arg, index, spelled}
use Rattle.replay_runs.specs.script.Laws.{SpellsTheLaw, PermitsDiffer}

-- ---- what is known

-- nothing is written behind the end of the program
over : (owner : ℕ → ℕ) (k : Known) (events : List Event) → k.ended ≡ true → script_from owner k events ≡ []
over owner k [] h = ap (λ b. if b then [] else Hold ∷ []) h
over owner k (e ∷ events) h =
    ap (λ b. if not b && suits owner k e then operations owner k e ++ script_from owner (advanced owner k e) events else held k) h
    ∙ ap (λ b. if b then [] else Hold ∷ []) h

-- before it the controller waits at last
waits : (k : Known) → k.ended ≡ false → held k ≡ Hold ∷ []
waits k h = ap (λ b. if b then [] else Hold ∷ []) h

-- ---- an event

-- the permits to tasks, spelled
granted : (permit : Permit) (tasks : List ℕ) (ops : List law.Op) →
    map spelled (law_script.grants permit tasks ops) ≡ map (λ t. Go t (kind permit) (arg permit) (index permit)) tasks ++ map spelled ops
granted permit [] ops = refl
granted permit (t ∷ tasks) ops = ap (λ xs. Go t (kind permit) (arg permit) (index permit) ∷ xs) (granted permit tasks ops)

-- an abort's answer, spelled
aborted : (t x : ℕ) → after_abort t x ≡ spelled (if x == t then law.Join t else law.Done t)
aborted t x = go (x == t)
  where
    go : (b : Bool) → (if b then Join t else Done t) ≡ spelled (if b then law.Join t else law.Done t)
    go true = refl
    go false = refl

-- what the law has for an event, in front of what follows
abbrev behind : (ℕ → ℕ) → ℕ → Known → Event → List law.Op → List law.Op
behind owner n k e rest = law_script.grants (permit_of e) (law_script.takers (by_events owner n) owner k e) (law_script.closing owner e ++ rest)

-- the operations of an event, spelled
event_spelled : (owner : ℕ → ℕ) (n : ℕ) (k : Known) (e : Event) (rest : List law.Op) → map spelled (behind owner n k e rest) ≡ operations owner k e ++ map spelled rest
event_spelled owner n k (R c e i) rest = refl
event_spelled owner n k (E a) rest = refl
event_spelled owner n k (S a) rest = refl
event_spelled owner n k (D a m) rest = refl
event_spelled owner n k (C c e i) rest = refl
event_spelled owner n k (T c e i) rest = refl
event_spelled owner n k (F c e i) rest = refl
event_spelled owner n k (X a) rest = refl
event_spelled owner n k (B t x) rest = ap (λ op. Go t 9 x (pos 0) ∷ op ∷ map spelled rest) (sym (aborted t x))
event_spelled owner n k Z rest = granted ToClose (others k ++ 0 ∷ []) rest ∙ ap (λ xs. xs ++ map spelled rest) (mapped (others k))
  where
    mapped : (tasks : List ℕ) → map (λ t. Go t (kind ToClose) (arg ToClose) (index ToClose)) (tasks ++ 0 ∷ []) ≡ map to_close tasks ++ to_close 0 ∷ []
    mapped [] = refl
    mapped (t ∷ tasks) = ap (λ xs. to_close t ∷ xs) (mapped tasks)

-- ---- the script

-- the law's script of events, spelled, is the script
abbrev IsSpelled : (ℕ → ℕ) → ℕ → Known → List Event → Type 0
IsSpelled owner n k events = map spelled (law_script.script (by_events owner n) owner k events) ≡ script_from owner k events

-- behind an event: nothing follows the last one
rest_spelled : (owner : ℕ → ℕ) (n : ℕ) (k : Known) (e : Event) (events : List Event) → k.ended ≡ false →
    ((advanced owner k e).ended ≡ false → IsSpelled owner n (advanced owner k e) events) → (b : Bool) → is_last e ≡ b →
    map spelled (if b then [] else law_script.script (by_events owner n) owner (advanced owner k e) events) ≡ script_from owner (advanced owner k e) events
rest_spelled owner n k e events h later true q = sym (over owner (advanced owner k e) events (ends_last owner k e h ∙ q))
rest_spelled owner n k e events h later false q = later (ends_last owner k e h ∙ q)

spelled_from : (owner : ℕ → ℕ) (n : ℕ) (k : Known) (events : List Event) → k.ended ≡ false → IsSpelled owner n k events
spelled_from owner n k [] h = sym (waits k h)
spelled_from owner n k (e ∷ events) h = go (rest_spelled owner n k e events h (λ q. spelled_from owner n (advanced owner k e) events q) (is_last e) refl) (admits owner k e)
  where
    go : map spelled (if is_last e then [] else law_script.script (by_events owner n) owner (advanced owner k e) events) ≡ script_from owner (advanced owner k e) events →
        (b : Bool) →
        map spelled
        (if b
        then behind owner n k e (if is_last e then [] else law_script.script (by_events owner n) owner (advanced owner k e) events)
        else law.Hold ∷ [])
        ≡ (if b then operations owner k e ++ script_from owner (advanced owner k e) events else held k)
    go rest true =
        event_spelled owner n k e (if is_last e then [] else law_script.script (by_events owner n) owner (advanced owner k e) events)
        ∙ ap (λ xs. operations owner k e ++ xs) rest
    go rest false = sym (waits k h)

pub spells : SpellsTheLaw
spells owner n events = sym (spelled_from owner n (known_at_start n) events refl)

-- ---- permits

-- the permit of these numbers
abbrev read : ℕ → ℕ → ℤ → Permit
read k a i =
    if k == 1 then ToMeet a i
    else if k == 2 then ToFinish
    else if k == 3 then ToElse
    else if k == 4 then ToDelay a
    else if k == 5 then ToCallElse a i
    else if k == 6 then ToExpire a i
    else if k == 7 then ToFail a i
    else if k == 8 then ToEnd
    else if k == 9 then ToAbort a
    else ToClose

read_back : (p : Permit) → read (kind p) (arg p) (index p) ≡ p
read_back (ToMeet e i) = refl
read_back ToFinish = refl
read_back ToElse = refl
read_back (ToDelay k) = refl
read_back (ToCallElse e i) = refl
read_back (ToExpire e i) = refl
read_back (ToFail e i) = refl
read_back ToEnd = refl
read_back (ToAbort x) = refl
read_back ToClose = refl

pub apart : PermitsDiffer
apart a b k m i = sym (read_back a) ∙ ap (λ x. read x (arg a) (index a)) k ∙ ap (λ x. read (kind b) x (index a)) m ∙ ap (λ x. read (kind b) (arg b) x) i ∙ read_back b
