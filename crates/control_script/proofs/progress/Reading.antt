-- What is read off the tables, and what an event makes of them.
use Rattle.std.proofs.Common.{◌≡◌, ℕ, zero, suc, ◌*◌, ◌<◌, ◌≤◌, ◌^◌, Bool, true, false, not, ◌&&◌, ◌||◌, ◌==◌, if◌then◌else◌, List, [], ◌∷◌, map, replicate, Option, None, is_some, refl, sym, ap, ◌∙◌, subst, ⊎_elim, true≢false, arith}
use Rattle.std.specs.Prelude.{nat_lt}
use Rattle.std.specs.List.{list_all}
use Rattle.std.proofs.lemmas.Bool.{cases_lt, lt-ltb}
use Rattle.std.proofs.lemmas.List.{length-replicate, get_or-replicate, get_or_past}
use Rattle.std.proofs.lemmas.List.Folds.{sum_by-zero, sum_by-replicate, list_all-map}
use Rattle.event_machine.specs.declared.Event.{Event}
use Rattle.event_machine.specs.declared.Event.TheVariants.{R, E, S, D, C, T, F, X, B, Z}
use Rattle.event_machine.specs.Soundness.{times}
use Rattle.event_machine.specs.Worlds.{is_last}
use Rattle.event_machine.specs.progress.Known.{Party, idle, idle_parties, party, part, fall, has_callers, is_innermost, is_by, advanced}
use Rattle.control_script.specs.declared.progress.task_records.Member.{Member}
use Rattle.control_script.specs.progress.TaskRecords.{no_member, idle_member, member_at, chain, open_server, seen, known_of, IsLinked}
use Rattle.control_script.proofs.progress.Tables.{at_known}

-- ---- callers

pub callers_known : (ms : List Member) (a : ℕ) → has_callers (party (known_of ms false) a).callers ≡ (not (member_at ms a).closed && nat_lt 0 (member_at ms a).depth)
callers_known ms a = ap (λ (y : Party). has_callers y.callers) (at_known ms false a) ∙ go (member_at ms a).closed (member_at ms a).depth
  where
    go : (b : Bool) (n : ℕ) → has_callers (if◌then◌else◌ {A = List ℕ} b [] (chain ms n (member_at ms a).innermost)) ≡ (not b && nat_lt 0 n)
    go true n = refl
    go false zero = refl
    go false (suc n) = sym (lt-ltb 0 (suc n) (omega arith))

pub innermost_known : (ms : List Member) (a t : ℕ) → has_callers (party (known_of ms false) a).callers ≡ true → is_innermost t (party (known_of ms false) a).callers ≡ (t == (member_at ms a).innermost)
innermost_known ms a t h = ap (λ (y : Party). is_innermost t y.callers) (at_known ms false a) ∙
    go (member_at ms a).closed (member_at ms a).depth (sym (ap (λ (y : Party). has_callers y.callers) (at_known ms false a)) ∙ h)
  where
    go : (b : Bool) (n : ℕ) → has_callers (if◌then◌else◌ {A = List ℕ} b [] (chain ms n (member_at ms a).innermost)) ≡ true →
        is_innermost t (if◌then◌else◌ {A = List ℕ} b [] (chain ms n (member_at ms a).innermost)) ≡ (t == (member_at ms a).innermost)
    go true n q = absurd (true≢false (sym q))
    go false zero q = absurd (true≢false (sym q))
    go false (suc n) q = refl

pub uncalled_innermost : (t : ℕ) (callers : List ℕ) → has_callers callers ≡ false → is_innermost t callers ≡ false
uncalled_innermost t [] h = refl
uncalled_innermost t (c ∷ callers) h = absurd (true≢false h)

-- ---- how many are served

pub none_served : (ms : List Member) (served : ℕ) → IsLinked ms served → (served == 0) ≡ list_all (λ p. not (is_some p.server)) (known_of ms false).parties
none_served ms served linked = ap (λ n. n == 0) (sym linked.counted) ∙ sum_by-zero (λ (m : Member). if is_some (open_server ms m.server) then 1 else 0) ms ∙
    ap (λ (t : Member → Bool). list_all t ms) (λ i m. one_zero (is_some (open_server ms m.server)) i) ∙
    sym (list_all-map (λ (p : Party). not (is_some p.server)) (seen ms) ms)
  where
    one_zero : (b : Bool) → ((if b then 1 else 0) == 0) ≡ not b
    one_zero true = refl
    one_zero false = refl

-- ---- one event

pub after_event : (owner : ℕ → ℕ) (ms ns : List Member) (ended last : Bool) (e : Event) → map (seen ns) ns ≡ (advanced owner (known_of ms false) e).parties → last ≡ is_last e →
    known_of ns (last || ended) ≡ advanced owner (known_of ms ended) e
after_event owner ms ns ended last e h q = (λ i. record { parties = h i; ended = q i || ended }) ∙ go e
  where
    parted : (callers : List ℕ) (a : ℕ) → record { parties = (part (known_of ms false) a callers).parties; ended = ended } ≡ part (known_of ms ended) a callers
    parted [] a = refl
    parted (c ∷ callers) a = refl

    fallen : (b : Bool) (x : ℕ) → record { parties = (if b then known_of ms false else fall (known_of ms false) x).parties; ended = ended } ≡ (if b then known_of ms ended else fall (known_of ms ended) x)
    fallen true x = refl
    fallen false x = refl

    go : (e : Event) → record { parties = (advanced owner (known_of ms false) e).parties; ended = is_last e || ended } ≡ advanced owner (known_of ms ended) e
    go (R c e i) = refl
    go (E a) = parted (party (known_of ms false) a).callers a
    go (S a) = refl
    go (D a n) = refl
    go (C c e i) = refl
    go (T c e i) = refl
    go (F c e i) = refl
    go (X a) = refl
    go (B t x) = fallen (party (known_of ms false) x).closed x
    go Z = refl

-- ---- the start

pub idle_known : (n : ℕ) → map (seen (replicate n idle_member)) (replicate n idle_member) ≡ idle_parties n
idle_known n = go n (replicate n idle_member)
  where
    go : (k : ℕ) (ms : List Member) → map (seen ms) (replicate k idle_member) ≡ idle_parties k
    go zero ms = refl
    go (suc k) ms = ap (λ ps. idle ∷ ps) (go k ms)

server_none : (n t : ℕ) → (member_at (replicate n idle_member) t).server ≡ None
server_none n t = ⊎_elim (λ (l : t < n). ap (λ (m : Member). m.server) (get_or-replicate n t idle_member no_member l))
    (λ (l : n ≤ t). ap (λ (m : Member). m.server) (get_or_past (replicate n idle_member) t no_member (subst (λ k. k ≤ t) (sym (length-replicate n idle_member)) l))) (cases_lt t n)

depth_none : (n t : ℕ) → (member_at (replicate n idle_member) t).depth ≡ 0
depth_none n t = ⊎_elim (λ (l : t < n). ap (λ (m : Member). m.depth) (get_or-replicate n t idle_member no_member l))
    (λ (l : n ≤ t). ap (λ (m : Member). m.depth) (get_or_past (replicate n idle_member) t no_member (subst (λ k. k ≤ t) (sym (length-replicate n idle_member)) l))) (cases_lt t n)

pub idle_linked : (n : ℕ) → n < 2 ^ 32 → IsLinked (replicate n idle_member) 0
idle_linked n l = record {
  few = subst (λ k. k < 2 ^ 32) (sym (length-replicate n idle_member)) l;
  callers = λ a c k. ap (λ d. times c (chain (replicate n idle_member) d (member_at (replicate n idle_member) a).innermost)) (depth_none n a) ∙
      sym (ap (λ (o : Option ℕ). if is_by a o then 1 else 0) (server_none n c));
  itself = λ a k. ap (is_by a) (server_none n a);
  depths = λ a k. sum_by-replicate (λ (m : Member). if is_by a m.server then 1 else 0) n idle_member ∙ times_zero n ∙ sym (depth_none n a);
  counted = sum_by-replicate (λ (m : Member). if is_some (open_server (replicate n idle_member) m.server) then 1 else 0) n idle_member ∙ times_zero n;
}
  where
    times_zero : (n : ℕ) → n * 0 ≡ 0
    times_zero n = omega arith
