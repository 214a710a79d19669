-- A task closes: the tables stay linked, and say what is to be known.
use Rattle.std.proofs.Common.{◌≡◌, ℕ, zero, suc, ◌+◌, ◌-◌, ◌<◌, ◌≤◌, ◌^◌, Bool, true, false, ◌==◌, if◌then◌else◌, List, [], length, map, Option, Some, None, is_some, refl, sym, ap, ap₂, ◌∙◌, subst, true≢false, arith}
use Rattle.std.specs.Prelude.{count_by}
use Rattle.std.proofs.lemmas.Bool.{eqb-true, ne_eqb}
use Rattle.std.proofs.lemmas.List.{length-set, length-map}
use Rattle.event_machine.specs.Soundness.{times}
use Rattle.event_machine.specs.progress.Known.{Party, Known, party, complete, let_go, fall, with_server, has_callers, is_by, is_closed, is_free}
use Rattle.event_machine.proofs.progress.Parties.{put_self, put_other, all_let_go, let_go_at}
use Rattle.control_script.specs.declared.progress.task_records.Member.{Member}
use Rattle.control_script.specs.progress.TaskRecords.{member_at, chain, open_server, seen, known_of, IsLinked, shut}
use Rattle.control_script.proofs.progress.Tables.{at_known, at_self, at_other, set_keeps, count_keeps, count_same, count_split, open_some, free_parts, open_below, chain_same, known_by}

module _ (ms : List Member) (served : ℕ) (linked : IsLinked ms served) (x : ℕ) (open' : (member_at ms x).closed ≡ false) where
  pub task_below : x < length ms
  task_below = open_below ms x open'

  abbrev ns : List Member
  ns = shut ms x

  ns_length : length ns ≡ length ms
  ns_length = length-set ms x _

  -- ---- what is read after it

  closed_task : (member_at ns x).closed ≡ true
  closed_task = ap (λ (m : Member). m.closed) (at_self ms x _ task_below)

  closed_other : (u : ℕ) → (u == x) ≡ false → (member_at ns u).closed ≡ (member_at ms u).closed
  closed_other u q = ap (λ (m : Member). m.closed) (at_other ms x u _ q)

  -- who is open after it is another task
  open_other : (b : ℕ) → (member_at ns b).closed ≡ false → (b == x) ≡ false
  open_other b k = ne_eqb b x (λ q. true≢false (sym closed_task ∙ ap (λ v. (member_at ns v).closed) (sym q) ∙ k))

  server_is : (u : ℕ) → (member_at ns u).server ≡ (member_at ms u).server
  server_is u = set_keeps (λ m. m.server) ms x _ task_below refl u

  outer_is : (u : ℕ) → (member_at ns u).outer ≡ (member_at ms u).outer
  outer_is u = set_keeps (λ m. m.outer) ms x _ task_below refl u

  depth_is : (u : ℕ) → (member_at ns u).depth ≡ (member_at ms u).depth
  depth_is u = set_keeps (λ m. m.depth) ms x _ task_below refl u

  innermost_is : (u : ℕ) → (member_at ns u).innermost ≡ (member_at ms u).innermost
  innermost_is u = set_keeps (λ m. m.innermost) ms x _ task_below refl u

  abbrev callers : ℕ → List ℕ
  callers b = chain ms (member_at ms b).depth (member_at ms b).innermost

  callers_is : (b : ℕ) → chain ns (member_at ns b).depth (member_at ns b).innermost ≡ callers b
  callers_is b = ap₂ (λ n c. chain ns n c) (depth_is b) (innermost_is b) ∙ chain_same ms ns outer_is (member_at ms b).depth (member_at ms b).innermost

  -- those whom it served have no server
  abbrev server_after : Option ℕ → Option ℕ
  server_after r = if is_by x r then None else open_server ms r

  server_shut : (r : Option ℕ) → open_server ns r ≡ server_after r
  server_shut None = refl
  server_shut (Some a) = go (a == x) refl
    where
      go : (b : Bool) → (a == x) ≡ b → open_server ns (Some a) ≡ (if a == x then None else open_server ms (Some a))
      go true q = ap (λ z. if◌then◌else◌ {A = Option ℕ} z None (Some a)) (ap (λ v. (member_at ns v).closed) (eqb-true a x q) ∙ closed_task) ∙
          ap (λ z. if◌then◌else◌ {A = Option ℕ} z None (open_server ms (Some a))) (sym q)
      go false q = ap (λ z. if◌then◌else◌ {A = Option ℕ} z None (Some a)) (closed_other a q) ∙ ap (λ z. if◌then◌else◌ {A = Option ℕ} z None (open_server ms (Some a))) (sym q)

  -- ---- linked

  -- each served task is served by it, or still served after it
  one_of : (r : Option ℕ) → (if is_some (open_server ms r) then 1 else 0) ≡ (if is_some (server_after r) then 1 else 0) + (if is_by x r then 1 else 0)
  one_of None = omega arith
  one_of (Some a) = go (a == x) refl
    where
      plus_zero : (n : ℕ) → n ≡ n + 0
      plus_zero n = omega arith

      one : 1 ≡ 0 + 1
      one = omega arith

      go : (b : Bool) → (a == x) ≡ b → (if is_some (open_server ms (Some a)) then 1 else 0) ≡ (if is_some (if b then None else open_server ms (Some a)) then 1 else 0) + (if b then 1 else 0)
      go true q = ap (λ (o : Option ℕ). if is_some o then 1 else 0) (open_some ms a (ap (λ v. (member_at ms v).closed) (eqb-true a x q) ∙ open')) ∙ one
      go false q = plus_zero (if is_some (open_server ms (Some a)) then 1 else 0)

  abbrev count_after : ℕ
  count_after = count_by (λ m. is_some (open_server ns m.server)) ns

  counted_both : count_after + (member_at ms x).depth ≡ served
  counted_both = ap (λ n. n + (member_at ms x).depth)
      (count_keeps (λ m. is_some (open_server ns m.server)) ms x _ task_below refl ∙
      count_same (λ m. is_some (open_server ns m.server)) (λ m. is_some (server_after m.server)) ms (λ m. ap is_some (server_shut m.server))) ∙
      ap (λ n. count_by (λ m. is_some (server_after m.server)) ms + n) (sym (linked.depths x open')) ∙
      sym (count_split (λ m. is_some (open_server ms m.server)) (λ m. is_some (server_after m.server)) (λ m. is_by x m.server) ms (λ m. one_of m.server)) ∙
      linked.counted

  pub depth_within : (member_at ms x).depth ≤ served
  depth_within = let e = counted_both in omega (arith, e)

  pub shut_linked : IsLinked ns (served - (member_at ms x).depth)
  shut_linked = record {
    few = subst (λ n. n < 2 ^ 32) (sym ns_length) linked.few;
    callers = λ b u k. ap (times u) (callers_is b) ∙ linked.callers b u (sym (closed_other b (open_other b k)) ∙ k) ∙ ap (λ (o : Option ℕ). if is_by b o then 1 else 0) (sym (server_is u));
    itself = λ b k. ap (is_by b) (server_is b) ∙ linked.itself b (sym (closed_other b (open_other b k)) ∙ k);
    depths = λ b k. count_keeps (λ m. is_by b m.server) ms x _ task_below refl ∙ linked.depths b (sym (closed_other b (open_other b k)) ∙ k) ∙ sym (depth_is b);
    counted = less count_after (member_at ms x).depth served counted_both;
  }
    where
      less : (n m k : ℕ) → n + m ≡ k → n ≡ k - m
      less n m k h = omega (arith, h)

  -- ---- known

  abbrev k : Known
  k = known_of ms false

  k_length : length k.parties ≡ length ms
  k_length = length-map ms (seen ms)

  task_seen : seen ns (member_at ns x) ≡ record { closed = true; server = (party k x).server; callers = [] }
  task_seen = λ i. record {
    closed = closed_task i;
    server = (ap (open_server ns) (server_is x) ∙ server_shut (member_at ms x).server ∙
        ap (λ z. if◌then◌else◌ {A = Option ℕ} z None (open_server ms (member_at ms x).server)) (linked.itself x open') ∙
        ap (λ (y : Party). y.server) (sym (at_known ms false x))) i;
    callers = (ap (λ z. if◌then◌else◌ {A = List ℕ} z [] (chain ns (member_at ns x).depth (member_at ns x).innermost)) closed_task) i;
  }

  -- another task, with this server after it
  other_seen : (t : ℕ) → (t == x) ≡ false → seen ns (member_at ns t) ≡ with_server (server_after (member_at ms t).server) (seen ms (member_at ms t))
  other_seen t q = λ i. record {
    closed = closed_other t q i;
    server = (ap (open_server ns) (server_is t) ∙ server_shut (member_at ms t).server) i;
    callers = (ap₂ (λ z cs. if◌then◌else◌ {A = List ℕ} z [] cs) (closed_other t q) (callers_is t)) i;
  }

  -- a task as it is known, with this server
  abbrev known_with : Member → Option ℕ → Party
  known_with m server = record { closed = m.closed; server = server; callers = if m.closed then [] else chain ms m.depth m.innermost }

  let_go_by : (m : Member) (server : Option ℕ) → is_by x server ≡ true → known_with m None ≡ let_go x (known_with m server)
  let_go_by m server q = ap (λ z. if◌then◌else◌ {A = Party} z (known_with m None) (known_with m server)) (sym q)

  let_go_not : (m : Member) (server : Option ℕ) → is_by x server ≡ false → known_with m server ≡ let_go x (known_with m server)
  let_go_not m server q = ap (λ z. if◌then◌else◌ {A = Party} z (known_with m None) (known_with m server)) (sym q)

  by_other : (a : ℕ) (z : Bool) → (a == x) ≡ false → is_by x (if◌then◌else◌ {A = Option ℕ} z None (Some a)) ≡ false
  by_other a true q = refl
  by_other a false q = q

  let_go_some : (m : Member) (a : ℕ) (b : Bool) → (a == x) ≡ b → known_with m (if b then None else open_server ms (Some a)) ≡ let_go x (known_with m (open_server ms (Some a)))
  let_go_some m a true q = let_go_by m (open_server ms (Some a)) (ap (is_by x) (open_some ms a (ap (λ v. (member_at ms v).closed) (eqb-true a x q) ∙ open')) ∙ q)
  let_go_some m a false q = let_go_not m (open_server ms (Some a)) (by_other a (member_at ms a).closed q)

  let_go_is : (m : Member) (r : Option ℕ) → known_with m (server_after r) ≡ let_go x (known_with m (open_server ms r))
  let_go_is m None = refl
  let_go_is m (Some a) = let_go_some m a (a == x) refl

  freed_length : length (all_let_go x k).parties ≡ length ms
  freed_length = length-map k.parties (let_go x) ∙ k_length

  fallen_at : (t : ℕ) → seen ns (member_at ns t) ≡ party (fall k x) t
  fallen_at t = go (t == x) refl
    where
      fallen : Party
      fallen = record { closed = true; server = (party k x).server; callers = [] }

      go : (b : Bool) → (t == x) ≡ b → seen ns (member_at ns t) ≡ party (fall k x) t
      go true q = subst (λ v. seen ns (member_at ns v) ≡ party (fall k x) v) (sym (eqb-true t x q))
          (task_seen ∙ sym (put_self (all_let_go x k) x (record { closed = true; server = (party k x).server; callers = [] }) (subst (λ n. x < n) (sym freed_length) task_below)))
      go false q = other_seen t q ∙ let_go_is (member_at ms t) (member_at ms t).server ∙ ap (let_go x) (sym (at_known ms false t)) ∙ sym (let_go_at x k t) ∙
          sym (put_other (all_let_go x k) x t (record { closed = true; server = (party k x).server; callers = [] }) q)

  pub shut_known : map (seen ns) ns ≡ (fall k x).parties
  shut_known = known_by ns (fall k x).parties (length-set (all_let_go x k).parties x _ ∙ freed_length ∙ sym ns_length) fallen_at

  -- ---- a task without callers

  module _ (uncalled : (member_at ms x).depth ≡ 0) where
    pub completed_linked : IsLinked ns served
    completed_linked = subst (IsLinked ns) (ap (λ n. served - n) uncalled ∙ less served) shut_linked
      where
        less : (n : ℕ) → n - 0 ≡ n
        less n = omega arith

    nobody_by : (u : ℕ) → is_by x (member_at ms u).server ≡ false
    nobody_by u = go (is_by x (member_at ms u).server) (sym (ap (λ n. times u (chain ms n (member_at ms x).innermost)) uncalled) ∙ linked.callers x u open')
      where
        go : (b : Bool) → ◌≡◌ {A = ℕ} 0 (if b then 1 else 0) → b ≡ false
        go true h = absurd (omega (arith, h))
        go false h = refl

    completed_seen : ◌≡◌ {A = Party} (record { closed = true; server = (party k x).server; callers = [] }) (record { closed = true; server = (party k x).server; callers = (party k x).callers })
    completed_seen = λ i. record {
      closed = true;
      server = (party k x).server;
      callers = (sym (ap (λ (y : Party). y.callers) (at_known ms false x) ∙ ap (λ z. if◌then◌else◌ {A = List ℕ} z [] (callers x)) open' ∙
          ap (λ n. chain ms n (member_at ms x).innermost) uncalled)) i;
    }

    completed_at : (t : ℕ) → seen ns (member_at ns t) ≡ party (complete k x) t
    completed_at t = go (t == x) refl
      where
        go : (b : Bool) → (t == x) ≡ b → seen ns (member_at ns t) ≡ party (complete k x) t
        go true q = subst (λ v. seen ns (member_at ns v) ≡ party (complete k x) v) (sym (eqb-true t x q))
            (task_seen ∙ completed_seen ∙
            sym (put_self k x (record { closed = true; server = (party k x).server; callers = (party k x).callers }) (subst (λ n. x < n) (sym k_length) task_below)))
        go false q = other_seen t q ∙ ap (λ z. known_with (member_at ms t) (if z then None else open_server ms (member_at ms t).server)) (nobody_by t) ∙ sym (at_known ms false t) ∙
            sym (put_other k x t (record { closed = true; server = (party k x).server; callers = (party k x).callers }) q)

    pub completed_known : map (seen ns) ns ≡ (complete k x).parties
    completed_known = known_by ns (complete k x).parties (length-set k.parties x _ ∙ k_length ∙ sym ns_length) completed_at

-- a free task that is not known to have callers has none
pub uncalled_is : (ms : List Member) (x : ℕ) → is_free (known_of ms false) x ≡ true → has_callers (party (known_of ms false) x).callers ≡ false → (member_at ms x).depth ≡ 0
uncalled_is ms x free h = go (member_at ms x).depth
    (sym (ap (λ (y : Party). has_callers y.callers) (at_known ms false x) ∙
    ap (λ z. has_callers (if◌then◌else◌ {A = List ℕ} z [] (chain ms (member_at ms x).depth (member_at ms x).innermost))) (free_parts ms x free).0) ∙ h)
  where
    go : (n : ℕ) → has_callers (chain ms n (member_at ms x).innermost) ≡ false → n ≡ 0
    go zero q = refl
    go (suc n) q = absurd (true≢false q)

-- what is known of a closed task
pub closed_known : (ms : List Member) (x : ℕ) → is_closed (known_of ms false) x ≡ (member_at ms x).closed
closed_known ms x = ap (λ (y : Party). y.closed) (at_known ms false x)
