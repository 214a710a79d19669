-- A rendezvous ends: the tables stay linked, and say what is to be known.
use Rattle.std.proofs.Common.{◌≡◌, ℕ, zero, suc, ◌+◌, ◌-◌, ◌<◌, ◌≤◌, ◌^◌, Bool, true, false, ◌==◌, if◌then◌else◌, List, [], ◌∷◌, length, map, Option, Some, None, is_some, refl, sym, ap, ap₂, ◌∙◌, subst, true≢false, arith}
use Rattle.std.specs.Prelude.{count_by}
use Rattle.std.proofs.lemmas.Bool.{eqb-true, eqb-false, ne_eqb}
use Rattle.std.proofs.lemmas.List.{length-set, length-map}
use Rattle.event_machine.specs.Soundness.{times}
use Rattle.event_machine.specs.progress.Known.{Party, Known, party, put, part, with_server, with_callers, has_callers, is_by, is_free}
use Rattle.event_machine.proofs.progress.Parties.{put_self, put_other}
use Rattle.control_script.specs.declared.progress.task_records.Member.{Member}
use Rattle.control_script.specs.progress.TaskRecords.{member_at, chain, open_server, seen, known_of, IsLinked, left, parted}
use Rattle.control_script.proofs.progress.Tables.{at_known, member_below, at_self, at_other, set_keeps, both_length, second_below, both_keep, first_keeps, count_set, count_keeps, count_same, is_by-self, open_same, open_some, free_parts, open_below, chain_same, known_by}
use Rattle.common_lemmas.proofs.Numbers.{equal_self}

-- a task with callers has at least one
abbrev HasDepth : ℕ → Type 0
HasDepth n = (d : ℕ) × (n ≡ suc d)

depth_is : (ms : List Member) (n c : ℕ) → has_callers (chain ms n c) ≡ true → HasDepth n
depth_is ms zero c h = absurd (true≢false (sym h))
depth_is ms (suc d) c h = (d, refl)

module _ (ms : List Member) (served : ℕ) (linked : IsLinked ms served) (a : ℕ) (acceptor_free : is_free (known_of ms false) a ≡ true)
    (calls : has_callers (party (known_of ms false) a).callers ≡ true) where
  a_parts : ((member_at ms a).closed ≡ false) × (open_server ms (member_at ms a).server ≡ None)
  a_parts = free_parts ms a acceptor_free

  pub acceptor_below : a < length ms
  acceptor_below = open_below ms a a_parts.0

  deep : HasDepth (member_at ms a).depth
  deep = depth_is ms (member_at ms a).depth (member_at ms a).innermost
      (sym (ap (λ z. has_callers (if◌then◌else◌ {A = List ℕ} z [] (chain ms (member_at ms a).depth (member_at ms a).innermost))) a_parts.0) ∙
      sym (ap (λ (y : Party). has_callers y.callers) (at_known ms false a)) ∙ calls)

  pub has_depth : 0 < (member_at ms a).depth
  has_depth = let e = deep.1 in omega (arith, e)

  abbrev d : ℕ
  d = deep.0

  abbrev c : ℕ
  c = (member_at ms a).innermost

  abbrev rest : List ℕ
  rest = chain ms d (member_at ms c).outer

  abbrev callers : ℕ → List ℕ
  callers b = chain ms (member_at ms b).depth (member_at ms b).innermost

  callers_are : callers a ≡ c ∷ rest
  callers_are = ap (λ n. chain ms n c) deep.1

  c_counts : (if c == c then 1 else 0) + times c rest ≡ (if is_by a (member_at ms c).server then 1 else 0)
  c_counts = sym (ap (times c) callers_are) ∙ linked.callers a c a_parts.0

  c_by : is_by a (member_at ms c).server ≡ true
  c_by = go (is_by a (member_at ms c).server) (sym (ap (λ z. (if z then 1 else 0) + times c rest) (equal_self c)) ∙ c_counts)
    where
      go : (b : Bool) → 1 + times c rest ≡ (if b then 1 else 0) → b ≡ true
      go true h = refl
      go false h = absurd (omega (arith, h))

  c_once : times c rest ≡ 0
  c_once = let h : 1 + times c rest ≡ 1 = sym (ap (λ z. (if z then 1 else 0) + times c rest) (equal_self c)) ∙ c_counts ∙ ap (λ z. if z then 1 else 0) c_by in omega (arith, h)

  c_server : (member_at ms c).server ≡ Some a
  c_server = is_by-self a (member_at ms c).server c_by

  pub caller_below : c < length ms
  caller_below = member_below (λ m. is_by a m.server) ms c refl c_by

  apart : (c == a) ≡ false
  apart = ne_eqb c a (λ q. true≢false (sym c_by ∙ ap (λ v. is_by a (member_at ms v).server) q ∙ linked.itself a a_parts.0))

  away : (a == c) ≡ false
  away = ne_eqb a c (λ q. eqb-false c a apart (sym q))

  abbrev mid : List Member
  mid = left ms a (member_at ms c).outer

  abbrev ns : List Member
  ns = parted ms a

  ns_length : length ns ≡ length ms
  ns_length = both_length ms a c _ _

  below_mid : c < length mid
  below_mid = second_below ms a c _ caller_below

  -- ---- what is read after it

  closed_is : (u : ℕ) → (member_at ns u).closed ≡ (member_at ms u).closed
  closed_is = both_keep (λ m. m.closed) ms a c _ _ acceptor_below caller_below refl refl

  server_other : (u : ℕ) → (u == c) ≡ false → (member_at ns u).server ≡ (member_at ms u).server
  server_other = first_keeps (λ m. m.server) ms a c _ _ acceptor_below refl

  server_caller : (member_at ns c).server ≡ None
  server_caller = ap (λ (m : Member). m.server) (at_self mid c _ below_mid)

  outer_is : (u : ℕ) → (member_at ns u).outer ≡ (member_at ms u).outer
  outer_is = both_keep (λ m. m.outer) ms a c _ _ acceptor_below caller_below refl refl

  depth_other : (u : ℕ) → (u == a) ≡ false → (member_at ns u).depth ≡ (member_at ms u).depth
  depth_other u q = set_keeps (λ m. m.depth) mid c _ below_mid refl u ∙ ap (λ (m : Member). m.depth) (at_other ms a u _ q)

  depth_acceptor : (member_at ns a).depth ≡ d
  depth_acceptor = set_keeps (λ m. m.depth) mid c _ below_mid refl a ∙ ap (λ (m : Member). m.depth) (at_self ms a _ acceptor_below) ∙ less (member_at ms a).depth d deep.1
    where
      less : (n k : ℕ) → n ≡ suc k → n - 1 ≡ k
      less n k h = omega (arith, h)

  innermost_other : (u : ℕ) → (u == a) ≡ false → (member_at ns u).innermost ≡ (member_at ms u).innermost
  innermost_other u q = set_keeps (λ m. m.innermost) mid c _ below_mid refl u ∙ ap (λ (m : Member). m.innermost) (at_other ms a u _ q)

  innermost_acceptor : (member_at ns a).innermost ≡ (member_at ms c).outer
  innermost_acceptor = set_keeps (λ m. m.innermost) mid c _ below_mid refl a ∙ ap (λ (m : Member). m.innermost) (at_self ms a _ acceptor_below)

  -- ---- chains

  abbrev callers_after : ℕ → List ℕ
  callers_after b = chain ns (member_at ns b).depth (member_at ns b).innermost

  callers_other : (b : ℕ) → (b == a) ≡ false → callers_after b ≡ callers b
  callers_other b q = ap₂ (λ n x. chain ns n x) (depth_other b q) (innermost_other b q) ∙ chain_same ms ns outer_is (member_at ms b).depth (member_at ms b).innermost

  callers_acceptor : callers_after a ≡ rest
  callers_acceptor = ap₂ (λ n x. chain ns n x) depth_acceptor innermost_acceptor ∙ chain_same ms ns outer_is d (member_at ms c).outer

  -- ---- linked

  callers_linked : (b u : ℕ) → (member_at ms b).closed ≡ false → times u (callers_after b) ≡ (if is_by b (member_at ns u).server then 1 else 0)
  callers_linked b u k = go (b == a) refl (u == c) refl
    where
      plus_zero : (n : ℕ) → n ≡ 0 + n
      plus_zero n = omega arith

      go : (x : Bool) → (b == a) ≡ x → (y : Bool) → (u == c) ≡ y → times u (callers_after b) ≡ (if is_by b (member_at ns u).server then 1 else 0)
      go true q true r = subst (λ v. times u (callers_after v) ≡ (if is_by v (member_at ns u).server then 1 else 0)) (sym (eqb-true b a q))
          (subst (λ v. times v (callers_after a) ≡ (if is_by a (member_at ns v).server then 1 else 0)) (sym (eqb-true u c r))
          (ap (times c) callers_acceptor ∙ c_once ∙ sym (ap (λ (o : Option ℕ). if is_by a o then 1 else 0) server_caller)))
      go true q false r = subst (λ v. times u (callers_after v) ≡ (if is_by v (member_at ns u).server then 1 else 0)) (sym (eqb-true b a q))
          (ap (times u) callers_acceptor ∙ plus_zero (times u rest) ∙ ap (λ z. (if z then 1 else 0) + times u rest) (sym (ne_eqb c u (λ z. eqb-false u c r (sym z)))) ∙
          sym (ap (times u) callers_are) ∙ linked.callers a u a_parts.0 ∙ ap (λ (o : Option ℕ). if is_by a o then 1 else 0) (sym (server_other u r)))
      go false q true r = subst (λ v. times v (callers_after b) ≡ (if is_by b (member_at ns v).server then 1 else 0)) (sym (eqb-true u c r))
          (ap (times c) (callers_other b q) ∙ linked.callers b c k ∙
          ap (λ (o : Option ℕ). if is_by b o then 1 else 0) c_server ∙ ap (λ z. if z then 1 else 0) (ne_eqb a b (λ z. eqb-false b a q (sym z))) ∙
          sym (ap (λ (o : Option ℕ). if is_by b o then 1 else 0) server_caller))
      go false q false r = ap (times u) (callers_other b q) ∙ linked.callers b u k ∙ ap (λ (o : Option ℕ). if is_by b o then 1 else 0) (sym (server_other u r))

  itself_linked : (b : ℕ) → (member_at ms b).closed ≡ false → is_by b (member_at ns b).server ≡ false
  itself_linked b k = go (b == c) refl
    where
      go : (x : Bool) → (b == c) ≡ x → is_by b (member_at ns b).server ≡ false
      go true q = subst (λ v. is_by v (member_at ns v).server ≡ false) (sym (eqb-true b c q)) (ap (is_by c) server_caller)
      go false q = ap (is_by b) (server_other b q) ∙ linked.itself b k

  -- a count of servers, in which none does not count
  counted_after : (test : Option ℕ → Bool) → test None ≡ false → count_by (λ m. test m.server) ns + (if test (Some a) then 1 else 0) ≡ count_by (λ m. test m.server) ms
  counted_after test h = sums (count_by (λ m. test m.server) ns) (if test (member_at mid c).server then 1 else 0) (count_by (λ m. test m.server) mid) (if test None then 1 else 0)
      (count_by (λ m. test m.server) ms) (if test (Some a) then 1 else 0)
      (count_set (λ m. test m.server) mid c _ below_mid)
      (ap (λ x. if x then 1 else 0) (set_keeps (λ m. test m.server) ms a _ acceptor_below refl c ∙ ap test c_server))
      (ap (λ x. if x then 1 else 0) h)
      (count_keeps (λ m. test m.server) ms a _ acceptor_below refl)
    where
      sums : (n x m y k z : ℕ) → n + x ≡ m + y → x ≡ z → y ≡ 0 → m ≡ k → n + z ≡ k
      sums n x m y k z p q r s = omega (arith, p, q, r, s)

  depths_linked : (b : ℕ) → (member_at ms b).closed ≡ false → count_by (λ m. is_by b m.server) ns ≡ (member_at ns b).depth
  depths_linked b k = go (b == a) refl
    where
      less : (n m k : ℕ) → n + 1 ≡ m → m ≡ suc k → n ≡ k
      less n m k h e = omega (arith, h, e)

      plus_zero : (n : ℕ) → n ≡ n + 0
      plus_zero n = omega arith

      go : (x : Bool) → (b == a) ≡ x → count_by (λ m. is_by b m.server) ns ≡ (member_at ns b).depth
      go true q = subst (λ v. count_by (λ m. is_by v m.server) ns ≡ (member_at ns v).depth) (sym (eqb-true b a q))
          (less (count_by (λ m. is_by a m.server) ns) (count_by (λ m. is_by a m.server) ms) d
          (ap (λ z. count_by (λ m. is_by a m.server) ns + (if z then 1 else 0)) (sym (equal_self a)) ∙ counted_after (is_by a) refl) (linked.depths a a_parts.0 ∙ deep.1) ∙ sym depth_acceptor)
      go false q = plus_zero (count_by (λ m. is_by b m.server) ns) ∙
          ap (λ z. count_by (λ m. is_by b m.server) ns + (if z then 1 else 0)) (sym (ne_eqb a b (λ z. eqb-false b a q (sym z)))) ∙
          counted_after (is_by b) refl ∙ linked.depths b k ∙ sym (depth_other b q)

  counted_one : count_by (λ m. is_some (open_server ns m.server)) ns + 1 ≡ served
  counted_one = ap (λ n. n + 1) (count_same (λ m. is_some (open_server ns m.server)) (λ m. is_some (open_server ms m.server)) ns (λ m. ap is_some (open_same ms ns closed_is m.server))) ∙
      ap (λ (o : Option ℕ). count_by (λ m. is_some (open_server ms m.server)) ns + (if is_some o then 1 else 0)) (sym (open_some ms a a_parts.0)) ∙
      counted_after (λ r. is_some (open_server ms r)) refl ∙ linked.counted

  pub has_served : 1 ≤ served
  has_served = let e = counted_one in omega (arith, e)

  pub parted_linked : IsLinked ns (served - 1)
  parted_linked = record {
    few = subst (λ n. n < 2 ^ 32) (sym ns_length) linked.few;
    callers = λ b u k. callers_linked b u (sym (closed_is b) ∙ k);
    itself = λ b k. itself_linked b (sym (closed_is b) ∙ k);
    depths = λ b k. depths_linked b (sym (closed_is b) ∙ k);
    counted = less (count_by (λ m. is_some (open_server ns m.server)) ns) served counted_one;
  }
    where
      less : (n m : ℕ) → n + 1 ≡ m → n ≡ m - 1
      less n m h = omega (arith, h)

  -- ---- known

  abbrev k : Known
  k = known_of ms false

  abbrev outside : Known
  outside = put k a (with_callers rest (party k a))

  k_length : length k.parties ≡ length ms
  k_length = length-map ms (seen ms)

  outside_length : length outside.parties ≡ length ms
  outside_length = length-set k.parties a _ ∙ k_length

  known_at : (t : ℕ) → seen ns (member_at ns t) ≡ party (part k a (c ∷ rest)) t
  known_at t = go (t == c) refl (t == a) refl
    where
      caller_seen : seen ns (member_at ns c) ≡ with_server None (seen ms (member_at ms c))
      caller_seen = λ i. record {
        closed = closed_is c i;
        server = (ap (open_server ns) server_caller) i;
        callers = (ap₂ (λ z cs. if◌then◌else◌ {A = List ℕ} z [] cs) (closed_is c) (callers_other c apart)) i;
      }

      acceptor_seen : seen ns (member_at ns a) ≡ with_callers rest (seen ms (member_at ms a))
      acceptor_seen = λ i. record {
        closed = closed_is a i;
        server = (ap (open_server ns) (server_other a away) ∙ open_same ms ns closed_is (member_at ms a).server) i;
        callers = (ap₂ (λ z cs. if◌then◌else◌ {A = List ℕ} z [] cs) (closed_is a ∙ a_parts.0) callers_acceptor) i;
      }

      other_seen : (t == c) ≡ false → (t == a) ≡ false → seen ns (member_at ns t) ≡ seen ms (member_at ms t)
      other_seen q r = λ i. record {
        closed = closed_is t i;
        server = (ap (open_server ns) (server_other t q) ∙ open_same ms ns closed_is (member_at ms t).server) i;
        callers = (ap₂ (λ z cs. if◌then◌else◌ {A = List ℕ} z [] cs) (closed_is t) (callers_other t r)) i;
      }

      go : (x : Bool) → (t == c) ≡ x → (y : Bool) → (t == a) ≡ y → seen ns (member_at ns t) ≡ party (part k a (c ∷ rest)) t
      go true q y r = subst (λ v. seen ns (member_at ns v) ≡ party (part k a (c ∷ rest)) v) (sym (eqb-true t c q))
          (caller_seen ∙ ap (with_server None) (sym (at_known ms false c)) ∙ sym (put_self outside c (with_server None (party k c)) (subst (λ n. c < n) (sym outside_length) caller_below)))
      go false q true r = ap (λ v. seen ns (member_at ns v)) (eqb-true t a r) ∙ acceptor_seen ∙ ap (with_callers rest) (sym (at_known ms false a)) ∙
          sym (put_self k a (with_callers rest (party k a)) (subst (λ n. a < n) (sym k_length) acceptor_below)) ∙
          sym (put_other outside c a (with_server None (party k c)) away) ∙ ap (party (part k a (c ∷ rest))) (sym (eqb-true t a r))
      go false q false r = other_seen q r ∙ sym (at_known ms false t) ∙ sym (put_other k a t (with_callers rest (party k a)) r) ∙
          sym (put_other outside c t (with_server None (party k c)) q)

  known_callers : (party k a).callers ≡ c ∷ rest
  known_callers = ap (λ (y : Party). y.callers) (at_known ms false a) ∙ ap (λ z. if◌then◌else◌ {A = List ℕ} z [] (callers a)) a_parts.0 ∙ callers_are

  pub parted_known : map (seen ns) ns ≡ (part k a (party k a).callers).parties
  parted_known = known_by ns (part k a (c ∷ rest)).parties (length-set outside.parties c _ ∙ outside_length ∙ sym ns_length) known_at ∙
      ap (λ cs. (part k a cs).parties) (sym known_callers)
