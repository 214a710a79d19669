-- A rendezvous starts: the tables stay linked, and say what is to be known.
use Rattle.std.proofs.Common.{◌≡◌, ℕ, suc, ◌+◌, ◌<◌, ◌^◌, Bool, true, false, ◌==◌, if◌then◌else◌, List, [], ◌∷◌, length, map, Option, Some, None, is_some, refl, sym, ap, ap₂, ◌∙◌, subst, arith}
use Rattle.std.specs.Prelude.{count_by}
use Rattle.std.proofs.lemmas.Bool.{eqb-true, eqb-false, ne_eqb}
use Rattle.std.proofs.lemmas.List.{length-set, length-map}
use Rattle.std.proofs.lemmas.List.Sums.{count_by-le-length}
use Rattle.event_machine.specs.Soundness.{times}
use Rattle.event_machine.specs.progress.Known.{Party, Known, party, put, meet, with_server, with_callers, is_by, is_free}
use Rattle.event_machine.proofs.progress.Parties.{put_self, put_other}
use Rattle.control_script.specs.declared.progress.task_records.Member.{Member}
use Rattle.control_script.specs.progress.TaskRecords.{member_at, chain, open_server, seen, known_of, IsLinked, called, met}
use Rattle.control_script.proofs.progress.Tables.{at_known, at_self, at_other, set_keeps, both_length, second_below, both_keep, first_keeps, count_set, count_keeps, count_same, open_same, open_some, open_none, free_parts, open_below, chain_apart, known_by}
use Rattle.common_lemmas.proofs.Numbers.{equal_self}

module _ (ms : List Member) (served : ℕ) (linked : IsLinked ms served) (c a : ℕ) (caller_free : is_free (known_of ms false) c ≡ true) (acceptor_free : is_free (known_of ms false) a ≡ true)
    (apart : (c == a) ≡ false) where
  c_parts : ((member_at ms c).closed ≡ false) × (open_server ms (member_at ms c).server ≡ None)
  c_parts = free_parts ms c caller_free

  a_parts : ((member_at ms a).closed ≡ false) × (open_server ms (member_at ms a).server ≡ None)
  a_parts = free_parts ms a acceptor_free

  pub caller_below : c < length ms
  caller_below = open_below ms c c_parts.0

  pub acceptor_below : a < length ms
  acceptor_below = open_below ms a a_parts.0

  away : (a == c) ≡ false
  away = ne_eqb a c (λ q. eqb-false c a apart (sym q))

  abbrev mid : List Member
  mid = called ms c a

  abbrev ns : List Member
  ns = met ms c a

  ns_length : length ns ≡ length ms
  ns_length = both_length ms a c _ _

  below_mid : c < length mid
  below_mid = second_below ms a c _ caller_below

  -- ---- what is read after it

  closed_is : (u : ℕ) → (member_at ns u).closed ≡ (member_at ms u).closed
  closed_is = both_keep (λ m. m.closed) ms a c _ _ acceptor_below caller_below refl refl

  server_other : (u : ℕ) → (u == c) ≡ false → (member_at ns u).server ≡ (member_at ms u).server
  server_other = first_keeps (λ m. m.server) ms a c _ _ acceptor_below refl

  server_caller : (member_at ns c).server ≡ Some a
  server_caller = ap (λ (m : Member). m.server) (at_self mid c _ below_mid)

  outer_other : (u : ℕ) → (u == c) ≡ false → (member_at ns u).outer ≡ (member_at ms u).outer
  outer_other = first_keeps (λ m. m.outer) ms a c _ _ acceptor_below refl

  outer_caller : (member_at ns c).outer ≡ (member_at ms a).innermost
  outer_caller = ap (λ (m : Member). m.outer) (at_self mid c _ below_mid)

  depth_other : (u : ℕ) → (u == a) ≡ false → (member_at ns u).depth ≡ (member_at ms u).depth
  depth_other u q = set_keeps (λ m. m.depth) mid c _ below_mid refl u ∙ ap (λ (m : Member). m.depth) (at_other ms a u _ q)

  depth_acceptor : (member_at ns a).depth ≡ (member_at ms a).depth + 1
  depth_acceptor = set_keeps (λ m. m.depth) mid c _ below_mid refl a ∙ ap (λ (m : Member). m.depth) (at_self ms a _ acceptor_below)

  innermost_other : (u : ℕ) → (u == a) ≡ false → (member_at ns u).innermost ≡ (member_at ms u).innermost
  innermost_other u q = set_keeps (λ m. m.innermost) mid c _ below_mid refl u ∙ ap (λ (m : Member). m.innermost) (at_other ms a u _ q)

  innermost_acceptor : (member_at ns a).innermost ≡ c
  innermost_acceptor = set_keeps (λ m. m.innermost) mid c _ below_mid refl a ∙ ap (λ (m : Member). m.innermost) (at_self ms a _ acceptor_below)

  -- ---- chains

  unserved : (b : ℕ) → (member_at ms b).closed ≡ false → is_by b (member_at ms c).server ≡ false
  unserved b k = open_none ms (member_at ms c).server b c_parts.1 k

  abbrev callers : ℕ → List ℕ
  callers b = chain ms (member_at ms b).depth (member_at ms b).innermost

  abbrev callers_after : ℕ → List ℕ
  callers_after b = chain ns (member_at ns b).depth (member_at ns b).innermost

  not_in : (b : ℕ) → (member_at ms b).closed ≡ false → times c (callers b) ≡ 0
  not_in b k = linked.callers b c k ∙ ap (λ x. if x then 1 else 0) (unserved b k)

  same_chain : (b : ℕ) → (member_at ms b).closed ≡ false → chain ns (member_at ms b).depth (member_at ms b).innermost ≡ callers b
  same_chain b k = chain_apart ms ns c outer_other (member_at ms b).depth (member_at ms b).innermost (not_in b k)

  callers_other : (b : ℕ) → (b == a) ≡ false → (member_at ms b).closed ≡ false → callers_after b ≡ callers b
  callers_other b q k = ap₂ (λ n x. chain ns n x) (depth_other b q) (innermost_other b q) ∙ same_chain b k

  callers_acceptor : callers_after a ≡ c ∷ callers a
  callers_acceptor = ap₂ (λ n x. chain ns n x) (depth_acceptor ∙ next (member_at ms a).depth) innermost_acceptor ∙
      ap (λ x. c ∷ chain ns (member_at ms a).depth x) outer_caller ∙ ap (λ xs. c ∷ xs) (same_chain a a_parts.0)
    where
      next : (n : ℕ) → n + 1 ≡ suc n
      next n = omega arith

  -- ---- linked

  callers_linked : (b u : ℕ) → (member_at ms b).closed ≡ false → times u (callers_after b) ≡ (if is_by b (member_at ns u).server then 1 else 0)
  callers_linked b u k = go (b == a) refl (u == c) refl
    where
      plus_zero : (n : ℕ) → 0 + n ≡ n
      plus_zero n = omega arith

      go : (x : Bool) → (b == a) ≡ x → (y : Bool) → (u == c) ≡ y → times u (callers_after b) ≡ (if is_by b (member_at ns u).server then 1 else 0)
      go true q true r = subst (λ v. times u (callers_after v) ≡ (if is_by v (member_at ns u).server then 1 else 0)) (sym (eqb-true b a q))
          (subst (λ v. times v (callers_after a) ≡ (if is_by a (member_at ns v).server then 1 else 0)) (sym (eqb-true u c r))
          (ap (times c) callers_acceptor ∙ ap (λ z. (if z then 1 else 0) + times c (callers a)) (equal_self c) ∙ ap (λ n. 1 + n) (not_in a a_parts.0) ∙
          sym (ap (λ (o : Option ℕ). if is_by a o then 1 else 0) server_caller ∙ ap (λ z. if z then 1 else 0) (equal_self a))))
      go true q false r = subst (λ v. times u (callers_after v) ≡ (if is_by v (member_at ns u).server then 1 else 0)) (sym (eqb-true b a q))
          (ap (times u) callers_acceptor ∙ ap (λ z. (if z then 1 else 0) + times u (callers a)) (ne_eqb c u (λ z. eqb-false u c r (sym z))) ∙ plus_zero (times u (callers a)) ∙
          linked.callers a u a_parts.0 ∙ ap (λ (o : Option ℕ). if is_by a o then 1 else 0) (sym (server_other u r)))
      go false q true r = subst (λ v. times v (callers_after b) ≡ (if is_by b (member_at ns v).server then 1 else 0)) (sym (eqb-true u c r))
          (ap (times c) (callers_other b q k) ∙ not_in b k ∙
          sym (ap (λ (o : Option ℕ). if is_by b o then 1 else 0) server_caller ∙ ap (λ z. if z then 1 else 0) (ne_eqb a b (λ z. eqb-false b a q (sym z)))))
      go false q false r = ap (times u) (callers_other b q k) ∙ linked.callers b u k ∙ ap (λ (o : Option ℕ). if is_by b o then 1 else 0) (sym (server_other u r))

  itself_linked : (b : ℕ) → (member_at ms b).closed ≡ false → is_by b (member_at ns b).server ≡ false
  itself_linked b k = go (b == c) refl
    where
      go : (x : Bool) → (b == c) ≡ x → is_by b (member_at ns b).server ≡ false
      go true q = subst (λ v. is_by v (member_at ns v).server ≡ false) (sym (eqb-true b c q)) (ap (is_by c) server_caller ∙ away)
      go false q = ap (is_by b) (server_other b q) ∙ linked.itself b k

  -- a count of servers, where that of the caller did not count before
  counted_after : (test : Option ℕ → Bool) → test (member_at ms c).server ≡ false → count_by (λ m. test m.server) ns ≡ count_by (λ m. test m.server) ms + (if test (Some a) then 1 else 0)
  counted_after test h = sums (count_by (λ m. test m.server) ns) (if test (member_at mid c).server then 1 else 0) (count_by (λ m. test m.server) mid) (if test (Some a) then 1 else 0) (count_by (λ m. test m.server) ms)
      (count_set (λ m. test m.server) mid c _ below_mid)
      (ap (λ x. if x then 1 else 0) (set_keeps (λ m. test m.server) ms a _ acceptor_below refl c ∙ h))
      (count_keeps (λ m. test m.server) ms a _ acceptor_below refl)
    where
      sums : (n x m y k : ℕ) → n + x ≡ m + y → x ≡ 0 → m ≡ k → n ≡ k + y
      sums n x m y k p q r = omega (arith, p, q, r)

  depths_linked : (b : ℕ) → (member_at ms b).closed ≡ false → count_by (λ m. is_by b m.server) ns ≡ (member_at ns b).depth
  depths_linked b k = counted_after (is_by b) (unserved b k) ∙ go (b == a) refl
    where
      plus_zero : (n : ℕ) → n + 0 ≡ n
      plus_zero n = omega arith

      go : (x : Bool) → (b == a) ≡ x → count_by (λ m. is_by b m.server) ms + (if a == b then 1 else 0) ≡ (member_at ns b).depth
      go true q = subst (λ v. count_by (λ m. is_by v m.server) ms + (if a == v then 1 else 0) ≡ (member_at ns v).depth) (sym (eqb-true b a q))
          (ap₂ (λ n z. n + (if z then 1 else 0)) (linked.depths a a_parts.0) (equal_self a) ∙ sym depth_acceptor)
      go false q = ap₂ (λ n z. n + (if z then 1 else 0)) (linked.depths b k) (ne_eqb a b (λ z. eqb-false b a q (sym z))) ∙ plus_zero (member_at ms b).depth ∙ sym (depth_other b q)

  counted_linked : count_by (λ m. is_some (open_server ns m.server)) ns ≡ served + 1
  counted_linked = count_same (λ m. is_some (open_server ns m.server)) (λ m. is_some (open_server ms m.server)) ns (λ m. ap is_some (open_same ms ns closed_is m.server)) ∙
      counted_after (λ r. is_some (open_server ms r)) (ap is_some c_parts.1) ∙
      ap₂ (λ n (o : Option ℕ). n + (if is_some o then 1 else 0)) linked.counted (open_some ms a a_parts.0)

  pub met_linked : IsLinked ns (served + 1)
  met_linked = record {
    few = subst (λ n. n < 2 ^ 32) (sym ns_length) linked.few;
    callers = λ b u k. callers_linked b u (sym (closed_is b) ∙ k);
    itself = λ b k. itself_linked b (sym (closed_is b) ∙ k);
    depths = λ b k. depths_linked b (sym (closed_is b) ∙ k);
    counted = counted_linked;
  }

  -- one caller more, and one served task more, are no more than there are tasks
  pub depth_room : (member_at ms a).depth + 1 < 2 ^ 32
  depth_room =
      let few = count_by-le-length (λ m. is_by a m.server) ns in
      let is = depths_linked a a_parts.0 ∙ depth_acceptor in
      let n = met_linked.few in omega (arith, few, is, n)

  pub served_room : served + 1 < 2 ^ 32
  served_room =
      let few = count_by-le-length (λ m. is_some (open_server ns m.server)) ns in
      let n = met_linked.few in omega (arith, few, counted_linked, n)

  -- ---- known

  abbrev k : Known
  k = known_of ms false

  abbrev inside : Known
  inside = put k a (with_callers (c ∷ (party k a).callers) (party k a))

  k_length : length k.parties ≡ length ms
  k_length = length-map ms (seen ms)

  inside_length : length inside.parties ≡ length ms
  inside_length = length-set k.parties a _ ∙ k_length

  known_at : (t : ℕ) → seen ns (member_at ns t) ≡ party (meet k c a) t
  known_at t = go (t == c) refl (t == a) refl
    where
      caller_seen : seen ns (member_at ns c) ≡ with_server (Some a) (seen ms (member_at ms c))
      caller_seen = λ i. record {
        closed = closed_is c i;
        server = (ap (open_server ns) server_caller ∙ open_same ms ns closed_is (Some a) ∙ open_some ms a a_parts.0) i;
        callers = (ap₂ (λ z cs. if◌then◌else◌ {A = List ℕ} z [] cs) (closed_is c) (callers_other c apart c_parts.0)) i;
      }

      acceptor_seen : seen ns (member_at ns a) ≡ with_callers (c ∷ (seen ms (member_at ms a)).callers) (seen ms (member_at ms a))
      acceptor_seen = λ i. record {
        closed = closed_is a i;
        server = (ap (open_server ns) (server_other a away) ∙ open_same ms ns closed_is (member_at ms a).server) i;
        callers = (ap₂ (λ z cs. if◌then◌else◌ {A = List ℕ} z [] cs) (closed_is a ∙ a_parts.0) callers_acceptor ∙
            ap (λ z. c ∷ if◌then◌else◌ {A = List ℕ} z [] (callers a)) (sym a_parts.0)) i;
      }

      other_seen : (t == c) ≡ false → (t == a) ≡ false → seen ns (member_at ns t) ≡ seen ms (member_at ms t)
      other_seen q r = λ i. record {
        closed = closed_is t i;
        server = (ap (open_server ns) (server_other t q) ∙ open_same ms ns closed_is (member_at ms t).server) i;
        callers = (either (member_at ms t).closed refl) i;
      }
        where
          either : (z : Bool) → (member_at ms t).closed ≡ z →
              (if◌then◌else◌ {A = List ℕ} (member_at ns t).closed [] (callers_after t)) ≡ (if◌then◌else◌ {A = List ℕ} (member_at ms t).closed [] (callers t))
          either true e = ap (λ z. if◌then◌else◌ {A = List ℕ} z [] (callers_after t)) (closed_is t ∙ e) ∙ ap (λ z. if◌then◌else◌ {A = List ℕ} z [] (callers t)) (sym e)
          either false e = ap₂ (λ z cs. if◌then◌else◌ {A = List ℕ} z [] cs) (closed_is t) (callers_other t r e)

      go : (x : Bool) → (t == c) ≡ x → (y : Bool) → (t == a) ≡ y → seen ns (member_at ns t) ≡ party (meet k c a) t
      go true q y r = subst (λ v. seen ns (member_at ns v) ≡ party (meet k c a) v) (sym (eqb-true t c q))
          (caller_seen ∙ ap (with_server (Some a)) (sym (at_known ms false c)) ∙ sym (put_self inside c (with_server (Some a) (party k c)) (subst (λ n. c < n) (sym inside_length) caller_below)))
      go false q true r = ap (λ v. seen ns (member_at ns v)) (eqb-true t a r) ∙ acceptor_seen ∙ ap (λ (y : Party). with_callers (c ∷ y.callers) y) (sym (at_known ms false a)) ∙
          sym (put_self k a (with_callers (c ∷ (party k a).callers) (party k a)) (subst (λ n. a < n) (sym k_length) acceptor_below)) ∙
          sym (put_other inside c a (with_server (Some a) (party k c)) away) ∙ ap (party (meet k c a)) (sym (eqb-true t a r))
      go false q false r = other_seen q r ∙ sym (at_known ms false t) ∙ sym (put_other k a t (with_callers (c ∷ (party k a).callers) (party k a)) r) ∙
          sym (put_other inside c t (with_server (Some a) (party k c)) q)

  pub met_known : map (seen ns) ns ≡ (meet k c a).parties
  met_known = known_by ns (meet k c a).parties (length-set inside.parties c _ ∙ inside_length ∙ sym ns_length) known_at
