-- After admitted events the callers of a task are those that it serves, each once, and no task serves itself.
use Rattle.std.proofs.Common.{◌≡◌, ℕ, ◌+◌, ◌<◌, ◌≤◌, Bool, true, false, not, ◌&&◌, ◌==◌, if◌then◌else◌, List, [], ◌∷◌, length, Option, Some, None, is_some, refl, sym, ap, ◌∙◌, subst, ⊎_elim, true≢false, length-set, arith}
use Rattle.std.proofs.lemmas.Bool.{cases_lt, eqb-true, and_parts}
use Rattle.std.proofs.lemmas.List.{length-map}
use Rattle.common_lemmas.proofs.Numbers.{equal_self, unequal, unequal_turned}
use Rattle.common_lemmas.proofs.Truth.{not_true}
use Rattle.event_machine.specs.declared.Event.{Event}
use Rattle.event_machine.specs.declared.Event.TheVariants.{R, E, S, D, C, T, F, X, B, Z}
use Rattle.event_machine.specs.Soundness.{times}
use Rattle.event_machine.specs.progress.Known.{Party, Known, party, known_at_start, is_closed, is_free, is_by, is_served_by, has_callers, admits, suits, put, meet, part, complete, fall, let_go, with_server, with_callers, advanced}
use Rattle.event_machine.proofs.progress.Parties.{known_below, put_self, put_other, all_let_go, let_go_at, idle_at, idle_length}
use Rattle.syn_order.specs.inner.Callers.{Serve}
use Rattle.syn_order.proofs.Locality.{beyond, free_below}

-- ---- writes

-- a task that is written, and each other one
put_there : (k : Known) (t : ℕ) (p : Party) (u : ℕ) → t < length k.parties → party (put k t p) u ≡ (if u == t then p else party k u)
put_there k t p u l = go (u == t) refl
  where
    go : (b : Bool) → (u == t) ≡ b → party (put k t p) u ≡ (if b then p else party k u)
    go true q = ap (party (put k t p)) (eqb-true u t q) ∙ put_self k t p l
    go false q = put_other k t u p q

puts_there : (k : Known) (a c : ℕ) (p q : Party) (u : ℕ) → a < length k.parties → c < length k.parties →
    party (put (put k a p) c q) u ≡ (if u == c then q else (if u == a then p else party k u))
puts_there k a c p q u l m =
    put_there (put k a p) c q u (subst (λ n. c < n) (sym (length-set k.parties a p)) m) ∙ ap (λ y. if u == c then q else y) (put_there k a p u l)

-- what a write leaves of a task is so of all
either_way : {A : Type 0} (f : Party → A) (k : Known) (t : ℕ) (p : Party) (u : ℕ) → f p ≡ f (party k t) → f (if u == t then p else party k u) ≡ f (party k u)
either_way f k t p u h = go (u == t) refl
  where
    go : (b : Bool) → (u == t) ≡ b → f (if b then p else party k u) ≡ f (party k u)
    go true q = h ∙ ap (λ v. f (party k v)) (sym (eqb-true u t q))
    go false q = refl

-- ---- small facts

abbrev one : Bool → ℕ
one b = if b then 1 else 0

free_server : (k : Known) (t : ℕ) → is_free k t ≡ true → (party k t).server ≡ None
free_server k t h = go (party k t).server (and_parts (not (is_closed k t)) (not (is_some (party k t).server)) h).1
  where
    go : (o : Option ℕ) → not (is_some o) ≡ true → o ≡ None
    go None q = refl
    go (Some a) q = absurd (true≢false (sym q))

by_is : (a : ℕ) (o : Option ℕ) → is_by a o ≡ true → o ≡ Some a
by_is a None h = absurd (true≢false (sym h))
by_is a (Some b) h = ap Some (eqb-true b a h)

served_below : (k : Known) (a c : ℕ) → is_served_by a (party k c) ≡ true → c < length k.parties
served_below k a c h = known_below (is_served_by a) k c refl h

pub open_below : (k : Known) (x : ℕ) → is_closed k x ≡ false → x < length k.parties
open_below k x h = known_below (λ p. not p.closed) k x refl (ap not h)

-- ---- what a change leaves

-- callers and acceptors that are as before
same_serve : (k m : Known) → ((u : ℕ) → (party m u).callers ≡ (party k u).callers) → ((u : ℕ) → (party m u).server ≡ (party k u).server) → Serve k → Serve m
same_serve k m h g s = record {
  callers = λ a c. ap (times c) (h a) ∙ s.callers a c ∙ ap (λ o. one (is_by a o)) (sym (g c));
  itself = λ a. ap (is_by a) (g a) ∙ s.itself a;
}

pub serve_at_start : (n : ℕ) → Serve (known_at_start n)
serve_at_start n = record {
  callers = λ a c. ap (times c) (fresh a).0 ∙ sym (ap (λ o. one (is_by a o)) (fresh c).1);
  itself = λ a. ap (is_by a) (fresh a).1;
}
  where
    fresh : (t : ℕ) → ((party (known_at_start n) t).callers ≡ []) × ((party (known_at_start n) t).server ≡ None)
    fresh t = ⊎_elim
        (λ l. (ap (λ (p : Party). p.callers) (idle_at n t l), ap (λ (p : Party). p.server) (idle_at n t l)))
        (λ l. let q = beyond (known_at_start n) t (subst (λ m. m ≤ t) (sym (idle_length n)) l) in (ap (λ (p : Party). p.callers) q, ap (λ (p : Party). p.server) q))
        (cases_lt t n)

-- a rendezvous starts
module _ (k : Known) (s : Serve k) (c o : ℕ) (c_free : is_free k c ≡ true) (o_free : is_free k o ≡ true) (apart : (c == o) ≡ false) where
  met_at : (u : ℕ) → party (meet k c o) u ≡ (if u == c then with_server (Some o) (party k c) else (if u == o then with_callers (c ∷ (party k o).callers) (party k o) else party k u))
  met_at u = puts_there k o c (with_callers (c ∷ (party k o).callers) (party k o)) (with_server (Some o) (party k c)) u (free_below k o o_free) (free_below k c c_free)

  pub met_callers : (u : ℕ) → (party (meet k c o) u).callers ≡ (if u == o then c ∷ (party k u).callers else (party k u).callers)
  met_callers u = ap (λ (p : Party). p.callers) (met_at u) ∙ go (u == c) (u == o) refl refl
    where
      go : (b d : Bool) → (u == c) ≡ b → (u == o) ≡ d →
          (if b then with_server (Some o) (party k c) else (if d then with_callers (c ∷ (party k o).callers) (party k o) else party k u)).callers ≡
          (if d then c ∷ (party k u).callers else (party k u).callers)
      go true true p q = absurd (true≢false (sym (subst (λ v. (v == o) ≡ true) (eqb-true u c p) q) ∙ apart))
      go true false p q = ap (λ v. (party k v).callers) (sym (eqb-true u c p))
      go false true p q = ap (λ v. c ∷ (party k v).callers) (sym (eqb-true u o q))
      go false false p q = refl

  met_server : (u : ℕ) → (party (meet k c o) u).server ≡ (if u == c then Some o else (party k u).server)
  met_server u = ap (λ (p : Party). p.server) (met_at u) ∙ go (u == c) (u == o) refl
    where
      go : (b d : Bool) → (u == o) ≡ d →
          (if b then with_server (Some o) (party k c) else (if d then with_callers (c ∷ (party k o).callers) (party k o) else party k u)).server ≡ (if b then Some o else (party k u).server)
      go true d q = refl
      go false true q = ap (λ v. (party k v).server) (sym (eqb-true u o q))
      go false false q = refl

  c_served_by_none : (a : ℕ) → is_served_by a (party k c) ≡ false
  c_served_by_none a = ap (is_by a) (free_server k c c_free)

  pub serve_met : Serve (meet k c o)
  serve_met = record {
    callers = λ a d. ap (times d) (met_callers a) ∙ go a d (a == o) (d == c) refl refl ∙ sym (ap (λ v. one (is_by a v)) (met_server d));
    itself = λ a. ap (is_by a) (met_server a) ∙ alone a (a == c) refl;
  }
    where
      go : (a d : ℕ) (x y : Bool) → (a == o) ≡ x → (d == c) ≡ y →
          times d (if x then c ∷ (party k a).callers else (party k a).callers) ≡ one (is_by a (if y then Some o else (party k d).server))
      go a d true true p q =
          ap (λ b. one b + times d (party k a).callers) (ap (λ v. c == v) (eqb-true d c q) ∙ equal_self c)
          ∙ ap (λ m. 1 + m) (s.callers a d ∙ ap one (ap (λ v. is_served_by a (party k v)) (eqb-true d c q) ∙ c_served_by_none a))
          ∙ sym (ap one (ap (λ v. o == v) (eqb-true a o p) ∙ equal_self o))
      go a d true false p q = ap (λ b. one b + times d (party k a).callers) (unequal_turned d c q) ∙ zero_more (times d (party k a).callers) ∙ s.callers a d
        where
          zero_more : (m : ℕ) → 0 + m ≡ m
          zero_more m = omega arith
      go a d false true p q = s.callers a d ∙ ap one (ap (λ v. is_served_by a (party k v)) (eqb-true d c q) ∙ c_served_by_none a) ∙ sym (ap one (unequal_turned a o p))
      go a d false false p q = s.callers a d

      alone : (a : ℕ) (x : Bool) → (a == c) ≡ x → is_by a (if x then Some o else (party k a).server) ≡ false
      alone a true q = ap (λ v. o == v) (eqb-true a c q) ∙ unequal_turned c o apart
      alone a false q = s.itself a

-- the innermost rendezvous ends
module _ (k : Known) (s : Serve k) (a c : ℕ) (cs : List ℕ) (free : is_free k a ≡ true) (callers : (party k a).callers ≡ c ∷ cs) where
  counted : (1 ≡ one (is_served_by a (party k c))) × (times c cs ≡ 0)
  counted = go (is_served_by a (party k c)) (sym (ap (λ b. one b + times c cs) (equal_self c)) ∙ sym (ap (times c) callers) ∙ s.callers a c)
    where
      go : (b : Bool) → 1 + times c cs ≡ one b → (1 ≡ one b) × (times c cs ≡ 0)
      go true q = (refl, omega (arith, q))
      go false q = absurd (omega (arith, q))

  serves : is_served_by a (party k c) ≡ true
  serves = go (is_served_by a (party k c)) counted.0
    where
      go : (b : Bool) → 1 ≡ one b → b ≡ true
      go true q = refl
      go false q = absurd (omega (arith, q))

  other : (c == a) ≡ false
  other = unequal c a (λ q. true≢false (sym (ap (λ v. is_served_by a (party k v)) (sym q) ∙ serves) ∙ s.itself a))

  parted_at : (u : ℕ) → party (part k a (c ∷ cs)) u ≡ (if u == c then with_server None (party k c) else (if u == a then with_callers cs (party k a) else party k u))
  parted_at u = puts_there k a c (with_callers cs (party k a)) (with_server None (party k c)) u (free_below k a free) (served_below k a c serves)

  pub parted_callers : (u : ℕ) → (party (part k a (c ∷ cs)) u).callers ≡ (if u == a then cs else (party k u).callers)
  parted_callers u = ap (λ (p : Party). p.callers) (parted_at u) ∙ go (u == c) (u == a) refl refl
    where
      go : (b d : Bool) → (u == c) ≡ b → (u == a) ≡ d →
          (if b then with_server None (party k c) else (if d then with_callers cs (party k a) else party k u)).callers ≡ (if d then cs else (party k u).callers)
      go true true p q = absurd (true≢false (sym (subst (λ v. (v == a) ≡ true) (eqb-true u c p) q) ∙ other))
      go true false p q = ap (λ v. (party k v).callers) (sym (eqb-true u c p))
      go false true p q = refl
      go false false p q = refl

  parted_server : (u : ℕ) → (party (part k a (c ∷ cs)) u).server ≡ (if u == c then None else (party k u).server)
  parted_server u = ap (λ (p : Party). p.server) (parted_at u) ∙ go (u == c) (u == a) refl
    where
      go : (b d : Bool) → (u == a) ≡ d →
          (if b then with_server None (party k c) else (if d then with_callers cs (party k a) else party k u)).server ≡ (if◌then◌else◌ {A = Option ℕ} b None (party k u).server)
      go true d q = refl
      go false true q = ap (λ v. (party k v).server) (sym (eqb-true u a q))
      go false false q = refl

  pub serve_parted : Serve (part k a (c ∷ cs))
  serve_parted = record {
    callers = λ u d. ap (times d) (parted_callers u) ∙ go u d (u == a) (d == c) refl refl ∙ sym (ap (λ v. one (is_by u v)) (parted_server d));
    itself = λ u. ap (is_by u) (parted_server u) ∙ alone u (u == c);
  }
    where
      first_served : (u d : ℕ) → (u == a) ≡ false → (d == c) ≡ true → is_served_by u (party k d) ≡ false
      first_served u d p q = ap (λ v. is_served_by u (party k v)) (eqb-true d c q) ∙ ap (is_by u) (by_is a (party k c).server serves) ∙ unequal_turned u a p

      go : (u d : ℕ) (x y : Bool) → (u == a) ≡ x → (d == c) ≡ y →
          times d (if x then cs else (party k u).callers) ≡ one (is_by u (if◌then◌else◌ {A = Option ℕ} y None (party k d).server))
      go u d true true p q = ap (λ v. times v cs) (eqb-true d c q) ∙ counted.1
      go u d true false p q =
          sym (ap (λ b. one b + times d cs) (unequal_turned d c q) ∙ zero_more (times d cs)) ∙ sym (ap (times d) callers)
          ∙ ap (λ v. times d (party k v).callers) (sym (eqb-true u a p)) ∙ s.callers u d
        where
          zero_more : (m : ℕ) → 0 + m ≡ m
          zero_more m = omega arith
      go u d false true p q = s.callers u d ∙ ap one (first_served u d p q)
      go u d false false p q = s.callers u d

      alone : (u : ℕ) (x : Bool) → is_by u (if◌then◌else◌ {A = Option ℕ} x None (party k u).server) ≡ false
      alone u true = refl
      alone u false = s.itself u

-- a task that is not closed is closed by an abort
module _ (k : Known) (s : Serve k) (x : ℕ) (open' : is_closed k x ≡ false) where
  fallen_at : (u : ℕ) → party (fall k x) u ≡ (if u == x then record { closed = true; server = (party k x).server; callers = [] } else let_go x (party k u))
  fallen_at u =
      put_there (all_let_go x k) x (record { closed = true; server = (party k x).server; callers = [] }) u (subst (λ n. x < n) (sym (length-map k.parties (let_go x))) (open_below k x open'))
      ∙ ap (λ y. if u == x then record { closed = true; server = (party k x).server; callers = [] } else y) (let_go_at x k u)

  let_go_callers : (b : Bool) (p : Party) → (if b then with_server None p else p).callers ≡ p.callers
  let_go_callers true p = refl
  let_go_callers false p = refl

  pub fallen_callers : (u : ℕ) → (party (fall k x) u).callers ≡ (if u == x then [] else (party k u).callers)
  fallen_callers u = ap (λ (p : Party). p.callers) (fallen_at u) ∙ go (u == x)
    where
      go : (b : Bool) → (if b then record { closed = true; server = (party k x).server; callers = [] } else let_go x (party k u)).callers ≡ (if◌then◌else◌ {A = List ℕ} b [] (party k u).callers)
      go true = refl
      go false = let_go_callers (is_served_by x (party k u)) (party k u)

  fallen_server : (u : ℕ) → (party (fall k x) u).server ≡ (if is_served_by x (party k u) then None else (party k u).server)
  fallen_server u = ap (λ (p : Party). p.server) (fallen_at u) ∙ go (u == x) (is_served_by x (party k u)) refl refl
    where
      go : (b d : Bool) → (u == x) ≡ b → is_served_by x (party k u) ≡ d →
          (if b then record { closed = true; server = (party k x).server; callers = [] } else (if d then with_server None (party k u) else party k u)).server ≡
          (if◌then◌else◌ {A = Option ℕ} d None (party k u).server)
      go true true p q = absurd (true≢false (sym (ap (λ v. is_served_by x (party k v)) (sym (eqb-true u x p)) ∙ q) ∙ s.itself x))
      go true false p q = ap (λ v. (party k v).server) (sym (eqb-true u x p))
      go false true p q = refl
      go false false p q = refl

  pub serve_fallen : Serve (fall k x)
  serve_fallen = record {
    callers = λ u d. ap (times d) (fallen_callers u) ∙ go u d (u == x) (is_served_by x (party k d)) refl refl ∙ sym (ap (λ v. one (is_by u v)) (fallen_server d));
    itself = λ u. ap (is_by u) (fallen_server u) ∙ alone u (is_served_by x (party k u));
  }
    where
      go : (u d : ℕ) (b e : Bool) → (u == x) ≡ b → is_served_by x (party k d) ≡ e →
          times d (if◌then◌else◌ {A = List ℕ} b [] (party k u).callers) ≡ one (is_by u (if◌then◌else◌ {A = Option ℕ} e None (party k d).server))
      go u d true true p q = refl
      go u d true false p q = sym (ap one (ap (λ v. is_served_by v (party k d)) (eqb-true u x p) ∙ q))
      go u d false true p q = s.callers u d ∙ ap one (ap (is_by u) (by_is x (party k d).server q) ∙ unequal_turned u x p)
      go u d false false p q = s.callers u d

      alone : (u : ℕ) (e : Bool) → is_by u (if◌then◌else◌ {A = Option ℕ} e None (party k u).server) ≡ false
      alone u true = refl
      alone u false = s.itself u

-- a task completes
module _ (k : Known) (a : ℕ) (free : is_free k a ≡ true) where
  abbrev done : Party
  done = record { closed = true; server = (party k a).server; callers = (party k a).callers }

  completed_keeps : {A : Type 0} (f : Party → A) (u : ℕ) → f done ≡ f (party k a) → f (party (complete k a) u) ≡ f (party k u)
  completed_keeps f u h = ap f (put_there k a done u (free_below k a free)) ∙ either_way f k a done u h

  pub completed_callers : (u : ℕ) → (party (complete k a) u).callers ≡ (party k u).callers
  completed_callers u = completed_keeps (λ p. p.callers) u refl

  serve_completed : Serve k → Serve (complete k a)
  serve_completed s = same_serve k (complete k a) completed_callers (λ u. completed_keeps (λ p. p.server) u refl) s

-- An event that is admitted.
pub serve_advanced : (owner : ℕ → ℕ) (k : Known) (e : Event) → admits owner k e ≡ true → Serve k → Serve (advanced owner k e)
serve_advanced owner k e a s = go e (and_parts (not k.ended) (suits owner k e) a).1
  where
    parted : (a : ℕ) (callers : List ℕ) → (party k a).callers ≡ callers → is_free k a ≡ true → Serve (part k a callers)
    parted a [] q f = s
    parted a (c ∷ cs) q f = serve_parted k s a c cs f q

    fallen : (x : ℕ) (b : Bool) → is_closed k x ≡ b → Serve (if b then k else fall k x)
    fallen x true q = s
    fallen x false q = serve_fallen k s x q

    go : (e : Event) → suits owner k e ≡ true → Serve (advanced owner k e)
    go (R c e i) f =
        let more = and_parts (is_free k c) (is_free k (owner e) && not (c == owner e)) f in
        let last = and_parts (is_free k (owner e)) (not (c == owner e)) more.1 in
        serve_met k s c (owner e) more.0 last.0 (not_true (c == owner e) last.1)
    go (E a) f = parted a (party k a).callers refl (and_parts (is_free k a) (has_callers (party k a).callers) f).0
    go (S a) f = s
    go (D a m) f = s
    go (C c e i) f = s
    go (T c e i) f = s
    go (F c e i) f = s
    go (X a) f = serve_completed k a (and_parts (is_free k a) (not (has_callers (party k a).callers)) f).0 s
    go (B t x) f = fallen x (is_closed k x) refl
    go Z f = record { callers = s.callers; itself = s.itself }
