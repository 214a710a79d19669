-- What an event changes: a task that it does not touch is known as before, and what it makes of the tasks that it touches depends on these alone.
use Rattle.std.proofs.Common.{◌≡◌, ℕ, ℤ, ◌<◌, ◌≤◌, Bool, true, false, not, ◌&&◌, ◌||◌, ◌==◌, if◌then◌else◌, List, [], ◌∷◌, length, Some, None, is_some, refl, sym, ap, ◌∙◌, subst, ⊎_elim, true≢false, length-set}
use Rattle.std.proofs.lemmas.Bool.{cases_lt, eqb-true, and_parts, or_parts, or_left, or_right}
use Rattle.std.proofs.lemmas.List.{get_or_past, length-map}
use Rattle.common_lemmas.proofs.Numbers.{equal_self}
use Rattle.event_machine.specs.declared.Event.{Event}
use Rattle.event_machine.specs.declared.Event.TheVariants.{R, E, S, D, C, T, F, X, B, Z}
use Rattle.event_machine.specs.Worlds.{is_last}
use Rattle.event_machine.specs.progress.Known.{Party, Known, nobody, party, is_closed, is_free, is_served_by, is_innermost, has_callers, admits, suits, put, part, fall, let_go, with_server, with_callers, advanced, touches}
use Rattle.event_machine.proofs.progress.Parties.{known_below, put_self, put_other, all_let_go, let_go_at}
use Rattle.control_script.proofs.Writing.{as_many}

-- ---- tasks

-- a number that no task has
pub beyond : (k : Known) (u : ℕ) → length k.parties ≤ u → party k u ≡ nobody
beyond k u l = get_or_past k.parties u nobody l

-- a free task is one of the tasks
pub free_below : (k : Known) (t : ℕ) → is_free k t ≡ true → t < length k.parties
free_below k t h = known_below (λ p. not p.closed && not (is_some p.server)) k t refl h

-- ---- how a task is known after each write

pub put_is : (k : Known) (t : ℕ) (p : Party) (u : ℕ) → u < length k.parties → party (put k t p) u ≡ (if u == t then p else party k u)
put_is k t p u l = go (u == t) refl
  where
    go : (b : Bool) → (u == t) ≡ b → party (put k t p) u ≡ (if b then p else party k u)
    go true q = subst (λ v. party (put k v p) u ≡ p) (eqb-true u t q) (put_self k u p l)
    go false q = put_other k t u p q

puts_are : (k : Known) (a c : ℕ) (p q : Party) (u : ℕ) → u < length k.parties → party (put (put k a p) c q) u ≡ (if u == c then q else (if u == a then p else party k u))
puts_are k a c p q u l =
    put_is (put k a p) c q u (subst (λ n. u < n) (sym (length-set k.parties a p)) l) ∙ ap (λ y. if u == c then q else y) (put_is k a p u l)

-- how a task is known after the innermost rendezvous of a, with these callers, ends
abbrev pub after_part : Known → ℕ → List ℕ → ℕ → Party
after_part k a [] u = party k u
after_part k a (c ∷ callers) u = if u == c then with_server None (party k c) else (if u == a then with_callers callers (party k a) else party k u)

-- how a task is known after x, which is not closed, is closed by an abort
abbrev pub after_fall : Known → ℕ → ℕ → Party
after_fall k x u = if u == x then record { closed = true; server = (party k x).server; callers = [] } else let_go x (party k u)

-- How a task is known after an event.
abbrev pub changed : (ℕ → ℕ) → Known → Event → ℕ → Party
changed owner k (R c e i) u =
    if u == c then with_server (Some (owner e)) (party k c) else (if u == owner e then with_callers (c ∷ (party k (owner e)).callers) (party k (owner e)) else party k u)
changed owner k (E a) u = after_part k a (party k a).callers u
changed owner k (S a) u = party k u
changed owner k (D a n) u = party k u
changed owner k (C c e i) u = party k u
changed owner k (T c e i) u = party k u
changed owner k (F c e i) u = party k u
changed owner k (X a) u = if u == a then record { closed = true; server = (party k a).server; callers = (party k a).callers } else party k u
changed owner k (B t x) u = if is_closed k x then party k u else after_fall k x u
changed owner k Z u = party k u

part_is : (k : Known) (a : ℕ) (callers : List ℕ) (u : ℕ) → u < length k.parties → party (part k a callers) u ≡ after_part k a callers u
part_is k a [] u l = refl
part_is k a (c ∷ callers) u l = puts_are k a c (with_callers callers (party k a)) (with_server None (party k c)) u l

fall_is : (k : Known) (x u : ℕ) → u < length k.parties → party (fall k x) u ≡ after_fall k x u
fall_is k x u l =
    put_is (all_let_go x k) x (record { closed = true; server = (party k x).server; callers = [] }) u (subst (λ n. u < n) (sym (length-map k.parties (let_go x))) l)
    ∙ ap (λ y. if u == x then record { closed = true; server = (party k x).server; callers = [] } else y) (let_go_at x k u)

pub changed_is : (owner : ℕ → ℕ) (k : Known) (e : Event) (u : ℕ) → u < length k.parties → party (advanced owner k e) u ≡ changed owner k e u
changed_is owner k (R c e i) u l = puts_are k (owner e) c (with_callers (c ∷ (party k (owner e)).callers) (party k (owner e))) (with_server (Some (owner e)) (party k c)) u l
changed_is owner k (E a) u l = part_is k a (party k a).callers u l
changed_is owner k (S a) u l = refl
changed_is owner k (D a n) u l = refl
changed_is owner k (C c e i) u l = refl
changed_is owner k (T c e i) u l = refl
changed_is owner k (F c e i) u l = refl
changed_is owner k (X a) u l = put_is k a (record { closed = true; server = (party k a).server; callers = (party k a).callers }) u l
changed_is owner k (B t x) u l = go (is_closed k x)
  where
    go : (b : Bool) → party (if b then k else fall k x) u ≡ (if b then party k u else after_fall k x u)
    go true = refl
    go false = fall_is k x u l
changed_is owner k Z u l = refl

-- ---- a task that is not touched

neither : {A : Type 0} (b d : Bool) (x y z : A) → (b || d) ≡ false → (if b then x else (if d then y else z)) ≡ z
neither true d x y z h = absurd (true≢false h)
neither false true x y z h = absurd (true≢false h)
neither false false x y z h = refl

unchanged : (owner : ℕ → ℕ) (k : Known) (e : Event) (u : ℕ) → touches owner k e u ≡ false → changed owner k e u ≡ party k u
unchanged owner k (R c e i) u h = neither (u == c) (u == owner e) _ _ _ h
unchanged owner k (E a) u h = go (party k a).callers h
  where
    turned : (b d : Bool) → (b || d) ≡ false → (d || b) ≡ false
    turned true d q = absurd (true≢false q)
    turned false true q = absurd (true≢false q)
    turned false false q = refl

    go : (callers : List ℕ) → ((u == a) || is_innermost u callers) ≡ false → after_part k a callers u ≡ party k u
    go [] q = refl
    go (c ∷ callers) q = neither (u == c) (u == a) _ _ _ (turned (u == a) (u == c) q)
unchanged owner k (S a) u h = refl
unchanged owner k (D a n) u h = refl
unchanged owner k (C c e i) u h = refl
unchanged owner k (T c e i) u h = refl
unchanged owner k (F c e i) u h = refl
unchanged owner k (X a) u h = go (u == a) h
  where
    go : (b : Bool) → b ≡ false → (if b then record { closed = true; server = (party k a).server; callers = (party k a).callers } else party k u) ≡ party k u
    go true q = absurd (true≢false q)
    go false q = refl
unchanged owner k (B t x) u h = go (is_closed k x)
  where
    go : (b : Bool) → (if b then party k u else after_fall k x u) ≡ party k u
    go true = refl
    go false = neither (u == x) (is_served_by x (party k u)) _ _ _ (or_parts (u == t) ((u == x) || is_served_by x (party k u)) h).1
unchanged owner k Z u h = absurd (true≢false h)

-- A task that the event does not touch is known as before.
pub untouched : (owner : ℕ → ℕ) (k : Known) (e : Event) (u : ℕ) → touches owner k e u ≡ false → party (advanced owner k e) u ≡ party k u
untouched owner k e u h = ⊎_elim (λ l. changed_is owner k e u l ∙ unchanged owner k e u h)
    (λ l. beyond (advanced owner k e) u (subst (λ n. n ≤ u) (sym (as_many owner k e)) l) ∙ sym (beyond k u l)) (cases_lt u (length k.parties))

-- the same where it touches the task only past the last
pub missed : (owner : ℕ → ℕ) (n : ℕ) (k : Known) (e : Event) (u : ℕ) → length k.parties ≡ n → (u < n → touches owner k e u ≡ false) → party (advanced owner k e) u ≡ party k u
missed owner n k e u q h = ⊎_elim (λ l. untouched owner k e u (h (subst (λ m. u < m) q l)))
    (λ l. beyond (advanced owner k e) u (subst (λ m. m ≤ u) (sym (as_many owner k e)) l) ∙ sym (beyond k u l)) (cases_lt u (length k.parties))

-- ---- what the touched tasks decide

-- Both know the same of each task that the event touches, by what is known in the first.
abbrev pub Agree : (ℕ → ℕ) → Known → Known → Event → Type 0
Agree owner k m e = (u : ℕ) → touches owner k e u ≡ true → party m u ≡ party k u

itself : (t : ℕ) (b : Bool) → ((t == t) || b) ≡ true
itself t b = or_left (t == t) b (equal_self t)

second : (b : Bool) (t : ℕ) → (b || (t == t)) ≡ true
second b t = or_right b (t == t) (equal_self t)

-- its actor, with whom and whom it aborts are touched
pub caller_touched : (owner : ℕ → ℕ) (k : Known) (c e : ℕ) (i : ℤ) → touches owner k (R c e i) c ≡ true
caller_touched owner k c e i = itself c (c == owner e)

pub owner_touched : (owner : ℕ → ℕ) (k : Known) (c e : ℕ) (i : ℤ) → touches owner k (R c e i) (owner e) ≡ true
owner_touched owner k c e i = second (owner e == c) (owner e)

pub victim_touched : (owner : ℕ → ℕ) (k : Known) (t x : ℕ) → touches owner k (B t x) x ≡ true
victim_touched owner k t x = or_right (x == t) ((x == x) || is_served_by x (party k x)) (itself x (is_served_by x (party k x)))

-- The event suits as well.
pub suits_same : (owner : ℕ → ℕ) (k m : Known) (e : Event) → is_last e ≡ false → Agree owner k m e → suits owner m e ≡ suits owner k e
suits_same owner k m (R c e i) q h =
    let p = h c (itself c (c == owner e)) in
    let o = h (owner e) (second (owner e == c) (owner e)) in
    λ j. (not (p j).closed && not (is_some (p j).server)) && ((not (o j).closed && not (is_some (o j).server)) && not (c == owner e))
suits_same owner k m (E a) q h =
    let p = h a (itself a (is_innermost a (party k a).callers)) in
    λ j. (not (p j).closed && not (is_some (p j).server)) && has_callers (p j).callers
suits_same owner k m (S a) q h = let p = h a (equal_self a) in λ j. not (p j).closed && not (is_some (p j).server)
suits_same owner k m (D a n) q h = let p = h a (equal_self a) in λ j. not (p j).closed && not (is_some (p j).server)
suits_same owner k m (C c e i) q h =
    let p = h c (itself c (c == owner e)) in
    let o = h (owner e) (second (owner e == c) (owner e)) in
    λ j. (not (p j).closed && not (is_some (p j).server)) && not (o j).closed
suits_same owner k m (T c e i) q h =
    let p = h c (itself c (c == owner e)) in
    let o = h (owner e) (second (owner e == c) (owner e)) in
    λ j. (not (p j).closed && not (is_some (p j).server)) && not (o j).closed
suits_same owner k m (F c e i) q h =
    let p = h c (itself c (c == owner e)) in
    let o = h (owner e) (second (owner e == c) (owner e)) in
    λ j. (not (p j).closed && not (is_some (p j).server)) && (o j).closed
suits_same owner k m (X a) q h =
    let p = h a (equal_self a) in
    λ j. (not (p j).closed && not (is_some (p j).server)) && not (has_callers (p j).callers)
suits_same owner k m (B t x) q h =
    let p = h t (itself t ((t == x) || is_served_by x (party k t))) in
    λ j. not (p j).closed && not (is_some (p j).server)
suits_same owner k m Z q h = absurd (true≢false q)

changed_same : (owner : ℕ → ℕ) (k m : Known) (e : Event) → Agree owner k m e → (u : ℕ) → touches owner k e u ≡ true → changed owner m e u ≡ changed owner k e u
changed_same owner k m (R c e i) h u g =
    let p = h c (itself c (c == owner e)) in
    let o = h (owner e) (second (owner e == c) (owner e)) in
    let r = h u g in
    λ j. if u == c then with_server (Some (owner e)) (p j) else (if u == owner e then with_callers (c ∷ (o j).callers) (o j) else r j)
changed_same owner k m (E a) h u g =
    ap (λ (p : Party). after_part m a p.callers u) acceptor ∙ go (party k a).callers (λ c q. h c (or_right (c == a) (is_innermost c (party k a).callers) q))
  where
    acceptor : party m a ≡ party k a
    acceptor = h a (itself a (is_innermost a (party k a).callers))

    go : (callers : List ℕ) → ((c : ℕ) → is_innermost c callers ≡ true → party m c ≡ party k c) → after_part m a callers u ≡ after_part k a callers u
    go [] l = h u g
    go (c ∷ callers) l = let p = l c (equal_self c) in let r = h u g in
        λ j. if u == c then with_server None (p j) else (if u == a then with_callers callers (acceptor j) else r j)
changed_same owner k m (S a) h u g = h u g
changed_same owner k m (D a n) h u g = h u g
changed_same owner k m (C c e i) h u g = h u g
changed_same owner k m (T c e i) h u g = h u g
changed_same owner k m (F c e i) h u g = h u g
changed_same owner k m (X a) h u g =
    let p = h a (equal_self a) in
    let r = h u g in
    λ j. if u == a then record { closed = true; server = (p j).server; callers = (p j).callers } else r j
changed_same owner k m (B t x) h u g =
    let p = h x (victim_touched owner k t x) in
    let r = h u g in
    λ j. if (p j).closed then r j else (if u == x then record { closed = true; server = (p j).server; callers = [] } else let_go x (r j))
changed_same owner k m Z h u g = h u g

-- It makes the same of each task that it touches.
pub touched_same : (owner : ℕ → ℕ) (k m : Known) (e : Event) → length m.parties ≡ length k.parties → Agree owner k m e → (u : ℕ) → touches owner k e u ≡ true →
    party (advanced owner m e) u ≡ party (advanced owner k e) u
touched_same owner k m e n h u g = ⊎_elim
    (λ l. changed_is owner m e u (subst (λ s. u < s) (sym n) l) ∙ changed_same owner k m e h u g ∙ sym (changed_is owner k e u l))
    (λ l. beyond (advanced owner m e) u (subst (λ s. s ≤ u) (sym (as_many owner m e ∙ n)) l) ∙ sym (beyond (advanced owner k e) u (subst (λ s. s ≤ u) (sym (as_many owner k e)) l)))
    (cases_lt u (length k.parties))

-- ---- who is served

-- An event that is admitted makes nobody a caller of a task that it does not touch.
pub new_server : (owner : ℕ → ℕ) (n : ℕ) (k : Known) (e : Event) (x u : ℕ) → length k.parties ≡ n → admits owner k e ≡ true → (x < n → touches owner k e x ≡ false) →
    is_served_by x (party k u) ≡ false → is_served_by x (party (advanced owner k e) u) ≡ false
new_server owner n k e x u q a h s = ⊎_elim (λ l. ap (is_served_by x) (changed_is owner k e u l) ∙ go e (and_parts (not k.ended) (suits owner k e) a).1 h)
    (λ l. ap (is_served_by x) (beyond (advanced owner k e) u (subst (λ m. m ≤ u) (sym (as_many owner k e)) l))) (cases_lt u (length k.parties))
  where
    same_task : (v : ℕ) → (u == v) ≡ true → is_served_by x (party k v) ≡ false
    same_task v g = ap (λ w. is_served_by x (party k w)) (sym (eqb-true u v g)) ∙ s

    not_owner : (o : ℕ) (b : Bool) → (o == x) ≡ b → o < n → (x < n → (b : Bool) × ((b || (x == o)) ≡ false)) → (o == x) ≡ false
    not_owner o true g l t = let r = t (subst (λ v. v < n) (eqb-true o x g) l) in
        absurd (true≢false (sym (or_right r.0 (x == o) (subst (λ v. (x == v) ≡ true) (sym (eqb-true o x g)) (equal_self x))) ∙ r.1))
    not_owner o false g l t = g

    met : (c o : ℕ) (cs : List ℕ) (b d : Bool) → (o == x) ≡ false → (u == o) ≡ d →
        is_served_by x (if b then with_server (Some o) (party k c) else (if d then with_callers cs (party k o) else party k u)) ≡ false
    met c o cs true d g r = g
    met c o cs false true g r = same_task o r
    met c o cs false false g r = s

    parted : (a : ℕ) (callers : List ℕ) → is_served_by x (after_part k a callers u) ≡ false
    parted a [] = s
    parted a (c ∷ callers) = by (u == c) (u == a) refl
      where
        by : (b d : Bool) → (u == a) ≡ d → is_served_by x (if b then with_server None (party k c) else (if d then with_callers callers (party k a) else party k u)) ≡ false
        by true d r = refl
        by false true r = same_task a r
        by false false r = s

    completed : (a : ℕ) (b : Bool) → (u == a) ≡ b →
        is_served_by x (if b then record { closed = true; server = (party k a).server; callers = (party k a).callers } else party k u) ≡ false
    completed a true r = same_task a r
    completed a false r = s

    gone : (y : ℕ) (b : Bool) → is_served_by x (if b then with_server None (party k u) else party k u) ≡ false
    gone y true = refl
    gone y false = s

    fallen : (y : ℕ) (b d : Bool) → (u == y) ≡ d →
        is_served_by x (if b then party k u else (if d then record { closed = true; server = (party k y).server; callers = [] } else let_go y (party k u))) ≡ false
    fallen y true d r = s
    fallen y false true r = same_task y r
    fallen y false false r = gone y (is_served_by y (party k u))

    go : (e : Event) → suits owner k e ≡ true → (x < n → touches owner k e x ≡ false) → is_served_by x (changed owner k e u) ≡ false
    go (R c e i) f t = met c (owner e) (c ∷ (party k (owner e)).callers) (u == c) (u == owner e)
        (not_owner (owner e) (owner e == x) refl (subst (λ m. owner e < m) q (free_below k (owner e) free)) (λ l. (x == c, t l))) refl
      where
        free : is_free k (owner e) ≡ true
        free = (and_parts (is_free k (owner e)) (not (c == owner e)) (and_parts (is_free k c) (is_free k (owner e) && not (c == owner e)) f).1).0
    go (E a) f t = parted a (party k a).callers
    go (S a) f t = s
    go (D a m) f t = s
    go (C c e i) f t = s
    go (T c e i) f t = s
    go (F c e i) f t = s
    go (X a) f t = completed a (u == a) refl
    go (B t' y) f t = fallen y (is_closed k y) (u == y) refl
    go Z f t = s

-- An event that is admitted touches a task.
pub touches_one : (owner : ℕ → ℕ) (n : ℕ) (k : Known) (e : Event) → length k.parties ≡ n → 0 < n → admits owner k e ≡ true → (t : ℕ) × (t < n) × (touches owner k e t ≡ true)
touches_one owner n k e q z a = go e (and_parts (not k.ended) (suits owner k e) a).1
  where
    there : (t : ℕ) → is_free k t ≡ true → t < n
    there t f = subst (λ m. t < m) q (free_below k t f)

    go : (e : Event) → suits owner k e ≡ true → (t : ℕ) × (t < n) × (touches owner k e t ≡ true)
    go (R c e i) f = (c, there c (and_parts (is_free k c) (is_free k (owner e) && not (c == owner e)) f).0, itself c (c == owner e))
    go (E a) f = (a, there a (and_parts (is_free k a) (has_callers (party k a).callers) f).0, itself a (is_innermost a (party k a).callers))
    go (S a) f = (a, there a f, equal_self a)
    go (D a m) f = (a, there a f, equal_self a)
    go (C c e i) f = (c, there c (and_parts (is_free k c) (not (is_closed k (owner e))) f).0, itself c (c == owner e))
    go (T c e i) f = (c, there c (and_parts (is_free k c) (not (is_closed k (owner e))) f).0, itself c (c == owner e))
    go (F c e i) f = (c, there c (and_parts (is_free k c) (is_closed k (owner e)) f).0, itself c (c == owner e))
    go (X a) f = (a, there a (and_parts (is_free k a) (not (has_callers (party k a).callers)) f).0, equal_self a)
    go (B t x) f = (t, there t f, itself t ((t == x) || is_served_by x (party k t)))
    go Z f = (0, z, refl)
