-- The callers of each task, kept beside what is known.
use Rattle.std.proofs.Common.{◌≡◌, ℕ, ◌+◌, ◌-◌, ◌<◌, ◌≤◌, Bool, true, false, not, ◌&&◌, ◌==◌, if◌then◌else◌, List, [], ◌∷◌, ◌++◌, length, take, reverse, set, replicate, refl, sym, ap, ◌∙◌, subst, ⊎_elim, true≢false, length-set, arith}
use Rattle.std.proofs.lemmas.Bool.{cases_lt, eqb-true, eqb-false, and_parts}
use Rattle.std.proofs.lemmas.List.{get_or-set_same, get_or-set_other, reverse-append, reverse-reverse, length-append, length-replicate}
use Rattle.std.proofs.Math.Seq.{take-append_seam}
use Rattle.common_lemmas.proofs.Truth.{not_true}
use Rattle.event_machine.specs.declared.Event.{Event}
use Rattle.event_machine.specs.declared.Event.TheVariants.{R, E, S, D, C, T, F, X, B, Z}
use Rattle.event_machine.specs.progress.Known.{Party, Known, party, known_at_start, is_closed, is_free, has_callers, admits, suits, part, complete, fall, meet, advanced}
use Rattle.event_machine.proofs.progress.Parties.{idle_at, idle_length}
use Rattle.control_script.proofs.Writing.{as_many}
use Rattle.syn_order.specs.inner.Lists.{at_place}
use Rattle.syn_order.specs.inner.Callers.{Serve, AreCallers, all_but_last, callers_after}
use Rattle.syn_order.proofs.Locality.{beyond, free_below}
use Rattle.syn_order.proofs.Placing.{empty_at}
use Rattle.syn_order.proofs.Callers.{met_callers, parted_callers, fallen_callers, completed_callers, open_below, serve_advanced, serve_at_start}

-- ---- lists at places

pub set_at : {A : Type 0} (lists : List (List A)) (t : ℕ) (xs : List A) (u : ℕ) → t < length lists → at_place (set lists t xs) u ≡ (if u == t then xs else at_place lists u)
set_at lists t xs u l = go (u == t) refl
  where
    go : (b : Bool) → (u == t) ≡ b → at_place (set lists t xs) u ≡ (if b then xs else at_place lists u)
    go true q = ap (at_place (set lists t xs)) (eqb-true u t q) ∙ get_or-set_same lists t xs [] l
    go false q = get_or-set_other lists t u xs [] (eqb-false u t q)

reverse_last : (xs : List ℕ) (x : ℕ) → reverse (xs ++ x ∷ []) ≡ x ∷ reverse xs
reverse_last xs x = reverse-append xs (x ∷ [])

-- the reverse of all but the last is the rest of the reverse
rest_reverse : (xs : List ℕ) (c : ℕ) (cs : List ℕ) → reverse xs ≡ c ∷ cs → reverse (all_but_last xs) ≡ cs
rest_reverse xs c cs h = ap (λ ys. reverse (take (length ys - 1) ys)) whole ∙ ap reverse front ∙ reverse-reverse cs
  where
    whole : xs ≡ reverse cs ++ c ∷ []
    whole = sym (reverse-reverse xs) ∙ ap reverse h ∙ reverse-append (c ∷ []) cs

    count : length (reverse cs ++ c ∷ []) - 1 ≡ length (reverse cs)
    count = let l : length (reverse cs ++ c ∷ []) ≡ length (reverse cs) + 1 = length-append (reverse cs) (c ∷ []) in omega (arith, l)

    front : take (length (reverse cs ++ c ∷ []) - 1) (reverse cs ++ c ∷ []) ≡ reverse cs
    front = ap (λ m. take m (reverse cs ++ c ∷ [])) count ∙ take-append_seam (reverse cs) (c ∷ [])

-- ---- an event

module _ (owner : ℕ → ℕ) (k : Known) (stacks : List (List ℕ)) (h : AreCallers k stacks) where
  within : (t : ℕ) → t < length k.parties → t < length stacks
  within t l = subst (λ n. t < n) (sym h.many) l

  written : (m : Known) (t : ℕ) (xs ys : List ℕ) → length m.parties ≡ length k.parties → t < length k.parties →
      ((u : ℕ) → (party m u).callers ≡ (if u == t then ys else (party k u).callers)) → ys ≡ reverse xs → Serve m → AreCallers m (set stacks t xs)
  written m t xs ys n l g q s = record {
    many = length-set stacks t xs ∙ h.many ∙ sym n;
    kept = λ u. g u ∙ go u (u == t) ∙ sym (ap reverse (set_at stacks t xs u (within t l)));
    serve = s;
  }
    where
      go : (u : ℕ) (b : Bool) → (if b then ys else (party k u).callers) ≡ reverse (if b then xs else at_place stacks u)
      go u true = q
      go u false = h.kept u

  same_callers : (m : Known) → length m.parties ≡ length k.parties → ((u : ℕ) → (party m u).callers ≡ (party k u).callers) → Serve m → AreCallers m stacks
  same_callers m n g s = record { many = h.many ∙ sym n; kept = λ u. g u ∙ h.kept u; serve = s }

  pub kept_after : (e : Event) → admits owner k e ≡ true → AreCallers (advanced owner k e) (callers_after owner k e stacks)
  kept_after e a = go e (and_parts (not k.ended) (suits owner k e) a).1 (as_many owner k e) (serve_advanced owner k e a h.serve)
    where
      go : (e : Event) → suits owner k e ≡ true → length (advanced owner k e).parties ≡ length k.parties → Serve (advanced owner k e) → AreCallers (advanced owner k e) (callers_after owner k e stacks)
      go (R c e i) f n s =
          let more = and_parts (is_free k c) (is_free k (owner e) && not (c == owner e)) f in
          let last = and_parts (is_free k (owner e)) (not (c == owner e)) more.1 in
          written (meet k c (owner e)) (owner e) (at_place stacks (owner e) ++ c ∷ []) (c ∷ (party k (owner e)).callers) n (free_below k (owner e) last.0)
          (λ u. met_callers k h.serve c (owner e) more.0 last.0 (not_true (c == owner e) last.1) u ∙ there c (owner e) u (u == owner e) refl)
          (ap (λ cs. c ∷ cs) (h.kept (owner e)) ∙ sym (reverse_last (at_place stacks (owner e)) c)) s
        where
          there : (c o u : ℕ) (b : Bool) → (u == o) ≡ b → (if b then c ∷ (party k u).callers else (party k u).callers) ≡ (if b then c ∷ (party k o).callers else (party k u).callers)
          there c o u true q = ap (λ v. c ∷ (party k v).callers) (eqb-true u o q)
          there c o u false q = refl
      go (E a) f n s = let parts = and_parts (is_free k a) (has_callers (party k a).callers) f in parted a (party k a).callers refl parts.0 parts.1 n s
        where
          parted : (a : ℕ) (callers : List ℕ) → (party k a).callers ≡ callers → is_free k a ≡ true → has_callers callers ≡ true → length (part k a callers).parties ≡ length k.parties →
              Serve (part k a callers) → AreCallers (part k a callers) (set stacks a (all_but_last (at_place stacks a)))
          parted a [] q free some n s = absurd (true≢false (sym some))
          parted a (c ∷ cs) q free some n s =
              written (part k a (c ∷ cs)) a (all_but_last (at_place stacks a)) cs n (free_below k a free) (parted_callers k h.serve a c cs free q)
              (sym (rest_reverse (at_place stacks a) c cs (sym (h.kept a) ∙ q))) s
      go (S a) f n s = h
      go (D a m) f n s = h
      go (C c e i) f n s = h
      go (T c e i) f n s = h
      go (F c e i) f n s = h
      go (X a) f n s = same_callers (complete k a) n (completed_callers k a (and_parts (is_free k a) (not (has_callers (party k a).callers)) f).0) s
      go (B t x) f n s = fallen x (is_closed k x) refl n s
        where
          fallen : (x : ℕ) (b : Bool) → is_closed k x ≡ b → length (if b then k else fall k x).parties ≡ length k.parties → Serve (if b then k else fall k x) →
              AreCallers (if b then k else fall k x) (if b then stacks else set stacks x [])
          fallen x true q n s = h
          fallen x false q n s = written (fall k x) x [] [] n (open_below k x q) (fallen_callers k h.serve x q) refl s
      go Z f n s = record { many = h.many; kept = h.kept; serve = s }

  pub kept_by : (e : Event) (m : Known) (after : List (List ℕ)) → admits owner k e ≡ true → m ≡ advanced owner k e → after ≡ callers_after owner k e stacks → AreCallers m after
  kept_by e m after a q r = subst (λ v. AreCallers v after) (sym q) (subst (AreCallers (advanced owner k e)) (sym r) (kept_after e a))

-- before the first event no task has a caller
pub kept_at_start : (n m : ℕ) (k : Known) (stacks : List (List ℕ)) → k ≡ known_at_start n → stacks ≡ replicate m [] → m ≡ n → AreCallers k stacks
kept_at_start n m k stacks q r s = subst (λ v. AreCallers v stacks) (sym q) (subst (AreCallers (known_at_start n)) (sym (r ∙ ap (λ c. replicate c []) s)) start)
  where
    no_callers : (t : ℕ) → (party (known_at_start n) t).callers ≡ []
    no_callers t = ⊎_elim (λ l. ap (λ (p : Party). p.callers) (idle_at n t l))
        (λ l. ap (λ (p : Party). p.callers) (beyond (known_at_start n) t (subst (λ v. v ≤ t) (sym (idle_length n)) l))) (cases_lt t n)

    start : AreCallers (known_at_start n) (replicate n [])
    start = record {
      many = length-replicate n [] ∙ sym (idle_length n);
      kept = λ t. no_callers t ∙ sym (ap reverse (empty_at n t));
      serve = serve_at_start n;
    }
