-- Neighbours that are apart: each is admitted before and behind the other, touches the same tasks there, and both orders lead to the same.
use Rattle.std.proofs.Common.{◌≡◌, ℕ, ◌<◌, Bool, true, false, not, ◌&&◌, ◌||◌, ◌==◌, length, refl, sym, ap, ◌∙◌, subst, true≢false}
use Rattle.std.proofs.lemmas.Bool.{or_right, and_parts}
use Rattle.std.proofs.lemmas.List.{ext_get_or}
use Rattle.common_lemmas.proofs.Numbers.{equal_self}
use Rattle.event_machine.specs.declared.Event.{Event}
use Rattle.event_machine.specs.declared.Event.TheVariants.{R, E, S, D, C, T, F, X, B, Z}
use Rattle.event_machine.specs.Worlds.{is_last}
use Rattle.event_machine.specs.progress.Known.{Party, Known, nobody, party, is_served_by, is_innermost, admits, suits, advanced, touches}
use Rattle.event_machine.proofs.progress.Parties.{advanced_ended}
use Rattle.control_script.proofs.Writing.{as_many}
use Rattle.syn_order.specs.Apart.{AreApart}
use Rattle.syn_order.proofs.Locality.{untouched, missed, Agree, suits_same, touched_same, new_server, touches_one}

-- of two tests that are not both passed the second fails where the first is passed
pub other_false : (a b : Bool) → (a && b) ≡ false → a ≡ true → b ≡ false
other_false true b h q = h
other_false false b h q = absurd (true≢false (sym q))

swapped : (a b : Bool) → (a && b) ≡ false → (b && a) ≡ false
swapped true true h = h
swapped true false h = refl
swapped false true h = refl
swapped false false h = refl

pub apart_turned : (owner : ℕ → ℕ) (n : ℕ) (k : Known) (e f : Event) → AreApart owner n k e f → AreApart owner n k f e
apart_turned owner n k e f apart t l = swapped (touches owner k e t) (touches owner k f t) (apart t l)

module _ (owner : ℕ → ℕ) (n : ℕ) (k : Known) (sized : length k.parties ≡ n) where
  -- ---- one behind the other

  module _ (e f : Event) (apart : AreApart owner n k e f) where
    -- a task that f touches is known as before e
    pub kept : Agree owner k (advanced owner k e) f
    kept u g = missed owner n k e u sized (λ l. other_false (touches owner k f u) (touches owner k e u) (swapped (touches owner k e u) (touches owner k f u) (apart u l)) g)

    -- Behind e, which is admitted, f touches the same tasks.
    pub touches_same : admits owner k e ≡ true → (u : ℕ) → touches owner (advanced owner k e) f u ≡ touches owner k f u
    touches_same a u = go f apart kept
      where
        go : (f : Event) → AreApart owner n k e f → Agree owner k (advanced owner k e) f → touches owner (advanced owner k e) f u ≡ touches owner k f u
        go (R c e' i) p h = refl
        go (E b) p h = ap (λ (y : Party). (u == b) || is_innermost u y.callers) (h b (or_left' (equal_self b)))
          where
            or_left' : (b == b) ≡ true → touches owner k (E b) b ≡ true
            or_left' q = ap (λ v. v || is_innermost b (party k b).callers) q
        go (S b) p h = refl
        go (D b m) p h = refl
        go (C c e' i) p h = refl
        go (T c e' i) p h = refl
        go (F c e' i) p h = refl
        go (X b) p h = refl
        go (B t x) p h = ap (λ b. (u == t) || ((u == x) || b)) (by (is_served_by x (party k u)) refl)
          where
            victim : touches owner k (B t x) x ≡ true
            victim = or_right (x == t) ((x == x) || is_served_by x (party k x)) (ap (λ v. v || is_served_by x (party k x)) (equal_self x))

            missing : x < n → touches owner k e x ≡ false
            missing l = other_false (touches owner k (B t x) x) (touches owner k e x) (swapped (touches owner k e x) (touches owner k (B t x) x) (p x l)) victim

            by : (b : Bool) → is_served_by x (party k u) ≡ b → is_served_by x (party (advanced owner k e) u) ≡ is_served_by x (party k u)
            by true q = ap (is_served_by x) (h u (or_right (u == t) ((u == x) || is_served_by x (party k u)) (or_right (u == x) (is_served_by x (party k u)) q)))
            by false q = new_server owner n k e x u sized a missing q ∙ sym q
        go Z p h = refl

    -- where neither ends the program, f is admitted behind e exactly where it is admitted before it
    admits_same : is_last e ≡ false → is_last f ≡ false → admits owner (advanced owner k e) f ≡ admits owner k f
    admits_same p q = (λ j. not (ended j) && suits_same owner k (advanced owner k e) f q kept j)
      where
        ended : (advanced owner k e).ended ≡ k.ended
        ended = advanced_ended owner k e ∙ ap (λ b. b || k.ended) p

  -- the end of the program is apart from nothing
  not_last : (e f : Event) → AreApart owner n k e f → ((t : ℕ) × (t < n) × (touches owner k f t ≡ true)) → is_last e ≡ false
  not_last (R c e i) f p t = refl
  not_last (E a) f p t = refl
  not_last (S a) f p t = refl
  not_last (D a m) f p t = refl
  not_last (C c e i) f p t = refl
  not_last (T c e i) f p t = refl
  not_last (F c e i) f p t = refl
  not_last (X a) f p t = refl
  not_last (B u x) f p t = refl
  not_last Z f p t = absurd (true≢false (sym t.2 ∙ p t.0 t.1))

  module _ (some : 0 < n) (e f : Event) (apart : AreApart owner n k e f) (admitted : admits owner k e ≡ true) where
    second_runs : is_last f ≡ false
    second_runs = not_last f e (apart_turned owner n k e f apart) (touches_one owner n k e sized some admitted)

    first_runs : admits owner (advanced owner k e) f ≡ true → is_last e ≡ false
    first_runs h = go (is_last e) refl
      where
        go : (b : Bool) → is_last e ≡ b → is_last e ≡ false
        go true q = absurd (true≢false (sym (and_parts (not (advanced owner k e).ended) (suits owner (advanced owner k e) f) h).0 ∙
            ap not (advanced_ended owner k e ∙ ap (λ b. b || k.ended) q)))
        go false q = q

    -- What is admitted before e is admitted behind it.
    pub still_admitted : admits owner k f ≡ true → admits owner (advanced owner k e) f ≡ true
    still_admitted h = admits_same e f apart (not_last e f apart (touches_one owner n k f sized some h)) second_runs ∙ h

    -- What is admitted behind e is admitted before it.
    pub before_admitted : admits owner (advanced owner k e) f ≡ true → admits owner k f ≡ true
    before_admitted h = sym (admits_same e f apart (first_runs h) second_runs) ∙ h

  -- Both orders lead to the same.
  module _ (some : 0 < n) (e f : Event) (apart : AreApart owner n k e f) (first : admits owner k e ≡ true) (second : admits owner k f ≡ true) where
    turned : AreApart owner n k f e
    turned = apart_turned owner n k e f apart

    abbrev before : Known
    before = advanced owner k e

    abbrev behind : Known
    behind = advanced owner k f

    -- a task that the first of two events touches, or none
    at_touched : (e f : Event) (p : AreApart owner n k e f) → admits owner k e ≡ true → admits owner k f ≡ true → (u : ℕ) → u < n → touches owner k e u ≡ true →
        party (advanced owner (advanced owner k e) f) u ≡ party (advanced owner (advanced owner k f) e) u
    at_touched e f p a b u l h =
        untouched owner (advanced owner k e) f u (touches_same e f p a u ∙ other_false (touches owner k e u) (touches owner k f u) (p u l) h)
        ∙ sym (touched_same owner k (advanced owner k f) e (as_many owner k f) (kept f e (apart_turned owner n k e f p)) u h)

    at_untouched : (u : ℕ) → touches owner k e u ≡ false → touches owner k f u ≡ false → party (advanced owner before f) u ≡ party (advanced owner behind e) u
    at_untouched u h g =
        untouched owner before f u (touches_same e f apart first u ∙ g) ∙ untouched owner k e u h
        ∙ sym (untouched owner behind e u (touches_same f e turned second u ∙ h) ∙ untouched owner k f u g)

    at_each : (u : ℕ) → u < n → party (advanced owner before f) u ≡ party (advanced owner behind e) u
    at_each u l = go (touches owner k e u) (touches owner k f u) refl refl
      where
        go : (b d : Bool) → touches owner k e u ≡ b → touches owner k f u ≡ d → party (advanced owner before f) u ≡ party (advanced owner behind e) u
        go true d p q = at_touched e f apart first second u l p
        go false true p q = sym (at_touched f e turned second first u l q)
        go false false p q = at_untouched u p q

    length_before : length (advanced owner before f).parties ≡ n
    length_before = as_many owner before f ∙ (as_many owner k e ∙ sized)

    length_behind : length (advanced owner behind e).parties ≡ n
    length_behind = as_many owner behind e ∙ (as_many owner k f ∙ sized)

    parties_same : (advanced owner before f).parties ≡ (advanced owner behind e).parties
    parties_same = ext_get_or nobody (advanced owner before f).parties (advanced owner behind e).parties (length_before ∙ sym length_behind)
        (λ u l. at_each u (subst (λ m. u < m) length_before l))

    ended_same : (advanced owner before f).ended ≡ (advanced owner behind e).ended
    ended_same = advanced_ended owner before f ∙ ap (λ b. is_last f || b) (advanced_ended owner k e) ∙ go (is_last f) (is_last e) k.ended
        ∙ sym (advanced_ended owner behind e ∙ ap (λ b. is_last e || b) (advanced_ended owner k f))
      where
        go : (a b c : Bool) → (a || (b || c)) ≡ (b || (a || c))
        go true true c = refl
        go true false c = refl
        go false true c = refl
        go false false c = refl

    pub exchanged_known : advanced owner (advanced owner k e) f ≡ advanced owner (advanced owner k f) e
    exchanged_known = λ j. record { parties = parties_same j; ended = ended_same j }
