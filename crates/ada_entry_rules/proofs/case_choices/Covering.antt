-- Ranges of values without a value in common, as one is taken out or put in.
use Rattle.std.specs.Prelude.{◌≡◌, ◌↔◌, ◌<◌, ◌+◌, ℤ, ◌≤ℤ◌, ◌<ℤ◌, ◌⊎◌, Bool, true, false, cond, if◌then◌else◌, List, ◌∷◌, length, OnOk, OnErr, Result, Ok, Err, is_some, Option, IsSome, IfSome, slice_get, Some, None, refl}
use Rattle.std.proofs.Common.{sym, ap, ◌∙◌, inl, inr, ⊎_elim, arith, subst}
use Rattle.std.proofs.lemmas.Int.{ints, by_lt_z}
use Rattle.std.proofs.lemmas.Map.Lookups.{exact_signed}
use Rattle.std.specs.Ordering.{int_cmp, is_eq, is_gt}
use Rattle.std.specs.declared.cmp.Ordering.{Ordering}
use Rattle.std.specs.declared.cmp.Ordering.TheVariants.{Less, Equal, Greater}
use Rattle.std.specs.BTreeMap.{BTreeMap, is_at}
use Rattle.std.specs.BTreeMap.Range.{IsRangeOf, IsEntryInRange}
use Rattle.std.specs.declared.ops.Bound.TheVariants.{Included, Unbounded}
use Rattle.std.specs.Int.{int_min, int_max}
use Rattle.ada_entry_rules.specs.case_choices.Covers.{first_of, Apart, Covers, Reaches, IsFree}

on : {P : Type 0} (t : Bool) → (t ≡ true → P) → (t ≡ false → P) → P
on true f g = f refl
on false f g = g refl

equal_is : (o : Ordering) → is_eq o ≡ true → o ≡ Equal
equal_is Less h = cc
equal_is Equal h = refl
equal_is Greater h = cc

at_key : (a b : ℤ) → is_at (int_cmp a) b ≡ true → a ≡ b
at_key a b h = exact_signed a b (equal_is (int_cmp a b) h)

none_is_not : (a : ℤ) → None ≡ Some a → ⊥
none_is_not a h = cc

some_is : (a b : ℤ) → Some a ≡ Some b → a ≡ b
some_is a b h = cc

at_self : (a : ℤ) → is_at (int_cmp a) a ≡ true
at_self a = grind (arith, ints)

not_less : (x y : ℤ) → x ≡ y → x <ℤ y → ⊥
not_less x y e l = grind (arith, ints)

-- `new` has w at one last value, and what `old` has at each other one
abbrev pub Changed : List (ℤ × ℤ) → List (ℤ × ℤ) → ℤ → Option ℤ → Type 0
Changed old new end w = (q : ℤ) → first_of new q ≡ cond (is_at (int_cmp end) q) w (first_of old q)

here : (old new : List (ℤ × ℤ)) (end q : ℤ) (w : Option ℤ) → Changed old new end w → is_at (int_cmp end) q ≡ true → first_of new q ≡ w
here old new end q w h t = h q ∙ ap (λ b. cond b w (first_of old q)) t

there : (old new : List (ℤ × ℤ)) (end q : ℤ) (w : Option ℤ) → Changed old new end w → is_at (int_cmp end) q ≡ false → first_of new q ≡ first_of old q
there old new end q w h t = h q ∙ ap (λ b. cond b w (first_of old q)) t

-- what is left was there
left : (old new : List (ℤ × ℤ)) (end q f : ℤ) → Changed old new end None → first_of new q ≡ Some f → first_of old q ≡ Some f
left old new end q f h e = on (is_at (int_cmp end) q)
    (λ t. absurd (none_is_not f (sym (here old new end q None h t) ∙ e)))
    (λ t. sym (there old new end q None h t) ∙ e)

le_by : (a b : ℤ) → is_gt (int_cmp a b) ≡ false → a ≤ℤ b
le_by a b h = by_lt_z b a (λ l. grind (arith, ints)) (λ l. l)

by_le : (a b : ℤ) → a ≤ℤ b → is_gt (int_cmp a b) ≡ false
by_le a b h = grind (arith, ints)

first_entry : (m : BTreeMap ℤ ℤ) (first : ℤ) (r rest : List (ℤ × ℤ)) (end start : ℤ) → IsRangeOf int_cmp (Included first) Unbounded m r → r ≡ (end, start) ∷ rest
    → IsEntryInRange int_cmp (Included first) Unbounded m (end, start)
first_entry m first r rest end start h e = subst (λ xs. IfSome (slice_get xs 0) (IsEntryInRange int_cmp (Included first) Unbounded m)) e h.1

first_least : (m : BTreeMap ℤ ℤ) (first : ℤ) (r rest : List (ℤ × ℤ)) (end start q f : ℤ) → IsRangeOf int_cmp (Included first) Unbounded m r → r ≡ (end, start) ∷ rest
    → first_of m.entries q ≡ Some f → first ≤ℤ q → end ≤ℤ q
first_least m first r rest end start q f h e g l =
    le_by end q (subst (λ xs. IfSome (slice_get xs 0) (λ x. is_gt (int_cmp x.0 q) ≡ false)) e (h.2 q (by_le first q l, tt) (subst IsSome (sym g) (refl))))

-- the first range that ends at a value or behind it, which begins before a bound or not
pub meets_first : (m : BTreeMap ℤ ℤ) (first last : ℤ) (r rest : List (ℤ × ℤ)) (end start : ℤ) → Apart m.entries → IsRangeOf int_cmp (Included first) Unbounded m r → r ≡ (end, start) ∷ rest → start ≤ℤ last
    → (first_of m.entries end ≡ Some start) × (start ≤ℤ last) × (first ≤ℤ end) × (start ≤ℤ end)
meets_first m first last r rest end start a h e l = let x = first_entry m first r rest end start h e in (x.1, l, le_by first end x.0.0, a.some end start x.1)

behind_first : (ranges : List (ℤ × ℤ)) (last end start q f : ℤ) → Apart ranges → first_of ranges end ≡ Some start → first_of ranges q ≡ Some f → last <ℤ start → end ≤ℤ q → last <ℤ f
behind_first ranges last end start q f a g h l le = by_lt_z end q
    (λ u. let v : end <ℤ f = a.behind end start q f g h u in let w : start ≤ℤ end = a.some end start g in grind (arith, ints))
    (λ u. let same : end ≡ q = grind (arith, ints) in subst (λ x. last <ℤ x) (some_is start f (sym g ∙ ap (first_of ranges) same ∙ h)) l)

pub misses_first : (m : BTreeMap ℤ ℤ) (first last : ℤ) (r rest : List (ℤ × ℤ)) (end start : ℤ) → Apart m.entries → IsRangeOf int_cmp (Included first) Unbounded m r → r ≡ (end, start) ∷ rest → last <ℤ start
    → IsFree m.entries first last
misses_first m first last r rest end start a h e l = record {
  free = λ q f g u. behind_first m.entries last end start q f a (first_entry m first r rest end start h e).1 g l (first_least m first r rest end start q f h e g u);
}

pub taken_apart : (old new : List (ℤ × ℤ)) (end : ℤ) → Apart old → Changed old new end None → Apart new
taken_apart old new end a h = record {
  some = λ q f e. a.some q f (left old new end q f h e);
  behind = λ q f r g d e l. a.behind q f r g (left old new end q f h d) (left old new end r g h e) l;
}

covers_left : (old new : List (ℤ × ℤ)) (end z : ℤ) → Changed old new end None → Covers new z → Covers old z
covers_left old new end z h c = record { last = c.last; first = c.first; is = left old new end c.last c.first h c.is; from = c.from; to = c.to }

middle : (z low high start end : ℤ) → start ≤ℤ high → low ≤ℤ end → int_min low start ≤ℤ z → z ≤ℤ int_max high end → ((low ≤ℤ z) × (z ≤ℤ high)) ⊎ ((start ≤ℤ z) × (z ≤ℤ end))
middle z low high start end s l p q =
    by_lt_z z low (λ u. inr ((grind (arith, ints)), (grind (arith, ints))))
    (λ u. by_lt_z high z (λ v. inr ((grind (arith, ints)), (grind (arith, ints)))) (λ v. inl (u, v)))

wide : (z low high start end : ℤ) → low ≤ℤ z → z ≤ℤ high → (int_min low start ≤ℤ z) × (z ≤ℤ int_max high end)
wide z low high start end p q = ((grind (arith, ints)), (grind (arith, ints)))

wider : (z low high start end : ℤ) → start ≤ℤ z → z ≤ℤ end → (int_min low start ≤ℤ z) × (z ≤ℤ int_max high end)
wider z low high start end p q = ((grind (arith, ints)), (grind (arith, ints)))

-- a range is taken out, and its values go to the bounds
pub taken_reaches : (old new : List (ℤ × ℤ)) (low high start end : ℤ) → first_of old end ≡ Some start → start ≤ℤ high → low ≤ℤ end → Changed old new end None
    → (z : ℤ) → Reaches new (int_min low start) (int_max high end) z ↔ Reaches old low high z
taken_reaches old new low high start end is s l h z = (to, from)
  where
    to : Reaches new (int_min low start) (int_max high end) z → Reaches old low high z
    to r = ⊎_elim (λ c. inl (covers_left old new end z h c))
        (λ b. ⊎_elim (λ p. inr p) (λ p. inl record { last = end; first = start; is = is; from = p.0; to = p.1 }) (middle z low high start end s l b.0 b.1)) r

    from : Reaches old low high z → Reaches new (int_min low start) (int_max high end) z
    from r = ⊎_elim
        (λ c. on (is_at (int_cmp end) c.last)
        (λ t. let e : c.last ≡ end = sym (at_key end c.last t) in
        let f : c.first ≡ start = some_is c.first start (sym c.is ∙ ap (first_of old) e ∙ is) in
        inr (wider z low high start end (subst (λ x. x ≤ℤ z) f c.from) (subst (λ x. z ≤ℤ x) e c.to)))
        (λ t. inl record { last = c.last; first = c.first; is = there old new end c.last None h t ∙ c.is; from = c.from; to = c.to }))
        (λ b. inr (wide z low high start end b.0 b.1)) r

clash : (low high f l : ℤ) → low ≤ℤ high → l ≡ high → f ≤ℤ l → (low ≤ℤ l → high <ℤ f) → ⊥
clash low high f l w e p g = let low_is : low ≤ℤ l = grind (arith, ints) in let far : high <ℤ f = g low_is in grind (arith, ints)

-- a range is put in that has no value in common with the others
pub put_covers : (old new : List (ℤ × ℤ)) (low high : ℤ) → Apart old → IsFree old low high → low ≤ℤ high → Changed old new high (Some low) → (z : ℤ) → Covers new z ↔ Reaches old low high z
put_covers old new low high a free w h z = (to, from)
  where
    to : Covers new z → Reaches old low high z
    to c = on (is_at (int_cmp high) c.last)
        (λ t. inr (subst (λ x. x ≤ℤ z) (some_is c.first low (sym c.is ∙ here old new high c.last (Some low) h t)) c.from, subst (λ x. z ≤ℤ x) (sym (at_key high c.last t)) c.to))
        (λ t. inl record { last = c.last; first = c.first; is = sym (there old new high c.last (Some low) h t) ∙ c.is; from = c.from; to = c.to })

    from : Reaches old low high z → Covers new z
    from r = ⊎_elim
        (λ c. on (is_at (int_cmp high) c.last)
        (λ t. absurd (clash low high c.first c.last w (sym (at_key high c.last t)) (a.some c.last c.first c.is) (free.free c.last c.first c.is)))
        (λ t. record { last = c.last; first = c.first; is = there old new high c.last (Some low) h t ∙ c.is; from = c.from; to = c.to }))
        (λ b. record { last = high; first = low; is = here old new high high (Some low) h (at_self high); from = b.0; to = b.1 }) r

short : (a b c : ℤ) → a <ℤ b → b ≤ℤ c → a <ℤ c
short a b c p q = grind (arith, ints)

-- a range before one that is put in ends before it
earlier : (q f low high : ℤ) → f ≤ℤ q → q <ℤ high → (low ≤ℤ q → high <ℤ f) → q <ℤ low
earlier q f low high p l g = by_lt_z q low (λ u. u) (λ u. let far : high <ℤ f = g u in grind (arith, ints))

later : (low high r g : ℤ) → low ≤ℤ high → high <ℤ r → (low ≤ℤ r → high <ℤ g) → high <ℤ g
later low high r g w l free = free (grind (arith, ints))

pub put_apart : (old new : List (ℤ × ℤ)) (low high : ℤ) → Apart old → IsFree old low high → low ≤ℤ high → Changed old new high (Some low) → Apart new
put_apart old new low high a free w h = record { some = some; behind = behind }
  where
    some : (q f : ℤ) → first_of new q ≡ Some f → f ≤ℤ q
    some q f e = on (is_at (int_cmp high) q)
        (λ t. subst (λ x. x ≤ℤ q) (some_is low f (sym (here old new high q (Some low) h t) ∙ e)) (subst (λ x. low ≤ℤ x) (at_key high q t) w))
        (λ t. a.some q f (sym (there old new high q (Some low) h t) ∙ e))

    behind : (q f r g : ℤ) → first_of new q ≡ Some f → first_of new r ≡ Some g → q <ℤ r → q <ℤ g
    behind q f r g d e l = on (is_at (int_cmp high) r)
        (λ t. on (is_at (int_cmp high) q)
        (λ u. absurd (not_less q r (sym (at_key high q u) ∙ at_key high r t) l))
        (λ u. subst (λ x. q <ℤ x) (some_is low g (sym (here old new high r (Some low) h t) ∙ e))
        (earlier q f low high (a.some q f (sym (there old new high q (Some low) h u) ∙ d)) (subst (λ x. q <ℤ x) (sym (at_key high r t)) l) (free.free q f (sym (there old new high q (Some low) h u) ∙ d)))))
        (λ t. on (is_at (int_cmp high) q)
        (λ u. subst (λ x. x <ℤ g) (at_key high q u)
        (later low high r g w (subst (λ x. x <ℤ r) (sym (at_key high q u)) l) (free.free r g (sym (there old new high r (Some low) h t) ∙ e))))
        (λ u. a.behind q f r g (sym (there old new high q (Some low) h u) ∙ d) (sym (there old new high r (Some low) h t) ∙ e) l))

-- one turn: what the ranges and the bounds reach is what all reach
pub turned : (now old new all : List (ℤ × ℤ)) (low high start end l h first last : ℤ) → old ≡ now → first_of now end ≡ Some start → start ≤ℤ high → low ≤ℤ end → Changed old new end None
    → l ≡ int_min low start → h ≡ int_max high end → ((z : ℤ) → Reaches now low high z ↔ Reaches all first last z) → (z : ℤ) → Reaches new l h z ↔ Reaches all first last z
turned now old new all low high start end l h first last same is s t gone is_l is_h reach z =
    let step : Reaches new (int_min low start) (int_max high end) z ↔ Reaches old low high z = taken_reaches old new low high start end (ap (λ xs. first_of xs end) same ∙ is) s t gone z in
    let bounds : (Reaches new l h z ↔ Reaches old low high z) = subst (λ x. Reaches new x h z ↔ Reaches old low high z) (sym is_l) (subst (λ x. Reaches new (int_min low start) x z ↔ Reaches old low high z) (sym is_h) step) in
    let whole : (Reaches old low high z ↔ Reaches all first last z) = subst (λ xs. Reaches xs low high z ↔ Reaches all first last z) (sym same) (reach z) in
    (λ r. whole.0 (bounds.0 r), λ r. bounds.1 (whole.1 r))

pub forward : (low high start end l h : ℤ) → low ≤ℤ high → l ≡ int_min low start → h ≡ int_max high end → l ≤ℤ h
forward low high start end l h p q r = subst (λ x. x ≤ℤ h) (sym q) (subst (λ x. int_min low start ≤ℤ x) (sym r) (grind (arith, ints)))

pub shorter : (new old now : List (ℤ × ℤ)) (r : Option ℤ) (end start : ℤ) → old ≡ now → r ≡ first_of old end → first_of now end ≡ Some start → length new + (if is_some r then 1 else 0) ≡ length old → length new < length now
shorter new old now r end start same is found len =
    let some : r ≡ Some start = is ∙ ap (λ xs. first_of xs end) same ∙ found in
    let count : length new + 1 ≡ length now = ap (λ o. length new + (if is_some o then 1 else 0)) (sym some) ∙ len ∙ ap length same in
    omega arith

-- behind the last turn the bounds are put in
pub covered : (now old new all : List (ℤ × ℤ)) (low high first last : ℤ) → old ≡ now → Apart old → IsFree now low high → low ≤ℤ high → Changed old new high (Some low)
    → ((z : ℤ) → Reaches now low high z ↔ Reaches all first last z) → (z : ℤ) → Covers new z ↔ Reaches all first last z
covered now old new all low high first last same a free w h reach z =
    let put = put_covers old new low high a (subst (λ xs. IsFree xs low high) (sym same) free) w h z in
    let whole : (Reaches old low high z ↔ Reaches all first last z) = subst (λ xs. Reaches xs low high z ↔ Reaches all first last z) (sym same) (reach z) in
    (λ r. whole.0 (put.0 r), λ r. put.1 (whole.1 r))

-- the bounds are put in, or for want of memory not
pub put_or_not : {A E : Type 0} (r : Result A E) (now old new : List (ℤ × ℤ)) (low high : ℤ) → old ≡ now → Apart old → IsFree now low high → low ≤ℤ high
    → OnOk r (Changed old new high (Some low)) → OnErr r (new ≡ old) → Apart new
put_or_not (Ok x) now old new low high same a free w h e = put_apart old new low high a (subst (λ xs. IsFree xs low high) (sym same) free) w h
put_or_not (Err x) now old new low high same a free w h e = subst Apart (sym e) a
