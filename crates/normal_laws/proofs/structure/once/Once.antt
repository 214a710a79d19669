-- No naming is refused just where each is fine alone, no two fixed names are one, and no other name is a fixed one.
use Rattle.std.proofs.Common.{◌≡◌, ℕ, true, false, ◌||◌, ◌==◌, List, [], ◌∷◌, ◌++◌, refl, sym, ◌∙◌}
use Rattle.std.specs.List.{AllByRecursion}
use Rattle.std.proofs.lemmas.Bool.{or_parts, or_from}
use Rattle.std.proofs.lemmas.List.Folds.{list_any-append}
use Rattle.ada_static_rules.specs.RuleDuplicate.{is_predefined, is_among}
use Rattle.ada_decl_rules.specs.declared.duplicates.namings_in_order.Naming.{Naming}
use Rattle.ada_decl_rules.specs.declared.duplicates.namings_in_order.Naming.TheVariants.{Declares, Labels, Once}
use Rattle.normal_laws.specs.structure.once.Apart.{is_repeated, IsFreeOf, AreApart, AreDistinct, IsAlone, fixed_name, loose_name, fixed_names, loose_names, NoneRepeated, AreFit}
use Rattle.common_lemmas.proofs.Lists.{all_back, all_front, all_joined, all_weaker}
use Rattle.common_lemmas.proofs.Numbers.{unequal_turned}
use Rattle.common_lemmas.proofs.Truth.{or_false}

-- ---- names

-- a name is free of two lists where it is free of each
pub free-front : (xs ys : List ℕ) (y : ℕ) → IsFreeOf (xs ++ ys) y → IsFreeOf xs y
free-front xs ys y h = (or_parts (is_among xs y) (is_among ys y) (sym (list_any-append (λ n. n == y) xs ys) ∙ h)).0

pub free-back : (xs ys : List ℕ) (y : ℕ) → IsFreeOf (xs ++ ys) y → IsFreeOf ys y
free-back xs ys y h = (or_parts (is_among xs y) (is_among ys y) (sym (list_any-append (λ n. n == y) xs ys) ∙ h)).1

pub free-both : (xs ys : List ℕ) (y : ℕ) → IsFreeOf xs y → IsFreeOf ys y → IsFreeOf (xs ++ ys) y
free-both xs ys y h k = list_any-append (λ n. n == y) xs ys ∙ or_from (is_among xs y) (is_among ys y) h k

-- one name is none of these just where none of these is it
pub one-apart : (ys : List ℕ) (w : ℕ) → IsFreeOf ys w → AreApart (w ∷ []) ys
one-apart [] w h = tt
one-apart (y ∷ ys) w h = let r = or_parts (y == w) (is_among ys w) h in (or_false (w == y) ∙ unequal_turned y w r.0, one-apart ys w r.1)

pub one-free : (ys : List ℕ) (w : ℕ) → AreApart (w ∷ []) ys → IsFreeOf ys w
one-free [] w h = refl
one-free (y ∷ ys) w h = or_from (y == w) (is_among ys w) (unequal_turned w y (sym (or_false (w == y)) ∙ h.0)) (one-free ys w h.1)

-- ---- lists of names

pub apart-none : (ys : List ℕ) → AreApart [] ys
apart-none [] = tt
apart-none (y ∷ ys) = (refl, apart-none ys)

pub apart-front : (xs ys zs : List ℕ) → AreApart (xs ++ ys) zs → AreApart xs zs
apart-front xs ys zs h = all_weaker (IsFreeOf (xs ++ ys)) (IsFreeOf xs) zs (λ z e. free-front xs ys z e) h

pub apart-back : (xs ys zs : List ℕ) → AreApart (xs ++ ys) zs → AreApart ys zs
apart-back xs ys zs h = all_weaker (IsFreeOf (xs ++ ys)) (IsFreeOf ys) zs (λ z e. free-back xs ys z e) h

pub apart-both : (xs ys zs : List ℕ) → AreApart xs zs → AreApart ys zs → AreApart (xs ++ ys) zs
apart-both xs ys [] h k = tt
apart-both xs ys (z ∷ zs) h k = (free-both xs ys z h.0 k.0, apart-both xs ys zs h.1 k.1)

-- which of two lists is named first does not matter
pub apart-turned : (xs ys : List ℕ) → AreApart xs ys → AreApart ys xs
apart-turned xs [] h = apart-none xs
apart-turned xs (y ∷ ys) h = apart-both (y ∷ []) ys xs (one-apart xs y h.0) (apart-turned xs ys h.1)

pub distinct-back : (xs ys : List ℕ) → AreDistinct (xs ++ ys) → AreDistinct ys
distinct-back [] ys h = h
distinct-back (x ∷ xs) ys h = distinct-back xs ys h.1

pub distinct-front : (xs ys : List ℕ) → AreDistinct (xs ++ ys) → AreDistinct xs
distinct-front [] ys h = tt
distinct-front (x ∷ xs) ys h = (free-front xs ys x h.0, distinct-front xs ys h.1)

pub distinct-apart : (xs ys : List ℕ) → AreDistinct (xs ++ ys) → AreApart xs ys
distinct-apart [] ys h = apart-none ys
distinct-apart (x ∷ xs) ys h = apart-both (x ∷ []) xs ys (one-apart ys x (free-back xs ys x h.0)) (distinct-apart xs ys h.1)

pub distinct-both : (xs ys : List ℕ) → AreDistinct xs → AreDistinct ys → AreApart xs ys → AreDistinct (xs ++ ys)
distinct-both [] ys h k a = k
distinct-both (x ∷ xs) ys h k a = (free-both xs ys x h.0 (one-free ys x (apart-front (x ∷ []) xs ys a)), distinct-both xs ys h.1 k (apart-back (x ∷ []) xs ys a))

-- ---- one naming behind others

-- what is asked of a naming behind names that are fixed and that are introduced
record IsBehind (fixed introduced : List ℕ) (n : Naming) : Type 0 where
  alone : IsAlone n
  loose : AreApart fixed (loose_name n)
  new : AreApart introduced (fixed_name n)
  unfixed : AreApart fixed (fixed_name n)

behind : (fixed introduced : List ℕ) (n : Naming) → is_repeated fixed introduced n ≡ false → IsBehind fixed introduced n
behind fixed introduced (Declares true again w) e =
    let f = or_parts (is_predefined w.name.0 || again || is_among fixed w.name.0) (is_among introduced w.name.0) e in
    let g = or_parts (is_predefined w.name.0 || again) (is_among fixed w.name.0) f.0 in
    record {
      alone = or_from (is_predefined w.name.0 || again || false) false (or_from (is_predefined w.name.0 || again) false g.0 refl) refl;
      loose = tt;
      new = (f.1, tt);
      unfixed = (g.1, tt);
    }
behind fixed introduced (Declares false again w) e =
    let f = or_parts (is_predefined w.name.0 || again || is_among fixed w.name.0) false e in
    let g = or_parts (is_predefined w.name.0 || again) (is_among fixed w.name.0) f.0 in
    record {
      alone = or_from (is_predefined w.name.0 || again || false) false (or_from (is_predefined w.name.0 || again) false g.0 refl) refl;
      loose = (g.1, tt);
      new = tt;
      unfixed = tt;
    }
behind fixed introduced (Labels w) e =
    let f = or_parts (is_predefined w.name.0) (is_among fixed w.name.0) e in
    record { alone = or_from (is_predefined w.name.0) false f.0 refl; loose = (f.1, tt); new = tt; unfixed = tt }
behind fixed introduced (Once again w) e = record { alone = e; loose = tt; new = tt; unfixed = tt }

unrefused : (fixed introduced : List ℕ) (n : Naming) → IsBehind fixed introduced n → is_repeated fixed introduced n ≡ false
unrefused fixed introduced (Declares true again w) h =
    let f = or_parts (is_predefined w.name.0 || again || false) false h.alone in
    let g = or_parts (is_predefined w.name.0 || again) false f.0 in
    or_from (is_predefined w.name.0 || again || is_among fixed w.name.0) (is_among introduced w.name.0)
    (or_from (is_predefined w.name.0 || again) (is_among fixed w.name.0) g.0 h.unfixed.0) h.new.0
unrefused fixed introduced (Declares false again w) h =
    let f = or_parts (is_predefined w.name.0 || again || false) false h.alone in
    let g = or_parts (is_predefined w.name.0 || again) false f.0 in
    or_from (is_predefined w.name.0 || again || is_among fixed w.name.0) false
    (or_from (is_predefined w.name.0 || again) (is_among fixed w.name.0) g.0 h.loose.0) refl
unrefused fixed introduced (Labels w) h =
    let f = or_parts (is_predefined w.name.0) false h.alone in
    or_from (is_predefined w.name.0) (is_among fixed w.name.0) f.0 h.loose.0
unrefused fixed introduced (Once again w) h = h.alone

-- a naming has one name at most
self-apart : (n : Naming) → AreApart (fixed_name n) (loose_name n)
self-apart (Declares true again w) = tt
self-apart (Declares false again w) = (refl, tt)
self-apart (Labels w) = (refl, tt)
self-apart (Once again w) = tt

one-distinct : (n : Naming) (ys : List ℕ) → AreApart (fixed_name n) ys → AreDistinct ys → AreDistinct (fixed_name n ++ ys)
one-distinct (Declares true again w) ys h k = (one-free ys w.name.0 h, k)
one-distinct (Declares false again w) ys h k = k
one-distinct (Labels w) ys h k = k
one-distinct (Once again w) ys h k = k

-- ---- from the rule

all-alone : (fixed introduced : List ℕ) (ns : List Naming) → NoneRepeated fixed introduced ns → AllByRecursion IsAlone ns
all-alone fixed introduced [] h = tt
all-alone fixed introduced (n ∷ ns) h = ((behind fixed introduced n h.0).alone, all-alone (fixed_name n ++ fixed) ((fixed_name n ++ loose_name n) ++ introduced) ns h.1)

-- no loose name was fixed before
loose-later : (fixed introduced : List ℕ) (ns : List Naming) → NoneRepeated fixed introduced ns → AreApart fixed (loose_names ns)
loose-later fixed introduced [] h = tt
loose-later fixed introduced (n ∷ ns) h =
    all_joined (IsFreeOf fixed) (loose_name n) (loose_names ns) (behind fixed introduced n h.0).loose
    (apart-back (fixed_name n) fixed (loose_names ns) (loose-later (fixed_name n ++ fixed) ((fixed_name n ++ loose_name n) ++ introduced) ns h.1))

-- no fixed name was introduced before
fixed-later : (fixed introduced : List ℕ) (ns : List Naming) → NoneRepeated fixed introduced ns → AreApart introduced (fixed_names ns)
fixed-later fixed introduced [] h = tt
fixed-later fixed introduced (n ∷ ns) h =
    all_joined (IsFreeOf introduced) (fixed_name n) (fixed_names ns) (behind fixed introduced n h.0).new
    (apart-back (fixed_name n ++ loose_name n) introduced (fixed_names ns) (fixed-later (fixed_name n ++ fixed) ((fixed_name n ++ loose_name n) ++ introduced) ns h.1))

-- the names that are fixed later are none of a naming's
later-apart : (fixed introduced : List ℕ) (n : Naming) (ns : List Naming) → NoneRepeated (fixed_name n ++ fixed) ((fixed_name n ++ loose_name n) ++ introduced) ns → AreApart (fixed_name n ++ loose_name n) (fixed_names ns)
later-apart fixed introduced n ns h = apart-front (fixed_name n ++ loose_name n) introduced (fixed_names ns) (fixed-later (fixed_name n ++ fixed) ((fixed_name n ++ loose_name n) ++ introduced) ns h)

all-apart : (fixed introduced : List ℕ) (ns : List Naming) → NoneRepeated fixed introduced ns → AreApart (fixed_names ns) (loose_names ns)
all-apart fixed introduced [] h = tt
all-apart fixed introduced (n ∷ ns) h =
    apart-both (fixed_name n) (fixed_names ns) (loose_name n ++ loose_names ns)
    (all_joined (IsFreeOf (fixed_name n)) (loose_name n) (loose_names ns) (self-apart n)
    (apart-front (fixed_name n) fixed (loose_names ns) (loose-later (fixed_name n ++ fixed) ((fixed_name n ++ loose_name n) ++ introduced) ns h.1)))
    (all_joined (IsFreeOf (fixed_names ns)) (loose_name n) (loose_names ns)
    (apart-turned (loose_name n) (fixed_names ns) (apart-back (fixed_name n) (loose_name n) (fixed_names ns) (later-apart fixed introduced n ns h.1)))
    (all-apart (fixed_name n ++ fixed) ((fixed_name n ++ loose_name n) ++ introduced) ns h.1))

all-distinct : (fixed introduced : List ℕ) (ns : List Naming) → NoneRepeated fixed introduced ns → AreDistinct (fixed_names ns)
all-distinct fixed introduced [] h = tt
all-distinct fixed introduced (n ∷ ns) h =
    one-distinct n (fixed_names ns) (apart-front (fixed_name n) (loose_name n) (fixed_names ns) (later-apart fixed introduced n ns h.1)) (all-distinct (fixed_name n ++ fixed) ((fixed_name n ++ loose_name n) ++ introduced) ns h.1)

pub fit-from : (ns : List Naming) → NoneRepeated [] [] ns → AreFit ns
fit-from ns h = record { alone = all-alone [] [] ns h; distinct = all-distinct [] [] ns h; apart = all-apart [] [] ns h }

-- ---- to the rule

record AreBehind (fixed introduced : List ℕ) (ns : List Naming) : Type 0 where
  fit : AreFit ns
  loose : AreApart fixed (loose_names ns)
  new : AreApart introduced (fixed_names ns)
  unfixed : AreApart fixed (fixed_names ns)

next-fit : (n : Naming) (ns : List Naming) → AreFit (n ∷ ns) → AreFit ns
next-fit n ns h = record {
  alone = h.alone.1;
  distinct = distinct-back (fixed_name n) (fixed_names ns) h.distinct;
  apart = all_back (IsFreeOf (fixed_names ns)) (loose_name n) (loose_names ns) (apart-back (fixed_name n) (fixed_names ns) (loose_name n ++ loose_names ns) h.apart);
}

next-behind : (fixed introduced : List ℕ) (n : Naming) (ns : List Naming) → AreBehind fixed introduced (n ∷ ns) → AreBehind (fixed_name n ++ fixed) ((fixed_name n ++ loose_name n) ++ introduced) ns
next-behind fixed introduced n ns h =
    let l = loose_names ns in
    let f = fixed_names ns in
    let here : AreApart (fixed_name n) f = distinct-apart (fixed_name n) f h.fit.distinct in
    record {
      fit = next-fit n ns h.fit;
      loose = (apart-both (fixed_name n) fixed l (all_back (IsFreeOf (fixed_name n)) (loose_name n) l (apart-front (fixed_name n) f (loose_name n ++ l) h.fit.apart)) (all_back (IsFreeOf fixed) (loose_name n) l h.loose));
      new = (apart-both (fixed_name n ++ loose_name n) introduced f
          (apart-both (fixed_name n) (loose_name n) f here
          (apart-turned f (loose_name n) (all_front (IsFreeOf f) (loose_name n) l (apart-back (fixed_name n) f (loose_name n ++ l) h.fit.apart))))
          (all_back (IsFreeOf introduced) (fixed_name n) f h.new));
      unfixed = (apart-both (fixed_name n) fixed f here (all_back (IsFreeOf fixed) (fixed_name n) f h.unfixed));
    }

none-repeated : (fixed introduced : List ℕ) (ns : List Naming) → AreBehind fixed introduced ns → NoneRepeated fixed introduced ns
none-repeated fixed introduced [] h = tt
none-repeated fixed introduced (n ∷ ns) h = (
  unrefused fixed introduced n record {
    alone = h.fit.alone.0;
    loose = all_front (IsFreeOf fixed) (loose_name n) (loose_names ns) h.loose;
    new = all_front (IsFreeOf introduced) (fixed_name n) (fixed_names ns) h.new;
    unfixed = all_front (IsFreeOf fixed) (fixed_name n) (fixed_names ns) h.unfixed;
  },
  none-repeated (fixed_name n ++ fixed) ((fixed_name n ++ loose_name n) ++ introduced) ns (next-behind fixed introduced n ns h),
)

pub fit-to : (ns : List Naming) → AreFit ns → NoneRepeated [] [] ns
fit-to ns h = none-repeated [] [] ns record { fit = h; loose = apart-none (loose_names ns); new = apart-none (fixed_names ns); unfixed = apart-none (fixed_names ns) }
