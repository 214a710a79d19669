-- The choices of a case, as they are looked at one behind the other.
use Rattle.std.specs.Prelude.{◌≡◌, ◌↔◌, ◌⊎◌, ℕ, zero, suc, ℤ, pos, negsuc, ◌+ℤ◌, ◌-ℤ◌, ◌≤ℤ◌, ◌<ℤ◌, int_le, Bool, true, false, not, ◌&&◌, ◌||◌, ◌==◌, if◌then◌else◌, List, [], ◌∷◌, ◌++◌, length, take, Option, Some, None, is_none, is_some, MatchOption, map, refl}
use Rattle.std.specs.List.{list_any, list_all}
use Rattle.std.proofs.Common.{sym, ap, ◌∙◌, subst, inl, inr, ⊎_elim, arith, get_or, ◌<◌, ◌≤◌, ◌+◌}
use Rattle.std.proofs.lemmas.Int.{ints, by_lt_z}
use Rattle.std.proofs.lemmas.Bool.{and_from as both_true, or_cases, or_left, or_right}
use Rattle.std.proofs.lemmas.List.{map_more, append-nil, take_all}
use Rattle.std.proofs.Common.{append_assoc}
use Rattle.ada_tree.specs.declared.naming.Span.{Span}
use Rattle.ada_tree.specs.PlainExpr.{PExpr}
use Rattle.ada_tree.specs.PlainStmt.{PChoice, plain_choice, PCaseArm, case_arm, plain_case_arm, case_arms_of}
use Rattle.ada_tree.specs.declared.statements.CaseChoice.{CaseChoice}
use Rattle.ada_tree.specs.declared.statements.CaseArm.{CaseArm, out-CaseArm}
use Rattle.ada_static_rules.specs.ExprTypes.{kind_of}
use Rattle.ada_tree.proofs.Rows.{plain_case_arm-out}
use Rattle.ada_static_rules.specs.Refusals.{Refusal, by_rule}
use Rattle.ada_static_rules.specs.Scope.{Scope, Range}
use Rattle.ada_static_rules.specs.Demand.{must_lie_in, must_not_be_empty, chooses}
use Rattle.ada_static_rules.specs.RuleChoiceBad.{selected_range, bad_choices, left_out, leaves_out, no_choice_refused, choice_range, choice_span, with_range, overlaps_one, overlapping, do_overlap, is_good, integers_from, how_many, values_in, is_covered}
use Rattle.ada_static_rules.specs.Sites.{site, static_of, arm_choices}
use Rattle.ada_static_rules.specs.Sooner.{sooner, found, least_of}
use Rattle.ada_static_rules.specs.RefusedFirst.{refused_first, refused_first_at}
use Rattle.ada_entry_rules.specs.case_choices.Covers.{first_of, Covers, Reaches, IsFree}
use Rattle.ada_entry_rules.specs.case_choices.inner.Chosen.{AreChosen, Shows, contains, seen_after, bound_sites}
use Rattle.ada_entry_rules.specs.declared.case_choices.choices.Chosen.{Chosen}
use Rattle.ada_static_rules.proofs.SoonerLaws.{sooner_assoc, sooner_none, found_append}
use Rattle.ada_static_rules.proofs.Meeting.{met_append, met_cons, met_one}
use Rattle.common_lemmas.proofs.Numbers.{int_le_is, int_le_true, next_not_zero}
use Rattle.common_lemmas.proofs.Truth.{and_left, and_right, or_false}

-- ---- tests

-- a test is what it decides
decided : {P : Type 0} (p q : Bool) → (p ≡ true → P) → (P → p ≡ true) → (q ≡ true → P) → (P → q ≡ true) → p ≡ q
decided true true a b c d = refl
decided true false a b c d = sym (d (a refl))
decided false true a b c d = b (c refl)
decided false false a b c d = refl

-- ---- values that ranges have

within : (z : ℤ) (r : Range) → r.first ≤ℤ z → z ≤ℤ r.last → contains z r ≡ true
within z r g h = both_true (int_le r.first z) (int_le z r.last) (int_le_true r.first z g) (int_le_true z r.last h)

meeting_one : (r q : Range) (z : ℤ) → r.first ≤ℤ z → z ≤ℤ r.last → contains z q ≡ true → do_overlap r q ≡ true
meeting_one r q z g h c =
    let a : q.first ≤ℤ z = int_le_is q.first z (and_left (int_le q.first z) (int_le z q.last) c) in
    let b : z ≤ℤ q.last = int_le_is z q.last (and_right (int_le q.first z) (int_le z q.last) c) in
    let i : int_le r.first r.last ≡ true = grind (arith, ints) in
    let j : int_le q.first q.last ≡ true = grind (arith, ints) in
    let k : int_le r.first q.last ≡ true = grind (arith, ints) in
    let l : int_le q.first r.last ≡ true = grind (arith, ints) in
    both_true _ _ (both_true _ _ (both_true _ _ i j) k) l

short : (a b : ℤ) → a <ℤ b → a ≤ℤ b
short a b h = grind (arith, ints)

itself : (a : ℤ) → a ≤ℤ a
itself a = grind (arith, ints)

-- two ranges that overlap have the greater one of their first values in common
shared : (r q : Range) → do_overlap r q ≡ true → (z : ℤ) × ((r.first ≤ℤ z) × (z ≤ℤ r.last) × (contains z q ≡ true))
shared r q h =
    let all : (int_le r.first r.last && int_le q.first q.last && int_le r.first q.last && int_le q.first r.last) ≡ true = h in
    let i : r.first ≤ℤ r.last = int_le_is _ _ (and_left _ _ (and_left _ _ (and_left _ _ all))) in
    let j : q.first ≤ℤ q.last = int_le_is _ _ (and_right _ _ (and_left _ _ (and_left _ _ all))) in
    let k : r.first ≤ℤ q.last = int_le_is _ _ (and_right _ _ (and_left _ _ all)) in
    let l : q.first ≤ℤ r.last = int_le_is _ _ (and_right _ _ all) in
    by_lt_z r.first q.first
    (λ u. (q.first, (short r.first q.first u, l, within q.first q (itself q.first) j)))
    (λ u. (r.first, (itself r.first, i, within r.first q u k)))

overlap_from : (r : Range) (z : ℤ) (seen : List Range) → r.first ≤ℤ z → z ≤ℤ r.last → list_any (contains z) seen ≡ true → list_any (do_overlap r) seen ≡ true
overlap_from r z [] g h c = c
overlap_from r z (q ∷ seen) g h c = ⊎_elim
    (λ a. or_left (do_overlap r q) (list_any (do_overlap r) seen) (meeting_one r q z g h a))
    (λ a. or_right (do_overlap r q) (list_any (do_overlap r) seen) (overlap_from r z seen g h a))
    (or_cases (contains z q) (list_any (contains z) seen) c)

abbrev Common : Range → List Range → Type 0
Common r seen = (z : ℤ) × ((r.first ≤ℤ z) × (z ≤ℤ r.last) × (list_any (contains z) seen ≡ true))

overlap_to : (r : Range) (seen : List Range) → list_any (do_overlap r) seen ≡ true → Common r seen
overlap_to r [] h = absurd (cc)
overlap_to r (q ∷ seen) h = ⊎_elim
    (λ a. let s = shared r q a in (s.0, (s.1.0, s.1.1, or_left (contains s.0 q) (list_any (contains s.0) seen) s.1.2)))
    (λ a. let s = overlap_to r seen a in (s.0, (s.1.0, s.1.1, or_right (contains s.0 q) (list_any (contains s.0) seen) s.1.2)))
    (or_cases (do_overlap r q) (list_any (do_overlap r) seen) h)

not_free : (ranges : List (ℤ × ℤ)) (first last z : ℤ) → IsFree ranges first last → Covers ranges z → first ≤ℤ z → z ≤ℤ last → ⊥
not_free ranges first last z free c g h =
    let e : first ≤ℤ c.last = grind (arith, ints) in
    let far : last <ℤ c.first = free.free c.last c.first c.is e in
    grind (arith, ints)

-- a range that meets one of those kept
pub meets_some : (ranges : List (ℤ × ℤ)) (seen : List Range) (r : Range) (start end : ℤ) → Shows ranges seen → r.first ≤ℤ r.last → first_of ranges end ≡ Some start → start ≤ℤ end → start ≤ℤ r.last → r.first ≤ℤ end
    → list_any (do_overlap r) seen ≡ true
meets_some ranges seen r start end shows w is ordered s e = by_lt_z r.first start
    (λ u. overlap_from r start seen (grind (arith, ints)) s ((shows start).0 record { last = end; first = start; is = is; from = (grind (arith, ints)); to = ordered }))
    (λ u. overlap_from r r.first seen (grind (arith, ints)) w ((shows r.first).0 record { last = end; first = start; is = is; from = u; to = e }))

is_false : (p : Bool) → (p ≡ true → ⊥) → p ≡ false
is_false true h = absurd (h refl)
is_false false h = refl

pub meets_none : (ranges : List (ℤ × ℤ)) (seen : List Range) (r : Range) → Shows ranges seen → IsFree ranges r.first r.last → list_any (do_overlap r) seen ≡ false
meets_none ranges seen r shows free =
    is_false (list_any (do_overlap r) seen) (λ h. let s = overlap_to r seen h in not_free ranges r.first r.last s.0 free ((shows s.0).1 s.1.2) s.1.0 s.1.1)

pub meets_never : (seen : List Range) (r : Range) → r.last <ℤ r.first → list_any (do_overlap r) seen ≡ false
meets_never seen r h = is_false (list_any (do_overlap r) seen) (λ g. let s = overlap_to r seen g in out r.first r.last s.0 h s.1.0 s.1.1)
  where
    out : (first last z : ℤ) → last <ℤ first → first ≤ℤ z → z ≤ℤ last → ⊥
    out first last z h g i = grind (arith, ints)

-- the answer of a search for a range that meets one
pub meets_is : (ranges : List (ℤ × ℤ)) (seen : List Range) (r : Range) (o : Option (ℤ × ℤ)) → Shows ranges seen → r.first ≤ℤ r.last
    → MatchOption o (IsFree ranges r.first r.last) (λ x. (first_of ranges x.1 ≡ Some x.0) × (x.0 ≤ℤ r.last) × (r.first ≤ℤ x.1) × (x.0 ≤ℤ x.1)) → is_some o ≡ list_any (do_overlap r) seen
meets_is ranges seen r None shows w h = sym (meets_none ranges seen r shows h)
meets_is ranges seen r (Some x) shows w h = sym (meets_some ranges seen r x.0 x.1 shows w h.0 h.3 h.1 h.2)

-- ---- a range more

pub shows_added : (old new : List (ℤ × ℤ)) (seen : List Range) (r : Range) → Shows old seen → ((z : ℤ) → Covers new z ↔ Reaches old r.first r.last z) → Shows new (r ∷ seen)
shows_added old new seen r shows h z = (
  λ c. ⊎_elim
      (λ a. or_right (contains z r) (list_any (contains z) seen) ((shows z).0 a))
      (λ a. or_left (contains z r) (list_any (contains z) seen) (within z r a.0 a.1)) ((h z).0 c),
  λ c. (h z).1 (⊎_elim
      (λ a. inr (int_le_is r.first z (and_left (int_le r.first z) (int_le z r.last) a), int_le_is z r.last (and_right (int_le r.first z) (int_le z r.last) a)))
      (λ a. inl ((shows z).1 a)) (or_cases (contains z r) (list_any (contains z) seen) c)),
)

empty_has : (z : ℤ) (r : Range) → r.last <ℤ r.first → contains z r ≡ true → ⊥
empty_has z r h c =
    let a : r.first ≤ℤ z = int_le_is r.first z (and_left (int_le r.first z) (int_le z r.last) c) in
    let b : z ≤ℤ r.last = int_le_is z r.last (and_right (int_le r.first z) (int_le z r.last) c) in
    grind (arith, ints)

-- an empty range has no values
pub shows_same : (ranges : List (ℤ × ℤ)) (seen : List Range) (r : Range) → Shows ranges seen → r.last <ℤ r.first → Shows ranges (r ∷ seen)
shows_same ranges seen r shows h z = (
  λ c. or_right (contains z r) (list_any (contains z) seen) ((shows z).0 c),
  λ c. ⊎_elim (λ a. absurd (empty_has z r h a)) (λ a. (shows z).1 a) (or_cases (contains z r) (list_any (contains z) seen) c),
)

-- ---- a choice more

seen_end : (scope : Scope) (k : ℕ) (seen : List Range) (cs : List PChoice) (c : PChoice) → seen_after scope k seen (cs ++ c ∷ []) ≡ with_range (choice_range scope k c) (seen_after scope k seen cs)
seen_end scope k seen [] c = refl
seen_end scope k seen (x ∷ cs) c = seen_end scope k (with_range (choice_range scope k x) seen) cs c

overlapping_end : (scope : Scope) (k : ℕ) (seen : List Range) (cs : List PChoice) (c : PChoice)
    → overlapping scope k seen (cs ++ c ∷ []) ≡ overlapping scope k seen cs ++ (if overlaps_one (seen_after scope k seen cs) (choice_range scope k c) then choice_span c ∷ [] else [])
overlapping_end scope k seen [] c = nothing_behind (if overlaps_one seen (choice_range scope k c) then choice_span c ∷ [] else [])
  where
    nothing_behind : (l : List Span) → l ++ [] ≡ l
    nothing_behind [] = refl
    nothing_behind (x ∷ l) = ap (λ r. x ∷ r) (nothing_behind l)
overlapping_end scope k seen (x ∷ cs) c =
    ap (λ l. (if overlaps_one seen (choice_range scope k x) then choice_span x ∷ [] else []) ++ l) (overlapping_end scope k (with_range (choice_range scope k x) seen) cs c)
    ∙ sym (append_assoc (if overlaps_one seen (choice_range scope k x) then choice_span x ∷ [] else []) _ _)

all_end : {A : Type 0} (p : A → Bool) (xs : List A) (x : A) → list_all p (xs ++ x ∷ []) ≡ (list_all p xs && p x)
all_end p [] x = last (p x)
  where
    last : (b : Bool) → (b && true) ≡ b
    last true = refl
    last false = refl
all_end p (y ∷ xs) x = ap (λ b. p y && b) (all_end p xs x) ∙ regroup (p y) (list_all p xs) (p x)
  where
    regroup : (a b c : Bool) → (a && (b && c)) ≡ (a && b && c)
    regroup true b c = refl
    regroup false b c = refl

pub chosen_more : (scope : Scope) (k : ℕ) (values : Option Range) (done : List PChoice) (c : PChoice) (old new : Chosen) (own : Option Refusal)
    → AreChosen scope k values done old
    → ((seen : List Range) → Shows old.covered seen → own ≡ found 9 (if overlaps_one seen (choice_range scope k c) then choice_span c ∷ [] else []))
    → ((seen : List Range) → Shows old.covered seen → Shows new.covered (with_range (choice_range scope k c) seen))
    → new.refusal ≡ sooner old.refusal own
    → new.good ≡ (old.good && is_good values (choice_range scope k c))
    → AreChosen scope k values (done ++ c ∷ []) new
chosen_more scope k values done c old new own h o s r g = record {
  covers = subst (Shows new.covered) (sym (seen_end scope k [] done c)) (s (seen_after scope k [] done) h.covers);
  refusal_is =
      r
      ∙ ap (λ x. sooner x own) h.refusal_is
      ∙ ap (sooner (found 9 (overlapping scope k [] done))) (o (seen_after scope k [] done) h.covers)
      ∙ sym (found_append 9 (overlapping scope k [] done) (if overlaps_one (seen_after scope k [] done) (choice_range scope k c) then choice_span c ∷ [] else []))
      ∙ ap (found 9) (sym (overlapping_end scope k [] done c));
  good_is = g ∙ ap (λ b. b && is_good values (choice_range scope k c)) h.good_is ∙ sym (all_end (λ x. is_good values (choice_range scope k x)) done c);
}

-- one turn of the walk of a list of choices
pub chosen_turn : (scope : Scope) (k : ℕ) (values : Option Range) (done : List PChoice) (xs : List CaseChoice) (i : ℕ) (x : CaseChoice) (new : Chosen) → i < length xs → x ≡ get_or xs i x
    → AreChosen scope k values ((done ++ map plain_choice (take i xs)) ++ plain_choice x ∷ []) new → AreChosen scope k values (done ++ map plain_choice (take (i + 1) xs)) new
chosen_turn scope k values done xs i x new inside at h =
    subst (λ l. AreChosen scope k values l new)
    (append_assoc done (map plain_choice (take i xs)) (plain_choice x ∷ []) ∙ ap (λ y. done ++ (map plain_choice (take i xs) ++ plain_choice y ∷ [])) at ∙ ap (λ l. done ++ l) (sym (map_more plain_choice xs i x inside)))
    h

-- ---- values that are left out

any_none : (p : ℤ → Bool) (first : ℤ) (n : ℕ) → ((z : ℤ) → first ≤ℤ z → z <ℤ (first +ℤ pos n) → p z ≡ false) → list_any p (integers_from first n) ≡ false
any_none p first zero h = refl
any_none p first (suc n) h =
    ap (λ b. b || list_any p (integers_from (first +ℤ pos 1) n)) (h first (grind (arith, ints)) (grind (arith, ints)))
    ∙ any_none p (first +ℤ pos 1) n (λ z g l. h z (grind (arith, ints)) (grind (arith, ints)))

any_some : (p : ℤ → Bool) (first : ℤ) (n : ℕ) (z : ℤ) → first ≤ℤ z → z <ℤ (first +ℤ pos n) → p z ≡ true → list_any p (integers_from first n) ≡ true
any_some p first zero z g l h = absurd (grind (arith, ints))
any_some p first (suc n) z g l h = by_lt_z first z
    (λ u. or_right (p first) (list_any p (integers_from (first +ℤ pos 1) n)) (any_some p (first +ℤ pos 1) n z (grind (arith, ints)) (grind (arith, ints)) h))
    (λ u. let same : first ≡ z = grind (arith, ints) in or_left (p first) (list_any p (integers_from (first +ℤ pos 1) n)) (ap p same ∙ h))

reach_to : (first last z d : ℤ) → d ≡ last -ℤ first +ℤ pos 1 → first ≤ℤ z → z ≤ℤ last → z <ℤ (first +ℤ pos (how_many d))
reach_to first last z (pos n) e g h = grind (arith, ints)
reach_to first last z (negsuc n) e g h = absurd (grind (arith, ints))

reach_from : (first last z d : ℤ) → d ≡ last -ℤ first +ℤ pos 1 → first ≤ℤ z → z <ℤ (first +ℤ pos (how_many d)) → z ≤ℤ last
reach_from first last z (pos n) e g h = grind (arith, ints)
reach_from first last z (negsuc n) e g h = absurd (grind (arith, ints))

covered_not : (p : Bool) → p ≡ true → not p ≡ false
covered_not p h = cc

-- all values are there
pub all_there : (is_covered : ℤ → Bool) (values : Range) → ((z : ℤ) → values.first ≤ℤ z → z ≤ℤ values.last → is_covered z ≡ true) → false ≡ list_any (λ z. not (is_covered z)) (values_in values)
all_there is_covered values h =
    sym (any_none (λ z. not (is_covered z)) values.first (how_many (values.last -ℤ values.first +ℤ pos 1))
    (λ z g l. covered_not (is_covered z) (h z g (reach_from values.first values.last z (values.last -ℤ values.first +ℤ pos 1) refl g l))))

not_covered : (p : Bool) → p ≡ false → not p ≡ true
not_covered p h = cc

-- a value is not there
pub one_not : (is_covered : ℤ → Bool) (values : Range) (z : ℤ) → values.first ≤ℤ z → z ≤ℤ values.last → is_covered z ≡ false → true ≡ list_any (λ x. not (is_covered x)) (values_in values)
one_not is_covered values z g l h =
    sym (any_some (λ x. not (is_covered x)) values.first (how_many (values.last -ℤ values.first +ℤ pos 1)) z g (reach_to values.first values.last z (values.last -ℤ values.first +ℤ pos 1) refl g l) (not_covered (is_covered z) h))

pub free_not : (ranges : List (ℤ × ℤ)) (is_covered : ℤ → Bool) (z : ℤ) → ((x : ℤ) → Covers ranges x ↔ (is_covered x ≡ true)) → IsFree ranges z z → is_covered z ≡ false
free_not ranges is_covered z h free = is_false (is_covered z) (λ c. not_free ranges z z z free ((h z).1 c) (grind (arith, ints)) (grind (arith, ints)))

-- the values of the choices, in whatever order they were looked at
any_after : (scope : Scope) (k : ℕ) (z : ℤ) (seen : List Range) (cs : List PChoice)
    → list_any (contains z) (seen_after scope k seen cs) ≡ (list_any (λ c. is_covered z (choice_range scope k c)) cs || list_any (contains z) seen)
any_after scope k z seen [] = refl
any_after scope k z seen (c ∷ cs) = any_after scope k z (with_range (choice_range scope k c) seen) cs ∙ moved (choice_range scope k c) (list_any (λ x. is_covered z (choice_range scope k x)) cs)
  where
    swapped : (a b d : Bool) → (a || (b || d)) ≡ (b || a || d)
    swapped true true d = refl
    swapped true false d = refl
    swapped false b d = ap (λ x. x || d) (same b)
      where
        same : (b : Bool) → b ≡ (b || false)
        same true = refl
        same false = refl

    moved : (r : Option Range) (b : Bool) → (b || list_any (contains z) (with_range r seen)) ≡ (is_covered z r || b || list_any (contains z) seen)
    moved None b = refl
    moved (Some r) b = swapped b (contains z r) (list_any (contains z) seen)

pub chosen_values : (scope : Scope) (k : ℕ) (values : Option Range) (cs : List PChoice) (chosen : Chosen) → AreChosen scope k values cs chosen
    → (z : ℤ) → Covers chosen.covered z ↔ (list_any (λ c. is_covered z (choice_range scope k c)) cs ≡ true)
chosen_values scope k values cs chosen h z =
    subst (λ b. Covers chosen.covered z ↔ (b ≡ true)) (any_after scope k z [] cs ∙ or_false (list_any (λ c. is_covered z (choice_range scope k c)) cs)) (h.covers z)

some_least : (r : Refusal) (o : Option Refusal) → is_none (sooner (Some r) o) ≡ false
some_least r None = refl
some_least r (Some q) = refl

pub none_found : (n : ℕ) (xs : List Span) → is_none (found n xs) ≡ (length xs == 0)
none_found n [] = refl
none_found n (x ∷ xs) = some_least record { rule = n; span = x } (least_of (by_rule n xs)) ∙ sym (next_not_zero (length xs))

-- ---- the places of a choice

pub two_bounds : (scope : Scope) (k : Option ℕ) (range : Option Range) (a b : PExpr) (low high empty : Option Refusal) → low ≡ refused_first (bound_sites scope k range a) → high ≡ refused_first (bound_sites scope k range b) → empty ≡ refused_first_at scope (must_not_be_empty a b)
    → sooner low (sooner high empty) ≡ refused_first (static_of scope k a ++ site scope (must_lie_in a range) ∷ (static_of scope k b ++ site scope (must_lie_in b range) ∷ site scope (must_not_be_empty a b) ∷ []))
two_bounds scope k range a b low high empty p q r =
    ap (λ x. sooner x (sooner high empty)) (p ∙ met_append (static_of scope k a) (site scope (must_lie_in a range) ∷ []) ∙ ap (sooner (refused_first (static_of scope k a))) (met_one scope (must_lie_in a range)))
    ∙ sooner_assoc (refused_first (static_of scope k a)) (refused_first_at scope (must_lie_in a range)) (sooner high empty)
    ∙ ap (λ x. sooner (refused_first (static_of scope k a)) (sooner (refused_first_at scope (must_lie_in a range)) x)) behind
    ∙ ap (sooner (refused_first (static_of scope k a))) (sym (met_cons scope (must_lie_in a range) (static_of scope k b ++ site scope (must_lie_in b range) ∷ site scope (must_not_be_empty a b) ∷ [])))
    ∙ sym (met_append (static_of scope k a) (site scope (must_lie_in a range) ∷ (static_of scope k b ++ site scope (must_lie_in b range) ∷ site scope (must_not_be_empty a b) ∷ [])))
  where
    behind : sooner high empty ≡ refused_first (static_of scope k b ++ site scope (must_lie_in b range) ∷ site scope (must_not_be_empty a b) ∷ [])
    behind =
        ap (λ x. sooner x empty) (q ∙ met_append (static_of scope k b) (site scope (must_lie_in b range) ∷ []) ∙ ap (sooner (refused_first (static_of scope k b))) (met_one scope (must_lie_in b range)))
        ∙ sooner_assoc (refused_first (static_of scope k b)) (refused_first_at scope (must_lie_in b range)) empty
        ∙ ap (λ x. sooner (refused_first (static_of scope k b)) (sooner (refused_first_at scope (must_lie_in b range)) x)) (r ∙ sym (met_one scope (must_not_be_empty a b)))
        ∙ ap (sooner (refused_first (static_of scope k b))) (sym (met_cons scope (must_lie_in b range) (site scope (must_not_be_empty a b) ∷ [])))
        ∙ sym (met_append (static_of scope k b) (site scope (must_lie_in b range) ∷ site scope (must_not_be_empty a b) ∷ []))

-- ---- the turns of the loops

pub chosen_start : (scope : Scope) (k : ℕ) (values : Option Range) (covered : List (ℤ × ℤ)) → ((z : ℤ) → Covers covered z → ⊥) → AreChosen scope k values [] record { covered = covered; refusal = None; good = true }
chosen_start scope k values covered h = record { covers = λ z. (λ c. absurd (h z c), λ e. absurd (no_truth e)); refusal_is = refl; good_is = refl }
  where
    no_truth : false ≡ true → ⊥
    no_truth e = cc

pub chosen_init : (scope : Scope) (k : ℕ) (values : Option Range) (done : List PChoice) (c : Chosen) → AreChosen scope k values done c → AreChosen scope k values (done ++ []) c
chosen_init scope k values done c h = subst (λ l. AreChosen scope k values l c) (sym (append-nil done)) h

pub chosen_all : (scope : Scope) (k : ℕ) (values : Option Range) (done : List PChoice) (xs : List CaseChoice) (i : ℕ) (c : Chosen) → length xs ≤ i
    → AreChosen scope k values (done ++ map plain_choice (take i xs)) c → AreChosen scope k values (done ++ map plain_choice xs) c
chosen_all scope k values done xs i c end h = subst (λ l. AreChosen scope k values (done ++ map plain_choice l) c) (take_all i xs end) h

abbrev choices_in : PCaseArm → List PChoice
choices_in (case_arm choices l) = choices

choices_end : (xs : List PCaseArm) (x : PCaseArm) → arm_choices (case_arms_of (xs ++ x ∷ [])) ≡ arm_choices (case_arms_of xs) ++ choices_in x
choices_end [] (case_arm choices l) = append-nil choices
choices_end (case_arm choices l ∷ xs) x = ap (λ r. choices ++ r) (choices_end xs x) ∙ sym (append_assoc choices (arm_choices (case_arms_of xs)) (choices_in x))

pub arms_turn : (scope : Scope) (k : ℕ) (values : Option Range) (xs : List CaseArm) (i : ℕ) (x : CaseArm) (choices : List CaseChoice) (c : Chosen) → i < length xs → x ≡ get_or xs i x → choices ≡ (out-CaseArm x).choices.items
    → AreChosen scope k values (arm_choices (case_arms_of (map plain_case_arm (take i xs))) ++ map plain_choice choices) c
    → AreChosen scope k values (arm_choices (case_arms_of (map plain_case_arm (take (i + 1) xs)))) c
arms_turn scope k values xs i x choices c inside at is h =
    subst (λ l. AreChosen scope k values l c)
    (ap (λ l. arm_choices (case_arms_of (map plain_case_arm (take i xs))) ++ l) (ap (map plain_choice) is ∙ ap choices_in (sym (plain_case_arm-out x)))
    ∙ ap (λ y. arm_choices (case_arms_of (map plain_case_arm (take i xs))) ++ choices_in (plain_case_arm y)) at
    ∙ sym (choices_end (map plain_case_arm (take i xs)) (plain_case_arm (get_or xs i x)))
    ∙ ap (λ l. arm_choices (case_arms_of l)) (sym (map_more plain_case_arm xs i x inside)))
    h

pub arms_all : (scope : Scope) (k : ℕ) (values : Option Range) (xs : List CaseArm) (i : ℕ) (c : Chosen) → length xs ≤ i
    → AreChosen scope k values (arm_choices (case_arms_of (map plain_case_arm (take i xs)))) c → AreChosen scope k values (arm_choices (case_arms_of (map plain_case_arm xs))) c
arms_all scope k values xs i c end h = subst (λ l. AreChosen scope k values (arm_choices (case_arms_of (map plain_case_arm l))) c) (take_all i xs end) h

pub reached : (ranges : List (ℤ × ℤ)) (next start end z : ℤ) → first_of ranges end ≡ Some start → start ≤ℤ next → next ≤ℤ z → z ≤ℤ end → Covers ranges z
reached ranges next start end z is s n e = record { last = end; first = start; is = is; from = (grind (arith, ints)); to = e }

-- ---- a value that is left out

pub left_is : (scope : Scope) (k : ℕ) (values : Range) (choices : List PChoice) (chosen : Chosen) (r : Bool) → AreChosen scope k (Some values) choices chosen → (k == 0) ≡ false → chosen.good ≡ true → is_some chosen.refusal ≡ false
    → r ≡ list_any (λ z. not (list_any (λ c. is_covered z (choice_range scope k c)) choices)) (values_in values) → r ≡ left_out scope k (Some values) choices
left_is scope k values choices chosen r h other good free is =
    is
    ∙ sym (ap (λ b. b && list_any (λ z. not (list_any (λ c. is_covered z (choice_range scope k c)) choices)) (values_in values)) (both_true (list_all (λ x. is_good (Some values) (choice_range scope k x)) choices) (length (overlapping scope k [] choices) == 0) (sym h.good_is ∙ good) (sym (none_found 9 (overlapping scope k [] choices)) ∙ ap is_none (sym h.refusal_is) ∙ none_is chosen.refusal free)))
    ∙ sym (ap (λ b. if b then true else (no_choice_refused scope k (Some values) choices && leaves_out scope k (Some values) choices)) other)
  where
    none_is : (o : Option Refusal) → is_some o ≡ false → is_none o ≡ true
    none_is None e = refl
    none_is (Some x) e = absurd (cc)

-- ---- the whole case

pub case_met : (scope : Scope) (e : PExpr) (k : ℕ) (choices : List PChoice) (others : Bool) (span : Span) (kind : Option ℕ) (all left : Option Refusal) → kind ≡ kind_of scope e → kind ≡ Some k
    → all ≡ found 9 (overlapping scope k [] choices) → left ≡ found 9 (if not others && left_out scope k (selected_range scope e) choices then span ∷ [] else [])
    → sooner all left ≡ refused_first_at scope (chooses e choices others span)
case_met scope e k choices others span kind all left is some p q =
    ap (λ x. sooner x left) p
    ∙ ap (sooner (found 9 (overlapping scope k [] choices))) q
    ∙ sym (found_append 9 (overlapping scope k [] choices) (if not others && left_out scope k (selected_range scope e) choices then span ∷ [] else []))
    ∙ ap (λ x. found 9 (bad_choices scope x e choices others span)) (sym some ∙ is)
    ∙ sym (sooner_none (found 9 (bad_choices scope (kind_of scope e) e choices others span)))

pub case_unmet : (scope : Scope) (e : PExpr) (choices : List PChoice) (others : Bool) (span : Span) (kind : Option ℕ) → kind ≡ kind_of scope e → kind ≡ None → None ≡ refused_first_at scope (chooses e choices others span)
case_unmet scope e choices others span kind is none =
    ap (λ x. found 9 (bad_choices scope x e choices others span)) (sym none ∙ is)
    ∙ sym (sooner_none (found 9 (bad_choices scope (kind_of scope e) e choices others span)))
