-- What is read, written, added and left of the variables that are kept.
use Rattle.std.specs.Prelude.{◌≡◌, ◌==◌, ◌≤◌, ◌<◌, ◌+◌, ◌-◌, ℕ, zero, suc, nat_lt, Bool, true, false, if◌then◌else◌, List, [], ◌∷◌, ◌++◌, length, find, drop, take, slice_get, slice_range, slice_set, Option, Some, None, option_map, refl, Result, Ok, Err, OnOk}
use Rattle.std.proofs.Common.{sym, ap, ◌∙◌, subst, arith}
use Rattle.std.proofs.lemmas.List.{drop-take, take-set-le, drop-set-lt, drop-set-add, set_past, length-set, length-take, length-take-le, take-take, length-append}
use Rattle.std.proofs.Math.Seq.{take-set-lt, take-append_seam, drop-append_seam, take-length}
use Rattle.std.proofs.lemmas.Option.{slice_get_past}
use Rattle.std.proofs.lemmas.Bool.Decides.{nat_tests}
use Rattle.ada_tree.specs.declared.naming.NameId.{NameId}
use Rattle.ada_value.specs.declared.values.Value.{Value}
use Rattle.ada_value.specs.declared.values.Form.{Form}
use Rattle.ada_value.specs.Variables.{Object, object_named, object_with, with_value, set_value}
use Rattle.scoped_names.specs.Meaning.{meaning_in}
use Rattle.task_links.specs.declared.store.objects.Extent.{Extent}
use Rattle.task_links.specs.store.Latest.{with_latest}
use Rattle.task_links.specs.store.inner.Kept.{object_at, objects_kept, IsKept, AreKept, IsWithin, slot_of, latest_of, set_there}
use Rattle.common_lemmas.proofs.Options.{some_same}

pub on_both : {A E P Q R : Type 0} (r : Result A E) → (P → Q → R) → OnOk r P → OnOk r Q → OnOk r R
on_both (Ok x) f p q = f p q
on_both (Err e) f p q = p

-- ---- what a name means

-- what the test of the first name leads to, of two lists
abbrev first : Bool → ℕ × Extent → Option (ℕ × Extent) → Option Extent
first b s later = option_map (λ p. p.1) (if b then Some s else later)

-- the test of a name may be made at the variable's own name
own_test : (s : ℕ × Extent) (rest : List (ℕ × Extent)) (id n : ℕ) → IsKept s n → meaning_in (s ∷ rest) id ≡ first (s.1.name.0 == id) s (find (λ p. p.0 == id) rest)
own_test s rest id n h = ap (λ k. first (k == id) s (find (λ p. p.0 == id) rest)) h.name_is

named_test : (values : List Value) (s : ℕ × Extent) (o : Option Object) (q : Option (ℕ × Extent)) (b : Bool) → o ≡ option_map (object_at values) (option_map (λ p. p.1) q)
    → (if b then Some (object_at values s.1) else o) ≡ option_map (object_at values) (first b s q)
named_test values s o q true h = refl
named_test values s o q false h = h

pub named_kept : (values : List Value) (names : List (ℕ × Extent)) (id : NameId) (n : ℕ) → AreKept names n → object_named (objects_kept values names) id ≡ option_map (object_at values) (meaning_in names id.0)
named_kept values [] id n h = refl
named_kept values (s ∷ rest) id n h =
    named_test values s (object_named (objects_kept values rest) id) (find (λ p. p.0 == id.0) rest) (s.1.name.0 == id.0) (named_kept values rest id s.1.start h.1)
    ∙ ap (option_map (object_at values)) (sym (own_test s rest id.0 n h.0))

pub at_kept : (values : List Value) (names : List (ℕ × Extent)) (k : ℕ) → slice_get (objects_kept values names) k ≡ option_map (object_at values) (option_map (λ p. p.1) (slice_get names k))
at_kept values [] k = refl
at_kept values (s ∷ rest) zero = refl
at_kept values (s ∷ rest) (suc k) = at_kept values rest k

pub at_past : (values : List Value) (names : List (ℕ × Extent)) (k : ℕ) → length names ≤ k → None ≡ slice_get (objects_kept values names) k
at_past values names k h = sym (at_kept values names k ∙ ap (λ o. option_map (object_at values) (option_map (λ p. p.1) o)) (slice_get_past names k h))

-- ---- what is kept lies within the list

within_first : (s : ℕ × Extent) (x : Extent) (n : ℕ) → IsKept s n → Some x ≡ Some s.1 → IsWithin x n
within_first s x n h e = subst (λ y. IsWithin y n) (sym (some_same e)) (record { start_within = h.start_within; end_within = omega (arith, h.end_is) })

within_later : (s : ℕ × Extent) (x : Extent) (n : ℕ) → IsKept s n → IsWithin x s.1.start → IsWithin x n
within_later s x n h w = record { start_within = w.start_within; end_within = omega (arith, h.end_is, h.start_within, w.end_within) }

none_is_not : (x : Extent) → Some x ≡ None → ⊥
none_is_not x h = cc

within_test : (s : ℕ × Extent) (q : Option (ℕ × Extent)) (x : Extent) (n : ℕ) (b : Bool) → IsKept s n → (Some x ≡ option_map (λ p. p.1) q → IsWithin x s.1.start) → Some x ≡ first b s q → IsWithin x n
within_test s q x n true h later e = within_first s x n h e
within_test s q x n false h later e = within_later s x n h (later e)

pub within : (names : List (ℕ × Extent)) (id n : ℕ) (x : Extent) → AreKept names n → Some x ≡ meaning_in names id → IsWithin x n
within [] id n x h e = absurd (none_is_not x e)
within (s ∷ rest) id n x h e = within_test s (find (λ p. p.0 == id) rest) x n (s.0 == id) h.0 (λ f. within rest id s.1.start x h.1 f) e

pub within_at : (names : List (ℕ × Extent)) (k n : ℕ) (x : Extent) → AreKept names n → Some x ≡ option_map (λ p. p.1) (slice_get names k) → IsWithin x n
within_at [] k n x h e = absurd (none_is_not x e)
within_at (s ∷ rest) zero n x h e = within_first s x n h.0 e
within_at (s ∷ rest) (suc k) n x h e = within_later s x n h.0 (within_at rest k s.1.start x h.1 e)

-- ---- parts of lists

-- what begins alike has the same parts there
same_part : (xs ys : List Value) (a b : ℕ) → a ≤ b → take b xs ≡ take b ys → slice_range xs a b ≡ slice_range ys a b
same_part xs ys a b h e =
    let whole : a + (b - a) ≡ b = omega (arith, h) in
    sym (drop-take a (b - a) xs) ∙ ap (λ n. drop a (take n xs)) whole ∙ ap (drop a) e ∙ ap (λ n. drop a (take n ys)) (sym whole) ∙ drop-take a (b - a) ys

shorter : (xs ys : List Value) (a b : ℕ) → a ≤ b → take b xs ≡ take b ys → take a xs ≡ take a ys
shorter xs ys a b h e = sym (take-take a b xs h) ∙ ap (take a) e ∙ take-take a b ys h

-- variables whose values stand in what begins alike are the same
pub same_kept : (xs ys : List Value) (names : List (ℕ × Extent)) (n : ℕ) → AreKept names n → take n xs ≡ take n ys → objects_kept xs names ≡ objects_kept ys names
same_kept xs ys [] n h e = refl
same_kept xs ys (s ∷ rest) n h e =
    let upto : take s.1.end xs ≡ take s.1.end ys = subst (λ m. take m xs ≡ take m ys) (sym h.0.end_is) e in
    ap (λ part. object_with s.1.name s.1.form part ∷ objects_kept xs rest) (same_part xs ys s.1.start s.1.end h.0.start_within upto)
    ∙ ap (λ later. object_at ys s.1 ∷ later) (same_kept xs ys rest s.1.start h.1 (shorter xs ys s.1.start s.1.end h.0.start_within upto))

-- ---- a value is written

written_part : (values : List Value) (x : Extent) (k : ℕ) (v : Value) → k < x.end - x.start → slice_set (slice_range values x.start x.end) k v ≡ slice_range (slice_set values (x.start + k) v) x.start x.end
written_part values x k v h =
    sym (take-set-lt (x.end - x.start) (drop x.start values) k v h) ∙ ap (take (x.end - x.start)) (sym (drop-set-add x.start values k v))

part_past : (values : List Value) (x : Extent) (k : ℕ) (v : Value) → x.end - x.start ≤ k → slice_set (slice_range values x.start x.end) k v ≡ slice_range values x.start x.end
part_past values x k v h =
    let long : length (slice_range values x.start x.end) ≤ k = rw (length-take (x.end - x.start) (drop x.start values)) (omega (arith, h)) in
    set_past (slice_range values x.start x.end) k v long

-- the part of a later variable is untouched by what is written below it
part_above : (values : List Value) (x : Extent) (i : ℕ) (v : Value) → i < x.start → slice_range (slice_set values i v) x.start x.end ≡ slice_range values x.start x.end
part_above values x i v h = ap (take (x.end - x.start)) (drop-set-lt x.start values i v h)

abbrev Writes : List Value → List (ℕ × Extent) → NameId → ℕ → Value → Option Extent → Type 0
Writes values names id k v found = set_value (objects_kept values names) id k v ≡ objects_kept (set_there values (slot_of found k) v) names

-- the first variable is the one that is meant
first_written : (values : List Value) (s : ℕ × Extent) (rest : List (ℕ × Extent)) (n k : ℕ) (v : Value) (b : Bool) → IsKept s n → AreKept rest s.1.start → nat_lt k (s.1.end - s.1.start) ≡ b
    → with_value (object_at values s.1) k v ∷ objects_kept values rest ≡ objects_kept (set_there values (if b then Some (s.1.start + k) else None) v) (s ∷ rest)
first_written values s rest n k v true h later e =
    let inside : k < s.1.end - s.1.start = grind (arith, nat_tests, e) in
    ap (λ part. object_with s.1.name s.1.form part ∷ objects_kept values rest) (written_part values s.1 k v inside)
    ∙ ap (λ r. object_at (slice_set values (s.1.start + k) v) s.1 ∷ r)
    (same_kept values (slice_set values (s.1.start + k) v) rest s.1.start later (sym (take-set-le s.1.start values (s.1.start + k) v (omega arith))))
first_written values s rest n k v false h later e =
    let past : s.1.end - s.1.start ≤ k = grind (arith, nat_tests, e) in
    ap (λ part. object_with s.1.name s.1.form part ∷ objects_kept values rest) (part_past values s.1 k v past)

-- what is written for a later name leaves the first variable as it is
below_first : (s : ℕ × Extent) (x : Extent) (k : ℕ) → IsWithin x s.1.start → k < x.end - x.start → x.start + k < s.1.start
below_first s x k w h = omega (arith, w.end_within, h)

later_slot : (values : List Value) (s : ℕ × Extent) (x : Extent) (k : ℕ) (v : Value) (b : Bool) → IsWithin x s.1.start → nat_lt k (x.end - x.start) ≡ b
    → object_at values s.1 ≡ object_at (set_there values (if b then Some (x.start + k) else None) v) s.1
later_slot values s x k v true w e =
    let inside : k < x.end - x.start = grind (arith, nat_tests, e) in
    ap (object_with s.1.name s.1.form) (sym (part_above values s.1 (x.start + k) v (below_first s x k w inside)))
later_slot values s x k v false w e = refl

later_same : (values : List Value) (s : ℕ × Extent) (found : Option Extent) (k : ℕ) (v : Value) → ((x : Extent) → Some x ≡ found → IsWithin x s.1.start)
    → object_at values s.1 ≡ object_at (set_there values (slot_of found k) v) s.1
later_same values s None k v w = refl
later_same values s (Some x) k v w = later_slot values s x k v (nat_lt k (x.end - x.start)) (w x refl) refl

written_test : (values : List Value) (s : ℕ × Extent) (rest : List (ℕ × Extent)) (q : Option (ℕ × Extent)) (id : NameId) (n k : ℕ) (v : Value) (b : Bool) → IsKept s n → AreKept rest s.1.start
    → ((x : Extent) → Some x ≡ option_map (λ p. p.1) q → IsWithin x s.1.start)
    → Writes values rest id k v (option_map (λ p. p.1) q)
    → (if b then with_value (object_at values s.1) k v ∷ objects_kept values rest else object_at values s.1 ∷ set_value (objects_kept values rest) id k v)
    ≡ objects_kept (set_there values (slot_of (first b s q) k) v) (s ∷ rest)
written_test values s rest q id n k v true h kept w later = first_written values s rest n k v (nat_lt k (s.1.end - s.1.start)) h kept refl
written_test values s rest q id n k v false h kept w later =
    ap (λ r. object_at values s.1 ∷ r) later
    ∙ ap (λ o. o ∷ objects_kept (set_there values (slot_of (option_map (λ p. p.1) q) k) v) rest) (later_same values s (option_map (λ p. p.1) q) k v w)

pub set_kept : (values : List Value) (names : List (ℕ × Extent)) (id : NameId) (k n : ℕ) (v : Value) → AreKept names n → Writes values names id k v (meaning_in names id.0)
set_kept values [] id k n v h = refl
set_kept values (s ∷ rest) id k n v h =
    written_test values s rest (find (λ p. p.0 == id.0) rest) id n k v (s.1.name.0 == id.0) h.0 h.1 (λ x e. within rest id.0 s.1.start x h.1 e) (set_kept values rest id k s.1.start v h.1)
    ∙ ap (λ found. objects_kept (set_there values (slot_of found k) v) (s ∷ rest)) (sym (own_test s rest id.0 n h.0))

pub length_set : (values : List Value) (slot : Option ℕ) (v : Value) → length (set_there values slot v) ≡ length values
length_set values None v = refl
length_set values (Some i) v = length-set values i v

-- ---- the latest variable

pub latest_kept : (values : List Value) (names : List (ℕ × Extent)) (n : ℕ) (v : Value) → AreKept names n
    → with_latest (objects_kept values names) v ≡ objects_kept (set_there values (slot_of (latest_of names) 0) v) names
latest_kept values [] n v h = refl
latest_kept values (s ∷ rest) n v h = first_written values s rest n 0 v (nat_lt 0 (s.1.end - s.1.start)) h.0 h.1 refl

-- ---- a variable more, and one less

pub part_behind : (xs ys : List Value) → slice_range (xs ++ ys) (length xs) (length (xs ++ ys)) ≡ ys
part_behind xs ys =
    ap (take (length (xs ++ ys) - length xs)) (drop-append_seam xs ys)
    ∙ ap (λ n. take n ys) (rw (length-append xs ys) (omega arith))
    ∙ take-length ys

pub pushed_kept : (values more : List Value) (names : List (ℕ × Extent)) (name : NameId) (form : Form) → AreKept names (length values)
    → objects_kept (values ++ more) ((name.0, record { name = name; form = form; start = length values; end = length (values ++ more) }) ∷ names)
    ≡ object_with name form more ∷ objects_kept values names
pushed_kept values more names name form h =
    ap (λ part. object_with name form part ∷ objects_kept (values ++ more) names) (part_behind values more)
    ∙ ap (λ r. object_with name form more ∷ r)
    (same_kept (values ++ more) values names (length values) h (take-append_seam values more ∙ sym (take-length values)))

-- the same, of what the calls have made
pub pushed_there : (values more longer items : List Value) (names more_names : List (ℕ × Extent)) (name : NameId) (form : Form) (start : ℕ) → start ≡ length values → longer ≡ values ++ more
    → more_names ≡ (name.0, record { name = name; form = form; start = start; end = length longer }) ∷ names → items ≡ longer → AreKept names (length values)
    → objects_kept items more_names ≡ object_with name form more ∷ objects_kept values names
pushed_there values more longer items names more_names name form start starts grows declares same h =
    ap (λ l. objects_kept l more_names) same
    ∙ ap (objects_kept longer) declares
    ∙ ap (λ l. objects_kept l ((name.0, record { name = name; form = form; start = start; end = length l }) ∷ names)) grows
    ∙ ap (λ n. objects_kept (values ++ more) ((name.0, record { name = name; form = form; start = n; end = length (values ++ more) }) ∷ names)) starts
    ∙ pushed_kept values more names name form h

pub pushed_within : (values more : List Value) (names : List (ℕ × Extent)) (name : NameId) (form : Form) → AreKept names (length values)
    → AreKept ((name.0, record { name = name; form = form; start = length values; end = length (values ++ more) }) ∷ names) (length (values ++ more))
pushed_within values more names name form h =
    (record { name_is = refl; end_is = refl; start_within = rw (length-append values more) (omega arith) }, h)

pub cut_back : (values more : List Value) → take (length values) (values ++ more) ≡ values
cut_back values more = take-append_seam values more

-- what the place of the latest variable holds
start_of : (s : ℕ × Extent) (x : Extent) → Some x ≡ Some s.1 → x.start ≡ s.1.start
start_of s x e = ap (λ y. y.start) (some_same e)

start_below : (s : ℕ × Extent) (n : ℕ) → IsKept s n → s.1.start ≤ n
start_below s n h = omega (arith, h.end_is, h.start_within)

pub forgotten : (values : List Value) (names : List (ℕ × Extent)) (x : Extent) → AreKept names (length values) → Some x ≡ option_map (λ p. p.1) (slice_get names 0)
    → objects_kept (take x.start values) (drop 1 names) ≡ drop 1 (objects_kept values names)
forgotten values [] x h e = refl
forgotten values (s ∷ rest) x h e =
    ap (λ n. objects_kept (take n values) rest) (start_of s x e)
    ∙ same_kept (take s.1.start values) values rest s.1.start h.1 (take-take s.1.start s.1.start values (omega arith))

pub forgotten_within : (values : List Value) (names : List (ℕ × Extent)) (x : Extent) → AreKept names (length values) → Some x ≡ option_map (λ p. p.1) (slice_get names 0)
    → AreKept (drop 1 names) (length (take x.start values))
forgotten_within values [] x h e = absurd (none_is_not x e)
forgotten_within values (s ∷ rest) x h e =
    let short : length (take x.start values) ≡ s.1.start = ap (λ n. length (take n values)) (start_of s x e) ∙ length-take-le s.1.start values (start_below s (length values) h.0) in
    subst (λ n. AreKept rest n) (sym short) h.1
