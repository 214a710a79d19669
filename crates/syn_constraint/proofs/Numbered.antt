-- Known numbers: they are small, and the test of them does not see the cap.
use Rattle.std.proofs.Common.{◌≡◌, ℕ, ℤ, pos, negsuc, neg_ℤ, zero, suc, ◌^◌, ◌<◌, ◌≤◌, Bool, true, false, length, All, Option, None, Some, refl, ap, ◌∙◌, sym, subst, arith, inl, inr, List, [], ◌∷◌, drop}
use Rattle.std.specs.Int.Signed.{mag}
use Rattle.std.specs.Prelude.{◌&&◌, nat_le}
use Rattle.std.specs.Option.{option_map_or}
use Rattle.std.proofs.lemmas.Bool.{and_parts}
use Rattle.std.proofs.lemmas.List.Elements.{All-head, All-tail}
use Rattle.common_lemmas.proofs.Numbers.{le_false}
use Rattle.common_lemmas.proofs.Truth.{clash, false_behind}
use Rattle.syn_event.specs.declared.numbering.EntryInfo.{EntryInfo}
use Rattle.syn_event.specs.Numbering.{Numbering, entry_at}
use Rattle.seq_file.specs.Known.{is_task, is_task_beside_main, is_alternative, is_index, is_known_member, fits_entry}
use Rattle.seq_file.specs.Short.{IsShort}
use Rattle.seq_file.proofs.Knowing.{IsTest, test_by, task-test, beside-test, alternative-test}
use Rattle.seq_file.proofs.Indexing.{index-exact, index-same, index-small, fits-same, fits-index, member-test}
use Rattle.seq_file.specs.text_lines.Capped.{capped, capped_integer}
use Rattle.seq_file.proofs.text_lines.Capping.{capped-small, capped-large}
use Rattle.syn_constraint.specs.declared.constraints.Num.{Num}
use Rattle.syn_constraint.specs.declared.constraints.Num.TheVariants.{Every, Same, Exact}
use Rattle.syn_constraint.specs.declared.constraints.Letter.{Letter}
use Rattle.syn_constraint.specs.declared.constraints.Letter.TheVariants.{R, E, S, D, C, T, F, X, B, Z, Whole}
use Rattle.syn_constraint.specs.declared.constraints.Pattern.{Pattern}
use Rattle.syn_constraint.specs.declared.constraints.Constraint.{Constraint}
use Rattle.syn_constraint.specs.declared.constraints.Constraint.TheVariants.{Before, Most}
use Rattle.syn_constraint.specs.Known.{is_natural_with, is_open_or, is_entry, is_index_of, may_be_task, may_be_beside_main, may_be_call, are_known, is_known_pattern, is_known_constraint}
use Rattle.syn_constraint.specs.Lines.{Line, BeforeLine, NeverLine, MostLine, constraint_of, number_count, pattern_with}
use Rattle.syn_constraint.specs.Files.{IsPlain, IsSound}
use Rattle.syn_constraint.specs.inner.Reading.{capped_num, capped_pattern, capped_constraint}
use Rattle.syn_constraint.proofs.Worded.{IsSmall, ArePlain, AreSmall, HasSmall}

-- ---- one number

entry-test : (numbers : Numbering) → length numbers.entries < 2 ^ 32 → IsTest (is_entry numbers)
entry-test numbers h = test_by (is_entry numbers) (λ m ge. false_behind (nat_le 1 m) (nat_le m (length numbers.entries)) (le_false m (length numbers.entries) (omega (arith, h, ge))))

-- an exact number that is not negative
record IsNumberTest (test : ℤ → Bool) : Type 0 where
  same : (z : ℤ) → test (capped_integer z) ≡ test z
  exact : (z : ℤ) → test z ≡ true → capped_integer z ≡ z
  small : (z : ℤ) → test z ≡ true → mag z < 2 ^ 63

negative-test : (P : ℕ → Bool) (k : ℕ) → 0 < k → is_natural_with P (neg_ℤ (pos k)) ≡ false
negative-test P zero h = absurd (omega (arith, h))
negative-test P (suc k) h = refl

capped-some : (n : ℕ) → 0 < capped (suc n)
unfolding capped
capped-some n = omega arith

natural-test : (P : ℕ → Bool) → IsTest P → IsNumberTest (is_natural_with P)
natural-test P is = record { same = same; exact = exact; small = small }
  where
    same : (z : ℤ) → is_natural_with P (capped_integer z) ≡ is_natural_with P z
    same (pos n) = is.same n
    same (negsuc n) = negative-test P (capped (suc n)) (capped-some n)

    exact : (z : ℤ) → is_natural_with P z ≡ true → capped_integer z ≡ z
    exact (pos n) h = let low : n < 2 ^ 32 = is.small n h in ap pos (capped-small n (omega (arith, low)))
    exact (negsuc n) h = clash h

    small : (z : ℤ) → is_natural_with P z ≡ true → mag z < 2 ^ 63
    small (pos n) h = let low : n < 2 ^ 32 = is.small n h in omega (arith, low)
    small (negsuc n) h = clash h

-- the same of what a pattern asks
record IsNumTest (test : Num → Bool) : Type 0 where
  same : (n : Num) → test (capped_num n) ≡ test n
  exact : (n : Num) → test n ≡ true → capped_num n ≡ n
  small : (n : Num) → test n ≡ true → IsSmall n

open-test : (test : ℤ → Bool) → IsNumberTest test → IsNumTest (is_open_or test)
open-test test is = record { same = same; exact = exact; small = small }
  where
    same : (n : Num) → is_open_or test (capped_num n) ≡ is_open_or test n
    same Every = refl
    same Same = refl
    same (Exact z) = is.same z

    exact : (n : Num) → is_open_or test n ≡ true → capped_num n ≡ n
    exact Every h = refl
    exact Same h = refl
    exact (Exact z) h = ap Exact (is.exact z h)

    small : (n : Num) → is_open_or test n ≡ true → IsSmall n
    small Every h = tt
    small Same h = tt
    small (Exact z) h = is.small z h

num-test : (P : ℕ → Bool) → IsTest P → IsNumTest (is_open_or (is_natural_with P))
num-test P is = open-test (is_natural_with P) (natural-test P is)

-- ---- an index

member-same : (numbers : Numbering) (e : ℕ) (i : ℤ) → is_known_member numbers e (capped_integer i) ≡ is_known_member numbers e i
member-same numbers e i = by_entry (entry_at numbers e)
  where
    by_entry : (o : Option EntryInfo) → option_map_or (fits_entry (capped_integer i)) o false ≡ option_map_or (fits_entry i) o false
    by_entry None = refl
    by_entry (Some info) = fits-same i info

member-index : (numbers : Numbering) (e : ℕ) (i : ℤ) → is_known_member numbers e i ≡ true → is_index i ≡ true
member-index numbers e i h = by_entry (entry_at numbers e) h
  where
    by_entry : (o : Option EntryInfo) → option_map_or (fits_entry i) o false ≡ true → is_index i ≡ true
    by_entry None h = clash h
    by_entry (Some info) h = fits-index i info h

natural-member : (numbers : Numbering) → length numbers.entries < 2 ^ 32 → (e i : ℤ) →
    is_natural_with (λ n. is_known_member numbers n (capped_integer i)) (capped_integer e) ≡ is_natural_with (λ n. is_known_member numbers n i) e
natural-member numbers h (pos n) i = let is : IsTest (λ k. is_known_member numbers k (capped_integer i)) = member-test numbers (capped_integer i) h in is.same n ∙ member-same numbers n i
natural-member numbers h (negsuc n) i = negative-test (λ k. is_known_member numbers k (capped_integer i)) (capped (suc n)) (capped-some n)

index-capped : (numbers : Numbering) → length numbers.entries < 2 ^ 32 → (e : Num) (i : ℤ) → is_index_of numbers (capped_num e) (capped_integer i) ≡ is_index_of numbers e i
index-capped numbers h Every i = index-same i
index-capped numbers h Same i = index-same i
index-capped numbers h (Exact e) i = natural-member numbers h e i

index-known : (numbers : Numbering) (e : Num) (i : ℤ) → is_index_of numbers e i ≡ true → is_index i ≡ true
index-known numbers Every i h = h
index-known numbers Same i h = h
index-known numbers (Exact (pos n)) i h = member-index numbers n i h
index-known numbers (Exact (negsuc n)) i h = clash h

index-open : (numbers : Numbering) → length numbers.entries < 2 ^ 32 → (e i : Num) → is_open_or (is_index_of numbers (capped_num e)) (capped_num i) ≡ is_open_or (is_index_of numbers e) i
index-open numbers h e Every = refl
index-open numbers h e Same = refl
index-open numbers h e (Exact z) = index-capped numbers h e z

index-num : (numbers : Numbering) (e i : Num) → is_open_or (is_index_of numbers e) i ≡ true → (capped_num i ≡ i) × IsSmall i
index-num numbers e Every h = (refl, tt)
index-num numbers e Same h = (refl, tt)
index-num numbers e (Exact z) h = let index : is_index z ≡ true = index-known numbers e z h in (ap Exact (index-exact z index), index-small z index)

-- ---- the numbers of a letter

-- three numbers stand as they are, and are small
record AreExact (a b c : Num) : Type 0 where
  one : capped_num a ≡ a
  two : capped_num b ≡ b
  three : capped_num c ≡ c
  small_one : IsSmall a
  small_two : IsSmall b
  small_three : IsSmall c

every-exact : (n : Num) → n ≡ Every → (capped_num n ≡ n) × IsSmall n
every-exact n e = subst (λ m. (capped_num m ≡ m) × IsSmall m) (sym e) (refl, tt)

call-exact : (numbers : Numbering) → IsShort numbers → (a b c : Num) → may_be_call numbers a b c ≡ true → AreExact a b c
call-exact numbers short a b c h =
    let task = num-test (is_task numbers) (task-test numbers short.tasks) in
    let entry = num-test (is_entry numbers) (entry-test numbers short.entries) in
    let first = and_parts (may_be_task numbers a) (is_open_or (is_natural_with (is_entry numbers)) b && is_open_or (is_index_of numbers b) c) h in
    let rest = and_parts (is_open_or (is_natural_with (is_entry numbers)) b) (is_open_or (is_index_of numbers b) c) first.1 in
    let index = index-num numbers b c rest.1 in
    record {
      one = task.exact a first.0;
      two = entry.exact b rest.0;
      three = index.0;
      small_one = task.small a first.0;
      small_two = entry.small b rest.0;
      small_three = index.1;
    }

one-exact : (numbers : Numbering) → IsShort numbers → (a b c : Num) → ArePlain 1 a b c → may_be_beside_main numbers a ≡ true → AreExact a b c
one-exact numbers short a b c plain h =
    let task = num-test (is_task_beside_main numbers) (beside-test numbers short.tasks) in
    let second = every-exact b (All-head (λ m. m ≡ Every) b (c ∷ []) plain) in
    let third = every-exact c (All-head (λ m. m ≡ Every) c [] (All-tail (λ m. m ≡ Every) b (c ∷ []) plain)) in
    record { one = task.exact a h; two = second.0; three = third.0; small_one = task.small a h; small_two = second.1; small_three = third.1 }

two-exact : (P Q : Num → Bool) → IsNumTest P → IsNumTest Q → (a b c : Num) → ArePlain 2 a b c → (P a && Q b) ≡ true → AreExact a b c
two-exact P Q p q a b c plain h =
    let both = and_parts (P a) (Q b) h in
    let third = every-exact c (All-head (λ m. m ≡ Every) c [] plain) in
    record { one = p.exact a both.0; two = q.exact b both.1; three = third.0; small_one = p.small a both.0; small_two = q.small b both.1; small_three = third.1 }

none-exact : (a b c : Num) → ArePlain 0 a b c → AreExact a b c
none-exact a b c plain =
    let behind : All (λ m. m ≡ Every) (b ∷ c ∷ []) = All-tail (λ m. m ≡ Every) a (b ∷ c ∷ []) plain in
    let first = every-exact a (All-head (λ m. m ≡ Every) a (b ∷ c ∷ []) plain) in
    let second = every-exact b (All-head (λ m. m ≡ Every) b (c ∷ []) behind) in
    let third = every-exact c (All-head (λ m. m ≡ Every) c [] (All-tail (λ m. m ≡ Every) b (c ∷ []) behind)) in
    record { one = first.0; two = second.0; three = third.0; small_one = first.1; small_two = second.1; small_three = third.1 }

wait-exact : (numbers : Numbering) → IsShort numbers → (a b c : Num) → ArePlain 2 a b c → (may_be_beside_main numbers a && is_open_or (is_natural_with is_alternative) b) ≡ true → AreExact a b c
wait-exact numbers short a b c plain h =
    two-exact (may_be_beside_main numbers) (is_open_or (is_natural_with is_alternative)) (num-test (is_task_beside_main numbers) (beside-test numbers short.tasks)) (num-test is_alternative alternative-test) a b c plain h

abort-exact : (numbers : Numbering) → IsShort numbers → (a b c : Num) → ArePlain 2 a b c → (may_be_task numbers a && may_be_beside_main numbers b) ≡ true → AreExact a b c
abort-exact numbers short a b c plain h =
    two-exact (may_be_task numbers) (may_be_beside_main numbers) (num-test (is_task numbers) (task-test numbers short.tasks)) (num-test (is_task_beside_main numbers) (beside-test numbers short.tasks)) a b c plain h

known-exact : (numbers : Numbering) → IsShort numbers → (l : Letter) (a b c : Num) → ArePlain (number_count l) a b c → are_known numbers l a b c ≡ true → AreExact a b c
known-exact numbers short R a b c plain h = call-exact numbers short a b c h
known-exact numbers short E a b c plain h = one-exact numbers short a b c plain h
known-exact numbers short S a b c plain h = one-exact numbers short a b c plain h
known-exact numbers short D a b c plain h = wait-exact numbers short a b c plain h
known-exact numbers short C a b c plain h = call-exact numbers short a b c h
known-exact numbers short T a b c plain h = call-exact numbers short a b c h
known-exact numbers short F a b c plain h = call-exact numbers short a b c h
known-exact numbers short X a b c plain h = one-exact numbers short a b c plain h
known-exact numbers short B a b c plain h = abort-exact numbers short a b c plain h
known-exact numbers short Z a b c plain h = none-exact a b c plain
known-exact numbers short Whole a b c plain h = none-exact a b c plain

-- the test does not see the cap
call-capped : (numbers : Numbering) → IsShort numbers → (a b c : Num) → may_be_call numbers (capped_num a) (capped_num b) (capped_num c) ≡ may_be_call numbers a b c
call-capped numbers short a b c =
    let task = num-test (is_task numbers) (task-test numbers short.tasks) in
    let entry = num-test (is_entry numbers) (entry-test numbers short.entries) in
    ap (λ t. t && (is_open_or (is_natural_with (is_entry numbers)) (capped_num b) && is_open_or (is_index_of numbers (capped_num b)) (capped_num c))) (task.same a)
    ∙ ap (λ t. may_be_task numbers a && (t && is_open_or (is_index_of numbers (capped_num b)) (capped_num c))) (entry.same b)
    ∙ ap (λ t. may_be_task numbers a && (is_open_or (is_natural_with (is_entry numbers)) b && t)) (index-open numbers short.entries b c)

beside-capped : (numbers : Numbering) → IsShort numbers → (a : Num) → may_be_beside_main numbers (capped_num a) ≡ may_be_beside_main numbers a
beside-capped numbers short a = let task = num-test (is_task_beside_main numbers) (beside-test numbers short.tasks) in task.same a

both-capped : (P Q : Num → Bool) → IsNumTest P → IsNumTest Q → (a b : Num) → (P (capped_num a) && Q (capped_num b)) ≡ (P a && Q b)
both-capped P Q p q a b = ap (λ t. t && Q (capped_num b)) (p.same a) ∙ ap (λ t. P a && t) (q.same b)

known-capped : (numbers : Numbering) → IsShort numbers → (l : Letter) (a b c : Num) → are_known numbers l (capped_num a) (capped_num b) (capped_num c) ≡ are_known numbers l a b c
known-capped numbers short R a b c = call-capped numbers short a b c
known-capped numbers short E a b c = beside-capped numbers short a
known-capped numbers short S a b c = beside-capped numbers short a
known-capped numbers short D a b c =
    both-capped (may_be_beside_main numbers) (is_open_or (is_natural_with is_alternative)) (num-test (is_task_beside_main numbers) (beside-test numbers short.tasks)) (num-test is_alternative alternative-test) a b
known-capped numbers short C a b c = call-capped numbers short a b c
known-capped numbers short T a b c = call-capped numbers short a b c
known-capped numbers short F a b c = call-capped numbers short a b c
known-capped numbers short X a b c = beside-capped numbers short a
known-capped numbers short B a b c =
    both-capped (may_be_task numbers) (may_be_beside_main numbers) (num-test (is_task numbers) (task-test numbers short.tasks)) (num-test (is_task_beside_main numbers) (beside-test numbers short.tasks)) a b
known-capped numbers short Z a b c = refl
known-capped numbers short Whole a b c = refl

-- ---- patterns, lines and constraints

pattern-small : (numbers : Numbering) → IsShort numbers → (p : Pattern) → IsPlain p → is_known_pattern numbers p ≡ true → AreSmall p
pattern-small numbers short p plain h =
    let are : AreExact p.one p.two p.three = known-exact numbers short p.letter p.one p.two p.three plain h in
    record { one = are.small_one; two = are.small_two; three = are.small_three }

pattern-exact : (numbers : Numbering) → IsShort numbers → (p : Pattern) → IsPlain p → is_known_pattern numbers p ≡ true → capped_pattern p ≡ p
pattern-exact numbers short p plain h =
    let are : AreExact p.one p.two p.three = known-exact numbers short p.letter p.one p.two p.three plain h in
    ap (λ t. pattern_with p.letter t (capped_num p.two) (capped_num p.three)) are.one
    ∙ ap (λ t. pattern_with p.letter p.one t (capped_num p.three)) are.two
    ∙ ap (λ t. pattern_with p.letter p.one p.two t) are.three

pattern-capped : (numbers : Numbering) → IsShort numbers → (p : Pattern) → is_known_pattern numbers (capped_pattern p) ≡ is_known_pattern numbers p
pattern-capped numbers short p = known-capped numbers short p.letter p.one p.two p.three

-- the exact numbers of a line of known ones are small
pub line-small : (numbers : Numbering) → IsShort numbers → (line : Line) → IsSound line → is_known_constraint numbers (constraint_of line) ≡ true → HasSmall line
line-small numbers short (BeforeLine a b) sound h =
    let both = and_parts (is_known_pattern numbers a) (is_known_pattern numbers b) h in
    (pattern-small numbers short a sound.0 both.0, pattern-small numbers short b sound.1 both.1)
line-small numbers short (NeverLine x a b) sound h =
    let first = and_parts (is_known_pattern numbers x) (is_known_pattern numbers a && is_known_pattern numbers b) h in
    let rest = and_parts (is_known_pattern numbers a) (is_known_pattern numbers b) first.1 in
    (pattern-small numbers short x sound.0 first.0, pattern-small numbers short a sound.1 rest.0, pattern-small numbers short b sound.2 rest.1)
line-small numbers short (MostLine n x a b) sound h =
    let first = and_parts (is_known_pattern numbers x) (is_known_pattern numbers a && is_known_pattern numbers b) h in
    let rest = and_parts (is_known_pattern numbers a) (is_known_pattern numbers b) first.1 in
    (pattern-small numbers short x sound.1 first.0, pattern-small numbers short a sound.2 rest.0, pattern-small numbers short b sound.3 rest.1)

three-exact : (numbers : Numbering) → IsShort numbers → (n : ℕ) (x a b : Pattern) → IsPlain x → IsPlain a → IsPlain b → is_known_constraint numbers (Most n x a b) ≡ true →
    capped_constraint (Most n x a b) ≡ Most n x a b
three-exact numbers short n x a b px pa pb h =
    let first = and_parts (is_known_pattern numbers x) (is_known_pattern numbers a && is_known_pattern numbers b) h in
    let rest = and_parts (is_known_pattern numbers a) (is_known_pattern numbers b) first.1 in
    ap (λ t. Most n t (capped_pattern a) (capped_pattern b)) (pattern-exact numbers short x px first.0)
    ∙ ap (λ t. Most n x t (capped_pattern b)) (pattern-exact numbers short a pa rest.0)
    ∙ ap (λ t. Most n x a t) (pattern-exact numbers short b pb rest.1)

-- known numbers stand as they are
pub line-exact : (numbers : Numbering) → IsShort numbers → (line : Line) → IsSound line → is_known_constraint numbers (constraint_of line) ≡ true → capped_constraint (constraint_of line) ≡ constraint_of line
line-exact numbers short (BeforeLine a b) sound h =
    let both = and_parts (is_known_pattern numbers a) (is_known_pattern numbers b) h in
    ap (λ t. Before t (capped_pattern b)) (pattern-exact numbers short a sound.0 both.0)
    ∙ ap (λ t. Before a t) (pattern-exact numbers short b sound.1 both.1)
line-exact numbers short (NeverLine x a b) sound h = three-exact numbers short 0 x a b sound.0 sound.1 sound.2 h
line-exact numbers short (MostLine n x a b) sound h = three-exact numbers short n x a b sound.1 sound.2 sound.3 h

pub constraint-capped : (numbers : Numbering) → IsShort numbers → (c : Constraint) → is_known_constraint numbers (capped_constraint c) ≡ is_known_constraint numbers c
constraint-capped numbers short (Before a b) =
    ap (λ t. t && is_known_pattern numbers (capped_pattern b)) (pattern-capped numbers short a)
    ∙ ap (λ t. is_known_pattern numbers a && t) (pattern-capped numbers short b)
constraint-capped numbers short (Most n x a b) =
    ap (λ t. t && (is_known_pattern numbers (capped_pattern a) && is_known_pattern numbers (capped_pattern b))) (pattern-capped numbers short x)
    ∙ ap (λ t. is_known_pattern numbers x && (t && is_known_pattern numbers (capped_pattern b))) (pattern-capped numbers short a)
    ∙ ap (λ t. is_known_pattern numbers x && (is_known_pattern numbers a && t)) (pattern-capped numbers short b)
