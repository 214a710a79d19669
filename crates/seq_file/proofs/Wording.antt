-- The event that a line writes is the one whose text the line is.
use Rattle.std.proofs.Common.{◌≡◌, ℕ, ℤ, ◌^◌, ◌<◌, true, false, cond, List, [], ◌∷◌, ◌++◌, Option, None, Some, option_map, refl, ap, ◌∙◌, sym, subst, arith, inl, inr, decimal}
use Rattle.std.specs.Fmt.{signed_decimal}
use Rattle.std.specs.Int.Signed.{mag}
use Rattle.std.specs.List.{join_with_byte}
use Rattle.std.specs.Prelude.{◌&&◌, ◌==◌, bytes_eq, codes, is_some, unwrap_or}
use Rattle.std.specs.Option.{option_map_or}
use Rattle.std.proofs.lemmas.Bool.{cases_Bool, and_parts}
use Rattle.std.proofs.lemmas.List.Elements.{All-append}
use Rattle.std.proofs.lemmas.List.Splits.{slice_split_at, slice_split_none, join_with_byte-slice_split}
use Rattle.std.proofs.lemmas.Slice.Eq.{bytes_eq-Decides}
use Rattle.ded_io.specs.Written.{◌⧺◌}
use Rattle.event_machine.specs.declared.Event.{Event}
use Rattle.event_machine.specs.declared.Event.TheVariants.{R, E, S, D, C, T, F, X, B, Z}
use Rattle.syn_event.specs.declared.numbering.EntryInfo.{EntryInfo}
use Rattle.syn_event.specs.EventText.{event_text, call_event_text, one_text, two_text}
use Rattle.syn_event.specs.Numbering.{Numbering, entry_at}
use Rattle.seq_file.specs.Short.{IsShort}
use Rattle.seq_file.specs.Known.{is_task, is_task_beside_main, is_alternative, is_known_member, is_call, is_index, is_known, fits_entry}
use Rattle.seq_file.specs.text_lines.Lines.{is_blank, words_of}
use Rattle.seq_file.specs.Lines.{with_two, with_three, lone_event, task_event, pair_event, call_event, event_of_words, event_of_line}
use Rattle.seq_file.specs.text_lines.Numerals.{count, integer}
use Rattle.seq_file.proofs.Indexing.{fits-index, index-small, member-test}
use Rattle.seq_file.proofs.Knowing.{IsTest, task-test, beside-test, alternative-test}
use Rattle.seq_file.proofs.text_lines.Marking.{IsFreeOf, free-cons, free-one, decimal-free, signed-free}
use Rattle.seq_file.proofs.text_lines.Spelling.{count-of_decimal, integer-of_signed, word-of_count, word-of_integer}
use Rattle.common_lemmas.proofs.Truth.{clash}

abbrev wide : (n : ℕ) → n < 2 ^ 32 → n < 2 ^ 64
wide n h = omega (arith, h)

index-of : (o : Option EntryInfo) (i : ℤ) → option_map_or (fits_entry i) o false ≡ true → is_index i ≡ true
index-of None i h = clash h
index-of (Some info) i h = fits-index i info h

member-index : (numbers : Numbering) (e : ℕ) (i : ℤ) → is_known_member numbers e i ≡ true → is_index i ≡ true
member-index numbers e i h = index-of (entry_at numbers e) i h

-- the numbers of a call that the program has are small
record IsSmallCall (c e : ℕ) (i : ℤ) : Type 0 where
  caller : c < 2 ^ 64
  entry : e < 2 ^ 64
  index : mag i < 2 ^ 63

call-small : (numbers : Numbering) → IsShort numbers → (c e : ℕ) (i : ℤ) → is_call numbers c e i ≡ true → IsSmallCall c e i
call-small numbers short c e i h =
    let both = and_parts (is_task numbers c) (is_known_member numbers e i) h in
    let tasks : IsTest (is_task numbers) = task-test numbers short.tasks in
    let members : IsTest (λ k. is_known_member numbers k i) = member-test numbers i short.entries in
    record {
      caller = wide c (tasks.small c both.0);
      entry = wide e (members.small e both.1);
      index = index-small i (member-index numbers e i both.1);
    }

beside-small : (numbers : Numbering) → IsShort numbers → (a : ℕ) → is_task_beside_main numbers a ≡ true → a < 2 ^ 64
beside-small numbers short a h = let tasks : IsTest (is_task_beside_main numbers) = beside-test numbers short.tasks in wide a (tasks.small a h)

wait-small : (numbers : Numbering) → IsShort numbers → (a k : ℕ) → (is_task_beside_main numbers a && is_alternative k) ≡ true → (a < 2 ^ 64) × (k < 2 ^ 64)
wait-small numbers short a k h =
    let both = and_parts (is_task_beside_main numbers a) (is_alternative k) h in
    let alternatives : IsTest is_alternative = alternative-test in
    (beside-small numbers short a both.0, wide k (alternatives.small k both.1))

abort-small : (numbers : Numbering) → IsShort numbers → (t x : ℕ) → (is_task numbers t && is_task_beside_main numbers x) ≡ true → (t < 2 ^ 64) × (x < 2 ^ 64)
abort-small numbers short t x h =
    let both = and_parts (is_task numbers t) (is_task_beside_main numbers x) h in
    let tasks : IsTest (is_task numbers) = task-test numbers short.tasks in
    (wide t (tasks.small t both.0), beside-small numbers short x both.1)

-- the texts of events, byte by byte
one-text : (l n : ℕ) → one_text (l ∷ 32 ∷ []) n ≡ l ∷ 32 ∷ decimal n
unfolding ◌⧺◌
one-text l n = refl

two-text : (l m n : ℕ) → two_text (l ∷ 32 ∷ []) m n ≡ l ∷ 32 ∷ (decimal m ++ (32 ∷ decimal n))
unfolding ◌⧺◌
two-text l m n = refl

call-text : (l c e : ℕ) (i : ℤ) → call_event_text (l ∷ 32 ∷ []) c e i ≡ l ∷ 32 ∷ (decimal c ++ (32 ∷ (decimal e ++ (32 ∷ signed_decimal i))))
unfolding ◌⧺◌
call-text l c e i = refl

-- and their words
one-words : (l n : ℕ) → (l == 32) ≡ false → n < 2 ^ 64 → words_of (one_text (l ∷ 32 ∷ []) n) ≡ (l ∷ []) ∷ decimal n ∷ []
one-words l n h small =
    ap words_of (one-text l n)
    ∙ slice_split_at is_blank (l ∷ []) 32 (decimal n) (free-one 32 l h) refl
    ∙ ap (λ t. (l ∷ []) ∷ t) (slice_split_none is_blank (decimal n) (decimal-free 32 n (omega arith) small))

two-words : (l m n : ℕ) → (l == 32) ≡ false → m < 2 ^ 64 → n < 2 ^ 64 → words_of (two_text (l ∷ 32 ∷ []) m n) ≡ (l ∷ []) ∷ decimal m ∷ decimal n ∷ []
two-words l m n h hm hn =
    ap words_of (two-text l m n)
    ∙ slice_split_at is_blank (l ∷ []) 32 (decimal m ++ (32 ∷ decimal n)) (free-one 32 l h) refl
    ∙ ap (λ t. (l ∷ []) ∷ t) (slice_split_at is_blank (decimal m) 32 (decimal n) (decimal-free 32 m (omega arith) hm) refl)
    ∙ ap (λ t. (l ∷ []) ∷ decimal m ∷ t) (slice_split_none is_blank (decimal n) (decimal-free 32 n (omega arith) hn))

call-words : (l c e : ℕ) (i : ℤ) → (l == 32) ≡ false → IsSmallCall c e i → words_of (call_event_text (l ∷ 32 ∷ []) c e i) ≡ (l ∷ []) ∷ decimal c ∷ decimal e ∷ signed_decimal i ∷ []
call-words l c e i h small =
    ap words_of (call-text l c e i)
    ∙ slice_split_at is_blank (l ∷ []) 32 (decimal c ++ (32 ∷ (decimal e ++ (32 ∷ signed_decimal i)))) (free-one 32 l h) refl
    ∙ ap (λ t. (l ∷ []) ∷ t) (slice_split_at is_blank (decimal c) 32 (decimal e ++ (32 ∷ signed_decimal i)) (decimal-free 32 c (omega arith) small.caller) refl)
    ∙ ap (λ t. (l ∷ []) ∷ decimal c ∷ t) (slice_split_at is_blank (decimal e) 32 (signed_decimal i) (decimal-free 32 e (omega arith) small.entry) refl)
    ∙ ap (λ t. (l ∷ []) ∷ decimal c ∷ decimal e ∷ t) (slice_split_none is_blank (signed_decimal i) (signed-free 32 i (omega arith) small.index))

two-numbers : (make : ℕ → ℕ → Event) (m n : ℕ) → m < 2 ^ 64 → n < 2 ^ 64 → with_two make (count (decimal m)) (count (decimal n)) ≡ Some (make m n)
two-numbers make m n hm hn =
    ap (λ t. with_two make t (count (decimal n))) (count-of_decimal m hm) ∙ ap (λ t. with_two make (Some m) t) (count-of_decimal n hn)

three-numbers : (make : ℕ → ℕ → ℤ → Event) (c e : ℕ) (i : ℤ) → IsSmallCall c e i → with_three make (count (decimal c)) (count (decimal e)) (integer (signed_decimal i)) ≡ Some (make c e i)
three-numbers make c e i small =
    ap (λ t. with_three make t (count (decimal e)) (integer (signed_decimal i))) (count-of_decimal c small.caller)
    ∙ ap (λ t. with_three make (Some c) t (integer (signed_decimal i))) (count-of_decimal e small.entry)
    ∙ ap (λ t. with_three make (Some c) (Some e) t) (integer-of_signed i small.index)

-- The text of an event with numbers that the program has writes that event.
pub event-read : (numbers : Numbering) → IsShort numbers → (event : Event) → is_known numbers event ≡ true → event_of_line (event_text event) ≡ Some event
event-read numbers short (R c e i) h = let small = call-small numbers short c e i h in ap event_of_words (call-words 82 c e i refl small) ∙ three-numbers R c e i small
event-read numbers short (E a) h = let small = beside-small numbers short a h in ap event_of_words (one-words 69 a refl small) ∙ ap (option_map E) (count-of_decimal a small)
event-read numbers short (S a) h = let small = beside-small numbers short a h in ap event_of_words (one-words 83 a refl small) ∙ ap (option_map S) (count-of_decimal a small)
event-read numbers short (D a k) h = let small = wait-small numbers short a k h in ap event_of_words (two-words 68 a k refl small.0 small.1) ∙ two-numbers D a k small.0 small.1
event-read numbers short (C c e i) h = let small = call-small numbers short c e i h in ap event_of_words (call-words 67 c e i refl small) ∙ three-numbers C c e i small
event-read numbers short (T c e i) h = let small = call-small numbers short c e i h in ap event_of_words (call-words 84 c e i refl small) ∙ three-numbers T c e i small
event-read numbers short (F c e i) h = let small = call-small numbers short c e i h in ap event_of_words (call-words 70 c e i refl small) ∙ three-numbers F c e i small
event-read numbers short (X a) h = let small = beside-small numbers short a h in ap event_of_words (one-words 88 a refl small) ∙ ap (option_map X) (count-of_decimal a small)
event-read numbers short (B t x) h = let small = abort-small numbers short t x h in ap event_of_words (two-words 66 t x refl small.0 small.1) ∙ two-numbers B t x small.0 small.1
event-read numbers short Z h = refl

-- no line feed stands in these texts
one-free : (l n : ℕ) → (l == 10) ≡ false → n < 2 ^ 64 → IsFreeOf 10 (one_text (l ∷ 32 ∷ []) n)
one-free l n h small = subst (IsFreeOf 10) (sym (one-text l n)) (free-cons 10 l (32 ∷ decimal n) h (free-cons 10 32 (decimal n) refl (decimal-free 10 n (omega arith) small)))

two-free : (l m n : ℕ) → (l == 10) ≡ false → m < 2 ^ 64 → n < 2 ^ 64 → IsFreeOf 10 (two_text (l ∷ 32 ∷ []) m n)
two-free l m n h hm hn =
    let last : IsFreeOf 10 (32 ∷ decimal n) = free-cons 10 32 (decimal n) refl (decimal-free 10 n (omega arith) hn) in
    let both : IsFreeOf 10 (decimal m ++ (32 ∷ decimal n)) = All-append (λ b. (b == 10) ≡ false) (decimal m) (32 ∷ decimal n) (decimal-free 10 m (omega arith) hm) last in
    subst (IsFreeOf 10) (sym (two-text l m n)) (free-cons 10 l (32 ∷ (decimal m ++ (32 ∷ decimal n))) h (free-cons 10 32 (decimal m ++ (32 ∷ decimal n)) refl both))

call-free : (l c e : ℕ) (i : ℤ) → (l == 10) ≡ false → IsSmallCall c e i → IsFreeOf 10 (call_event_text (l ∷ 32 ∷ []) c e i)
call-free l c e i h small =
    let index : IsFreeOf 10 (32 ∷ signed_decimal i) = free-cons 10 32 (signed_decimal i) refl (signed-free 10 i (omega arith) small.index) in
    let entry : IsFreeOf 10 (decimal e ++ (32 ∷ signed_decimal i)) = All-append (λ b. (b == 10) ≡ false) (decimal e) (32 ∷ signed_decimal i) (decimal-free 10 e (omega arith) small.entry) index in
    let behind : IsFreeOf 10 (32 ∷ (decimal e ++ (32 ∷ signed_decimal i))) = free-cons 10 32 (decimal e ++ (32 ∷ signed_decimal i)) refl entry in
    let caller : IsFreeOf 10 (decimal c ++ (32 ∷ (decimal e ++ (32 ∷ signed_decimal i)))) =
    All-append (λ b. (b == 10) ≡ false) (decimal c) (32 ∷ (decimal e ++ (32 ∷ signed_decimal i))) (decimal-free 10 c (omega arith) small.caller) behind in
    subst (IsFreeOf 10) (sym (call-text l c e i))
    (free-cons 10 l (32 ∷ (decimal c ++ (32 ∷ (decimal e ++ (32 ∷ signed_decimal i))))) h (free-cons 10 32 (decimal c ++ (32 ∷ (decimal e ++ (32 ∷ signed_decimal i)))) refl caller))

pub event-free : (numbers : Numbering) → IsShort numbers → (event : Event) → is_known numbers event ≡ true → IsFreeOf 10 (event_text event)
event-free numbers short (R c e i) h = call-free 82 c e i refl (call-small numbers short c e i h)
event-free numbers short (E a) h = one-free 69 a refl (beside-small numbers short a h)
event-free numbers short (S a) h = one-free 83 a refl (beside-small numbers short a h)
event-free numbers short (D a k) h = let small = wait-small numbers short a k h in two-free 68 a k refl small.0 small.1
event-free numbers short (C c e i) h = call-free 67 c e i refl (call-small numbers short c e i h)
event-free numbers short (T c e i) h = call-free 84 c e i refl (call-small numbers short c e i h)
event-free numbers short (F c e i) h = call-free 70 c e i refl (call-small numbers short c e i h)
event-free numbers short (X a) h = one-free 88 a refl (beside-small numbers short a h)
event-free numbers short (B t x) h = let small = abort-small numbers short t x h in two-free 66 t x refl small.0 small.1
event-free numbers short Z h = free-one 10 90 refl

-- what made an event of numbers that may be missing
one-case : (make : ℕ → Event) (o : Option ℕ) (event : Event) → option_map make o ≡ Some event → (n : ℕ) × (o ≡ Some n) × (make n ≡ event)
one-case make None event h = clash (ap is_some h)
one-case make (Some n) event h = (n, refl, ap (λ t. unwrap_or t Z) h)

two-case : (make : ℕ → ℕ → Event) (o p : Option ℕ) (event : Event) → with_two make o p ≡ Some event → (m n : ℕ) × (o ≡ Some m) × (p ≡ Some n) × (make m n ≡ event)
two-case make None p event h = clash (ap is_some h)
two-case make (Some m) None event h = clash (ap is_some h)
two-case make (Some m) (Some n) event h = (m, n, refl, refl, ap (λ t. unwrap_or t Z) h)

three-case : (make : ℕ → ℕ → ℤ → Event) (o p : Option ℕ) (q : Option ℤ) (event : Event) → with_three make o p q ≡ Some event → (c e : ℕ) × (i : ℤ) × (o ≡ Some c) × (p ≡ Some e) × (q ≡ Some i) × (make c e i ≡ event)
three-case make None p q event h = clash (ap is_some h)
three-case make (Some c) None q event h = clash (ap is_some h)
three-case make (Some c) (Some e) None event h = clash (ap is_some h)
three-case make (Some c) (Some e) (Some i) event h = (c, e, i, refl, refl, refl, ap (λ t. unwrap_or t Z) h)

letter-is : (letter : List ℕ) (l : ℕ) → bytes_eq letter (l ∷ []) ≡ true → letter ≡ l ∷ []
letter-is letter l h = (bytes_eq-Decides letter (l ∷ [])).0 h

one-line : (numbers : Numbering) (make : ℕ → Event) (l : ℕ) → ((n : ℕ) → one_text (l ∷ 32 ∷ []) n ≡ event_text (make n)) → ((n : ℕ) → is_known numbers (make n) ≡ true → n < 2 ^ 64) →
    (letter a : List ℕ) (event : Event) → bytes_eq letter (l ∷ []) ≡ true → option_map make (count a) ≡ Some event → is_known numbers event ≡ true → letter ++ (32 ∷ a) ≡ event_text event
one-line numbers make l text small letter a event hl h known =
    let (n, whole, same) = one-case make (count a) event h in
    let fits : n < 2 ^ 64 = small n (ap (is_known numbers) same ∙ known) in
    ap (λ t. t ++ (32 ∷ a)) (letter-is letter l hl)
    ∙ ap (λ t. l ∷ 32 ∷ t) (word-of_count a n whole fits)
    ∙ sym (one-text l n) ∙ text n ∙ ap event_text same

two-line : (numbers : Numbering) (make : ℕ → ℕ → Event) (l : ℕ) → ((m n : ℕ) → two_text (l ∷ 32 ∷ []) m n ≡ event_text (make m n)) → ((m n : ℕ) → is_known numbers (make m n) ≡ true → (m < 2 ^ 64) × (n < 2 ^ 64)) →
    (letter a b : List ℕ) (event : Event) → bytes_eq letter (l ∷ []) ≡ true → with_two make (count a) (count b) ≡ Some event → is_known numbers event ≡ true → letter ++ (32 ∷ (a ++ (32 ∷ b))) ≡ event_text event
two-line numbers make l text small letter a b event hl h known =
    let (m, n, whole, other, same) = two-case make (count a) (count b) event h in
    let fits = small m n (ap (is_known numbers) same ∙ known) in
    ap (λ t. t ++ (32 ∷ (a ++ (32 ∷ b)))) (letter-is letter l hl)
    ∙ ap (λ t. l ∷ 32 ∷ (t ++ (32 ∷ b))) (word-of_count a m whole fits.0)
    ∙ ap (λ t. l ∷ 32 ∷ (decimal m ++ (32 ∷ t))) (word-of_count b n other fits.1)
    ∙ sym (two-text l m n) ∙ text m n ∙ ap event_text same

call-line : (numbers : Numbering) (make : ℕ → ℕ → ℤ → Event) (l : ℕ) → ((c e : ℕ) (i : ℤ) → call_event_text (l ∷ 32 ∷ []) c e i ≡ event_text (make c e i)) → ((c e : ℕ) (i : ℤ) → is_known numbers (make c e i) ≡ true → IsSmallCall c e i) →
    (letter a b k : List ℕ) (event : Event) → bytes_eq letter (l ∷ []) ≡ true → with_three make (count a) (count b) (integer k) ≡ Some event → is_known numbers event ≡ true → letter ++ (32 ∷ (a ++ (32 ∷ (b ++ (32 ∷ k))))) ≡ event_text event
call-line numbers make l text small letter a b k event hl h known =
    let (c, e, i, first, second, third, same) = three-case make (count a) (count b) (integer k) event h in
    let fits : IsSmallCall c e i = small c e i (ap (is_known numbers) same ∙ known) in
    ap (λ t. t ++ (32 ∷ (a ++ (32 ∷ (b ++ (32 ∷ k)))))) (letter-is letter l hl)
    ∙ ap (λ t. l ∷ 32 ∷ (t ++ (32 ∷ (b ++ (32 ∷ k))))) (word-of_count a c first fits.caller)
    ∙ ap (λ t. l ∷ 32 ∷ (decimal c ++ (32 ∷ (t ++ (32 ∷ k))))) (word-of_count b e second fits.entry)
    ∙ ap (λ t. l ∷ 32 ∷ (decimal c ++ (32 ∷ (decimal e ++ (32 ∷ t))))) (word-of_integer k i third fits.index)
    ∙ sym (call-text l c e i) ∙ text c e i ∙ ap event_text same

lone-written : (letter : List ℕ) (event : Event) → lone_event letter ≡ Some event → letter ≡ event_text event
lone-written letter event h = elim (cases_Bool (bytes_eq letter (codes "Z"))) [
  | inl e ↦ letter-is letter 90 e ∙ ap event_text (ap (λ t. unwrap_or t Z) (sym (ap (λ t. cond t (Some Z) None) e) ∙ h))
  | inr e ↦ clash (ap is_some (sym (ap (λ t. cond t (Some Z) None) e) ∙ h))
]

task-written : (numbers : Numbering) → IsShort numbers → (letter a : List ℕ) (event : Event) → task_event letter (count a) ≡ Some event → is_known numbers event ≡ true → letter ++ (32 ∷ a) ≡ event_text event
task-written numbers short letter a event h known = elim (cases_Bool (bytes_eq letter (codes "E"))) [
  | inl e0 ↦ one-line numbers E 69 (λ n. refl) (beside-small numbers short) letter a event e0 (sym (ap (λ t. cond t (option_map E (count a)) (cond (bytes_eq letter (codes "S")) (option_map S (count a)) (cond (bytes_eq letter (codes "X")) (option_map X (count a)) None))) e0) ∙ h) known
  | inr e0 ↦ let h1 : (cond (bytes_eq letter (codes "S")) (option_map S (count a)) (cond (bytes_eq letter (codes "X")) (option_map X (count a)) None)) ≡ Some event = sym (ap (λ t. cond t (option_map E (count a)) (cond (bytes_eq letter (codes "S")) (option_map S (count a)) (cond (bytes_eq letter (codes "X")) (option_map X (count a)) None))) e0) ∙ h in elim (cases_Bool (bytes_eq letter (codes "S"))) [
    | inl e1 ↦ one-line numbers S 83 (λ n. refl) (beside-small numbers short) letter a event e1 (sym (ap (λ t. cond t (option_map S (count a)) (cond (bytes_eq letter (codes "X")) (option_map X (count a)) None)) e1) ∙ h1) known
    | inr e1 ↦ let h2 : (cond (bytes_eq letter (codes "X")) (option_map X (count a)) None) ≡ Some event = sym (ap (λ t. cond t (option_map S (count a)) (cond (bytes_eq letter (codes "X")) (option_map X (count a)) None)) e1) ∙ h1 in elim (cases_Bool (bytes_eq letter (codes "X"))) [
      | inl e2 ↦ one-line numbers X 88 (λ n. refl) (beside-small numbers short) letter a event e2 (sym (ap (λ t. cond t (option_map X (count a)) None) e2) ∙ h2) known
      | inr e2 ↦ let h3 : None ≡ Some event = sym (ap (λ t. cond t (option_map X (count a)) None) e2) ∙ h2 in clash (ap is_some (h3))
    ]
  ]
]

pair-written : (numbers : Numbering) → IsShort numbers → (letter a b : List ℕ) (event : Event) → pair_event letter (count a) (count b) ≡ Some event → is_known numbers event ≡ true → letter ++ (32 ∷ (a ++ (32 ∷ b))) ≡ event_text event
pair-written numbers short letter a b event h known = elim (cases_Bool (bytes_eq letter (codes "D"))) [
  | inl e0 ↦ two-line numbers D 68 (λ m n. refl) (wait-small numbers short) letter a b event e0 (sym (ap (λ t. cond t (with_two D (count a) (count b)) (cond (bytes_eq letter (codes "B")) (with_two B (count a) (count b)) None)) e0) ∙ h) known
  | inr e0 ↦ let h1 : (cond (bytes_eq letter (codes "B")) (with_two B (count a) (count b)) None) ≡ Some event = sym (ap (λ t. cond t (with_two D (count a) (count b)) (cond (bytes_eq letter (codes "B")) (with_two B (count a) (count b)) None)) e0) ∙ h in elim (cases_Bool (bytes_eq letter (codes "B"))) [
    | inl e1 ↦ two-line numbers B 66 (λ m n. refl) (abort-small numbers short) letter a b event e1 (sym (ap (λ t. cond t (with_two B (count a) (count b)) None) e1) ∙ h1) known
    | inr e1 ↦ let h2 : None ≡ Some event = sym (ap (λ t. cond t (with_two B (count a) (count b)) None) e1) ∙ h1 in clash (ap is_some (h2))
  ]
]

call-written : (numbers : Numbering) → IsShort numbers → (letter a b k : List ℕ) (event : Event) → call_event letter (count a) (count b) (integer k) ≡ Some event → is_known numbers event ≡ true → letter ++ (32 ∷ (a ++ (32 ∷ (b ++ (32 ∷ k))))) ≡ event_text event
call-written numbers short letter a b k event h known = elim (cases_Bool (bytes_eq letter (codes "R"))) [
  | inl e0 ↦ call-line numbers R 82 (λ c e i. refl) (call-small numbers short) letter a b k event e0 (sym (ap (λ t. cond t (with_three R (count a) (count b) (integer k)) (cond (bytes_eq letter (codes "C")) (with_three C (count a) (count b) (integer k)) (cond (bytes_eq letter (codes "T")) (with_three T (count a) (count b) (integer k)) (cond (bytes_eq letter (codes "F")) (with_three F (count a) (count b) (integer k)) None)))) e0) ∙ h) known
  | inr e0 ↦ let h1 : (cond (bytes_eq letter (codes "C")) (with_three C (count a) (count b) (integer k)) (cond (bytes_eq letter (codes "T")) (with_three T (count a) (count b) (integer k)) (cond (bytes_eq letter (codes "F")) (with_three F (count a) (count b) (integer k)) None))) ≡ Some event = sym (ap (λ t. cond t (with_three R (count a) (count b) (integer k)) (cond (bytes_eq letter (codes "C")) (with_three C (count a) (count b) (integer k)) (cond (bytes_eq letter (codes "T")) (with_three T (count a) (count b) (integer k)) (cond (bytes_eq letter (codes "F")) (with_three F (count a) (count b) (integer k)) None)))) e0) ∙ h in elim (cases_Bool (bytes_eq letter (codes "C"))) [
    | inl e1 ↦ call-line numbers C 67 (λ c e i. refl) (call-small numbers short) letter a b k event e1 (sym (ap (λ t. cond t (with_three C (count a) (count b) (integer k)) (cond (bytes_eq letter (codes "T")) (with_three T (count a) (count b) (integer k)) (cond (bytes_eq letter (codes "F")) (with_three F (count a) (count b) (integer k)) None))) e1) ∙ h1) known
    | inr e1 ↦ let h2 : (cond (bytes_eq letter (codes "T")) (with_three T (count a) (count b) (integer k)) (cond (bytes_eq letter (codes "F")) (with_three F (count a) (count b) (integer k)) None)) ≡ Some event = sym (ap (λ t. cond t (with_three C (count a) (count b) (integer k)) (cond (bytes_eq letter (codes "T")) (with_three T (count a) (count b) (integer k)) (cond (bytes_eq letter (codes "F")) (with_three F (count a) (count b) (integer k)) None))) e1) ∙ h1 in elim (cases_Bool (bytes_eq letter (codes "T"))) [
      | inl e2 ↦ call-line numbers T 84 (λ c e i. refl) (call-small numbers short) letter a b k event e2 (sym (ap (λ t. cond t (with_three T (count a) (count b) (integer k)) (cond (bytes_eq letter (codes "F")) (with_three F (count a) (count b) (integer k)) None)) e2) ∙ h2) known
      | inr e2 ↦ let h3 : (cond (bytes_eq letter (codes "F")) (with_three F (count a) (count b) (integer k)) None) ≡ Some event = sym (ap (λ t. cond t (with_three T (count a) (count b) (integer k)) (cond (bytes_eq letter (codes "F")) (with_three F (count a) (count b) (integer k)) None)) e2) ∙ h2 in elim (cases_Bool (bytes_eq letter (codes "F"))) [
        | inl e3 ↦ call-line numbers F 70 (λ c e i. refl) (call-small numbers short) letter a b k event e3 (sym (ap (λ t. cond t (with_three F (count a) (count b) (integer k)) None) e3) ∙ h3) known
        | inr e3 ↦ let h4 : None ≡ Some event = sym (ap (λ t. cond t (with_three F (count a) (count b) (integer k)) None) e3) ∙ h3 in clash (ap is_some (h4))
      ]
    ]
  ]
]

words-written : (numbers : Numbering) → IsShort numbers → (words : List (List ℕ)) (event : Event) → event_of_words words ≡ Some event → is_known numbers event ≡ true → join_with_byte 32 words ≡ event_text event
words-written numbers short [] event h known = clash (ap is_some h)
words-written numbers short (letter ∷ []) event h known = lone-written letter event h
words-written numbers short (letter ∷ a ∷ []) event h known = task-written numbers short letter a event h known
words-written numbers short (letter ∷ a ∷ b ∷ []) event h known = pair-written numbers short letter a b event h known
words-written numbers short (letter ∷ a ∷ b ∷ k ∷ []) event h known = call-written numbers short letter a b k event h known
words-written numbers short (letter ∷ a ∷ b ∷ k ∷ more ∷ rest) event h known = clash (ap is_some h)

-- A line that writes an event with numbers that the program has is the text of that event.
pub event-written : (numbers : Numbering) → IsShort numbers → (line : List ℕ) (event : Event) → event_of_line line ≡ Some event → is_known numbers event ≡ true → line ≡ event_text event
event-written numbers short line event h known =
    sym (join_with_byte-slice_split 32 line) ∙ words-written numbers short (words_of line) event h known
