-- The lines of events have one line feed each, so these count the events.
use Rattle.std.proofs.Common.{◌≡◌, ℕ, ℤ, pos, negsuc, zero, suc, ◌+◌, Bool, true, false, cond, List, [], ◌∷◌, length, codes, Option, Some, None, refl, ap, ◌∙◌, arith, if◌then◌else◌}
use Rattle.std.specs.Prelude.{◌==◌, ◌/◌, ◌%◌, nat_lt, count_by, decimal}
use Rattle.std.specs.Fmt.{digit_glyph, digits, digits_onto, signed_decimal}
use Rattle.std.proofs.lemmas.Bool.{ne_eqb}
use Rattle.std.proofs.lemmas.List.Sums.{sum_by-append, sum_by-cons}
use Rattle.ded_io.specs.Written.{◌⧺◌}
use Rattle.ded_io.proofs.Writes.{joined}
use Rattle.event_machine.specs.declared.Event.{Event}
use Rattle.event_machine.specs.declared.Event.TheVariants.{R, E, S, D, C, T, F, X, B, Z}
use Rattle.syn_event.specs.EventText.{call_event_text, event_text, one_text, two_text}
use Rattle.syn_event.specs.Numbering.{Numbering}
use Rattle.syn_event.specs.Origin.{back_of}
use Rattle.task_model.specs.picked_runs.Lines.{event_line, line_by, lines_of}
use Rattle.seq_file.specs.text_lines.Lines.{is_line_end}

-- how many line feeds a text has
abbrev feeds : List ℕ → ℕ
feeds text = count_by is_line_end text

feeds-joined : (a b : List ℕ) → feeds (a ⧺ b) ≡ feeds a + feeds b
feeds-joined a b = ap feeds (joined a b) ∙ sum_by-append (λ x. cond (is_line_end x) 1 0) a b

feeds-cons : (x : ℕ) (xs : List ℕ) → feeds (x ∷ xs) ≡ cond (is_line_end x) 1 0 + feeds xs
feeds-cons x xs = sum_by-cons (λ y. cond (is_line_end y) 1 0) x xs

-- texts without one
both-none : (a b : List ℕ) → feeds a ≡ 0 → feeds b ≡ 0 → feeds (a ⧺ b) ≡ 0
both-none a b h k = feeds-joined a b ∙ (λ i. h i + k i)

-- ---- numbers

glyph-is_none : (d : ℕ) → is_line_end (digit_glyph false d) ≡ false
glyph-is_none d = ne_eqb (digit_glyph false d) 10 (λ e. absurd (by_test (nat_lt d 10) e))
  where
    by_test : (b : Bool) → (if b then 48 + d else (if false then 55 + d else 87 + d)) ≡ 10 → ⊥
    by_test true e = omega (arith, e)
    by_test false e = omega (arith, e)

digit-more : (d : ℕ) (acc : List ℕ) → feeds acc ≡ 0 → feeds (digit_glyph false d ∷ acc) ≡ 0
digit-more d acc h = feeds-cons (digit_glyph false d) acc ∙ (λ i. cond (glyph-is_none d i) 1 0 + h i)

either-none : (b : Bool) (xs ys : List ℕ) → feeds xs ≡ 0 → feeds ys ≡ 0 → feeds (if b then xs else ys) ≡ 0
either-none true xs ys h k = h
either-none false xs ys h k = k

onto-none : (k n : ℕ) (acc : List ℕ) → feeds acc ≡ 0 → feeds (digits_onto k 10 false n acc) ≡ 0
onto-none zero n acc h = h
onto-none (suc k) n acc h =
    let one : feeds (digit_glyph false (n % 10) ∷ acc) ≡ 0 = digit-more (n % 10) acc h in
    either-none (n / 10 == 0) (digit_glyph false (n % 10) ∷ acc) (digits_onto k 10 false (n / 10) (digit_glyph false (n % 10) ∷ acc)) one
    (onto-none k (n / 10) (digit_glyph false (n % 10) ∷ acc) one)

decimal-none : (n : ℕ) → feeds (decimal n) ≡ 0
unfolding digits
decimal-none n = onto-none 64 n [] refl

signed-none : (z : ℤ) → feeds (signed_decimal z) ≡ 0
signed-none (pos n) = decimal-none n
signed-none (negsuc n) = feeds-cons 45 (decimal (suc n)) ∙ (λ i. 0 + decimal-none (suc n) i)

-- ---- events

one-none : (letter : List ℕ) (a : ℕ) → feeds letter ≡ 0 → feeds (one_text letter a) ≡ 0
one-none letter a h = both-none letter (decimal a) h (decimal-none a)

two-none : (letter : List ℕ) (a b : ℕ) → feeds letter ≡ 0 → feeds (two_text letter a b) ≡ 0
two-none letter a b h = both-none letter _ h (both-none (decimal a) _ (decimal-none a) (both-none (codes " ") (decimal b) refl (decimal-none b)))

call-none : (letter : List ℕ) (c e : ℕ) (i : ℤ) → feeds letter ≡ 0 → feeds (call_event_text letter c e i) ≡ 0
call-none letter c e i h =
    both-none letter _ h
    (both-none (decimal c) _ (decimal-none c) (both-none (codes " ") _ refl (both-none (decimal e) _ (decimal-none e) (both-none (codes " ") (signed_decimal i) refl (signed-none i)))))

event-none : (event : Event) → feeds (event_text event) ≡ 0
event-none (R c e i) = call-none (codes "R ") c e i refl
event-none (E a) = one-none (codes "E ") a refl
event-none (S a) = one-none (codes "S ") a refl
event-none (D a k) = two-none (codes "D ") a k refl
event-none (C c e i) = call-none (codes "C ") c e i refl
event-none (T c e i) = call-none (codes "T ") c e i refl
event-none (F c e i) = call-none (codes "F ") c e i refl
event-none (X a) = one-none (codes "X ") a refl
event-none (B t x) = two-none (codes "B ") t x refl
event-none Z = refl

-- ---- lines

line-one : (event : Event) → feeds (event_text event ⧺ codes "\n") ≡ 1
line-one event = feeds-joined (event_text event) (codes "\n") ∙ (λ i. event-none event i + 1)

by-one : (event : Event) (original : Option Event) → feeds (line_by event original) ≡ 1
by-one event (Some original) = line-one original
by-one event None = feeds-joined (codes "- ") (event_text event ⧺ codes "\n") ∙ (λ i. 0 + line-one event i)

-- as many line feeds as events
pub feeds-of_lines : (numbers : Numbering) (events : List Event) → count_by is_line_end (lines_of numbers events) ≡ length events
feeds-of_lines numbers [] = refl
feeds-of_lines numbers (event ∷ events) =
    feeds-joined (event_line numbers event) (lines_of numbers events) ∙ (λ i. by-one event (back_of numbers event) i + feeds-of_lines numbers events i) ∙ omega arith
