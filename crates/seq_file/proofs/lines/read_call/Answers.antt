use Rattle.std.proofs.Common.{◌≡◌, ℕ, ℤ, sym, ◌∙◌, ap, refl, List, Option, Some, option_map, subst, true, false, to_z, of_z}
use Rattle.std.proofs.lemmas.Int.{to_z-of_z}
use Rattle.std.specs.Int.{w32, w64}
use Rattle.std.specs.Prelude.{bytes_eq, codes, FitsSigned}
use Rattle.event_machine.specs.declared.Event.TheVariants.{R, C, T, F}
use Rattle.seq_file.specs.Lines.{call_event, with_three}
use Rattle.seq_file.specs.text_lines.Numerals.{count, integer}
use Rattle.seq_file.specs.inner.Verdicts.{verdict_of}
use Rattle.seq_file.specs.text_lines.Capped.{capped_integer}
use Rattle.seq_file.specs.Known.{is_index}
use Rattle.seq_file.proofs.Calling.{three-read, capped-fits}
use Rattle.seq_file.proofs.lines.read_call.Goals as goal

whole : (o : Option ℤ) (j : ℤ) → Some j ≡ option_map capped_integer o → to_z w64 (of_z w64 j) ≡ j
whole o j h = to_z-of_z w64 j (capped-fits o j h)

exact : (j r : ℤ) → FitsSigned w32 j → r ≡ j → to_z w32 (of_z w32 r) ≡ j
exact j r h e = to_z-of_z w32 r (subst (FitsSigned w32) (sym e) h) ∙ e

first : (letter : List ℕ) (o p : Option ℕ) (q : Option ℤ) → bytes_eq letter (codes "R") ≡ true → with_three R o p q ≡ call_event letter o p q
first letter o p q e0 = rw e0 refl

second : (letter : List ℕ) (o p : Option ℕ) (q : Option ℤ) → bytes_eq letter (codes "R") ≡ false → bytes_eq letter (codes "C") ≡ true → with_three C o p q ≡ call_event letter o p q
second letter o p q e0 e1 = rw e0 (rw e1 refl)

third : (letter : List ℕ) (o p : Option ℕ) (q : Option ℤ) → bytes_eq letter (codes "R") ≡ false → bytes_eq letter (codes "C") ≡ false → bytes_eq letter (codes "T") ≡ true → with_three T o p q ≡ call_event letter o p q
third letter o p q e0 e1 e2 = rw e0 (rw e1 (rw e2 refl))

fourth : (letter : List ℕ) (o p : Option ℕ) (q : Option ℤ) → bytes_eq letter (codes "R") ≡ false → bytes_eq letter (codes "C") ≡ false → bytes_eq letter (codes "T") ≡ false → bytes_eq letter (codes "F") ≡ true → with_three F o p q ≡ call_event letter o p q
fourth letter o p q e0 e1 e2 e3 = rw e0 (rw e1 (rw e2 (rw e3 refl)))

pub returns-then-is_letter : goal.returns-then-is_letter
returns-then-is_letter c =
    c.verdict_on.ensures
    ∙ three-read c.args.numbers.now (λ x y z. R x y z) c.is_call-known.ensures.tasks c.is_call-known.ensures.entries (λ x y z. refl) (count c.args.c.now) (count c.args.e.now) (integer c.args.i.now) c.in-Some.caller c.in-Some-count.entry c.in-Some-integer.index c.low-c.result c.low-e.result (to_z w32 (of_z w32 c.low_integer-i.result)) c.is_call-known.result c.in-Some.ensures c.in-Some-count.ensures c.in-Some-integer.ensures (λ z e. c.is_call-known.ensures.is z (whole _ _ c.in-Some-integer.ensures ∙ e)) (λ h. ap is_index (sym (whole _ _ c.in-Some-integer.ensures)) ∙ c.is_call-known.ensures.small h) c.low-c.ensures c.low-e.ensures (λ h. exact c.in-Some-integer.index c.low_integer-i.result h (c.low_integer-i.ensures (subst (FitsSigned w32) (sym (whole _ _ c.in-Some-integer.ensures)) h) ∙ whole _ _ c.in-Some-integer.ensures))
    ∙ ap (verdict_of c.args.numbers.now) (first c.args.letter.now (count c.args.c.now) (count c.args.e.now) (integer c.args.i.now) (sym c.is_letter.ensures ∙ c.if-is_letter.true))

pub returns-then-is_letter-2 : goal.returns-then-is_letter-2
returns-then-is_letter-2 c =
    c.verdict_on-then-is_letter-2.ensures
    ∙ three-read c.args.numbers.now (λ x y z. C x y z) c.is_call-known.ensures.tasks c.is_call-known.ensures.entries (λ x y z. refl) (count c.args.c.now) (count c.args.e.now) (integer c.args.i.now) c.in-Some.caller c.in-Some-count.entry c.in-Some-integer.index c.low-c.result c.low-e.result (to_z w32 (of_z w32 c.low_integer-i.result)) c.is_call-known.result c.in-Some.ensures c.in-Some-count.ensures c.in-Some-integer.ensures (λ z e. c.is_call-known.ensures.is z (whole _ _ c.in-Some-integer.ensures ∙ e)) (λ h. ap is_index (sym (whole _ _ c.in-Some-integer.ensures)) ∙ c.is_call-known.ensures.small h) c.low-c.ensures c.low-e.ensures (λ h. exact c.in-Some-integer.index c.low_integer-i.result h (c.low_integer-i.ensures (subst (FitsSigned w32) (sym (whole _ _ c.in-Some-integer.ensures)) h) ∙ whole _ _ c.in-Some-integer.ensures))
    ∙ ap (verdict_of c.args.numbers.now) (second c.args.letter.now (count c.args.c.now) (count c.args.e.now) (integer c.args.i.now) (sym c.is_letter.ensures ∙ c.if-is_letter.false) (sym c.is_letter-else-is_letter.ensures ∙ c.if-is_letter-2.true))

pub returns-then-is_letter-3 : goal.returns-then-is_letter-3
returns-then-is_letter-3 c =
    c.verdict_on-then-is_letter-3.ensures
    ∙ three-read c.args.numbers.now (λ x y z. T x y z) c.is_call-known.ensures.tasks c.is_call-known.ensures.entries (λ x y z. refl) (count c.args.c.now) (count c.args.e.now) (integer c.args.i.now) c.in-Some.caller c.in-Some-count.entry c.in-Some-integer.index c.low-c.result c.low-e.result (to_z w32 (of_z w32 c.low_integer-i.result)) c.is_call-known.result c.in-Some.ensures c.in-Some-count.ensures c.in-Some-integer.ensures (λ z e. c.is_call-known.ensures.is z (whole _ _ c.in-Some-integer.ensures ∙ e)) (λ h. ap is_index (sym (whole _ _ c.in-Some-integer.ensures)) ∙ c.is_call-known.ensures.small h) c.low-c.ensures c.low-e.ensures (λ h. exact c.in-Some-integer.index c.low_integer-i.result h (c.low_integer-i.ensures (subst (FitsSigned w32) (sym (whole _ _ c.in-Some-integer.ensures)) h) ∙ whole _ _ c.in-Some-integer.ensures))
    ∙ ap (verdict_of c.args.numbers.now) (third c.args.letter.now (count c.args.c.now) (count c.args.e.now) (integer c.args.i.now) (sym c.is_letter.ensures ∙ c.if-is_letter.false) (sym c.is_letter-else-is_letter.ensures ∙ c.if-is_letter-2.false) (sym c.is_letter-else-is_letter-2.ensures ∙ c.if-is_letter-3.true))

pub returns-then-is_letter-4 : goal.returns-then-is_letter-4
returns-then-is_letter-4 c =
    c.verdict_on-then-is_letter-4.ensures
    ∙ three-read c.args.numbers.now (λ x y z. F x y z) c.is_call-known.ensures.tasks c.is_call-known.ensures.entries (λ x y z. refl) (count c.args.c.now) (count c.args.e.now) (integer c.args.i.now) c.in-Some.caller c.in-Some-count.entry c.in-Some-integer.index c.low-c.result c.low-e.result (to_z w32 (of_z w32 c.low_integer-i.result)) c.is_call-known.result c.in-Some.ensures c.in-Some-count.ensures c.in-Some-integer.ensures (λ z e. c.is_call-known.ensures.is z (whole _ _ c.in-Some-integer.ensures ∙ e)) (λ h. ap is_index (sym (whole _ _ c.in-Some-integer.ensures)) ∙ c.is_call-known.ensures.small h) c.low-c.ensures c.low-e.ensures (λ h. exact c.in-Some-integer.index c.low_integer-i.result h (c.low_integer-i.ensures (subst (FitsSigned w32) (sym (whole _ _ c.in-Some-integer.ensures)) h) ∙ whole _ _ c.in-Some-integer.ensures))
    ∙ ap (verdict_of c.args.numbers.now) (fourth c.args.letter.now (count c.args.c.now) (count c.args.e.now) (integer c.args.i.now) (sym c.is_letter.ensures ∙ c.if-is_letter.false) (sym c.is_letter-else-is_letter.ensures ∙ c.if-is_letter-2.false) (sym c.is_letter-else-is_letter-2.ensures ∙ c.if-is_letter-3.false) (sym c.is_letter-else-is_letter-3.ensures ∙ c.if-is_letter-4.true))
