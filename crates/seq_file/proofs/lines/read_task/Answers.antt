use Rattle.std.proofs.Common.{◌≡◌, ℕ, sym, ◌∙◌, ap, refl, List, Option, option_map, true, false}
use Rattle.std.specs.Prelude.{bytes_eq, codes}
use Rattle.event_machine.specs.declared.Event.TheVariants.{E, S, X}
use Rattle.seq_file.specs.Known.{is_task_beside_main}
use Rattle.seq_file.specs.Lines.{task_event}
use Rattle.seq_file.specs.text_lines.Numerals.{count}
use Rattle.seq_file.specs.inner.Verdicts.{verdict_of}
use Rattle.seq_file.proofs.Knowing.{one-read, beside-test}
use Rattle.seq_file.proofs.lines.read_task.Goals as goal

first : (letter : List ℕ) (o : Option ℕ) → bytes_eq letter (codes "E") ≡ true → option_map E o ≡ task_event letter o
first letter o e = rw e refl

second : (letter : List ℕ) (o : Option ℕ) → bytes_eq letter (codes "E") ≡ false → bytes_eq letter (codes "S") ≡ true → option_map S o ≡ task_event letter o
second letter o e f = rw e (rw f refl)

third : (letter : List ℕ) (o : Option ℕ) → bytes_eq letter (codes "E") ≡ false → bytes_eq letter (codes "S") ≡ false → bytes_eq letter (codes "X") ≡ true → option_map X o ≡ task_event letter o
third letter o e f g = rw e (rw f (rw g refl))

pub returns-then-is_letter : goal.returns-then-is_letter
returns-then-is_letter c =
    c.verdict_on.ensures
    ∙ one-read c.args.numbers.now (is_task_beside_main c.args.numbers.now) (λ a. E a) (beside-test c.args.numbers.now c.is_task_beside_main-known.ensures.within) (λ m. refl) (count c.args.a.now) c.in-Some.n c.low-a.result c.is_task_beside_main-known.result c.in-Some.ensures c.is_task_beside_main-known.ensures.is c.low-a.ensures
    ∙ ap (verdict_of c.args.numbers.now) (first c.args.letter.now (count c.args.a.now) (sym c.is_letter.ensures ∙ c.if-is_letter.true))

pub returns-then-is_letter-2 : goal.returns-then-is_letter-2
returns-then-is_letter-2 c =
    c.verdict_on-then-is_letter-2.ensures
    ∙ one-read c.args.numbers.now (is_task_beside_main c.args.numbers.now) (λ a. S a) (beside-test c.args.numbers.now c.is_task_beside_main-known.ensures.within) (λ m. refl) (count c.args.a.now) c.in-Some.n c.low-a.result c.is_task_beside_main-known.result c.in-Some.ensures c.is_task_beside_main-known.ensures.is c.low-a.ensures
    ∙ ap (verdict_of c.args.numbers.now) (second c.args.letter.now (count c.args.a.now) (sym c.is_letter.ensures ∙ c.if-is_letter.false) (sym c.is_letter-else-is_letter.ensures ∙ c.if-is_letter-2.true))

pub returns-then-is_letter-3 : goal.returns-then-is_letter-3
returns-then-is_letter-3 c =
    c.verdict_on-then-is_letter-3.ensures
    ∙ one-read c.args.numbers.now (is_task_beside_main c.args.numbers.now) (λ a. X a) (beside-test c.args.numbers.now c.is_task_beside_main-known.ensures.within) (λ m. refl) (count c.args.a.now) c.in-Some.n c.low-a.result c.is_task_beside_main-known.result c.in-Some.ensures c.is_task_beside_main-known.ensures.is c.low-a.ensures
    ∙ ap (verdict_of c.args.numbers.now) (third c.args.letter.now (count c.args.a.now) (sym c.is_letter.ensures ∙ c.if-is_letter.false) (sym c.is_letter-else-is_letter.ensures ∙ c.if-is_letter-2.false) (sym c.is_letter-else-is_letter-2.ensures ∙ c.if-is_letter-3.true))
