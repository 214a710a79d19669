use Rattle.std.proofs.Common.{◌≡◌, ℕ, sym, ◌∙◌, ap, refl, List, Option, true, false}
use Rattle.std.specs.Prelude.{bytes_eq, codes}
use Rattle.event_machine.specs.declared.Event.TheVariants.{D, B}
use Rattle.seq_file.specs.Known.{is_task, is_task_beside_main, is_alternative}
use Rattle.seq_file.specs.Lines.{pair_event, with_two}
use Rattle.seq_file.specs.text_lines.Numerals.{count}
use Rattle.seq_file.specs.inner.Verdicts.{verdict_of}
use Rattle.seq_file.proofs.Knowing.{two-read, task-test, beside-test, alternative-test}
use Rattle.seq_file.proofs.lines.read_pair.Goals as goal

first : (letter : List ℕ) (o p : Option ℕ) → bytes_eq letter (codes "D") ≡ true → with_two D o p ≡ pair_event letter o p
first letter o p e = rw e refl

second : (letter : List ℕ) (o p : Option ℕ) → bytes_eq letter (codes "D") ≡ false → bytes_eq letter (codes "B") ≡ true → with_two B o p ≡ pair_event letter o p
second letter o p e f = rw e (rw f refl)

pub returns-then-is_letter : goal.returns-then-is_letter
returns-then-is_letter c =
    c.verdict_on.ensures
    ∙ two-read c.args.numbers.now (is_task_beside_main c.args.numbers.now) is_alternative (λ a k. D a k) (beside-test c.args.numbers.now c.is_wait-known.ensures.within) alternative-test (λ x y. refl) (count c.args.a.now) (count c.args.b.now) c.in-Some.m c.in-Some-count.n c.low-a.result c.low-k.result c.is_wait-known.result c.in-Some.ensures c.in-Some-count.ensures c.is_wait-known.ensures.is c.low-a.ensures c.low-k.ensures
    ∙ ap (verdict_of c.args.numbers.now) (first c.args.letter.now (count c.args.a.now) (count c.args.b.now) (sym c.is_letter.ensures ∙ c.if-is_letter.true))

pub returns-then-is_letter-2 : goal.returns-then-is_letter-2
returns-then-is_letter-2 c =
    c.verdict_on-then-is_letter-2.ensures
    ∙ two-read c.args.numbers.now (is_task c.args.numbers.now) (is_task_beside_main c.args.numbers.now) (λ t x. B t x) (task-test c.args.numbers.now c.is_abort-known.ensures.within) (beside-test c.args.numbers.now c.is_abort-known.ensures.within) (λ x y. refl) (count c.args.a.now) (count c.args.b.now) c.in-Some.m c.in-Some-count.n c.low-t.result c.low-x.result c.is_abort-known.result c.in-Some.ensures c.in-Some-count.ensures c.is_abort-known.ensures.is c.low-t.ensures c.low-x.ensures
    ∙ ap (verdict_of c.args.numbers.now) (second c.args.letter.now (count c.args.a.now) (count c.args.b.now) (sym c.is_letter.ensures ∙ c.if-is_letter.false) (sym c.is_letter-else-is_letter.ensures ∙ c.if-is_letter-2.true))
