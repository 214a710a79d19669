-- The text of a run from its pieces: what stands on the output where all were written, and where one was cut short.
use Rattle.std.proofs.Common.{◌≡◌, ℕ, List, [], ◌++◌, ap, sym, subst, ◌∙◌, refl, append_assoc, Option, Result, Ok, Err}
use Rattle.ded_io.specs.Counts.{Rose}
use Rattle.ded_io.specs.Written.{appended, Began, Wrote, ◌⧺◌}
use Rattle.ded_io.proofs.Writes.{appended-appended, began_then, joined}
use Rattle.syn_event.specs.Numbering.{Numbering}
use Rattle.task_model.specs.Machine.{MachineState}
use Rattle.task_model.specs.declared.picked_runs.report.RunEnd.{RunEnd}
use Rattle.task_model.specs.picked_runs.Lines.{lines_of}
use Rattle.task_model.specs.picked_runs.Outputs.{output_of}
use Rattle.task_model.specs.picked_runs.Picked.{Position, picked, run_end}
use Rattle.debug_run.specs.texts.RunText.{header, rest_of_run}
use Rattle.debug_outcome.specs.Coming.{Comes, HasPut, HasBroken, HasBegun}
use Rattle.debug_outcome.specs.declared.stopping.Stop.{Stop}
use Rattle.debug_run.specs.RunOutcomes.{IsRunFrom, run_status, text_at}

-- a front of the first piece is one of all
began_front : (old new : Option (List ℕ)) (a b : List ℕ) → Began old new a → Began old new (a ⧺ b)
began_front old new a b (front, rest, is_front, is_new) =
    (front, rest ++ b, joined a b ∙ ap (λ t. t ++ b) is_front ∙ append_assoc front rest b, is_new)

-- a front of the second piece behind the first
began_behind : (old mid new : Option (List ℕ)) (a b : List ℕ) → mid ≡ appended old a → Began mid new b → Began old new (a ⧺ b)
began_behind old mid new a b e h = subst (Began old new) (sym (joined a b)) (began_then old mid new a b e h)

-- two pieces
both_pieces : (old mid new : Option (List ℕ)) (a b : List ℕ) → mid ≡ appended old a → new ≡ appended mid b → new ≡ appended old (a ⧺ b)
both_pieces old mid new a b e f = f ∙ ap (λ t. appended t b) e ∙ appended-appended old a b ∙ ap (λ t. appended old t) (sym (joined a b))

-- what a write that went well has written, and one that failed
done : (A E : Type 0) (x : A) (old new : Option (List ℕ)) (a : List ℕ) → Wrote {E = E} (Ok x) old new a → new ≡ appended old a
unfolding Wrote
done A E x old new a h = h

begun : (A E : Type 0) (e : E) (old new : Option (List ℕ)) (a : List ℕ) → Wrote {A = A} (Err e) old new a → Began old new a
unfolding Wrote
begun A E e old new a h = h

-- the same machine has the same run
pub comes_from : {C : Type 0} (word : C → ℕ) (next : C → C) (names : List (List ℕ)) (numbers : Numbering) (m m' : MachineState) (c : C) (turns : ℕ) (told told' : Option (List ℕ)) (count count' : ℕ) (r : Result ℕ Stop) → m ≡ m' →
    Comes (IsRunFrom word next names numbers m c turns) (IsRunFrom word next names numbers m c turns) told told' count count' r →
    Comes (IsRunFrom word next names numbers m' c turns) (IsRunFrom word next names numbers m' c turns) told told' count count' r
comes_from word next names numbers m m' c turns told told' count count' r same h =
    subst (λ (x : MachineState). Comes (IsRunFrom word next names numbers x c turns) (IsRunFrom word next names numbers x c turns) told told' count count' r) same h

module _ {C : Type 0} (word : C → ℕ) (next : C → C) (names : List (List ℕ)) (numbers : Numbering) (m : MachineState) (c : C) (turns : ℕ) (told0 told1 : Option (List ℕ)) (count0 count1 : ℕ) where
  abbrev run : Position C
  run = picked word next turns m c

  abbrev lines : List ℕ
  lines = lines_of numbers run.events

  abbrev rest : List ℕ
  rest = rest_of_run names numbers (run_end run) run.made (output_of run.machine)

  -- the first line was not written whole
  pub header_cut : (A E : Type 0) (e : E) → Wrote {A = A} (Err e) told0 told1 (header names numbers) → Rose count0 count1 → HasBroken (IsRunFrom word next names numbers m c turns) told0 told1 count0 count1
  header_cut A E e wrote rose = record {
    text = text_at names numbers run;
    status = run_status (run_end run);
    called = refl;
    put = (began_front told0 told1 (header names numbers) (lines ⧺ rest) (begun A E e told0 told1 (header names numbers) wrote), rose);
  }

  module _ (B F : Type 0) (x : B) (told2 : Option (List ℕ)) (count2 : ℕ) (wrote : Wrote {E = F} (Ok x) told0 told1 (header names numbers)) (still : count1 ≡ count0) where
    first_written : told1 ≡ appended told0 (header names numbers)
    first_written = done B F x told0 told1 (header names numbers) wrote

    lines_begun : Began told1 told2 lines → Began told0 told2 (text_at names numbers run)
    lines_begun h = began_behind told0 told1 told2 (header names numbers) (lines ⧺ rest) first_written (began_front told1 told2 lines rest h)

    -- a write of the lines failed
    pub lines_cut : Began told1 told2 (lines_of numbers (picked word next turns m c).events) → Rose count1 count2 → HasBroken (IsRunFrom word next names numbers m c turns) told0 told2 count0 count2
    lines_cut h rose = record {
      text = text_at names numbers run;
      status = run_status (run_end run);
      called = refl;
      put = (lines_begun h, subst (λ n. Rose n count2) still rose);
    }

    -- there was no memory behind some of the lines
    pub lines_short : Began told1 told2 (lines_of numbers (picked word next turns m c).events) → count2 ≡ count1 → HasBegun (IsRunFrom word next names numbers m c turns) told0 told2 count0 count2
    lines_short h same = record {
      text = text_at names numbers run;
      status = run_status (run_end run);
      called = refl;
      front = lines_begun h;
      no_fault = same ∙ still;
    }

    module _ (end : RunEnd) (made : ℕ) (m' : MachineState) (told3 : Option (List ℕ)) (count3 : ℕ) (lines_are : told2 ≡ appended told1 (lines_of numbers (picked word next turns m c).events))
        (made_is : made ≡ (picked word next turns m c).made) (end_is : end ≡ run_end (picked word next turns m c)) (machine_is : m' ≡ (picked word next turns m c).machine) (same : count2 ≡ count1) where
      rest_is : rest_of_run names numbers end made (output_of m') ≡ rest
      rest_is =
          ap (λ n. rest_of_run names numbers end n (output_of m')) made_is
          ∙ ap (λ e. rest_of_run names numbers e run.made (output_of m')) end_is
          ∙ ap (λ (w : MachineState). rest_of_run names numbers (run_end run) run.made (output_of w)) machine_is

      -- what follows the lines was not written whole
      pub rest_cut : (A E : Type 0) (e : E) → Wrote {A = A} (Err e) told2 told3 (rest_of_run names numbers end made (output_of m')) → Rose count2 count3 → HasBroken (IsRunFrom word next names numbers m c turns) told0 told3 count0 count3
      rest_cut A E e h rose = record {
        text = text_at names numbers run;
        status = run_status (run_end run);
        called = refl;
        put = (
          began_behind told0 told1 told3 (header names numbers) (lines ⧺ rest) first_written
              (began_behind told1 told2 told3 lines rest lines_are
              (begun A E e told2 told3 rest (subst (λ t. Wrote {A = A} (Err e) told2 told3 t) rest_is h))),
          subst (λ n. Rose n count3) (same ∙ still) rose,
        );
      }

      -- all was written
      pub run_put : (A E : Type 0) (y : A) (status : ℕ) → Wrote {E = E} (Ok y) told2 told3 (rest_of_run names numbers end made (output_of m')) → count3 ≡ count2 → status ≡ run_status end → HasPut (IsRunFrom word next names numbers m c turns) told0 told3 count0 count3 status
      run_put A E y status h again status_is = record {
        text = text_at names numbers run;
        called = ap (λ s. record { out = text_at names numbers run; err = []; status = s }) (status_is ∙ ap run_status end_is);
        put = (
          both_pieces told0 told1 told3 (header names numbers) (lines ⧺ rest) first_written
              (both_pieces told1 told2 told3 lines rest lines_are
              (done A E y told2 told3 rest (subst (λ t. Wrote {E = E} (Ok y) told2 told3 t) rest_is h))),
          again ∙ same ∙ still,
        );
      }
