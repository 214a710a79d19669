-- A text within the limit is written, and a longer one is refused.
use Rattle.std.proofs.Common.{◌≡◌, ◌<◌, ◌≤◌, ℕ, Bool, true, false, nat_lt, length, sym, ap, arith}
use Rattle.std.specs.Prelude.{min, if◌then◌else◌}
use Rattle.ded_io.specs.Counts.{last_count}
use Rattle.ada_tree.specs.PlainProgram.{PProgram}
use Rattle.ada_printer.specs.ProgramText.{program_text}
use Rattle.debug_outcome.specs.files.Wanting.{text_limit}
use Rattle.debug_outcome.specs.Outcomes.{writes, refuses}
use Rattle.debug_outcome.specs.Printing.{printed_outcome}
use Rattle.debug_outcome.specs.declared.refusal.Refusal.TheVariants.{LongText}
use Rattle.common_lemmas.proofs.Numbers.{lt_false, lt_true}

module _ (p : PProgram) where
  pub long_text : nat_lt text_limit (length (program_text p)) ≡ true → refuses (LongText text_limit) ≡ printed_outcome p
  long_text h = sym (ap (λ (b : Bool). if b then refuses (LongText text_limit) else writes (program_text p) 0) h)

  pub short_text : nat_lt text_limit (length (program_text p)) ≡ false → writes (program_text p) 0 ≡ printed_outcome p
  short_text h = sym (ap (λ (b : Bool). if b then refuses (LongText text_limit) else writes (program_text p) 0) h)

  -- the same by the length that was counted
  pub long_by : (n : ℕ) → n ≡ min (length (program_text p)) last_count → text_limit < n → refuses (LongText text_limit) ≡ printed_outcome p
  long_by n counted more = long_text (lt_true text_limit (length (program_text p)) (omega (arith, counted, more)))

  pub short_by : (n : ℕ) → n ≡ min (length (program_text p)) last_count → n ≤ text_limit → writes (program_text p) 0 ≡ printed_outcome p
  short_by n counted less = short_text (lt_false text_limit (length (program_text p)) (omega (arith, counted, less)))

  -- the same by the length itself
  pub long_by_length : text_limit < length (program_text p) → refuses (LongText text_limit) ≡ printed_outcome p
  long_by_length more = long_text (lt_true text_limit (length (program_text p)) more)

  pub short_by_length : length (program_text p) ≤ text_limit → writes (program_text p) 0 ≡ printed_outcome p
  short_by_length less = short_text (lt_false text_limit (length (program_text p)) less)
