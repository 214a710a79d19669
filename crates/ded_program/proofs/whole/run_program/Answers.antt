use Rattle.std.proofs.Common.{refl}
use Rattle.std.specs.Prelude.{map, string_bytes}
use Rattle.ded_program.proofs.Answering.{whole}
use Rattle.ded_program.proofs.whole.run_program.Goals as goal

pub returns : goal.returns
returns g c =
    whole (λ given. map string_bytes given.items) c.real_words-words.result _ c.debug_program.result c.debug_program.ensures.answer.is_so
    (record { files = refl; out = refl; err = refl; file_faults = c.new-files.ensures.no_fault; out_faults = c.new-out.ensures.no_fault; err_faults = c.new-err.ensures.no_fault })
