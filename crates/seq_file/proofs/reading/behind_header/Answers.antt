use Rattle.std.proofs.Common.{ap, ◌∙◌, sym}
use Rattle.std.specs.Prelude.{option_and_then}
use Rattle.syn_event.specs.Numbering.{original_tasks, original_entries}
use Rattle.syn_event.specs.DeclaredTasks.{text_of}
use Rattle.seq_file.specs.Files.{fault_of_header}
use Rattle.seq_file.specs.Lines.{header_of_line}
use Rattle.seq_file.proofs.text_lines.Marking.{first-line_cut}
use Rattle.seq_file.proofs.reading.behind_header.Goals as goal

pub returns-in-None-clause-read : goal.returns-in-None-clause-read
returns-in-None-clause-read c =
    let program = c.program_of-program in
    let line = c.in-Some.line.now in
    let cuts = sym c.in-Some.ensures.cut in
    record {
      line = line;
      cuts = cuts;
      sound =
          ap (λ o. fault_of_header (text_of c.args.names.now c.args.numbers.now.main) (original_tasks c.args.numbers.now) (original_entries c.args.numbers.now) (option_and_then header_of_line o)) (first-line_cut c.args.bytes.now line c.in-Some.behind.now cuts)
          ∙ sym (ap (λ m. fault_of_header m program.result.tasks program.result.entries (header_of_line line)) program.ensures.main
          ∙ ap (λ t. fault_of_header (text_of c.args.names.now c.args.numbers.now.main) t program.result.entries (header_of_line line)) program.ensures.tasks
          ∙ ap (λ e. fault_of_header (text_of c.args.names.now c.args.numbers.now.main) (original_tasks c.args.numbers.now) e (header_of_line line)) program.ensures.entries)
          ∙ sym c.in-None.ensures;
    }
