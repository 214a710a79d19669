use Rattle.std.proofs.Common.{ℕ, List, Option, ap, ◌∙◌, sym}
use Rattle.std.specs.Prelude.{codes, option_and_then}
use Rattle.syn_event.specs.Numbering.{original_tasks, original_entries}
use Rattle.syn_event.specs.DeclaredTasks.{text_of}
use Rattle.seq_file.specs.text_lines.Lines.{words_of}
use Rattle.seq_file.proofs.text_lines.Marking.{first-line_cut}
use Rattle.seq_file.specs.Files.{fault_of_header}
use Rattle.seq_file.specs.Lines.{Header, header_of_format}
use Rattle.seq_file.proofs.list_reading.behind_list_header.Goals as goal

pub returns-in-None-clause-read : goal.returns-in-None-clause-read
returns-in-None-clause-read c =
    let program = c.program_of-program in
    let line = c.in-Some.line.now in
    let cuts = sym c.in-Some.ensures.cut in
    let reads : List ℕ → Option Header = λ line. header_of_format (codes "2") (words_of line) in
    record {
      line = line;
      cuts = cuts;
      sound =
          ap (λ o. fault_of_header (text_of c.args.names.now c.args.numbers.now.main) (original_tasks c.args.numbers.now) (original_entries c.args.numbers.now) (option_and_then reads o)) (first-line_cut c.args.bytes.now line c.in-Some.behind.now cuts)
          ∙ sym (ap (λ m. fault_of_header m program.result.tasks program.result.entries (reads line)) program.ensures.main
          ∙ ap (λ t. fault_of_header (text_of c.args.names.now c.args.numbers.now.main) t program.result.entries (reads line)) program.ensures.tasks
          ∙ ap (λ e. fault_of_header (text_of c.args.names.now c.args.numbers.now.main) (original_tasks c.args.numbers.now) e (reads line)) program.ensures.entries)
          ∙ sym c.in-None.ensures;
    }
