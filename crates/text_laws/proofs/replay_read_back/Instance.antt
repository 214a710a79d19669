-- A text with a task and a call, and a sequence of it, are as asked.
use Rattle.std.proofs.Common.{◌≡◌, true, refl, arith}
use Rattle.std.proofs.lemmas.List.Elements.{All-from_recursion}
use Rattle.common_lemmas.proofs.Truth.{clash}
use Rattle.seq_file.specs.Files.{SeqReads}
use Rattle.seq_file.specs.Known.{is_known}
use Rattle.normal_laws.specs.runs.forms.Normalisable.{numbers_of}
use Rattle.text_laws.specs.normal.Example.{calling}
use Rattle.text_laws.proofs.normal.Instance.{calling-is-legal}
use Rattle.text_laws.specs.replay_read_back.Example.{calling_events, calling_lines}
use Rattle.text_laws.specs.replay_read_back.Laws.{IsMet}

file : SeqReads calling_lines (numbers_of calling) calling.names calling_events
file = record {
  text = refl;
  fit = record {
    known = All-from_recursion (λ e. is_known (numbers_of calling) e ≡ true) calling_events (refl, (refl, (refl, (refl, tt))));
    end = ((λ q. clash q), ((λ q. clash q), ((λ q. clash q), ((λ q. refl), tt))));
    few = omega arith;
  };
}

pub is_met : IsMet
is_met = record { legal = calling-is-legal; sequence = file; is = refl }
