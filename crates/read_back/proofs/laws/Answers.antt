use Rattle.ada_parser.proofs.PlacedItems.{read_is_placed}
use Rattle.read_back.proofs.Whole.{read_back}
use Rattle.read_back.proofs.Alike.{program_alike}
use Rattle.read_back.proofs.laws.Goals as goal

pub returns : goal.returns
returns c = record {
  read_back = read_back;
  read_again = λ bytes p reads. read_back p (read_is_placed bytes p reads);
  prints_alike = program_alike;
}
