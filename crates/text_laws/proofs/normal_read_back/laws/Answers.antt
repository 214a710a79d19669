use Rattle.text_laws.proofs.normal.Instance.{calling-is-legal}
use Rattle.text_laws.proofs.normal_read_back.Whole.{normal_is_read_back, text_is_read_back}
use Rattle.text_laws.proofs.normal_read_back.laws.Goals as goal

pub returns : goal.returns
returns c = record { normal = normal_is_read_back; text = text_is_read_back; met = calling-is-legal }
