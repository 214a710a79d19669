use Rattle.text_laws.proofs.normal.Joined.{text_is_legal, text_is_normal, text_shows_same, text_is_calm}
use Rattle.text_laws.proofs.normal.Few.{text_has_few_parts, text_normal_has_names}
use Rattle.text_laws.proofs.normal.Instance.{calling-is-legal}
use Rattle.text_laws.proofs.normal.laws.Goals as goal

pub returns : goal.returns
returns c = record { legal = text_is_legal; normal = text_is_normal; same = text_shows_same; calm = text_is_calm; few = text_has_few_parts; names = text_normal_has_names; met = calling-is-legal }
