-- The normal form of a legal program is well placed, so its text is read back.
use Rattle.normal_laws.specs.runs.forms.Normalisable.{made_for}
use Rattle.normal_laws.proofs.legality.placed.Placed.{normal_is_placed}
use Rattle.read_back.proofs.Whole.{read_back}
use Rattle.text_laws.proofs.normal.Joined.{text_is_legal}
use Rattle.text_laws.specs.normal_read_back.Laws.{NormalIsReadBack, TextIsReadBack}

pub normal_is_read_back : NormalIsReadBack
normal_is_read_back p h = read_back (made_for p) (normal_is_placed p h)

pub text_is_read_back : TextIsReadBack
text_is_read_back bytes p h = normal_is_read_back p (text_is_legal bytes p h)
