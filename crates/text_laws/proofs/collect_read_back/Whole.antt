-- A collecting text is well placed, so what is printed of it is read back.
use Rattle.std.proofs.Common.{Bool, true, false, if◌then◌else◌, refl, sym, subst}
use Rattle.ada_tree.specs.PlainProgram.{PProgram}
use Rattle.ada_tree.specs.WellPlaced.{IsWellPlaced}
use Rattle.ada_static_rules.specs.Refusals.{types_in}
use Rattle.normal_laws.specs.existence.Laws.{IsLegalOriginal}
use Rattle.normal_laws.specs.runs.forms.Normalisable.{numbers_of}
use Rattle.read_back.proofs.Whole.{read_back}
use Rattle.collect_model.specs.CollectTree.{collect_tree}
use Rattle.collect_structure.proofs.legal.Placed.{legal_collect_is_placed}
use Rattle.collect_model.specs.aborts.AbortTree.{abort_tree}
use Rattle.collect_model.specs.aborts.Promised.{has_abort}
use Rattle.collect_structure.proofs.aborts.legal.Placed.{legal_abort_is_placed}
use Rattle.text_laws.proofs.normal.Instance.{calling-is-legal}
use Rattle.text_laws.proofs.normal.Joined.{text_is_legal}
use Rattle.text_laws.specs.collect_read_back.Laws.{CollectIsPlaced, CollectIsReadBack, IsMet}

-- with abort statements or without
placed_by : (p : PProgram) → IsLegalOriginal p → (b : Bool) → IsWellPlaced (if b then abort_tree p (types_in p) (numbers_of p) else collect_tree p (types_in p) (numbers_of p))
placed_by p legal true = legal_abort_is_placed p legal
placed_by p legal false = legal_collect_is_placed p legal

pub collect_is_placed : CollectIsPlaced
collect_is_placed bytes p text h = subst IsWellPlaced (sym h.is) (placed_by p (text_is_legal bytes p h.legal) (has_abort p))

pub collect_is_read_back : CollectIsReadBack
collect_is_read_back bytes p text h = read_back text (collect_is_placed bytes p text h)

pub is_met : IsMet
is_met = record { legal = calling-is-legal; is = refl }
