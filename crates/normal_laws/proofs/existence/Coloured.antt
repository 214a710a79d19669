-- The program with an array of tasks whose index is an enumeration is as the laws ask.
use Rattle.std.proofs.Common.{[], ◌∷◌, ◌++◌, codes, refl, lit<}
use Rattle.std.specs.Fmt.{digits}
use Rattle.ada_tree.specs.NameList.{predefined, AreNames}
use Rattle.ada_tree.proofs.Interning.{AreNames-added}
use Rattle.ada_static_rules.specs.Refusals.{types_in}
use Rattle.syn_event.specs.declared.numbering.Mode.TheVariants.{Original}
use Rattle.syn_event.specs.Legal.{Legal}
use Rattle.normal_laws.specs.runs.forms.Normalisable.{numbers_of}
use Rattle.task_laws.specs.legal.literals.Laws.{HasRules}
use Rattle.task_laws.specs.legal.literals.Colours.{coloured}
use Rattle.task_laws.proofs.legal.literals.Coloured.{coloured-is-met}
use Rattle.normal_laws.specs.existence.Laws.{IsLegalOriginal}
use Rattle.normal_laws.proofs.existence.Instance.{with_p}

legal : Legal coloured (types_in coloured) (numbers_of coloured) Original
unfolding digits
legal = record { type_rules = refl; check_rules = refl; its_types = refl; its_numbers = refl }

-- ---- names

with_c : AreNames (predefined ++ codes "P" ∷ codes "C" ∷ [])
with_c = AreNames-added (predefined ++ codes "P" ∷ []) (codes "C") with_p refl (lit< tt)

with_r : AreNames (predefined ++ codes "P" ∷ codes "C" ∷ codes "R" ∷ [])
with_r = AreNames-added (predefined ++ codes "P" ∷ codes "C" ∷ []) (codes "R") with_c refl (lit< tt)

with_g : AreNames (predefined ++ codes "P" ∷ codes "C" ∷ codes "R" ∷ codes "G" ∷ [])
with_g = AreNames-added (predefined ++ codes "P" ∷ codes "C" ∷ codes "R" ∷ []) (codes "G") with_r refl (lit< tt)

with_w : AreNames (predefined ++ codes "P" ∷ codes "C" ∷ codes "R" ∷ codes "G" ∷ codes "W" ∷ [])
with_w = AreNames-added (predefined ++ codes "P" ∷ codes "C" ∷ codes "R" ∷ codes "G" ∷ []) (codes "W") with_g refl (lit< tt)

names : AreNames coloured.names
names = AreNames-added (predefined ++ codes "P" ∷ codes "C" ∷ codes "R" ∷ codes "G" ∷ codes "W" ∷ []) (codes "A") with_w refl (lit< tt)

-- So it is as the laws ask.
pub coloured-is-legal : IsLegalOriginal coloured
coloured-is-legal =
    let h : HasRules coloured = coloured-is-met in
    record { legal = legal; placed = h.placed; names = names; small = h.small; light = (lit< tt, (lit< tt, tt)) }
