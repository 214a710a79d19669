-- The example is as the law asks.
use Rattle.std.proofs.Common.{[], ◌∷◌, ◌++◌, All, codes, refl, arith, lit<}
use Rattle.std.proofs.lemmas.List.Elements.{All-from_recursion}
use Rattle.ada_tree.specs.Lexical.{IsIdentifier}
use Rattle.ada_tree.specs.NameList.{predefined, AreNames}
use Rattle.ada_tree.proofs.Interning.{AreNames-added, AreNames-predefined}
use Rattle.ada_tree.specs.PlainExpr.{EInteger}
use Rattle.ada_tree.specs.Every.{Rules, EveryWord, EveryExpr, EveryFormal, EveryEntry, EveryPriority}
use Rattle.ada_tree.specs.WellPlaced.{well_placed, IsWellPlaced}
use Rattle.normal_laws.specs.structure.placed.Placeable.{IsPlaceable}
use Rattle.normal_laws.specs.structure.placed.Example.{nowhere, word, formal, entry, passing, passing_set}

with_p : AreNames (predefined ++ codes "P" ∷ [])
with_p = AreNames-added predefined (codes "P") AreNames-predefined refl (lit< tt)

with_t : AreNames (predefined ++ codes "P" ∷ codes "T" ∷ [])
with_t = AreNames-added (predefined ++ codes "P" ∷ []) (codes "T") with_p refl (lit< tt)

with_e : AreNames (predefined ++ codes "P" ∷ codes "T" ∷ codes "E" ∷ [])
with_e = AreNames-added (predefined ++ codes "P" ∷ codes "T" ∷ []) (codes "E") with_t refl (lit< tt)

names : AreNames passing.names
names = AreNames-added (predefined ++ codes "P" ∷ codes "T" ∷ codes "E" ∷ []) (codes "X") with_e refl (lit< tt)

abbrev r : Rules
r = well_placed passing.names

mark : IsIdentifier (codes "INTEGER")
mark = (refl, omega arith, refl)

letter-p : IsIdentifier (codes "P")
letter-p = (refl, omega arith, refl)

letter-t : IsIdentifier (codes "T")
letter-t = (refl, omega arith, refl)

letter-e : IsIdentifier (codes "E")
letter-e = (refl, omega arith, refl)

letter-x : IsIdentifier (codes "X")
letter-x = (refl, omega arith, refl)

formal-placed : EveryFormal r formal
formal-placed = ((omega arith, All-from_recursion (EveryWord r) (word 28 ∷ []) (letter-x, tt)), mark)

formals-placed : All (EveryFormal r) (formal ∷ [])
formals-placed = All-from_recursion (EveryFormal r) (formal ∷ []) (formal-placed, tt)

placed : IsWellPlaced passing
placed = (
  letter-p,
  tt,
  (
    (omega arith, (letter-t, All-from_recursion (EveryEntry r) (entry ∷ []) ((omega arith, letter-e, tt, formals-placed), tt), All-from_recursion (EveryPriority r) [] tt, tt)),
    ((omega arith, letter-t, tt, tt, ((omega arith, (omega arith, (letter-e, tt, formals-placed), tt), tt), tt, tt)), tt),
  ),
  ((omega arith, (omega arith, ((letter-t, tt), letter-e, ((omega arith, All-from_recursion (EveryExpr r 2) (EInteger 1 nowhere ∷ []) ((omega arith, omega arith), tt)), tt))), tt), tt, tt),
)

pub example_is_placeable : IsPlaceable passing_set
example_is_placeable = record {
  placed = placed;
  names = names;
  checks = refl;
  room = record { few = omega arith; indices = (tt, (tt, tt)); calls = ((tt, (tt, tt, tt), tt), tt, tt); bodies = (tt, ((λ info i. ((tt, (tt, tt), tt), tt, tt)), tt)) };
  tasks = (record { text = codes "P"; there = refl; identifier = letter-p; short = omega arith; index = tt }, (record { text = codes "T"; there = refl; identifier = letter-t; short = omega arith; index = tt }, tt));
  kinds = (tt, (tt, tt));
  marks = (mark, ((refl, omega arith, refl), ((refl, omega arith, refl), ((refl, omega arith, refl), tt))));
}
