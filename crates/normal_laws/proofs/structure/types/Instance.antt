-- A program with a task, an entry and a call is as the laws ask.
use Rattle.std.specs.Prelude.{pos, [], ◌∷◌, All, refl}
use Rattle.std.proofs.lemmas.List.Elements.{All-from_recursion}
use Rattle.ada_tree.specs.PlainExpr.{EInteger, RGiven}
use Rattle.ada_tree.specs.Every.{Rules, EveryWord, EveryFormal, EveryEntry, EveryPriority}
use Rattle.syn_event.proofs.Weaker.{placed_tokens}
use Rattle.task_laws.specs.legal.rewritten_values.Values.{old_names}
use Rattle.normal_laws.specs.structure.placed.Example.{nowhere, word, formal, entry, passing}
use Rattle.normal_laws.proofs.structure.placed.Instance.{example_is_placeable}
use Rattle.normal_laws.specs.structure.types.Own.{own_name}
use Rattle.normal_laws.specs.structure.types.Laws.{IsOrdered, AreOwn, IsMet}

abbrev r : Rules
r = old_names (own_name passing)

ordered : IsOrdered passing
ordered = record { rules = refl; last = tt }

formals-own : All (EveryFormal r) (formal ∷ [])
formals-own = All-from_recursion (EveryFormal r) (formal ∷ []) (((tt, All-from_recursion (EveryWord r) (word 28 ∷ []) (refl, tt)), refl), tt)

own : AreOwn passing passing.decls
own = (
  (tt, (refl, All-from_recursion (EveryEntry r) (entry ∷ []) ((tt, refl, tt, formals-own), tt), All-from_recursion (EveryPriority r) [] tt, tt)),
  ((tt, refl, tt, tt, ((tt, (tt, (refl, tt, formals-own), tt), tt), tt, tt)), tt),
)

-- INTEGER, and `1 .. 2`
pub is_met : IsMet
is_met = (
  passing,
  word 0,
  _,
  nowhere,
  RGiven record { first = EInteger 1 nowhere; last = EInteger 2 nowhere },
  record { kind = 0; first = pos 1; last = pos 2 },
  record {
    ordered = ordered;
    tokens = placed_tokens passing example_is_placeable.placed;
    own = own;
    name = refl;
    mark = refl;
    scalar = refl;
    names = (refl, (tt, (tt, tt), (tt, tt)));
    type = tt;
    range = refl;
    values = refl;
  },
)
