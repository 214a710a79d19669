-- The normal form of the example of `normal_laws: structure/placed` is as the law asks.
--
-- procedure P is DED_V1 : INTEGER; task T is entry E (X : in INTEGER); end T; task body T is begin accept E (X : in INTEGER); end T; begin DED_V1 :=
-- 1; T.E (DED_V1); end P;
use Rattle.std.proofs.Common.{[], ◌∷◌, All, codes, refl, arith}
use Rattle.std.proofs.lemmas.List.Elements.{All-from_recursion}
use Rattle.ada_tree.specs.Lexical.{IsIdentifier}
use Rattle.ada_tree.specs.Every.{EveryExpr}
use Rattle.task_model.specs.Setting.{Setting}
use Rattle.normal_model.specs.Making.{variable}
use Rattle.normal_model.specs.NormalTree.{main_unit}
use Rattle.task_laws.specs.legal.asked.Asked.{AskedBody}
use Rattle.normal_laws.specs.structure.placed.Example.{nowhere, passing_set}
use Rattle.normal_laws.proofs.structure.placed.Names.{first-named, old-named}
use Rattle.normal_laws.proofs.structure.placed.Originals.{all_normal_placed}
use Rattle.normal_laws.proofs.structure.placed.Instance.{example_is_placeable}
use Rattle.replay_model.specs.ReplayTree.{normal_setting}
use Rattle.replay_structure.specs.placed.Fitting.{reach, fit_asks}
use Rattle.replay_structure.specs.placed.Laws.{IsMet}

abbrev g : Setting
g = normal_setting passing_set.program passing_set.types passing_set.numbers

-- the call has the variable alone
actual : All (EveryExpr (reach 2) 2) (variable passing_set nowhere 0 ∷ [])
actual = All-from_recursion (EveryExpr (reach 2) 2) (variable passing_set nowhere 0 ∷ []) (((omega arith, omega arith), tt), tt)

double : IsIdentifier (codes "DED_S_E")
double = (refl, omega arith, refl)

main-fits : AskedBody (fit_asks (main_unit g)) tt 1 g.program.body
main-fits = (
  (tt, ((omega arith, omega arith), (tt, tt), ((omega arith, omega arith), tt)), ((omega arith, tt, (((tt, actual), tt), (λ s. omega arith), double)), tt)),
  tt,
  tt,
)

pub example_is_met : IsMet
example_is_met = record {
  placed = all_normal_placed passing_set example_is_placeable;
  first = λ k l. old-named passing_set (record { 0 = k }) (first-named passing_set.program.names example_is_placeable.names k l);
  main = main-fits;
  decls = (tt, ((double, tt), (((tt, ((omega arith, tt, (λ s. omega arith)), tt), tt), tt, tt), tt)));
  marks = ((refl, omega arith, refl), ((refl, omega arith, refl), ((refl, omega arith, refl), ((refl, omega arith, refl), tt))));
  tasks = ((refl, omega arith, refl), ((refl, omega arith, refl), tt));
  few_tasks = omega arith;
  few_entries = omega arith;
}
