-- A normal form is as the law asks.
use Rattle.std.proofs.Common.{[], ◌∷◌, All, refl, arith}
use Rattle.std.specs.List.{AllByRecursion}
use Rattle.std.specs.Fmt.{digits}
use Rattle.std.proofs.lemmas.List.Elements.{All-from_recursion}
use Rattle.common_lemmas.proofs.Numbers.{le_is}
use Rattle.ada_tree.specs.PlainExpr.{EName}
use Rattle.ada_tree.specs.PlainProgram.{PProgram}
use Rattle.ada_tree.specs.Every.{Rules, EveryWord, EveryExpr, EveryFormal, EveryEntry, EveryPriority, EveryDecl, EveryBody}
use Rattle.syn_event.specs.DeclaredTasks.{decl_list}
use Rattle.normal_laws.specs.structure.placed.Example.{nowhere, word, formal, entry}
use Rattle.replay_structure.specs.checked.Around.{kept_names}
use Rattle.replay_structure.specs.checked.Checkable.{IsCheckable}
use Rattle.replay_structure.specs.checked.Example.{example_set, example_ops}

-- ---- the example

abbrev q : PProgram
q = example_set.program

abbrev r : Rules
r = kept_names q

formals-kept : All (EveryFormal r) (formal ∷ [])
unfolding digits
formals-kept = All-from_recursion (EveryFormal r) (formal ∷ []) (((tt, All-from_recursion (EveryWord r) (word 28 ∷ []) (refl, tt)), refl), tt)

entries-kept : All (EveryEntry r) (entry ∷ [])
unfolding digits
entries-kept = All-from_recursion (EveryEntry r) (entry ∷ []) ((omega arith, refl, tt, formals-kept), tt)

pub declared : AllByRecursion (EveryDecl r) (decl_list q.decls)
unfolding digits
declared = (
  (omega arith, (tt, All-from_recursion (EveryWord r) (word 29 ∷ []) (refl, tt)), (refl, tt), tt, tt),
  (
    (omega arith, (refl, entries-kept, All-from_recursion (EveryPriority r) [] tt, tt)),
    ((omega arith, refl, tt, tt, ((tt, (omega arith, (refl, tt, formals-kept), tt), tt), tt, tt)), tt),
  ),
)

pub named : EveryBody r 1 q.body
unfolding digits
named = (
  (tt, (omega arith, (refl, tt), (omega arith, tt)), ((omega arith, ((refl, tt), refl, ((tt, All-from_recursion (EveryExpr r 2) (EName record { 0 = 29 } nowhere ∷ []) ((omega arith, refl), tt)), tt))), tt)),
  tt,
  tt,
)

pub example_is_checkable : IsCheckable example_set example_ops
unfolding digits
example_is_checkable = record {
  main = refl;
  declared = declared;
  named = named;
  truth = refl;
  untrue = (refl, (tt, (tt, tt)));
  sorted = refl;
  single = (tt, (refl, (tt, tt)));
  form = ((tt, omega arith, ((omega arith, omega arith, omega arith), tt)), tt, tt);
  forms = (tt, (tt, (((tt, (omega arith, tt), tt), tt, tt), tt)));
  ranges = ((tt, tt), ((tt, tt), (tt, tt)));
  few_tasks = le_is _ 200 refl;
  few_entries = le_is _ 1000 refl;
  few_numbers = le_is _ 200 refl;
  short = ((le_is _ 144 refl, tt), tt);
  few_ops = le_is _ 1000000 refl;
  joined = (refl, tt);
}
