-- A program with a task and a call, and one with a family of entries, are as the law of collecting texts asks.
use Rattle.std.proofs.Common.{◌≡◌, [], ◌∷◌, ◌++◌, Some, None, All, codes, refl, arith, lit<}
use Rattle.std.specs.List.{AllByRecursion}
use Rattle.std.specs.Fmt.{digits}
use Rattle.std.proofs.lemmas.List.Elements.{All-from_recursion}
use Rattle.ada_tree.specs.NameList.{predefined, AreNames}
use Rattle.ada_tree.specs.Lexical.{IsIdentifier}
use Rattle.ada_tree.specs.PlainExpr.{PExpr, RMarked}
use Rattle.ada_tree.specs.PlainDecl.{PEntry}
use Rattle.ada_tree.specs.PlainProgram.{PProgram}
use Rattle.ada_tree.specs.Every.{Rules, EveryWord, EveryExpr, EveryExprs, EveryFormal, EveryEntry, EveryPriority, EveryAlts}
use Rattle.ada_tree.specs.WellPlaced.{well_placed, IsWellPlaced}
use Rattle.ada_tree.proofs.Interning.{AreNames-added}
use Rattle.ada_static_rules.specs.Refusals.{types_in}
use Rattle.syn_event.specs.declared.numbering.Mode.TheVariants.{Original}
use Rattle.syn_event.specs.Legal.{Legal}
use Rattle.task_laws.specs.legal.types.Typed.{IsSmall}
use Rattle.task_laws.proofs.legal.rewritten_types.Lookups.{place-all}
use Rattle.normal_laws.specs.structure.placed.Example.{passing}
use Rattle.normal_laws.specs.runs.forms.Normalisable.{numbers_of}
use Rattle.normal_laws.specs.runs.runs.Example as family
use Rattle.normal_laws.proofs.structure.placed.Instance.{example_is_placeable}
use Rattle.normal_laws.specs.existence.units.Weights.{IsLight}
use Rattle.normal_laws.specs.existence.Laws.{IsLegalOriginal}
use Rattle.normal_laws.proofs.existence.Instance.{IsOther, small-other}
use Rattle.replay_structure.proofs.legal.names.kept_names.Instance as example
use Rattle.collect_model.specs.FirstAbort.{first_abort}
use Rattle.collect_runs.specs.originals.Laws.{IsMetBy, IsMet}
use Rattle.collect_runs.proofs.originals.Programs.{legal_texts_collect_programs}

none : first_abort passing ≡ None
none = refl

-- ---- the program with a family

legal : Legal family.example (types_in family.example) (numbers_of family.example) Original
unfolding digits
legal = record { type_rules = refl; check_rules = refl; its_types = refl; its_numbers = refl }

names : AreNames family.example.names
names = AreNames-added (predefined ++ codes "P" ∷ codes "T" ∷ codes "E" ∷ codes "X" ∷ []) (codes "V") example_is_placeable.names refl (lit< tt)

others : AllByRecursion IsOther (types_in family.example).kinds
others = (tt, (tt, tt))

small : IsSmall (types_in family.example)
small = record { kinds = λ k x e. small-other k x (place-all IsOther (types_in family.example).kinds k x others e) }

light : IsLight family.example
light = (lit< tt, (lit< tt, tt))

abbrev r : Rules
r = well_placed family.example.names

integer-name : IsIdentifier (codes "INTEGER")
integer-name = (refl, omega arith, refl)

boolean-name : IsIdentifier (codes "BOOLEAN")
boolean-name = (refl, omega arith, refl)

true-name : IsIdentifier (codes "TRUE")
true-name = (refl, omega arith, refl)

letter-p : IsIdentifier (codes "P")
letter-p = (refl, omega arith, refl)

pub letter-t : IsIdentifier (codes "T")
letter-t = (refl, omega arith, refl)

letter-e : IsIdentifier (codes "E")
letter-e = (refl, omega arith, refl)

letter-x : IsIdentifier (codes "X")
letter-x = (refl, omega arith, refl)

letter-v : IsIdentifier (codes "V")
letter-v = (refl, omega arith, refl)

-- `entry E(BOOLEAN)(X : in out INTEGER);`
abbrev entry : PEntry
entry = record { name = family.word 27; family = Some (RMarked record { mark = family.word 3; bounds = None }); formals = family.formal ∷ []; span = record { start = 0; end = 0 } }

formals : All (EveryFormal r) (family.formal ∷ [])
formals = All-from_recursion (EveryFormal r) (family.formal ∷ []) (((omega arith, All-from_recursion (EveryWord r) (family.word 28 ∷ []) (letter-x, tt)), integer-name), tt)

-- `accept E(TRUE)(X : in out INTEGER) do X := 1; end E;` in its wait
in-wait : EveryAlts r 2 family.alternatives
in-wait = (
  (
    omega arith,
    (omega arith, true-name),
    ((omega arith, (letter-e, (omega arith, true-name), formals), (omega arith, (omega arith, (letter-x, tt), (omega arith, omega arith)), tt)), tt),
  ),
  ((omega arith, tt, tt), tt),
)

one : (e : PExpr) → EveryExpr r 2 e → EveryExprs r 2 (e ∷ [])
one e h = (omega arith, All-from_recursion (EveryExpr r 2) (e ∷ []) (h, tt))

placed : IsWellPlaced family.example
placed = (
  letter-p,
  tt,
  (
    (omega arith, (omega arith, All-from_recursion (EveryWord r) (family.word 29 ∷ []) (letter-v, tt)), (integer-name, tt), tt, tt),
    (
      (
        omega arith,
        (
          letter-t,
          All-from_recursion (EveryEntry r) (entry ∷ []) ((omega arith, letter-e, (boolean-name, tt), formals), tt),
          All-from_recursion (EveryPriority r) [] tt,
          tt,
        ),
      ),
      ((omega arith, letter-t, tt, tt, ((omega arith, (omega arith, omega arith, in-wait, tt), tt), tt, tt)), tt),
    ),
  ),
  (
    (
      omega arith,
      (omega arith, ((letter-t, tt), letter-e, (one family.yes (omega arith, true-name), one family.v (omega arith, letter-v)))),
      tt,
    ),
    tt,
    tt,
  ),
)

family-is-legal : IsLegalOriginal family.example
family-is-legal = record { legal = legal; placed = placed; names = names; small = small; light = light }

collected : (p : PProgram) → IsLegalOriginal p → first_abort p ≡ None → IsMetBy p
collected p legal none = (legal, none, legal_texts_collect_programs p legal none)

pub is_met : IsMet
is_met = (collected passing example.is_met.0 none, collected family.example family-is-legal refl)
