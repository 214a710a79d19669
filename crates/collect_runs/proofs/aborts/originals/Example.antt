-- A program in which a task aborts itself is a legal original.
use Rattle.std.proofs.Common.{◌≡◌, ℕ, true, List, [], ◌∷◌, ◌++◌, codes, None, refl, arith, lit<}
use Rattle.std.specs.List.{AllByRecursion}
use Rattle.std.specs.Fmt.{digits}
use Rattle.std.proofs.lemmas.List.Elements.{All-from_recursion}
use Rattle.ada_tree.specs.NameList.{predefined, AreNames}
use Rattle.ada_tree.specs.Lexical.{IsIdentifier, IsStringContent}
use Rattle.ada_tree.specs.PlainStmt.{PWords}
use Rattle.ada_tree.specs.Every.{Rules, EveryEntry, EveryPriority, EveryPart, EveryCallee, EveryText}
use Rattle.ada_tree.specs.WellPlaced.{well_placed, IsWellPlaced}
use Rattle.ada_tree.proofs.Interning.{AreNames-added, AreNames-predefined}
use Rattle.ada_static_rules.specs.Refusals.{types_in}
use Rattle.syn_event.specs.declared.numbering.Mode.TheVariants.{Original}
use Rattle.syn_event.specs.Legal.{Legal}
use Rattle.task_laws.specs.legal.types.Typed.{IsSmall}
use Rattle.task_laws.proofs.legal.rewritten_types.Lookups.{place-all}
use Rattle.normal_laws.specs.runs.forms.Normalisable.{numbers_of}
use Rattle.normal_laws.specs.existence.units.Weights.{IsLight}
use Rattle.normal_laws.specs.existence.Laws.{IsLegalOriginal}
use Rattle.normal_laws.proofs.existence.Instance.{IsOther, small-other}
use Rattle.collect_model.specs.aborts.Promised.{has_abort}
use Rattle.collect_model.specs.aborts.examples.Trees.{o, w}
use Rattle.collect_model.specs.aborts.examples.Itself.{itself}
use Rattle.collect_runs.specs.aborts.originals.Laws.{IsMet}
use Rattle.collect_runs.proofs.aborts.originals.Programs.{legal_texts_collect_programs}
use Rattle.collect_structure.proofs.placed.Header.{IsPrintable}
use Rattle.collect_runs.proofs.originals.Example.{letter-t}

pub aborts : has_abort itself ≡ true
aborts = refl

legal : Legal itself (types_in itself) (numbers_of itself) Original
unfolding digits
legal = record { type_rules = refl; check_rules = refl; its_types = refl; its_numbers = refl }

names : AreNames itself.names
names =
    AreNames-added (predefined ++ codes "P10" ∷ []) (codes "T") (AreNames-added predefined (codes "P10") AreNames-predefined refl (lit< tt)) refl (lit< tt)

others : AllByRecursion IsOther (types_in itself).kinds
others = (tt, (tt, tt))

small : IsSmall (types_in itself)
small = record { kinds = λ k x e. small-other k x (place-all IsOther (types_in itself).kinds k x others e) }

light : IsLight itself
light = (lit< tt, (lit< tt, tt))

abbrev r : Rules
r = well_placed itself.names

its-name : IsIdentifier (codes "P10")
its-name = (refl, omega arith, refl)

before : IsStringContent (codes "BEFORE")
before = (
  All-from_recursion IsPrintable (codes "BEFORE") (
    (omega arith, omega arith),
    (
      (omega arith, omega arith),
      (
        (omega arith, omega arith),
        (
          (omega arith, omega arith),
          (
            (omega arith, omega arith),
            ((omega arith, omega arith), tt),
          ),
        ),
      ),
    ),
  ),
  omega arith,
)

after : IsStringContent (codes "AFTER")
after = (
  All-from_recursion IsPrintable (codes "AFTER") (
    (omega arith, omega arith),
    (
      (omega arith, omega arith),
      (
        (omega arith, omega arith),
        ((omega arith, omega arith), ((omega arith, omega arith), tt)),
      ),
    ),
  ),
  omega arith,
)

-- what a PUT_LINE writes
line : (t : List ℕ) → IsStringContent t → EveryText r 2 (PWords t o ∷ [])
line t h = (omega arith, All-from_recursion (EveryPart r 2) (PWords t o ∷ []) (h, tt))

placed : IsWellPlaced itself
placed = (
  its-name,
  tt,
  (
    (omega arith, (letter-t, All-from_recursion (EveryEntry r) [] tt, All-from_recursion (EveryPriority r) [] tt, tt)),
    (
      (
        omega arith,
        letter-t,
        tt,
        tt,
        (
          (
            omega arith,
            (omega arith, line (codes "BEFORE") before),
            (
              (omega arith, omega arith, All-from_recursion (EveryCallee r 2) (record { name = w 26; index = None } ∷ []) ((letter-t, tt), tt)),
              ((omega arith, line (codes "AFTER") after), tt),
            ),
          ),
          tt,
          tt,
        ),
      ),
      tt,
    ),
  ),
  ((omega arith, omega arith, tt), tt, tt),
)

pub itself_is_legal : IsLegalOriginal itself
itself_is_legal = record { legal = legal; placed = placed; names = names; small = small; light = light }

pub is_met : IsMet
is_met = (itself_is_legal, aborts, legal_texts_collect_programs itself itself_is_legal)
