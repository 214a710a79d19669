-- The objects that each unit of a collecting text of a program with abort statements declares more meet the rules 13 to 23.
use Rattle.std.proofs.Common.{◌≡◌, ℕ, ◌≤◌, List, [], ◌∷◌, length, ap, arith}
use Rattle.std.specs.List.{AllByRecursion}
use Rattle.common_lemmas.proofs.Lists.{all_joined}
use Rattle.ada_tree.specs.declared.naming.Span.{Span}
use Rattle.ada_tree.specs.Attributes.{false_name}
use Rattle.ada_tree.specs.PlainDecl.{PDecl, DNumber, DObject, DEnumeration, DArray, DSubtype, DException, DIntIo, DPragma, DTask, DTaskBody}
use Rattle.ada_tree.specs.PlainProgram.{PProgram}
use Rattle.syn_event.specs.CheckScope.{CheckScope, CheckSite, declares, uses}
use Rattle.syn_event.specs.CheckSites as check
use Rattle.syn_event.specs.RuleSharedVariable.{shared_variable}
use Rattle.syn_event.specs.DeclaredTasks.{text_of}
use Rattle.task_model.specs.Setting.{Setting}
use Rattle.normal_model.specs.Ranges.{word_at}
use Rattle.normal_laws.proofs.structure.checked.Places.{met-deep, met-name, met-use}
use Rattle.normal_laws.proofs.structure.numbers.Named.{Has, text-there}
use Rattle.collect_model.specs.Names.{collect_names, added_in}
use Rattle.collect_model.specs.CollectTree.{answer_declared, part_declared, unit_declared}
use Rattle.collect_structure.proofs.checked.Along.{answer-met, part-met}
use Rattle.collect_model.specs.aborts.Names.{taken_text, refused_text}
use Rattle.collect_model.specs.aborts.Places.{most_places}
use Rattle.collect_model.specs.aborts.AbortTeller.{names_told}
use Rattle.collect_model.specs.aborts.AbortTree.{places_declared}
use Rattle.collect_structure.specs.aborts.Names.{added_id}
use Rattle.collect_structure.specs.aborts.scopes.Text.{main_told}
use Rattle.collect_structure.proofs.aborts.checked.Bodies.{IsNewObject, mine, places-new, unit-new}
use Rattle.collect_structure.proofs.aborts.checked.Names.{longer}
use Rattle.collect_structure.proofs.aborts.checked.Stays.{IsTextMet}
use Rattle.collect_structure.proofs.aborts.placed.Texts.{taken-identifier, refused-identifier}
use Rattle.collect_structure.proofs.aborts.texts.Listed.{all-places}
use Rattle.collect_structure.proofs.aborts.texts.Named.{abort-has-places}

-- FALSE is no shared variable
abbrev pub IsTrueThere : CheckScope → Type 0
IsTrueThere d = (s : Span) → shared_variable d (uses (record { 0 = false_name }) s) ≡ []

-- ---- names

module _ (q : PProgram) (d : CheckScope) where
  abbrev M' : CheckSite → Type 0
  M' = IsTextMet q

  -- a short name of the text is declared
  pub told-declared : (t : List ℕ) (s : Span) → Has (names_told q) t → length t ≤ 150 → M' (check.site d (declares (word_at s (added_id q t))))
  told-declared t s h l =
      let e : length (text_of (names_told q) (added_id q t)) ≡ length t = ap (λ (u : List ℕ). length u) (text-there (names_told q) t h) in
      met-name (names_told q) d (word_at s (added_id q t)) (omega (arith, e, l))

-- ---- objects

module _ (q : PProgram) where
  -- an object that is new, and whose declaration is met
  pub record IsFine (x : PDecl) : Type 0 where
    pub new : IsNewObject q x
    pub met : (d : CheckScope) → IsTrueThere d → AllByRecursion (IsTextMet q) (check.own_object_sites d x)

  fines : (xs : List PDecl) → AllByRecursion (IsNewObject q) xs →
      AllByRecursion (λ x. (d : CheckScope) → IsTrueThere d → AllByRecursion (IsTextMet q) (check.own_object_sites d x)) xs → AllByRecursion IsFine xs
  fines [] n m = tt
  fines (x ∷ xs) n m = (record { new = n.0; met = m.0 }, fines xs n.1 m.1)

  -- in main it is met as in a body
  pub fine-decl : (x : PDecl) → IsNewObject q x → (d : CheckScope) (bodies : List ℕ) → AllByRecursion (IsTextMet q) (check.own_object_sites d x) →
      AllByRecursion (IsTextMet q) (check.decl_sites d bodies x)
  fine-decl (DObject ws constant shape i s) n d bodies m = m
  fine-decl (DTask t s) n d bodies m = absurd n
  fine-decl (DTaskBody w objects its s) n d bodies m = absurd n
  fine-decl (DNumber w e s) n d bodies m = absurd n
  fine-decl (DEnumeration w ws s) n d bodies m = absurd n
  fine-decl (DArray w r x s) n d bodies m = absurd n
  fine-decl (DSubtype w x s) n d bodies m = absurd n
  fine-decl (DException ws s) n d bodies m = absurd n
  fine-decl (DIntIo w s) n d bodies m = absurd n
  fine-decl (DPragma e s) n d bodies m = absurd n

-- ---- what a unit declares more

module _ (g : Setting) where
  abbrev q : PProgram
  q = g.program

  abbrev IsMetThere : PDecl → Type 0
  IsMetThere x = (d : CheckScope) → IsTrueThere d → AllByRecursion (IsTextMet q) (check.own_object_sites d x)

  places-met : (s : Span) (k : ℕ) → k ≤ most_places q → AllByRecursion IsMetThere (places_declared (main_told g) s k)
  places-met s k le =
      all-places IsMetThere (main_told g) s k k (omega arith)
      (λ p low high.
      let has = abort-has-places q p low (omega (arith, le, high)) in (
        λ d t. (told-declared q d (taken_text p) s has.0 (taken-identifier p).1, (met-deep (names_told q) d 2 s (omega arith), tt)),
        λ d t. (
          told-declared q d (refused_text p) s has.1 (refused-identifier p).1,
          (met-deep (names_told q) d 2 s (omega arith), (met-use (names_told q) d (record { 0 = false_name }) s (t s), tt)),
        ),
      ))

  unit-met : (s : Span) → AllByRecursion IsMetThere (unit_declared (added_in (collect_names q)) s)
  unit-met s = (
    λ d t. longer q (check.own_object_sites d (answer_declared (added_in (collect_names q)) s)) (answer-met q d s (t s)),
    (λ d t. longer q (check.own_object_sites d (part_declared (added_in (collect_names q)) s)) (part-met q d s), tt),
  )

  -- It is met.
  pub mine-fine : (s : Span) (k : ℕ) → k ≤ most_places q → AllByRecursion (IsFine q) (mine g s k)
  mine-fine s k le =
      all_joined (IsFine q) (unit_declared (added_in (collect_names q)) s) (places_declared (main_told g) s k)
      (fines q (unit_declared (added_in (collect_names q)) s) (unit-new g s) (unit-met s))
      (fines q (places_declared (main_told g) s k) (places-new g s k le) (places-met s k le))
