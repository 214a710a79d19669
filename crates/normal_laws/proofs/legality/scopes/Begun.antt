-- What is told of the names of the language, of literals and of tasks where the statements of a unit begin in the normal form of a legal program.
use Rattle.std.proofs.Common.{◌≡◌, ℕ, ℤ, pos, ◌<◌, false, ◌==◌, [], is_some, Some, refl, sym, ap, ◌∙◌, arith}
use Rattle.common_lemmas.proofs.Numbers.{lt_true}
use Rattle.ada_tree.specs.declared.naming.NameId.{NameId}
use Rattle.ada_tree.specs.declared.static_types.Kind.TheVariants.{Integer}
use Rattle.ada_tree.specs.Attributes.{false_name, true_name}
use Rattle.ada_tree.specs.PlainProgram.{PProgram}
use Rattle.ada_static_rules.specs.Refusals.{types_in}
use Rattle.ada_static_rules.specs.Scope.{Scope, truth_kind, TypeMark, Literal, AnException, meaning}
use Rattle.ada_static_rules.specs.StaticValue.{is_named}
use Rattle.ada_static_rules.specs.Declaring.{predefined_types, first_scope}
use Rattle.syn_event.specs.declared.numbering.TaskInfo.{TaskInfo}
use Rattle.normal_model.specs.Names.{variable_name, task_name}
use Rattle.normal_model.specs.NormalTree.{tasks_beside, first_decls}
use Rattle.task_laws.specs.legal.rewritten_types.Agreement.{scalar_only, Grows}
use Rattle.task_laws.proofs.legal.rewritten_types.Lookups.{find-grown}
use Rattle.task_laws.proofs.legal.rewritten_types.Keeping.{grows-on}
use Rattle.task_laws.proofs.legal.types.MainScopes.{grows-decls}
use Rattle.normal_laws.specs.existence.Laws.{IsLegalOriginal}
use Rattle.normal_laws.specs.structure.asked.Pieces.{IsAmong}
use Rattle.normal_laws.specs.structure.typed.ScopeOf.{IsLiteralOf, MeansLiteral, MeansInteger}
use Rattle.task_laws.specs.legal.alike_scopes.Alike.{SameTypes}
use Rattle.normal_laws.specs.legality.scopes.Plain.{plain_name}
use Rattle.normal_laws.proofs.legality.scopes.Names.{member-new, variable-task}
use Rattle.normal_laws.proofs.legality.scopes.Plain.{predefined-plain}
use Rattle.normal_laws.proofs.legality.scopes.Main.{g, old, first, named, tasked}
use Rattle.normal_laws.proofs.legality.scopes.Fixed.{predefined-there, literal-means, literal-plain, literal-there, apart-variable}
use Rattle.normal_laws.proofs.legality.scopes.Outer.{IsOuter, outer-task, outer-predefined, outer-valued}
use Rattle.normal_laws.proofs.structure.placed.Made.{among}

module _ (p : PProgram) (legal : IsLegalOriginal p) where
  -- A scope of the normal form in which types and values are those of the program, and in which no name that is outer means another thing than behind
  -- the tasks.
  pub record IsOuterScope (d : Scope) : Type 0 where
    pub types : SameTypes (old p legal) (types_in p) d.types
    pub grows : Grows (first p legal).types d.types
    pub stays : (id : NameId) → IsOuter (g p legal) (old p legal) id → ((k : ℕ) → ((variable_name (g p legal) k).0 == id.0) ≡ false) → meaning d id ≡ meaning (tasked p legal) id

  -- no member of an array has a plain name
  pub new-member : (info : TaskInfo) → IsAmong info (tasks_beside (g p legal)) → (z : ℤ) → info.member ≡ Some z → plain_name p (task_name (g p legal) info).0 ≡ false
  new-member info i z e = member-new (g p legal) info (among _ info (tasks_beside (g p legal)) i (named p legal)) z e

  -- each task has its own name there
  pub task-in : (d : Scope) → IsOuterScope d → (info : TaskInfo) (i : IsAmong info (tasks_beside (g p legal))) → meaning d (task_name (g p legal) info) ≡ meaning (tasked p legal) (task_name (g p legal) info)
  task-in d o info i =
      o.stays (task_name (g p legal) info) (outer-task (g p legal) (old p legal) info i (new-member info i))
      (λ k. variable-task (g p legal) info k (among _ info (tasks_beside (g p legal)) i (named p legal)))

  predefined-in : (d : Scope) → IsOuterScope d → (k : ℕ) → k < 18 → meaning d (record { 0 = k }) ≡ meaning (tasked p legal) (record { 0 = k })
  predefined-in d o k l =
      o.stays (record { 0 = k }) (outer-predefined (g p legal) (old p legal) k (lt_true k 18 l)) (apart-variable p legal (record { 0 = k }) (predefined-plain p legal.names k (omega (arith, l))))

  pub falses-in : (d : Scope) → IsOuterScope d → MeansLiteral d (record { 0 = false_name }) truth_kind (pos 0)
  falses-in d o = (predefined-in d o 4 (omega arith) ∙ predefined-there p legal 4 (Literal truth_kind) (omega arith) refl tt, refl)

  pub trues-in : (d : Scope) → IsOuterScope d → MeansLiteral d (record { 0 = true_name }) truth_kind (pos 1)
  trues-in d o = (predefined-in d o 5 (omega arith) ∙ predefined-there p legal 5 (Literal truth_kind) (omega arith) refl tt, refl)

  pub error-in : (d : Scope) → IsOuterScope d → meaning d (record { 0 = 8 }) ≡ Some AnException
  error-in d o = predefined-in d o 8 (omega arith) ∙ predefined-there p legal 8 AnException (omega arith) refl tt

  pub literals-in : (d : Scope) → IsOuterScope d → (id : NameId) (k n : ℕ) → IsLiteralOf (types_in p) id k n → MeansLiteral d id k (pos n)
  literals-in d o id k n l =
      let plain = literal-plain p legal id (Literal k) (literal-means p legal k l.ids l.there n id l.at) in (
        o.stays id (outer-valued (g p legal) (old p legal) id (ap is_some l.value)) (apart-variable p legal id plain) ∙ literal-there p legal k l.ids l.there n id l.at,
        sym (o.types.values id plain) ∙ l.value,
      )

  pub integer-in : (d : Scope) → IsOuterScope d → MeansInteger d
  integer-in d o = record {
    place = 0;
    mark = _;
    means = predefined-in d o 0 (omega arith) ∙ predefined-there p legal 0 (TypeMark 0) (omega arith) refl tt;
    there = begins.mark 0 _ refl;
    kind = refl;
    scalar = (Integer, ap scalar_only (begins.kind 0 Integer refl));
    named = find-grown (λ x. is_named (record { 0 = 0 }) x.name) predefined_types.marks d.types.marks begins.mark _ refl;
    first = refl;
  }
    where
      begins : Grows predefined_types d.types
      begins = grows-on (grows-decls (first_decls [] p.decls) (first_scope p.name)) o.grows
