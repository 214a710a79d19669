-- The declared name of a kind of values means a type of that kind in the scopes of the normal form of a legal program, and it is no inner name.
use Rattle.std.proofs.Common.{◌≡◌, ℕ, ◌==◌, Bool, true, false, not, ◌&&◌, is_some, is_none, unwrap_or, Option, Some, None, refl, sym, ap, ◌∙◌}
use Rattle.common_lemmas.proofs.Numbers.{equal_is}
use Rattle.common_lemmas.proofs.Lists.{found_passes}
use Rattle.ada_tree.specs.declared.naming.NameId.{NameId}
use Rattle.ada_tree.specs.declared.static_types.Kind.{Kind}
use Rattle.ada_tree.specs.declared.static_types.Kind.TheVariants.{Integer, Truth, Enumeration, Array}
use Rattle.ada_tree.specs.declared.static_types.Mark.{Mark}
use Rattle.ada_tree.specs.TypeTable.{TypeTable}
use Rattle.ada_tree.specs.PlainProgram.{PProgram}
use Rattle.ada_static_rules.specs.Refusals.{types_in}
use Rattle.ada_static_rules.specs.RuleDuplicate.{is_predefined}
use Rattle.ada_static_rules.specs.Scope.{Scope, Thing, TypeMark, TaskType, SingleTask, TaskObject, TaskArray, Variable, ConstantObject, Parameter, LoopParameter, Literal, AnException, MainProcedure, AnotherUnit, Unclear, kind_at, mark_at, and_then, meaning, marking, marking_of, marking_of_kind, marking_of_mark, scalar_kind}
use Rattle.ada_static_rules.specs.StaticValue.{mark_named}
use Rattle.task_laws.specs.legal.rewritten_types.Agreement.{scalar_only, IsScalar, Grows}
use Rattle.task_laws.specs.legal.rewritten_types.Laws.{IsNamedKind}
use Rattle.task_laws.proofs.legal.rewritten_types.NamedKinds.{kinds_are_named}
use Rattle.task_laws.proofs.legal.rewritten_types.Refused.{declared_once}
use Rattle.normal_model.specs.Ranges.{kind_name}
use Rattle.task_laws.specs.legal.alike_scopes.Alike.{SameNames}
use Rattle.task_laws.proofs.legal.alike_scopes.Exprs.{mark-kind-same}
use Rattle.normal_laws.specs.existence.Laws.{IsLegalOriginal}
use Rattle.normal_laws.specs.legality.scopes.Plain.{plain_name}
use Rattle.normal_laws.proofs.legality.scopes.Main.{last}
use Rattle.normal_laws.proofs.legality.scopes.Marked.{IsTypeOf, named-means}
use Rattle.normal_laws.proofs.legality.scopes.Fixed.{literal-plain}
use Rattle.replay_structure.specs.legal.names.form_units.Inner.{inner_name}

-- ---- tables that grow

kind-there : (m k : ℕ) (o : Option Kind) (x : Kind) → scalar_only o ≡ Some x → scalar_kind (marking_of_kind m k o) ≡ Some k
kind-there m k (Some Integer) x e = refl
kind-there m k (Some Truth) x e = refl
kind-there m k (Some (Enumeration ids)) x e = refl
kind-there m k (Some (Array index first last part)) x e = cc
kind-there m k None x e = cc

-- a mark that is scalar by a table is so by one that grows from it
module _ (T U : TypeTable) (g : Grows T U) where
  kind-grown : (m k j : ℕ) (o : Option Kind) → kind_at T k ≡ o → scalar_kind (marking_of_kind m k o) ≡ Some j → scalar_kind (marking_of_kind m k (kind_at U k)) ≡ Some j
  kind-grown m k j None e f = cc
  kind-grown m k j (Some x) e f = ap (λ o. scalar_kind (marking_of_kind m k o)) (g.kind k x e) ∙ f

  mark-grown : (m j : ℕ) (o : Option Mark) → mark_at T m ≡ o → scalar_kind (marking_of_mark T m o) ≡ Some j → scalar_kind (marking_of_mark U m (mark_at U m)) ≡ Some j
  mark-grown m j None e f = cc
  mark-grown m j (Some x) e f = ap (λ o. scalar_kind (marking_of_mark U m o)) (g.mark m x e) ∙ kind-grown m x.kind j (kind_at T x.kind) refl f

  marking-grown : (o : Option Thing) (j : ℕ) → scalar_kind (marking_of T o) ≡ Some j → scalar_kind (marking_of U o) ≡ Some j
  marking-grown (Some (TypeMark m)) j f = mark-grown m j (mark_at T m) refl f
  marking-grown (Some (TaskType es)) j f = cc
  marking-grown (Some (SingleTask es)) j f = cc
  marking-grown (Some (TaskObject es)) j f = cc
  marking-grown (Some (TaskArray range es)) j f = cc
  marking-grown (Some (Variable m)) j f = cc
  marking-grown (Some (ConstantObject m)) j f = cc
  marking-grown (Some (Parameter mode m)) j f = cc
  marking-grown (Some (LoopParameter m)) j f = cc
  marking-grown (Some (Literal k)) j f = cc
  marking-grown (Some AnException) j f = cc
  marking-grown (Some MainProcedure) j f = cc
  marking-grown (Some AnotherUnit) j f = cc
  marking-grown (Some Unclear) j f = cc
  marking-grown None j f = cc

-- ---- kinds of a legal program

module _ (p : PProgram) (h : IsLegalOriginal p) where
  abbrev T : TypeTable
  T = types_in p

  abbrev S : Scope
  S = last p h

  -- each kind of values has a declared name
  kind-named : (j : ℕ) → IsScalar T j → IsNamedKind T j
  kind-named j s = kinds_are_named p.name p.decls (declared_once p h.legal.type_rules) j s

  name-is : (j : ℕ) (s : IsScalar T j) → kind_name T j ≡ (kind-named j s).id
  name-is j s =
      let n = kind-named j s in
      ap (λ (o : Option Mark). unwrap_or (and_then (λ (m : Mark). m.name) o) (record { 0 = 0 })) n.first ∙ ap (λ (o : Option NameId). unwrap_or o (record { 0 = 0 })) n.name

  name-found : (j : ℕ) (s : IsScalar T j) → mark_named T (kind_name T j) ≡ Some (kind-named j s).mark
  name-found j s = ap (mark_named T) (name-is j s) ∙ (kind-named j s).found

  kind-is : (j : ℕ) (s : IsScalar T j) → (kind-named j s).mark.kind ≡ j
  kind-is j s = let n = kind-named j s in equal_is n.mark.kind j (found_passes (λ (m : Mark). m.kind == j) T.marks n.mark n.first)

  pub kind-there-named : (j : ℕ) → IsScalar T j → is_some (mark_named T (kind_name T j)) ≡ true
  kind-there-named j s = ap (λ o. is_some o) (name-found j s)

  -- no accept and no loop declares it
  pub kind-outer : (j : ℕ) → IsScalar T j → inner_name p (kind_name T j).0 ≡ false
  kind-outer j s = ap (λ (o : Option Mark). plain_name p (kind_name T j).0 && (not (is_predefined (kind_name T j).0) && is_none o)) (name-found j s) ∙ no-more (plain_name p (kind_name T j).0) (not (is_predefined (kind_name T j).0))
    where
      no-more : (a b : Bool) → (a && (b && false)) ≡ false
      no-more true true = refl
      no-more true false = refl
      no-more false b = refl

  -- what it means behind all declarations of the program
  name-meant : (j : ℕ) (s : IsScalar T j) → IsTypeOf p h (kind_name T j) (kind-named j s).mark
  name-meant j s = named-means p h (kind_name T j) (kind-named j s).mark (name-found j s)

  pub kind-plain : (j : ℕ) → IsScalar T j → plain_name p (kind_name T j).0 ≡ true
  kind-plain j s = let t = name-meant j s in literal-plain p h (kind_name T j) (TypeMark t.place) t.means

  kind-marked : (j : ℕ) → IsScalar T j → scalar_kind (marking S (kind_name T j)) ≡ Some j
  kind-marked j s =
      let t = name-meant j s in
      let n = kind-named j s in
      ap (λ (o : Option Thing). scalar_kind (marking_of T o)) t.means ∙ ap (λ (o : Option Mark). scalar_kind (marking_of_mark T t.place o)) t.there
      ∙ kind-there t.place n.mark.kind (kind_at T n.mark.kind) s.0 (ap (λ k. scalar_only (kind_at T k)) (kind-is j s) ∙ s.1) ∙ ap (λ (k : ℕ). Some k) (kind-is j s)

  -- ---- in the normal form

  -- the names of kinds mean types of these kinds
  abbrev pub AreKindsMeant : Scope → Type 0
  AreKindsMeant c = (j : ℕ) → IsScalar T j → scalar_kind (marking c (kind_name T j)) ≡ Some j

  -- where plain names mean the same it is so
  pub kinds-same : (t : Scope) → SameNames (plain_name p) S t → AreKindsMeant t
  kinds-same t n j s = sym (mark-kind-same (plain_name p) S t n (kind_name T j) (kind-plain j s)) ∙ kind-marked j s

  -- and behind what leaves these names
  pub kinds-later : (t d : Scope) → Grows t.types d.types → ((j : ℕ) → IsScalar T j → meaning d (kind_name T j) ≡ meaning t (kind_name T j)) → AreKindsMeant t → AreKindsMeant d
  kinds-later t d g e k j s = ap (λ (o : Option Thing). scalar_kind (marking_of d.types o)) (e j s) ∙ marking-grown t.types d.types g (meaning t (kind_name T j)) j (k j s)
