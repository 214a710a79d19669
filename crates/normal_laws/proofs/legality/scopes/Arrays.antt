-- The arrays of tasks of a legal program have the ranges and the members that the numbers have.
use Rattle.std.proofs.Common.{◌≡◌, ℕ, zero, suc, ℤ, Bool, true, false, ◌==◌, ◌&&◌, cond, List, [], ◌∷◌, filter, find, slice_get, is_some, is_ok, ok_or, IfSome, Some, refl, sym, ap, ◌∙◌, subst, arith}
use Rattle.std.specs.List.{AllByRecursion}
use Rattle.std.proofs.lemmas.Bool.Decides.{Decides-int_eq}
use Rattle.common_lemmas.proofs.Lists.{found_passes}
use Rattle.common_lemmas.proofs.Numbers.{equal_is}
use Rattle.common_lemmas.proofs.Options.{some_same}
use Rattle.common_lemmas.proofs.Truth.{and_left, and_right, and_false}
use Rattle.ada_tree.specs.declared.naming.NameId.{NameId}
use Rattle.ada_tree.specs.TypeTable.{TypeTable}
use Rattle.ada_tree.specs.PlainProgram.{PProgram}
use Rattle.ada_static_rules.specs.Refusals.{types_in}
use Rattle.ada_static_rules.specs.Scope.{Scope, Range, TaskArray, EntryPart, and_then, meaning}
use Rattle.syn_event.specs.declared.numbering.TaskInfo.{TaskInfo}
use Rattle.syn_event.specs.AddedNames.{task_info}
use Rattle.syn_event.specs.NamedTasks.{NamedTasks, numbered_tasks, task_names_of}
use Rattle.ada_value.specs.declared.values.Raised.TheVariants as raised
use Rattle.task_model.specs.Setting.{Setting, is_member}
use Rattle.normal_model.specs.Ranges.{array_range}
use Rattle.normal_model.specs.Members.{members_of}
use Rattle.normal_model.specs.NormalTree.{tasks_beside}
use Rattle.task_laws.proofs.legal.rewritten_types.Lookups.{find-all}
use Rattle.task_laws.specs.legal.literals.Literals.{HasIndexLiterals}
use Rattle.task_laws.proofs.legal.literals.Indices.{indices-are-literals}
use Rattle.normal_laws.proofs.structure.entries.Lists.{found-place}
use Rattle.normal_laws.specs.existence.Laws.{IsLegalOriginal}
use Rattle.normal_laws.proofs.existence.seen_tasks.Parts.{is_called, IsTaskArray}
use Rattle.normal_laws.proofs.existence.seen_tasks.Tasks.{mapped-place}
use Rattle.normal_laws.proofs.existence.statement_forms.MemberNumbers.{member-is}
use Rattle.normal_laws.proofs.existence.statement_forms.Alone.{numbered-tasks-alone}
use Rattle.normal_laws.specs.structure.asked.Pieces.{IsAmong, first_among, later_among}
use Rattle.normal_laws.specs.structure.typed.ScopeOf.{IsRange, IsMemberIn, IsOtherMember, AreOtherMembers, IsArrayOf}
use Rattle.normal_laws.proofs.legality.scopes.Rows.{IsRowSeen}
use Rattle.normal_laws.proofs.legality.scopes.Main.{g, last, rows}
use Rattle.normal_laws.proofs.legality.scopes.Called.{known, at-last, done-all, among-found, some-there}

-- ---- lists

-- what is so of each element that passes
filter-each : {A : Type 0} (P : A → Type 0) (q : A → Bool) (xs : List A) → ((x : A) → IsAmong x xs → q x ≡ true → P x) → AllByRecursion P (filter q xs)
filter-each P q [] h = tt
filter-each P q (x ∷ xs) h = by_test (q x) refl (filter-each P q xs (λ y i. h y (later_among x xs i)))
  where
    by_test : (b : Bool) → q x ≡ b → AllByRecursion P (filter q xs) → AllByRecursion P (cond b (x ∷ filter q xs) (filter q xs))
    by_test true e r = (h x (first_among xs) e, r)
    by_test false e r = r

-- an element has a place
among-place : {A : Type 0} (x : A) (xs : List A) → IsAmong x xs → (k : ℕ) × (slice_get xs k ≡ Some x)
among-place x _ (first_among ys) = (zero, refl)
among-place x _ (later_among y ys i) = let r = among-place x ys i in (suc r.0, r.1)

-- infos of one name and one member have one place
abbrev AreAlone : List TaskInfo → Type 0
AreAlone xs = (j k : ℕ) (x y : TaskInfo) → slice_get xs j ≡ Some x → slice_get xs k ≡ Some y → x.name.0 ≡ y.name.0 → x.member ≡ y.member → j ≡ k

same-rest : (j k : ℕ) → suc j ≡ suc k → j ≡ k
same-rest j k e = omega (arith, e)

no-place : (k : ℕ) → zero ≡ suc k → ⊥
no-place k e = omega (arith, e)

others-of : (id : NameId) (q : TaskInfo → Bool) → ((x : TaskInfo) → q x ≡ true → x.name.0 ≡ id.0) → (xs : List TaskInfo) → AreAlone xs → AreOtherMembers (filter q xs)
others-of id q named [] alone = tt
others-of id q named (x ∷ xs) alone = by_test (q x) refl (others-of id q named xs (λ j k y z e f n m. same-rest j k (alone (suc j) (suc k) y z e f n m)))
  where
    by_test : (b : Bool) → q x ≡ b → AreOtherMembers (filter q xs) → AreOtherMembers (cond b (x ∷ filter q xs) (filter q xs))
    by_test true e r = (filter-each (IsOtherMember x) q xs (λ y i f m. let k = among-place y xs i in no-place k.0 (alone zero (suc k.0) x y refl k.1 (named x e ∙ sym (named y f)) m)), r)
    by_test false e r = r

module _ (p : PProgram) (legal : IsLegalOriginal p) where
  abbrev T : TypeTable
  T = types_in p

  abbrev G : Setting
  G = g p legal

  abbrev S : Scope
  S = last p legal

  module _ (id : NameId) where
    abbrev passes : TaskInfo → Bool
    passes info = (info.name.0 == id.0) && is_some info.member

    beside-alone : AreAlone (tasks_beside G)
    beside-alone j k x y e f n m =
        let a = mapped-place p T (known p legal) (numbered_tasks T p) j x e in
        let b = mapped-place p T (known p legal) (numbered_tasks T p) k y f in
        numbered-tasks-alone p T (known p legal) j k a.0 b.0 a.1 b.1
        (sym (ap (λ (i : TaskInfo). i.name.0) a.2) ∙ n ∙ ap (λ (i : TaskInfo). i.name.0) b.2)
        (sym (ap (λ (i : TaskInfo). i.member) a.2) ∙ m ∙ ap (λ (i : TaskInfo). i.member) b.2)

    -- main is no member
    members-beside : members_of G id ≡ filter passes (tasks_beside G)
    members-beside = ap (λ b. cond b (task_info p.names p.name.name ∷ filter passes (tasks_beside G)) (filter passes (tasks_beside G))) (and_false (p.name.name.0 == id.0))

    -- no two members are one
    others : AreOtherMembers (members_of G id)
    others = subst AreOtherMembers (sym members-beside) (others-of id passes (λ x e. equal_is x.name.0 id.0 (and_left (x.name.0 == id.0) (is_some x.member) e)) (tasks_beside G) beside-alone)

    module _ (range : Range) (es : List EntryPart) (e : meaning S id ≡ Some (TaskArray range es)) where
      abbrev row : IsTaskArray p T (at-last p legal).2.done id range es
      row = (at-last p legal).2.means id (TaskArray range es) e

      found : find (is_called id) (task_names_of p) ≡ Some row.stands.part
      found = sym (done-all p legal id) ∙ row.stands.found

      has-range : IsRange T (Some row.range) range
      has-range =
          find-all (IsRowSeen T S) (is_called id) (task_names_of p) row.stands.part (rows p legal) found row.range range es row.stands.index_range
          (ap (λ n. meaning S record { 0 = n }) (equal_is row.stands.part.name.name.0 id.0 (found_passes (is_called id) (task_names_of p) row.stands.part found)) ∙ e)

      declared : array_range p id ≡ Some row.range
      declared = ap (and_then (λ (x : NamedTasks). x.index_range)) found ∙ row.stands.index_range

      literals : HasIndexLiterals T row.range
      literals =
          subst (λ o. IfSome o (HasIndexLiterals T)) row.stands.index_range
          (find-all (λ (x : NamedTasks). IfSome x.index_range (HasIndexLiterals T)) (is_called id) (task_names_of p) row.stands.part
          (indices-are-literals p (record { rules = legal.legal.type_rules; placed = legal.placed; small = legal.small })) found)

      -- a member is found, so its index lies in the range
      member : (info : TaskInfo) → IsAmong info G.numbers.tasks → passes info ≡ true → IsMemberIn range info
      member info i f =
          let z = some-there p legal info.member (and_right (info.name.0 == id.0) (is_some info.member) f) in
          let test : TaskInfo → Bool = λ (x : TaskInfo). (x.name.0 == id.0) && is_member z.0 x.member in
          let ok : test info ≡ true = ap (λ m. (info.name.0 == id.0) && is_member z.0 m) z.1 ∙ ap (λ b. b && is_member z.0 (Some z.0)) (and_left (info.name.0 == id.0) (is_some info.member) f) ∙ itself z.0 in
          let y = some-there p legal (find test G.numbers.tasks) (among-found p legal test info G.numbers.tasks i ok) in
          let k = found-place test G.numbers.tasks y.0 y.1 in
          (z.0, z.1, sym (member-is p T (known p legal) id row.stands.part row.range range found row.stands.index_range row.extent z.0) ∙ ap (λ o. is_ok (ok_or o raised.Constraint)) k.2)
        where
          itself : (z : ℤ) → is_member z (Some z) ≡ true
          itself z = grind (arith, Decides-int_eq)

      -- The name is that of an array of tasks with that range.
      pub array-is : IsArrayOf G id range
      array-is = record {
        index = record { written = has-range.written; is = declared ∙ has-range.is; has = has-range.has; kind = has-range.kind; first = has-range.first; last = has-range.last };
        literals = subst (HasIndexLiterals T) (some_same has-range.is) literals;
        members = filter-each (IsMemberIn range) passes G.numbers.tasks member;
        others = others;
      }
