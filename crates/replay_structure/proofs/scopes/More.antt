-- Declarations on both sides, and added ones on the right, keep what a scope has.
use Rattle.std.proofs.Common.{◌≡◌, ℕ, ◌==◌, Bool, true, false, if◌then◌else◌, List, [], ◌∷◌, Option, Some, None, refl, sym, ap, subst, ◌∙◌, true≢false}
use Rattle.std.specs.List.{AllByRecursion}
use Rattle.ada_tree.specs.declared.naming.NameId.{NameId}
use Rattle.ada_tree.specs.declared.naming.Word.{Word}
use Rattle.ada_tree.specs.TypeTable.{TypeTable}
use Rattle.ada_tree.specs.PlainDecl.{PShape, OPlain, OArray, PInit}
use Rattle.ada_tree.specs.PlainProgram.{PProgram}
use Rattle.ada_static_rules.specs.Scope.{Scope, Range, Thing, EntryPart, Marking, ScalarMark, ArrayMark, TaskMark, NoMark, UnknownMark, UnclearMark, marking, meaning, entry_named}
use Rattle.ada_static_rules.specs.Declaring.{with_name, with_names, with_types, inner_scope, in_body, made_array, made_subind, drange_range, object_meaning, task_object, task_array, plain_object, array_object, declared_object, with_constants, after_object}
use Rattle.task_laws.specs.legal.rewritten_types.Rewriting.{IsNew}
use Rattle.task_laws.specs.legal.alike_scopes.Alike.{a_task, SameTypes, SameThing, no_values, SameNames, Alike}
use Rattle.task_laws.specs.legal.alike_scopes.Old.{IsOldShape}
use Rattle.normal_laws.proofs.structure.typed.Scopes.{differ, meaning-more}
use Rattle.replay_structure.specs.scopes.More.{is_single, IsGrown, stays, doubled, IsMore}
use Rattle.replay_structure.proofs.scopes.Same.{declared-same}

-- ---- no object is a single task

object-single : (b : Bool) (o : Option ℕ) → is_single (Some (object_meaning b o)) ≡ false
object-single true (Some m) = refl
object-single false (Some m) = refl
object-single true None = refl
object-single false None = refl

task-single : (b : Bool) (entries : List EntryPart) → is_single (Some (task_object b entries)) ≡ false
task-single true entries = refl
task-single false entries = refl

row-single : (b : Bool) (r : Option Range) (entries : List EntryPart) → is_single (Some (task_array b r entries)) ≡ false
row-single true (Some r) entries = refl
row-single true None entries = refl
row-single false (Some r) entries = refl
row-single false None entries = refl

pub declared-single : (s : Scope) (constant : Bool) (shape : PShape) → is_single (Some (declared_object s constant shape).thing) ≡ false
declared-single s constant (OPlain x) = by_marking (marking s x.mark.name)
  where
    by_marking : (m : Marking) → is_single (Some (plain_object s constant m x).thing) ≡ false
    by_marking (TaskMark entries) = task-single s.in_main entries
    by_marking (ArrayMark m range part) = object-single constant (Some m)
    by_marking (ScalarMark m k) = object-single constant (made_subind s x).mark
    by_marking NoMark = object-single constant (made_subind s x).mark
    by_marking UnknownMark = object-single constant (made_subind s x).mark
    by_marking UnclearMark = object-single constant (made_subind s x).mark
declared-single s constant (OArray index x) = by_marking (marking s x.mark.name)
  where
    by_marking : (m : Marking) → is_single (Some (array_object s constant m index x).thing) ≡ false
    by_marking (TaskMark entries) = row-single s.in_main (drange_range s index) entries
    by_marking (ArrayMark m range part) = object-single constant (made_array None (made_subind s x).types (drange_range s index) (made_subind s x).mark).mark
    by_marking (ScalarMark m k) = object-single constant (made_array None (made_subind s x).types (drange_range s index) (made_subind s x).mark).mark
    by_marking NoMark = object-single constant (made_array None (made_subind s x).types (drange_range s index) (made_subind s x).mark).mark
    by_marking UnknownMark = object-single constant (made_array None (made_subind s x).types (drange_range s index) (made_subind s x).mark).mark
    by_marking UnclearMark = object-single constant (made_array None (made_subind s x).types (drange_range s index) (made_subind s x).mark).mark

module _ (q : PProgram) (old : ℕ → Bool) where
  -- before any task is declared
  pub more-self : (c : Scope) → ((id : NameId) → old id.0 ≡ true → is_single (meaning c id) ≡ false) → IsMore q old c c
  more-self c n = record { types = refl; main = refl; things = λ id o. stays refl (n id o) }

  -- ---- names

  -- one name more on both sides, which means as much
  pub name-both : (x y : Thing) (w : Word) (c d : Scope) → IsGrown q old (Some x) (Some y) → IsMore q old c d → IsMore q old (with_name x c w) (with_name y d w)
  name-both x y w c d g m = record {
    types = m.types;
    main = m.main;
    things = λ id o. by_test id (w.name.0 == id.0) (meaning-more x c w id) (meaning-more y d w id) (m.things id o);
  }
    where
      by_test : (id : NameId) (b : Bool) → meaning (with_name x c w) id ≡ (if b then Some x else meaning c id) → meaning (with_name y d w) id ≡ (if b then Some y else meaning d id) → IsGrown q old (meaning c id) (meaning d id) →
          IsGrown q old (meaning (with_name x c w) id) (meaning (with_name y d w) id)
      by_test id true e f h = subst (λ a. IsGrown q old a (meaning (with_name y d w) id)) (sym e) (subst (IsGrown q old (Some x)) (sym f) g)
      by_test id false e f h = subst (λ a. IsGrown q old a (meaning (with_name y d w) id)) (sym e) (subst (IsGrown q old (meaning c id)) (sym f) h)

  pub names-both : (x : Thing) → is_single (Some x) ≡ false → (ws : List Word) (c d : Scope) → IsMore q old c d → IsMore q old (with_names x c ws) (with_names x d ws)
  names-both x n [] c d m = m
  names-both x n (w ∷ ws) c d m = names-both x n ws (with_name x c w) (with_name x d w) (name-both x x w c d (stays refl n) m)

  -- a name that is new, on the right alone
  pub name-added : (y : Thing) (w : Word) (c d : Scope) → IsNew old w → IsMore q old c d → IsMore q old c (with_name y d w)
  name-added y w c d n m = record {
    types = m.types;
    main = m.main;
    things = λ id o. subst (IsGrown q old (meaning c id)) (sym (meaning-more y d w id ∙ ap (λ b. if b then Some y else meaning d id) (differ old w.name.0 id.0 false true n o (λ e. true≢false (sym e))))) (m.things id o);
  }

  pub names-added : (y : Thing) (ws : List Word) (c d : Scope) → AllByRecursion (IsNew old) ws → IsMore q old c d → IsMore q old c (with_names y d ws)
  names-added y [] c d n m = m
  names-added y (w ∷ ws) c d n m = names-added y ws c (with_name y d w) n.1 (name-added y w c d n.0 m)

  -- ---- types

  types-both : (T : TypeTable) (c d : Scope) → IsMore q old c d → IsMore q old (with_types T c) (with_types T d)
  types-both T c d m = record { types = refl; main = m.main; things = m.things }

  -- ---- objects

  -- an object of an old type on both sides, where its constants are the same
  pub object-both : (names : List Word) (constant : Bool) (shape : PShape) (init : Option PInit) (c d : Scope) → IsOldShape old shape →
      with_constants c names init (declared_object c constant shape) ≡ with_constants d names init (declared_object d constant shape) → IsMore q old c d →
      IsMore q old (after_object c names constant shape init) (after_object d names constant shape init)
  object-both names constant shape init c d o e m =
      let T = with_constants c names init (declared_object c constant shape) in
      let x = (declared_object c constant shape).thing in
      subst (λ y. IsMore q old (after_object c names constant shape init) (with_names y (with_types (with_constants d names init (declared_object d constant shape)) d) names)) (ap (λ z. z.thing) (declared-same q old c d m constant shape o))
      (subst (λ U. IsMore q old (after_object c names constant shape init) (with_names x (with_types U d) names)) e
      (names-both x (declared-single c constant shape) names (with_types T c) (with_types T d) (types-both T c d m)))

  -- ---- bodies

  pub inside-more : (c d : Scope) → IsMore q old c d → IsMore q old (inner_scope c) (inner_scope d)
  inside-more c d m = record { types = m.types; main = m.main; things = m.things }

  pub in-body-more : (w : Word) (c d : Scope) → IsMore q old c d → IsMore q old (in_body c w) (in_body d w)
  in-body-more w c d m = record { types = m.types; main = refl; things = m.things }

  -- ---- so such scopes are alike

  -- where names mean the same as they themselves do
  pub more-alike : (c d : Scope) → IsMore q old c d → SameNames old c c → ((id : NameId) → old id.0 ≡ true → entry_named c.own id ≡ entry_named d.own id) → Alike old c d
  more-alike c d m self own = record {
    names = record {
      types = subst (λ T. SameTypes old c.types T) (sym m.types) self.types;
      things = λ id o. by_grown id (self.things id o) (m.things id o);
    };
    own = own;
    main = sym m.main;
  }
    where
      by_grown : (id : NameId) → SameThing c.types c.types (meaning c id) (meaning c id) → IsGrown q old (meaning c id) (meaning d id) → SameThing c.types d.types (meaning c id) (meaning d id)
      by_grown id h (stays e n) = subst (λ T. SameThing c.types T (meaning c id) (meaning d id)) (sym m.types) (subst (SameThing c.types c.types (meaning c id)) (sym e) h)
      by_grown id h (doubled entries e g) = no_values (a_task entries e) (a_task g.doubles.more g.doubles.means)
