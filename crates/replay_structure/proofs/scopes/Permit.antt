-- Where the variables of a permit are declared the scope has more names, and they are variables of INTEGER; and they stay so behind declarations of
-- other names.
use Rattle.std.proofs.Common.{◌≡◌, ℕ, ◌==◌, Bool, true, false, if◌then◌else◌, List, [], ◌∷◌, map, Some, None, refl, sym, ap, subst, ◌∙◌}
use Rattle.std.specs.List.{AllByRecursion}
use Rattle.std.proofs.lemmas.Bool.{eq-eqb, or_left, or_right}
use Rattle.ada_tree.specs.declared.naming.NameId.{NameId}
use Rattle.ada_tree.specs.declared.naming.Span.{Span}
use Rattle.ada_tree.specs.declared.naming.Word.{Word}
use Rattle.ada_tree.specs.TypeTable.{TypeTable}
use Rattle.ada_tree.specs.PlainExpr.{EInteger}
use Rattle.ada_tree.specs.PlainDecl.{IOne, PDecl, DNumber, DObject, DEnumeration, DArray, DSubtype, DException, DIntIo, DPragma, DTask, DTaskBody, decls_of}
use Rattle.ada_tree.specs.PlainProgram.{PProgram}
use Rattle.ada_static_rules.specs.StaticValue.{value_named, mark_named}
use Rattle.ada_static_rules.specs.Scope.{Scope, Thing, TypeMark, Variable, mark_at, meaning}
use Rattle.ada_static_rules.specs.Declaring.{with_names, with_types, entry_part, task_thing, Declared, declared_object, with_constants, after_own_object, after_objects, after_decl, after_decls}
use Rattle.task_laws.specs.legal.rewritten_types.Agreement.{Keeps, IsScalar}
use Rattle.task_laws.specs.legal.rewritten_types.Rewriting.{IsNew, IsAdded}
use Rattle.task_laws.proofs.legal.rewritten_types.Keeping.{keeps-self, keeps-on}
use Rattle.task_laws.proofs.legal.rewritten_types.Adding.{keeps-objects, keeps-decl}
use Rattle.task_laws.proofs.legal.alike_scopes.Tables.{value-kept}
use Rattle.task_laws.proofs.legal.types.GoodScopes.{IsIn, names-new, names-kept}
use Rattle.normal_laws.proofs.structure.typed.Scopes.{meaning-more}
use Rattle.replay_model.specs.Names.{kind_text, argument_text, index_text, added_id, added_word}
use Rattle.replay_model.specs.ReplayTree.{permit_declared}
use Rattle.replay_structure.specs.typed.ScopeOf.{IsNumber}
use Rattle.replay_structure.specs.typed.Controller.{IsInteger}
use Rattle.replay_structure.proofs.typed.Declared.{permit-thing}
use Rattle.replay_structure.specs.scopes.More.{IsGrown, stays, doubled, IsMore, ArePermitsNew, IsReady, HasPermit}
use Rattle.replay_structure.proofs.scopes.More.{names-added}

module _ (q : PProgram) (old : ℕ → Bool) where
  -- INTEGER is the same on both sides
  pub integer-there : (c d : Scope) → IsMore q old c d → old 0 ≡ true → IsInteger c → IsInteger d
  integer-there c d more o int = record {
    its = record {
      place = int.its.place;
      mark = int.its.mark;
      means = by_grown (more.things record { 0 = 0 } o);
      there = subst (λ T. mark_at T int.its.place ≡ Some int.its.mark) (sym more.types) int.its.there;
      kind = int.its.kind;
      scalar = subst (λ T. IsScalar T int.its.mark.kind) (sym more.types) int.its.scalar;
      named = subst (λ T. mark_named T record { 0 = 0 } ≡ Some int.its.mark) (sym more.types) int.its.named;
      first = int.its.first;
    };
    last = int.last;
  }
    where
      by_grown : IsGrown q old (meaning c record { 0 = 0 }) (meaning d record { 0 = 0 }) → meaning d record { 0 = 0 } ≡ Some (TypeMark int.its.place)
      by_grown (stays e n) = e ∙ int.its.means
      by_grown (doubled entries e t) = let f = int.its.means in cc

  module _ (new : ArePermitsNew q old) (zero_old : old 0 ≡ true) (c d : Scope) (more : IsMore q old c d) (ready : IsReady q old c) (s : Span) where
    abbrev int : IsInteger d
    int = integer-there c d more zero_old ready.integer

    abbrev words : List Word
    words = added_word q s kind_text ∷ added_word q s argument_text ∷ added_word q s index_text ∷ []

    abbrev behind : Scope
    behind = with_names (Variable int.its.place) d words

    no-constant : (b : Bool) (x : TypeTable) → (if b then x else x) ≡ x
    no-constant true x = refl
    no-constant false x = refl

    permit-is : after_own_object d (permit_declared q s) ≡ behind
    permit-is =
        ap (λ (x : Declared). with_names x.thing (with_types (with_constants d words (Some (IOne (EInteger 0 s))) x) d) words) (permit-thing q d int s)
        ∙ ap (λ T. with_names (Variable int.its.place) (with_types T d) words) (no-constant d.in_main d.types)

    behind-more : IsMore q old c behind
    behind-more = names-added q old (Variable int.its.place) words c d (new.kind, (new.argument, (new.index, tt))) more

    number : (id : NameId) → IsIn words id → value_named c.types id ≡ None → IsNumber behind id
    number id i n = record {
      place = int.its.place;
      mark = int.its.mark;
      means = names-new (Variable int.its.place) words d id i;
      there = int.its.there;
      kind = int.its.kind;
      scalar = int.its.scalar;
      first = int.its.first;
      last = int.last;
      changes = subst (λ T. value_named T id ≡ None) (sym more.types) n;
    }

    behind-permit : HasPermit q behind
    behind-permit = record {
      kind = number (added_id q kind_text) (or_left ((added_id q kind_text).0 == (added_id q kind_text).0) _ (eq-eqb (added_id q kind_text).0 (added_id q kind_text).0 refl)) ready.kind;
      argument =
          number (added_id q argument_text)
          (or_right ((added_id q kind_text).0 == (added_id q argument_text).0) _ (or_left ((added_id q argument_text).0 == (added_id q argument_text).0) _ (eq-eqb (added_id q argument_text).0 (added_id q argument_text).0 refl))) ready.argument;
      index =
          number (added_id q index_text)
          (or_right ((added_id q kind_text).0 == (added_id q index_text).0) _
          (or_right ((added_id q argument_text).0 == (added_id q index_text).0) _ (or_left ((added_id q index_text).0 == (added_id q index_text).0) _ (eq-eqb (added_id q index_text).0 (added_id q index_text).0 refl))))
          ready.index;
    }

    -- Behind the permit's variables the scope has more names.
    pub permit-more : IsMore q old c (after_own_object d (permit_declared q s))
    permit-more = subst (IsMore q old c) (sym permit-is) behind-more

    pub permit-there : HasPermit q (after_own_object d (permit_declared q s))
    permit-there = subst (HasPermit q) (sym permit-is) behind-permit

-- ---- what stays behind other declarations

-- this one name alone
abbrev pub only : NameId → ℕ → Bool
only id n = n == id.0

pub number-step : (d d' : Scope) (id : NameId) → meaning d' id ≡ meaning d id → Keeps (only id) d.types d'.types → IsNumber d id → IsNumber d' id
number-step d d' id e k v = record {
  place = v.place;
  mark = v.mark;
  means = e ∙ v.means;
  there = k.grows.mark v.place v.mark v.there;
  kind = v.kind;
  scalar = (v.scalar.0, k.kinds v.mark.kind ∙ v.scalar.1);
  first = v.first;
  last = v.last;
  changes = value-kept (only id) d.types d'.types k id (eq-eqb id.0 id.0 refl) ∙ v.changes;
}

-- INTEGER is what it was
pub integer-step : (d d' : Scope) → meaning d' (record { 0 = 0 }) ≡ meaning d (record { 0 = 0 }) → Keeps (only (record { 0 = 0 })) d.types d'.types → IsInteger d → IsInteger d'
integer-step d d' e k int = record {
  its = record {
    place = int.its.place;
    mark = int.its.mark;
    means = e ∙ int.its.means;
    there = k.grows.mark int.its.place int.its.mark int.its.there;
    kind = int.its.kind;
    scalar = (int.its.scalar.0, k.kinds int.its.mark.kind ∙ int.its.scalar.1);
    named = k.marks (record { 0 = 0 }) refl ∙ int.its.named;
    first = int.its.first;
  };
  last = int.last;
}

-- an object of other names in a body
own-means : (id : NameId) (x : PDecl) (d : Scope) → IsAdded (only id) x → meaning (after_own_object d x) id ≡ meaning d id
own-means id (DObject ws constant shape init s) d h = names-kept (declared_object d constant shape).thing ws (with_types (with_constants d ws init (declared_object d constant shape)) d) id h
own-means id (DNumber w e s) d h = refl
own-means id (DEnumeration w ws s) d h = refl
own-means id (DArray w r x s) d h = refl
own-means id (DSubtype w x s) d h = refl
own-means id (DException ws s) d h = refl
own-means id (DIntIo w s) d h = refl
own-means id (DPragma e s) d h = refl
own-means id (DTask t s) d h = refl
own-means id (DTaskBody w objects its s) d h = refl

pub objects-means : (id : NameId) (xs : List PDecl) (d : Scope) → AllByRecursion (IsAdded (only id)) xs → meaning (after_objects d (decls_of xs)) id ≡ meaning d id
objects-means id [] d h = refl
objects-means id (x ∷ xs) d h = objects-means id xs (after_own_object d x) h.1 ∙ own-means id x d h.0

pub number-objects : (id : NameId) (xs : List PDecl) (d : Scope) → d.in_main ≡ false → AllByRecursion (IsAdded (only id)) xs → IsNumber d id → IsNumber (after_objects d (decls_of xs)) id
number-objects id xs d m h v = number-step d (after_objects d (decls_of xs)) id (objects-means id xs d h) (keeps-objects (decls_of xs) d m) v

-- an object, a task or a body of main with another name
abbrev pub IsApart : NameId → PDecl → Type 0
IsApart id (DObject ws constant shape init s) = AllByRecursion (IsNew (only id)) ws
IsApart id (DTask t s) = IsNew (only id) t.name
IsApart id (DTaskBody w objects its s) = Prim.Unit {0}
IsApart id _ = ⊥

apart-added : (id : NameId) (x : PDecl) → IsApart id x → IsAdded (only id) x
apart-added id (DObject ws constant shape init s) h = h
apart-added id (DTask t s) h = tt
apart-added id (DTaskBody w objects its s) h = tt
apart-added id (DNumber w e s) h = absurd h
apart-added id (DEnumeration w ws s) h = absurd h
apart-added id (DArray w r x s) h = absurd h
apart-added id (DSubtype w x s) h = absurd h
apart-added id (DException ws s) h = absurd h
apart-added id (DIntIo w s) h = absurd h
apart-added id (DPragma e s) h = absurd h

decl-means : (id : NameId) (x : PDecl) (d : Scope) → IsApart id x → meaning (after_decl d x) id ≡ meaning d id
decl-means id (DObject ws constant shape init s) d h = names-kept (declared_object d constant shape).thing ws (with_types (with_constants d ws init (declared_object d constant shape)) d) id h
decl-means id (DTask t s) d h =
    let thing : Thing = task_thing t.of_kind (map (entry_part d) t.entries) in
    meaning-more thing d t.name id ∙ ap (λ b. if b then Some thing else meaning d id) h
decl-means id (DTaskBody w objects its s) d h = refl
decl-means id (DNumber w e s) d h = absurd h
decl-means id (DEnumeration w ws s) d h = absurd h
decl-means id (DArray w r x s) d h = absurd h
decl-means id (DSubtype w x s) d h = absurd h
decl-means id (DException ws s) d h = absurd h
decl-means id (DIntIo w s) d h = absurd h
decl-means id (DPragma e s) d h = absurd h

-- declarations of main with other names
pub decls-means : (id : NameId) (xs : List PDecl) (d : Scope) → AllByRecursion (IsApart id) xs → meaning (after_decls d (decls_of xs)) id ≡ meaning d id
decls-means id [] d h = refl
decls-means id (x ∷ xs) d h = decls-means id xs (after_decl d x) h.1 ∙ decl-means id x d h.0

pub decls-keep : (id : NameId) (xs : List PDecl) (d : Scope) → AllByRecursion (IsApart id) xs → Keeps (only id) d.types (after_decls d (decls_of xs)).types
decls-keep id [] d h = keeps-self d.types
decls-keep id (x ∷ xs) d h = keeps-on (keeps-decl x d (apart-added id x h.0)) (decls-keep id xs (after_decl d x) h.1)

pub number-decls : (id : NameId) (xs : List PDecl) (d : Scope) → AllByRecursion (IsApart id) xs → IsNumber d id → IsNumber (after_decls d (decls_of xs)) id
number-decls id xs d h v = number-step d (after_decls d (decls_of xs)) id (decls-means id xs d h) (decls-keep id xs d h) v
