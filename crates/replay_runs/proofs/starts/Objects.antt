-- The objects of a unit's declarations with those of a permit among them.
use Rattle.std.proofs.Common.{◌≡◌, ℕ, ◌==◌, Bool, true, false, cond, if◌then◌else◌, List, [], ◌∷◌, ◌++◌, Option, Some, None, refl, sym, ap, ◌∙◌, append_assoc}
use Rattle.std.specs.List.{AllByRecursion}
use Rattle.ada_tree.specs.declared.naming.NameId.{NameId}
use Rattle.ada_tree.specs.declared.naming.Span.{Span}
use Rattle.ada_tree.specs.declared.naming.Word.{Word}
use Rattle.ada_tree.specs.TypeTable.{TypeTable}
use Rattle.ada_tree.specs.PlainExpr.{EInteger}
use Rattle.ada_tree.specs.PlainDecl.{PInit, IOne, PDecl, DNumber, DObject, DEnumeration, DArray, DSubtype, DException, DIntIo, DPragma, DTask, DTaskBody, decls_of}
use Rattle.ada_tree.specs.PlainProgram.{PProgram}
use Rattle.ada_value.specs.declared.values.Form.{Form}
use Rattle.ada_value.specs.Values.{integer_limits}
use Rattle.ada_value.specs.Variables.{Object, Variables, object_named}
use Rattle.task_model.specs.Starting.{form_of, object_of, with_objects, is_in_types, declared_objects, after_declaration, objects_of}
use Rattle.replay_model.specs.Names.{kind_text, argument_text, index_text, added_id, added_word}
use Rattle.replay_model.specs.ReplayTree.{permit_declared, is_added_object, behind_own}
use Rattle.replay_runs.specs.starts.Laws.{HasInteger, zero_object, permit_objects, own_part, added_part, objects_in, HavePermit, UnitsStart, IsNoPermit, LookUpsStay, FindsPermit, PermitIsFound}
use Rattle.replay_structure.proofs.texts.Rooted.{ids-apart}
use Rattle.common_lemmas.proofs.Lists.{all_weaker, texts_differ}
use Rattle.common_lemmas.proofs.Numbers.{equal_self, unequal_turned}
use Rattle.table_law.proofs.Found.{later-named as passed}

-- ---- what stands behind

module _ (T : TypeTable) where
  named-behind : (form : Form) (init : Option PInit) (ws : List Word) (V : Variables) → with_objects T form init ws V ≡ with_objects T form init ws [] ++ V
  named-behind form init [] V = refl
  named-behind form init (w ∷ ws) V =
      let o = object_of T form init w in
      named-behind form init ws (o ∷ V)
      ∙ sym (append_assoc (with_objects T form init ws []) (o ∷ []) V)
      ∙ ap (λ (l : Variables). l ++ V) (sym (named-behind form init ws (o ∷ [])))

  declared-behind : (in_main : Bool) (ws : List Word) (constant : Bool) (init : Option PInit) (o : Option Form) (V : Variables) → declared_objects T in_main ws constant init o V ≡ declared_objects T in_main ws constant init o [] ++ V
  declared-behind in_main ws constant init None V = refl
  declared-behind in_main ws constant init (Some form) V = by_test (is_in_types in_main constant form)
    where
      by_test : (b : Bool) → (if b then V else with_objects T form init ws V) ≡ (if b then [] else with_objects T form init ws []) ++ V
      by_test true = refl
      by_test false = named-behind form init ws V

  declaration-behind : (in_main : Bool) (d : PDecl) (V : Variables) → after_declaration T in_main d V ≡ after_declaration T in_main d [] ++ V
  declaration-behind in_main (DObject ws constant shape init s) V = declared-behind in_main ws constant init (form_of T shape) V
  declaration-behind in_main (DNumber w e s) V = refl
  declaration-behind in_main (DEnumeration w ws s) V = refl
  declaration-behind in_main (DArray w r x s) V = refl
  declaration-behind in_main (DSubtype w x s) V = refl
  declaration-behind in_main (DException ws s) V = refl
  declaration-behind in_main (DIntIo w s) V = refl
  declaration-behind in_main (DPragma e s) V = refl
  declaration-behind in_main (DTask t s) V = refl
  declaration-behind in_main (DTaskBody w objects its s) V = refl

  -- the objects of declarations stand in front of those that were there
  pub objects-behind : (in_main : Bool) (ds : List PDecl) (V : Variables) → objects_of T in_main (decls_of ds) V ≡ objects_in T in_main ds ++ V
  objects-behind in_main [] V = refl
  objects-behind in_main (d ∷ ds) V =
      let one = after_declaration T in_main d [] in
      objects-behind in_main ds (after_declaration T in_main d V)
      ∙ ap (λ (l : Variables). objects_in T in_main ds ++ l) (declaration-behind in_main d V)
      ∙ sym (append_assoc (objects_in T in_main ds) one V)
      ∙ ap (λ (l : Variables). l ++ V) (sym (objects-behind in_main ds one))

  -- ---- at one place

  -- the objects of a unit, and those with a declaration more
  parted : (names : List (List ℕ)) (in_main : Bool) (ds : List PDecl) (V : Variables) →
      objects_of T in_main (decls_of ds) V ≡ objects_of T in_main (decls_of (added_part names ds)) (objects_of T in_main (decls_of (own_part names ds)) V)
  parted names in_main [] V = refl
  parted names in_main (d ∷ ds) V = by_test (is_added_object names d) (parted names in_main ds (after_declaration T in_main d V))
    where
      by_test : (b : Bool) →
          objects_of T in_main (decls_of ds) (after_declaration T in_main d V)
          ≡ objects_of T in_main (decls_of (added_part names ds)) (objects_of T in_main (decls_of (own_part names ds)) (after_declaration T in_main d V)) →
          objects_of T in_main (decls_of ds) (after_declaration T in_main d V)
          ≡ objects_of T in_main (decls_of (if b then d ∷ ds else added_part names ds)) (objects_of T in_main (decls_of (if b then [] else d ∷ own_part names ds)) V)
      by_test true e = refl
      by_test false e = e

  put : (names : List (List ℕ)) (in_main : Bool) (x : PDecl) (ds : List PDecl) (V : Variables) →
      objects_of T in_main (decls_of (behind_own names x ds)) V
      ≡ objects_of T in_main (decls_of (added_part names ds)) (after_declaration T in_main x (objects_of T in_main (decls_of (own_part names ds)) V))
  put names in_main x [] V = refl
  put names in_main x (d ∷ ds) V = by_test (is_added_object names d) (put names in_main x ds (after_declaration T in_main d V))
    where
      by_test : (b : Bool) →
          objects_of T in_main (decls_of (behind_own names x ds)) (after_declaration T in_main d V)
          ≡ objects_of T in_main (decls_of (added_part names ds)) (after_declaration T in_main x (objects_of T in_main (decls_of (own_part names ds)) (after_declaration T in_main d V))) →
          objects_of T in_main (decls_of (if b then x ∷ d ∷ ds else d ∷ behind_own names x ds)) V
          ≡ objects_of T in_main (decls_of (if b then d ∷ ds else added_part names ds)) (after_declaration T in_main x (objects_of T in_main (decls_of (if b then [] else d ∷ own_part names ds)) V))
      by_test true e = refl
      by_test false e = e

-- ---- the permit

module _ (q : PProgram) (T : TypeTable) (int : HasInteger T) where
  -- a permit's variables are numbers that are 0, in main and in a body
  permit-there : (in_main : Bool) (s : Span) → after_declaration T in_main (permit_declared q s) [] ≡ permit_objects q
  permit-there in_main s =
      let words = added_word q s kind_text ∷ added_word q s argument_text ∷ added_word q s index_text ∷ [] in
      ap (λ (o : Option Form). declared_objects T in_main words false (Some (IOne (EInteger 0 s))) o []) (int.object s) ∙ by_test in_main
    where
      by_test : (b : Bool) → declared_objects T b (added_word q s kind_text ∷ added_word q s argument_text ∷ added_word q s index_text ∷ []) false (Some (IOne (EInteger 0 s))) (Some record { limits = integer_limits; index = None }) [] ≡ permit_objects q
      by_test true = refl
      by_test false = refl

pub units_start : UnitsStart
units_start q T int in_main s ds =
    let own = objects_in T in_main (own_part q.names ds) in
    let more = objects_in T in_main (added_part q.names ds) in
    record {
      before = parted T q.names in_main ds [] ∙ objects-behind T in_main (added_part q.names ds) own;
      after =
          put T q.names in_main (permit_declared q s) ds []
          ∙ objects-behind T in_main (added_part q.names ds) (after_declaration T in_main (permit_declared q s) own)
          ∙ ap (λ (l : Variables). more ++ l) (declaration-behind T in_main (permit_declared q s) own ∙ ap (λ (l : Variables). l ++ own) (permit-there q T int in_main s))
          ∙ sym (append_assoc more (permit_objects q) own);
    }

-- ---- look-ups

in-front : (X V W : Variables) (id : NameId) → object_named V id ≡ object_named W id → object_named (X ++ V) id ≡ object_named (X ++ W) id
in-front [] V W id e = e
in-front (o ∷ X) V W id e = ap (λ (r : Option Object). cond (o.name.0 == id.0) (Some o) r) (in-front X V W id e)

-- the variables of a permit are passed over by each other name
no-permit : (q : PProgram) (V : Variables) (id : NameId) → IsNoPermit q id → object_named (permit_objects q ++ V) id ≡ object_named V id
no-permit q V id other =
    passed (zero_object (added_id q index_text)) (zero_object (added_id q argument_text) ∷ zero_object (added_id q kind_text) ∷ V) id other.index
    ∙ passed (zero_object (added_id q argument_text)) (zero_object (added_id q kind_text) ∷ V) id other.argument
    ∙ passed (zero_object (added_id q kind_text)) V id other.kind

-- each other name means with the permit's variables what it means without them
pub stays : (q : PProgram) (T : TypeTable) (in_main : Bool) (ds : List PDecl) (start more_start : Variables) → HavePermit q T in_main ds start more_start →
    (id : NameId) → IsNoPermit q id → object_named more_start id ≡ object_named start id
stays q T in_main ds start more_start have id other =
    let own = objects_in T in_main (own_part q.names ds) in
    let more = objects_in T in_main (added_part q.names ds) in
    ap (λ V. object_named V id) (have.after ∙ append_assoc more (permit_objects q) own)
    ∙ in-front more (permit_objects q ++ own) own id (no-permit q own id other)
    ∙ ap (λ V. object_named V id) (sym have.before)

pub look_ups_stay : LookUpsStay
look_ups_stay q T int in_main s ds id other = stays q T in_main ds _ _ (units_start q T int in_main s ds) id other

-- ---- the variables of a permit

module _ (q : PProgram) (own : Variables) where
  abbrev its_index : Object
  its_index = zero_object (added_id q index_text)

  abbrev its_argument : Object
  its_argument = zero_object (added_id q argument_text)

  abbrev its_kind : Object
  its_kind = zero_object (added_id q kind_text)

  here : (o : Object) (V : Variables) → object_named (o ∷ V) o.name ≡ Some o
  here o V = ap (λ (b : Bool). cond b (Some o) (object_named V o.name)) (equal_self o.name.0)

  index-here : object_named (permit_objects q ++ own) its_index.name ≡ Some its_index
  index-here = here its_index (its_argument ∷ its_kind ∷ own)

  argument-here : object_named (permit_objects q ++ own) its_argument.name ≡ Some its_argument
  argument-here =
      passed its_index (its_argument ∷ its_kind ∷ own) its_argument.name (ids-apart q index_text argument_text refl refl (texts_differ index_text argument_text refl))
      ∙ here its_argument (its_kind ∷ own)

  kind-here : object_named (permit_objects q ++ own) its_kind.name ≡ Some its_kind
  kind-here =
      passed its_index (its_argument ∷ its_kind ∷ own) its_kind.name (ids-apart q index_text kind_text refl refl (texts_differ index_text kind_text refl))
      ∙ passed its_argument (its_kind ∷ own) its_kind.name (ids-apart q argument_text kind_text refl refl (texts_differ argument_text kind_text refl))
      ∙ here its_kind own

-- objects of other names are passed over
pub all-passed : (X V : Variables) (id : NameId) → AllByRecursion (λ (o : Object). (o.name.0 == id.0) ≡ false) X → object_named (X ++ V) id ≡ object_named V id
all-passed [] V id h = refl
all-passed (o ∷ X) V id h = passed o (X ++ V) id h.0 ∙ all-passed X V id h.1

-- the names of the permit mean its variables, where no added variable has one of them
pub finds : (q : PProgram) (T : TypeTable) (in_main : Bool) (ds : List PDecl) (start more_start : Variables) → HavePermit q T in_main ds start more_start →
    AllByRecursion (λ (o : Object). IsNoPermit q o.name) (objects_in T in_main (added_part q.names ds)) → FindsPermit q more_start
finds q T in_main ds start more_start have others = record {
  kind = found (added_id q kind_text) (λ o h. unequal_turned (added_id q kind_text).0 o.name.0 h.kind) ∙ kind-here q own;
  argument = found (added_id q argument_text) (λ o h. unequal_turned (added_id q argument_text).0 o.name.0 h.argument) ∙ argument-here q own;
  index = found (added_id q index_text) (λ o h. unequal_turned (added_id q index_text).0 o.name.0 h.index) ∙ index-here q own;
}
  where
    own : Variables
    own = objects_in T in_main (own_part q.names ds)

    more : Variables
    more = objects_in T in_main (added_part q.names ds)

    found : (id : NameId) → ((o : Object) → IsNoPermit q o.name → (o.name.0 == id.0) ≡ false) → object_named more_start id ≡ object_named (permit_objects q ++ own) id
    found id h =
        ap (λ V. object_named V id) (have.after ∙ append_assoc more (permit_objects q) own)
        ∙ all-passed more (permit_objects q ++ own) id (all_weaker (λ (o : Object). IsNoPermit q o.name) (λ o. (o.name.0 == id.0) ≡ false) more h others)

pub permit_is_found : PermitIsFound
permit_is_found q T int in_main s ds others = finds q T in_main ds _ _ (units_start q T int in_main s ds) others
