-- Declarations of both texts, and what the collecting text declares alone, keep what its scopes have.
use Rattle.std.proofs.Common.{◌≡◌, ℕ, ◌==◌, Bool, true, false, if◌then◌else◌, List, [], ◌∷◌, ◌++◌, map, Option, Some, None, IfSome, refl, sym, ap, ap₂, subst, ◌∙◌, true≢false}
use Rattle.std.specs.List.{AllByRecursion}
use Rattle.common_lemmas.proofs.Lists.{all_weaker}
use Rattle.common_lemmas.proofs.Truth.{clash}
use Rattle.ada_tree.specs.declared.naming.NameId.{NameId}
use Rattle.ada_tree.specs.declared.naming.Span.{Span}
use Rattle.ada_tree.specs.declared.naming.Word.{Word}
use Rattle.ada_tree.specs.declared.statements.ParMode.TheVariants.{Take}
use Rattle.ada_tree.specs.PlainExpr.{PDrange}
use Rattle.ada_tree.specs.PlainStmt.{PFormal, PBody}
use Rattle.ada_tree.specs.PlainDecl.{PShape, PInit, PEntry, PTask, PDecl, DTask, DTaskBody, PDecls}
use Rattle.ada_tree.specs.PlainProgram.{PProgram}
use Rattle.ada_static_rules.specs.Scope.{Scope, Thing, SingleTask, EntryPart, FormalPart, integer_kind, meaning, marking, scalar_kind}
use Rattle.ada_static_rules.specs.Declaring.{with_name, with_names, with_types, inner_scope, in_body, family_of, entry_family, formal_parts, entry_part, task_thing, own_entries, declared_object, with_constants, after_object, after_decl}
use Rattle.task_laws.specs.legal.rewritten_types.Agreement.{Keeps}
use Rattle.task_laws.specs.legal.rewritten_types.Rewriting.{IsNew, IsAdded, names_declared}
use Rattle.task_laws.proofs.legal.rewritten_types.Keeping.{keeps-self}
use Rattle.task_laws.proofs.legal.rewritten_types.Adding.{names-main, keeps-shape, keeps-objects, keeps-decl}
use Rattle.task_laws.specs.legal.alike_scopes.Alike.{no_values, SameThing, SameNames}
use Rattle.task_laws.specs.legal.alike_scopes.Old.{IsOldDrange, AreOldFormals}
use Rattle.task_laws.proofs.legal.alike_scopes.Exprs.{mark-kind-same, dranges_are_same}
use Rattle.task_laws.proofs.legal.alike_scopes.Naming.{name-both, names-both, tables-kept}
use Rattle.task_laws.proofs.legal.alike_scopes.Objects.{SameDeclared}
use Rattle.task_laws.proofs.legal.alike_scopes.Mains.{task-none}
use Rattle.normal_laws.proofs.structure.typed.Scopes.{differ, meaning-more}
use Rattle.replay_structure.specs.scopes.More.{is_single}
use Rattle.replay_structure.specs.scopes.Form.{IsOldEntry}
use Rattle.replay_structure.proofs.scopes.More.{declared-single}
use Rattle.collect_model.specs.Names.{caller_text, collect_names, added_in}
use Rattle.collect_model.specs.CollectTree.{entry_telling, task_telling}
use Rattle.collect_structure.specs.Names.{added_id}
use Rattle.collect_structure.specs.typed.Told.{told_entry}
use Rattle.collect_structure.specs.scopes.Grown.{IsGrown}
use Rattle.collect_structure.proofs.scopes.Language.{IsOther, IsApart, decl-means}

module _ (q : PProgram) (old : ℕ → Bool) where
  -- before any task is declared
  pub grown-self : (c : Scope) → SameNames old c c → ((id : NameId) → is_single (meaning c id) ≡ false) → IsGrown q old c c
  grown-self c n unseen = record { names = n; main = refl; tasks = λ id entries o e. clash (sym (unseen id) ∙ ap is_single e) }

  -- ---- what the text declares alone

  -- the same names mean the same, and the table says no more of them
  pub grown-right : (c d d' : Scope) → Keeps old d.types d'.types → ((id : NameId) → old id.0 ≡ true → meaning d' id ≡ meaning d id) → d'.in_main ≡ d.in_main → IsGrown q old c d → IsGrown q old c d'
  grown-right c d d' k means main g =
      let n : SameNames old c (with_types d'.types d) = tables-kept old c d c.types d'.types g.names (keeps-self c.types) k in
      record {
        names = record { types = n.types; things = λ id o. subst (SameThing c.types d'.types (meaning c id)) (sym (means id o)) (n.things id o) };
        main = g.main ∙ sym main;
        tasks = λ id entries o e. means id o ∙ g.tasks id entries o e;
      }

  -- no name that is declared is an old one
  abbrev pub DeclaresNone : PDecl → Type 0
  DeclaresNone x = AllByRecursion (IsNew old) (names_declared x)

  none-apart : (id : NameId) → old id.0 ≡ true → (x : PDecl) → DeclaresNone x → IsApart id x
  none-apart id o x h = all_weaker (IsNew old) (IsOther id) (names_declared x) (λ w n. differ old w.name.0 id.0 false true n o (λ e. true≢false (sym e))) h

  pub grown-decl : (x : PDecl) (c d : Scope) → IsAdded old x → DeclaresNone x → (after_decl d x).in_main ≡ d.in_main → IsGrown q old c d → IsGrown q old c (after_decl d x)
  grown-decl x c d a n main g = grown-right c d (after_decl d x) (keeps-decl x d a) (λ id o. decl-means id x d (none-apart id o x n)) main g

  -- ---- names on both sides

  abbrev HasTasks : Scope → Scope → Type 0
  HasTasks c d = (id : NameId) (entries : List EntryPart) → old id.0 ≡ true → meaning c id ≡ Some (SingleTask entries) → meaning d id ≡ Some (SingleTask (map (told_entry q) entries))

  name-tasks : (x y : Thing) (w : Word) (c d : Scope) → is_single (Some x) ≡ false → HasTasks c d → HasTasks (with_name x c w) (with_name y d w)
  name-tasks x y w c d n t id entries o e = by_test (w.name.0 == id.0) (meaning-more x c w id) (meaning-more y d w id)
    where
      by_test : (b : Bool) → meaning (with_name x c w) id ≡ (if b then Some x else meaning c id) →
          meaning (with_name y d w) id ≡ (if b then Some y else meaning d id) → meaning (with_name y d w) id ≡ Some (SingleTask (map (told_entry q) entries))
      by_test true f g = clash (sym n ∙ ap is_single (sym f ∙ e))
      by_test false f g = g ∙ t id entries o (sym f ∙ e)

  names-tasks : (x y : Thing) (ws : List Word) (c d : Scope) → is_single (Some x) ≡ false → HasTasks c d → HasTasks (with_names x c ws) (with_names y d ws)
  names-tasks x y [] c d n t = t
  names-tasks x y (w ∷ ws) c d n t = names-tasks x y ws (with_name x c w) (with_name y d w) n (name-tasks x y w c d n t)

  -- ---- objects

  -- an object that is the same, where it adds no constants
  pub grown-object : (c d : Scope) (ws : List Word) (constant : Bool) (shape : PShape) (init : Option PInit) →
      with_constants c ws init (declared_object c constant shape) ≡ (declared_object c constant shape).types →
      with_constants d ws init (declared_object d constant shape) ≡ (declared_object d constant shape).types →
      SameDeclared (declared_object c constant shape) (declared_object d constant shape) → IsGrown q old c d →
      IsGrown q old (after_object c ws constant shape init) (after_object d ws constant shape init)
  grown-object c d ws constant shape init e f same g =
      let x = declared_object c constant shape in
      let y = declared_object d constant shape in
      subst (λ T. IsGrown q old (with_names x.thing (with_types T c) ws) (after_object d ws constant shape init)) (sym e)
      (subst (λ T. IsGrown q old (with_names x.thing (with_types x.types c) ws) (with_names y.thing (with_types T d) ws)) (sym f)
      record {
        names =
            names-both old ws (with_types x.types c) (with_types y.types d) x.thing y.thing
            (tables-kept old c d x.types y.types g.names (keeps-shape c constant shape) (keeps-shape d constant shape)) same;
        main = names-main x.thing ws (with_types x.types c) ∙ g.main ∙ sym (names-main y.thing ws (with_types y.types d));
        tasks = names-tasks x.thing y.thing ws (with_types x.types c) (with_types y.types d) (declared-single c constant shape) g.tasks;
      })

  -- ---- tasks

  module _ (c d : Scope) (g : IsGrown q old c d) (integer : scalar_kind (marking d (record { 0 = 0 })) ≡ Some integer_kind) where
    formals-same : (fs : List PFormal) → AreOldFormals old fs → formal_parts d fs ≡ formal_parts c fs
    formals-same [] o = refl
    formals-same (f ∷ fs) o =
        ap₂ (λ (k : Option ℕ) (rest : List FormalPart). map (λ w. record { name = w.name; mode = f.mode; mark = f.mark.name; kind = k }) f.names ++ rest)
        (sym (mark-kind-same old c d g.names f.mark.name o.0)) (formals-same fs o.1)

    family-same : (o : Option PDrange) → IfSome o (IsOldDrange old) → entry_family d o ≡ entry_family c o
    family-same None i = refl
    family-same (Some x) i = ap family_of (sym (dranges_are_same old c d g.names x i).range)

    entry-told : (e : PEntry) → IsOldEntry old e → entry_part d (entry_telling (added_in (collect_names q)) e) ≡ told_entry q (entry_part c e)
    entry-told e o =
        ap₂ (λ x (y : List FormalPart). record { name = e.name.name; family = x; formals = y }) (family-same e.family o.family)
        (ap₂ (λ k (rest : List FormalPart). record { name = added_id q caller_text; mode = Take; mark = record { 0 = 0 }; kind = k } ∷ rest) integer (formals-same e.formals o.formals))

    entries-told : (es : List PEntry) → AllByRecursion (IsOldEntry old) es → map (entry_part d) (map (entry_telling (added_in (collect_names q))) es) ≡ map (told_entry q) (map (entry_part c) es)
    entries-told [] o = refl
    entries-told (e ∷ es) o = ap₂ (λ (x : EntryPart) xs. x ∷ xs) (entry-told e o.0) (entries-told es o.1)

    -- a single task, of which each entry has a formal more in the text
    pub grown-task : (t : PTask) (s : Span) → t.of_kind ≡ false → AllByRecursion (IsOldEntry old) t.entries →
        IsGrown q old (after_decl c (DTask t s)) (after_decl d (DTask (task_telling (added_in (collect_names q)) t) s))
    grown-task t s single o = record {
      names = name-both old c d x y t.name g.names (no_values (task-none t.of_kind es) (task-none t.of_kind es'));
      main = g.main;
      tasks = λ id entries p e. by_test id entries p (t.name.name.0 == id.0) (meaning-more x c t.name id) (meaning-more y d t.name id) e;
    }
      where
        es : List EntryPart
        es = map (entry_part c) t.entries

        es' : List EntryPart
        es' = map (entry_part d) (map (entry_telling (added_in (collect_names q))) t.entries)

        x : Thing
        x = task_thing t.of_kind es

        y : Thing
        y = task_thing t.of_kind es'

        there : (entries : List EntryPart) → Some x ≡ Some (SingleTask entries) → Some y ≡ Some (SingleTask (map (told_entry q) entries))
        there entries e =
            let same : es ≡ entries = ap own_entries (sym (ap (λ b. Some (task_thing b es)) single) ∙ e) in
            ap (λ b. Some (task_thing b es')) single ∙ ap (λ l. Some (SingleTask l)) (entries-told t.entries o ∙ ap (map (told_entry q)) same)

        by_test : (id : NameId) (entries : List EntryPart) → old id.0 ≡ true → (b : Bool) → meaning (with_name x c t.name) id ≡ (if b then Some x else meaning c id) →
            meaning (with_name y d t.name) id ≡ (if b then Some y else meaning d id) →
            meaning (with_name x c t.name) id ≡ Some (SingleTask entries) → meaning (with_name y d t.name) id ≡ Some (SingleTask (map (told_entry q) entries))
        by_test id entries p true f h e = h ∙ there entries (sym f ∙ e)
        by_test id entries p false f h e = h ∙ g.tasks id entries p (sym f ∙ e)

  -- ---- bodies

  pub grown-body : (w : Word) (objects objects' : PDecls) (its its' : PBody) (s s' : Span) (c d : Scope) → IsGrown q old c d →
      IsGrown q old (after_decl c (DTaskBody w objects its s)) (after_decl d (DTaskBody w objects' its' s'))
  grown-body w objects objects' its its' s s' c d g =
      let n = tables-kept old c d _ _ g.names (keeps-objects objects (in_body c w) refl) (keeps-objects objects' (in_body d w) refl) in
      record { names = record { types = n.types; things = n.things }; main = g.main; tasks = g.tasks }

  pub grown-in-body : (w : Word) (c d : Scope) → IsGrown q old c d → IsGrown q old (in_body c w) (in_body d w)
  grown-in-body w c d g = record { names = record { types = g.names.types; things = g.names.things }; main = refl; tasks = g.tasks }

  pub grown-inside : (c d : Scope) → IsGrown q old c d → IsGrown q old (inner_scope c) (inner_scope d)
  grown-inside c d g = record { names = record { types = g.names.types; things = g.names.things }; main = g.main; tasks = g.tasks }
