-- What main declares in a collecting text, one behind the other: what is added, the variables, the tasks, and the recorder.
use Rattle.std.proofs.Common.{◌≡◌, ℕ, Bool, true, false, if◌then◌else◌, nat_lt, List, [], ◌∷◌, map, Option, Some, None, refl, sym, ap, ap₂, ◌∙◌, true≢false, ltb-true, inr}
use Rattle.std.specs.List.{AllByRecursion}
use Rattle.common_lemmas.proofs.Lists.{all_weaker}
use Rattle.common_lemmas.proofs.Numbers.{equal_self}
use Rattle.ada_tree.specs.declared.naming.NameId.{NameId}
use Rattle.ada_tree.specs.declared.naming.Span.{Span}
use Rattle.ada_tree.specs.declared.naming.Word.{Word}
use Rattle.ada_tree.specs.declared.statements.ParMode.TheVariants.{Take, Give}
use Rattle.ada_tree.specs.PlainDecl.{OPlain, PEntry, PDecl, DObject, DIntIo, DTask, decls_of}
use Rattle.ada_tree.specs.PlainProgram.{PProgram}
use Rattle.ada_static_rules.specs.Scope.{Scope, Thing, FormalPart, single, SingleTask, meaning, scalar_kind}
use Rattle.ada_static_rules.specs.StaticValue.{value_named}
use Rattle.ada_static_rules.specs.Declaring.{add_constants, constant_mark, constant_value, with_constants, Declared, declared_object, entry_part, after_decl, after_decls}
use Rattle.ada_static_rules.specs.RuleDuplicate.{is_predefined}
use Rattle.ada_static_rules.specs.Sites.{decl_sites}
use Rattle.task_model.specs.Setting.{Setting}
use Rattle.task_laws.specs.legal.rewritten_types.Agreement.{Keeps}
use Rattle.task_laws.proofs.legal.rewritten_types.Adding.{keeps-shape, keeps-decl}
use Rattle.task_laws.proofs.legal.rewritten_types.Keeping.{keeps-self}
use Rattle.task_laws.specs.legal.alike_scopes.Alike.{SameTypes}
use Rattle.task_laws.proofs.legal.alike_scopes.Naming.{tables-kept}
use Rattle.task_laws.proofs.legal.alike_scopes.Tables.{value-kept}
use Rattle.normal_model.specs.Ranges.{word_at}
use Rattle.normal_model.specs.NormalTree.{main_unit}
use Rattle.normal_laws.proofs.structure.typed.Declared.{thing-init}
use Rattle.normal_laws.proofs.structure.typed.Scopes.{meaning-more}
use Rattle.normal_laws.proofs.structure.typed.Variables.{AllMetBut}
use Rattle.replay_structure.specs.scopes.Form.{IsVariableOf, AllAlong}
use Rattle.replay_structure.proofs.scopes.Permit.{only}
use Rattle.collect_model.specs.declared.AddedNames.{AddedNames}
use Rattle.collect_model.specs.Names.{int_io_text, flags_text, answer_text, part_text, recorder_text, note_text, kind_text, subject_text, argument_text, index_text, owner_text, reply_text}
use Rattle.collect_model.specs.Teller.{Teller, teller_in}
use Rattle.collect_model.specs.Recording.{note_formals, recorder_declared}
use Rattle.collect_model.specs.CollectTree.{flags_type, answer_declared, part_declared, main_declared, collect_decl}
use Rattle.collect_structure.specs.Names.{added_id}
use Rattle.collect_structure.specs.typed.Told.{AreOuter}
use Rattle.collect_structure.specs.scopes.Language.{KnowsLanguage, note_entry}
use Rattle.collect_structure.specs.scopes.Grown.{IsGrown}
use Rattle.collect_structure.specs.scopes.Form.{AreNamesNew, SeesNoType, IsVariableTold, IsTaskTold}
use Rattle.collect_structure.proofs.declares_once.Ids.{texts-apart}
use Rattle.collect_structure.proofs.scopes.Language.{IsOther, IsApart, decl-means, language-decl, predefined-known, integer-kind}
use Rattle.collect_structure.proofs.scopes.Grown.{grown-decl, grown-object, grown-task}
use Rattle.collect_structure.proofs.scopes.Objects.{object-stays}
use Rattle.collect_structure.proofs.scopes.Tasks.{task-met}
use Rattle.collect_structure.proofs.scopes.Types.{no-task, decl-no-type, variable-same}
use Rattle.collect_structure.proofs.scopes.Unit.{HasUnit, unit-step}
use Rattle.collect_structure.proofs.typed.Truths.{truth-marked}
use Rattle.collect_structure.proofs.scopes.Inner.{n, old-other, both-grown, both-language, both-variables}
use Rattle.collect_structure.proofs.scopes.Bodies.{IsBefore}

module _ (g : Setting) (old inner : ℕ → Bool) (new : AreNamesNew g old) (outer : AreOuter g.program inner) where
  abbrev q : PProgram
  q = g.program

  abbrev told : Teller
  told = teller_in (main_unit g)

  abbrev N : AddedNames
  N = n g old new

  abbrev answer_id : NameId
  answer_id = added_id q answer_text

  abbrev part_id : NameId
  part_id = added_id q part_text

  -- ---- names

  -- no name that the text adds is a predefined one
  added-new : (id : NameId) → old id.0 ≡ false → is_predefined id.0 ≡ false
  added-new id e = by_test (nat_lt id.0 18) refl
    where
      by_test : (b : Bool) → nat_lt id.0 18 ≡ b → b ≡ false
      by_test false f = refl
      by_test true f = absurd (true≢false (sym (new.language id.0 (ltb-true id.0 18 f)) ∙ e))

  -- the variables have other names, and so have the tasks
  variable-apart : (id : NameId) → old id.0 ≡ false → (x : PDecl) → IsVariableOf old x → IsApart id x
  variable-apart id e (DObject ws false (OPlain y) None s) o = all_weaker (λ (w : Word). old w.name.0 ≡ true) (IsOther id) ws (old-other g old new id e) o.0
  variable-apart id e x o = absurd o

  task-apart : (id : NameId) → old id.0 ≡ false → (x : PDecl) → IsTaskTold old x → IsApart id (collect_decl told q.names x)
  task-apart id e (DTask t s) o = (old-other g old new id e t.name o.2.0, tt)
  task-apart id e x o = absurd o

  -- ---- what is added in front of the variables

  -- In front of DED_G: the language is known, DED_G and DED_W have no value, and no task type is seen.
  pub record IsFront (c d : Scope) : Type 0 where
    pub grown : IsGrown q old c d
    pub language : KnowsLanguage d
    pub no_types : SeesNoType d
    pub answer : value_named d.types answer_id ≡ None
    pub part : value_named d.types part_id ≡ None

  -- Behind DED_W: the two variables are seen too.
  pub record IsMain (c d : Scope) : Type 0 where
    pub grown : IsGrown q old c d
    pub language : KnowsLanguage d
    pub left : SeesNoType c
    pub right : SeesNoType d
    pub variables : HasUnit q d

  module _ (s : Span) (last : ℕ) where
    front-int_io : (c d : Scope) → IsFront c d → IsFront c (after_decl d (DIntIo (word_at s N.int_io) s))
    front-int_io c d f =
        let x : PDecl = DIntIo (word_at s N.int_io) s in
        record {
          grown = grown-decl q old x c d tt (new.added int_io_text refl refl, tt) refl f.grown;
          language = language-decl x d (added-new N.int_io (new.added int_io_text refl refl), tt) f.language;
          no_types = decl-no-type x d tt f.no_types;
          answer = f.answer;
          part = f.part;
        }

    front-flags : (c d : Scope) → IsFront c d → IsFront c (after_decl d (flags_type N s last))
    front-flags c d f =
        let x : PDecl = flags_type N s last in
        record {
          grown = grown-decl q old x c d (new.added flags_text refl refl) (new.added flags_text refl refl, tt) refl f.grown;
          language = language-decl x d (added-new N.flags (new.added flags_text refl refl), tt) f.language;
          no_types = decl-no-type x d tt f.no_types;
          answer = value-kept (only answer_id) d.types (after_decl d x).types (keeps-decl x d (texts-apart q flags_text answer_text refl refl refl refl)) answer_id (equal_self answer_id.0) ∙ f.answer;
          part = value-kept (only part_id) d.types (after_decl d x).types (keeps-decl x d (texts-apart q flags_text part_text refl refl refl refl)) part_id (equal_self part_id.0) ∙ f.part;
        }

    front-unit : (c d : Scope) → SeesNoType c → IsFront c d → IsMain c (after_decl (after_decl d (answer_declared N s)) (part_declared N s))
    front-unit c d left f = record {
      grown = both-grown g old new d f.language s c f.grown;
      language = both-language g old new d f.language s;
      left = left;
      right = decl-no-type (part_declared N s) (after_decl d (answer_declared N s)) tt (decl-no-type (answer_declared N s) d tt f.no_types);
      variables = both-variables g old new d f.language s f.answer f.part;
    }

    pub front-more : (instance : Bool) (c d : Scope) → SeesNoType c → IsFront c d → IsMain c (after_decls d (decls_of (main_declared N s instance last)))
    front-more true c d left f = front-unit c (after_decl d (flags_type N s last)) left (front-flags c d f)
    front-more false c d left f =
        let d' : Scope = after_decl d (DIntIo (word_at s N.int_io) s) in
        front-unit c (after_decl d' (flags_type N s last)) left (front-flags c d' (front-int_io c d f))

  -- ---- variables

  no-initial : (s : Scope) (ws : List Word) (x : Declared) → with_constants s ws None x ≡ x.types
  no-initial s ws x = by_main s.in_main (constant_mark x.thing)
    where
      by_main : (b : Bool) (m : Option ℕ) → (if b then add_constants ws m (constant_value s x.types m None) x.types else x.types) ≡ x.types
      by_main false m = refl
      by_main true None = refl
      by_main true (Some m) = refl

  variable-added : (id : NameId) (x : PDecl) (d : Scope) → IsVariableOf old x → old id.0 ≡ false → Keeps (only id) d.types (after_decl d x).types
  variable-added id (DObject ws false (OPlain y) None s) d o e = keeps-decl (DObject ws false (OPlain y) None s) d (variable-apart id e (DObject ws false (OPlain y) None s) o)
  variable-added id x d o e = absurd o

  variable-grown : (x : PDecl) (c d : Scope) → IsVariableOf old x → IsMain c d → IsGrown q old (after_decl c x) (after_decl d x)
  variable-grown (DObject ws false (OPlain y) None s) c d o i =
      grown-object q old c d ws false (OPlain y) None (no-initial c ws (declared_object c false (OPlain y))) (no-initial d ws (declared_object d false (OPlain y)))
      (variable-same old c d i.grown.names i.left i.right y o.1) i.grown
  variable-grown x c d o i = absurd o

  variable-no-type : (x : PDecl) (c : Scope) → IsVariableOf old x → SeesNoType c → SeesNoType (after_decl c x)
  variable-no-type (DObject ws false (OPlain y) None s) c o h = decl-no-type (DObject ws false (OPlain y) None s) c tt h
  variable-no-type x c o h = absurd o

  variable-step : (x : PDecl) (c d : Scope) → IsVariableTold old q.names x → IsMain c d → IsMain (after_decl c x) (after_decl d x)
  variable-step x c d v i = record {
    grown = variable-grown x c d v.variable i;
    language = language-decl x d v.new i.language;
    left = variable-no-type x c v.variable i.left;
    right = variable-no-type x d v.variable i.right;
    variables = unit-step q d (after_decl d x) (decl-means answer_id x d (variable-apart answer_id answer_new x v.variable)) (decl-means part_id x d (variable-apart part_id part_new x v.variable))
        (variable-added answer_id x d v.variable answer_new) (variable-added part_id x d v.variable part_new) i.variables;
  }
    where
      answer_new : old answer_id.0 ≡ false
      answer_new = new.added answer_text refl refl

      part_new : old part_id.0 ≡ false
      part_new = new.added part_text refl refl

  variable-met : (x : PDecl) (c d : Scope) → IsVariableOf old x → IsMain c d → AllMetBut (decl_sites c x) → AllMetBut (decl_sites d x)
  variable-met (DObject ws false (OPlain y) None s) c d o i m =
      let a : Declared = declared_object c false (OPlain y) in
      let b : Declared = declared_object d false (OPlain y) in
      let types : SameTypes old a.types b.types = (tables-kept old c d a.types b.types i.grown.names (keeps-shape c false (OPlain y)) (keeps-shape d false (OPlain y))).types in
      object-stays old c d i.grown.names i.grown.main ws false (OPlain y) None a b
      (thing-init a.types b.types (λ k h. (h.0, types.kinds k h.0 h.1)) a.thing b.thing (variable-same old c d i.grown.names i.left i.right y o.1)) o.1 tt
      (inr (no-task c.types (meaning c y.mark.name) (i.left y.mark.name))) m
  variable-met x c d o i m = absurd o

  pub variables-behind : (xs : List PDecl) (c d : Scope) → AllByRecursion (IsVariableTold old q.names) xs → IsMain c d → IsMain (after_decls c (decls_of xs)) (after_decls d (decls_of xs))
  variables-behind [] c d v i = i
  variables-behind (x ∷ xs) c d v i = variables-behind xs (after_decl c x) (after_decl d x) v.1 (variable-step x c d v.0 i)

  pub variables-met : (xs : List PDecl) (c d : Scope) → AllByRecursion (IsVariableTold old q.names) xs → IsMain c d → AllAlong c xs → AllAlong d xs
  variables-met [] c d v i m = tt
  variables-met (x ∷ xs) c d v i m = (variable-met x c d v.0.variable i m.0, variables-met xs (after_decl c x) (after_decl d x) v.1 (variable-step x c d v.0 i) m.1)

  -- ---- tasks

  task-step : (x : PDecl) (c d : Scope) → IsTaskTold old x → IsMain c d → IsMain (after_decl c x) (after_decl d (collect_decl told q.names x))
  task-step (DTask t s) c d o i =
      let x : PDecl = collect_decl told q.names (DTask t s) in
      record {
        grown = grown-task q old c d i.grown (integer-kind d i.language) t s o.0 o.1;
        language = language-decl x d (o.3, tt) i.language;
        left = decl-no-type (DTask t s) c o.0 i.left;
        right = decl-no-type x d o.0 i.right;
        variables =
            unit-step q d (after_decl d x) (decl-means answer_id x d (task-apart answer_id (new.added answer_text refl refl) (DTask t s) o))
            (decl-means part_id x d (task-apart part_id (new.added part_text refl refl) (DTask t s) o))
            (keeps-self d.types) (keeps-self d.types) i.variables;
      }
  task-step x c d o i = absurd o

  task-site : (x : PDecl) (c d : Scope) → IsTaskTold old x → IsMain c d → AllMetBut (decl_sites c x) → AllMetBut (decl_sites d (collect_decl told q.names x))
  task-site (DTask t s) c d o i m = task-met N old c d i.grown.names (predefined-known d i.language).integer.its t s o.2 m
  task-site x c d o i m = absurd o

  pub tasks-behind : (xs : List PDecl) (c d : Scope) → AllByRecursion (IsTaskTold old) xs → IsMain c d →
      IsMain (after_decls c (decls_of xs)) (after_decls d (decls_of (map (collect_decl told q.names) xs)))
  tasks-behind [] c d o i = i
  tasks-behind (x ∷ xs) c d o i = tasks-behind xs (after_decl c x) (after_decl d (collect_decl told q.names x)) o.1 (task-step x c d o.0 i)

  pub tasks-met : (xs : List PDecl) (c d : Scope) → AllByRecursion (IsTaskTold old) xs → IsMain c d → AllAlong c xs → AllAlong d (map (collect_decl told q.names) xs)
  tasks-met [] c d o i m = tt
  tasks-met (x ∷ xs) c d o i m = (task-site x c d o.0 i m.0, tasks-met xs (after_decl c x) (after_decl d (collect_decl told q.names x)) o.1 (task-step x c d o.0 i) m.1)

  -- ---- the recorder's declaration

  module _ (s : Span) (c d : Scope) (i : IsMain c d) where
    abbrev recorder : PDecl
    recorder = recorder_declared N s

    -- Behind it all is known that bodies ask.
    pub recorder-behind : IsBefore g old inner new outer c (after_decl d recorder)
    recorder-behind = record {
      grown = grown-decl q old recorder c d tt (new.added recorder_text refl refl, tt) refl i.grown;
      language = language-decl recorder d (added-new (added_id q recorder_text) (new.added recorder_text refl refl), tt) i.language;
      recorder =
          meaning-more thing d w (added_id q recorder_text) ∙ ap (λ b. if b then Some thing else meaning d (added_id q recorder_text))
          (equal_self (added_id q recorder_text).0) ∙ ap (λ e. Some (SingleTask (e ∷ []))) entry-is;
      variables =
          unit-step q d (after_decl d recorder) (decl-means answer_id recorder d (texts-apart q recorder_text answer_text refl refl refl refl, tt))
          (decl-means part_id recorder d (texts-apart q recorder_text part_text refl refl refl refl, tt))
          (keeps-self d.types) (keeps-self d.types) i.variables;
    }
      where
        w : Word
        w = word_at s (added_id q recorder_text)

        note : PEntry
        note = record { name = word_at s N.note; family = None; formals = note_formals N s; span = s }

        thing : Thing
        thing = SingleTask (entry_part d note ∷ [])

        -- INTEGER and BOOLEAN are the marks of its formals
        entry-is : entry_part d note ≡ note_entry q
        entry-is =
            ap₂ (λ i b. record { name = added_id q note_text; family = single; formals = formals_of i b }) (integer-kind d i.language)
            (ap scalar_kind (truth-marked d (predefined-known d i.language).truth))
          where
            number_of : Option ℕ → List ℕ → FormalPart
            number_of k t = record { name = added_id q t; mode = Take; mark = record { 0 = 0 }; kind = k }

            formals_of : Option ℕ → Option ℕ → List FormalPart
            formals_of i b =
                number_of i kind_text ∷ number_of i subject_text ∷ number_of i argument_text ∷ number_of i index_text ∷ number_of i owner_text
                ∷ record { name = added_id q reply_text; mode = Give; mark = record { 0 = 3 }; kind = b } ∷ []

  -- ---- other names

  pub variables-apart : (id : NameId) → old id.0 ≡ false → (xs : List PDecl) → AllByRecursion (IsVariableTold old q.names) xs → AllByRecursion (IsApart id) xs
  variables-apart id e [] v = tt
  variables-apart id e (x ∷ xs) v = (variable-apart id e x v.0.variable, variables-apart id e xs v.1)

  pub tasks-apart : (id : NameId) → old id.0 ≡ false → (xs : List PDecl) → AllByRecursion (IsTaskTold old) xs → AllByRecursion (IsApart id) (map (collect_decl told q.names) xs)
  tasks-apart id e [] o = tt
  tasks-apart id e (x ∷ xs) o = (task-apart id e x o.0, tasks-apart id e xs o.1)
