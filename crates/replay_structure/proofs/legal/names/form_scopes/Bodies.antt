-- The scopes of the bodies of the normal form of a legal program, one behind the other.
use Rattle.std.proofs.Common.{◌≡◌, ℕ, Bool, false, List, [], ◌∷◌, Some, refl, subst, ◌∙◌, arith}
use Rattle.std.specs.List.{AllByRecursion}
use Rattle.common_lemmas.proofs.Lists.{all_front}
use Rattle.ada_tree.specs.declared.naming.NameId.{NameId}
use Rattle.ada_tree.specs.declared.naming.Span.{Span}
use Rattle.ada_tree.specs.declared.naming.Word.{Word}
use Rattle.ada_tree.specs.Attributes.{false_name}
use Rattle.ada_tree.specs.PlainStmt.{PBody}
use Rattle.ada_tree.specs.PlainDecl.{PDecl, DObject, DTaskBody, PDecls, decls_of}
use Rattle.ada_tree.specs.PlainProgram.{PProgram}
use Rattle.ada_static_rules.specs.Scope.{Scope, truth_kind, Literal, meaning}
use Rattle.ada_static_rules.specs.Declaring.{in_body, inner_scope, after_own_object, after_objects, after_decl, after_decls}
use Rattle.ada_static_rules.specs.Sites.{own_sites, body_sites}
use Rattle.syn_event.specs.DeclaredTasks.{decl_list}
use Rattle.syn_event.proofs.DeclLists.{list_again}
use Rattle.task_laws.specs.legal.rewritten_types.Agreement.{Keeps}
use Rattle.task_laws.specs.legal.rewritten_types.Rewriting.{IsAdded}
use Rattle.task_laws.proofs.legal.rewritten_types.Keeping.{keeps-self}
use Rattle.task_laws.proofs.legal.rewritten_types.Adding.{keeps-objects}
use Rattle.normal_laws.specs.runs.forms.Normalisable.{made_for}
use Rattle.normal_laws.specs.existence.Laws.{IsLegalOriginal}
use Rattle.normal_laws.proofs.legality.scopes.Main.{tasked}
use Rattle.task_laws.specs.legal.alike_scopes.Alike.{SameNames, Alike}
use Rattle.task_laws.specs.legal.alike_scopes.Old.{IsOldObject}
use Rattle.task_laws.specs.legal.alike_scopes.Laws.{IsMetBut}
use Rattle.task_laws.proofs.legal.alike_scopes.Inner.{own-object-alike, own-object-main}
use Rattle.replay_structure.specs.scopes.More.{IsReady}
use Rattle.replay_structure.specs.scopes.Names.{old_name}
use Rattle.replay_structure.specs.scopes.Form.{IsOwnObject, SelfAlong, AllAlong}
use Rattle.replay_structure.proofs.scopes.Names.{permits-new}
use Rattle.replay_structure.proofs.scopes.Permit.{only, objects-means}
use Rattle.replay_structure.proofs.scopes.Ready.{integer_id, integer-step, ready-objects}
use Rattle.replay_structure.specs.legal.names.inner.Scoped.{HasOwns, IsUnitScoped, IsBodyScoped, BodiesScoped}
use Rattle.replay_structure.proofs.legal.names.form_scopes.Selves.{IsSelf, self-names, self-body}
use Rattle.replay_structure.proofs.legal.names.form_scopes.Language.{KnowsLanguage, language-same, tasked-language}
use Rattle.replay_structure.proofs.legal.names.form_scopes.Values.{ready-on}
use Rattle.replay_structure.proofs.legal.names.form_scopes.Told.{IsOtherObject, IsTold, IsToldBody}

-- ---- objects

module _ (old : ℕ → Bool) where
  own-old : (x : PDecl) → IsOwnObject old x → IsOldObject old x
  own-old (DObject ws constant shape init s) o = o.1
  own-old _ o = tt

  -- an object of the language's own names is no object of a body
  own-other : (k : ℕ) (x : PDecl) → IsOwnObject old x → IsOtherObject k x → IsAdded (only (record { 0 = k })) x
  own-other k (DObject ws constant shape init s) o n = n
  own-other k _ o n = absurd o

  own-others : (k : ℕ) (xs : List PDecl) → AllByRecursion (IsOwnObject old) xs → AllByRecursion (IsOtherObject k) xs → AllByRecursion (IsAdded (only (record { 0 = k }))) xs
  own-others k [] o n = tt
  own-others k (x ∷ xs) o n = (own-other k x o.0 n.0, own-others k xs o.1 n.1)

  -- in front of each object, and behind them all, old names mean what they themselves do
  self-objects : (xs : List PDecl) (c : Scope) → c.in_main ≡ false → AllByRecursion (IsOwnObject old) xs → Alike old c c → SelfAlong old c xs × Alike old (after_objects c (decls_of xs)) (after_objects c (decls_of xs))
  self-objects [] c main o a = (tt, a)
  self-objects (x ∷ xs) c main o a =
      let r = self-objects xs (after_own_object c x) (own-object-main old x c ∙ main) o.1 (own-object-alike old x c c a main (own-old x o.0)) in
      ((a.names, r.0), r.1)

-- ---- bodies

module _ (p : PProgram) (legal : IsLegalOriginal p) where
  abbrev q : PProgram
  q = made_for p

  abbrev old : ℕ → Bool
  old = old_name q

  -- What is told of a scope behind the tasks and some bodies.
  pub record IsBehindTasks (c : Scope) : Type 0 where
    pub self : IsSelf c
    pub ready : IsReady q old c
    pub means : (id : NameId) → meaning c id ≡ meaning (tasked p legal) id

  pub knows-language : (c : Scope) → IsBehindTasks c → KnowsLanguage c
  knows-language c b = language-same (tasked p legal) c b.means (tasked-language p legal)

  -- a body keeps it so
  behind-body : (w : Word) (objects : PDecls) (its : PBody) (s : Span) (c : Scope) → IsBehindTasks c → IsBehindTasks (after_decl c (DTaskBody w objects its s))
  behind-body w objects its s c b = record {
    self = self-body w objects its s c b.self;
    ready = ready-on q old c (after_decl c (DTaskBody w objects its s)) (integer-step c (after_decl c (DTaskBody w objects its s)) refl (keeps integer_id) b.ready.integer) keeps b.ready;
    means = b.means;
  }
    where
      keeps : (id : NameId) → Keeps (only id) c.types (after_objects (in_body c w) objects).types
      keeps id = keeps-objects objects (in_body c w) refl

  module _ (c : Scope) (b : IsBehindTasks c) (w : Word) (objects : PDecls) (told : IsTold p legal w objects) (owns : AllByRecursion (IsOwnObject old) (decl_list objects)) where
    abbrev decls : List PDecl
    decls = decl_list objects

    abbrev d : Scope
    d = in_body c w

    names : SameNames old c c
    names = self-names old c b.self

    ready-in : IsReady q old d
    ready-in = ready-on q old c d (integer-step c d refl (keeps-self c.types) b.ready.integer) (λ id. keeps-self c.types) b.ready

    selfs : SelfAlong old d decls × Alike old (after_objects d (decls_of decls)) (after_objects d (decls_of decls))
    selfs = self-objects old decls d refl owns record { names = record { types = names.types; things = names.things }; own = λ id o. refl; main = refl }

    falses : meaning (after_objects d (decls_of decls)) (record { 0 = false_name }) ≡ Some (Literal truth_kind)
    falses = objects-means (record { 0 = false_name }) decls d (own-others old 4 decls owns (told.others 4 (omega arith))) ∙ (knows-language c b).falses

    unit : IsUnitScoped old (inner_scope (after_objects d (decls_of decls)))
    unit = record { self = record { types = selfs.1.names.types; things = selfs.1.names.things }; falses = falses }

    body-scoped : AllByRecursion IsMetBut (own_sites d objects) → IsBodyScoped q old c w objects
    body-scoped sites = record {
      entries = told.single.0;
      means = b.means w.name ∙ told.single.1;
      ready = ready-objects q old (permits-new q) decls d refl owns (own-others old 0 decls owns (told.others 0 (omega arith))) ready-in;
      selfs = selfs.0;
      sites = sites;
      unit = subst (λ ds. IsUnitScoped old (inner_scope (after_objects d ds))) (list_again objects) unit;
    }

  -- Where nothing is refused at the places of the bodies their scopes are as told, and behind them all it is so too.
  pub bodies-scoped : (xs : List PDecl) → AllByRecursion (IsToldBody p legal) xs → AllByRecursion (HasOwns old) xs → (c : Scope) → AllAlong c xs → IsBehindTasks c → BodiesScoped q old c xs × IsBehindTasks (after_decls c (decls_of xs))
  bodies-scoped [] t o c m b = (tt, b)
  bodies-scoped (DTaskBody w objects its s ∷ xs) t o c m b =
      let rest = bodies-scoped xs t.1 o.1 (after_decl c (DTaskBody w objects its s)) m.1 (behind-body w objects its s c b) in
      ((body-scoped c b w objects t.0 o.0 (all_front IsMetBut (own_sites (in_body c w) objects) (body_sites (inner_scope (after_objects (in_body c w) objects)) its) m.0.1), rest.0), rest.1)
  bodies-scoped (_ ∷ xs) t o c m b = absurd t.0
