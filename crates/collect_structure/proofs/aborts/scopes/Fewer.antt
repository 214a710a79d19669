-- The normal form of each legal program is as its collecting text asks, with the names that stay what they are in a text with abort statements.
use Rattle.std.proofs.Common.{Bool, IfSome, List, None, Option, Some, [], ap, arith, false, filter, flat_map, not, subst, sym, true, ℕ, ◌&&◌, ◌∷◌, ◌≡◌}
use Rattle.std.specs.List.{AllByRecursion}
use Rattle.std.proofs.lemmas.List.Elements.{recursion_from_All}
use Rattle.common_lemmas.proofs.Lists.{all_back, all_kept, all_paired, all_weaker}
use Rattle.common_lemmas.proofs.Truth.{and_left}
use Rattle.ada_tree.specs.Every.{EveryDecl, EveryDrange, EveryEntry, EveryFormal, EveryProgram}
use Rattle.ada_tree.specs.PlainDecl.{DTask, DTaskBody, PDecl, PEntry}
use Rattle.ada_tree.specs.PlainExpr.{PDrange}
use Rattle.ada_tree.specs.PlainProgram.{PProgram}
use Rattle.ada_tree.specs.TypeTable.{TypeTable}
use Rattle.ada_tree.specs.WellPlaced.{well_placed}
use Rattle.ada_static_rules.specs.Declaring.{after_decl, after_objects, in_body, inner_scope}
use Rattle.ada_static_rules.specs.Refusals.{types_in}
use Rattle.ada_static_rules.specs.Scope.{Scope}
use Rattle.syn_event.proofs.DeclLists.{every_listed}
use Rattle.syn_event.specs.DeclaredTasks.{decl_list, text_of}
use Rattle.task_model.specs.Setting.{Setting}
use Rattle.task_laws.specs.legal.alike_scopes.Old.{IsOldDrange}
use Rattle.task_laws.specs.legal.asked.Asked.{AskedBody}
use Rattle.normal_model.specs.NormalTree.{bodies_of, first_decls, main_unit, main_variables}
use Rattle.normal_laws.proofs.legality.checks.Facts as facts
use Rattle.normal_laws.proofs.legality.variables_marked.Static.{names-fewer}
use Rattle.normal_laws.proofs.structure.numbers.Listed.{IsOneBody, bodies-all}
use Rattle.normal_laws.proofs.structure.typed.Stays.{old-drange, old-formals}
use Rattle.normal_laws.proofs.structure.types.Variables.{unit-all}
use Rattle.normal_laws.specs.existence.Laws.{IsLegalOriginal}
use Rattle.normal_laws.specs.runs.forms.Normalisable.{made_for, numbers_of, setting_for}
use Rattle.normal_laws.specs.structure.checked.Around.{own_rules}
use Rattle.replay_model.specs.ReplayTree.{is_body, is_task}
use Rattle.replay_structure.proofs.texts.Listed.{normal-bodies}
use Rattle.replay_structure.specs.checkable.Prepared.{form_for}
use Rattle.replay_structure.specs.scopes.Form.{BodyForms, IsOldEntry, IsVariableOf, last, tasked}
use Rattle.replay_structure.specs.scopes.Names.{old_name}
use Rattle.replay_structure.proofs.legal.names.form_names.Decls.{body-of, variable-of}
use Rattle.replay_structure.proofs.legal.names.form_names.TypeNames.{kinds-own}
use Rattle.replay_structure.specs.legal.names.form_names.Laws.{IsNamedBody}
use Rattle.replay_structure.specs.legal.names.form_units.Inner.{inner_name}
use Rattle.replay_structure.proofs.legal.Kept.{first-kept}
use Rattle.replay_structure.proofs.legal.Keeping.{IsKeeping}
use Rattle.collect_structure.proofs.legal.Asked.{told-asked}
use Rattle.collect_structure.proofs.legal.Free.{HasFree, bodies-free, main-free}
use Rattle.collect_structure.proofs.legal.Indices.{HasOuterIndices, bodies-indices, main-indices}
use Rattle.collect_structure.proofs.scopes.Whole.{legal_is_tellable}
use Rattle.collect_structure.specs.Names as collect
use Rattle.collect_structure.specs.scopes.Form.{AreNamesNew, BodiesTold, IsTaskTold, IsTellable, IsVariableTold}
use Rattle.collect_structure.specs.scopes.Inner.{inner_told}
use Rattle.collect_structure.specs.typed.Told.{told_asks}
use Rattle.collect_structure.proofs.aborts.scopes.Names.{kept-keeping}
use Rattle.collect_structure.proofs.aborts.scopes.Owned.{all-owned}
use Rattle.collect_structure.specs.aborts.Names.{is_further, kept_name}
use Rattle.collect_structure.proofs.legal.Bodies.{formed}

-- ---- tasks

module _ (old : ℕ → Bool) where
  entry-old : (e : PEntry) → EveryEntry (own_rules old) e → IsOldEntry old e
  entry-old e h = record { family = by_family e.family h.2; formals = old-formals old e.formals (recursion_from_All (EveryFormal (own_rules old)) e.formals h.3) }
    where
      by_family : (o : Option PDrange) → IfSome o (EveryDrange (own_rules old) 2) → IfSome o (IsOldDrange old)
      by_family None i = tt
      by_family (Some x) i = old-drange old 2 x i

  entries-old : (es : List PEntry) → AllByRecursion (EveryEntry (own_rules old)) es → AllByRecursion (IsOldEntry old) es
  entries-old [] h = tt
  entries-old (e ∷ es) h = (entry-old e h.0, entries-old es h.1)

  -- a task of more names is one of these
  task-fewer : (more : ℕ → Bool) (d : PDecl) → IsTaskTold more d → EveryDecl (own_rules old) d → IsTaskTold old d
  task-fewer more (DTask t s) told h = (told.0, entries-old t.entries (recursion_from_All (EveryEntry (own_rules old)) t.entries h.1.1), h.1, told.3)
  task-fewer more _ told h = absurd told

module _ (p : PProgram) (h : IsLegalOriginal p) where
  abbrev F : Setting
  F = form_for p

  abbrev q : PProgram
  q = made_for p

  abbrev kept : ℕ → Bool
  kept = kept_name q

  abbrev T : TypeTable
  T = types_in p

  abbrev before : List PDecl
  before = decl_list (first_decls [] p.decls)

  abbrev vars : List PDecl
  vars = main_variables (setting_for p)

  abbrev bodies : List PDecl
  bodies = filter is_body (decl_list q.decls)

  -- with all names that stay in a text without aborts
  plain : IsTellable F (collect.kept_name q) (inner_told p) before vars
  plain = legal_is_tellable p h

  fewer : (n : ℕ) → kept n ≡ true → collect.kept_name q n ≡ true
  fewer n e = and_left (collect.kept_name q n) _ e

  are : IsKeeping p kept
  are = kept-keeping p

  owned : EveryProgram (own_rules kept) q
  owned = all-owned p h kept are

  abbrev R : PDecl → Type 0
  R = EveryDecl (own_rules kept)

  every : AllByRecursion R (decl_list q.decls)
  every = every_listed (own_rules kept) q.decls owned.2

  -- ---- names

  unkept : (n : ℕ) → collect.kept_name q n ≡ false → kept n ≡ false
  unkept n e = ap (λ b. b && not (is_further (text_of q.names record { 0 = n }))) e

  names : AreNamesNew F kept
  names = record {
    added = λ t i j. unkept (collect.added_id q t).0 (plain.names.added t i j);
    language = λ k l. first-kept p h kept are k (omega (arith, l));
    kinds = λ j. are.old _ (kinds-own p h j);
  }

  -- ---- variables and tasks

  vars-every : AllByRecursion R vars
  vars-every = all_back R before vars (subst (AllByRecursion R) plain.plain (all_kept R _ (decl_list q.decls) every))

  variables : AllByRecursion (IsVariableTold kept q.names) vars
  variables =
      all_weaker (λ d. ((R d → IsVariableOf kept d) × R d) × IsVariableTold (collect.kept_name q) q.names d) (IsVariableTold kept q.names) vars
      (λ d k. record { variable = k.0.0 k.0.1; new = k.1.new; added = k.1.added })
      (all_paired (λ d. (R d → IsVariableOf kept d) × R d) (IsVariableTold (collect.kept_name q) q.names) vars
      (all_paired (λ d. R d → IsVariableOf kept d) R vars (unit-all (λ d. R d → IsVariableOf kept d) (main_unit (setting_for p)) (variable-of kept (setting_for p)) p.body) vars-every)
      plain.variables)

  tasks : AllByRecursion (IsTaskTold kept) (filter is_task (decl_list q.decls))
  tasks =
      all_weaker (λ d. IsTaskTold (collect.kept_name q) d × R d) (IsTaskTold kept) (filter is_task (decl_list q.decls)) (λ d k. task-fewer kept (collect.kept_name q) d k.0 k.1)
      (all_paired (IsTaskTold (collect.kept_name q)) R (filter is_task (decl_list q.decls)) plain.tasks (all_kept R is_task (decl_list q.decls) every))

  -- ---- statements

  main-asked : AskedBody (told_asks kept (inner_told p)) (tt, inner_scope (last q before vars)) 1 q.body
  main-asked = told-asked p kept (old_name q) (inner_scope (last q before vars)) q.body owned.3 (formed p h).asked (main-free p h (inner_scope (last q before vars))) (main-indices p h)

  abbrev Known : PDecl → Type 0
  Known d = IsNamedBody kept d × (HasFree T d × HasOuterIndices p d)

  abbrev Every : PDecl → Type 0
  Every d = R d × EveryDecl (well_placed q.names) d

  copies : bodies ≡ flat_map (bodies_of (setting_for p)) (decl_list p.decls)
  copies = normal-bodies p T (numbers_of p)

  named : AllByRecursion (IsNamedBody kept) bodies
  named =
      all_weaker (λ d. IsOneBody d × Every d) (IsNamedBody kept) bodies (λ d k. body-of kept q.names d k.0 k.1.0 k.1.1)
      (all_paired IsOneBody Every bodies (subst (AllByRecursion IsOneBody) (sym copies) (bodies-all (setting_for p)))
      (all_kept Every is_body (decl_list q.decls) (all_paired R (EveryDecl (well_placed q.names)) (decl_list q.decls) every (every_listed (well_placed q.names) q.decls (facts.placed p h).2))))

  known : AllByRecursion Known bodies
  known =
      all_paired (IsNamedBody kept) (λ d. HasFree T d × HasOuterIndices p d) bodies named
      (all_paired (HasFree T) (HasOuterIndices p) bodies (subst (AllByRecursion (HasFree T)) (sym copies) (bodies-free p h))
      (subst (AllByRecursion (HasOuterIndices p)) (sym copies) (bodies-indices p h)))

  bodies-told : (xs : List PDecl) (c : Scope) → BodiesTold F (collect.kept_name q) (inner_told p) c xs → BodyForms F (old_name q) (inner_name p) c xs → AllByRecursion Known xs →
      BodiesTold F kept (inner_told p) c xs
  bodies-told [] c t b k = tt
  bodies-told (DTaskBody w objects its s ∷ xs) c t b k =
      let d : Scope = inner_scope (after_objects (in_body c w) objects) in (
        record {
          entries = t.0.entries;
          means = t.0.means;
          named = k.0.0.named;
          owns = k.0.0.owns;
          inits = k.0.0.inits;
          new = t.0.new;
          sites = t.0.sites;
          has = t.0.has;
          asked = told-asked p kept (old_name q) d its k.0.0.every b.0.asked (k.0.1.0 d) k.0.1.1;
        },
        bodies-told xs (after_decl c (DTaskBody w objects its s)) t.1 b.1 k.1,
      )
  bodies-told (_ ∷ xs) c t b k = absurd t

  -- The normal form is as asked.
  pub legal_is_tellable_here : IsTellable F kept (inner_told p) before vars
  legal_is_tellable_here = record {
    names = names;
    outer = plain.outer;
    plain = plain.plain;
    front = plain.front;
    language = plain.language;
    self = names-fewer (collect.kept_name q) kept fewer _ _ plain.self;
    answer = plain.answer;
    part = plain.part;
    unseen = plain.unseen;
    no_types = plain.no_types;
    firsts_met = plain.firsts_met;
    variables = variables;
    variables_met = plain.variables_met;
    tasks = tasks;
    tasks_met = plain.tasks_met;
    bodies = bodies-told bodies (tasked q before vars) plain.bodies (formed p h).bodies known;
    has = plain.has;
    asked = main-asked;
  }
