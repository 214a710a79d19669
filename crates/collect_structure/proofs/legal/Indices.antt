-- No accept and no loop of a legal program declares a name in the index of an accept of its normal form: that is static, or a variable of the normal form.
use Rattle.std.proofs.Common.{Bool, IfSome, List, None, Option, Some, [], ap, false, flat_map, if◌then◌else◌, is_none, is_some, not, refl, subst, sym, true, true≢false, ℕ, ℤ, ◌&&◌, ◌∙◌, ◌≡◌}
use Rattle.std.specs.List.{AllByRecursion}
use Rattle.common_lemmas.proofs.Lists.{all_joined}
use Rattle.common_lemmas.proofs.Truth.{and_both, and_false}
use Rattle.ada_tree.specs.Attributes.{attribute_of, is_bound}
use Rattle.ada_tree.specs.PlainDecl.{DTaskBody, PDecl, PDecls, decl_then, no_decl}
use Rattle.ada_tree.specs.PlainExpr.{EAttribute, EAttributeOf, EBinary, EIndex, EInteger, EName, EParen, EUnary, PExpr}
use Rattle.ada_tree.specs.PlainProgram.{PProgram}
use Rattle.ada_tree.specs.PlainStmt.{PBody, PHead}
use Rattle.ada_tree.specs.declared.naming.NameId.{NameId}
use Rattle.ada_tree.specs.declared.naming.Span.{Span}
use Rattle.ada_tree.specs.declared.static_types.Mark.{Mark}
use Rattle.ada_static_rules.specs.Declaring.{after_decl, first_scope, own_entries}
use Rattle.ada_static_rules.specs.Refusals.{types_in}
use Rattle.ada_static_rules.specs.RuleDuplicate.{is_predefined}
use Rattle.ada_static_rules.specs.Scope.{Scope, meaning}
use Rattle.ada_static_rules.specs.StaticValue.{is_static, keeps_static, mark_named, value_named}
use Rattle.syn_event.specs.DeclaredTasks.{decl_list}
use Rattle.syn_event.specs.declared.numbering.TaskInfo.{TaskInfo}
use Rattle.task_laws.specs.legal.alike_scopes.Old.{IsOldExpr}
use Rattle.task_laws.specs.legal.asked.Asked.{AskedBody, Asks}
use Rattle.task_laws.specs.legal.asked.Kinds.{no_asks}
use Rattle.normal_model.proofs.VariablesLemmas.{Begins, begins-refl}
use Rattle.normal_model.specs.Making.{index_left, moving}
use Rattle.normal_model.specs.Names.{variable_name}
use Rattle.normal_model.specs.NormalStmts.{normal_body, unit_variables}
use Rattle.normal_model.specs.NormalTree.{bodies_of, main_variables, running, unit_for}
use Rattle.normal_model.specs.RewrittenUnit.{RewrittenUnit}
use Rattle.normal_model.specs.Waits.{head_left}
use Rattle.normal_laws.proofs.legality.asked.Bodies.{BodiesAsked, bodies-asked, body_asks, main-asked}
use Rattle.normal_laws.proofs.legality.scopes.Names.{variable-new}
use Rattle.normal_laws.proofs.legality.typed_declarations.Joined.{program-rules}
use Rattle.normal_laws.proofs.structure.asked.Walk.{body-keeps}
use Rattle.normal_laws.proofs.structure.types.Variables.{all-mapped}
use Rattle.normal_laws.specs.existence.Laws.{IsLegalOriginal}
use Rattle.normal_laws.specs.legality.scopes.Plain.{plain_name}
use Rattle.normal_laws.specs.runs.forms.Normalisable.{made_for, numbers_of, setting_for}
use Rattle.normal_laws.specs.structure.asked.Pieces.{Pieces}
use Rattle.collect_structure.specs.scopes.Inner.{inner_told}
use Rattle.replay_structure.specs.legal.names.form_units.Inner.{inner_name}

module _ (p : PProgram) where
  -- no name in the expression is such as accepts and loops declare
  abbrev IsOuterExpr : PExpr → Type 0
  IsOuterExpr e = IsOldExpr (λ n. not (inner_told p n)) e

  -- what is asked of the index of an accept, and of nothing else
  abbrev pub index_asks : Asks (Prim.Unit {0})
  index_asks = record no_asks { head = λ c k h. IfSome h.index IsOuterExpr }

  abbrev pub HasOuterIndices : PDecl → Type 0
  HasOuterIndices (DTaskBody w objects its s) = AskedBody index_asks tt 1 its
  HasOuterIndices _ = Prim.Unit {0}

  -- ---- names

  plain-fails : (n : ℕ) → plain_name p n ≡ false → inner_told p n ≡ false
  plain-fails n e = ap (λ b. (b && (not (is_predefined n) && is_none (mark_named (types_in p) record { 0 = n }))) && is_none (value_named (types_in p) record { 0 = n })) e

  -- a name with a static value
  valued-outer : (id : NameId) → is_some (value_named (types_in p) id) ≡ true → not (inner_told p id.0) ≡ true
  valued-outer id e = by_value (value_named (types_in p) id) e
    where
      by_value : (o : Option ℤ) → is_some o ≡ true → not (inner_name p id.0 && is_none o) ≡ true
      by_value (Some z) f = ap not (and_false (inner_name p id.0))
      by_value None f = absurd (true≢false (sym f))

  -- a name of a type or subtype
  marked-outer : (id : NameId) → is_some (mark_named (types_in p) id) ≡ true → not (inner_told p id.0) ≡ true
  marked-outer id e = by_mark (mark_named (types_in p) id) e
    where
      by_mark : (o : Option Mark) → is_some o ≡ true → not ((plain_name p id.0 && (not (is_predefined id.0) && is_none o)) && is_none (value_named (types_in p) id)) ≡ true
      by_mark (Some m) f = ap (λ b. not (b && is_none (value_named (types_in p) id))) (ap (λ b. plain_name p id.0 && b) (and_false (not (is_predefined id.0))) ∙ and_false (plain_name p id.0))
      by_mark None f = absurd (true≢false (sym f))

  static-outer : (e : PExpr) → is_static (types_in p) e ≡ true → IsOuterExpr e
  static-outer (EInteger n s) h = tt
  static-outer (EName id s) h = valued-outer id h
  static-outer (EIndex w e s) h = absurd (true≢false (sym h))
  static-outer (EAttribute m w s) h = marked-outer m.name (and_both (is_bound (attribute_of w.name)) (is_some (mark_named (types_in p) m.name)) h).1
  static-outer (EAttributeOf m w e s) h =
      let two = and_both (keeps_static (attribute_of w.name) && is_some (mark_named (types_in p) m.name)) (is_static (types_in p) e) h in
      (marked-outer m.name (and_both (keeps_static (attribute_of w.name)) (is_some (mark_named (types_in p) m.name)) two.0).1, static-outer e two.1)
  static-outer (EParen e s) h = static-outer e h
  static-outer (EUnary op e s) h = static-outer e h
  static-outer (EBinary op l r s) h = let two = and_both (is_static (types_in p) l) (is_static (types_in p) r) h in (static-outer l two.0, static-outer r two.1)

  -- an index that does not move is static
  stays-outer : (o : Option PExpr) → moving (types_in p) o ≡ None → IfSome o IsOuterExpr
  stays-outer None e = tt
  stays-outer (Some x) e = by_test (is_static (types_in p) x) refl e
    where
      by_test : (b : Bool) → is_static (types_in p) x ≡ b → (if b then None else Some x) ≡ None → IsOuterExpr x
      by_test true f g = static-outer x f
      by_test false f g = cc

  -- ---- pieces

  module _ (t : ℕ) (vs : List PDecl) {C : Type 0} (b : Asks C) where
    abbrev u : RewrittenUnit
    u = record { setting = setting_for p; task = t }

    moved-outer : (s : Span) (h : PHead) (e : PExpr) (j : ℕ) → moving (types_in p) h.index ≡ Some e → IfSome (head_left u s h j).index IsOuterExpr
    moved-outer s h e j f =
        subst (λ o. IfSome (index_left (setting_for p) s j o h.index) IsOuterExpr) (sym f) (ap not (plain-fails (variable_name (setting_for p) j).0 (variable-new (setting_for p) j)))

    index-pieces : Pieces u vs b index_asks (λ c d. Prim.Unit {0})
    index-pieces = record {
      outer = λ c d k n s rel h le. tt;
      many = λ n h. tt;
      some = λ n. tt;
      duration = λ n h. tt;
      plain = λ c d k x i rel h. tt;
      condition = λ c d k e rel h. tt;
      selector = λ c d k e xs others s rel h. tt;
      choices = λ c d k e xs rel h. tt;
      loop = λ c d k w x rel h. tt;
      looping = λ c d k w x rel h. tt;
      delay = λ c d k guard f s rel h. tt;
      handlers = λ hs t h. tt;
      handler = λ c d k names ws rel h. tt;
      handling = λ c d rel. tt;
      null = λ c d k n s rel h le. tt;
      program_error = λ c d k n s rel h le. tt;
      callee_index = λ c d k n s x e j rel h f v le. tt;
      target = λ c d k n x w rel h t le. tt;
      chooses = λ c d k n s x e j rel h f v le. tt;
      chosen = λ c d k n s x e j info rel h f v i le. tt;
      called = λ c d k n s x j w rel h i t v le. tt;
      family_index = λ c d k n s x e j rel h i f v le. tt;
      actual_before = λ c d k n s x slot e j rel h i pair f v le. tt;
      actual_behind = λ c d k n s x slot e id j rel h i pair f q v le. tt;
      flag = λ c d k n s part j rel h small v le. tt;
      flag_test = λ c d k n s j rel h v le. tt;
      aborted = λ c d k n xs w rel h le. tt;
      no_abort = λ c d k rel h. tt;
      head = λ c d k h rel i f. stays-outer h.index f;
      head_moved = λ c d k s h e j rel i f v. moved-outer s h e j f;
      accept_index = λ c d k n s h e j rel i f v le. tt;
      accepting = λ c d k s h j rel i. tt;
      guard = λ c d k n s e j rel h v le. tt;
      guard_test = λ c d k n s j rel h v le. tt;
      closed = λ c d k n x others s e es rel h w all few le. tt;
      wait = λ c d k x others s t rel h alts. tt;
    }

    unit-indices : (c : C) (its : PBody) → vs ≡ unit_variables u its → AskedBody b c 1 its → AskedBody index_asks tt 1 (normal_body u its)
    unit-indices c its e h =
        body-keeps u vs b index_asks (λ a d. Prim.Unit {0}) index-pieces c tt 1 its tt h (subst (λ l. Begins (unit_variables u its) l) (sym e) (begins-refl (unit_variables u its)))

  -- each copy of a body
  all-copies : (ds : PDecls) (s : Scope) → BodiesAsked (setting_for p) (plain_name p) s ds → AllByRecursion HasOuterIndices (flat_map (bodies_of (setting_for p)) (decl_list ds))
  all-copies no_decl s h = tt
  all-copies (decl_then (DTaskBody w objects its sp) rest) s h =
      let unit : RewrittenUnit = unit_for (setting_for p) w.name in
      let one : AskedBody index_asks tt 1 (normal_body unit its) = unit-indices unit.task (unit_variables unit its)
      (body_asks (setting_for p) (plain_name p) (own_entries (meaning s w.name))) _ its refl h.0 in
      all_joined HasOuterIndices (bodies_of (setting_for p) (DTaskBody w objects its sp)) (flat_map (bodies_of (setting_for p)) (decl_list rest))
      (all-mapped HasOuterIndices _ (λ (info : TaskInfo). one) (running (setting_for p) w.name))
      (all-copies rest (after_decl s (DTaskBody w objects its sp)) h.1)
  all-copies (decl_then d rest) s h = all-copies rest (after_decl s d) h

  -- So it is in main, and in each body.
  pub main-indices : IsLegalOriginal p → AskedBody index_asks tt 1 (made_for p).body
  main-indices h =
      unit-indices 0 (main_variables (setting_for p)) (body_asks (setting_for p) (plain_name p) []) _ p.body refl
      (main-asked p (types_in p) (numbers_of p) h.legal h.placed h.names h.small (plain_name p) (program-rules p h))

  pub bodies-indices : IsLegalOriginal p → AllByRecursion HasOuterIndices (flat_map (bodies_of (setting_for p)) (decl_list p.decls))
  bodies-indices h = all-copies p.decls (first_scope p.name) (bodies-asked p (types_in p) (numbers_of p) h.legal h.placed h.names h.small (plain_name p) (program-rules p h))
