-- Each piece that the normal form makes meets the static rules 1 and 3 to 12.
use Rattle.std.proofs.Common.{◌≡◌, ℕ, ◌+◌, ℤ, int_le, Bool, true, false, ◌&&◌, if◌then◌else◌, List, [], ◌∷◌, ◌++◌, map, slice_get, Option, Some, None, is_some, IfSome, unwrap_or, refl, sym, ap, ap₂, subst, ◌∙◌, true≢false}
use Rattle.std.specs.List.{AllByRecursion}
use Rattle.std.proofs.lemmas.List.Elements.{recursion_from_All}
use Rattle.common_lemmas.proofs.Lists.{all_back, all_front, all_joined}
use Rattle.ada_tree.specs.declared.naming.NameId.{NameId}
use Rattle.ada_tree.specs.declared.naming.Span.{Span}
use Rattle.ada_tree.specs.declared.statements.ParMode.{ParMode}
use Rattle.ada_tree.specs.declared.statements.ParMode.TheVariants.{Take, Give, Both}
use Rattle.ada_tree.specs.PlainExpr.{PExpr, EInteger, EName, EIndex, EAttribute, EAttributeOf, EParen, EUnary, EBinary, PSubind}
use Rattle.ada_tree.specs.PlainStmt.{PCallee, PArgs, PCall, PChoice, PHead, SAssign, SRaise, PBody}
use Rattle.ada_tree.specs.PlainDecl.{PDecl}
use Rattle.ada_tree.specs.Every.{Rules, EveryWord, EveryExpr, EveryExprs, EveryArgs, EveryFormal, EveryChoice}
use Rattle.ada_static_rules.specs.Scope.{Scope, Range, EntryPart, integer_kind, truth_kind, meaning, entry_named}
use Rattle.ada_static_rules.specs.ExprTypes.{expr_place, kind_of, is_other_kind}
use Rattle.ada_static_rules.specs.Demand.{node, must_be_of, writes, is_actual, Site}
use Rattle.ada_static_rules.specs.Sites.{site, if_there, body_sites, expr_sites, expr_of, actual_sites, formals_sites, accept_index_sites, head_sites, scheme_sites, target_sites, stmt_sites, choice_sites}
use Rattle.ada_static_rules.specs.RuleMismatch.{of_other_kind, target_kind}
use Rattle.ada_static_rules.specs.RuleNotException.{no_exception}
use Rattle.ada_static_rules.specs.RuleChoiceBad.{selected_range}
use Rattle.ada_static_rules.specs.RuleArrayUse.{array_in_node}
use Rattle.ada_value.specs.Values.{lies_in}
use Rattle.syn_event.specs.declared.numbering.TaskInfo.{TaskInfo}
use Rattle.task_model.specs.Setting.{Setting, entry_of, is_family, first_expr, lists_in, lists_of}
use Rattle.task_model.specs.Calls.{variable_of}
use Rattle.task_model.specs.Starting.{known_range}
use Rattle.normal_model.specs.Names.{variable_name}
use Rattle.normal_model.specs.Ranges.{word_at, marked, integer_subtype, truth_subtype, subtype_of_range, array_range, family_range}
use Rattle.normal_model.specs.Making.{variable, assignment, moving, index_left}
use Rattle.normal_model.specs.Members.{index_literal, kind_of_index, members_of}
use Rattle.normal_model.specs.Calls.{Slot, entry_called, lists_called, slots_called}
use Rattle.normal_model.specs.RewrittenUnit.{RewrittenUnit}
use Rattle.normal_model.specs.Waits.{head_left}
use Rattle.normal_model.specs.Walk.{after_body}
use Rattle.normal_model.specs.NormalStmts.{normal_rewriter, normal_body}
use Rattle.task_laws.specs.legal.asked.Asked.{Asks, AskedBody}
use Rattle.task_laws.specs.legal.asked.Kinds.{place_asks, type_asks, both}
use Rattle.task_laws.proofs.legal.asked.Typed.{asked_typed}
use Rattle.normal_laws.specs.structure.asked.Pieces.{IsVariable, IsGuard, member_choice, IsAmong, IsPair, first_pair, later_pair, is_read, is_written, Pieces}
use Rattle.normal_model.proofs.VariablesLemmas.{Begins}
use Rattle.normal_laws.proofs.structure.asked.Walk.{body-keeps}
use Rattle.normal_laws.proofs.structure.placed.Calls.{moves}
use Rattle.normal_laws.specs.structure.checked.Around.{own_rules}
use Rattle.task_laws.specs.legal.alike_scopes.Old.{IsOldExpr, IsOldChoice}
use Rattle.task_laws.specs.legal.alike_scopes.Laws.{IsMetBut}
use Rattle.task_laws.proofs.legal.alike_scopes.Selectors.{targets_are_same}
use Rattle.normal_laws.specs.structure.typed.ScopeOf.{HasKnownKinds, IsVariableOf, IsMemberIn, IsArrayOf, IsScopeOf, IsPlaceOf, task_asks}
use Rattle.normal_laws.proofs.structure.typed.Places.{met-whole, met-of, met-exception, met-chooses}
use Rattle.normal_laws.proofs.structure.typed.Variables.{AllMetBut, of-kind, variable-kind, variable-met, assigned-met}
use Rattle.normal_laws.proofs.structure.typed.Literals.{IsFixedAt, plain-fixed, index-fixed}
use Rattle.normal_laws.proofs.structure.typed.Subtypes.{range-variable, mark-variable}
use Rattle.normal_laws.proofs.structure.typed.Choices.{choice-met, point-is, IsPoint, choices-apart, selected-variable}
use Rattle.normal_laws.proofs.structure.typed.Tests.{IsTest, test-met, none-test, variable-test, flag-is-test}
use Rattle.normal_laws.proofs.structure.typed.Cases.{with_cases, cases_asked}
use Rattle.normal_laws.proofs.structure.typed.Callees.{HasIndexOf, target-met, callee-index}
use Rattle.normal_laws.proofs.structure.typed.Calls.{IsIndexOf, IsActualOf, lists-asked, actual-asked, call-met}
use Rattle.normal_laws.proofs.structure.typed.Stays.{old-expr, old-choices, old-formals, no-array, met-but, stays-but, expr-stays, kind-stays, condition-stays, formals-stay, loop-stays, choices-stay, selector-stays, handler-stays, head-stays, plain-stays}
use Rattle.normal_laws.proofs.structure.typed.Scopes.{accept-scope, loop-scope, accept-own, loop-own}
use Rattle.normal_laws.proofs.structure.typed.IndexedAccepts.{family-head, head-moved}
use Rattle.normal_laws.proofs.structure.typed.Actuals.{actual_target, both-read, actual-written, target-name, other-turned}
use Rattle.normal_laws.proofs.structure.placed.Made.{among}

-- ---- lists

pair-among : (P : PExpr → Type 0) (slot : Slot) (e : PExpr) (xs : List Slot) (es : List PExpr) → IsPair slot e xs es → AllByRecursion P es → P e
pair-among P slot e xs es (first_pair ys fs) h = h.0
pair-among P slot e xs es (later_pair y z ys fs p) h = pair-among P slot e ys fs p h.1

some-of : (P : PExpr → Type 0) (o : Option PExpr) (e : PExpr) → o ≡ Some e → IfSome o P → P e
some-of P None e f h = cc
some-of P (Some y) e f h = let q : y ≡ e = cc in subst P q h

-- an actual that is a name
name-is : (e : PExpr) (id : NameId) → variable_of e ≡ Some id → e ≡ EName id (expr_place e)
name-is (EName x s) id f = let q : x ≡ id = cc in ap (λ y. EName y s) q
name-is (EInteger n s) id f = cc
name-is (EIndex w e s) id f = cc
name-is (EAttribute m w s) id f = cc
name-is (EAttributeOf m w e s) id f = cc
name-is (EParen e s) id f = cc
name-is (EUnary op e s) id f = cc
name-is (EBinary op x y s) id f = cc

module _ (u : RewrittenUnit) (own : ℕ → Bool) (vars : List PDecl) (entries : List EntryPart) (known : HasKnownKinds u.setting.types) where
  abbrev g : Setting
  g = u.setting

  abbrev r : Rules
  r = own_rules own

  abbrev P : Site → Type 0
  P = IsPlaceOf g

  but : (s : Site) → P s → IsMetBut s
  but s m = met-but s m.0

  abbrev At : List Site → Type 0
  At xs = AllByRecursion P xs

  -- of the program: its names are its own, nothing is refused at its places, and callees stand for tasks beside main
  abbrev pub C : Type 0
  C = Prim.Unit {0} × (Scope × Prim.Unit {0})

  abbrev pub asked : Asks C
  asked = both (place_asks r) (both (type_asks P) (task_asks g entries))

  -- a selector is of own names, and no whole array
  abbrev pub IsSelector : C → PExpr → Type 0
  IsSelector c e = IsOldExpr own e × (array_in_node c.1.0 e ≡ [])

  abbrev pub b : Asks C
  b = with_cases asked IsSelector (IsOldChoice own)

  abbrev pub a : Asks Scope
  a = type_asks IsMetBut

  -- the unit has these entries
  abbrev pub R : C → Scope → Type 0
  R c d = IsScopeOf u own vars c.1.0 d × (c.1.0.own ≡ entries)

  -- ---- own names

  old-option : (k : ℕ) (o : Option PExpr) (e : PExpr) → o ≡ Some e → IfSome o (EveryExpr r k) → IsOldExpr own e
  old-option k o e f h = old-expr own k e (some-of (EveryExpr r k) o e f h)

  old-list : (k : ℕ) (es : List PExpr) → AllByRecursion (EveryExpr r k) es → AllByRecursion (IsOldExpr own) es
  old-list k [] h = tt
  old-list k (e ∷ es) h = (old-expr own k e h.0, old-list k es h.1)

  -- the index and the actuals of a call
  old-lists : (k e : ℕ) (o : Option PArgs) → IfSome o (EveryArgs r k) → IfSome (lists_of g.numbers e o).index (IsOldExpr own) × AllByRecursion (IsOldExpr own) (lists_of g.numbers e o).actuals
  old-lists k e None h = (tt, tt)
  old-lists k e (Some args) h = by_form (is_family g.numbers e)
    where
      firsts : AllByRecursion (IsOldExpr own) args.first
      firsts = old-list k args.first (recursion_from_All (EveryExpr r k) args.first h.0.1)

      seconds : (o : Option (List PExpr)) → IfSome o (EveryExprs r k) → AllByRecursion (IsOldExpr own) (unwrap_or o [])
      seconds None i = tt
      seconds (Some es) i = old-list k es (recursion_from_All (EveryExpr r k) es i.1)

      one : (es : List PExpr) → AllByRecursion (IsOldExpr own) es → IfSome (first_expr es) (IsOldExpr own)
      one [] i = tt
      one (y ∷ es) i = i.0

      by_form : (f : Bool) → IfSome (lists_in f args).index (IsOldExpr own) × AllByRecursion (IsOldExpr own) (lists_in f args).actuals
      by_form true = (one args.first firsts, seconds args.second h.1)
      by_form false = (tt, firsts)

  module _ (c : C) (d : Scope) (rel : IsScopeOf u own vars c.1.0 d) where
    abbrev s0 : Scope
    s0 = c.1.0

    there : (s : Span) (x : PSubind) (j : ℕ) → IsVariable g vars s x j → IsVariableOf g.types d (variable_name g j) x
    there s x j v = (rel.variables s x j v).0

    stay : (e : PExpr) → IsOldExpr own e → At (expr_sites s0 e) → AllMetBut (expr_sites d e)
    stay e o m = expr-stays P but own s0 d rel.alike.names e o m

    same-kind : (e : PExpr) → IsOldExpr own e → kind_of s0 e ≡ kind_of d e
    same-kind e o = kind-stays P but own s0 d rel.alike.names e o

    -- `DED_V1 := e;`, where nothing is refused in e
    put : (s : Span) (x : PSubind) (j k : ℕ) (v : IsVariableOf g.types d (variable_name g j) x) → v.mark.kind ≡ k → (e : PExpr) → IsOldExpr own e → AllMetBut (expr_sites d e) → of_other_kind s0 (Some k) e ≡ [] →
        AllMetBut (stmt_sites d (assignment g s j e))
    put s x j k v f e o m i =
        assigned-met v s e m
        (ap (λ q. if is_other_kind (Some q) (kind_of d e) then expr_place e ∷ [] else []) f ∙ ap (λ q. if is_other_kind (Some k) q then expr_place e ∷ [] else []) (sym (same-kind e o)) ∙ i)

    put-of : (s : Span) (x : PSubind) (j k : ℕ) (v : IsVariableOf g.types d (variable_name g j) x) → v.mark.kind ≡ k → (e : PExpr) → IsOldExpr own e → At (expr_of s0 (Some k) e) → AllMetBut (stmt_sites d (assignment g s j e))
    put-of s x j k v f e o m =
        put s x j k v f e o (stay e o (all_front P (expr_sites s0 e) _ m)) (all_back P (expr_sites s0 e) (site s0 (must_be_of e (Some k)) ∷ []) m).0.0.matched

    -- ---- callees

    array-kind : (x : PCallee) (s : Span) (j : ℕ) (range : Range) → IsArrayOf g x.name.name range → (v : IsVariableOf g.types d (variable_name g j) (subtype_of_range g.types s (array_range g.program x.name.name))) →
        record { kind = v.mark.kind; first = v.mark.first; last = v.mark.last } ≡ range
    array-kind x s j range h v = range-variable g.types known d (variable_name g j) s (array_range g.program x.name.name) range h.index v

    module _ (x : PCallee) (e : PExpr) (k : ℕ) (h : b.callee c k x) (f : moving g.types x.index ≡ Some e) where
      abbrev its : HasIndexOf s0 (meaning s0 x.name.name) e × At (expr_sites s0 e)
      its = callee-index u own vars s0 d rel x h.1.1 h.1.0 e (moves g.types x.index e f)

      abbrev range : Range
      range = its.0.range

      its-array : IsArrayOf g x.name.name range
      its-array = rel.arrays x.name.name range its.0.entries its.0.means

      index-put : (s : Span) (j : ℕ) → IsVariable g vars s (subtype_of_range g.types s (array_range g.program x.name.name)) j → AllMetBut (stmt_sites d (assignment g s j e))
      index-put s j v =
          let is = there s (subtype_of_range g.types s (array_range g.program x.name.name)) j v in
          let o = old-option k x.index e (moves g.types x.index e f) h.0.1 in
          put s (subtype_of_range g.types s (array_range g.program x.name.name)) j range.kind is (ap (λ (y : Range). y.kind) (array-kind x s j range its-array is)) e o (stay e o its.1) its.0.fits

      -- the literal of a member
      abbrev literal : Span → TaskInfo → PExpr
      literal s info = index_literal (kind_of_index g.types (array_range g.program x.name.name)) s info.member

      record IsChoice (s : Span) (info : TaskInfo) : Type 0 where
        value : ℤ
        member : info.member ≡ Some value
        within : (int_le range.first value && int_le value range.last) ≡ true
        fixed : IsFixedAt d range.kind (literal s info) value

      member-choice : (s : Span) (info : TaskInfo) → IsMemberIn range info → IsChoice s info
      member-choice s info m =
          let i = its-array.index in
          let lies : lies_in i.has.limits m.0 ≡ true = ap₂ (λ p q. int_le p m.0 && int_le m.0 q) i.first i.last ∙ m.2 in
          let literal-fixed = index-fixed g.types known d rel.integer rel.falses rel.trues rel.literals i.written i.has its-array.literals s m.0 lies in
          let kind : kind_of_index g.types (array_range g.program x.name.name) ≡ slice_get g.types.kinds i.has.limits.kind =
          (ap (kind_of_index g.types) i.is ∙ ap (λ q. slice_get g.types.kinds (known_range q).kind) i.has.range) in
          record {
            value = m.0;
            member = m.1;
            within = m.2;
            fixed =
                subst (λ q. IsFixedAt d range.kind (index_literal q s info.member) m.0) (sym kind)
                (subst (λ q. IsFixedAt d range.kind (index_literal (slice_get g.types.kinds i.has.limits.kind) s q) m.0) (sym m.1)
                (subst (λ q. IsFixedAt d q (index_literal (slice_get g.types.kinds i.has.limits.kind) s (Some m.0)) m.0) i.kind literal-fixed));
          }

      points : (s : Span) (infos : List TaskInfo) → AllByRecursion (IsMemberIn range) infos → AllByRecursion (IsPoint d range.kind (literal s)) infos
      points s [] m = tt
      points s (info ∷ infos) m =
          let q = member-choice s info m.0 in
          ((q.value, q.member, point-is d range.kind (literal s info) q.value q.fixed), points s infos m.1)

      module _ (s : Span) (j : ℕ) (v : IsVariable g vars s (subtype_of_range g.types s (array_range g.program x.name.name)) j) where
        abbrev is : IsVariableOf g.types d (variable_name g j) (subtype_of_range g.types s (array_range g.program x.name.name))
        is = there s (subtype_of_range g.types s (array_range g.program x.name.name)) j v

        is-range : record { kind = is.mark.kind; first = is.mark.first; last = is.mark.last } ≡ range
        is-range = array-kind x s j range its-array is

        selector-kind : kind_of d (variable g s j) ≡ Some range.kind
        selector-kind = variable-kind is s ∙ ap (λ (y : Range). Some y.kind) is-range

        member-selector : a.selector d 0 (variable g s j) (map (member_choice g s x) (members_of g x.name.name)) true s
        member-selector = (
          met-chooses d (variable g s j) (map (member_choice g s x) (members_of g x.name.name)) true s
              (choices-apart d range.kind (literal s) (variable g s j) s selector-kind (members_of g x.name.name) (points s (members_of g x.name.name) its-array.members) its-array.others),
          variable-met is s,
        )

        member-chosen : (info : TaskInfo) → IsAmong info (members_of g x.name.name) → a.choices d 0 (variable g s j) (member_choice g s x info ∷ [])
        member-chosen info i =
            let q = member-choice s info (among (IsMemberIn range) info (members_of g x.name.name) i its-array.members) in
            let one = choice-met d range.kind (literal s info) q.value q.fixed range refl q.within in
            all_joined IsMetBut (choice_sites d (kind_of d (variable g s j)) (selected_range d (variable g s j)) (member_choice g s x info)) []
            (subst (λ k. AllMetBut (choice_sites d k (selected_range d (variable g s j)) (member_choice g s x info))) (sym selector-kind)
            (subst (λ o. AllMetBut (choice_sites d (Some range.kind) o (member_choice g s x info))) (sym (selected-variable g.types d (variable_name g j) _ is s ∙ ap Some is-range)) one)) tt

    -- ---- actuals

    module _ (x : PCall) (k : ℕ) (h : b.callee c k x.task) (i : b.call c k x) where
      pair-of : (slot : Slot) (e : PExpr) → IsPair slot e (slots_called g x) (lists_called g x).actuals → IsActualOf u own vars known s0 d rel x h.1.1 h.1.0 i.1.0 slot e
      pair-of slot e p = actual-asked u own vars known s0 d rel x h.1.1 h.1.0 i.1.0 slot e p

      pair-old : (slot : Slot) (e : PExpr) → IsPair slot e (slots_called g x) (lists_called g x).actuals → IsOldExpr own e
      pair-old slot e p = pair-among (IsOldExpr own) slot e (slots_called g x) (lists_called g x).actuals p (old-lists k (entry_called g x) x.args i.0.1).1

      -- what goes to a variable
      read-stays : (mode : ParMode) (e : PExpr) → is_read mode ≡ true → IsOldExpr own e → At (actual_sites s0 mode e) → AllMetBut (expr_sites d e)
      read-stays Take e f o m = stay e o m
      read-stays Give e f o m = absurd (true≢false (sym f))
      read-stays Both (EName id s) f o m =
          (met-whole d (EName id s) refl, (stays-but P but own s0 d rel.alike.names (node false (EName id s)) o (both-read s0 id s (met-but (site s0 (is_actual Both (EName id s))) m.0.0)), tt))
      read-stays Both (EInteger n s) f o m = stay (EInteger n s) o m.1
      read-stays Both (EIndex w e s) f o m = stay (EIndex w e s) o m.1
      read-stays Both (EAttribute y w s) f o m = stay (EAttribute y w s) o m.1
      read-stays Both (EAttributeOf y w e s) f o m = stay (EAttributeOf y w e s) o m.1
      read-stays Both (EParen e s) f o m = stay (EParen e s) o m.1
      read-stays Both (EUnary op e s) f o m = stay (EUnary op e s) o m.1
      read-stays Both (EBinary op y z s) f o m = stay (EBinary op y z s) o m.1

      read-put : (s : Span) (slot : Slot) (e : PExpr) (j : ℕ) → IsPair slot e (slots_called g x) (lists_called g x).actuals → is_read slot.mode ≡ true → IsVariable g vars s (marked slot.mark) j → AllMetBut (stmt_sites d (assignment g s j e))
      read-put s slot e j p f v =
          let q = pair-of slot e p in
          let is = there s (marked slot.mark) j v in
          let o = pair-old slot e p in
          put s (marked slot.mark) j q.kind is (mark-variable g.types d (variable_name g j) slot.mark is ∙ sym q.marked) e o (read-stays q.mode e (ap is_read q.is ∙ f) o q.sites) q.fits.0.matched

      -- what comes from one
      written-met : (mode : ParMode) (id : NameId) (s : Span) → is_written mode ≡ true → At (actual_sites s0 mode (EName id s)) → IsMetBut (site s0 (writes (actual_target id s)))
      written-met Take id s f m = absurd (true≢false (sym f))
      written-met Give id s f m = actual-written s0 id s Give (met-but (site s0 (is_actual Give (EName id s))) m.0.0)
      written-met Both id s f m = actual-written s0 id s Both (met-but (site s0 (is_actual Both (EName id s))) m.0.0)

      write-put : (s t : Span) (slot : Slot) (id : NameId) (j : ℕ) → IsPair slot (EName id t) (slots_called g x) (lists_called g x).actuals → is_written slot.mode ≡ true → IsVariable g vars s (marked slot.mark) j →
          AllMetBut (stmt_sites d (SAssign (actual_target id t) (variable g s j) s))
      write-put s t slot id j p f v =
          let q = pair-of slot (EName id t) p in
          let is = there s (marked slot.mark) j v in
          let o = pair-old slot (EName id t) p in
          let kind : is.mark.kind ≡ q.kind = mark-variable g.types d (variable_name g j) slot.mark is ∙ sym q.marked in
          let target : target_kind d (actual_target id t) ≡ kind_of s0 (EName id t) = sym (targets_are_same own s0 d rel.alike.names (actual_target id t) (o, tt)) ∙ target-name s0 id t in
          let other : is_other_kind (kind_of s0 (EName id t)) (Some q.kind) ≡ false = other-turned q.kind (kind_of s0 (EName id t)) (no-place (is_other_kind (Some q.kind) (kind_of s0 (EName id t))) t q.fits.0.matched) in
          let fits : of_other_kind d (target_kind d (actual_target id t)) (variable g s j) ≡ [] =
          (ap₂ (λ y z. if is_other_kind y z then s ∷ [] else []) target (variable-kind is s ∙ ap Some kind) ∙ ap (λ y. if y then s ∷ [] else []) other) in
          let writes-met : AllMetBut (target_sites d (actual_target id t)) = (stays-but P but own s0 d rel.alike.names (writes (actual_target id t)) (o, tt) (written-met q.mode id t (ap is_written q.is ∙ f) q.sites), tt) in
          all_joined IsMetBut (target_sites d (actual_target id t)) (expr_sites d (variable g s j) ++ site d (must_be_of (variable g s j) (target_kind d (actual_target id t))) ∷ []) writes-met
          (all_joined IsMetBut (expr_sites d (variable g s j)) (site d (must_be_of (variable g s j) (target_kind d (actual_target id t))) ∷ []) (variable-met is s) (met-of d (variable g s j) (target_kind d (actual_target id t)) fits, tt))
        where
          no-place : (y : Bool) (s : Span) → (if y then s ∷ [] else []) ≡ [] → y ≡ false
          no-place true s e = cc
          no-place false s e = refl

      family-put : (s : Span) (e : PExpr) (j : ℕ) → (lists_called g x).index ≡ Some e → IsVariable g vars s (subtype_of_range g.types s (family_range g (entry_called g x))) j → AllMetBut (stmt_sites d (assignment g s j e))
      family-put s e j f v =
          let q = some-of (IsIndexOf u own vars known s0 d rel x h.1.1 h.1.0 i.1.0) (lists_called g x).index e f (lists-asked u own vars known s0 d rel x h.1.1 h.1.0 i.1.0).index in
          let is = there s (subtype_of_range g.types s (family_range g (entry_called g x))) j v in
          put-of s (subtype_of_range g.types s (family_range g (entry_called g x))) j q.range.kind is
          (ap (λ (y : Range). y.kind) (range-variable g.types known d (variable_name g j) s (family_range g (entry_called g x)) q.range q.declared is)) e
          (some-of (IsOldExpr own) (lists_called g x).index e f (old-lists k (entry_called g x) x.args i.0.1).0) q.asked

    -- ---- accepts

    module _ (k : ℕ) (s : Span) (h : PHead) (e : PExpr) (j : ℕ) (i : b.head c k h) (f : moving g.types h.index ≡ Some e)
        (v : IsVariable g vars s (subtype_of_range g.types s (family_range g (entry_of g.numbers u.task h.entry.name))) j) (mine : is_some (entry_named s0.own h.entry.name) ≡ true) where
      accept-put : AllMetBut (stmt_sites d (assignment g s j e))
      accept-put =
          let q = family-head u own vars known s0 d rel h e (moves g.types h.index e f) i.1.0 mine in
          let is = there s (subtype_of_range g.types s (family_range g (entry_of g.numbers u.task h.entry.name))) j v in
          put-of s (subtype_of_range g.types s (family_range g (entry_of g.numbers u.task h.entry.name))) j q.range.kind is
          (ap (λ (y : Range). y.kind) (range-variable g.types known d (variable_name g j) s (family_range g (entry_of g.numbers u.task h.entry.name)) q.range q.declared is)) e
          (old-option (k + 1) h.index e (moves g.types h.index e f) i.0.1.1) q.asked

      new-head : AllMetBut (head_sites d (head_left u s h j))
      new-head =
          head-moved u own vars known s0 d rel h e (moves g.types h.index e f) i.1.0 mine (sym (rel.alike.own h.entry.name i.0.1.0)) s j (ap (λ o. index_left g s j o h.index) f)
          (there s (subtype_of_range g.types s (family_range g (entry_of g.numbers u.task h.entry.name))) j v)
          (formals-stay P but own s0 d rel.alike.names h.formals (old-formals own h.formals (recursion_from_All (EveryFormal r) h.formals i.0.1.2))
          (all_back P (if_there (accept_index_sites s0 (entry_named s0.own h.entry.name)) h.index) (formals_sites s0 h.formals) i.1.0.1))

    -- ---- guards

    truth-of : (s : Span) (j : ℕ) (v : IsVariable g vars s (truth_subtype s) j) → (there s (truth_subtype s) j v).mark.kind ≡ truth_kind
    truth-of s j v = mark-variable g.types d (variable_name g j) (word_at s record { 0 = 3 }) (there s (truth_subtype s) j v) ∙ known.truth

    integer-of : (s : Span) (j : ℕ) (v : IsVariable g vars s (integer_subtype s) j) → (there s (integer_subtype s) j v).mark.kind ≡ integer_kind
    integer-of s j v = mark-variable g.types d (variable_name g j) (word_at s record { 0 = 0 }) (there s (integer_subtype s) j v) ∙ known.integer

    guard-is-test : (e : PExpr) → IsGuard g vars e → IsTest d e
    guard-is-test e i =
        subst (IsTest d) (sym i.2) (variable-test d g.types (variable_name g i.1) (truth_subtype i.0) (there i.0 (truth_subtype i.0) i.1 i.3) i.0 (truth-of i.0 i.1 i.3))

    guards-are-tests : (es : List PExpr) → AllByRecursion (IsGuard g vars) es → AllByRecursion (IsTest d) es
    guards-are-tests [] h = tt
    guards-are-tests (e ∷ es) h = (guard-is-test e h.0, guards-are-tests es h.1)

    flag-put : (s : Span) (part j : ℕ) → IsVariable g vars s (integer_subtype s) j → AllMetBut (stmt_sites d (assignment g s j (EInteger part s)))
    flag-put s part j v =
        let is = there s (integer_subtype s) j v in
        assigned-met is s (EInteger part s) (plain-fixed d rel.integer part s).met (of-kind d (EInteger part s) is.mark.kind (ap Some (sym (integer-of s j v))))

    raised : (s : Span) → AllMetBut (stmt_sites d (SRaise (Some (word_at s record { 0 = 8 })) s))
    raised s = (met-exception d (word_at s record { 0 = 8 }) (ap (λ o. if is_some o then [] else s ∷ []) rel.program_error) (ap (λ o. no_exception o (word_at s record { 0 = 8 })) rel.program_error), tt)

  -- ---- all pieces

  own-there : (c : C) (h : PHead) → is_some (entry_named entries h.entry.name) ≡ true → c.1.0.own ≡ entries → is_some (entry_named c.1.0.own h.entry.name) ≡ true
  own-there c h i e = ap (λ l. is_some (entry_named l h.entry.name)) e ∙ i

  pub pieces : Pieces u vars b a R
  pieces = record {
    outer = λ c d k n s rel h le. tt;
    many = λ n h. tt;
    some = λ n. tt;
    duration = λ n h. tt;
    plain = λ c d k x i rel h. plain-stays P but own c.1.0 d rel.0.alike.names k x i h.0 h.1.0;
    condition = λ c d k e rel h. condition-stays P but own c.1.0 d rel.0.alike.names e (old-expr own k e h.0) h.1.0;
    selector = λ c d k e xs others s rel h. selector-stays P but own c.1.0 d rel.0.alike.names e xs others s (old-expr own k e h.0.0) h.1 h.0.1.0;
    choices = λ c d k e xs rel h. choices-stay P but own c.1.0 d rel.0.alike.names e xs h.1.0 h.1.1 (old-choices own k xs (recursion_from_All (EveryChoice r k) xs h.0.0.1)) h.0.1.0;
    loop = λ c d k w x rel h. loop-stays P but own c.1.0 d rel.0.alike.names k w x h.0.1 h.1.0;
    looping = λ c d k w x rel h. (loop-scope u own vars c.1.0 d k x h.0.1 (all_back P _ (if_there (scheme_sites c.1.0) x) h.1.0) rel.0, loop-own u own vars c.1.0 x ∙ rel.1);
    delay = λ c d k e f s rel h. tt;
    handlers = λ hs t h. tt;
    handler = λ c d k ids ws rel h. handler-stays P but own c.1.0 d rel.0.alike.names ids ws (recursion_from_All (EveryWord r) ws h.0) h.1.0;
    handling = λ c d rel. rel;
    null = λ c d k n s rel h le. tt;
    program_error = λ c d k n s rel h le. raised c d rel.0 s;
    callee_index = λ c d k n s x e j rel h f v le. index-put c d rel.0 x e k h f s j v;
    target = λ c d k n x w rel h t le. target-met u own vars c.1.0 d rel.0 x h.1.1 h.1.0 w t;
    chooses = λ c d k n s x e j rel h f v le. member-selector c d rel.0 x e k h f s j v;
    chosen = λ c d k n s x e j info rel h f v i le. member-chosen c d rel.0 x e k h f s j v info i;
    called = λ c d k n s x j w rel h i t v le. call-met u own vars known c.1.0 d rel.0 x h.1.1 h.1.0 i.1.0 s j w t v;
    family_index = λ c d k n s x e j rel h i f v le. family-put c d rel.0 x k h i s e j f v;
    actual_before = λ c d k n s x slot e j rel h i pair f v le. read-put c d rel.0 x k h i s slot e j pair f v;
    actual_behind = λ c d k n s x slot e id j rel h i pair f q v le.
        write-put c d rel.0 x k h i s (expr_place e) slot id j (subst (λ y. IsPair slot y (slots_called g x) (lists_called g x).actuals) (name-is e id q) pair) f v;
    flag = λ c d k n s part j rel h small v le. flag-put c d rel.0 s part j v;
    flag_test = λ c d k n s j rel h v le.
        test-met d _ (flag-is-test d g.types (variable_name g j) (integer_subtype s) (there c d rel.0 s (integer_subtype s) j v) s 1 (integer-of c d rel.0 s j v));
    aborted = λ c d k n xs w rel h le. tt;
    no_abort = λ c d k rel h. tt;
    head = λ c d k h rel i f. head-stays P but own c.1.0 d rel.0.alike k h i.0.1 (own-there c h i.1.1 rel.1) i.1.0;
    head_moved = λ c d k s h e j rel i f v. new-head c d rel.0 k s h e j i f v (own-there c h i.1.1 rel.1);
    accept_index = λ c d k n s h e j rel i f v le. accept-put c d rel.0 k s h e j i f v (own-there c h i.1.1 rel.1);
    accepting = λ c d k s h j rel i. (accept-scope u own vars c.1.0 d k h i.0.1 i.1.0 rel.0, accept-own u own vars c.1.0 h.formals ∙ rel.1);
    guard = λ c d k n s e j rel h v le. put-of c d rel.0 s (truth_subtype s) j truth_kind (there c d rel.0 s (truth_subtype s) j v) (truth-of c d rel.0 s j v) e (old-expr own k e h.0) h.1.0;
    guard_test = λ c d k n s j rel h v le. test-met d _ (variable-test d g.types (variable_name g j) (truth_subtype s) (there c d rel.0 s (truth_subtype s) j v) s (truth-of c d rel.0 s j v));
    closed = λ c d k n x others s e es rel h w all few le. test-met d _ (none-test d s e es (guards-are-tests c d rel.0 (e ∷ es) all));
    wait = λ c d k x others s t rel h alts. tt;
  }

  -- ---- from what is asked of a body of the program

  told : (c : C) (k : ℕ) (e : PExpr) (xs : List PChoice) (others : Bool) (s : Span) → asked.selector c k e xs others s → IsSelector c e
  told c k e xs others s h = (old-expr own k e h.0, no-array P but c.1.0 e h.1.0.1)

  each : (c : C) (k : ℕ) (e : PExpr) (xs : List PChoice) → asked.choices c k e xs → AllByRecursion (IsOldChoice own) xs
  each c k e xs h = old-choices own k xs (recursion_from_All (EveryChoice r k) xs h.0.1)

  -- A body of the program at which nothing is refused has an image at which none of these rules refuses anything.
  pub body-met : (c : C) (d : Scope) (k : ℕ) (x : PBody) → R c d → AskedBody asked c k x → Begins (after_body (normal_rewriter u) x []) vars → AllByRecursion IsMetBut (body_sites d (normal_body u x))
  body-met c d k x rel h begins =
      asked_typed IsMetBut d k (normal_body u x) (body-keeps u vars b a R pieces c d k x rel (cases_asked asked IsSelector (IsOldChoice own) told each c k x h) begins)
