-- The statements of main and the copies of bodies meet the rules 13 to 23 in the normal form of a legal program.
use Rattle.std.proofs.Common.{◌≡◌, ℕ, ◌+◌, ◌==◌, List, [], ◌∷◌, length, map, flat_map, refl, sym, subst, arith}
use Rattle.std.specs.List.{AllByRecursion}
use Rattle.ada_tree.specs.declared.naming.Span.{Span}
use Rattle.ada_tree.specs.declared.naming.Word.{Word}
use Rattle.ada_tree.specs.PlainStmt.{PBody}
use Rattle.ada_tree.specs.PlainDecl.{PDecl, DNumber, DObject, DEnumeration, DArray, DSubtype, DException, DIntIo, DPragma, DTask, DTaskBody, PDecls, no_decl, decl_then, decls_of}
use Rattle.ada_tree.specs.PlainProgram.{PProgram}
use Rattle.ada_tree.specs.Every.{Rules, EveryBody, EveryDecl, EveryDecls}
use Rattle.ada_tree.specs.WellPlaced.{well_placed}
use Rattle.ada_static_rules.specs.Scope.{Scope}
use Rattle.ada_static_rules.specs.Declaring.{after_decl, first_scope}
use Rattle.syn_event.specs.declared.numbering.Mode.TheVariants.{Any}
use Rattle.syn_event.specs.declared.numbering.TaskInfo.{TaskInfo}
use Rattle.syn_event.specs.CheckScope.{CheckScope, CheckSite}
use Rattle.syn_event.specs.CheckSites as check
use Rattle.syn_event.specs.DeclaredTasks.{decl_list}
use Rattle.task_model.specs.Setting.{Setting}
use Rattle.normal_model.specs.Names.{task_name}
use Rattle.normal_model.specs.Ranges.{word_at}
use Rattle.normal_model.specs.RewrittenUnit.{RewrittenUnit}
use Rattle.normal_model.specs.NormalStmts.{normal_body, unit_variables}
use Rattle.normal_model.specs.NormalTree.{decls_front, tasks_beside, unit_for, running, body_copy, bodies_of}
use Rattle.normal_model.proofs.VariablesLemmas.{begins-refl}
use Rattle.normal_laws.specs.runs.forms.Normalisable.{numbers_of, setting_for, made_for}
use Rattle.task_laws.specs.legal.rewritten_values.Values.{old_names}
use Rattle.task_laws.specs.legal.sites.Met.{IsCheckMet}
use Rattle.normal_laws.proofs.legality.asked.Bodies.{BodiesAsked, main-asked, bodies-asked}
use Rattle.normal_laws.proofs.legality.asked.Beside.{callees-beside}
use Rattle.normal_laws.specs.existence.Laws.{IsLegalOriginal}
use Rattle.task_laws.specs.legal.asked.Asked.{AskedBody}
use Rattle.task_laws.specs.legal.asked.Kinds.{place_asks, check_asks, both}
use Rattle.task_laws.proofs.legal.asked.Placed.{placed_asked}
use Rattle.task_laws.proofs.legal.asked.Checked.{checked_asked, asked_checked}
use Rattle.task_laws.proofs.legal.asked.Together.{both_asked}
use Rattle.normal_laws.specs.structure.asked.Pieces.{IsAmong, first_among, later_among}
use Rattle.normal_laws.proofs.structure.asked.Walk.{body-keeps}
use Rattle.normal_laws.proofs.structure.placed.Added.{unit-from}
use Rattle.normal_laws.specs.structure.checked.Around.{own_rules, callee_asks, IsAround}
use Rattle.normal_laws.proofs.structure.checked.Checked as checked
use Rattle.normal_laws.proofs.structure.checked.MainScopes.{decls-frame, main-around}
use Rattle.common_lemmas.proofs.Lists.{all_front, all_back, all_joined}
use Rattle.common_lemmas.proofs.Numbers.{equal_is}
use Rattle.normal_laws.proofs.legality.checks.Bodies.{IsBodyAt}
use Rattle.normal_laws.proofs.legality.checks.AroundBody.{whole, values-free, body-around}
use Rattle.normal_laws.proofs.legality.checks.Statics.{subtypes-static, IsStaticSubtype}
use Rattle.normal_laws.proofs.legality.checks.Objects.{after-own-front, own-front, AreBehind, objects-met, objects-behind, AreVariablesBehind, variables-met, variables-around}
use Rattle.normal_laws.proofs.legality.checks.Tasks.{kept-among}
use Rattle.normal_laws.proofs.legality.checks.Fixed.{fixed-same}
use Rattle.normal_laws.proofs.legality.checks.Facts as facts

-- ---- rules of declarations in a row

every-front : (rules : Rules) (xs ys : PDecls) → EveryDecls rules (decls_front xs ys) → EveryDecls rules xs × EveryDecls rules ys
every-front rules no_decl ys h = (tt, h)
every-front rules (decl_then x xs) ys h = let r = every-front rules xs ys h.1 in ((h.0, r.0), r.1)

every-list : (rules : Rules) (xs : List PDecl) → EveryDecls rules (decls_of xs) → AllByRecursion (EveryDecl rules) xs
every-list rules [] h = tt
every-list rules (x ∷ xs) h = (h.0, every-list rules xs h.1)

module _ (p : PProgram) (h : IsLegalOriginal p) where
  abbrev g : Setting
  g = setting_for p

  abbrev n : PProgram
  n = made_for p

  abbrev M' : CheckSite → Type 0
  M' = IsCheckMet Any n.names

  abbrev At' : List CheckSite → Type 0
  At' xs = AllByRecursion M' xs

  abbrev around' : CheckScope
  around' = whole p h

  -- ---- statements

  statements-met : (t : ℕ) (b : PBody) (c d : CheckScope) → IsAround g (facts.own p h) (unit_variables (record { setting = g; task = t }) b) c d → EveryBody (own_rules (facts.own p h)) 1 b → AllByRecursion (facts.M p h) (check.body_sites c 1 b) →
      AskedBody (callee_asks g) tt 1 b → At' (check.body_sites d 1 (normal_body (record { setting = g; task = t }) b))
  statements-met t b c d rel every m beside =
      let u : RewrittenUnit = record { setting = g; task = t } in
      let vars : List PDecl = unit_variables u b in
      let r : Rules = own_rules (facts.own p h) in
      let two : AskedBody (both (check_asks (facts.M p h)) (callee_asks g)) (c, tt) 1 b = both_asked (check_asks (facts.M p h)) (callee_asks g) c tt 1 b (checked_asked (facts.M p h) c 1 b m) beside in
      let all : AskedBody (both (place_asks r) (both (check_asks (facts.M p h)) (callee_asks g))) (tt, (c, tt)) 1 b = both_asked (place_asks r) (both (check_asks (facts.M p h)) (callee_asks g)) tt (c, tt) 1 b (placed_asked r 1 b every) two in
      asked_checked M' d 1 (normal_body u b)
      (body-keeps u vars (both (place_asks r) (both (check_asks (facts.M p h)) (callee_asks g))) (check_asks M') (λ x y. IsAround g (facts.own p h) vars x.1.0 y)
      (checked.pieces u (facts.own p h) vars p.names n.names (facts.same-text p h)) (tt, (c, tt)) d 1 b rel all (begins-refl vars))

  -- the body of main
  pub main-met : At' (check.body_sites around' 1 n.body)
  main-met =
      statements-met 0 p.body (check.after_decls (facts.around p h) p.decls) around'
      (main-around g (facts.own p h) (unit_variables (record { setting = g; task = 0 }) p.body) (facts.T p h) (facts.U p h) p.name refl (fixed-same (facts.own p h) (facts.T p h) (facts.U p h) (facts.alike p h)) (facts.apart p h))
      (facts.owns p h).3 (facts.body-checked p h) (callees-beside g (facts.own p h) [] _ 1 p.body (main-asked p (facts.T p h) (numbers_of p) h.legal h.placed h.names h.small (facts.own p h) (facts.owns p h)))

  -- ---- copies

  module _ (w : Word) (objects : PDecls) (its : PBody) (sp : Span) (at : IsBodyAt p (facts.own p h) (facts.T p h) (facts.U p h) n.names (facts.agree p h) (facts.alike p h) (check.body_names p.decls) (facts.behind_firsts p h) w objects its)
      (beside : AskedBody (callee_asks g) tt 1 its) (every : EveryDecl (own_rules (facts.own p h)) (DTaskBody w objects its sp)) (old : EveryDecl (old_names (facts.own p h)) (DTaskBody w objects its sp)) where
    abbrev u : RewrittenUnit
    u = unit_for g w.name

    abbrev vars : List PDecl
    vars = unit_variables u its

    abbrev c : CheckScope
    c = check.in_body at.around w

    one-met : (info : TaskInfo) → IsAmong info (running g w.name) →
        EveryDecl (well_placed n.names) (DTaskBody (word_at w.span (task_name g info)) (decls_front objects (decls_of vars)) (normal_body u its) sp) →
        At' (check.decl_sites around' (check.body_names n.decls) (DTaskBody (word_at w.span (task_name g info)) (decls_front objects (decls_of vars)) (normal_body u its) sp))
    one-met info i v =
        let copy : Word = word_at w.span (task_name g info) in
        let d : CheckScope = check.in_body around' copy in
        let run = kept-among (λ (x : TaskInfo). x.unit.0 == w.name.0) info (tasks_beside g) i in
        let base : AreBehind g (facts.own p h) (facts.T p h) (facts.U p h) p.names n.names (facts.same-text p h) (facts.alike p h) refl c d = record {
          rel = body-around p h w objects its at info w.span run.0 (equal_is info.unit.0 w.name.0 run.1);
          table = (decls-frame n.decls (check.first_around (facts.U p h) n.name)).types;
          values = λ id s e. values-free p h w objects its at id s e;
        } in
        let parts = every-front (well_placed n.names) objects (decls_of vars) v.3 in
        let inner : List CheckSite = check.own_sites c objects in
        let stmts : List CheckSite = check.body_sites (check.after_own c objects) 1 its in
        let behind = objects-behind g (facts.own p h) (facts.T p h) (facts.U p h) p.names n.names (facts.same-text p h) (facts.alike p h) refl objects c d base in
        let more = variables-met g (facts.own p h) (facts.T p h) (facts.U p h) p.names n.names (facts.same-text p h) (facts.alike p h) refl vars 0 (check.after_own c objects) (check.after_own d objects)
        (unit-from g (IsStaticSubtype (facts.T p h)) (subtypes-static p h) u.task its) (record { behind = behind; hidden = λ j s l. absurd (omega (arith, l)) }) (every-list (well_placed n.names) vars parts.1) in
        let d'' : CheckScope = check.after_own (check.after_own d objects) (decls_of vars) in
        let rel : IsAround g (facts.own p h) vars (check.after_own c objects) d'' =
        variables-around g (facts.own p h) (facts.T p h) (facts.U p h) p.names n.names (facts.same-text p h) (facts.alike p h) refl vars (check.after_own c objects) d''
        (subst (λ m. AreVariablesBehind g (facts.own p h) (facts.T p h) (facts.U p h) p.names n.names (facts.same-text p h) (facts.alike p h) refl m (check.after_own c objects) d'') (let e : 0 + length vars ≡ length vars = omega arith in e) more.1) in
        all_joined M' (check.own_sites d (decls_front objects (decls_of vars))) (check.body_sites (check.after_own d (decls_front objects (decls_of vars))) 1 (normal_body u its))
        (own-front g (facts.own p h) (facts.T p h) (facts.U p h) p.names n.names (facts.same-text p h) (facts.alike p h) refl objects (decls_of vars) d
        (objects-met g (facts.own p h) (facts.T p h) (facts.U p h) p.names n.names (facts.same-text p h) (facts.alike p h) refl objects c d base every.3 old.3 parts.0 (all_front (facts.M p h) inner stmts at.checked)) more.0)
        (subst (λ (q : CheckScope). At' (check.body_sites q 1 (normal_body u its))) (sym (after-own-front objects (decls_of vars) d))
        (statements-met u.task its (check.after_own c objects) d'' rel every.4 (all_back (facts.M p h) inner stmts at.checked) beside))

    abbrev copy-of : TaskInfo → PDecl
    copy-of info = body_copy g w objects vars (normal_body u its) (λ ds b name. DTaskBody name ds b sp) info

    pub copies-met : (infos : List TaskInfo) → ((info : TaskInfo) → IsAmong info infos → IsAmong info (running g w.name)) → AllByRecursion (EveryDecl (well_placed n.names)) (map copy-of infos) →
        AllByRecursion (λ x. At' (check.decl_sites around' (check.body_names n.decls) x)) (map copy-of infos)
    copies-met [] all v = tt
    copies-met (info ∷ infos) all v = (one-met info (all info (first_among infos)) v.0, copies-met infos (λ y k. all y (later_among info infos k)) v.1)

  abbrev IsMetThere : PDecl → Type 0
  IsMetThere x = At' (check.decl_sites around' (check.body_names n.decls) x)

  -- Names that take the places of callees in a body are those of tasks beside main.
  abbrev pub CalleesBeside : PDecl → Type 0
  CalleesBeside (DTaskBody w objects its sp) = AskedBody (callee_asks g) tt 1 its
  CalleesBeside _ = Prim.Unit {0}

  all-beside : (ds : PDecls) (s : Scope) → BodiesAsked g (facts.own p h) s ds → AllByRecursion CalleesBeside (decl_list ds)
  all-beside no_decl s a = tt
  all-beside (decl_then (DTaskBody w objects its sp) rest) s a = (callees-beside g (facts.own p h) _ _ 1 its a.0, all-beside rest (after_decl s (DTaskBody w objects its sp)) a.1)
  all-beside (decl_then (DTask t sp) rest) s a = (tt, all-beside rest (after_decl s (DTask t sp)) a)
  all-beside (decl_then (DNumber w e sp) rest) s a = (tt, all-beside rest (after_decl s (DNumber w e sp)) a)
  all-beside (decl_then (DObject ws c x i sp) rest) s a = (tt, all-beside rest (after_decl s (DObject ws c x i sp)) a)
  all-beside (decl_then (DEnumeration w ws sp) rest) s a = (tt, all-beside rest (after_decl s (DEnumeration w ws sp)) a)
  all-beside (decl_then (DArray w q x sp) rest) s a = (tt, all-beside rest (after_decl s (DArray w q x sp)) a)
  all-beside (decl_then (DSubtype w x sp) rest) s a = (tt, all-beside rest (after_decl s (DSubtype w x sp)) a)
  all-beside (decl_then (DException ws sp) rest) s a = (tt, all-beside rest (after_decl s (DException ws sp)) a)
  all-beside (decl_then (DIntIo w sp) rest) s a = (tt, all-beside rest (after_decl s (DIntIo w sp)) a)
  all-beside (decl_then (DPragma e sp) rest) s a = (tt, all-beside rest (after_decl s (DPragma e sp)) a)

  -- So it is with the bodies of a legal program.
  pub bodies-beside : AllByRecursion CalleesBeside (decl_list p.decls)
  bodies-beside = all-beside p.decls (first_scope p.name) (bodies-asked p (facts.T p h) (numbers_of p) h.legal h.placed h.names h.small (facts.own p h) (facts.owns p h))

  decl-copies : (d : PDecl) → facts.AtBody p h d → CalleesBeside d → EveryDecl (own_rules (facts.own p h)) d → EveryDecl (old_names (facts.own p h)) d → AllByRecursion (EveryDecl (well_placed n.names)) (bodies_of g d) → AllByRecursion IsMetThere (bodies_of g d)
  decl-copies (DTaskBody w objects its sp) at beside every old v = copies-met w objects its sp at beside every old (running g w.name) (λ info i. i) v
  decl-copies (DTask t s) at beside every old v = tt
  decl-copies (DNumber w e s) at beside every old v = tt
  decl-copies (DObject ws c x i s) at beside every old v = tt
  decl-copies (DEnumeration w ws s) at beside every old v = tt
  decl-copies (DArray w q x s) at beside every old v = tt
  decl-copies (DSubtype w x s) at beside every old v = tt
  decl-copies (DException ws s) at beside every old v = tt
  decl-copies (DIntIo w s) at beside every old v = tt
  decl-copies (DPragma e s) at beside every old v = tt

  -- All copies of bodies meet the rules.
  pub bodies-copied : (ds : List PDecl) → AllByRecursion (facts.AtBody p h) ds → AllByRecursion CalleesBeside ds → AllByRecursion (EveryDecl (own_rules (facts.own p h))) ds → AllByRecursion (EveryDecl (old_names (facts.own p h))) ds →
      AllByRecursion (EveryDecl (well_placed n.names)) (flat_map (bodies_of g) ds) → AllByRecursion IsMetThere (flat_map (bodies_of g) ds)
  bodies-copied [] at beside every old v = tt
  bodies-copied (d ∷ ds) at beside every old v =
      all_joined IsMetThere (bodies_of g d) (flat_map (bodies_of g) ds) (decl-copies d at.0 beside.0 every.0 old.0 (all_front (EveryDecl (well_placed n.names)) (bodies_of g d) (flat_map (bodies_of g) ds) v))
      (bodies-copied ds at.1 beside.1 every.1 old.1 (all_back (EveryDecl (well_placed n.names)) (bodies_of g d) (flat_map (bodies_of g) ds) v))
