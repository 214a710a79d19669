-- The tables of a program and of its replay text.
use Rattle.std.proofs.Common.{◌≡◌, ℕ, ◌==◌, Bool, true, false, List, [], ◌∷◌, ◌++◌, map, flat_map, refl, sym, ap, ◌∙◌, subst, append_assoc, arith}
use Rattle.std.specs.List.{AllByRecursion}
use Rattle.std.proofs.lemmas.Bool.{eqb-true}
use Rattle.ada_tree.specs.declared.naming.Span.{Span}
use Rattle.ada_tree.specs.TypeTable.{TypeTable}
use Rattle.ada_tree.specs.PlainDecl.{PDecl, DNumber, DObject, DEnumeration, DArray, DSubtype, DException, DIntIo, DPragma, DTask, DTaskBody, PDecls, no_decl, decl_then, decls_of}
use Rattle.ada_tree.specs.PlainProgram.{PProgram}
use Rattle.ada_tree.specs.Every.{EveryDecl, EveryDecls}
use Rattle.ada_static_rules.specs.Scope.{Scope}
use Rattle.ada_static_rules.specs.Declaring.{first_scope, after_decls}
use Rattle.ada_static_rules.specs.Refusals.{types_in}
use Rattle.syn_event.specs.Numbering.{Numbering}
use Rattle.syn_event.specs.DeclaredTasks.{text_of, decl_list, tasks_of}
use Rattle.control_script.specs.declared.Op.{Op}
use Rattle.task_model.specs.Setting.{Setting}
use Rattle.normal_model.specs.NormalTree.{first_decls, main_unit, normal_tree}
use Rattle.normal_model.proofs.VariablesLemmas.{Begins, begins-trans}
use Rattle.replay_model.specs.Names.{kind_text, argument_text, index_text, added_texts, double_texts, replay_names, added_id}
use Rattle.replay_model.specs.ReplayTree.{is_added_object, behind_own, permit_declared, replay_decl, last_task, replay_decls, normal_setting, script_of}
use Rattle.replay_model.specs.Controlling.{control_declared, idle_declared, control_body, idle_body}
use Rattle.task_laws.specs.legal.rewritten_types.Agreement.{Rooted}
use Rattle.task_laws.specs.legal.rewritten_types.Rewriting.{IsAdded, AreAdded}
use Rattle.task_laws.specs.legal.rewritten_types.Laws.{behind}
use Rattle.task_laws.proofs.legal.rewritten_types.Rooting.{rewritten_is_rooted, rooted_agrees}
use Rattle.task_laws.specs.legal.rewritten_values.Values.{old_names}
use Rattle.normal_laws.specs.structure.types.Own.{own_name}
use Rattle.normal_laws.specs.structure.types.Laws.{setting_of, AreOwn}
use Rattle.normal_laws.proofs.structure.types.Names.{fold-begins, added_names_are_new}
use Rattle.normal_laws.proofs.structure.types.Variables.{IsTaskOrBody, are-added, task-added, tasks-only, bodies-only, unit-new}
use Rattle.normal_laws.proofs.structure.types.Fronts.{first_decls_are_front}
use Rattle.normal_laws.proofs.structure.types.Normal.{front-after, first-every}
use Rattle.replay_structure.specs.texts.Laws.{ReplayIsRooted, ReplayAgrees}
use Rattle.normal_laws.proofs.structure.numbers.Named.{text-there, Has, has-folded, has-front, added-longer, reserved-new, own-within, own-not-added}
use Rattle.normal_laws.proofs.structure.numbers.Listed.{firsts, vars, tasks, bodies}
use Rattle.normal_laws.proofs.structure.numbers.TaskNames.{normal-begins}
use Rattle.replay_structure.proofs.texts.Listed.{all-behind, behind-front, normal-plain, normal-tasks, normal-bodies}
use Rattle.common_lemmas.proofs.Lists.{all_joined, all_weaker}
use Rattle.normal_model.proofs.WalkLemmas.{listed-front}

-- ---- names

-- the names of a replay text begin with those of the normal form
pub replay-begins : (q : PProgram) → Begins q.names (replay_names q)
replay-begins q = fold-begins (added_texts ++ flat_map (double_texts q.names) (tasks_of q)) q.names

-- the names that every text adds are there
pub replay-has : (q : PProgram) (t : List ℕ) → Has added_texts t → Has (replay_names q) t
replay-has q t h = has-folded (added_texts ++ flat_map (double_texts q.names) (tasks_of q)) q.names t (has-front added_texts (flat_map (double_texts q.names) (tasks_of q)) t h)

-- two of them have two ids
pub ids-apart : (q : PProgram) (a b : List ℕ) → Has added_texts a → Has added_texts b → (a ≡ b → ⊥) → ((added_id q a).0 == (added_id q b).0) ≡ false
ids-apart q a b has_a has_b apart = by_test ((added_id q a).0 == (added_id q b).0) refl
  where
    by_test : (c : Bool) → ((added_id q a).0 == (added_id q b).0) ≡ c → c ≡ false
    by_test false e = refl
    by_test true e =
        let n : (added_id q a).0 ≡ (added_id q b).0 = eqb-true _ _ e in
        absurd (apart (sym (text-there (replay_names q) a (replay-has q a has_a)) ∙ (λ i. text_of (replay_names q) record { 0 = n i }) ∙ text-there (replay_names q) b (replay-has q b has_b)))

module _ (p : PProgram) (types : TypeTable) (numbers : Numbering) where
  -- the names of the program stand in front
  pub text-begins : Begins p.names (replay_names (normal_tree p types numbers))
  text-begins = begins-trans (normal-begins p types numbers) (replay-begins (normal_tree p types numbers))

  -- the variables of a permit have new names
  permit-new : (s : Span) → IsAdded (own_name p) (permit_declared (normal_tree p types numbers) s)
  permit-new s =
      let n = normal_tree p types numbers in
      (reserved-new p (replay_names n) kind_text text-begins (replay-has n kind_text refl) refl, (reserved-new p (replay_names n) argument_text text-begins (replay-has n argument_text refl) refl, (reserved-new p (replay_names n) index_text text-begins (replay-has n index_text refl) refl, tt)))

-- ---- declarations

-- a task or a body is one in the replay text
replayed-unit : (g : Setting) (d : PDecl) → IsTaskOrBody d → IsTaskOrBody (replay_decl g d)
replayed-unit g (DTask t s) h = tt
replayed-unit g (DTaskBody w objects its s) h = tt
replayed-unit g (DNumber w e s) h = absurd h
replayed-unit g (DObject ws c x i s) h = absurd h
replayed-unit g (DEnumeration w ws s) h = absurd h
replayed-unit g (DArray w r x s) h = absurd h
replayed-unit g (DSubtype w x s) h = absurd h
replayed-unit g (DException ws s) h = absurd h
replayed-unit g (DIntIo w s) h = absurd h
replayed-unit g (DPragma e s) h = absurd h

replayed-units : (g : Setting) (ds : List PDecl) → AllByRecursion IsTaskOrBody ds → AllByRecursion IsTaskOrBody (map (replay_decl g) ds)
replayed-units g [] h = tt
replayed-units g (d ∷ ds) h = (replayed-unit g d h.0, replayed-units g ds h.1)

-- an object that has an own name first is no variable of the normal form
pub own-object : (p : PProgram) (names : List (List ℕ)) (d : PDecl) → Begins p.names names → EveryDecl (old_names (own_name p)) d → is_added_object names d ≡ false
own-object p names (DObject [] c x i s) b h = refl
own-object p names (DObject (w ∷ ws) c x i s) b h =
    let own : own_name p w.name.0 ≡ true = h.1.1 0 w (omega arith) in
    added-longer p.names names w.name b (own-within p w.name.0 own) ∙ own-not-added p w.name own
own-object p names (DTask t s) b h = refl
own-object p names (DTaskBody w objects its s) b h = refl
own-object p names (DNumber w e s) b h = refl
own-object p names (DEnumeration w ws s) b h = refl
own-object p names (DArray w r x s) b h = refl
own-object p names (DSubtype w x s) b h = refl
own-object p names (DException ws s) b h = refl
own-object p names (DIntIo w s) b h = refl
own-object p names (DPragma e s) b h = refl

pub own-objects : (p : PProgram) (names : List (List ℕ)) (ds : PDecls) → Begins p.names names → EveryDecls (old_names (own_name p)) ds → AllByRecursion (λ d. is_added_object names d ≡ false) (decl_list ds)
own-objects p names no_decl b h = tt
own-objects p names (decl_then d ds) b h = (own-object p names d b h.0, own-objects p names ds b h.1)

-- lists one behind the other, and one in front
pub append_assoc4 : (x a b c d e : List PDecl) → x ++ a ++ b ++ c ++ d ++ e ≡ x ++ (a ++ b ++ c ++ d ++ e)
append_assoc4 x a b c d e =
    ap (λ l. l ++ e) (ap (λ l. l ++ d) (ap (λ l. l ++ c) (append_assoc x a b) ∙ append_assoc x (a ++ b) c) ∙ append_assoc x (a ++ b ++ c) d)
    ∙ append_assoc x (a ++ b ++ c ++ d) e

module _ (p : PProgram) (types : TypeTable) (numbers : Numbering) (ops : List Op) (own : AreOwn p p.decls) where
  abbrev pub normal : PProgram
  normal = normal_tree p types numbers

  abbrev pub form : Setting
  form = normal_setting p types numbers

  -- what stands behind the first declarations
  abbrev pub added_of : Span → List PDecl
  added_of s =
      behind_own normal.names (permit_declared normal s) (vars p types numbers)
      ++ map (replay_decl form) (tasks p types numbers)
      ++ (control_declared normal s (last_task form.numbers) ∷ idle_declared normal s ∷ [])
      ++ map (replay_decl form) (bodies p types numbers)
      ++ (control_body form s ops ∷ idle_body normal s ∷ [])

  -- the declarations of the replay text are the first declarations and these
  pub replay-list : (s : Span) → replay_decls form s ops ≡ firsts p types numbers ++ added_of s
  replay-list s =
      let permit = permit_declared normal s in
      let control = control_declared normal s (last_task form.numbers) ∷ idle_declared normal s ∷ [] in
      let last = control_body form s ops ∷ idle_body normal s ∷ [] in
      let put = behind_own normal.names permit (vars p types numbers) in
      (λ i. behind_own normal.names permit (normal-plain p types numbers i)
      ++ map (replay_decl form) (normal-tasks p types numbers i) ++ control ++ map (replay_decl form) (normal-bodies p types numbers i) ++ last)
      ∙ ap (λ l. l ++ map (replay_decl form) (tasks p types numbers) ++ control ++ map (replay_decl form) (bodies p types numbers) ++ last)
      (behind-front normal.names permit (firsts p types numbers) (vars p types numbers)
      (own-objects p normal.names (first_decls [] p.decls) (normal-begins p types numbers) (first-every (old_names (own_name p)) p.decls [] own)))
      ∙ append_assoc4 (firsts p types numbers) put (map (replay_decl form) (tasks p types numbers)) control (map (replay_decl form) (bodies p types numbers)) last

  added-new : (s : Span) → AreAdded (own_name p) (decls_of (added_of s))
  added-new s =
      let old = own_name p in
      let g = setting_of p types numbers in
      are-added old (added_of s)
      (all_joined (IsAdded old) _ _
      (all_joined (IsAdded old) _ _
      (all_joined (IsAdded old) _ _
      (all_joined (IsAdded old) _ _
      (all-behind (IsAdded old) normal.names (permit_declared normal s) (vars p types numbers) (permit-new p types numbers s) (unit-new old (main_unit g) (added_names_are_new g) p.body))
      (all_weaker _ _ _ (task-added old) (replayed-units form (tasks p types numbers) (tasks-only g))))
      (tt, (tt, tt)))
      (all_weaker _ _ _ (task-added old) (replayed-units form (bodies p types numbers) (bodies-only g))))
      (tt, (tt, tt)))

pub replay_is_rooted : ReplayIsRooted
replay_is_rooted p types numbers events ordered own =
    let ops = script_of numbers events in
    let s = p.name.span in
    subst (λ (l : PDecls). Rooted (own_name p) (behind p.name (first_decls [] p.decls)).types (types_in p) (after_decls (first_scope p.name) l).types)
    (sym (ap decls_of (replay-list p types numbers ops own s) ∙ listed-front (first_decls [] p.decls) (added_of p types numbers ops own s)))
    (subst (λ (c : Scope). Rooted (own_name p) (behind p.name (first_decls [] p.decls)).types (types_in p) c.types)
    (sym (front-after (first_decls [] p.decls) (decls_of (added_of p types numbers ops own s)) (first_scope p.name)))
    (rewritten_is_rooted (own_name p) p.name p.decls (first_decls [] p.decls) (decls_of (added_of p types numbers ops own s)) (first_decls_are_front p ordered) (added-new p types numbers ops own s)))

pub replay_agrees : ReplayAgrees
replay_agrees p types numbers events ordered own = rooted_agrees (own_name p) (behind p.name (first_decls [] p.decls)).types _ _ (replay_is_rooted p types numbers events ordered own)
