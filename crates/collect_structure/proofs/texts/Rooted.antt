-- The tables of a program and of its collecting text.
use Rattle.std.proofs.Common.{◌≡◌, ℕ, ◌==◌, Bool, true, false, List, [], ◌∷◌, ◌++◌, map, refl, sym, ap, ◌∙◌, subst}
use Rattle.std.specs.List.{AllByRecursion, list_any}
use Rattle.std.proofs.lemmas.Bool.{eqb-true}
use Rattle.ada_tree.specs.TypeTable.{TypeTable}
use Rattle.ada_tree.specs.PlainDecl.{PDecl, DTask, DTaskBody, PDecls, decls_of, PTask}
use Rattle.ada_tree.specs.PlainProgram.{PProgram}
use Rattle.ada_static_rules.specs.Scope.{Scope}
use Rattle.ada_static_rules.specs.Declaring.{first_scope, after_decls}
use Rattle.ada_static_rules.specs.Refusals.{types_in}
use Rattle.syn_event.specs.Numbering.{Numbering}
use Rattle.syn_event.specs.DeclaredTasks.{text_of, decl_list, tasks_in, tasks_of}
use Rattle.task_model.specs.Setting.{Setting}
use Rattle.normal_model.specs.NormalTree.{first_decls, main_unit, normal_tree}
use Rattle.normal_model.proofs.VariablesLemmas.{Begins, begins-trans}
use Rattle.normal_model.proofs.WalkLemmas.{listed-front}
use Rattle.task_laws.specs.legal.rewritten_types.Agreement.{Rooted}
use Rattle.task_laws.specs.legal.rewritten_types.Rewriting.{IsAdded}
use Rattle.task_laws.specs.legal.rewritten_types.Laws.{behind}
use Rattle.task_laws.proofs.legal.rewritten_types.Rooting.{rewritten_is_rooted, rooted_agrees}
use Rattle.task_laws.specs.legal.rewritten_values.Values.{old_names}
use Rattle.normal_laws.specs.structure.types.Own.{own_name}
use Rattle.normal_laws.specs.structure.types.Laws.{setting_of, AreOwn, IsOrdered}
use Rattle.normal_laws.proofs.structure.types.Names.{fold-begins, added_names_are_new}
use Rattle.normal_laws.proofs.structure.types.Variables.{are-added, unit-new}
use Rattle.normal_laws.proofs.structure.types.Fronts.{first_decls_are_front}
use Rattle.normal_laws.proofs.structure.types.Normal.{front-after, first-every}
use Rattle.normal_laws.proofs.structure.numbers.Named.{text-there, Has, has-folded, IsReserved, reserved-new}
use Rattle.normal_laws.proofs.structure.numbers.Listed.{firsts, vars, tasks, bodies, IsPlain, IsOneBody, tasks-all, bodies-all}
use Rattle.normal_laws.proofs.structure.numbers.TaskNames.{normal-begins}
use Rattle.replay_model.specs.ReplayTree.{last_task, normal_setting}
use Rattle.replay_structure.proofs.texts.Listed.{normal-plain, normal-tasks, normal-bodies}
use Rattle.collect_model.specs.Names.{flags_text, answer_text, part_text, added_texts, with_added, collect_names}
use Rattle.collect_model.specs.Teller.{Teller, teller_in}
use Rattle.collect_model.specs.CollectTree.{is_int_io, main_declared, behind_own, collect_decl, units_told, recorder_body_told, collect_decls, task_telling, objects_told}
use Rattle.collect_structure.specs.Names.{added_id}
use Rattle.collect_structure.specs.texts.Laws.{CollectIsRooted, CollectAgrees}
use Rattle.collect_structure.proofs.texts.Listed.{all-behind, behind-front, all-main, main-plain}
use Rattle.ada_tree.specs.declared.naming.Span.{Span}
use Rattle.ada_tree.specs.declared.naming.Word.{Word}
use Rattle.ada_tree.specs.PlainStmt.{PBody}
use Rattle.collect_model.specs.declared.AddedNames.{AddedNames}
use Rattle.collect_model.specs.Recording.{recorder_declared}
use Rattle.collect_structure.proofs.texts.Telling.{IsTelling, told_with, recorder_tasks, all-told, text-tasks}
use Rattle.replay_structure.proofs.texts.Rooted.{append_assoc4, own-objects}

-- ---- names

-- the names of a collecting text begin with those of the normal form
pub collect-begins : (q : PProgram) → Begins q.names (collect_names q)
unfolding with_added
collect-begins q = fold-begins added_texts q.names

-- the names that every text adds are there
pub collect-has : (q : PProgram) (t : List ℕ) → Has added_texts t → Has (collect_names q) t
unfolding with_added
collect-has q t h = has-folded added_texts q.names t h

-- two of them have two ids
pub ids-apart : (q : PProgram) (a b : List ℕ) → Has added_texts a → Has added_texts b → (a ≡ b → ⊥) → ((added_id q a).0 == (added_id q b).0) ≡ false
ids-apart q a b has_a has_b apart = by_test ((added_id q a).0 == (added_id q b).0) refl
  where
    by_test : (c : Bool) → ((added_id q a).0 == (added_id q b).0) ≡ c → c ≡ false
    by_test false e = refl
    by_test true e =
        let n : (added_id q a).0 ≡ (added_id q b).0 = eqb-true _ _ e in
        absurd (apart (sym (text-there (collect_names q) a (collect-has q a has_a)) ∙ (λ i. text_of (collect_names q) record { 0 = n i }) ∙ text-there (collect_names q) b (collect-has q b has_b)))

module _ (p : PProgram) (types : TypeTable) (numbers : Numbering) where
  -- the names of the program stand in front
  pub text-begins : Begins p.names (collect_names (normal_tree p types numbers))
  text-begins = begins-trans (normal-begins p types numbers) (collect-begins (normal_tree p types numbers))

  -- a text that begins with DED_ is no own name
  pub added-is-new : (t : List ℕ) → Has added_texts t → IsReserved t → own_name p (added_id (normal_tree p types numbers) t).0 ≡ false
  added-is-new t h r = reserved-new p (collect_names (normal_tree p types numbers)) t text-begins (collect-has (normal_tree p types numbers) t h) r

-- ---- declarations

-- a collecting text is told
pub collect-tells : (x : Teller) (names : List (List ℕ)) → IsTelling x.added (collect_decl x names)
collect-tells x names = record { task = λ t s. refl; body = λ w objects its s. refl; other = kept }
  where
    kept : (d : PDecl) → IsPlain d → collect_decl x names d ≡ d
    kept (DTask t s) h = absurd h
    kept (DTaskBody w objects its s) h = absurd h
    kept d h = refl

-- the objects of main are plain ones
pub objects-plain : (x : Teller) (q : PProgram) (objects : List PDecl) → AllByRecursion IsPlain objects → AllByRecursion IsPlain (objects_told x q objects)
objects-plain x q objects h = all-behind IsPlain q.names _ objects (main-plain x.added q.name.span _ _) h

-- The tasks of a collecting text: those of the normal form with further formals, and behind them the recorder.
pub collect-tasks : (x : Teller) (q : PProgram) → tasks_in (collect_decls x q (decl_list q.decls)) ≡ map (task_telling x.added) (tasks_of q) ++ recorder_tasks x.added q
collect-tasks x q =
    text-tasks x.added (collect_decl x q.names) (collect-tells x q.names) q _ (recorder_body_told x q) (main-plain x.added q.name.span _ (last_task x.numbers)) tt

-- The tables of a program and of a text that is told.
module _ (p : PProgram) (types : TypeTable) (numbers : Numbering) (own : AreOwn p p.decls)
    (n : AddedNames) (f : PDecl → PDecl) (tells : IsTelling n f) (more : List PDecl) (last : PDecl) where
  abbrev normal_form : PProgram
  normal_form = normal_tree p types numbers

  -- what stands behind the first declarations
  abbrev pub told_behind : List PDecl
  told_behind =
      told_with normal_form.names more f (recorder_declared n normal_form.name.span) last (vars p types numbers) (tasks p types numbers) (bodies p types numbers)

  -- the declarations of the text are the first declarations and these
  pub told-list : told_with normal_form.names more f (recorder_declared n normal_form.name.span) last (firsts p types numbers ++ vars p types numbers) (tasks p types numbers)
      (bodies p types numbers) ≡ firsts p types numbers ++ told_behind
  told-list =
      let its = map f (tasks p types numbers) in
      let copies = map f (bodies p types numbers) in
      let recorder = recorder_declared n normal_form.name.span ∷ [] in
      ap (λ l. l ++ its ++ recorder ++ copies ++ (last ∷ []))
      (behind-front normal_form.names more (firsts p types numbers) (vars p types numbers)
      (own-objects p normal_form.names (first_decls [] p.decls) (normal-begins p types numbers) (first-every (old_names (own_name p)) p.decls [] own)))
      ∙ append_assoc4 (firsts p types numbers) (behind_own normal_form.names more (vars p types numbers)) its recorder copies (last ∷ [])

  -- what holds of each declaration that is added holds of all that stands behind the first ones
  pub all-told-behind : (P : PDecl → Type 0) → ((t : PTask) (s : Span) → t.of_kind ≡ false → P (DTask (task_telling n t) s)) →
      ((w : Word) (objects : PDecls) (its : PBody) (s : Span) → P (DTaskBody w objects its s)) → AllByRecursion P more → AllByRecursion P (vars p types numbers) →
      P (recorder_declared n normal_form.name.span) → IsOneBody last → AllByRecursion P told_behind
  all-told-behind P each every m v r one =
      let g = setting_of p types numbers in
      all-told n f tells P normal_form.names more (recorder_declared n normal_form.name.span) last (vars p types numbers) (tasks p types numbers) (bodies p types numbers)
      each every m v (tasks-all g) r (bodies-all g) one

  -- The table of the text keeps that of the first declarations.
  pub told-rooted : IsOrdered p → AllByRecursion (IsAdded (own_name p)) more → IsOneBody last →
      Rooted (own_name p) (behind p.name (first_decls [] p.decls)).types (types_in p) (after_decls (first_scope p.name) (decls_of (firsts p types numbers ++ told_behind))).types
  told-rooted ordered new one =
      let old = own_name p in
      let first = first_decls [] p.decls in
      let g = setting_of p types numbers in
      let variables = unit-new old (main_unit g) (added_names_are_new g) p.body in
      let added = are-added old told_behind (all-told-behind (IsAdded old) (λ t s single. tt) (λ w objects its s. tt) new variables tt one) in
      subst (λ (l : PDecls). Rooted old (behind p.name first).types (types_in p) (after_decls (first_scope p.name) l).types) (sym (listed-front first told_behind))
      (subst (λ (c : Scope). Rooted old (behind p.name first).types (types_in p) c.types) (sym (front-after first (decls_of told_behind) (first_scope p.name)))
      (rewritten_is_rooted old p.name p.decls first (decls_of told_behind) (first_decls_are_front p ordered) added))

module _ (p : PProgram) (types : TypeTable) (numbers : Numbering) (own : AreOwn p p.decls) where
  abbrev pub normal : PProgram
  normal = normal_tree p types numbers

  abbrev pub form : Setting
  form = normal_setting p types numbers

  -- what main is told
  abbrev pub told : Teller
  told = teller_in (main_unit form)

  -- what main declares more
  abbrev pub more : List PDecl
  more = main_declared told.added p.name.span (list_any is_int_io (firsts p types numbers ++ vars p types numbers)) (last_task form.numbers)

  -- what stands behind the first declarations
  abbrev pub added_of : List PDecl
  added_of = told_behind p types numbers own told.added (collect_decl told normal.names) (collect-tells told normal.names) more (recorder_body_told told normal)

  -- the declarations of the collecting text are the first declarations and these
  pub collect-list : collect_decls told normal (decl_list normal.decls) ≡ firsts p types numbers ++ added_of
  collect-list =
      (λ i. units_told told normal (normal-plain p types numbers i) (normal-tasks p types numbers i) (normal-bodies p types numbers i))
      ∙ told-list p types numbers own told.added (collect_decl told normal.names) (collect-tells told normal.names) more (recorder_body_told told normal)

  more-new : AllByRecursion (IsAdded (own_name p)) more
  more-new =
      all-main (IsAdded (own_name p)) told.added p.name.span _ (last_task form.numbers) (
        tt,
        (added-is-new p types numbers flags_text refl refl, ((added-is-new p types numbers answer_text refl refl, tt), ((added-is-new p types numbers part_text refl refl, tt), tt))),
      )

pub collect_is_rooted : CollectIsRooted
collect_is_rooted p types numbers ordered own =
    let x = told p types numbers own in
    let names = (normal p types numbers own).names in
    subst (λ (l : PDecls). Rooted (own_name p) (behind p.name (first_decls [] p.decls)).types (types_in p) (after_decls (first_scope p.name) l).types)
    (sym (ap decls_of (collect-list p types numbers own)))
    (told-rooted p types numbers own x.added (collect_decl x names) (collect-tells x names) (more p types numbers own) (recorder_body_told x (normal p types numbers own)) ordered
    (more-new p types numbers own) tt)

pub collect_agrees : CollectAgrees
collect_agrees p types numbers ordered own = rooted_agrees (own_name p) (behind p.name (first_decls [] p.decls)).types _ _ (collect_is_rooted p types numbers ordered own)
