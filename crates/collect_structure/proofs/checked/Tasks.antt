-- The places of the tasks of a collecting text: the tasks of the normal form with the formal of the caller, and the recorder.
use Rattle.std.proofs.Common.{◌≡◌, ℕ, suc, ◌+◌, ◌≤◌, ◌==◌, true, if◌then◌else◌, List, [], ◌∷◌, ◌++◌, length, map, flat_map, None, refl, ap, arith}
use Rattle.std.specs.List.{AllByRecursion, list_any}
use Rattle.std.proofs.lemmas.List.Elements.{recursion_from_All}
use Rattle.common_lemmas.proofs.Lists.{all_front, all_back, all_joined, all_three, all_first, all_second, all_unflat, all_flat}
use Rattle.ada_tree.specs.declared.naming.Span.{Span}
use Rattle.ada_tree.specs.declared.naming.Word.{Word}
use Rattle.ada_tree.specs.PlainDecl.{PEntry, PTask, DTask}
use Rattle.ada_tree.specs.PlainProgram.{PProgram}
use Rattle.ada_tree.specs.Every.{Rules, EveryEntry, EveryPriority, EveryDecl}
use Rattle.syn_event.specs.declared.limits.What.TheVariants.{Formals}
use Rattle.syn_event.specs.CheckScope.{CheckScope, CheckSite, declares, needs_body, counts}
use Rattle.syn_event.specs.CheckSites as check
use Rattle.syn_event.specs.DeclaredTasks.{text_of}
use Rattle.task_laws.proofs.legal.sites.Around.{test-holds}
use Rattle.normal_model.specs.Ranges.{word_at}
use Rattle.normal_laws.proofs.structure.numbers.Named.{Has}
use Rattle.normal_laws.proofs.structure.checked.Places.{met-name, passed-not}
use Rattle.replay_structure.specs.checked.Checkable.{IsSameEntry, IsSameDecl}
use Rattle.collect_model.specs.Names.{caller_text, recorder_text, note_text, kind_text, subject_text, argument_text, index_text, owner_text, reply_text, added_texts, collect_names, added_in}
use Rattle.collect_model.specs.CollectTree.{entry_telling, task_telling}
use Rattle.collect_model.specs.Recording.{note_formals, recorder_declared}
use Rattle.collect_structure.specs.Names.{added_id, kept_names}
use Rattle.collect_structure.specs.checked.Checkable.{HasFewFormals}
use Rattle.collect_structure.proofs.checked.Names.{added-text}
use Rattle.collect_structure.proofs.checked.Stays.{IsTextMet, UsesStay, name-stays, stay-out}
use Rattle.replay_structure.proofs.checked.Plain.{family-stays, formals-there, priorities-stay}
use Rattle.replay_structure.proofs.checked.Stays.{IsFormMet}

module _ (q : PProgram) (d : CheckScope) where
  abbrev M' : CheckSite → Type 0
  M' = IsTextMet q

  abbrev At' : List CheckSite → Type 0
  At' xs = AllByRecursion M' xs

  -- an added name is declared
  pub added-declared : (t : List ℕ) (s : Span) → Has added_texts t → length t ≤ 150 → M' (check.site d (declares (word_at s (added_id q t))))
  added-declared t s h l =
      let e : length (text_of (collect_names q) (added_id q t)) ≡ length t = ap (λ (u : List ℕ). length u) (added-text q t h) in
      met-name (collect_names q) d (word_at s (added_id q t)) (omega (arith, e, l))

  -- a task has a body
  body-there : (bodies : List ℕ) (w : Word) (s : Span) → list_any (λ n. n == w.name.0) bodies ≡ true → M' (check.site d (needs_body bodies w s))
  body-there bodies w s h =
      record { shared = refl; accepts = refl; selects = refl; twice = refl; reserved = refl; main = refl; order = refl; bodies = ap (λ t. if t then [] else s ∷ []) h; exits = refl; raises = refl; limits = refl }

  formal-counted : (n : ℕ) (s : Span) → n + 1 ≤ 17 → M' (check.site d (counts Formals n 1 s))
  formal-counted n s h =
      record { shared = refl; accepts = refl; selects = refl; twice = refl; reserved = refl; main = refl; order = refl; bodies = refl; exits = refl; raises = refl; limits = passed-not Formals 17 n 1 s h }

  formals-counted : (n : ℕ) (ss : List Span) → n + length ss ≤ 17 → At' (check.numbered d Formals n ss)
  formals-counted n [] h = tt
  formals-counted n (s ∷ ss) h = (formal-counted n s (omega (arith, h)), formals-counted (n + 1) ss (omega (arith, h)))

  -- ---- the recorder

  -- the names of its entry's formals
  pub note-named : (s : Span) → At' (check.names_sites d (check.formal_names (note_formals (added_in (collect_names q)) s)))
  note-named s = (
    added-declared kind_text s refl (omega arith),
    (
      added-declared subject_text s refl (omega arith),
      (
        added-declared argument_text s refl (omega arith),
        (added-declared index_text s refl (omega arith), (added-declared owner_text s refl (omega arith), (added-declared reply_text s refl (omega arith), tt))),
      ),
    ),
  )

  pub recorder-met : (bodies : List ℕ) (s : Span) → list_any (λ k. k == (added_id q recorder_text).0) bodies ≡ true → At' (check.decl_sites d bodies (recorder_declared (added_in (collect_names q)) s))
  recorder-met bodies s h = (
    body-there bodies (word_at s (added_id q recorder_text)) s h,
    (
      added-declared recorder_text s refl (omega arith),
      let ws : List Word = check.formal_names (note_formals (added_in (collect_names q)) s) in
          let counted : List CheckSite = check.numbered d Formals 0 (map (λ (w : Word). w.span) ws) in
          let here : At' (check.names_sites d ws ++ counted) = all_joined M' (check.names_sites d ws) counted (note-named s) (formals-counted 0 (map (λ (w : Word). w.span) ws) (omega arith)) in
          let entry : At' (check.entry_sites d (record { name = word_at s (added_id q note_text); family = None; formals = note_formals (added_in (collect_names q)) s; span = s })) = (added-declared note_text s refl (omega arith), here) in
          all_joined M' (check.entry_sites d (record { name = word_at s (added_id q note_text); family = None; formals = note_formals (added_in (collect_names q)) s; span = s }) ++ []) [] (all_joined M' (check.entry_sites d (record { name = word_at s (added_id q note_text); family = None; formals = note_formals (added_in (collect_names q)) s; span = s })) [] entry tt) tt,
    ),
  )

-- ---- the tasks of the normal form

module _ (q : PProgram) (c d : CheckScope) (use_stays : UsesStay q c d) where
  abbrev r : Rules
  r = kept_names q

  abbrev M : CheckSite → Type 0
  M = IsFormMet q

  -- what stands in an entry beside its name
  abbrev rest_sites : CheckScope → PEntry → List CheckSite
  rest_sites around e = check.if_there (check.family_sites around) e.family ++ check.names_sites around (check.formal_names e.formals) ++ check.numbered around Formals 0 (map (λ w. w.span) (check.formal_names e.formals))

  spans-long : (ws : List Word) → length (map (λ (w : Word). w.span) ws) ≡ length ws
  spans-long [] = refl
  spans-long (w ∷ ws) = ap suc (spans-long ws)

  rest-met : (e : PEntry) → EveryEntry r e → IsSameEntry c.types d.types e → HasFewFormals e → AllByRecursion M (rest_sites c e) → AllByRecursion (IsTextMet q) (rest_sites d (entry_telling (added_in (collect_names q)) e))
  rest-met e h t few m =
      let family : List CheckSite = check.if_there (check.family_sites c) e.family in
      let formals : List CheckSite = check.names_sites c (check.formal_names e.formals) in
      let spans : List Span = map (λ (w : Word). w.span) (check.formal_names e.formals) in
      let long : length spans ≡ length (check.formal_names e.formals) = spans-long (check.formal_names e.formals) in
      all_three (IsTextMet q) (check.if_there (check.family_sites d) e.family) (check.names_sites d (check.formal_names (entry_telling (added_in (collect_names q)) e).formals)) (check.numbered d Formals 0 (e.name.span ∷ spans))
      (family-stays (stay-out q c d use_stays) e.family t h.2 (all_first M family formals (check.numbered c Formals 0 spans) m))
      (added-declared q d caller_text e.name.span refl (omega arith), formals-there (stay-out q c d use_stays) e.formals h.3 (all_second M family formals (check.numbered c Formals 0 spans) m))
      (formals-counted q d 0 (e.name.span ∷ spans) (omega (arith, few, long)))

  entries-met : (es : List PEntry) → AllByRecursion (EveryEntry r) es → AllByRecursion (IsSameEntry c.types d.types) es → AllByRecursion HasFewFormals es → AllByRecursion (λ e. AllByRecursion M (check.entry_sites c e)) es →
      AllByRecursion (λ e. AllByRecursion (IsTextMet q) (check.entry_sites d e)) (map (entry_telling (added_in (collect_names q))) es)
  entries-met [] h t few m = tt
  entries-met (e ∷ es) h t few m = ((name-stays q c d e.name h.0.1 m.0.0, rest-met e h.0 t.0 few.0 m.0.1), entries-met es h.1 t.1 few.1 m.1)

  -- a task whose entries have a formal more
  pub task-met : (bodies bodies' : List ℕ) (t : PTask) (s : Span) → (list_any (λ n. n == t.name.name.0) bodies ≡ true → list_any (λ n. n == t.name.name.0) bodies' ≡ true) → EveryDecl r (DTask t s) → IsSameDecl c.types d.types (DTask t s) →
      AllByRecursion HasFewFormals t.entries → AllByRecursion M (check.decl_sites c bodies (DTask t s)) → AllByRecursion (IsTextMet q) (check.decl_sites d bodies' (DTask (task_telling (added_in (collect_names q)) t) s))
  task-met bodies bodies' t s there h same few m =
      let priorities : List CheckSite = flat_map (λ p. check.expr_sites c 2 p.value) t.priorities in
      let each : AllByRecursion (λ e. AllByRecursion M (check.entry_sites c e)) t.entries = all_unflat M (check.entry_sites c) t.entries (all_front M (flat_map (check.entry_sites c) t.entries) priorities m.1.1) in
      let every : AllByRecursion (EveryEntry r) t.entries = recursion_from_All (EveryEntry r) t.entries h.1.1 in
      let told : List PEntry = map (entry_telling (added_in (collect_names q))) t.entries in (
        body-there q d bodies' t.name s (there (test-holds (list_any (λ n. n == t.name.name.0) bodies) s m.0.bodies)),
        (
          name-stays q c d t.name h.1.0 m.1.0,
          all_joined (IsTextMet q) (flat_map (check.entry_sites d) told) (flat_map (λ p. check.expr_sites d 2 p.value) t.priorities)
              (all_flat (IsTextMet q) (check.entry_sites d) told (entries-met t.entries every same few each))
              (priorities-stay (stay-out q c d use_stays) t.priorities (recursion_from_All (EveryPriority r) t.priorities h.1.2) (all_back M (flat_map (check.entry_sites c) t.entries) priorities m.1.1)),
        ),
      )
