-- The places of the tasks of a replay text: the tasks of the normal form with their further entries, the controller and the idle task.
use Rattle.std.proofs.Common.{◌≡◌, ℕ, pos, ◌+ℤ◌, ◌-ℤ◌, ◌+◌, ◌≤◌, ◌==◌, true, if◌then◌else◌, List, [], ◌∷◌, ◌++◌, length, map, flat_map, codes, None, refl, ap, length-append, arith}
use Rattle.std.specs.List.{AllByRecursion, list_any}
use Rattle.std.proofs.lemmas.List.Elements.{recursion_from_All}
use Rattle.common_lemmas.proofs.Lists.{all_front, all_back, all_joined, all_three, all_first, all_second, all_third, all_unflat, all_flat}
use Rattle.common_lemmas.proofs.Numbers.{int_more_zero}
use Rattle.ada_tree.specs.declared.naming.Span.{Span}
use Rattle.ada_tree.specs.declared.naming.Word.{Word}
use Rattle.ada_tree.specs.PlainExpr.{EInteger, RGiven}
use Rattle.ada_tree.specs.PlainDecl.{PEntry, PTask, DTask}
use Rattle.ada_tree.specs.PlainProgram.{PProgram}
use Rattle.ada_tree.specs.Every.{Rules, EveryEntry, EveryPriority, EveryDecl}
use Rattle.syn_event.specs.declared.limits.What.TheVariants.{Members, Formals}
use Rattle.syn_event.specs.CheckScope.{CheckScope, CheckSite, declares, needs_body, counts}
use Rattle.syn_event.specs.CheckSites as check
use Rattle.syn_event.specs.Extents.{size, count_to}
use Rattle.syn_event.specs.DeclaredTasks.{text_of}
use Rattle.task_laws.proofs.legal.sites.Around.{test-holds}
use Rattle.normal_laws.proofs.structure.numbers.Named.{Has}
use Rattle.normal_laws.proofs.structure.checked.Places.{met-deep, met-name, passed-not}
use Rattle.replay_model.specs.Names.{kind_text, argument_text, index_text, control_text, go_text, done_text, hold_text, idle_text, stop_text, rest_text, never_text, join_text, added_texts, double_text, replay_names, added_id, added_word}
use Rattle.replay_model.specs.ReplayTree.{double_entry, more_entries}
use Rattle.replay_model.specs.Controlling.{added_entry, all_tasks, permit_formals, control_declared, idle_declared}
use Rattle.replay_structure.proofs.texts.Listed.{more_task}
use Rattle.replay_structure.specs.checked.Around.{kept_names}
use Rattle.replay_structure.specs.checked.Checkable.{IsSameEntry, IsSameDecl, IsShortEntry}
use Rattle.replay_structure.proofs.checked.Names.{added-text, IsDoubled}
use Rattle.replay_structure.proofs.checked.Stays.{IsFormMet, IsTextMet, UsesStay, name-stays, stay-out}
use Rattle.replay_structure.proofs.checked.Plain.{numbered-stay, family-stays, formals-there, priorities-stay}

module _ (q : PProgram) (d : CheckScope) where
  abbrev M' : CheckSite → Type 0
  M' = IsTextMet q

  abbrev At' : List CheckSite → Type 0
  At' xs = AllByRecursion M' xs

  -- ---- names that are added

  -- an added name is declared
  pub added-declared : (t : List ℕ) (s : Span) → Has added_texts t → length t ≤ 150 → M' (check.site d (declares (added_word q s t)))
  added-declared t s h l =
      let e : length (text_of (replay_names q) (added_id q t)) ≡ length t = ap (λ (u : List ℕ). length u) (added-text q t h) in
      met-name (replay_names q) d (added_word q s t) (omega (arith, e, l))

  -- a plain entry that is added
  added-entry : (t : List ℕ) (s : Span) → Has added_texts t → length t ≤ 150 → At' (check.entry_sites d (added_entry q s t None []))
  added-entry t s h l = (added-declared t s h l, tt)

  -- a task has a body
  body-there : (bodies : List ℕ) (w : Word) (s : Span) → list_any (λ n. n == w.name.0) bodies ≡ true → M' (check.site d (needs_body bodies w s))
  body-there bodies w s h =
      record { shared = refl; accepts = refl; selects = refl; twice = refl; reserved = refl; main = refl; order = refl; bodies = ap (λ t. if t then [] else s ∷ []) h; exits = refl; raises = refl; limits = refl }

  -- ---- families for all tasks

  range-size : (n : ℕ) → count_to ((pos n -ℤ pos 0) +ℤ pos 1) ≡ n + 1
  range-size n = ap (λ z. count_to (z +ℤ pos 1)) (int_more_zero (pos n))

  all-sized : (s : Span) (n : ℕ) → n ≤ 200 → At' (check.if_there (check.family_sites d) (all_tasks s n))
  all-sized s n le =
      let few : size d.types (RGiven (record { first = EInteger 0 s; last = EInteger n s })) ≤ 1000 = let e : size d.types (RGiven (record { first = EInteger 0 s; last = EInteger n s })) ≡ n + 1 = range-size n in omega (arith, e, le) in (
        record {
          shared = refl;
          accepts = refl;
          selects = refl;
          twice = refl;
          reserved = refl;
          main = refl;
          order = refl;
          bodies = refl;
          exits = refl;
          raises = refl;
          limits = passed-not Members 1000 0 (size d.types (RGiven (record { first = EInteger 0 s; last = EInteger n s }))) s (omega (arith, few));
        },
        (met-deep (replay_names q) d 2 s (omega arith), (met-deep (replay_names q) d 2 s (omega arith), tt)),
      )

  formal-counted : (n : ℕ) (s : Span) → n + 1 ≤ 17 → M' (check.site d (counts Formals n 1 s))
  formal-counted n s h =
      record { shared = refl; accepts = refl; selects = refl; twice = refl; reserved = refl; main = refl; order = refl; bodies = refl; exits = refl; raises = refl; limits = passed-not Formals 17 n 1 s h }

  -- ---- the controller and the idle task

  go-met : (s : Span) (n : ℕ) → n ≤ 200 → At' (check.entry_sites d (added_entry q s go_text (all_tasks s n) (permit_formals q s)))
  go-met s n le = (
    added-declared go_text s refl (omega arith),
    all_three M' (check.if_there (check.family_sites d) (all_tasks s n)) (check.names_sites d (check.formal_names (permit_formals q s))) (check.numbered d Formals 0 (map (λ w. w.span) (check.formal_names (permit_formals q s))))
        (all-sized s n le)
        (added-declared kind_text s refl (omega arith), (added-declared argument_text s refl (omega arith), (added-declared index_text s refl (omega arith), tt)))
        (formal-counted 0 s (omega arith), (formal-counted 1 s (omega arith), (formal-counted 2 s (omega arith), tt))),
  )

  done-met : (s : Span) (n : ℕ) → n ≤ 200 → At' (check.entry_sites d (added_entry q s done_text (all_tasks s n) []))
  done-met s n le = (
    added-declared done_text s refl (omega arith),
    all_three M' (check.if_there (check.family_sites d) (all_tasks s n)) [] [] (all-sized s n le) tt tt,
  )

  pub control-met : (bodies : List ℕ) (s : Span) (n : ℕ) → n ≤ 200 → list_any (λ k. k == (added_id q control_text).0) bodies ≡ true → At' (check.decl_sites d bodies (control_declared q s n))
  control-met bodies s n le h =
      let go : PEntry = added_entry q s go_text (all_tasks s n) (permit_formals q s) in
      let done : PEntry = added_entry q s done_text (all_tasks s n) [] in
      let hold : PEntry = added_entry q s hold_text None [] in (
        body-there bodies (added_word q s control_text) s h,
        (
          added-declared control_text s refl (omega arith),
          all_joined M' (flat_map (check.entry_sites d) (go ∷ done ∷ hold ∷ [])) []
              (all_flat M' (check.entry_sites d) (go ∷ done ∷ hold ∷ []) (go-met s n le, (done-met s n le, (added-entry hold_text s refl (omega arith), tt)))) tt,
        ),
      )

  pub idle-met : (bodies : List ℕ) (s : Span) → list_any (λ k. k == (added_id q idle_text).0) bodies ≡ true → At' (check.decl_sites d bodies (idle_declared q s))
  idle-met bodies s h =
      let stop : PEntry = added_entry q s stop_text None [] in
      let rest : PEntry = added_entry q s rest_text None [] in (
        body-there bodies (added_word q s idle_text) s h,
        (
          added-declared idle_text s refl (omega arith),
          all_joined M' (flat_map (check.entry_sites d) (stop ∷ rest ∷ [])) []
              (all_flat M' (check.entry_sites d) (stop ∷ rest ∷ []) (added-entry stop_text s refl (omega arith), (added-entry rest_text s refl (omega arith), tt))) tt,
        ),
      )

-- ---- the tasks of the normal form

module _ (q : PProgram) (c d : CheckScope) (use_stays : UsesStay q c d) where
  abbrev r : Rules
  r = kept_names q

  abbrev M : CheckSite → Type 0
  M = IsFormMet q

  -- what stands in an entry beside its name
  abbrev rest_sites : CheckScope → PEntry → List CheckSite
  rest_sites around e = check.if_there (check.family_sites around) e.family ++ check.names_sites around (check.formal_names e.formals) ++ check.numbered around Formals 0 (map (λ w. w.span) (check.formal_names e.formals))

  rest-stays : (e : PEntry) → EveryEntry r e → IsSameEntry c.types d.types e → AllByRecursion M (rest_sites c e) → AllByRecursion (IsTextMet q) (rest_sites d e)
  rest-stays e h t m =
      let family : List CheckSite = check.if_there (check.family_sites c) e.family in
      let formals : List CheckSite = check.names_sites c (check.formal_names e.formals) in
      let spans : List Span = map (λ (w : Word). w.span) (check.formal_names e.formals) in
      all_three (IsTextMet q) (check.if_there (check.family_sites d) e.family) (check.names_sites d (check.formal_names e.formals)) (check.numbered d Formals 0 spans)
      (family-stays (stay-out q c d use_stays) e.family t h.2 (all_first M family formals (check.numbered c Formals 0 spans) m))
      (formals-there (stay-out q c d use_stays) e.formals h.3 (all_second M family formals (check.numbered c Formals 0 spans) m))
      (numbered-stay (stay-out q c d use_stays) Formals 0 spans (all_third M family formals (check.numbered c Formals 0 spans) m))

  entry-stays : (e : PEntry) → EveryEntry r e → IsSameEntry c.types d.types e → AllByRecursion M (check.entry_sites c e) → AllByRecursion (IsTextMet q) (check.entry_sites d e)
  entry-stays e h t m = (name-stays q c d e.name h.1 m.0, rest-stays e h t m.1)

  double-met : (e : PEntry) → EveryEntry r e → IsSameEntry c.types d.types e → IsShortEntry q e → IsDoubled q e → AllByRecursion M (check.entry_sites c e) → AllByRecursion (IsTextMet q) (check.entry_sites d (double_entry q e))
  double-met e h t short named m =
      let text : List ℕ = text_of q.names e.name.name in
      let is : length (text_of (replay_names q) (double_entry q e).name.name) ≡ length (double_text text) = ap (λ (u : List ℕ). length u) named in
      let long : length (double_text text) ≡ 6 + length text = length-append (codes "DED_S_") text in
      (met-name (replay_names q) d (double_entry q e).name (omega (arith, is, long, short)), rest-stays e h t m.1)

  entries-stay : (es : List PEntry) → AllByRecursion (EveryEntry r) es → AllByRecursion (IsSameEntry c.types d.types) es → AllByRecursion (λ e. AllByRecursion M (check.entry_sites c e)) es → AllByRecursion (λ e. AllByRecursion (IsTextMet q) (check.entry_sites d e)) es
  entries-stay [] h t m = tt
  entries-stay (e ∷ es) h t m = (entry-stays e h.0 t.0 m.0, entries-stay es h.1 t.1 m.1)

  doubles-met : (es : List PEntry) → AllByRecursion (EveryEntry r) es → AllByRecursion (IsSameEntry c.types d.types) es → AllByRecursion (IsShortEntry q) es → AllByRecursion (IsDoubled q) es →
      AllByRecursion (λ e. AllByRecursion M (check.entry_sites c e)) es → AllByRecursion (λ e. AllByRecursion (IsTextMet q) (check.entry_sites d e)) (map (double_entry q) es)
  doubles-met [] h t short named m = tt
  doubles-met (e ∷ es) h t short named m = (double-met e h.0 t.0 short.0 named.0 m.0, doubles-met es h.1 t.1 short.1 named.1 m.1)

  -- a task with its further entries
  pub task-met : (bodies bodies' : List ℕ) (t : PTask) (s : Span) → (list_any (λ n. n == t.name.name.0) bodies ≡ true → list_any (λ n. n == t.name.name.0) bodies' ≡ true) → EveryDecl r (DTask t s) → IsSameDecl c.types d.types (DTask t s) →
      AllByRecursion (IsShortEntry q) t.entries → AllByRecursion (IsDoubled q) t.entries → AllByRecursion M (check.decl_sites c bodies (DTask t s)) → AllByRecursion (IsTextMet q) (check.decl_sites d bodies' (DTask (more_task q t) s))
  task-met bodies bodies' t s there h same short named m =
      let priorities : List CheckSite = flat_map (λ p. check.expr_sites c 2 p.value) t.priorities in
      let each : AllByRecursion (λ e. AllByRecursion M (check.entry_sites c e)) t.entries = all_unflat M (check.entry_sites c) t.entries (all_front M (flat_map (check.entry_sites c) t.entries) priorities m.1.1) in
      let every : AllByRecursion (EveryEntry r) t.entries = recursion_from_All (EveryEntry r) t.entries h.1.1 in
      let Met : PEntry → Type 0 = λ e. AllByRecursion (IsTextMet q) (check.entry_sites d e) in
      let never : PEntry = added_entry q t.name.span never_text None [] in
      let join : PEntry = added_entry q t.name.span join_text None [] in (
        body-there q d bodies' t.name s (there (test-holds (list_any (λ n. n == t.name.name.0) bodies) s m.0.bodies)),
        (
          name-stays q c d t.name h.1.0 m.1.0,
          all_joined (IsTextMet q) (flat_map (check.entry_sites d) (more_entries q t)) (flat_map (λ p. check.expr_sites d 2 p.value) t.priorities)
              (all_flat (IsTextMet q) (check.entry_sites d) (more_entries q t)
              (all_three Met t.entries (map (double_entry q) t.entries) (never ∷ join ∷ []) (entries-stay t.entries every same each) (doubles-met t.entries every same short named each)
              (added-entry q d never_text t.name.span refl (omega arith), (added-entry q d join_text t.name.span refl (omega arith), tt))))
              (priorities-stay (stay-out q c d use_stays) t.priorities (recursion_from_All (EveryPriority r) t.priorities h.1.2) (all_back M (flat_map (check.entry_sites c) t.entries) priorities m.1.1)),
        ),
      )
