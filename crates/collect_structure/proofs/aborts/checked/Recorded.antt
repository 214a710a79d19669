-- The body of the recorder in a collecting text of a program with abort statements meets the rules 13 to 23.
use Rattle.std.proofs.Common.{◌≡◌, ℕ, ◌+◌, ◌≤◌, ◌==◌, ◌||◌, not, pos, ◌+ℤ◌, ◌-ℤ◌, Bool, true, false, cond, if◌then◌else◌, List, [], ◌∷◌, ◌++◌, drop, find, Option, Some, None, unwrap_or, refl, ap, ◌∙◌, arith}
use Rattle.std.specs.List.{AllByRecursion, list_any}
use Rattle.std.proofs.lemmas.Bool.{or_right}
use Rattle.common_lemmas.proofs.Lists.{all_joined}
use Rattle.common_lemmas.proofs.Numbers.{equal_self, int_more_zero}
use Rattle.ada_tree.specs.declared.naming.NameId.{NameId}
use Rattle.ada_tree.specs.declared.naming.Span.{Span}
use Rattle.ada_tree.specs.Attributes.{true_name, false_name}
use Rattle.ada_tree.specs.declared.expressions.BinaryOp.TheVariants.{Equal}
use Rattle.ada_tree.specs.PlainExpr.{PExpr, EInteger, EName, EBinary, RGiven}
use Rattle.ada_tree.specs.PlainProgram.{PProgram}
use Rattle.syn_event.specs.declared.meanings.Meant.TheVariants.{Inner}
use Rattle.syn_event.specs.declared.limits.What.TheVariants.{Nesting, Components}
use Rattle.syn_event.specs.declared.numbering.TaskInfo.{TaskInfo}
use Rattle.syn_event.specs.CheckScope.{EnclosingUnit, CheckScope, CheckSite, uses, addresses, counts}
use Rattle.syn_event.specs.CheckSites as check
use Rattle.syn_event.specs.Extents.{size, count_to}
use Rattle.syn_event.specs.RuleAcceptPlace.{is_among}
use Rattle.syn_event.specs.RuleMainEntry.{main_entry}
use Rattle.syn_event.specs.RuleSharedVariable.{shared_variable}
use Rattle.task_model.specs.Setting.{Setting}
use Rattle.task_laws.specs.legal.asked.Kinds.{check_asks}
use Rattle.task_laws.proofs.legal.asked.Checked.{asked_checked}
use Rattle.normal_model.specs.Ranges.{word_at}
use Rattle.normal_laws.specs.structure.asked.Pieces.{named}
use Rattle.normal_laws.proofs.structure.checked.Places.{met-deep, met-alternative, met-use, met-callee, met-accept, met-wait, passed-not}
use Rattle.replay_model.specs.ReplayTree.{last_task}
use Rattle.replay_structure.specs.checked.Checkable.{IsBeside}
use Rattle.replay_structure.proofs.checked.Scopes.{uses-under, callees-under, inner-use}
use Rattle.replay_structure.proofs.checked.Units.{entries_named}
use Rattle.collect_model.specs.declared.AddedNames.{AddedNames}
use Rattle.collect_model.specs.Names.{recorder_text, gone_text, met_text, collect_names, added_in}
use Rattle.collect_model.specs.Recording.{truth, note_formals, flags_declared}
use Rattle.collect_structure.specs.Names as collect
use Rattle.collect_structure.specs.asked.Recorder.{note_head}
use Rattle.collect_structure.specs.checked.Checkable.{is_truth}
use Rattle.collect_structure.proofs.checked.Before.{recorder_unit, behind_added}
use Rattle.collect_structure.proofs.checked.Tasks.{added-declared, note-named}
use Rattle.collect_model.specs.aborts.Names.{acceptors_text, each_text}
use Rattle.collect_model.specs.aborts.AbortTeller.{AbortTeller, names_told}
use Rattle.collect_model.specs.aborts.Recording.{entry_for, stands, is_meeting, calls_declared, recorder_body}
use Rattle.collect_structure.specs.aborts.scopes.Text.{main_told}
use Rattle.collect_structure.specs.aborts.asked.Recorder.{recorder_objects, recorder_its, note_alts, each_task, RecorderPieces}
use Rattle.collect_structure.proofs.aborts.asked.Recorder.{recorder-asked}
use Rattle.collect_structure.proofs.aborts.checked.Added.{told-declared}
use Rattle.collect_structure.proofs.aborts.checked.Names.{longer-met, longer}
use Rattle.collect_structure.proofs.aborts.checked.Stays.{IsTextMet}
use Rattle.collect_structure.proofs.aborts.texts.Named.{abort-has-recorded}

module _ (g : Setting) (d : CheckScope) (s : Span) (outside : d.accepting ≡ [])
    (truths : (n : ℕ) → is_truth n ≡ true → (own : Option EnclosingUnit) (t : Span) →
    shared_variable (record (behind_added g.program s d) { own = own }) (uses (record { 0 = n }) t) ≡ []) where
  abbrev q : PProgram
  q = g.program

  abbrev x : AbortTeller
  x = main_told g

  abbrev n : AddedNames
  n = added_in (collect_names q)

  abbrev M' : CheckSite → Type 0
  M' = IsTextMet q

  abbrev At' : List CheckSite → Type 0
  At' xs = AllByRecursion M' xs

  -- in the body, before its objects
  abbrev first : CheckScope
  first = check.in_body (behind_added q s d) (word_at s (collect.added_id q recorder_text))

  abbrev second : CheckScope
  second = check.with_meant Inner first (word_at s n.gone ∷ [])

  -- behind them
  abbrev within : CheckScope
  within = check.with_meant Inner second (word_at s n.met ∷ word_at s x.acceptors ∷ [])

  -- in the accept, in front of its formals
  abbrev inside : CheckScope
  inside = record (check.in_loop within None None) { accepting = n.note ∷ (check.in_loop within None None).accepting; loops = [] }

  -- in the accept
  abbrev taking : CheckScope
  taking = check.in_accept (check.in_loop within None None) (note_head n s)

  -- in the loop through all tasks
  abbrev going : CheckScope
  going = check.in_loop taking None (Some (each_task x s))

  own-entries : entries_named q (word_at s (collect.added_id q recorder_text)) (recorder_unit q ∷ d.units) ≡ n.note ∷ []
  own-entries =
      ap (λ b. (unwrap_or (cond b (Some (recorder_unit q)) (find (λ u. u.name.0 == n.recorder.0) d.units))
      (record { name = n.recorder; entries = [] })).entries) (equal_self n.recorder.0)

  -- ---- what is used

  truth-first : (b : Bool) (t : Span) → shared_variable first (uses (record { 0 = if b then true_name else false_name }) t) ≡ []
  truth-first true t = truths true_name refl first.own t
  truth-first false t = truths false_name refl first.own t

  -- what is no shared variable in front of the tables of calls is none in the accept
  taking-use : (id : NameId) (t : Span) → shared_variable within (uses id t) ≡ [] → shared_variable taking (uses id t) ≡ []
  taking-use id t e = uses-under inside (check.formal_names (note_formals n s)) id t e

  truth-taking : (b : Bool) (t : Span) → shared_variable taking (uses (record { 0 = if b then true_name else false_name }) t) ≡ []
  truth-taking b t =
      let id : NameId = record { 0 = if b then true_name else false_name } in
      taking-use id t (uses-under second (word_at s n.met ∷ word_at s x.acceptors ∷ []) id t (uses-under first (word_at s n.gone ∷ []) id t (truth-first b t)))

  gone-taking : (t : Span) → shared_variable taking (uses n.gone t) ≡ []
  gone-taking t =
      taking-use n.gone t
      (uses-under second (word_at s n.met ∷ word_at s x.acceptors ∷ []) n.gone t
      (inner-use first (word_at s n.gone ∷ []) n.gone t (ap (λ b. b || false) (equal_self n.gone.0))))

  met-taking : (t : Span) → shared_variable taking (uses n.met t) ≡ []
  met-taking t =
      taking-use n.met t (inner-use second (word_at s n.met ∷ word_at s x.acceptors ∷ []) n.met t
      (ap (λ b. b || ((x.acceptors.0 == n.met.0) || false)) (equal_self n.met.0)))

  acceptors-taking : (t : Span) → shared_variable taking (uses x.acceptors t) ≡ []
  acceptors-taking t =
      taking-use x.acceptors t
      (inner-use second (word_at s n.met ∷ word_at s x.acceptors ∷ []) x.acceptors t
      (or_right (n.met.0 == x.acceptors.0) _ (ap (λ b. b || false) (equal_self x.acceptors.0))))

  formal-taking : (id : NameId) → list_any (λ w. w.name.0 == id.0) (check.formal_names (note_formals n s)) ≡ true → (t : Span) →
      shared_variable taking (uses id t) ≡ []
  formal-taking id i t = inner-use inside (check.formal_names (note_formals n s)) id t i

  -- one of the formals
  is-first : (a : ℕ) (rest : Bool) → ((a == a) || rest) ≡ true
  is-first a rest = ap (λ b. b || rest) (equal_self a)

  kind-taking : (t : Span) → shared_variable taking (uses n.kind t) ≡ []
  kind-taking t = formal-taking n.kind (is-first n.kind.0 _) t

  subject-taking : (t : Span) → shared_variable taking (uses n.subject t) ≡ []
  subject-taking t = formal-taking n.subject (or_right (n.kind.0 == n.subject.0) _ (is-first n.subject.0 _)) t

  argument-taking : (t : Span) → shared_variable taking (uses n.argument t) ≡ []
  argument-taking t = formal-taking n.argument (or_right (n.kind.0 == n.argument.0) _ (or_right (n.subject.0 == n.argument.0) _ (is-first n.argument.0 _))) t

  index-taking : (t : Span) → shared_variable taking (uses n.index t) ≡ []
  index-taking t =
      formal-taking n.index
      (or_right (n.kind.0 == n.index.0) _ (or_right (n.subject.0 == n.index.0) _ (or_right (n.argument.0 == n.index.0) _ (is-first n.index.0 _)))) t

  owner-taking : (t : Span) → shared_variable taking (uses n.owner t) ≡ []
  owner-taking t =
      formal-taking n.owner
      (or_right (n.kind.0 == n.owner.0) _
      (or_right (n.subject.0 == n.owner.0) _ (or_right (n.argument.0 == n.owner.0) _ (or_right (n.index.0 == n.owner.0) _ (is-first n.owner.0 _))))) t

  reply-taking : (t : Span) → shared_variable taking (uses n.reply t) ≡ []
  reply-taking t =
      formal-taking n.reply
      (or_right (n.kind.0 == n.reply.0) _
      (or_right (n.subject.0 == n.reply.0) _
      (or_right (n.argument.0 == n.reply.0) _ (or_right (n.index.0 == n.reply.0) _ (or_right (n.owner.0 == n.reply.0) _ (is-first n.reply.0 _)))))) t

  -- in the loop
  going-use : (id : NameId) (t : Span) → shared_variable taking (uses id t) ≡ [] → shared_variable going (uses id t) ≡ []
  going-use id t e = uses-under (record taking { loops = None ∷ taking.loops }) (word_at s x.each ∷ []) id t e

  each-going : (t : Span) → shared_variable going (uses x.each t) ≡ []
  each-going t = inner-use (record taking { loops = None ∷ taking.loops }) (word_at s x.each ∷ []) x.each t (ap (λ b. b || false) (equal_self x.each.0))

  -- ---- pieces

  deep : (k : ℕ) (c : CheckScope) → k ≤ 300 → M' (check.site c (counts Nesting 0 k s))
  deep k c le = met-deep (names_told q) c k s le

  name-met : (c : CheckScope) (k : ℕ) (id : NameId) → k ≤ 300 → shared_variable c (uses id s) ≡ [] → At' (check.expr_sites c k (EName id s))
  name-met c k id le e = (deep k c le, (met-use (names_told q) c id s e, tt))

  -- the entry of a table for a task
  entry-met : (c : CheckScope) (k : ℕ) (table task : NameId) → k ≤ 290 → shared_variable c (uses table s) ≡ [] → shared_variable c (uses task s) ≡ [] →
      At' (check.expr_sites c k (entry_for s table task))
  entry-met c k table task le e f = (deep k c (omega (arith, le)), (met-use (names_told q) c table s e, name-met c (k + 1) task (omega (arith, le)) f))

  -- an assignment to such an entry
  set-met : (c : CheckScope) (k : ℕ) (table task : NameId) (e : PExpr) → k ≤ 290 → shared_variable c (uses table s) ≡ [] →
      shared_variable c (uses task s) ≡ [] → At' (check.expr_sites c (k + 1) e) →
      At' (check.site c (counts Nesting 0 k s) ∷ (check.site c (uses table s) ∷ check.expr_sites c (k + 1) (EName task s)) ++ check.expr_sites c (k + 1) e)
  set-met c k table task e le i j m = (
    deep k c (omega (arith, le)),
    (
      met-use (names_told q) c table s i,
      all_joined M' (check.expr_sites c (k + 1) (EName task s)) (check.expr_sites c (k + 1) e)
          (name-met c (k + 1) task (omega (arith, le)) j) m,
    ),
  )

  -- how a call stands
  stands-met : (c : CheckScope) (k m : ℕ) (task : NameId) → k ≤ 280 → shared_variable c (uses n.met s) ≡ [] → shared_variable c (uses task s) ≡ [] →
      At' (check.expr_sites c k (stands n s task m))
  stands-met c k m task le e f = (
    deep k c (omega (arith, le)),
    all_joined M' (check.expr_sites c (k + 1) (entry_for s n.met task)) (check.site c (counts Nesting 0 (k + 1) s) ∷ [])
        (entry-met c (k + 1) n.met task (omega (arith, le)) e f) (deep (k + 1) c (omega (arith, le)), tt),
  )

  meeting-met : (c : CheckScope) (k : ℕ) (u v : NameId) → k ≤ 270 → shared_variable c (uses n.met s) ≡ [] → shared_variable c (uses x.acceptors s) ≡ [] →
      shared_variable c (uses u s) ≡ [] → shared_variable c (uses v s) ≡ [] →
      At' (check.expr_sites c k (is_meeting x s u v))
  meeting-met c k u v le e f h i = (
    deep k c (omega (arith, le)),
    all_joined M' (check.expr_sites c (k + 1) (stands n s u 1)) (check.expr_sites c (k + 1) (EBinary Equal (entry_for s x.acceptors u) (EName v s) s))
        (stands-met c (k + 1) 1 u (omega (arith, le)) e h) (
          deep (k + 1) c (omega (arith, le)),
          all_joined M' (check.expr_sites c ((k + 1) + 1) (entry_for s x.acceptors u)) (check.expr_sites c ((k + 1) + 1) (EName v s))
              (entry-met c ((k + 1) + 1) x.acceptors u (omega (arith, le)) f h)
              (name-met c ((k + 1) + 1) v (omega (arith, le)) i),
        ),
  )

  -- ---- the aborts

  module _ (calls : (info : TaskInfo) → IsBeside q info → main_entry (behind_added q s d) (addresses (word_at s info.name)) ≡ []) where
    named-met : (infos : List TaskInfo) → AllByRecursion (IsBeside q) infos →
        AllByRecursion (λ (info : TaskInfo). (check_asks M').aborts taking 8 (named (word_at s info.name) ∷ []) × (check_asks M').callee taking 8
        (named (word_at s info.name))) infos
    named-met [] h = tt
    named-met (info ∷ infos) h = (
      (
        tt,
        (
          met-callee (names_told q) taking (word_at s info.name)
              (callees-under inside (check.formal_names (note_formals n s)) (word_at s info.name)
              (callees-under second (word_at s n.met ∷ word_at s x.acceptors ∷ []) (word_at s info.name)
              (callees-under first (word_at s n.gone ∷ []) (word_at s info.name) (calls info h.0)))),
          tt,
        ),
      ),
      named-met infos h.1,
    )

    -- ---- the statements

    pieces : AllByRecursion (IsBeside q) (drop 1 g.numbers.tasks) → (header : List ℕ) → RecorderPieces x s header (check_asks M') within taking going
    pieces beside header = record {
      some = λ m. tt;
      handlers = tt;
      outer = λ k le. deep k within (omega (arith, le));
      heading = (deep 1 within (omega arith), tt);
      loop = tt;
      wait = (
        met-wait (names_told q) (check.in_loop within None None) (note_alts x s) false s refl refl,
        (
          met-alternative (names_told q) (check.in_loop within None None) 0 s (omega arith),
          (met-alternative (names_told q) (check.in_loop within None None) 1 s (omega arith), tt),
        ),
      );
      within = λ k le. deep k (check.in_loop within None None) (omega (arith, le));
      head = (
        deep 4 (check.in_loop within None None) (omega arith),
        (
          met-accept (names_told q) (check.in_loop within None None) (note_head n s)
              (ap (λ es. if not (is_among es n.note) || is_among d.accepting n.note then s ∷ [] else []) own-entries
              ∙ ap (λ b. if not b || is_among d.accepting n.note then s ∷ [] else []) (ap (λ b. b || false) (equal_self n.note.0))
              ∙ ap (λ l. if is_among l n.note then s ∷ [] else []) outside),
          longer q (check.names_sites (check.in_loop within None None) (check.formal_names (note_formals n s)))
              (note-named q (check.in_loop within None None) s),
        ),
      );
      taken = λ k le. deep k taking (omega (arith, le));
      answers =
          λ k b le. (
            deep k taking (omega (arith, le)),
            (met-use (names_told q) taking n.reply s (reply-taking s), name-met taking (k + 1) _ (omega (arith, le)) (truth-taking b s)),
          );
      selects = name-met taking 6 n.kind (omega arith) (kind-taking s);
      chooses = λ kind few. (deep 6 taking (omega arith), tt);
      chooses_back = (deep 6 taking (omega arith), (deep 6 taking (omega arith), tt));
      null = λ k le. (deep k taking (omega (arith, le)), tt);
      ends_line = λ k le. (deep k taking (omega (arith, le)), tt);
      words = λ k t i le. (deep k taking (omega (arith, le)), tt);
      subject = λ k le. (deep k taking (omega (arith, le)), name-met taking (k + 1) n.subject (omega (arith, le)) (subject-taking s));
      argument = λ k le. (deep k taking (omega (arith, le)), name-met taking (k + 1) n.argument (omega (arith, le)) (argument-taking s));
      index = λ k le. (deep k taking (omega (arith, le)), name-met taking (k + 1) n.index (omega (arith, le)) (index-taking s));
      acceptor =
          λ k le. (
            deep k taking (omega (arith, le)),
            entry-met taking (k + 1) x.acceptors n.subject (omega (arith, le)) (acceptors-taking s)
                (subject-taking s),
          );
      subject_gone =
          λ k le. set-met taking k n.gone n.subject (truth s true) (omega (arith, le)) (gone-taking s) (subject-taking s)
          (name-met taking (k + 1) _ (omega (arith, le)) (truth-taking true s));
      argument_gone =
          λ k le. set-met taking k n.gone n.argument (truth s true) (omega (arith, le)) (gone-taking s) (argument-taking s)
          (name-met taking (k + 1) _ (omega (arith, le)) (truth-taking true s));
      subject_stands =
          λ k m few le. set-met taking k n.met n.subject (EInteger m s) (omega (arith, le)) (met-taking s) (subject-taking s)
          (deep (k + 1) taking (omega (arith, le)), tt);
      argument_stands =
          λ k m few le. set-met taking k n.met n.argument (EInteger m s) (omega (arith, le)) (met-taking s) (argument-taking s)
          (deep (k + 1) taking (omega (arith, le)), tt);
      accepted_by =
          λ k le. set-met taking k x.acceptors n.subject (EName n.owner s) (omega (arith, le)) (acceptors-taking s) (subject-taking s)
          (name-met taking (k + 1) n.owner (omega (arith, le)) (owner-taking s));
      owner_is_gone = λ k le. entry-met taking k n.gone n.owner (omega (arith, le)) (gone-taking s) (owner-taking s);
      subject_is_gone = λ k le. entry-met taking k n.gone n.subject (omega (arith, le)) (gone-taking s) (subject-taking s);
      meets = λ k le. meeting-met taking k n.argument n.subject (omega (arith, le)) (met-taking s) (acceptors-taking s) (argument-taking s) (subject-taking s);
      subject_at = λ k m few le. stands-met taking k m n.subject (omega (arith, le)) (met-taking s) (subject-taking s);
      unaccepted = λ k le. (
        deep k taking (omega (arith, le)),
        all_joined M' (check.expr_sites taking (k + 1) (stands n s n.subject 0))
            (check.expr_sites taking (k + 1) (EBinary Equal (EName n.kind s) (EInteger 7 s) s))
            (stands-met taking (k + 1) 0 n.subject (omega (arith, le)) (met-taking s) (subject-taking s)) (
              deep (k + 1) taking (omega (arith, le)),
              all_joined M' (check.expr_sites taking ((k + 1) + 1) (EName n.kind s)) (check.site taking (counts Nesting 0 ((k + 1) + 1) s) ∷ [])
                  (name-met taking ((k + 1) + 1) n.kind (omega (arith, le)) (kind-taking s)) (deep ((k + 1) + 1) taking (omega (arith, le)), tt),
            ),
      );
      goes_through = λ k le. (
        told-declared q taking each_text s (abort-has-recorded q each_text refl) (omega arith),
        (deep k taking (omega (arith, le)), (deep k taking (omega (arith, le)), tt)),
      );
      within_loop = λ k le. deep k going (omega (arith, le));
      has_lost =
          λ k le. meeting-met going k x.each n.argument (omega (arith, le)) (going-use n.met s (met-taking s)) (going-use x.acceptors s (acceptors-taking s))
          (each-going s) (going-use n.argument s (argument-taking s));
      loses =
          λ k le. set-met going k n.met x.each (EInteger 3 s) (omega (arith, le)) (going-use n.met s (met-taking s)) (each-going s)
          (deep (k + 1) going (omega (arith, le)), tt);
      selects_task = name-met taking 7 n.argument (omega arith) (argument-taking s);
      chooses_task = λ u few. (deep 7 taking (omega arith), tt);
      aborts = named-met (drop 1 g.numbers.tasks) beside;
    }

    -- ---- the objects

    flags-met : At' (check.own_object_sites first (flags_declared n s n.gone))
    flags-met = (
      longer-met q _ (added-declared q first gone_text s refl (omega arith)),
      name-met first 2 (record { 0 = false_name }) (omega arith)
          (truth-first false s),
    )

    range-size : (last : ℕ) → count_to ((pos last -ℤ pos 0) +ℤ pos 1) ≡ last + 1
    range-size last = ap (λ z. count_to (z +ℤ pos 1)) (int_more_zero (pos last))

    calls-met : last_task g.numbers ≤ 200 → At' (check.own_object_sites second (calls_declared x s))
    calls-met le =
        let few : size second.types (RGiven (record { first = EInteger 0 s; last = EInteger (last_task g.numbers) s })) ≤ 1000 =
        let e : size second.types (RGiven (record { first = EInteger 0 s; last = EInteger (last_task g.numbers) s })) ≡ last_task g.numbers + 1 = range-size
        (last_task g.numbers) in omega (arith, e, le) in (
          longer-met q _ (added-declared q second met_text s refl (omega arith)),
          (
            told-declared q second acceptors_text s (abort-has-recorded q acceptors_text refl) (omega arith),
            (
              record {
                shared = refl;
                accepts = refl;
                selects = refl;
                twice = refl;
                reserved = refl;
                main = refl;
                order = refl;
                bodies = refl;
                exits = refl;
                raises = refl;
                limits =
                    passed-not Components 1000000 0 (size second.types (RGiven (record { first = EInteger 0 s; last = EInteger (last_task g.numbers) s }))) s
                    (omega (arith, few));
              },
              (deep 2 second (omega arith), (deep 2 second (omega arith), (deep 2 second (omega arith), tt))),
            ),
          ),
        )

    -- The recorder's body meets the rules.
    pub recorder-body-met : last_task g.numbers ≤ 200 → AllByRecursion (IsBeside q) (drop 1 g.numbers.tasks) → (bodies header : List ℕ) →
        At' (check.decl_sites (behind_added q s d) bodies (recorder_body x s header))
    recorder-body-met few beside bodies header =
        all_joined M' (check.own_sites first (recorder_objects x s)) (check.body_sites within 1 (recorder_its x s header))
        (all_joined M' (check.own_object_sites first (flags_declared n s n.gone)) (check.own_object_sites second (calls_declared x s) ++ []) flags-met
        (all_joined M' (check.own_object_sites second (calls_declared x s)) [] (calls-met few) tt))
        (asked_checked M' within 1 (recorder_its x s header) (recorder-asked x s header (check_asks M') within (pieces beside header)))
