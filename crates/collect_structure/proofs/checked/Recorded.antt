-- The body of the recorder meets the rules 13 to 23.
use Rattle.std.proofs.Common.{◌≡◌, ℕ, ◌+◌, ◌≤◌, ◌==◌, ◌||◌, not, Bool, true, false, cond, if◌then◌else◌, List, [], ◌∷◌, ◌++◌, find, Option, Some, None, unwrap_or, refl, ap, ◌∙◌, arith}
use Rattle.std.specs.List.{AllByRecursion, list_any}
use Rattle.std.proofs.lemmas.Bool.{or_right}
use Rattle.common_lemmas.proofs.Lists.{all_joined}
use Rattle.common_lemmas.proofs.Numbers.{equal_self}
use Rattle.ada_tree.specs.declared.naming.NameId.{NameId}
use Rattle.ada_tree.specs.declared.naming.Span.{Span}
use Rattle.ada_tree.specs.Attributes.{true_name, false_name}
use Rattle.ada_tree.specs.PlainProgram.{PProgram}
use Rattle.syn_event.specs.declared.meanings.Meant.TheVariants.{Inner}
use Rattle.syn_event.specs.declared.limits.What.TheVariants.{Nesting}
use Rattle.syn_event.specs.CheckScope.{EnclosingUnit, CheckScope, CheckSite, declares, uses, counts}
use Rattle.syn_event.specs.CheckSites as check
use Rattle.syn_event.specs.RuleAcceptPlace.{is_among}
use Rattle.syn_event.specs.RuleSharedVariable.{shared_variable}
use Rattle.task_laws.specs.legal.asked.Kinds.{check_asks}
use Rattle.task_laws.proofs.legal.asked.Checked.{asked_checked}
use Rattle.normal_model.specs.Ranges.{word_at}
use Rattle.normal_laws.proofs.structure.checked.Places.{met-deep, met-alternative, met-use, met-accept, met-wait}
use Rattle.replay_structure.proofs.checked.Scopes.{uses-under, inner-use}
use Rattle.replay_structure.proofs.checked.Units.{entries_named}
use Rattle.collect_model.specs.declared.AddedNames.{AddedNames}
use Rattle.collect_model.specs.Names.{recorder_text, note_text, gone_text, met_text, collect_names, added_in}
use Rattle.collect_model.specs.Recording.{note_formals, flags_declared, recorder_body}
use Rattle.collect_structure.specs.Names.{added_id}
use Rattle.collect_structure.specs.asked.Recorder.{recorder_objects, recorder_its, note_head, note_alts, RecorderPieces}
use Rattle.collect_structure.specs.checked.Checkable.{is_truth}
use Rattle.collect_structure.proofs.asked.Recorder.{recorder-asked}
use Rattle.collect_structure.proofs.checked.Stays.{IsTextMet}
use Rattle.collect_structure.proofs.checked.Tasks.{added-declared, note-named}
use Rattle.collect_structure.proofs.checked.Before.{recorder_unit, behind_added}

module _ (q : PProgram) (d : CheckScope) (s : Span) (outside : d.accepting ≡ []) (truths : (n : ℕ) → is_truth n ≡ true → (own : Option EnclosingUnit) (t : Span) → shared_variable (record (behind_added q s d) { own = own }) (uses (record { 0 = n }) t) ≡ []) where
  abbrev n : AddedNames
  n = added_in (collect_names q)

  abbrev At' : List CheckSite → Type 0
  At' xs = AllByRecursion (IsTextMet q) xs

  -- in the body, before its objects
  abbrev first : CheckScope
  first = check.in_body (behind_added q s d) (word_at s (added_id q recorder_text))

  abbrev second : CheckScope
  second = check.with_meant Inner first (word_at s (added_id q gone_text) ∷ [])

  -- behind them
  abbrev within : CheckScope
  within = check.with_meant Inner second (word_at s (added_id q met_text) ∷ [])

  -- in the accept, in front of its formals
  abbrev inside : CheckScope
  inside = record (check.in_loop within None None) { accepting = n.note ∷ (check.in_loop within None None).accepting; loops = [] }

  -- in the accept
  abbrev taking : CheckScope
  taking = check.in_accept (check.in_loop within None None) (note_head n s)

  own-entries : entries_named q (word_at s (added_id q recorder_text)) (recorder_unit q ∷ d.units) ≡ added_id q note_text ∷ []
  own-entries = ap (λ b. (unwrap_or (cond b (Some (recorder_unit q)) (find (λ u. u.name.0 == (added_id q recorder_text).0) d.units)) (record { name = added_id q recorder_text; entries = [] })).entries) (equal_self (added_id q recorder_text).0)

  -- ---- what is used

  truth-first : (b : Bool) (t : Span) → shared_variable first (uses (record { 0 = if b then true_name else false_name }) t) ≡ []
  truth-first true t = truths true_name refl first.own t
  truth-first false t = truths false_name refl first.own t

  truth-second : (b : Bool) (t : Span) → shared_variable second (uses (record { 0 = if b then true_name else false_name }) t) ≡ []
  truth-second b t = uses-under first (word_at s (added_id q gone_text) ∷ []) (record { 0 = if b then true_name else false_name }) t (truth-first b t)

  truth-taking : (b : Bool) (t : Span) → shared_variable taking (uses (record { 0 = if b then true_name else false_name }) t) ≡ []
  truth-taking b t =
      let id : NameId = record { 0 = if b then true_name else false_name } in
      uses-under inside (check.formal_names (note_formals n s)) id t (uses-under second (word_at s (added_id q met_text) ∷ []) id t (truth-second b t))

  gone-taking : (t : Span) → shared_variable taking (uses (added_id q gone_text) t) ≡ []
  gone-taking t =
      uses-under inside (check.formal_names (note_formals n s)) (added_id q gone_text) t
      (uses-under second (word_at s (added_id q met_text) ∷ []) (added_id q gone_text) t (inner-use first (word_at s (added_id q gone_text) ∷ []) (added_id q gone_text) t (ap (λ b. b || false) (equal_self (added_id q gone_text).0))))

  met-taking : (t : Span) → shared_variable taking (uses (added_id q met_text) t) ≡ []
  met-taking t = uses-under inside (check.formal_names (note_formals n s)) (added_id q met_text) t (inner-use second (word_at s (added_id q met_text) ∷ []) (added_id q met_text) t (ap (λ b. b || false) (equal_self (added_id q met_text).0)))

  formal-taking : (id : NameId) → list_any (λ w. w.name.0 == id.0) (check.formal_names (note_formals n s)) ≡ true → (t : Span) → shared_variable taking (uses id t) ≡ []
  formal-taking id i t = inner-use inside (check.formal_names (note_formals n s)) id t i

  -- one of the formals
  is-first : (a : ℕ) (rest : Bool) → ((a == a) || rest) ≡ true
  is-first a rest = ap (λ b. b || rest) (equal_self a)

  kind-there : list_any (λ w. w.name.0 == n.kind.0) (check.formal_names (note_formals n s)) ≡ true
  kind-there = is-first n.kind.0 _

  subject-there : list_any (λ w. w.name.0 == n.subject.0) (check.formal_names (note_formals n s)) ≡ true
  subject-there = or_right (n.kind.0 == n.subject.0) _ (is-first n.subject.0 _)

  argument-there : list_any (λ w. w.name.0 == n.argument.0) (check.formal_names (note_formals n s)) ≡ true
  argument-there = or_right (n.kind.0 == n.argument.0) _ (or_right (n.subject.0 == n.argument.0) _ (is-first n.argument.0 _))

  index-there : list_any (λ w. w.name.0 == n.index.0) (check.formal_names (note_formals n s)) ≡ true
  index-there = or_right (n.kind.0 == n.index.0) _ (or_right (n.subject.0 == n.index.0) _ (or_right (n.argument.0 == n.index.0) _ (is-first n.index.0 _)))

  owner-there : list_any (λ w. w.name.0 == n.owner.0) (check.formal_names (note_formals n s)) ≡ true
  owner-there = or_right (n.kind.0 == n.owner.0) _ (or_right (n.subject.0 == n.owner.0) _ (or_right (n.argument.0 == n.owner.0) _ (or_right (n.index.0 == n.owner.0) _ (is-first n.owner.0 _))))

  reply-there : list_any (λ w. w.name.0 == n.reply.0) (check.formal_names (note_formals n s)) ≡ true
  reply-there = or_right (n.kind.0 == n.reply.0) _ (or_right (n.subject.0 == n.reply.0) _ (or_right (n.argument.0 == n.reply.0) _ (or_right (n.index.0 == n.reply.0) _ (or_right (n.owner.0 == n.reply.0) _ (is-first n.reply.0 _)))))

  deep : (k : ℕ) (c : CheckScope) → k ≤ 300 → IsTextMet q (check.site c (counts Nesting 0 k s))
  deep k c le = met-deep (collect_names q) c k s le

  used : (id : NameId) → shared_variable taking (uses id s) ≡ [] → IsTextMet q (check.site taking (uses id s))
  used id e = met-use (collect_names q) taking id s e

  -- ---- the statements

  pieces : (header : List ℕ) → RecorderPieces n s header (check_asks (IsTextMet q)) within
  pieces header = record {
    some = λ m. tt;
    handlers = tt;
    outer = λ k le. deep k within (omega (arith, le));
    heading = (deep 1 within (omega arith), tt);
    loop = tt;
    wait = (met-wait (collect_names q) (check.in_loop within None None) (note_alts n s) false s refl refl, (met-alternative (collect_names q) (check.in_loop within None None) 0 s (omega arith), (met-alternative (collect_names q) (check.in_loop within None None) 1 s (omega arith), tt)));
    within = λ k le. deep k (check.in_loop within None None) (omega (arith, le));
    head = (
      deep 4 (check.in_loop within None None) (omega arith),
      (
        met-accept (collect_names q) (check.in_loop within None None) (note_head n s)
            (ap (λ es. if not (is_among es n.note) || is_among d.accepting n.note then s ∷ [] else []) own-entries ∙ ap (λ b. if not b || is_among d.accepting n.note then s ∷ [] else []) (ap (λ b. b || false) (equal_self n.note.0)) ∙ ap (λ l. if is_among l n.note then s ∷ [] else []) outside),
        note-named q (check.in_loop within None None) s,
      ),
    );
    taken = λ k le. deep k taking (omega (arith, le));
    answers = λ k b le. (deep k taking (omega (arith, le)), (used n.reply (formal-taking n.reply reply-there s), (deep (k + 1) taking (omega (arith, le)), (used _ (truth-taking b s), tt))));
    selects = (deep 6 taking (omega arith), (used n.kind (formal-taking n.kind kind-there s), tt));
    chooses = λ kind few. (deep 6 taking (omega arith), tt);
    null = λ k le. (deep k taking (omega (arith, le)), tt);
    ends_line = λ k le. (deep k taking (omega (arith, le)), tt);
    words = λ k t i le. (deep k taking (omega (arith, le)), tt);
    subject = λ k le. (deep k taking (omega (arith, le)), (deep (k + 1) taking (omega (arith, le)), (used n.subject (formal-taking n.subject subject-there s), tt)));
    argument = λ k le. (deep k taking (omega (arith, le)), (deep (k + 1) taking (omega (arith, le)), (used n.argument (formal-taking n.argument argument-there s), tt)));
    index = λ k le. (deep k taking (omega (arith, le)), (deep (k + 1) taking (omega (arith, le)), (used n.index (formal-taking n.index index-there s), tt)));
    sets_gone = λ k le. (
      deep k taking (omega (arith, le)),
      (used n.gone (gone-taking s), (deep (k + 1) taking (omega (arith, le)), (used n.subject (formal-taking n.subject subject-there s), (deep (k + 1) taking (omega (arith, le)), (used _ (truth-taking true s), tt))))),
    );
    sets_met = λ k b le. (
      deep k taking (omega (arith, le)),
      (used n.met (met-taking s), (deep (k + 1) taking (omega (arith, le)), (used n.subject (formal-taking n.subject subject-there s), (deep (k + 1) taking (omega (arith, le)), (used _ (truth-taking b s), tt))))),
    );
    is_gone = λ k le. (deep k taking (omega (arith, le)), (used n.gone (gone-taking s), (deep (k + 1) taking (omega (arith, le)), (used n.owner (formal-taking n.owner owner-there s), tt))));
    not_met = λ k le. (
      deep k taking (omega (arith, le)),
      (deep (k + 1) taking (omega (arith, le)), (used n.met (met-taking s), (deep ((k + 1) + 1) taking (omega (arith, le)), (used n.subject (formal-taking n.subject subject-there s), tt)))),
    );
  }

  -- ---- the objects

  flags-met : (c : CheckScope) (t : List ℕ) → IsTextMet q (check.site c (declares (word_at s (added_id q t)))) → shared_variable c (uses (record { 0 = false_name }) s) ≡ [] → At' (check.own_object_sites c (flags_declared n s (added_id q t)))
  flags-met c t named e = (named, (deep 2 c (omega arith), (met-use (collect_names q) c (record { 0 = false_name }) s e, tt)))

  -- The recorder's body meets the rules.
  pub recorder-body-met : (bodies header : List ℕ) → At' (check.decl_sites (behind_added q s d) bodies (recorder_body n s header))
  recorder-body-met bodies header =
      all_joined (IsTextMet q) (check.own_sites first (recorder_objects n s)) (check.body_sites within 1 (recorder_its n s header))
      (all_joined (IsTextMet q) (check.own_object_sites first (flags_declared n s n.gone)) (check.own_object_sites second (flags_declared n s n.met) ++ []) (flags-met first gone_text (added-declared q first gone_text s refl (omega arith)) (truth-first false s))
      (all_joined (IsTextMet q) (check.own_object_sites second (flags_declared n s n.met)) [] (flags-met second met_text (added-declared q second met_text s refl (omega arith)) (truth-second false s)) tt))
      (asked_checked (IsTextMet q) within 1 (recorder_its n s header) (recorder-asked n s header (check_asks (IsTextMet q)) within (pieces header)))
