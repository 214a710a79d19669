-- Every row of a unit in the normal form: both go through it alike.
use Rattle.std.proofs.Common.{◌≡◌, ℕ, Bool, true, false, not, ◌&&◌, List, [], ◌∷◌, ◌++◌, length, Option, Some, None, refl, ap, subst}
use Rattle.std.specs.List.{AllByRecursion}
use Rattle.ada_tree.specs.declared.naming.Span.{Span}
use Rattle.ada_tree.specs.declared.naming.Word.{Word}
use Rattle.ada_static_rules.specs.Sites.{all_names}
use Rattle.ada_tree.specs.PlainExpr.{PExpr}
use Rattle.ada_tree.specs.PlainStmt.{PCallee, PFormal, PScheme, PHead, PStmt, SNull, SAccept, SWait, SConditional, STimed, PStmts, PMaybe, accepting, AAccept, ADelay, ATerminate, PAlts, PArms, PCaseArms, PHandlers}
use Rattle.ada_tree.specs.PlainDecl.{PDecl}
use Rattle.ada_value.specs.declared.values.Value.{Value}
use Rattle.ada_value.specs.declared.values.Value.TheVariants.{Number}
use Rattle.ada_value.specs.Values.{and_then, position_of}
use Rattle.ada_value.specs.Variables.{Variables}
use Rattle.ada_value.specs.Evaluating.{name_value}
use Rattle.syn_event.specs.Numbering.{entry_at}
use Rattle.task_model.specs.Setting.{Setting, entry_of, family_limits, index_in, member_index}
use Rattle.task_model.specs.Frames.{in_front}
use Rattle.normal_model.specs.Names.{variable_name}
use Rattle.normal_model.specs.Ranges.{subtype_of_range, array_range, family_range}
use Rattle.normal_model.specs.Making.{one, kept_before, kept_if, moving, index_left}
use Rattle.normal_model.specs.Members.{known_callee, by_member, chosen_if}
use Rattle.normal_model.specs.Calls.{call_subtypes, select_subtypes}
use Rattle.normal_model.specs.Aborts.{abort_of, callee_aborted, callees_aborted}
use Rattle.normal_model.specs.Waits.{accept_image}
use Rattle.normal_model.specs.Walk.{Rewriter, after_parts, after_stmts, after_maybe, after_alts, after_arms, after_case_arms, after_handlers, rewritten, inside_maybe, inside_alts, inside_arms, inside_case_arms, inside_handlers, image_of}
use Rattle.normal_model.specs.NormalStmts.{normal_rewriter}
use Rattle.normal_model.proofs.VariablesLemmas.{OnlyAdds, stmts-begin, maybe-begins, alts-begin, arms-begin, case_arms-begin, handlers-begin, normal-adds}
use Rattle.task_laws.specs.translation.Translations.{Programs}
use Rattle.task_laws.specs.translation.OldNames.{OldExpr, OldOption, old_none, old_some, OldScheme, old_endless, old_while, old_for}
use Rattle.task_laws.specs.translation.OldTexts.{OldWords, old_no_word, old_word, OldFormals, old_no_formal, old_formal, OldHead, OldCallees, old_no_callee, old_callee, OldStmt, old_null, old_assign, old_delay, old_exit, old_raise, old_abort, old_call, old_accept, old_wait, old_conditional, old_timed, old_put, old_put_line, old_new_line, old_get, old_if, old_case, old_block, old_loop, OldStmts, old_no_stmt, old_stmt, OldMaybe, old_absent, old_present, OldAlts, old_no_alt, old_alt, old_accepts, old_delays, old_terminates, OldArms, old_no_arm, old_arm, OldCaseArms, old_no_case_arm, old_case_arm, OldHandlers, old_no_handler, old_handler}
use Rattle.normal_laws.specs.runs.floors.Suited.{AreMade, Rewritten, rewritten_unit, asked_of, IsCallee}
use Rattle.normal_laws.specs.runs.floors.NormalLists.{Begin, behind_stmt}
use Rattle.normal_laws.specs.runs.floors.Preludes.{Added}
use Rattle.normal_laws.specs.runs.floors.Declared.{AreDeclared}
use Rattle.normal_laws.proofs.runs.floors.Declared.{begun-subtypes}
use Rattle.normal_laws.proofs.runs.floors.Rows.{part-begins}
use Rattle.normal_laws.proofs.runs.floors.Static.{moving-is}
use Rattle.collect_runs.specs.aborts.likeness.Likeness.{Ground, Goal, form, Near, is_apart, Always, FreeFormals, SchemeAlike, Passes, PassesMaybe, PassesArms, PassesCase, PassesAlts, AreSafe}
use Rattle.collect_runs.proofs.aborts.likeness.Frames.{joined}
use Rattle.collect_runs.proofs.aborts.likeness.Values.{worth, condition-worth, test-worth, range-worth, parts-worth, choices-worth, aim-worth, stores-old, assigns-old, always-skips, near-always}
use Rattle.collect_runs.proofs.aborts.likeness.Preludes.{assigns}
use Rattle.collect_runs.proofs.aborts.likeness.Callees.{word_of, arms-pass, variable-same}
use Rattle.collect_runs.proofs.aborts.likeness.Calling.{plain-pass}
use Rattle.collect_runs.proofs.aborts.likeness.Selecting.{select-pass}

-- a name that a variable may have
apart-free : (a f : Bool) → f ≡ false → not (a && f) ≡ true
apart-free true f h = ap (λ c. not c) h
apart-free false f h = refl

module _ (w : Rewritten) (added : Added w.programs w.programs.original) (declared : AreDeclared w added) (made : AreMade w.programs) where
  abbrev pub ground : Ground
  ground = record { programs = w.programs; number = w.number; added = added }

  abbrev x : Ground
  x = record { programs = w.programs; number = w.number; added = added }

  abbrev b : Programs
  b = w.programs

  abbrev g : Setting
  g = w.programs.original

  abbrev R : Rewriter (List PDecl)
  R = normal_rewriter (rewritten_unit w)

  adds : OnlyAdds R
  adds = normal-adds (rewritten_unit w)

  -- ---- names that are declared

  words-free : {ws : List Word} → OldWords b ws → (more : List Word) → AllByRecursion (λ (v : Word). is_apart x v.name.0 ≡ true) more → AllByRecursion (λ (v : Word). is_apart x v.name.0 ≡ true) (ws ++ more)
  words-free old_no_word more h = h
  words-free (old_word v rest old free k) more h = (apart-free (b.is_old v.name.0) (b.is_fixed v.name.0) free, words-free k more h)

  pub formals-free : {fs : List PFormal} → OldFormals b fs → FreeFormals x fs
  formals-free old_no_formal = tt
  formals-free (old_formal f rest h mark more) = words-free h (all_names rest) (formals-free more)

  scheme-alike : {c : Option PScheme} → OldScheme b c → SchemeAlike x c
  scheme-alike old_endless = tt
  scheme-alike (old_while e h) = λ V W n. condition-worth x V W n h
  scheme-alike (old_for v backwards range old free h) = (apart-free (b.is_old v.name.0) (b.is_fixed v.name.0) free, λ c V W n. range-worth x V W n c h)

  some-old : (e : PExpr) → OldOption b (Some e) → OldExpr b e
  some-old e (old_some d k) = k

  -- ---- aborts

  abort-passes : (s : Span) (v : Word) (K : Goal) → Always x K → Always x (Passes x (abort_of s v) K)
  abort-passes s v K all V W n = ((λ cells. (refl, all V W n)), always-skips x K all)

  abort-pass : (s : Span) (callee : PCallee) → OldOption b callee.index → IsCallee b callee → (n : ℕ) (K : Goal) → Always x K → Always x (Passes x (callee_aborted g s callee n) K)
  abort-pass s callee old asked n K all V W near = by (moving g.types callee.index) refl
    where
      by : (q : Option PExpr) → moving g.types callee.index ≡ q →
          Passes x (in_front (kept_before g s (kept_if (subtype_of_range g.types s (array_range g.program callee.name.name)) q) n) (chosen_if q g s callee n (abort_of s))) K V W
      by None m = abort-passes s (known_callee g callee) K all V W near
      by (Some e) m =
          assigns x s n e (one (by_member g s callee n (abort_of s))) K (λ V1 W1. Unit {0}) (λ V1 W1 v k fits a. tt)
          (λ U u. (
            (λ cells. (
              refl,
              λ v q.
                  arms-pass x s callee (abort_of s) K U U u v (Passes x (one (SNull s)) K U U) g.numbers.tasks (asked.literals e m s) (λ f. ((λ more. all U U u), always-skips x K all)) (λ y f. abort-passes s (word_of x s callee (abort_of s) K y) K all U U u),
            )),
            always-skips x K all,
          ))
          V W near (worth x V W near (some-old e (subst (OldOption b) (moving-is b made callee.index e m) old))) tt
          (λ cells v q fits k f a. (
            (λ more. (
              variable-same x s callee (abort_of s) K _ _ k n a,
              λ v1 q1.
                  arms-pass x s callee (abort_of s) K _ _ k v1 (Passes x (one (SNull s)) K _ _) g.numbers.tasks (asked.literals e m s) (λ f1. ((λ c1. all _ _ k), always-skips x K all)) (λ y f1. abort-passes s (word_of x s callee (abort_of s) K y) K all _ _ k),
            )),
            always-skips x K all,
          ))

  aborts-pass : (s : Span) {cs : List PCallee} → OldCallees (asked_of w) cs → (n : ℕ) (K : Goal) → Always x K → Always x (Passes x (callees_aborted g s cs n) K)
  aborts-pass s old_no_callee n K all = all
  aborts-pass s (old_callee c rest old asked more) n K all = λ V W near.
      joined x (callee_aborted g s c n) (callees_aborted g s rest _) K V W (abort-pass s c old asked n (Passes x (callees_aborted g s rest _) K) (aborts-pass s more _ K all) V W near)

  -- ---- accepts

  abbrev head_with : Span → PHead → ℕ → Option PExpr → PHead
  head_with s head n q = record { entry = head.entry; index = index_left g s n q head.index; formals = head.formals; span = head.span }

  abbrev entry_there : PHead → ℕ
  entry_there head = entry_of (form x).numbers w.number head.entry.name

  old-index : (e : ℕ) {o : Option PExpr} → OldOption b o → (V W : Variables) → Near x V W → member_index (form x) W e o ≡ member_index (form x) V e o
  old-index e old_none V W near = refl
  old-index e (old_some d k) V W near = ap (λ r. and_then r (λ v. index_in (family_limits (entry_at (form x).numbers e)) (position_of v))) (worth x V W near k)

  accept-pass : (s : Span) (head : PHead) (o : PMaybe) → OldHead b head → (n : ℕ) (K : Goal) → Always x K → Always x (PassesMaybe x o (Near x)) → Always x (Passes x (accept_image (rewritten_unit w) s (accepting head o) n) K)
  accept-pass s head o old n K all safe V W near = by (moving g.types head.index) refl
    where
      by : (q : Option PExpr) → moving g.types head.index ≡ q →
          Passes x (in_front (kept_before g s (kept_if (subtype_of_range g.types s (family_range g (entry_of g.numbers w.first head.entry.name))) q) n) (one (SAccept (accepting (head_with s head n q) o) s))) K V W
      by None m = ((λ cells. ((old-index (entry_there head) old.index V W near, formals-free old.formals), (safe, all))), always-skips x K all)
      by (Some e) m =
          assigns x s n e (one (SAccept (accepting (head_with s head n (Some e)) o) s)) K (λ V1 W1. Unit {0}) (λ V1 W1 v k fits a. tt)
          (λ U u. ((λ cells. ((refl, formals-free old.formals), (safe, all))), always-skips x K all)) V W near
          (worth x V W near (some-old e (subst (OldOption b) (moving-is b made head.index e m) old.index))) tt
          (λ cells v q fits k f a. (
            (λ more. ((ap (λ o1. index_in (family_limits (entry_at (form x).numbers (entry_there head))) (position_of (name_value (form x).types o1 (variable_name g n)))) a, formals-free old.formals), (safe, all))),
            always-skips x K all,
          ))

  -- ---- rows

  -- what is shown of a wait: behind its alternatives both find the same ones open
  module _ (waits : (alts : PAlts) (o : PMaybe) (s : Span) → OldAlts (asked_of w) alts → (t : List PDecl) → Begin (behind_stmt w (SWait alts o s) t) w.vars → (K : Goal) → Always x K →
      ((V W : Variables) → Near x V W → PassesAlts x (inside_alts R alts t) K V W) → ((V W : Variables) → Near x V W → PassesMaybe x (inside_maybe R o (after_alts R alts t)) K V W) →
      Always x (Passes x (image_of R (SWait alts o s) t) K)) where
    mutual
      pub rows : {l : PStmts} → OldStmts (asked_of w) l → (t : List PDecl) → Begin (after_stmts R l t) w.vars → (K : Goal) → Always x K → Always x (Passes x (rewritten R l t) K)
      rows old_no_stmt t bg K all = all
      rows (old_stmt s l h k) t bg K all = λ V W near.
          joined x (image_of R s t) (rewritten R l (after_parts R s (R.entered_stmt t s))) K V W
          (image h t (part-begins w (stmts-begin R adds l _) bg) (Passes x (rewritten R l (after_parts R s (R.entered_stmt t s))) K) (rows k _ bg K all) V W near)

      rows-maybe : {o : PMaybe} → OldMaybe (asked_of w) o → (t : List PDecl) → Begin (after_maybe R o t) w.vars → (K : Goal) → Always x K → Always x (PassesMaybe x (inside_maybe R o t) K)
      rows-maybe old_absent t bg K all = all
      rows-maybe (old_present l h) t bg K all = rows h t bg K all

      rows-arms : {arms : PArms} → OldArms (asked_of w) arms → (t : List PDecl) → Begin (after_arms R arms t) w.vars → (K : Goal) → Always x K → (V W : Variables) → Near x V W → (Otherwise : Type 0) → Otherwise →
          PassesArms x (inside_arms R arms t) Otherwise K V W
      rows-arms old_no_arm t bg K all V W near Otherwise o = o
      rows-arms (old_arm e l rest h k j) t bg K all V W near Otherwise o = record {
        same = λ c. condition-worth x V W near h;
        into = λ c q. rows k t (part-begins w (arms-begin R adds rest _) bg) K all V W near;
        beyond = λ c q. rows-arms j _ bg K all V W near Otherwise o;
      }

      rows-case : {arms : PCaseArms} → OldCaseArms (asked_of w) arms → (t : List PDecl) → Begin (after_case_arms R arms t) w.vars → (K : Goal) → Always x K → (V W : Variables) → Near x V W → (v : Value) (Others : Type 0) → Others →
          PassesCase x v (inside_case_arms R arms t) Others K V W
      rows-case old_no_case_arm t bg K all V W near v Others o = o
      rows-case (old_case_arm cs l rest h k j) t bg K all V W near v Others o = record {
        same = λ c. choices-worth x V W near c v h;
        into = λ c q. rows k t (part-begins w (case_arms-begin R adds rest _) bg) K all V W near;
        beyond = λ c q. rows-case j _ bg K all V W near v Others o;
      }

      pub rows-handlers : {hs : PHandlers} → OldHandlers (asked_of w) hs → (t : List PDecl) → Begin (after_handlers R hs t) w.vars → (K : Goal) → AreSafe x (inside_handlers R hs t)
      rows-handlers old_no_handler t bg K = tt
      rows-handlers (old_handler ws l s rest h k) t bg K = (rows h t (part-begins w (handlers-begin R adds rest _) bg) (Near x) (near-always x), rows-handlers k _ bg K)

      rows-alts : {alts : PAlts} → OldAlts (asked_of w) alts → (t : List PDecl) → Begin (after_alts R alts t) w.vars → (K : Goal) → Always x K → (V W : Variables) → Near x V W → PassesAlts x (inside_alts R alts t) K V W
      rows-alts old_no_alt t bg K all V W near = tt
      rows-alts (old_alt guard (AAccept (accepting head o) l) s rest h (old_accepts _ _ _ i a m j) more) t bg K all V W near =
          let bg1 = part-begins w (alts-begin R adds rest _) bg in
          ((formals-free i.formals, (rows-maybe m _ (part-begins w (stmts-begin R adds l _) bg1) (Near x) (near-always x), rows j _ bg1 K all)), rows-alts more _ bg K all V W near)
      rows-alts (old_alt guard (ADelay d l) s rest h (old_delays _ _ j) more) t bg K all V W near = (rows j _ (part-begins w (alts-begin R adds rest _) bg) K all V W near, rows-alts more _ bg K all V W near)
      rows-alts (old_alt guard ATerminate s rest h old_terminates more) t bg K all V W near = (tt, rows-alts more _ bg K all V W near)

      image : {s : PStmt} → OldStmt (asked_of w) s → (t : List PDecl) → Begin (behind_stmt w s t) w.vars → (K : Goal) → Always x K → Always x (Passes x (image_of R s t) K)
      image (old_null s) t bg K all V W near = ((λ cells. all V W near), always-skips x K all)
      image (old_assign target e s h k) t bg K all V W near = ((λ cells. assigns-old x K all V W near target e h k), always-skips x K all)
      image (old_delay d s) t bg K all V W near = ((λ cells. all V W near), always-skips x K all)
      image (old_exit name test s h) t bg K all V W near = ((λ cells. ((λ c. test-worth x V W near c h), all V W near)), always-skips x K all)
      image (old_raise name s) t bg K all V W near = ((λ cells. tt), always-skips x K all)
      image (old_abort [] s h) t bg K all V W near = ((λ cells. all V W near), always-skips x K all)
      image (old_abort (c ∷ cs) s h) t bg K all V W near = aborts-pass s h (length t) K all V W near
      image (old_call c s h k) t bg K all V W near = plain-pass x made s c k h (length t) (begun-subtypes w added declared s (call_subtypes g s c) t bg) K all V W near
      image (old_accept head o s h a k) t bg K all V W near = accept-pass s head (inside_maybe R o _) h (length t) K all (rows-maybe k _ bg (Near x) (near-always x)) V W near
      image (old_wait alts o s q h k) t bg K all V W near =
          waits alts o s h t bg K all (λ V1 W1 n1. rows-alts h t (part-begins w (maybe-begins R adds o _) bg) K all V1 W1 n1) (λ V1 W1 n1. rows-maybe k _ bg K all V1 W1 n1) V W near
      image (old_conditional c l m s h k j z) t bg K all V W near =
          select-pass x made s c k h (length t) (begun-subtypes w added declared s (select_subtypes g s c) t (part-begins w (stmts-begin R adds l _) (part-begins w (stmts-begin R adds m _) bg))) (λ d l1 m1. SConditional d l1 m1 s) (λ d l1 m1 K1 V1 W1 p q. (p, q))
          (rewritten R l _) (rewritten R m _) K all (rows j _ (part-begins w (stmts-begin R adds m _) bg) K all) (rows z _ bg K all) V W near
      image (old_timed c l d m s h k j z) t bg K all V W near =
          select-pass x made s c k h (length t) (begun-subtypes w added declared s (select_subtypes g s c) t (part-begins w (stmts-begin R adds l _) (part-begins w (stmts-begin R adds m _) bg))) (λ d1 l1 m1. STimed d1 l1 d m1 s) (λ d1 l1 m1 K1 V1 W1 p q. (p, q))
          (rewritten R l _) (rewritten R m _) K all (rows j _ (part-begins w (stmts-begin R adds m _) bg) K all) (rows z _ bg K all) V W near
      image (old_put ps s h) t bg K all V W near = ((λ cells. (parts-worth x V W near (form x).program.names h, all V W near)), always-skips x K all)
      image (old_put_line ps s h) t bg K all V W near = ((λ cells. (parts-worth x V W near (form x).program.names h, all V W near)), always-skips x K all)
      image (old_new_line s) t bg K all V W near = ((λ cells. all V W near), always-skips x K all)
      image (old_get target s h) t bg K all V W near = ((λ cells. ((λ c. aim-worth x V W near c target h), (λ c k z. stores-old x K all V W near c target h.name k (Number z)))), always-skips x K all)
      image (old_if arms o s h k) t bg K all V W near =
          ((λ cells. rows-arms h t (part-begins w (maybe-begins R adds o _) bg) K all V W near (PassesMaybe x (inside_maybe R o (after_arms R arms t)) K V W) (rows-maybe k _ bg K all V W near)), always-skips x K all)
      image (old_case e arms o s i h k) t bg K all V W near =
          ((λ cells. (worth x V W near i, λ v q. rows-case h t (part-begins w (maybe-begins R adds o _) bg) K all V W near v (PassesMaybe x (inside_maybe R o (after_case_arms R arms t)) K V W) (rows-maybe k _ bg K all V W near))), always-skips x K all)
      image (old_block l hs s h k) t bg K all V W near = ((λ cells. (rows h t (part-begins w (handlers-begin R adds hs _) bg) (Near x) (near-always x) V W near, (rows-handlers k _ bg K, all))), always-skips x K all)
      image (old_loop name c l s h k) t bg K all V W near = ((λ cells. ((scheme-alike h, rows k t bg (Near x) (near-always x)), (all V W near, all))), always-skips x K all)
