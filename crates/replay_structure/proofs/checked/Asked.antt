-- Each piece of a replay text meets the rules 13 to 23.
use Rattle.std.proofs.Common.{◌≡◌, ℕ, ◌+◌, ◌≤◌, ◌==◌, ◌||◌, not, Bool, true, false, zero, suc, if◌then◌else◌, List, [], ◌∷◌, length, count_by, Option, Some, None, IfSome, refl, ap, ◌∙◌, true≢false, arith}
use Rattle.std.specs.List.{AllByRecursion}
use Rattle.std.proofs.lemmas.List.Elements.{recursion_from_All}
use Rattle.common_lemmas.proofs.Lists.{all_front}
use Rattle.ada_tree.specs.declared.naming.Span.{Span}
use Rattle.ada_tree.specs.PlainExpr.{PExpr}
use Rattle.ada_tree.specs.PlainStmt.{PCallee, PArgs, PHead, accepting, alternative, PAltKind, AAccept, ADelay, ATerminate, PAlts, no_alt, alt_then}
use Rattle.ada_tree.specs.PlainProgram.{PProgram}
use Rattle.ada_tree.specs.Every.{Rules, EveryExpr, EveryArgs, EveryChoice, alts_count}
use Rattle.syn_event.specs.declared.limits.What.TheVariants.{Alternatives}
use Rattle.syn_event.specs.CheckScope.{CheckScope, CheckSite}
use Rattle.syn_event.specs.CheckSites as check
use Rattle.syn_event.specs.RuleAcceptPlace.{is_among, is_own_entry}
use Rattle.syn_event.specs.RuleSelectForm.{alt_kinds, is_accept}
use Rattle.syn_event.specs.RuleSameEntryTwice.{accept_heads, clashing}
use Rattle.task_model.specs.Setting.{entry_of}
use Rattle.task_laws.specs.legal.asked.Asked.{Asks, AskedAlts, AskedKind}
use Rattle.task_laws.specs.legal.asked.Kinds.{check_asks, before_sites}
use Rattle.normal_model.specs.RewrittenUnit.{RewrittenUnit}
use Rattle.normal_model.specs.Calls.{entry_called, lists_called}
use Rattle.normal_laws.proofs.structure.checked.Places.{met-deep, met-alternative, met-callee, met-accept, met-wait, met-raise, met-use}
use Rattle.replay_model.specs.Names.{kind_text, argument_text, index_text, control_text, idle_text, never_text, replay_names, added_id, added_word}
use Rattle.replay_model.specs.Asking.{permit_is_kind}
use Rattle.replay_model.specs.Serving.{permits_start}
use Rattle.replay_model.specs.Waiting.{Pause, pauses_of, never_alt, only_pause}
use Rattle.replay_model.specs.ReplayStmts.{task_called}
use Rattle.replay_structure.specs.asked.Pieces.{IsAlternative, first_alternative, later_alternative, never_head, pause_guard, Pieces}
use Rattle.replay_structure.specs.checked.Around.{kept_names, IsAsking}
use Rattle.replay_structure.proofs.checked.Names.{kept-other}
use Rattle.replay_structure.proofs.checked.Scopes.{accept-around, loop-around, handler-around}
use Rattle.normal_laws.proofs.structure.checked.Parts.{expr-stays, choices-stay, loop-stays, args-stay, plain-stays}
use Rattle.replay_structure.proofs.checked.Stays.{IsFormMet, IsTextMet, uses-stay, callee-stays, head-stays, stay, stay-in}
use Rattle.replay_structure.proofs.checked.Tests.{Fits, kind-met, for-met, at-met, guarded-met, shut-met, due-met, index-fits}
use Rattle.replay_structure.proofs.checked.Waits.{asks, pauses-fewer, some-accept, few-alternatives, HasOwn, own-entry, delays-none, delays-alone}

module _ (u : RewrittenUnit) where
  abbrev q : PProgram
  q = u.setting.program

  abbrev r : Rules
  r = kept_names q

  -- of the normal form: its names are kept ones, the rules 13 to 23 are met, and nothing stands too deep
  abbrev pub C : Type 0
  C = Prim.Unit {0} × (CheckScope × Prim.Unit {0})

  abbrev pub b : Asks C
  b = asks q

  abbrev pub a : Asks CheckScope
  a = check_asks (IsTextMet q)

  abbrev pub R : C → CheckScope → Type 0
  R c d = IsAsking q c.1.0 d

  abbrev pub H : ℕ → Type 0
  H k = k ≤ 50

  abbrev At' : List CheckSite → Type 0
  At' xs = AllByRecursion (IsTextMet q) xs

  module _ (c : C) (d : CheckScope) (rel : R c d) where
    abbrev F : ℕ → PExpr → Type 0
    F k e = Fits u c.1.0 d rel k e

    guard-fits : (k : ℕ) (o : Option PExpr) → IfSome o (b.condition c k) → IfSome o (F k)
    guard-fits k None h = tt
    guard-fits k (Some e) h = (h.0, h.1.0)

    args-met : (k n : ℕ) (o : Option PArgs) → n + 100 ≤ k + 300 → IfSome o (EveryArgs r k) → AllByRecursion (IsFormMet q) (check.if_there (check.args_sites c.1.0 k) o) → At' (check.if_there (check.args_sites d n) o)
    args-met k n None le h m = tt
    args-met k n (Some x) le h m = args-stay (stay q c.1.0 d (uses-stay q c.1.0 d rel)) k n x le h m

    -- the index of an accept
    served-met : (k n : ℕ) (s : Span) (h : PHead) → b.head c k h → n ≤ 296 → n + 103 ≤ (k + 1) + 300 → At' (check.expr_sites d n (permits_start u s h))
    served-met k n s h i le few = at-met u c.1.0 d rel n (k + 1) s 1 (entry_of u.setting.numbers u.task h.entry.name) h.index (go h.index i.0.1.1 (all_front (IsFormMet q) (check.if_there (check.expr_sites c.1.0 (k + 1)) h.index) (check.names_sites c.1.0 (check.formal_names h.formals)) i.1.0.1.1)) le few
      where
        go : (o : Option PExpr) → IfSome o (EveryExpr r (k + 1)) → AllByRecursion (IsFormMet q) (check.if_there (check.expr_sites c.1.0 (k + 1)) o) → IfSome o (F (k + 1))
        go None f m = tt
        go (Some e) f m = (f, m)

    -- ---- alternatives

    -- what is asked of an alternative of a wait
    alternative-asked : (g : Option PExpr) (y : PAltKind) (s : Span) (x : PAlts) (k : ℕ) → IsAlternative (alternative g y s) x → AskedAlts b c k x → IfSome g (b.condition c (k + 1)) × AskedKind b c (k + 1) g s y
    alternative-asked g y s x k (first_alternative l) h = (h.1, h.2)
    alternative-asked g y s x k (later_alternative (alternative g0 y0 s0) l i) h = alternative-asked g y s l k i h.3

    pauses-fit : (x : PAlts) (k : ℕ) → AskedAlts b c k x → AllByRecursion (λ (y : Pause). IfSome y.guard (F (k + 1))) (pauses_of x)
    pauses-fit no_alt k h = tt
    pauses-fit (alt_then (alternative g (AAccept y l) s) rest) k h = pauses-fit rest k h.3
    pauses-fit (alt_then (alternative g (ADelay n l) s) rest) k h = (guard-fits (k + 1) g h.1, pauses-fit rest k h.3)
    pauses-fit (alt_then (alternative g ATerminate s) rest) k h = pauses-fit rest k h.3

    few-pauses : (x : PAlts) (k : ℕ) (others : Bool) (t : Span) → b.wait c k x others t → length (pauses_of x) + 1 ≤ 33
    few-pauses x k others t w =
        let all : 0 + alts_count x ≤ 33 = few-alternatives q c.1.0 x 0 (omega arith) w.1.0.1 in
        let less : length (pauses_of x) + count_by is_accept (alt_kinds x) ≤ alts_count x = pauses-fewer x in
        let one : 1 ≤ count_by is_accept (alt_kinds x) = not-none (count_by is_accept (alt_kinds x)) (some-accept x others t w.1.0.0.selects) in
        omega (arith, all, less, one)
      where
        not-none : (n : ℕ) → (n == 0) ≡ false → 1 ≤ n
        not-none zero e = absurd (true≢false e)
        not-none (suc n) e = omega arith

    -- the own task has DED_NEVER where a wait stands
    never-own : (x : PAlts) (k : ℕ) (others : Bool) (t : Span) → b.wait c k x others t → AskedAlts b c (k + 1) x → is_own_entry d.own (added_id q never_text) ≡ true
    never-own x k others t w h =
        let own : HasOwn q c.1.0 = own-entry q c.1.0 x (k + 1) c.0 c.1.1 h (some-accept x others t w.1.0.0.selects) in
        rel.never own.id own.is

    never-met : (x : PAlts) (k : ℕ) (others : Bool) (t s : Span) (n : ℕ) → b.wait c k x others t → AskedAlts b c (k + 1) x → n ≤ 300 → a.head d n (never_head u s)
    never-met x k others t s n w h le = (
      met-deep (replay_names q) d n s le,
      (
        met-accept (replay_names q) d (never_head u s)
            (ap (λ o. if not o || is_among d.accepting (added_id q never_text) then s ∷ [] else []) (never-own x k others t w h) ∙ ap (λ o. if o then s ∷ [] else []) rel.outside),
        tt,
      ),
    )

  -- ---- waits for one alternative

  numbered-met : (d : CheckScope) (n : ℕ) (s : Span) (k : ℕ) (xs : List Pause) (i : ℕ) → n + length xs ≤ 33 → At' (check.numbered d Alternatives n (check.alt_places (only_pause s k xs i)))
  numbered-met d n s k [] i le = tt
  numbered-met d n s k (x ∷ xs) i le = (met-alternative (replay_names q) d n s (omega (arith, le)), numbered-met d (n + 1) s k xs (i + 1) (omega (arith, le)))

  -- one name alone is in no wrong order
  no-order : (d : CheckScope) (xs : List PCallee) → length xs ≤ 1 → At' (before_sites d xs)
  no-order d [] le = tt
  no-order d (x ∷ []) le = tt
  no-order d (x ∷ y ∷ rest) le = let never : ⊥ = omega (arith, le) in absurd never

  delay-met : (d : CheckScope) (n : ℕ) (s : Span) (taken : Bool) → n ≤ 300 → At' (check.delay_sites d n (pause_guard s taken) s)
  delay-met d n s true le = (met-deep (replay_names q) d n s le, tt)
  delay-met d n s false le = tt

  twice-none : (d : CheckScope) (s : Span) (place : ℕ) (xs : List Pause) → clashing d.types [] (accept_heads (alt_kinds (alt_then (never_alt u s) (only_pause s place xs 1)))) ≡ []
  twice-none d s place xs = ap (λ l. clashing d.types (never_head u s ∷ []) l) (delays-none s place xs 1)

  -- The pieces of a replay text meet the rules.
  pub pieces : Pieces u H b a R
  pieces = record {
    here = λ c k s h. h.1.1;
    here_accepted = λ c k h i. i.1.1;
    outer = λ c d k n s rel h le. met-deep (replay_names q) d n s (omega (arith, h, le));
    many = λ n h. tt;
    some = λ n. tt;
    duration = λ n h. tt;
    plain = λ c d k n x p rel h le. let m : k ≤ 50 = h.1.1 in plain-stays (stay-in q c.1.0 d rel) k n x p (omega (arith, m, le)) h.0 h.1.0;
    condition = λ c d k n e rel h le. let m : k ≤ 50 = h.1.1 in expr-stays (stay q c.1.0 d (uses-stay q c.1.0 d rel)) k n e (omega (arith, m, le)) h.0 h.1.0;
    selector = λ c d k n e xs others s rel h le. let m : k ≤ 50 = h.1.1 in expr-stays (stay q c.1.0 d (uses-stay q c.1.0 d rel)) k n e (omega (arith, m, le)) h.0 h.1.0;
    choices = λ c d k n e xs rel h le. let m : k ≤ 50 = h.1.1 in choices-stay (stay q c.1.0 d (uses-stay q c.1.0 d rel)) k n xs (omega (arith, m, le)) (recursion_from_All (EveryChoice r k) xs h.0.1) h.1.0;
    loop = λ c d k n w x rel h le. let m : k ≤ 50 = h.1.1 in loop-stays (stay q c.1.0 d (uses-stay q c.1.0 d rel)) k n w x (omega (arith, m, le)) h.0.0 h.0.1 h.1.0;
    looping = λ c d k w x rel h. loop-around q c.1.0 d w x rel;
    callee = λ c d k j n x rel near under h le. let m : j ≤ 50 = h.1.1 in callee-stays q c.1.0 d rel j n x (omega (arith, m, le)) h.0 h.1.0;
    call = λ c d k j n x rel near under h i le. let m : j ≤ 50 = i.1.1 in args-met c d rel j n x.args (omega (arith, m, le)) i.0.1 i.1.0;
    aborts = λ c d k n xs rel h le. no-order d xs h.1.1;
    head = λ c d k n h rel i le. let m : k ≤ 50 = i.1.1 in head-stays q c.1.0 d rel k n h (omega (arith, m, le)) i.0 i.1.0;
    in_accept = λ c d k h rel i. accept-around q c.1.0 d h (kept-other q h.entry.name never_text i.0.1.0 refl refl) rel;
    handlers = λ hs h. tt;
    handler = λ c d k n names ws rel h le. tt;
    handling = λ c d rel. handler-around q c.1.0 d rel;
    control = λ c d k n s rel h le. (met-callee (replay_names q) d (added_word q s control_text) (rel.control s), tt);
    asks = λ c d k n s rel h le.
        let small : n ≤ 300 = omega (arith, h, le) in (
          met-deep (replay_names q) d n s small,
          (
            met-deep (replay_names q) d n s small,
            (
              met-use (replay_names q) d (added_id q kind_text) s (rel.kind s),
              (
                met-deep (replay_names q) d n s small,
                (
                  met-use (replay_names q) d (added_id q argument_text) s (rel.argument s),
                  (met-deep (replay_names q) d n s small, (met-use (replay_names q) d (added_id q index_text) s (rel.index s), tt)),
                ),
              ),
            ),
          ),
        );
    says = λ c d k n s rel h le. (met-deep (replay_names q) d n s (omega (arith, h, le)), tt);
    idle = λ c d k n s rel h le. (met-callee (replay_names q) d (added_word q s idle_text) (rel.idle s), tt);
    stop = λ c d k n s rel h le. tt;
    other_kind = λ c d k n s kind rel h small le. kind-met u c.1.0 d rel n s kind (omega (arith, h, le));
    others = λ s l. tt;
    no_others = tt;
    other = λ c d k n rel h le. tt;
    null = λ c d k n s rel h le. (met-deep (replay_names q) d n s (omega (arith, h, le)), tt);
    again = λ c d k n s rel h le. (met-deep (replay_names q) (check.handling d) n s (omega (arith, h, le)), (met-raise (replay_names q) (check.handling d) s refl, tt));
    called = λ c d k j n s kind x rel near under h i small le.
        let m : j ≤ 50 = i.1.1 in
        let low : k + 1 ≤ j = under.0 in
        at-met u c.1.0 d rel n j s kind (entry_called u.setting x) (lists_called u.setting x).index (index-fits u c.1.0 d rel j x i.0.1 i.1.0) (omega (arith, near, le)) (omega (arith, m, low, le));
    double = λ c d k j n x rel near under h i le.
        let m : j ≤ 50 = i.1.1 in
        let low : k + 1 ≤ j = under.0 in
        args-met c d rel j n x.args (omega (arith, m, low, le)) i.0.1 i.1.0;
    aborted = λ c d k n s x rel h i le. for-met u c.1.0 d rel n s 9 (task_called u x) (omega (arith, h, le));
    served = λ c d k n s h rel i le. let m : k ≤ 50 = i.1.1 in served-met c d rel k n s h i (omega (arith, m, le)) (omega (arith, m, le));
    taken = λ c d k n x else_part t guard h o l s rel near w alts is le.
        let f = alternative-asked c d rel guard (AAccept (accepting h o) l) s x (k + 1) is alts in
        guarded-met u c.1.0 d rel n ((k + 1) + 1) s (permits_start u s h) guard (guard-fits c d rel ((k + 1) + 1) guard f.0)
        (λ m at. served-met c d rel ((k + 1) + 1) m s h f.1.0.0 (omega (arith, near, at, le)) (omega (arith, near, at, le))) (omega (arith, near, le)) (omega (arith, near, le));
    due = λ c d k n x else_part t guard duration l s place rel near w alts is small le.
        let f = alternative-asked c d rel guard (ADelay duration l) s x (k + 1) is alts in
        let few : length (pauses_of x) + 1 ≤ 33 = few-pauses c d rel x k else_part t w in
        due-met u c.1.0 d rel n ((k + 1) + 1) s (pauses_of x) place duration guard (pauses-fit c d rel x (k + 1) alts) (guard-fits c d rel ((k + 1) + 1) guard f.0) (omega (arith, near, few, le)) (omega (arith, near, few, le));
    ends = λ c d k n x else_part t guard s rel near w alts is le.
        let f = alternative-asked c d rel guard ATerminate s x (k + 1) is alts in
        guarded-met u c.1.0 d rel n ((k + 1) + 1) s (permit_is_kind u s 10) guard (guard-fits c d rel ((k + 1) + 1) guard f.0) (λ m at. kind-met u c.1.0 d rel m s 10 (omega (arith, near, at, le))) (omega (arith, near, le)) (omega (arith, near, le));
    passes = λ c d k n s rel near le. kind-met u c.1.0 d rel n s 3 (omega (arith, near, le));
    never = λ c d k n x else_part t s rel near w alts le. never-met c d rel x k else_part t s n w alts (omega (arith, near, le));
    shut = λ c d k n s rel near le. shut-met u c.1.0 d rel n s (omega (arith, near, le));
    delay = λ c d k n s taken rel near le. delay-met d n s taken (omega (arith, near, le));
    pausing = λ c d k n x else_part t s place rel near w alts le. (
      met-wait (replay_names q) d (alt_then (never_alt u s) (only_pause s place (pauses_of x) 1)) false s (ap (λ o. if o then s ∷ [] else []) (delays-alone u s place (pauses_of x) 1)) (twice-none d s place (pauses_of x)),
      (met-alternative (replay_names q) d 0 s (omega arith), numbered-met d 1 s place (pauses_of x) 1 (let few : length (pauses_of x) + 1 ≤ 33 = few-pauses c d rel x k else_part t w in omega (arith, few))),
    );
    ending = λ c d k n x else_part t s rel near w alts le. (
      met-wait (replay_names q) d (alt_then (never_alt u s) (alt_then (alternative None ATerminate s) no_alt)) false s refl refl,
      (met-alternative (replay_names q) d 0 s (omega arith), (met-alternative (replay_names q) d 1 s (omega arith), tt)),
    );
    passing = λ c d k n x t s rel near w alts le. (met-wait (replay_names q) d (alt_then (never_alt u s) no_alt) true s refl refl, (met-alternative (replay_names q) d 0 s (omega arith), tt));
  }
