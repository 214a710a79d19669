-- Each piece of a replay text meets the static rules 1 and 3 to 12.
use Rattle.std.proofs.Common.{◌≡◌, ℕ, ◌+◌, ◌≤◌, Bool, true, List, [], Option, Some, None, is_some, IfSome}
use Rattle.std.specs.List.{AllByRecursion}
use Rattle.std.proofs.lemmas.List.Elements.{recursion_from_All}
use Rattle.ada_tree.specs.declared.naming.NameId.{NameId}
use Rattle.ada_tree.specs.declared.naming.Span.{Span}
use Rattle.ada_tree.specs.PlainExpr.{PExpr}
use Rattle.ada_tree.specs.PlainStmt.{PArgs, PChoice, accepting, PAltKind, AAccept, ADelay, ATerminate, PAlts, no_alt, alt_then, alternative, PBody}
use Rattle.ada_tree.specs.Every.{Rules, EveryWord, EveryArgs, EveryChoice}
use Rattle.ada_static_rules.specs.Scope.{Scope, truth_kind, entry_named}
use Rattle.ada_static_rules.specs.Demand.{Site}
use Rattle.ada_static_rules.specs.Sites.{body_sites}
use Rattle.ada_static_rules.specs.RuleArrayUse.{array_in_node}
use Rattle.task_model.specs.Setting.{Setting}
use Rattle.normal_model.specs.Calls.{entry_called, lists_called}
use Rattle.normal_model.specs.RewrittenUnit.{RewrittenUnit}
use Rattle.task_laws.specs.legal.asked.Asked.{Asks, AskedAlts, AskedKind, AskedBody}
use Rattle.task_laws.specs.legal.asked.Kinds.{type_asks}
use Rattle.task_laws.proofs.legal.asked.Typed.{asked_typed}
use Rattle.normal_laws.specs.structure.checked.Around.{own_rules}
use Rattle.task_laws.specs.legal.alike_scopes.Old.{IsOldExpr, IsOldChoice}
use Rattle.task_laws.specs.legal.alike_scopes.Laws.{IsMetBut}
use Rattle.normal_laws.proofs.structure.typed.Cases.{with_cases, cases_asked}
use Rattle.normal_laws.proofs.structure.typed.Stays.{old-expr, old-choices, no-array, condition-stays, loop-stays, choices-stay, selector-stays, handler-stays, plain-stays}
use Rattle.replay_model.specs.Names.{control_text, idle_text, added_word}
use Rattle.replay_model.specs.Asking.{permit_is_kind, permit_is_for}
use Rattle.replay_model.specs.Serving.{permits_start}
use Rattle.replay_model.specs.Calling.{is_called}
use Rattle.replay_model.specs.Waiting.{never_so, and_guard, Pause, pauses_of, is_due}
use Rattle.replay_model.specs.ReplayStmts.{task_called, replay_body}
use Rattle.replay_structure.specs.asked.Pieces.{is_other_kind, IsAlternative, first_alternative, later_alternative, Pieces}
use Rattle.replay_structure.proofs.asked.Walk.{replay-keeps}
use Rattle.replay_structure.specs.typed.ScopeOf.{AreOuter, IsScopeOf, has_accept, form_asks}
use Rattle.replay_structure.proofs.typed.Tests.{IsFit, fit-of, fit-met, loose-met}
use Rattle.replay_structure.proofs.typed.Permits.{kind-loose, other-loose, for-loose, at-loose, guard-loose, never-fit, due-loose}
use Rattle.replay_structure.proofs.typed.Calls.{AreOldArgs, old-args, single-met, callee-stays, call-stays, double-met, index-fit, asks-met, says-met, stops-met}
use Rattle.replay_structure.proofs.typed.Accepts.{head-kept, served-loose, never-met}
use Rattle.replay_structure.proofs.typed.Scopes.{accept-scope, scheme-scope}

pub same : (s : Site) → IsMetBut s → IsMetBut s
same s m = m

module _ (u : RewrittenUnit) (old inner : ℕ → Bool) (outer : AreOuter u.setting.program inner) where
  abbrev g : Setting
  g = u.setting

  abbrev r : Rules
  r = own_rules old

  -- of the normal form: its names are old, nothing is refused at its places, and its callees, accepts, waits and inner names are as asked
  abbrev pub C : Type 0
  C = Prim.Unit {0} × Scope

  abbrev pub known : Asks C
  known = form_asks old inner

  -- a selector is of old names, and no whole array
  abbrev pub IsSelector : C → PExpr → Type 0
  IsSelector c e = IsOldExpr old e × (array_in_node c.1 e ≡ [])

  abbrev pub b : Asks C
  b = with_cases known IsSelector (IsOldChoice old)

  abbrev pub a : Asks Scope
  a = type_asks IsMetBut

  abbrev pub R : C → Scope → Type 0
  R c d = IsScopeOf u old inner c.1 d

  -- nothing more is to be known of nesting
  abbrev pub H : ℕ → Type 0
  H k = Prim.Unit {0}

  if-args : (k : ℕ) (o : Option PArgs) → IfSome o (EveryArgs r k) → IfSome o (AreOldArgs old)
  if-args k None h = tt
  if-args k (Some args) h = old-args old k args h

  -- ---- alternatives

  alternative-asked : (c : C) (k : ℕ) (guard : Option PExpr) (kind : PAltKind) (s : Span) (x : PAlts) → IsAlternative (alternative guard kind s) x → AskedAlts b c k x →
      IfSome guard (b.condition c (k + 1)) × AskedKind b c (k + 1) guard s kind
  alternative-asked c k guard kind s x (first_alternative l) h = (h.1, h.2)
  alternative-asked c k guard kind s x (later_alternative (alternative other y t) l i) h = alternative-asked c k guard kind s l i h.3

  -- the own task has an entry where an alternative accepts
  own-entry : (c : C) (k : ℕ) (x : PAlts) → has_accept x ≡ true → AskedAlts b c k x → (id : NameId) × (is_some (entry_named c.1.own id) ≡ true)
  own-entry c k no_alt e h = cc
  own-entry c k (alt_then (alternative guard (AAccept (accepting i o) l) s) rest) e h = (i.entry.name, h.2.0.0.1.1)
  own-entry c k (alt_then (alternative guard (ADelay n l) s) rest) e h = own-entry c k rest e h.3
  own-entry c k (alt_then (alternative guard ATerminate s) rest) e h = own-entry c k rest e h.3

  module _ (c : C) (d : Scope) (rel : R c d) where
    guard-fit : (k : ℕ) (o : Option PExpr) → IfSome o (b.condition c k) → IfSome o (IsFit d truth_kind)
    guard-fit k None h = tt
    guard-fit k (Some e) h = fit-of d truth_kind e (condition-stays IsMetBut same old c.1 d rel.alike.names e (old-expr old k e h.0) h.1)

    pauses-fit : (k : ℕ) (x : PAlts) → AskedAlts b c k x → AllByRecursion (λ (p : Pause). IfSome p.guard (IsFit d truth_kind)) (pauses_of x)
    pauses-fit k no_alt h = tt
    pauses-fit k (alt_then (alternative guard (AAccept i l) s) rest) h = pauses-fit k rest h.3
    pauses-fit k (alt_then (alternative guard (ADelay n l) s) rest) h = (guard-fit (k + 1) guard h.1, pauses-fit k rest h.3)
    pauses-fit k (alt_then (alternative guard ATerminate s) rest) h = pauses-fit k rest h.3

  -- ---- all pieces

  pub pieces : Pieces u H b a R
  pieces = record {
    here = λ c k s h. tt;
    here_accepted = λ c k h i. tt;
    outer = λ c d k n s rel h le. tt;
    many = λ n h. tt;
    some = λ n. tt;
    duration = λ n h. tt;
    plain = λ c d k n x i rel h le. plain-stays IsMetBut same old c.1 d rel.alike.names k x i h.0 h.1;
    condition = λ c d k n e rel h le. condition-stays IsMetBut same old c.1 d rel.alike.names e (old-expr old k e h.0) h.1;
    selector = λ c d k n e xs others s rel h le. selector-stays IsMetBut same old c.1 d rel.alike.names e xs others s (old-expr old k e h.0.0) h.1 h.0.1;
    choices = λ c d k n e xs rel h le. choices-stay IsMetBut same old c.1 d rel.alike.names e xs h.1.0 h.1.1 (old-choices old k xs (recursion_from_All (EveryChoice r k) xs h.0.0.1)) h.0.1;
    loop = λ c d k n w x rel h le. loop-stays IsMetBut same old c.1 d rel.alike.names k w x h.0.1 h.1.0;
    looping = λ c d k w x rel h. scheme-scope u old inner outer c.1 d k x h.0.1 h.1.1 rel;
    callee = λ c d k j n x rel h un i le. callee-stays u old inner c.1 d rel x i.0.0 i.1.1 i.1.0;
    call = λ c d k j n x rel h un i m le. call-stays u old inner c.1 d rel x i.0.0 i.1.1 m.0.0 (if-args j x.args m.0.1) m.1;
    aborts = λ c d k n xs rel h le. tt;
    head = λ c d k n h rel i le. head-kept u old inner c.1 d rel k h i.0.1 i.1.1 i.1.0;
    in_accept = λ c d k h rel i. accept-scope u old inner outer c.1 d k h i.0.1 i.1.2 rel;
    handlers = λ hs h. tt;
    handler = λ c d k n names ws rel h le. handler-stays IsMetBut same old c.1 d rel.alike.names names ws (recursion_from_All (EveryWord r) ws h.0) h.1;
    handling = λ c d rel. rel;
    control = λ c d k n s rel h le. single-met d (added_word g.program s control_text) rel.control.entries rel.control.means;
    asks = λ c d k n s rel h le. asks-met u old inner c.1 d rel s;
    says = λ c d k n s rel h le. says-met u old inner c.1 d rel s;
    idle = λ c d k n s rel h le. single-met d (added_word g.program s idle_text) rel.idle.entries rel.idle.means;
    stop = λ c d k n s rel h le. stops-met u old inner c.1 d rel s;
    other_kind = λ c d k n s kind rel h few le. loose-met d (is_other_kind u s kind) (other-loose u old inner c.1 d rel s kind);
    others = λ s l. tt;
    no_others = tt;
    other = λ c d k n rel h le. tt;
    null = λ c d k n s rel h le. tt;
    again = λ c d k n s rel h le. tt;
    called = λ c d k j n s kind x rel h un i m few le.
        loose-met d (is_called u s kind x)
        (at-loose u old inner c.1 d rel s kind (entry_called g x) (lists_called g x).index (index-fit u old inner c.1 d rel x i.0.0 i.1.1 m.0.0 (if-args j x.args m.0.1) m.1 s));
    double = λ c d k j n x rel h un i m le. double-met u old inner c.1 d rel x i.0.0 i.1.1 m.0.0 (if-args j x.args m.0.1) m.1;
    aborted = λ c d k n s x rel h i le. loose-met d (permit_is_for u s 9 (task_called u x)) (for-loose u old inner c.1 d rel s 9 (task_called u x));
    served = λ c d k n s h rel i le. loose-met d (permits_start u s h) (served-loose u old inner c.1 d rel k h i.0.1 i.1.1 i.1.0 s);
    taken = λ c d k n x else_part t guard h o l s rel near w all i le.
        let q = alternative-asked c (k + 1) guard (AAccept (accepting h o) l) s x i all in
        let head = q.1.0.0 in
        loose-met d (and_guard s (permits_start u s h) guard)
        (guard-loose u old inner c.1 d rel s (permits_start u s h) guard (served-loose u old inner c.1 d rel ((k + 1) + 1) h head.0.1 head.1.1 head.1.0 s) (guard-fit c d rel ((k + 1) + 1) guard q.0));
    due = λ c d k n x else_part t guard duration l s place rel near w all i few le.
        let q = alternative-asked c (k + 1) guard (ADelay duration l) s x i all in
        loose-met d (is_due u s (pauses_of x) place duration guard)
        (due-loose u old inner c.1 d rel s (pauses_of x) place duration guard (guard-fit c d rel ((k + 1) + 1) guard q.0) (pauses-fit c d rel (k + 1) x all));
    ends = λ c d k n x else_part t guard s rel near w all i le.
        let q = alternative-asked c (k + 1) guard ATerminate s x i all in
        loose-met d (and_guard s (permit_is_kind u s 10) guard)
        (guard-loose u old inner c.1 d rel s (permit_is_kind u s 10) guard (kind-loose u old inner c.1 d rel s 10) (guard-fit c d rel ((k + 1) + 1) guard q.0));
    passes = λ c d k n s rel h le. loose-met d (permit_is_kind u s 3) (kind-loose u old inner c.1 d rel s 3);
    never = λ c d k n x else_part t s rel near w all le.
        let q = own-entry c (k + 1) x w.1.1 all in
        never-met u old inner c.1 d rel s q.0 q.1;
    shut = λ c d k n s rel h le. fit-met d truth_kind (never_so s) (never-fit u old inner c.1 d rel s);
    delay = λ c d k n s taken rel h le. tt;
    pausing = λ c d k n x else_part t s place rel near w all le. tt;
    ending = λ c d k n x else_part t s rel near w all le. tt;
    passing = λ c d k n x t s rel near w all le. tt;
  }

  -- ---- from what is asked of a body of the normal form

  told : (c : C) (k : ℕ) (e : PExpr) (xs : List PChoice) (others : Bool) (s : Span) → known.selector c k e xs others s → IsSelector c e
  told c k e xs others s h = (old-expr old k e h.0, no-array IsMetBut same c.1 e h.1.1)

  each : (c : C) (k : ℕ) (e : PExpr) (xs : List PChoice) → known.choices c k e xs → AllByRecursion (IsOldChoice old) xs
  each c k e xs h = old-choices old k xs (recursion_from_All (EveryChoice r k) xs h.0.1)

  -- A body of a normal form at which nothing is refused has an image in the replay text at which none of these rules refuses anything.
  pub body-met : (c : C) (d : Scope) (k : ℕ) (s : Span) (x : PBody) → R c d → 1 ≤ k → AskedBody known c k x → AllByRecursion IsMetBut (body_sites d (replay_body u s x))
  body-met c d k s x rel low h =
      asked_typed IsMetBut d k (replay_body u s x) (replay-keeps u H b a R pieces c d k s x rel tt low (cases_asked known IsSelector (IsOldChoice old) told each c k x h))
