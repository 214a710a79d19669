-- What is to be known of the places of a body, so that its statements are as a rewriter asks (this project's rule).
use Rattle.std.specs.Prelude.{◌≡◌, ℕ, Bool, true, false, Option}
use Rattle.std.specs.List.{AllByRecursion}
use Rattle.ada_tree.specs.declared.naming.NameId.{NameId}
use Rattle.ada_tree.specs.declared.naming.Span.{Span}
use Rattle.ada_tree.specs.declared.naming.Word.{Word}
use Rattle.ada_tree.specs.PlainStmt.{PCallee, PCall, PScheme, PHead, PAlts}
use Rattle.ada_tree.specs.Every.{Rules, EveryCallee, EveryCall, EveryHead}
use Rattle.ada_static_rules.specs.Scope.{Scope}
use Rattle.ada_static_rules.specs.Demand.{scalar_only, declares, stands_as_mark, Site}
use Rattle.ada_static_rules.specs.Sites.{site, if_there, callee_sites, call_sites, head_sites, scheme_sites, loop_scope}
use Rattle.ada_static_rules.specs.Declaring.{inner_scope, with_formals}
use Rattle.syn_event.specs.CheckScope.{CheckScope, CheckSite, waits}
use Rattle.syn_event.specs.CheckSites as check
use Rattle.ada_value.specs.Values.{limits_named}
use Rattle.task_laws.specs.translation.Translations.{types_before, IsOld, IsFree}
use Rattle.task_laws.specs.translation.OldTexts.{Asked, OldCall}

-- What is known of each place by the first twelve rules and by the others, and of the two scopes of a place together.
pub record Known : Type 1 where
  pub place : Site → Type 0
  pub check_place : CheckSite → Type 0
  pub scopes : Scope → CheckScope → Type 0

-- What these give. Names are the original's; what a formal or a loop's parameter is called is the name of no constant; a mark of scalars leads to a
-- known kind; calls, callees, heads and waits are as the rewriter asks; and the scopes stay as they are known, in accepts, handlers and loops.
pub record Gives (a : Asked) (r : Rules) (k : Known) : Type 0 where
  pub old : (id : NameId) → r.name id → IsOld a.programs id
  pub free : (s : Scope) (w : Word) → k.place (site s (declares false w)) → IsFree a.programs w.name
  pub mark : (s : Scope) (c : CheckScope) (w : Word) → k.scopes s c → k.place (site s (stands_as_mark scalar_only w)) →
      a.programs.is_known (limits_named (types_before a.programs) w.name).kind ≡ true
  pub callee : (s : Scope) (c : CheckScope) (n : ℕ) (x : PCallee) → k.scopes s c → EveryCallee r n x →
      AllByRecursion k.place (callee_sites s x) → AllByRecursion k.check_place (check.callee_sites c n x) → a.callee x
  pub call : (s : Scope) (c : CheckScope) (n : ℕ) (x : PCall) → k.scopes s c → EveryCall r n x → OldCall a.programs x →
      AllByRecursion k.place (call_sites s x) → AllByRecursion k.check_place (check.call_sites c n x) → a.call x
  pub head : (s : Scope) (c : CheckScope) (n : ℕ) (h : PHead) → k.scopes s c → EveryHead r n h →
      AllByRecursion k.place (head_sites s h) → AllByRecursion k.check_place (check.head_sites c n h) → a.head h
  pub wait : (c : CheckScope) (x : PAlts) (others : Bool) (t : Span) → k.check_place (check.site c (waits x others t)) → a.wait x
  pub in_accept : (s : Scope) (c : CheckScope) (n : ℕ) (h : PHead) → k.scopes s c →
      AllByRecursion k.place (head_sites s h) → AllByRecursion k.check_place (check.head_sites c n h) → k.scopes (with_formals (inner_scope s) h.formals) (check.in_accept c h)
  pub handling : (s : Scope) (c : CheckScope) → k.scopes s c → k.scopes s (check.handling c)
  pub looping : (s : Scope) (c : CheckScope) (w : Option Word) (x : Option PScheme) → k.scopes s c →
      AllByRecursion k.place (if_there (scheme_sites s) x) → k.scopes (loop_scope s x) (check.in_loop c w x)
