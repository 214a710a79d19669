-- What is asked of the statements of a normal form for its scopes, from what is known of them one by one.
use Rattle.std.proofs.Common.{◌≡◌, ℕ, Bool, false, List, [], ◌∷◌, ◌++◌, flat_map, Option, Some, None, IfSome, refl, ap, subst}
use Rattle.std.specs.List.{AllByRecursion}
use Rattle.common_lemmas.proofs.Lists.{all_back, all_front}
use Rattle.ada_tree.specs.declared.naming.Word.{Word}
use Rattle.ada_tree.specs.PlainStmt.{PScheme, LWhile, LFor, PHead, PBody}
use Rattle.ada_static_rules.specs.Scope.{Scope, meaning, entry_named}
use Rattle.ada_static_rules.specs.Demand.{labels, calls, chooses, Site}
use Rattle.ada_static_rules.specs.Sites.{site, if_there, expr_sites, callee_sites, args_sites, condition_sites, choice_sites, handler_names_sites, stmt_sites, names_sites, all_names, formals_sites, accept_index_sites, head_sites, scheme_sites, body_sites}
use Rattle.ada_static_rules.specs.ExprTypes.{kind_of}
use Rattle.ada_static_rules.specs.RuleArgCount.{called_entry}
use Rattle.ada_static_rules.specs.RuleChoiceBad.{selected_range}
use Rattle.ada_static_rules.specs.Declaring.{inner_scope}
use Rattle.task_laws.specs.legal.asked.Asked.{Asks, AskedBody}
use Rattle.task_laws.specs.legal.asked.Kinds.{type_asks, both}
use Rattle.task_laws.proofs.legal.asked.Typed.{typed_asked}
use Rattle.task_laws.proofs.legal.asked.Together.{both_asked}
use Rattle.task_laws.specs.legal.alike_scopes.Laws.{IsMetBut}
use Rattle.normal_laws.proofs.structure.typed.Variables.{AllMetBut}
use Rattle.replay_structure.specs.typed.ScopeOf.{AreInner, IsInnerScheme, with_scopes}
use Rattle.replay_structure.proofs.scopes.Weaker.{AsksLess, asked_less}
use Rattle.replay_structure.proofs.scopes.Asked.{wait_asks}
use Rattle.replay_structure.proofs.legal.names.form_units.InnerNames.{DeclaresInner, AllInner}
use Rattle.replay_structure.proofs.legal.names.form_units.Callees.{scope_asks}

module _ (inner : ℕ → Bool) where
  -- nothing is refused there, and what is declared there is an inner name
  abbrev P : Site → Type 0
  P x = IsMetBut x × DeclaresInner inner x.demand

  abbrev C : Type 0
  C = (Scope × Scope) × Prim.Unit {0}

  abbrev a : Asks C
  a = both (both (type_asks P) scope_asks) wait_asks

  abbrev b : Asks Scope
  b = with_scopes inner (type_asks IsMetBut)

  abbrev R : C → Scope → Type 0
  R c d = (c.0.0 ≡ d) × (c.0.1 ≡ d)

  but : (xs : List Site) → AllByRecursion P xs → AllByRecursion IsMetBut xs
  but [] h = tt
  but (x ∷ xs) h = (h.0.0, but xs h.1)

  together : (xs : List Site) → AllMetBut xs → AllInner inner xs → AllByRecursion P xs
  together [] m i = tt
  together (x ∷ xs) m i = ((m.0, i.0), together xs m.1 i.1)

  words-declared : (ws : List Word) (s : Scope) → AllByRecursion P (names_sites false s ws) → AreInner inner ws
  words-declared [] s h = tt
  words-declared (w ∷ ws) s h = (h.0.1, words-declared ws _ h.1)

  scheme-declared : (c : Scope) (x : Option PScheme) → AllByRecursion P (if_there (scheme_sites c) x) → IfSome x (IsInnerScheme inner)
  scheme-declared c None h = tt
  scheme-declared c (Some (LWhile e)) h = tt
  scheme-declared c (Some (LFor w backwards x)) h = h.0.1

  formals-declared : (c : Scope) (h : PHead) → AllByRecursion P (head_sites c h) → AreInner inner (all_names h.formals)
  formals-declared c h m =
      words-declared (all_names h.formals) (inner_scope c)
      (all_front P (names_sites false (inner_scope c) (all_names h.formals)) _ (all_back P (if_there (accept_index_sites c (entry_named c.own h.entry.name)) h.index) (formals_sites c h.formals) m.1))

  less : AsksLess a b R
  less = record {
    outer = λ c d k s r h. tt;
    many = λ n h. tt;
    duration = λ n h. tt;
    plain = λ c d k x r h. subst (λ s. b.plain s k x) r.0 (but (stmt_sites c.0.0 x) h.0.0);
    callee = λ c d k x r h. (subst (λ s. AllMetBut (callee_sites s x)) r.0 (but (callee_sites c.0.0 x) h.0.0), subst (λ s. scope_asks.callee s k x) r.1 h.0.1);
    call = λ c d k x r h. subst (λ s. b.call s k x) r.0 (but (site c.0.0 (calls x) ∷ if_there (args_sites c.0.0 (called_entry (meaning c.0.0 x.task.name.name) x.entry.name)) x.args) h.0.0);
    aborts = λ c d k xs r h. tt;
    condition = λ c d k e r h. subst (λ s. b.condition s k e) r.0 (but (condition_sites c.0.0 e) h.0.0);
    selector = λ c d k e xs others s r h. subst (λ t. b.selector t k e xs others s) r.0 (but (site c.0.0 (chooses e xs others s) ∷ expr_sites c.0.0 e) h.0.0);
    choices = λ c d k e xs r h. subst (λ s. b.choices s k e xs) r.0 (but (flat_map (choice_sites c.0.0 (kind_of c.0.0 e) (selected_range c.0.0 e)) xs) h.0.0);
    loop = λ c d k w x r h. subst (λ s. b.loop s k w x) r.0 (
      but (if_there (λ y. site c.0.0 (labels y) ∷ []) w ++ if_there (scheme_sites c.0.0) x) h.0.0,
      scheme-declared c.0.0 x (all_back P (if_there (λ y. site c.0.0 (labels y) ∷ []) w) (if_there (scheme_sites c.0.0) x) h.0.0),
    );
    head = λ c d k h r i. (subst (λ s. AllMetBut (head_sites s h)) r.0 (but (head_sites c.0.0 h) i.0.0), subst (λ s. scope_asks.head s k h) r.1 i.0.1, formals-declared c.0.0 h i.0.0);
    wait = λ c d k x others s r h. (tt, h.1);
    delay = λ c d k e s r h. tt;
    handlers = λ hs h. tt;
    handler = λ c d k names ws r h. subst (λ s. b.handler s k names ws) r.0 (but (handler_names_sites c.0.0 names ws) h.0.0);
    accepting = λ c d h r. (ap (λ s. b.accepting s h) r.0, ap (λ s. b.accepting s h) r.1);
    looping = λ c d w x r. (ap (λ s. b.looping s w x) r.0, ap (λ s. b.looping s w x) r.1);
    handling = λ c d r. r;
  }

  -- A body is as asked where nothing is refused at its places, its inner scopes declare inner names, its callees and accepts are as they should be,
  -- and its waits have accepts.
  pub scopes-asked : (c : Scope) (x : PBody) → AllMetBut (body_sites c x) → AllInner inner (body_sites c x) → AskedBody scope_asks c 1 x → AskedBody wait_asks tt 1 x → AskedBody (with_scopes inner (type_asks IsMetBut)) c 1 x
  scopes-asked c x met declared callees waits =
      asked_less a b R less ((c, c), tt) c 1 x (refl, refl)
      (both_asked (both (type_asks P) scope_asks) wait_asks (c, c) tt 1 x (both_asked (type_asks P) scope_asks c c 1 x (typed_asked P c 1 x (together (body_sites c x) met declared)) callees) waits)
