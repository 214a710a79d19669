-- What is asked of the statements of a normal form, from what is known at each of its places.
use Rattle.std.proofs.Common.{◌≡◌, ℕ, Bool, true, false, List, [], ◌∷◌, ◌++◌, flat_map, Option, Some, None, IfSome, is_some, refl, subst}
use Rattle.std.specs.List.{AllByRecursion}
use Rattle.common_lemmas.proofs.Lists.{all_back, all_front}
use Rattle.ada_tree.specs.declared.naming.Word.{Word}
use Rattle.ada_tree.specs.PlainStmt.{PScheme, LWhile, LFor, PHead, PBody}
use Rattle.ada_tree.specs.Every.{EveryBody}
use Rattle.ada_static_rules.specs.Scope.{Scope, meaning, entry_named}
use Rattle.ada_static_rules.specs.Demand.{Demand, declares, labels, addresses, calls, accepts, chooses, Site}
use Rattle.ada_static_rules.specs.Sites.{site, if_there, expr_sites, callee_sites, args_sites, condition_sites, choice_sites, handler_names_sites, stmt_sites, names_sites, all_names, formals_sites, accept_index_sites, head_sites, scheme_sites, body_sites}
use Rattle.ada_static_rules.specs.ExprTypes.{kind_of}
use Rattle.ada_static_rules.specs.RuleArgCount.{called_entry}
use Rattle.ada_static_rules.specs.RuleChoiceBad.{selected_range}
use Rattle.ada_static_rules.specs.Declaring.{inner_scope}
use Rattle.task_laws.specs.legal.asked.Asked.{Asks, AskedBody}
use Rattle.task_laws.specs.legal.asked.Kinds.{place_asks, type_asks, no_asks, both}
use Rattle.task_laws.proofs.legal.asked.Placed.{placed_asked}
use Rattle.task_laws.proofs.legal.asked.Typed.{typed_asked}
use Rattle.task_laws.proofs.legal.asked.Together.{both_asked}
use Rattle.normal_laws.specs.structure.checked.Around.{own_rules}
use Rattle.task_laws.specs.legal.alike_scopes.Laws.{IsMetBut}
use Rattle.replay_structure.specs.typed.ScopeOf.{IsSingle, AreInner, IsInnerScheme, has_accept, with_scopes, form_asks}
use Rattle.replay_structure.proofs.scopes.Weaker.{AsksLess, asked_less}

-- a callee is a single task, an accept is of an own entry, and an inner scope declares an inner name
abbrev pub IsScopedAt : (ℕ → Bool) → Scope → Demand → Type 0
IsScopedAt inner c (addresses x) = IsSingle (meaning c x.name.name)
IsScopedAt inner c (accepts h) = is_some (entry_named c.own h.entry.name) ≡ true
IsScopedAt inner c (declares false w) = inner w.name.0 ≡ true
IsScopedAt inner c _ = Prim.Unit {0}

-- and none of the rules but rule 2 refuses anything
abbrev pub IsPlace : (ℕ → Bool) → Site → Type 0
IsPlace inner x = IsMetBut x × IsScopedAt inner x.scope x.demand

-- each wait has an accept
abbrev pub wait_asks : Asks (Prim.Unit {0})
wait_asks = record no_asks { wait = λ c k x others s. has_accept x ≡ true }

module _ (old inner : ℕ → Bool) where
  abbrev P : Site → Type 0
  P = IsPlace inner

  abbrev a : Asks (Scope × Prim.Unit {0})
  a = both (type_asks P) wait_asks

  abbrev b : Asks Scope
  b = with_scopes inner (type_asks IsMetBut)

  abbrev R : Scope × Prim.Unit {0} → Scope → Type 0
  R c d = c.0 ≡ d

  but : (xs : List Site) → AllByRecursion P xs → AllByRecursion IsMetBut xs
  but [] h = tt
  but (x ∷ xs) h = (h.0.0, but xs h.1)

  words-inner : (ws : List Word) (s : Scope) → AllByRecursion P (names_sites false s ws) → AreInner inner ws
  words-inner [] s h = tt
  words-inner (w ∷ ws) s h = (h.0.1, words-inner ws _ h.1)

  scheme-inner : (c : Scope) (x : Option PScheme) → AllByRecursion P (if_there (scheme_sites c) x) → IfSome x (IsInnerScheme inner)
  scheme-inner c None h = tt
  scheme-inner c (Some (LWhile e)) h = tt
  scheme-inner c (Some (LFor w backwards x)) h = h.0.1

  head-inner : (c : Scope) (h : PHead) → AllByRecursion P (head_sites c h) → AreInner inner (all_names h.formals)
  head-inner c h m =
      words-inner (all_names h.formals) (inner_scope c)
      (all_front P (names_sites false (inner_scope c) (all_names h.formals)) _ (all_back P (if_there (accept_index_sites c (entry_named c.own h.entry.name)) h.index) (formals_sites c h.formals) m.1))

  less : AsksLess a b R
  less = record {
    outer = λ c d k s r h. tt;
    many = λ n h. tt;
    duration = λ n h. tt;
    plain = λ c d k x r h. subst (λ s. b.plain s k x) r (but (stmt_sites c.0 x) h.0);
    callee = λ c d k x r h. subst (λ s. b.callee s k x) r (but (callee_sites c.0 x) h.0, h.0.0.1);
    call = λ c d k x r h. subst (λ s. b.call s k x) r (but (site c.0 (calls x) ∷ if_there (args_sites c.0 (called_entry (meaning c.0 x.task.name.name) x.entry.name)) x.args) h.0);
    aborts = λ c d k xs r h. tt;
    condition = λ c d k e r h. subst (λ s. b.condition s k e) r (but (condition_sites c.0 e) h.0);
    selector = λ c d k e xs others s r h. subst (λ t. b.selector t k e xs others s) r (but (site c.0 (chooses e xs others s) ∷ expr_sites c.0 e) h.0);
    choices = λ c d k e xs r h. subst (λ s. b.choices s k e xs) r (but (flat_map (choice_sites c.0 (kind_of c.0 e) (selected_range c.0 e)) xs) h.0);
    loop = λ c d k w x r h. subst (λ s. b.loop s k w x) r
        (but (if_there (λ y. site c.0 (labels y) ∷ []) w ++ if_there (scheme_sites c.0) x) h.0, scheme-inner c.0 x (all_back P (if_there (λ y. site c.0 (labels y) ∷ []) w) (if_there (scheme_sites c.0) x) h.0));
    head = λ c d k h r i. subst (λ s. b.head s k h) r (but (head_sites c.0 h) i.0, i.0.0.1, head-inner c.0 h i.0);
    wait = λ c d k x others s r h. (tt, h.1);
    delay = λ c d k e s r h. tt;
    handlers = λ hs h. tt;
    handler = λ c d k names ws r h. subst (λ s. b.handler s k names ws) r (but (handler_names_sites c.0 names ws) h.0);
    accepting = λ c d h r. subst (λ s. R (a.accepting c h) (b.accepting s h)) r refl;
    looping = λ c d w x r. subst (λ s. R (a.looping c w x) (b.looping s w x)) r refl;
    handling = λ c d r. r;
  }

  -- A body is as asked of a normal form, where it is so at each of its places, its waits have accepts, and its names are old.
  pub form-asked : (c : Scope) (k : ℕ) (x : PBody) → EveryBody (own_rules old) k x → AllByRecursion P (body_sites c x) → AskedBody wait_asks tt k x → AskedBody (form_asks old inner) (tt, c) k x
  form-asked c k x every places waits =
      both_asked (place_asks (own_rules old)) b tt c k x (placed_asked (own_rules old) k x every)
      (asked_less a b R less (c, tt) c k x refl (both_asked (type_asks P) wait_asks c tt k x (typed_asked P c k x places) waits))
