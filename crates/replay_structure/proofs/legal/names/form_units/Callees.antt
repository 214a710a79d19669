-- The callees of a unit in the normal form are single tasks, and its accepts are of own entries.
use Rattle.std.proofs.Common.{◌≡◌, ℕ, Bool, true, List, [], is_some, sym, ap, ◌∙◌}
use Rattle.common_lemmas.proofs.Lists.{all_back}
use Rattle.ada_tree.specs.PlainStmt.{PHead, PBody}
use Rattle.ada_tree.specs.PlainDecl.{PDecl}
use Rattle.ada_static_rules.specs.Scope.{Scope, EntryPart, meaning, entry_named}
use Rattle.ada_static_rules.specs.Declaring.{inner_scope, with_formals}
use Rattle.ada_static_rules.specs.Sites.{if_there, scheme_sites, loop_scope}
use Rattle.normal_model.specs.NormalStmts.{normal_rewriter, normal_body}
use Rattle.normal_model.specs.Walk.{after_body}
use Rattle.normal_model.specs.RewrittenUnit.{RewrittenUnit}
use Rattle.normal_model.proofs.VariablesLemmas.{Begins}
use Rattle.task_laws.specs.legal.asked.Asked.{Asks, AskedBody}
use Rattle.normal_laws.specs.structure.asked.Pieces.{Pieces}
use Rattle.normal_laws.proofs.structure.asked.Walk.{body-keeps}
use Rattle.normal_laws.specs.structure.typed.ScopeOf.{IsScopeOf, IsPlaceOf}
use Rattle.normal_laws.proofs.structure.typed.Callees.{callee_entries, target-means}
use Rattle.normal_laws.proofs.structure.typed.Scopes.{accept-scope, loop-scope, accept-own, loop-own}
use Rattle.normal_laws.proofs.legality.asked.Bodies.{body_asks}
use Rattle.replay_structure.specs.typed.ScopeOf.{IsSingle}

-- a callee is a single task, and an accept is of an own entry
abbrev pub scope_asks : Asks Scope
scope_asks = record {
  outer = λ c k s. Prim.Unit {0};
  many = λ n. Prim.Unit {0};
  duration = λ n. Prim.Unit {0};
  plain = λ c k x. Prim.Unit {0};
  callee = λ c k x. IsSingle (meaning c x.name.name);
  call = λ c k x. Prim.Unit {0};
  aborts = λ c k xs. Prim.Unit {0};
  condition = λ c k e. Prim.Unit {0};
  selector = λ c k e xs others s. Prim.Unit {0};
  choices = λ c k e xs. Prim.Unit {0};
  loop = λ c k w x. Prim.Unit {0};
  head = λ c k h. is_some (entry_named c.own h.entry.name) ≡ true;
  wait = λ c k x others s. Prim.Unit {0};
  delay = λ c k e s. Prim.Unit {0};
  handlers = λ hs. Prim.Unit {0};
  handler = λ c k names ws. Prim.Unit {0};
  accepting = λ c h. with_formals (inner_scope c) h.formals;
  looping = λ c w x. loop_scope c x;
  handling = λ c. c;
}

module _ (u : RewrittenUnit) (own : ℕ → Bool) (vars : List PDecl) (entries : List EntryPart) where
  abbrev C : Type 0
  C = Prim.Unit {0} × (Scope × Prim.Unit {0})

  abbrev b : Asks C
  b = body_asks u.setting own entries

  -- the unit has these entries
  abbrev R : C → Scope → Type 0
  R c d = IsScopeOf u own vars c.1.0 d × (c.1.0.own ≡ entries)

  own-entry : (c : C) (d : Scope) (k : ℕ) (h : PHead) → R c d → b.head c k h → is_some (entry_named d.own h.entry.name) ≡ true
  own-entry c d k h rel i = ap (λ o. is_some o) (sym (rel.0.alike.own h.entry.name i.0.1.0)) ∙ ap (λ (l : List EntryPart). is_some (entry_named l h.entry.name)) rel.1 ∙ i.1.1

  pieces : Pieces u vars b scope_asks R
  pieces = record {
    outer = λ c d k n s rel h le. tt;
    many = λ n h. tt;
    some = λ n. tt;
    duration = λ n h. tt;
    plain = λ c d k x i rel h. tt;
    condition = λ c d k e rel h. tt;
    selector = λ c d k e xs others s rel h. tt;
    choices = λ c d k e xs rel h. tt;
    loop = λ c d k w x rel h. tt;
    looping = λ c d k w x rel h. (loop-scope u own vars c.1.0 d k x h.0.1 (all_back (IsPlaceOf u.setting) _ (if_there (scheme_sites c.1.0) x) h.1.0) rel.0, loop-own u own vars c.1.0 x ∙ rel.1);
    delay = λ c d k e f s rel h. tt;
    handlers = λ hs t h. tt;
    handler = λ c d k ids ws rel h. tt;
    handling = λ c d rel. rel;
    null = λ c d k n s rel h le. tt;
    program_error = λ c d k n s rel h le. tt;
    callee_index = λ c d k n s x e j rel h f v le. tt;
    target = λ c d k n x w rel h t le. (callee_entries u own vars c.1.0 d rel.0 x h.1.1 h.1.0, target-means u own vars c.1.0 d rel.0 x h.1.1 h.1.0 w t);
    chooses = λ c d k n s x e j rel h f v le. tt;
    chosen = λ c d k n s x e j info rel h f v i le. tt;
    called = λ c d k n s x j w rel h i t v le. tt;
    family_index = λ c d k n s x e j rel h i f v le. tt;
    actual_before = λ c d k n s x slot e j rel h i pair f v le. tt;
    actual_behind = λ c d k n s x slot e id j rel h i pair f q v le. tt;
    flag = λ c d k n s part j rel h small v le. tt;
    flag_test = λ c d k n s j rel h v le. tt;
    aborted = λ c d k n xs w rel h le. tt;
    no_abort = λ c d k rel h. tt;
    head = λ c d k h rel i f. own-entry c d k h rel i;
    head_moved = λ c d k s h e j rel i f v. own-entry c d k h rel i;
    accept_index = λ c d k n s h e j rel i f v le. tt;
    accepting = λ c d k s h j rel i. (accept-scope u own vars c.1.0 d k h i.0.1 i.1.0 rel.0, accept-own u own vars c.1.0 h.formals ∙ rel.1);
    guard = λ c d k n s e j rel h v le. tt;
    guard_test = λ c d k n s j rel h v le. tt;
    closed = λ c d k n x others s e es rel h w all few le. tt;
    wait = λ c d k x others s t rel h alts. tt;
  }

  -- So is a body of the normal form, where that of the program is as asked.
  pub callees-single : (c d : Scope) (x : PBody) → IsScopeOf u own vars c d → c.own ≡ entries → AskedBody (body_asks u.setting own entries) (tt, (c, tt)) 1 x → Begins (after_body (normal_rewriter u) x []) vars → AskedBody scope_asks d 1 (normal_body u x)
  callees-single c d x rel mine h begins = body-keeps u vars b scope_asks R pieces (tt, (c, tt)) d 1 x (rel, mine) h begins
