-- What stands around stays so in accepts, loops and handlers.
use Rattle.std.proofs.Common.{◌≡◌, ℕ, ◌==◌, ◌||◌, Bool, true, false, cond, List, [], ◌∷◌, find, Option, Some, None, option_map, refl, sym, ap, ◌∙◌, true≢false}
use Rattle.std.specs.List.{list_any}
use Rattle.ada_tree.specs.declared.naming.NameId.{NameId}
use Rattle.ada_tree.specs.declared.naming.Span.{Span}
use Rattle.ada_tree.specs.declared.naming.Word.{Word}
use Rattle.ada_tree.specs.PlainStmt.{PScheme, LWhile, LFor, PHead}
use Rattle.ada_tree.specs.PlainProgram.{PProgram}
use Rattle.syn_event.specs.declared.meanings.Meant.{Meant}
use Rattle.syn_event.specs.declared.meanings.Meant.TheVariants.{Inner}
use Rattle.syn_event.specs.CheckScope.{CheckScope, meaning, uses, addresses}
use Rattle.syn_event.specs.CheckSites.{with_meant, formal_names, in_accept, in_loop, handling}
use Rattle.syn_event.specs.RuleAcceptPlace.{is_among}
use Rattle.syn_event.specs.RuleMainEntry.{no_task, main_entry}
use Rattle.syn_event.specs.RuleSharedVariable.{shared_name, in_body_of, shared_variable}
use Rattle.replay_model.specs.Names.{never_text, added_id}
use Rattle.replay_structure.specs.checked.Around.{IsAsking}
use Rattle.normal_laws.proofs.structure.checked.Scopes.{nothing-in}

-- ---- one name more

-- the scope with one name more, innermost
abbrev pub with_name : CheckScope → ℕ → Meant → CheckScope
with_name c n m = record c { names = (n, m) ∷ c.names }

-- a name that is no shared variable is none where an inner name is added
pub use-under : (c : CheckScope) (n : ℕ) (id : NameId) (s : Span) → shared_variable c (uses id s) ≡ [] → shared_variable (with_name c n Inner) (uses id s) ≡ []
use-under c n id s h = go (n == id.0)
  where
    go : (t : Bool) → in_body_of c.own (shared_name (option_map (λ k. k.1) (cond t (Some (n, Inner)) (find (λ k. k.0 == id.0) c.names))) s) ≡ []
    go true = nothing-in c.own
    go false = h

pub callee-under : (c : CheckScope) (n : ℕ) (w : Word) → main_entry c (addresses w) ≡ [] → main_entry (with_name c n Inner) (addresses w) ≡ []
callee-under c n w h = go (n == w.name.0)
  where
    go : (t : Bool) → no_task (option_map (λ k. k.1) (cond t (Some (n, Inner)) (find (λ k. k.0 == w.name.0) c.names))) w.span ≡ []
    go true = refl
    go false = h

-- what means the same does so where one name gets the same meaning in both
pub meant-under : (c d : CheckScope) (n : ℕ) (m : Meant) (id : NameId) → meaning d id ≡ meaning c id → meaning (with_name d n m) id ≡ meaning (with_name c n m) id
meant-under c d n m id h = go (n == id.0)
  where
    go : (t : Bool) → option_map (λ k. k.1) (cond t (Some (n, m)) (find (λ k. k.0 == id.0) d.names)) ≡ option_map (λ k. k.1) (cond t (Some (n, m)) (find (λ k. k.0 == id.0) c.names))
    go true = refl
    go false = h

-- a name keeps its meaning where another gets one
pub meant-beside : (d : CheckScope) (n : ℕ) (m : Meant) (id : NameId) → (n == id.0) ≡ false → meaning (with_name d n m) id ≡ meaning d id
meant-beside d n m id h = ap (λ t. option_map (λ k. k.1) (cond t (Some (n, m)) (find (λ k. k.0 == id.0) d.names))) h

-- ---- names of an inner scope

pub uses-under : (c : CheckScope) (ws : List Word) (id : NameId) (s : Span) → shared_variable c (uses id s) ≡ [] → shared_variable (with_meant Inner c ws) (uses id s) ≡ []
uses-under c [] id s h = h
uses-under c (w ∷ ws) id s h = uses-under (with_name c w.name.0 Inner) ws id s (use-under c w.name.0 id s h)

pub callees-under : (c : CheckScope) (ws : List Word) (w : Word) → main_entry c (addresses w) ≡ [] → main_entry (with_meant Inner c ws) (addresses w) ≡ []
callees-under c [] w h = h
callees-under c (v ∷ ws) w h = callees-under (with_name c v.name.0 Inner) ws w (callee-under c v.name.0 w h)

-- a name among those that are declared in an inner scope is no shared variable
pub inner-use : (c : CheckScope) (ws : List Word) (id : NameId) (s : Span) → list_any (λ w. w.name.0 == id.0) ws ≡ true → shared_variable (with_meant Inner c ws) (uses id s) ≡ []
inner-use c [] id s h = absurd (true≢false (sym h))
inner-use c (w ∷ ws) id s h = go (w.name.0 == id.0) refl h (inner-use (with_name c w.name.0 Inner) ws id s)
  where
    go : (t : Bool) → (w.name.0 == id.0) ≡ t → (t || list_any (λ v. v.name.0 == id.0) ws) ≡ true → (list_any (λ v. v.name.0 == id.0) ws ≡ true → shared_variable (with_meant Inner (with_name c w.name.0 Inner) ws) (uses id s) ≡ []) →
        shared_variable (with_meant Inner (with_name c w.name.0 Inner) ws) (uses id s) ≡ []
    go true e i later =
        uses-under (with_name c w.name.0 Inner) ws id s
        (ap (λ t. in_body_of c.own (shared_name (option_map (λ k. k.1) (cond t (Some (w.name.0, Inner)) (find (λ k. k.0 == id.0) c.names))) s)) e ∙ nothing-in c.own)
    go false e i later = later i

module _ (q : PProgram) where
  one-under : (c d : CheckScope) (n : ℕ) → IsAsking q c d → IsAsking q (with_name c n Inner) (with_name d n Inner)
  one-under c d n rel = record {
    meant = λ id o. meant-under c d n Inner id (rel.meant id o);
    inside = rel.inside;
    kind = λ s. use-under d n _ s (rel.kind s);
    argument = λ s. use-under d n _ s (rel.argument s);
    index = λ s. use-under d n _ s (rel.index s);
    truth = λ s. use-under d n _ s (rel.truth s);
    control = λ s. callee-under d n _ (rel.control s);
    idle = λ s. callee-under d n _ (rel.idle s);
    entries = rel.entries;
    never = rel.never;
    accepting = rel.accepting;
    outside = rel.outside;
    loops = rel.loops;
    in_handler = rel.in_handler;
  }

  pub all-under : (c d : CheckScope) (ws : List Word) → IsAsking q c d → IsAsking q (with_meant Inner c ws) (with_meant Inner d ws)
  all-under c d [] rel = rel
  all-under c d (w ∷ ws) rel = all-under (with_name c w.name.0 Inner) (with_name d w.name.0 Inner) ws (one-under c d w.name.0 rel)

  -- ---- accepts, loops and handlers

  -- an accept of an entry that is not DED_NEVER
  pub accept-around : (c d : CheckScope) (h : PHead) → (h.entry.name.0 == (added_id q never_text).0) ≡ false → IsAsking q c d → IsAsking q (in_accept c h) (in_accept d h)
  accept-around c d h other rel =
      all-under (record c { accepting = h.entry.name ∷ c.accepting; loops = [] }) (record d { accepting = h.entry.name ∷ d.accepting; loops = [] }) (formal_names h.formals)
      record {
        meant = rel.meant;
        inside = rel.inside;
        kind = rel.kind;
        argument = rel.argument;
        index = rel.index;
        truth = rel.truth;
        control = rel.control;
        idle = rel.idle;
        entries = rel.entries;
        never = rel.never;
        accepting = ap (λ l. h.entry.name ∷ l) rel.accepting;
        outside = ap (λ t. t || is_among d.accepting (added_id q never_text)) other ∙ rel.outside;
        loops = refl;
        in_handler = rel.in_handler;
      }

  -- other loops and other handlers around, the same on both sides
  around-with : (c d : CheckScope) (k l : List (Option NameId)) (a b : Bool) → l ≡ k → (a ≡ true → b ≡ true) → IsAsking q c d → IsAsking q (record c { loops = k; in_handler = a }) (record d { loops = l; in_handler = b })
  around-with c d k l a b same handled rel = record {
    meant = rel.meant;
    inside = rel.inside;
    kind = rel.kind;
    argument = rel.argument;
    index = rel.index;
    truth = rel.truth;
    control = rel.control;
    idle = rel.idle;
    entries = rel.entries;
    never = rel.never;
    accepting = rel.accepting;
    outside = rel.outside;
    loops = same;
    in_handler = handled;
  }

  named-loop : (c d : CheckScope) (w : Option Word) → IsAsking q c d → IsAsking q (record c { loops = option_map (λ x. x.name) w ∷ c.loops }) (record d { loops = option_map (λ x. x.name) w ∷ d.loops })
  named-loop c d w rel =
      around-with c d (option_map (λ x. x.name) w ∷ c.loops) (option_map (λ x. x.name) w ∷ d.loops) c.in_handler d.in_handler (ap (λ l. option_map (λ x. x.name) w ∷ l) rel.loops) rel.in_handler rel

  pub loop-around : (c d : CheckScope) (w : Option Word) (x : Option PScheme) → IsAsking q c d → IsAsking q (in_loop c w x) (in_loop d w x)
  loop-around c d w None rel = named-loop c d w rel
  loop-around c d w (Some (LWhile e)) rel = named-loop c d w rel
  loop-around c d w (Some (LFor v backwards r)) rel = all-under (record c { loops = option_map (λ x. x.name) w ∷ c.loops }) (record d { loops = option_map (λ x. x.name) w ∷ d.loops }) (v ∷ []) (named-loop c d w rel)

  pub handler-around : (c d : CheckScope) → IsAsking q c d → IsAsking q (handling c) (handling d)
  handler-around c d rel = around-with c d c.loops d.loops true true rel.loops (λ h. refl) rel
