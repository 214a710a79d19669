-- What stands around stays so in accepts, loops and handlers, also where the text has a loop more.
use Rattle.std.proofs.Common.{◌≡◌, ℕ, Bool, true, List, [], ◌∷◌, Option, Some, None, option_map, refl, ap, subst, sym, ◌∙◌}
use Rattle.ada_tree.specs.declared.naming.NameId.{NameId}
use Rattle.ada_tree.specs.declared.naming.Word.{Word}
use Rattle.ada_tree.specs.PlainStmt.{PScheme, LWhile, LFor, PHead}
use Rattle.ada_tree.specs.PlainProgram.{PProgram}
use Rattle.syn_event.specs.declared.meanings.Meant.TheVariants.{Inner}
use Rattle.syn_event.specs.CheckScope.{CheckScope}
use Rattle.syn_event.specs.CheckSites.{with_meant, formal_names, in_accept, in_loop, handling}
use Rattle.replay_structure.proofs.checked.Scopes.{with_name, use-under, callee-under, meant-under, meant-beside}
use Rattle.collect_model.specs.Names.{caller_text}
use Rattle.collect_model.specs.Teller.{Teller}
use Rattle.collect_model.specs.Serving.{head_telling}
use Rattle.collect_structure.specs.Names as collect
use Rattle.collect_structure.proofs.checked.Names.{added-other}
use Rattle.collect_model.specs.aborts.AbortTeller.{AbortTeller}
use Rattle.collect_structure.specs.aborts.checked.Around.{IsTelling, IsStaying}
use Rattle.collect_structure.proofs.aborts.checked.Names.{still-kept}

module _ (q : PProgram) (y : AbortTeller) (most : ℕ) where
  abbrev R : CheckScope → CheckScope → Type 0
  R c d = IsStaying q y most c d

  abbrev S : CheckScope → CheckScope → Type 0
  S c d = IsTelling q y most c d

  -- ---- names

  one-under : (c d : CheckScope) (n : ℕ) → S c d → S (with_name c n Inner) (with_name d n Inner)
  one-under c d n rel = record {
    meant = λ id o. meant-under c d n Inner id (rel.meant id o);
    inside = rel.inside;
    values = rel.values;
    answer = λ s. use-under d n _ s (rel.answer s);
    part = λ s. use-under d n _ s (rel.part s);
    taken = λ p i s. use-under d n _ s (rel.taken p i s);
    refused = λ p i s. use-under d n _ s (rel.refused p i s);
    recorder = λ s. callee-under d n _ (rel.recorder s);
    entries = rel.entries;
    accepting = rel.accepting;
    in_handler = rel.in_handler;
  }

  all-under : (c d : CheckScope) (ws : List Word) → S c d → d.loops ≡ c.loops → R (with_meant Inner c ws) (with_meant Inner d ws)
  all-under c d [] rel same = (rel, same)
  all-under c d (w ∷ ws) rel same = all-under (with_name c w.name.0 Inner) (with_name d w.name.0 Inner) ws (one-under c d w.name.0 rel) same

  -- a name that is added gets a meaning on the right alone
  caller-under : (c d : CheckScope) → S c d → S c (with_name d (collect.added_id q caller_text).0 Inner)
  caller-under c d rel =
      let n : ℕ = (collect.added_id q caller_text).0 in
      record {
        meant = λ id o. meant-beside d n Inner id (added-other q id caller_text (still-kept q id.0 o) refl refl) ∙ rel.meant id o;
        inside = rel.inside;
        values = rel.values;
        answer = λ s. use-under d n _ s (rel.answer s);
        part = λ s. use-under d n _ s (rel.part s);
        taken = λ p i s. use-under d n _ s (rel.taken p i s);
        refused = λ p i s. use-under d n _ s (rel.refused p i s);
        recorder = λ s. callee-under d n _ (rel.recorder s);
        entries = rel.entries;
        accepting = rel.accepting;
        in_handler = rel.in_handler;
      }

  -- ---- accepts, loops and handlers

  -- an accept, with the formal of the caller; no loop around it can be left there
  pub accept-around : (x : Teller) → x.added.caller ≡ collect.added_id q caller_text → (c d : CheckScope) (h : PHead) → S c d →
      R (in_accept c h) (in_accept d (head_telling x h))
  accept-around x e c d h rel =
      subst (λ id. R (in_accept c h) (with_meant Inner (with_name inside id.0 Inner) (formal_names h.formals))) (sym e)
      (all-under around (with_name inside (collect.added_id q caller_text).0 Inner) (formal_names h.formals)
      (caller-under around inside record {
        meant = rel.meant;
        inside = rel.inside;
        values = rel.values;
        answer = rel.answer;
        part = rel.part;
        taken = rel.taken;
        refused = rel.refused;
        recorder = rel.recorder;
        entries = rel.entries;
        accepting = ap (λ l. h.entry.name ∷ l) rel.accepting;
        in_handler = rel.in_handler;
      })
      refl)
    where
      around : CheckScope
      around = record c { accepting = h.entry.name ∷ c.accepting; loops = [] }

      inside : CheckScope
      inside = record d { accepting = h.entry.name ∷ d.accepting; loops = [] }

  -- whatever loops, and other handlers around
  pub around-with : (c d : CheckScope) (k l : List (Option NameId)) (a b : Bool) → (a ≡ true → b ≡ true) → S c d →
      S (record c { loops = k; in_handler = a }) (record d { loops = l; in_handler = b })
  around-with c d k l a b handled rel = record {
    meant = rel.meant;
    inside = rel.inside;
    values = rel.values;
    answer = rel.answer;
    part = rel.part;
    taken = rel.taken;
    refused = rel.refused;
    recorder = rel.recorder;
    entries = rel.entries;
    accepting = rel.accepting;
    in_handler = handled;
  }

  -- a loop without a name that the text adds
  pub added-loop : (c d : CheckScope) → S c d → S c (in_loop d None None)
  added-loop c d rel = around-with c d c.loops (None ∷ d.loops) c.in_handler d.in_handler rel.in_handler rel

  named-loop : (c d : CheckScope) (w : Option Word) → R c d →
      R (record c { loops = option_map (λ x. x.name) w ∷ c.loops }) (record d { loops = option_map (λ x. x.name) w ∷ d.loops })
  named-loop c d w rel = (
    around-with c d (option_map (λ x. x.name) w ∷ c.loops) (option_map (λ x. x.name) w ∷ d.loops) c.in_handler d.in_handler rel.0.in_handler rel.0,
    ap (λ l. option_map (λ x. x.name) w ∷ l) rel.1,
  )

  pub loop-around : (c d : CheckScope) (w : Option Word) (x : Option PScheme) → R c d → R (in_loop c w x) (in_loop d w x)
  loop-around c d w None rel = named-loop c d w rel
  loop-around c d w (Some (LWhile e)) rel = named-loop c d w rel
  loop-around c d w (Some (LFor v backwards r)) rel =
      let inner = named-loop c d w rel in
      all-under (record c { loops = option_map (λ x. x.name) w ∷ c.loops }) (record d { loops = option_map (λ x. x.name) w ∷ d.loops }) (v ∷ []) inner.0 inner.1

  pub beside-handler : (c d : CheckScope) → S c d → S (handling c) (handling d)
  beside-handler c d rel = around-with c d c.loops d.loops true true (λ h. refl) rel

  pub handler-around : (c d : CheckScope) → R c d → R (handling c) (handling d)
  handler-around c d rel = (beside-handler c d rel.0, rel.1)
