-- What stands around stays so in accepts, loops and handlers.
use Rattle.std.proofs.Common.{◌≡◌, ℕ, Bool, true, List, [], ◌∷◌, Option, Some, None, option_map, refl, sym, ap, subst, ◌∙◌}
use Rattle.ada_tree.specs.declared.naming.NameId.{NameId}
use Rattle.ada_tree.specs.declared.naming.Word.{Word}
use Rattle.ada_tree.specs.PlainStmt.{PScheme, LWhile, LFor, PHead}
use Rattle.ada_tree.specs.PlainProgram.{PProgram}
use Rattle.syn_event.specs.declared.meanings.Meant.TheVariants.{Inner}
use Rattle.syn_event.specs.CheckScope.{CheckScope}
use Rattle.syn_event.specs.CheckSites.{with_meant, formal_names, in_accept, in_loop, handling}
use Rattle.replay_structure.proofs.checked.Scopes.{with_name, use-under, callee-under, meant-under, meant-beside}
use Rattle.collect_model.specs.Names.{caller_text}
use Rattle.collect_model.specs.Teller.{Teller}
use Rattle.collect_model.specs.Serving.{head_telling}
use Rattle.collect_structure.specs.Names.{added_id}
use Rattle.collect_structure.specs.checked.Around.{IsTelling}
use Rattle.collect_structure.proofs.checked.Names.{added-other}

module _ (q : PProgram) where
  one-under : (c d : CheckScope) (n : ℕ) → IsTelling q c d → IsTelling q (with_name c n Inner) (with_name d n Inner)
  one-under c d n rel = record {
    meant = λ id o. meant-under c d n Inner id (rel.meant id o);
    inside = rel.inside;
    values = rel.values;
    answer = λ s. use-under d n _ s (rel.answer s);
    part = λ s. use-under d n _ s (rel.part s);
    recorder = λ s. callee-under d n _ (rel.recorder s);
    entries = rel.entries;
    accepting = rel.accepting;
    loops = rel.loops;
    in_handler = rel.in_handler;
  }

  pub all-under : (c d : CheckScope) (ws : List Word) → IsTelling q c d → IsTelling q (with_meant Inner c ws) (with_meant Inner d ws)
  all-under c d [] rel = rel
  all-under c d (w ∷ ws) rel = all-under (with_name c w.name.0 Inner) (with_name d w.name.0 Inner) ws (one-under c d w.name.0 rel)

  -- ---- accepts, loops and handlers

  -- a name that is added gets a meaning on the right alone
  caller-under : (c d : CheckScope) → IsTelling q c d → IsTelling q c (with_name d (added_id q caller_text).0 Inner)
  caller-under c d rel = record {
    meant = λ id o. meant-beside d (added_id q caller_text).0 Inner id (added-other q id caller_text o refl refl) ∙ rel.meant id o;
    inside = rel.inside;
    values = rel.values;
    answer = λ s. use-under d (added_id q caller_text).0 _ s (rel.answer s);
    part = λ s. use-under d (added_id q caller_text).0 _ s (rel.part s);
    recorder = λ s. callee-under d (added_id q caller_text).0 _ (rel.recorder s);
    entries = rel.entries;
    accepting = rel.accepting;
    loops = rel.loops;
    in_handler = rel.in_handler;
  }

  -- an accept, with the formal of the caller
  pub accept-around : (x : Teller) → x.added.caller ≡ added_id q caller_text → (c d : CheckScope) (h : PHead) → IsTelling q c d → IsTelling q (in_accept c h) (in_accept d (head_telling x h))
  accept-around x e c d h rel =
      subst (λ id. IsTelling q (in_accept c h) (with_meant Inner (with_name inside id.0 Inner) (formal_names h.formals))) (sym e)
      (all-under (record c { accepting = h.entry.name ∷ c.accepting; loops = [] }) (with_name inside (added_id q caller_text).0 Inner) (formal_names h.formals)
      (caller-under (record c { accepting = h.entry.name ∷ c.accepting; loops = [] }) inside record {
        meant = rel.meant;
        inside = rel.inside;
        values = rel.values;
        answer = rel.answer;
        part = rel.part;
        recorder = rel.recorder;
        entries = rel.entries;
        accepting = ap (λ l. h.entry.name ∷ l) rel.accepting;
        loops = refl;
        in_handler = rel.in_handler;
      }))
    where
      inside : CheckScope
      inside = record d { accepting = h.entry.name ∷ d.accepting; loops = [] }

  -- other loops and other handlers around, the same on both sides
  around-with : (c d : CheckScope) (k l : List (Option NameId)) (a b : Bool) → l ≡ k → (a ≡ true → b ≡ true) → IsTelling q c d → IsTelling q (record c { loops = k; in_handler = a }) (record d { loops = l; in_handler = b })
  around-with c d k l a b same handled rel = record {
    meant = rel.meant;
    inside = rel.inside;
    values = rel.values;
    answer = rel.answer;
    part = rel.part;
    recorder = rel.recorder;
    entries = rel.entries;
    accepting = rel.accepting;
    loops = same;
    in_handler = handled;
  }

  named-loop : (c d : CheckScope) (w : Option Word) → IsTelling q c d → IsTelling q (record c { loops = option_map (λ x. x.name) w ∷ c.loops }) (record d { loops = option_map (λ x. x.name) w ∷ d.loops })
  named-loop c d w rel =
      around-with c d (option_map (λ x. x.name) w ∷ c.loops) (option_map (λ x. x.name) w ∷ d.loops) c.in_handler d.in_handler (ap (λ l. option_map (λ x. x.name) w ∷ l) rel.loops) rel.in_handler rel

  pub loop-around : (c d : CheckScope) (w : Option Word) (x : Option PScheme) → IsTelling q c d → IsTelling q (in_loop c w x) (in_loop d w x)
  loop-around c d w None rel = named-loop c d w rel
  loop-around c d w (Some (LWhile e)) rel = named-loop c d w rel
  loop-around c d w (Some (LFor v backwards r)) rel = all-under (record c { loops = option_map (λ x. x.name) w ∷ c.loops }) (record d { loops = option_map (λ x. x.name) w ∷ d.loops }) (v ∷ []) (named-loop c d w rel)

  pub handler-around : (c d : CheckScope) → IsTelling q c d → IsTelling q (handling c) (handling d)
  handler-around c d rel = around-with c d c.loops d.loops true true rel.loops (λ h. refl) rel
