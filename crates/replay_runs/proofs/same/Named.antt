-- Names that are a table stay one where a text is interned, and so those of a replay text are one.
use Rattle.std.proofs.Common.{◌++◌, ◌∙◌, ◌∷◌, ◌≡◌, ◌≤◌, ◌⊎◌, Bool, List, Some, [], ap, arith, codes, false, flat_map, if◌then◌else◌, inl, inr, length, refl, slice_get, subst, suc, sym, true, zero, ℕ}
use Rattle.std.proofs.lemmas.List.{length-take, take-append-le}
use Rattle.std.specs.List.{fold, list_any}
use Rattle.std.specs.Str.{bytes_eq}
use Rattle.ada_tree.proofs.Interning.{AreNames-predefined, in_longer, nowhere}
use Rattle.ada_tree.proofs.SameLaws.{Same-refl}
use Rattle.ada_tree.specs.NameList.{AreNames, interned, predefined}
use Rattle.ada_tree.specs.PlainProgram.{PProgram}
use Rattle.ada_tree.specs.TypeTable.{TypeTable}
use Rattle.event_machine.specs.declared.Event.{Event}
use Rattle.syn_event.proofs.Weaker.{placed_tokens}
use Rattle.syn_event.specs.DeclaredTasks.{tasks_of}
use Rattle.syn_event.specs.Numbering.{Numbering}
use Rattle.task_model.specs.Setting.{Setting}
use Rattle.normal_model.specs.Names.{member_texts, variable_text, with_members, with_variables}
use Rattle.normal_model.specs.NormalTree.{normal_tree, variables_needed}
use Rattle.replay_model.specs.Names.{added_texts, double_texts}
use Rattle.replay_model.specs.Promised.{IsReplayText}
use Rattle.replay_model.specs.ReplayTree.{replay_tree}
use Rattle.replay_runs.specs.same.Laws.{ExampleIsMet, IsNameTable, IsNamed, MetByPlaced}

pub table_of : (names : List (List ℕ)) → AreNames names → IsNameTable names
table_of names h = record { begins = h.begins; distinct = h.distinct }

table_added : (ts : List (List ℕ)) (t : List ℕ) → IsNameTable ts → list_any (bytes_eq t) ts ≡ false → IsNameTable (ts ++ t ∷ [])
table_added ts t names new = record {
  begins =
      let enough : length predefined ≤ length ts = omega (arith, ap length names.begins, length-take (length predefined) ts) in
      take-append-le (length predefined) ts (t ∷ []) enough ∙ names.begins;
  distinct = λ u i j at_i at_j. place u i j (in_longer ts t u i at_i) (in_longer ts t u j at_j);
}
  where
    place : (u : List ℕ) (i j : ℕ) → (slice_get ts i ≡ Some u) ⊎ ((i ≡ length ts) × (t ≡ u)) → (slice_get ts j ≡ Some u) ⊎ ((j ≡ length ts) × (t ≡ u)) → i ≡ j
    place u i j (inl a) (inl b) = names.distinct u i j a b
    place u i j (inl a) (inr b) = absurd (nowhere t ts i new (a ∙ ap Some (sym b.1)))
    place u i j (inr a) (inl b) = absurd (nowhere t ts j new (b ∙ ap Some (sym a.1)))
    place u i j (inr a) (inr b) = a.0 ∙ sym b.0

table_interned : (ts : List (List ℕ)) (t : List ℕ) → IsNameTable ts → IsNameTable (interned ts t)
table_interned ts t names = pick (list_any (bytes_eq t) ts) refl
  where
    pick : (b : Bool) → list_any (bytes_eq t) ts ≡ b → IsNameTable (if b then ts else ts ++ t ∷ [])
    pick true e = names
    pick false e = table_added ts t names e

table_folded : (texts ts : List (List ℕ)) → IsNameTable ts → IsNameTable (fold interned ts texts)
table_folded [] ts names = names
table_folded (t ∷ texts) ts names = table_folded texts (interned ts t) (table_interned ts t names)

table_variables : (ts : List (List ℕ)) (n : ℕ) → IsNameTable ts → IsNameTable (with_variables ts n)
table_variables ts zero names = names
table_variables ts (suc n) names = table_interned (with_variables ts n) (variable_text n) (table_variables ts n names)

tree_names : (p : PProgram) (types : TypeTable) (numbers : Numbering) (events : List Event) → IsNameTable p.names → IsNameTable (replay_tree p types numbers events).names
tree_names p types numbers events names =
    table_folded (added_texts ++ flat_map (double_texts (normal_tree p types numbers).names) (tasks_of (normal_tree p types numbers))) (normal_tree p types numbers).names
    (table_variables (with_members g) (variables_needed g) (table_folded (member_texts p.names numbers.tasks) p.names names))
  where
    g : Setting
    g = record { program = p; types = types; numbers = numbers }

-- a replay text is as the law asks
pub text_named : (p : PProgram) (types : TypeTable) (numbers : Numbering) (events : List Event) (text : PProgram) → AreNames p.names → IsReplayText p types numbers events text → IsNamed text
text_named p types numbers events text names h = record {
  names = subst (λ (q : PProgram). IsNameTable q.names) (sym h.text) (tree_names p types numbers events (table_of p.names names));
  tokens = placed_tokens text h.placed;
}

pub met_by_placed : MetByPlaced
met_by_placed p names placed = record { named = record { names = table_of p.names names; tokens = placed_tokens p placed }; names = table_of p.names names; same = Same-refl p }

with_p : IsNameTable (predefined ++ codes "P" ∷ [])
with_p = table_added predefined (codes "P") (table_of predefined AreNames-predefined) refl

with_x : IsNameTable (predefined ++ codes "X" ∷ [])
with_x = table_added predefined (codes "X") (table_of predefined AreNames-predefined) refl

pub example_is_met : ExampleIsMet
example_is_met = record {
  named = record { names = with_p; tokens = ((refl, omega arith, refl), tt, tt, ((tt, tt, tt), tt, tt)) };
  names = table_added (predefined ++ codes "X" ∷ []) (codes "P") with_x refl;
  same = (refl, refl, tt, ((tt, tt), tt));
}
