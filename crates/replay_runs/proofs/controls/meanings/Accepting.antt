-- What a permit makes of the image of an accept statement of a legal program's normal form.
use Rattle.std.proofs.Common.{◌≡◌, ℕ, suc, ◌+◌, ◌<◌, ◌≤◌, ℤ, Bool, ◌&&◌, ◌==◌, List, length, position, option_map, unwrap_or, Option, Some, None, refl, sym, ap, ap₂, ◌∙◌, subst, arith}
use Rattle.std.specs.Prelude.{pos}
use Rattle.std.proofs.lemmas.Option.{none-some, slice_get_within}
use Rattle.common_lemmas.proofs.Options.{some_same}
use Rattle.event_machine.specs.declared.Event.{Event}
use Rattle.ada_tree.specs.declared.naming.NameId.{NameId}
use Rattle.ada_tree.specs.PlainExpr.{PExpr}
use Rattle.ada_tree.specs.PlainProgram.{PProgram}
use Rattle.ada_value.specs.Values.{position_of}
use Rattle.ada_value.specs.Variables.{Variables}
use Rattle.syn_event.specs.declared.numbering.EntryInfo.{EntryInfo}
use Rattle.syn_event.specs.Numbering.{Numbering, entry_at, entry_named}
use Rattle.task_model.specs.Setting.{entry_of, family_limits, member_index}
use Rattle.task_model.specs.Tasks.{Task, vars_of}
use Rattle.task_laws.specs.translation.Translations.{Programs, types_before, types_after}
use Rattle.task_laws.specs.translation.Scopes.{SeeAlike}
use Rattle.task_laws.specs.translation.OldNames.{OldOption, old_none, old_some}
use Rattle.task_laws.specs.translation.OldTexts.{only_names, old_accept}
use Rattle.task_laws.specs.translation.Controls.{Under}
use Rattle.task_laws.proofs.translation.Frames.{sees-alike}
use Rattle.normal_model.specs.Names.{variable_name}
use Rattle.normal_laws.specs.runs.forms.Normalisable.{numbers_of, setting_for, variables_of}
use Rattle.normal_laws.proofs.legality.checks.Facts as facts
use Rattle.normal_laws.specs.existence.Laws.{IsLegalOriginal}
use Rattle.run_laws.specs.replaying.Copies.{Spots}
use Rattle.replay_model.specs.ReplayTree.{last_task}
use Rattle.replay_structure.specs.spots.Laws.{IsInOrder}
use Rattle.replay_structure.specs.spots.Places.{text_spots}
use Rattle.replay_structure.proofs.spots.First.{found}
use Rattle.replay_structure.proofs.spots.Placed.{entry-suc, spots_are_there}
use Rattle.replay_structure.proofs.spots.Looked.{entries_are_found}
use Rattle.replay_structure.proofs.spots.Ordered.{normal_is_in_order}
use Rattle.replay_runs.specs.starts.Laws.{form_in}
use Rattle.replay_runs.specs.starts.Formals.{form_setting, text_setting}
use Rattle.replay_runs.proofs.translation.Rows.{maybe-rows}
use Rattle.replay_runs.specs.controls.Asking.{unit_of_task}
use Rattle.replay_runs.specs.controls.formed.Laws.{IsIndex, no_index, variable_index, static_index, IsHeadFormed}
use Rattle.replay_runs.specs.controls.indices.Laws.{KeepsUnit}
use Rattle.replay_runs.specs.controls.permits.Laws.{IndexIs, index_is}
use Rattle.replay_runs.specs.controls.permits.Laws as permits
use Rattle.replay_runs.specs.controls.translated.Laws.{form_and_text, unit_translation}
use Rattle.replay_runs.specs.controls.meanings.Laws.{stands_at, LegalAcceptsHold}
use Rattle.replay_runs.proofs.controls.Offers.{as-many-numbers}
use Rattle.replay_runs.proofs.controls.indices.Joined.{legal_variables_are_added, legal_indices_evaluate}
use Rattle.replay_runs.proofs.controls.meanings.Parts.{laws}
use Rattle.replay_runs.proofs.controls.meanings.Indices.{checked_index, member_checked, static_index_is, index_there, waits_for}
use Rattle.replay_runs.proofs.controls.meanings.Accepts.{accept_holds}
use Rattle.common_lemmas.proofs.Lists.{element_at as there-at}

-- an entry that is found by its name is there
pub entry-there : (numbers : Numbering) (t : ℕ) (name : NameId) (e : ℕ) → entry_named numbers t name ≡ Some e → (x : EntryInfo) × (entry_at numbers e ≡ Some x)
entry-there numbers t name e named = by_place (position test numbers.entries) refl named
  where
    test : EntryInfo → Bool
    test info = (info.owner == t) && (info.name.0 == name.0)

    by_place : (o : Option ℕ) → position test numbers.entries ≡ o → option_map (λ k. k + 1) o ≡ Some e → (x : EntryInfo) × (entry_at numbers e ≡ Some x)
    by_place None q f = absurd (none-some e f)
    by_place (Some i) q f =
        let first = found test numbers.entries i q in
        let at = there-at numbers.entries i (subst (λ k. k < length numbers.entries) first.0 first.1) in
        let is : e ≡ suc i = (let same = some_same f in omega (arith, same)) in
        (at.0, ap (entry_at numbers) is ∙ entry-suc numbers i ∙ at.1)

module _ (far : Spots) (p : PProgram) (events : List Event) (h : IsLegalOriginal p) (t : ℕ) where
  abbrev b : Programs
  b = form_and_text p events

  abbrev original : ℕ → ℕ
  original e = (text_spots far (form_in p)).original e

  pub order : IsInOrder (form_in p).numbers
  order = normal_is_in_order p (facts.ordered p h)

  -- the entry that is found has its number in the text, and the same range
  pub named-there : (name : NameId) (e : ℕ) → entry_named (form_in p).numbers t name ≡ Some e → entry_of (text_setting p events).numbers t name ≡ original e
  named-there name e named = ap (λ o. unwrap_or o 0) (entries_are_found far (form_in p) order t name e named)

  pub limits-there : (name : NameId) (e : ℕ) → entry_named (form_in p).numbers t name ≡ Some e → family_limits (entry_at (text_setting p events).numbers (original e)) ≡ family_limits (entry_at (form_in p).numbers e)
  limits-there name e named =
      let here = entry-there (form_in p).numbers t name e named in
      let there = (spots_are_there far (form_in p) order).original e here.0 here.1 in
      ap family_limits there.at ∙ ap₂ (λ (f l : ℤ). record { kind = 0; first = f; last = l }) there.same.first there.same.last ∙ sym (ap family_limits here.1)

  -- what the task's index is worth
  pub index-of : t ≤ last_task (form_in p).numbers → (σ : Task) → KeepsUnit p t σ → {W : Variables} → SeeAlike b (vars_of σ) W → (e : ℕ) {o : Option PExpr} → OldOption b o → IsIndex p t e o → (z : ℤ) × IndexIs (types_before b) (vars_of σ) o z
  index-of there σ keeps see e old no_index = (pos 0, permits.no_index)
  index-of there σ keeps see e old (variable_index s k is) =
      let many = as-many-numbers p h in
      let less : t < length (numbers_of p).tasks = omega (arith, many, there) in
      legal_indices_evaluate p h t σ keeps (types_before b) (variable_name (setting_for p) k) s (legal_variables_are_added p h t less k (slice_get_within (variables_of p t) k _ is))
  index-of there σ keeps see e (old_some _ old) (static_index x v static worth lies fits) = (position_of v, static_index_is p events h see x old static (index_is x v worth fits))

  pub index-after : {V W : Variables} → SeeAlike b V W → {o : Option PExpr} → OldOption b o → {z : ℤ} → IndexIs (types_before b) V o z → IndexIs (types_after b) W o z
  index-after see old_none permits.no_index = permits.no_index
  index-after see (old_some x old) worth = index_there p events h see old worth

pub accepts : LegalAcceptsHold
accepts far p events h t σ κ pair _ s (stands_at {q} {q'} {o} {o'} {V} {V'} i w _ r r' (old_accept head m _ old asked parts) im v) rests =
    let own = pair.own in
    let formed : IsHeadFormed p t head = own.formed.rest.0.0 in
    let e : ℕ = formed.entry.entry in
    let y = unit_translation p events t in
    let index = index-of far p events h t own.there _ own.variables (sees-alike y (laws far p events t h) v) e old.index formed.index in
    let named : entry_of (form_in p).numbers t head.entry.name ≡ e = ap (λ k. unwrap_or k 0) formed.entry.found in
    let waits = waits_for (form_setting p) t i w head m s r q o V e index.0 named index.1 rests in
    let after : (W : Variables) → Under y q o V q' o' W → IndexIs (types_after (form_and_text p events)) W head.index index.0 = λ W u. index-after far p events h t (sees-alike y (laws far p events t h) u) old.index index.1 in
    accept_holds far p events h t i w head m s r r' im v own e index.0 old.formals (maybe-rows (only_names (form_and_text p events)) (unit_of_task p t) parts) formed.entry.fits named (named-there far p events h t head.entry.name e formed.entry.found) after
    (λ W u. ap (λ k. member_index (text_setting p events) W k head.index) (named-there far p events h t head.entry.name e formed.entry.found)
    ∙ member_checked (text_setting p events) W ((text_spots far (form_in p)).original e) head.index index.0 (after W u)
    ∙ ap (λ l. checked_index l head.index index.0) (limits-there far p events h t head.entry.name e formed.entry.found)
    ∙ waits.worth) waits.alternative waits.offer
