-- The controller and the idle task, as they are seen behind their declarations.
use Rattle.std.proofs.Common.{◌≡◌, ℕ, ◌==◌, pos, true, false, if◌then◌else◌, List, [], ◌∷◌, Option, Some, None, refl, ap, ◌∙◌}
use Rattle.std.proofs.lemmas.Bool.{eq-eqb}
use Rattle.ada_tree.specs.declared.naming.NameId.{NameId}
use Rattle.ada_tree.specs.declared.naming.Span.{Span}
use Rattle.ada_tree.specs.declared.statements.ParMode.TheVariants.{Give}
use Rattle.ada_tree.specs.PlainProgram.{PProgram}
use Rattle.ada_static_rules.specs.Scope.{Scope, Range, FormalPart, single, EntryPart, Thing, SingleTask, integer_kind, scalar_kind, meaning, entry_named}
use Rattle.ada_static_rules.specs.Declaring.{with_name, formal_parts, entry_part, after_decl}
use Rattle.normal_laws.specs.structure.typed.ScopeOf.{MeansInteger}
use Rattle.normal_laws.proofs.structure.typed.Literals.{integer-marked}
use Rattle.normal_laws.proofs.structure.typed.Scopes.{meaning-more}
use Rattle.replay_model.specs.Names.{kind_text, argument_text, index_text, control_text, go_text, done_text, hold_text, idle_text, stop_text, rest_text, added_id, added_word}
use Rattle.replay_model.specs.Controlling.{added_entry, all_tasks, permit_formals, control_declared, idle_declared}
use Rattle.replay_structure.specs.typed.ScopeOf.{HasLists, permit_parts, IsControl}
use Rattle.replay_structure.specs.typed.Controller.{IsIdler}
use Rattle.replay_structure.specs.scopes.Form.{AreEntriesApart}

-- the controller with all its entries
pub record IsControlling (q : PProgram) (d : Scope) : Type 0 where
  pub seen : IsControl q d
  pub hold : HasLists (entry_named seen.entries (added_id q hold_text)) single []

pub controlling-moved : (q : PProgram) (d d' : Scope) → meaning d' (added_id q control_text) ≡ meaning d (added_id q control_text) → IsControlling q d → IsControlling q d'
controlling-moved q d d' e h = record {
  seen = record { entries = h.seen.entries; means = e ∙ h.seen.means; range = h.seen.range; numbers = h.seen.numbers; go = h.seen.go; done = h.seen.done };
  hold = h.hold;
}

pub idler-moved : (q : PProgram) (d d' : Scope) → meaning d' (added_id q idle_text) ≡ meaning d (added_id q idle_text) → IsIdler q d → IsIdler q d'
idler-moved q d d' e h = record { seen = record { entries = h.seen.entries; means = e ∙ h.seen.means; stop = h.seen.stop }; rest = h.rest }

-- the entry that is found first, by tests
found-first : (x : EntryPart) (xs : List EntryPart) (id : NameId) → (x.name.0 == id.0) ≡ true → entry_named (x ∷ xs) id ≡ Some x
found-first x xs id e = ap (λ b. if b then Some x else entry_named xs id) e

found-later : (x : EntryPart) (xs : List EntryPart) (id : NameId) → (x.name.0 == id.0) ≡ false → entry_named (x ∷ xs) id ≡ entry_named xs id
found-later x xs id e = ap (λ b. if b then Some x else entry_named xs id) e

named-there : (th : Thing) (d : Scope) (s : Span) (q : PProgram) (t : List ℕ) → meaning (with_name th d (added_word q s t)) (added_id q t) ≡ Some th
named-there th d s q t = meaning-more th d (added_word q s t) (added_id q t) ∙ ap (λ b. if b then Some th else meaning d (added_id q t)) (eq-eqb (added_id q t).0 (added_id q t).0 refl)

module _ (q : PProgram) (apart : AreEntriesApart q) (d : Scope) (int : MeansInteger d) (s : Span) where
  same : (t : List ℕ) → ((added_id q t).0 == (added_id q t).0) ≡ true
  same t = eq-eqb (added_id q t).0 (added_id q t).0 refl

  -- the formals of GO
  formals-are : formal_parts d (permit_formals q s) ≡ permit_parts q
  formals-are = ap (λ k. formal k kind_text ∷ formal k argument_text ∷ formal k index_text ∷ []) (ap scalar_kind (integer-marked d int))
    where
      formal : Option ℕ → List ℕ → FormalPart
      formal k t = record { name = added_id q t; mode = Give; mark = record { 0 = 0 }; kind = k }

  abbrev go : ℕ → EntryPart
  go n = entry_part d (added_entry q s go_text (all_tasks s n) (permit_formals q s))

  abbrev done : ℕ → EntryPart
  done n = entry_part d (added_entry q s done_text (all_tasks s n) [])

  abbrev hold : EntryPart
  hold = entry_part d (added_entry q s hold_text None [])

  abbrev tasks : ℕ → Range
  tasks n = record { kind = integer_kind; first = pos 0; last = pos n }

  -- The controller behind its declaration.
  pub control-seen : (n : ℕ) → IsControlling q (after_decl d (control_declared q s n))
  control-seen n = record {
    seen = record {
      entries = go n ∷ done n ∷ hold ∷ [];
      means = named-there (SingleTask (go n ∷ done n ∷ hold ∷ [])) d s q control_text;
      range = tasks n;
      numbers = refl;
      go = record { its = go n; is = found-first (go n) (done n ∷ hold ∷ []) (added_id q go_text) (same go_text); members_are = refl; formals_are = formals-are };
      done = record {
        its = done n;
        is = found-later (go n) (done n ∷ hold ∷ []) (added_id q done_text) apart.go_done ∙ found-first (done n) (hold ∷ []) (added_id q done_text) (same done_text);
        members_are = refl;
        formals_are = refl;
      };
    };
    hold = record {
      its = hold;
      is =
          found-later (go n) (done n ∷ hold ∷ []) (added_id q hold_text) apart.go_hold
          ∙ found-later (done n) (hold ∷ []) (added_id q hold_text) apart.done_hold
          ∙ found-first hold [] (added_id q hold_text) (same hold_text);
      members_are = refl;
      formals_are = refl;
    };
  }

  abbrev stop : EntryPart
  stop = entry_part d (added_entry q s stop_text None [])

  abbrev rest : EntryPart
  rest = entry_part d (added_entry q s rest_text None [])

  -- The idle task behind its declaration.
  pub idle-seen : IsIdler q (after_decl d (idle_declared q s))
  idle-seen = record {
    seen = record {
      entries = stop ∷ rest ∷ [];
      means = named-there (SingleTask (stop ∷ rest ∷ [])) d s q idle_text;
      stop = record { its = stop; is = found-first stop (rest ∷ []) (added_id q stop_text) (same stop_text); members_are = refl; formals_are = refl };
    };
    rest = record {
      its = rest;
      is = found-later stop (rest ∷ []) (added_id q rest_text) apart.stop_rest ∙ found-first rest [] (added_id q rest_text) (same rest_text);
      members_are = refl;
      formals_are = refl;
    };
  }
