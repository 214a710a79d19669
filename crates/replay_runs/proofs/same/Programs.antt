-- Two programs that are the same go over to one, each by a renaming of its ids, and so do their tasks as they start.
use Rattle.std.proofs.Common.{◌++◌, ◌∙◌, ◌∷◌, ◌≡◌, List, None, Option, Some, [], ap, ap₂, arith, false, length, refl, slice_get, slice_index_or, subst, suc, sym, zero, ℕ, ℤ}
use Rattle.std.proofs.lemmas.List.{length-map}
use Rattle.std.proofs.lemmas.Option.{slice_get_past}
use Rattle.std.specs.List.{AllZip}
use Rattle.std.specs.Prelude.{IsSomeAnd}
use Rattle.ada_tree.specs.Lexical.{IsIdentifier}
use Rattle.ada_tree.specs.PlainDecl.{no_decl}
use Rattle.ada_tree.specs.PlainProgram.{PProgram}
use Rattle.ada_tree.specs.PlainStmt.{body, no_handler, no_stmt}
use Rattle.ada_tree.specs.Same.{Same, SameName}
use Rattle.ada_tree.specs.WellPlaced.{tokens}
use Rattle.ada_tree.specs.declared.naming.NameId.{NameId}
use Rattle.ada_static_rules.specs.Refusals.{types_in}
use Rattle.event_machine.specs.States.{completed, live}
use Rattle.event_machine.specs.declared.Event.{Event}
use Rattle.syn_event.specs.AllNumbers.{all_numbers}
use Rattle.syn_event.specs.Numbering.{Numbering, owner_of}
use Rattle.syn_event.specs.Origin.{back_of}
use Rattle.task_model.specs.Frames.{OwnBody, control}
use Rattle.task_model.specs.Machine.{ProgramWithInputs, first_tasks, setting_of}
use Rattle.task_model.specs.Starting.{nobody, started}
use Rattle.task_model.specs.Tasks.{Task}
use Rattle.replay_runs.proofs.same.Declaring.{types_same}
use Rattle.replay_runs.proofs.same.Numbers.{numbers_same}
use Rattle.replay_runs.proofs.same.Opening.{back_same, owner_same, started_same}
use Rattle.replay_runs.proofs.same.Running.{run_alike}
use Rattle.replay_runs.proofs.same.Tables.{carried, carried_keeps, carried_renames, known_same, names_there, stayed, stayed_keeps, stayed_renames}
use Rattle.replay_runs.proofs.same.Tasks.{TasksAlike, outputs_same, respects}
use Rattle.replay_runs.proofs.same.Trees.{program_same}
use Rattle.replay_runs.specs.same.Alike.{ProgramsAlike, RunAlike, SeatsAlike, StatesAlike}
use Rattle.replay_runs.specs.same.Laws.{IsNameTable, IsNamed}
use Rattle.replay_runs.specs.same.Renamed.{IsRenaming, KeepsTexts, no_span, renamed_program, renamed_types}
use Rattle.replay_runs.specs.same.inner.RenamedTasks.{names_for, renamed_numbers, renamed_setting, renamed_task_info}
use Rattle.task_laws.proofs.invariants.Beginning.{length_first}
use Rattle.normal_laws.specs.runs.forms.Normalisable.{numbers_of}
use Rattle.replay_runs.specs.controls.replayed.Replaying.{starting}

some_of : {A : Type 0} (P : A → Type 0) (o : Option A) → IsSomeAnd o P → (x : A) × (o ≡ Some x)
some_of P None h = absurd h
some_of P (Some x) h = (x, refl)

-- ---- lists of tasks that stand alike

zip_append : {A B : Type 0} (R : A → B → Type 0) (xs : List A) (xs' : List B) (ys : List A) (ys' : List B) → AllZip R xs xs' → AllZip R ys ys' → AllZip R (xs ++ ys) (xs' ++ ys')
zip_append R [] [] ys ys' h k = k
zip_append R (x ∷ xs) (x' ∷ xs') ys ys' h k = (h.0, zip_append R xs xs' ys ys' h.1 k)
zip_append R xs xs' ys ys' h k = absurd h

zip_at : {A B : Type 0} (R : A → B → Type 0) (xs : List A) (ys : List B) (d : A) (e : B) → AllZip R xs ys → R d e → (t : ℕ) → R (slice_index_or xs t d) (slice_index_or ys t e)
zip_at R [] [] d e h k zero = k
zip_at R [] [] d e h k (suc t) = k
zip_at R (x ∷ xs) (y ∷ ys) d e h k zero = h.0
zip_at R (x ∷ xs) (y ∷ ys) d e h k (suc t) = zip_at R xs ys d e h.1 k t
zip_at R [] (y ∷ ys) d e h k t = absurd h
zip_at R (x ∷ xs) [] d e h k t = absurd h

module _ (R : Task → Task → Type 0) (one other : ProgramWithInputs) (numbers others : Numbering)
    (each : (t : ℕ) → R (started (setting_of one numbers) one.inputs t) (started (setting_of other others) other.inputs t)) where
  first_alike : (n : ℕ) → AllZip (SeatsAlike R) (first_tasks one numbers n) (first_tasks other others n)
  first_alike zero = tt
  first_alike (suc n) = zip_append (SeatsAlike R) (first_tasks one numbers n) (first_tasks other others n) (live (started (setting_of one numbers) one.inputs n) ∷ [])
      (live (started (setting_of other others) other.inputs n) ∷ [])
      (first_alike n) (record { local = each n; standing = refl }, tt)

  seats_alike : R nobody nobody → (n m : ℕ) → n ≡ m → (t : ℕ) →
      SeatsAlike R (slice_index_or (first_tasks one numbers n) t (completed nobody)) (slice_index_or (first_tasks other others m) t (completed nobody))
  seats_alike h n m e t = subst (λ k. SeatsAlike R (slice_index_or (first_tasks one numbers n) t (completed nobody)) (slice_index_or (first_tasks other others k) t (completed nobody))) e
      (zip_at (SeatsAlike R) (first_tasks one numbers n) (first_tasks other others n) (completed nobody) (completed nobody) (first_alike n) (record { local = h; standing = refl }) t)

-- ---- two programs that are the same

module _ (p q : PProgram) (named : IsNamed p) (others : IsNameTable q.names) (same : Same p q) where
  abbrev all : List (List ℕ)
  all = p.names ++ q.names

  abbrev f : ℕ → ℕ
  f = stayed p.names q.names

  abbrev g : ℕ → ℕ
  g = carried p.names q.names

  abbrev r : IsRenaming (stayed p.names q.names)
  r = stayed_renames p.names q.names named.names others

  abbrev s : IsRenaming (carried p.names q.names)
  s = carried_renames p.names q.names named.names others

  known : (a b : NameId) → IsSomeAnd (slice_get p.names a.0) IsIdentifier → SameName p.names q.names a b → f a.0 ≡ g b.0
  known a b h e = let t = some_of IsIdentifier (slice_get p.names a.0) h in known_same p.names q.names named.names others a b t.0 t.1 e

  one_program : renamed_program f all p ≡ renamed_program g all q
  one_program = program_same p q f g all (tokens p.names) known named.tokens same

  one_types : renamed_types f (types_in p) ≡ renamed_types g (types_in q)
  one_types = sym (types_same f r all p) ∙ (ap types_in one_program ∙ types_same g s all q)

  pub one_numbers : renamed_numbers f (numbers_of p) ≡ renamed_numbers g (numbers_of q)
  one_numbers =
      sym (numbers_same f r all (types_in p) p (stayed_keeps p.names q.names))
      ∙ (ap₂ all_numbers one_types one_program ∙ numbers_same g s all (types_in q) q (carried_keeps p.names q.names))

  for_first : names_for all p.names ≡ all
  for_first = names_there p.names q.names named.names others all

  for_second : names_for all q.names ≡ all
  for_second = names_there q.names p.names others named.names all

  one_setting : (inputs : List (List ℤ)) →
      renamed_setting f all (setting_of (record { program = p; types = types_in p; inputs = inputs }) (numbers_of p))
      ≡ renamed_setting g all (setting_of (record { program = q; types = types_in q; inputs = inputs }) (numbers_of q))
  one_setting inputs = λ i. record {
    program = (ap (λ ns. renamed_program f ns p) for_first ∙ (one_program ∙ sym (ap (λ ns. renamed_program g ns q) for_second))) i;
    types = one_types i;
    numbers = one_numbers i;
  }

  started_alike : (inputs : List (List ℤ)) (t : ℕ) → TasksAlike f g r s all
      (started (setting_of (record { program = p; types = types_in p; inputs = inputs }) (numbers_of p)) inputs t)
      (started (setting_of (record { program = q; types = types_in q; inputs = inputs }) (numbers_of q)) inputs t)
  started_alike inputs t = record {
    same = sym (started_same f r all (setting_of (record { program = p; types = types_in p; inputs = inputs }) (numbers_of p)) inputs t)
        ∙ (ap (λ x. started x inputs t) (one_setting inputs)
        ∙ started_same g s all (setting_of (record { program = q; types = types_in q; inputs = inputs }) (numbers_of q)) inputs t);
    texts = subst (λ ns. KeepsTexts f p.names ns) (sym for_first) (stayed_keeps p.names q.names);
    others = subst (λ ns. KeepsTexts g q.names ns) (sym for_second) (carried_keeps p.names q.names);
  }

  nothing_kept : (h : ℕ → ℕ) → KeepsTexts h [] []
  nothing_kept h a = slice_get_past [] (h a) (omega arith) ∙ sym (slice_get_past [] a (omega arith))

  nobody_alike : TasksAlike f g r s all nobody nobody
  nobody_alike = record {
    same = λ i. record {
      setting = record {
        program = record { names = []; text_io = false; name = record { name = record { 0 = first_id i }; span = no_span }; decls = no_decl; body = body no_stmt no_handler };
        types = record { kinds = []; marks = []; constants = [] };
        numbers = record { main = record { 0 = first_id i }; tasks = []; entries = [] };
      };
      number = 0;
      control = control no_stmt (OwnBody no_handler None) [] [];
      input = [];
      output = [];
    };
    texts = nothing_kept f;
    others = nothing_kept g;
  }
    where
      first_id : stayed p.names q.names 0 ≡ carried p.names q.names 0
      first_id = (stayed_renames p.names q.names named.names others).fixed 0 (omega arith) ∙ sym ((carried_renames p.names q.names named.names others).fixed 0 (omega arith))

  count_same : length (numbers_of p).tasks ≡ length (numbers_of q).tasks
  count_same = sym (length-map (numbers_of p).tasks (renamed_task_info f)) ∙ (ap (λ (n : Numbering). length n.tasks) one_numbers ∙ length-map (numbers_of q).tasks (renamed_task_info g))

  programs_alike : (inputs : List (List ℤ)) → ProgramsAlike (TasksAlike f g r s all) (starting p inputs).program (starting q inputs).program
  programs_alike inputs = record {
    ops = respects f g r s all;
    owner = λ e. sym (owner_same f r (numbers_of p) e) ∙ (ap (λ n. owner_of n e) one_numbers ∙ owner_same g s (numbers_of q) e);
    size = length_first (record { program = p; types = types_in p; inputs = inputs }) (numbers_of p) (length (numbers_of p).tasks)
        ∙ (count_same ∙ sym (length_first (record { program = q; types = types_in q; inputs = inputs }) (numbers_of q) (length (numbers_of q).tasks)));
  }

  states_alike : (inputs : List (List ℤ)) → StatesAlike (TasksAlike f g r s all) (starting p inputs).at (starting q inputs).at
  states_alike inputs = record {
    seats = seats_alike (TasksAlike f g r s all) (record { program = p; types = types_in p; inputs = inputs }) (record { program = q; types = types_in q; inputs = inputs })
        (numbers_of p) (numbers_of q)
        (started_alike inputs) nobody_alike (length (numbers_of p).tasks) (length (numbers_of q).tasks) count_same;
    line = refl;
    ended = refl;
  }

  pub programs_run_alike : (inputs : List (List ℤ)) → RunAlike (starting p inputs) (starting q inputs)
  programs_run_alike inputs = run_alike (TasksAlike f g r s all) (starting p inputs) (starting q inputs) (programs_alike inputs) (states_alike inputs) (outputs_same f g r s all)

  -- ---- what their events stand for

  pub meant_same : (event : Event) → back_of (numbers_of p) event ≡ back_of (numbers_of q) event
  meant_same event = sym (back_same f r (numbers_of p) event) ∙ (ap (λ n. back_of n event) one_numbers ∙ back_same g s (numbers_of q) event)

  pub tasks_counted : length (numbers_of p).tasks ≡ length (numbers_of q).tasks
  tasks_counted = count_same
