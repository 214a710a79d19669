-- The bodies of tasks in a collecting text of a program with abort statements meet the rules 1 and 3 to 12.
use Rattle.std.proofs.Common.{Bool, List, [], ap, arith, false, length, map, refl, subst, sym, take, ℕ, ◌∙◌, ◌∷◌, ◌≡◌, ◌≤◌}
use Rattle.std.specs.List.{AllByRecursion}
use Rattle.common_lemmas.proofs.Lists.{all_joined}
use Rattle.ada_tree.specs.NameList.{predefined}
use Rattle.ada_tree.specs.PlainDecl.{DTaskBody, PDecl, PDecls, decls_of}
use Rattle.ada_tree.specs.PlainProgram.{PProgram}
use Rattle.ada_tree.specs.PlainStmt.{PBody}
use Rattle.ada_tree.specs.TypeTable.{TypeTable}
use Rattle.ada_tree.specs.declared.naming.Span.{Span}
use Rattle.ada_tree.specs.declared.naming.Word.{Word}
use Rattle.ada_static_rules.proofs.found_twice.Declared.{objects_own}
use Rattle.ada_static_rules.specs.Declaring.{after_decl, after_decls, after_objects, in_body, inner_scope, own_entries}
use Rattle.ada_static_rules.specs.Scope.{Scope}
use Rattle.ada_static_rules.specs.Sites.{body_sites, decl_sites, own_sites}
use Rattle.syn_event.proofs.DeclLists.{list_again}
use Rattle.syn_event.specs.DeclaredTasks.{decl_list}
use Rattle.task_model.specs.Setting.{Setting}
use Rattle.task_laws.proofs.legal.rewritten_types.Adding.{keeps-objects}
use Rattle.task_laws.proofs.legal.rewritten_types.Keeping.{keeps-self}
use Rattle.task_laws.specs.legal.alike_scopes.Laws.{IsMetBut}
use Rattle.normal_laws.proofs.structure.typed.Places.{gives-met}
use Rattle.normal_laws.proofs.structure.typed.Variables.{AllMetBut}
use Rattle.replay_structure.specs.scopes.Form.{AllAlong}
use Rattle.collect_model.specs.CollectTree.{behind_own}
use Rattle.collect_model.specs.Teller.{task_of}
use Rattle.collect_structure.proofs.scopes.Bodies.{IsBefore, before-step, caller-apart, told-scope}
use Rattle.collect_structure.proofs.scopes.Grown.{grown-in-body, grown-inside}
use Rattle.collect_structure.proofs.scopes.Language.{language-body, language-inside}
use Rattle.collect_structure.proofs.scopes.Unit.{unit-step}
use Rattle.collect_structure.specs.scopes.Form.{AreNamesNew, BodiesTold, IsBodyTold}
use Rattle.collect_structure.specs.typed.Told.{AreOuter, IsToldScope, told_entry}
use Rattle.collect_model.specs.aborts.AbortStmts.{task_body}
use Rattle.collect_model.specs.aborts.AbortTeller.{AbortTeller, told_at}
use Rattle.collect_model.specs.aborts.AbortTree.{abort_decl}
use Rattle.collect_model.specs.aborts.Places.{most_places, places_in, places_of}
use Rattle.collect_structure.proofs.aborts.scopes.Inner.{IsPlaced, IsWithin, added, objects-met, objects-told}
use Rattle.collect_structure.proofs.aborts.scopes.Places.{AreValueless, EachPlace, HasPlaces, places-on}
use Rattle.collect_structure.proofs.aborts.typed.Places.{places-step}
use Rattle.collect_structure.proofs.aborts.typed.Typed.{task-met}
use Rattle.collect_structure.specs.aborts.asked.Pieces.{IsPlace}
use Rattle.collect_structure.specs.aborts.scopes.Text.{main_told}
use Rattle.collect_structure.specs.aborts.typed.Told.{AreNewPlaces, ArePlacesOuter, SeesPlaces}

-- What is known of the names of a normal form whose text is made, with the variables of places.
pub record AreTold (g : Setting) (old inner : ℕ → Bool) : Type 0 where
  pub new : AreNamesNew g old
  pub outer : AreOuter g.program inner
  pub begins : take (length predefined) g.program.names ≡ predefined
  -- the names of places are none of the old ones, differ where none has a value, and are hidden nowhere
  pub fresh : EachPlace g (λ id. old id.0 ≡ false)
  pub distinct : (types : TypeTable) → AreValueless g types → AreNewPlaces (main_told g) (most_places g.program) types
  pub shown : ArePlacesOuter g.program inner (main_told g) (most_places g.program)

module _ (g : Setting) (old inner : ℕ → Bool) (told : AreTold g old inner) where
  abbrev q : PProgram
  q = g.program

  abbrev x : AbortTeller
  x = main_told g

  abbrev most : ℕ
  most = most_places q

  -- those of fewer places are hidden nowhere
  pub shown-few : (task k : ℕ) → k ≤ most → ArePlacesOuter q inner (told_at x task) k
  shown-few task k le = record { taken = λ p i. told.shown.taken p (within p i); refused = λ p i. told.shown.refused p (within p i) }
    where
      within : (p : ℕ) → IsPlace k p → IsPlace most p
      within p i = (i.0, omega (arith, i.1, le))

  -- What is known in front of bodies, and stays behind them.
  pub record IsBehind (k : ℕ) (c d : Scope) : Type 0 where
    pub plain : IsBefore g old inner told.new told.outer c d
    pub places : HasPlaces g k d

  behind-step : (k : ℕ) → k ≤ most → (w : Word) (objects objects' : PDecls) (its its' : PBody) (s s' : Span) (c d : Scope) → IsBehind k c d →
      IsBehind k (after_decl c (DTaskBody w objects its s)) (after_decl d (DTaskBody w objects' its' s'))
  behind-step k le w objects objects' its its' s s' c d b = record {
    plain = before-step g old inner told.new told.outer w objects objects' its its' s s' c d b.plain;
    places = places-on g k le d (after_decl d (DTaskBody w objects' its' s'))
        (λ p i. ((refl, keeps-objects objects' (in_body d w) refl), (refl, keeps-objects objects' (in_body d w) refl))) b.places;
  }

  abbrev more_objects : Word → PDecls → PBody → PDecls
  more_objects w objects its = decls_of (behind_own q.names (added g old told.new told.fresh w.span (places_in its)) (decl_list objects))

  abbrev told_body : Word → PBody → PBody
  told_body w its = task_body (told_at x (task_of g.numbers w.name)) w.span its

  module _ (most' : ℕ) (c d : Scope) (b : IsBehind most' c d) (w : Word) (objects : PDecls) (its : PBody) (few : places_in its ≤ most) (h : IsBodyTold g old inner c w objects its) where
    abbrev k : ℕ
    k = places_in its

    begins : IsWithin g old told.new told.fresh (in_body c w) (in_body d w)
    begins = record {
      plain = record {
        left = refl;
        right = refl;
        grown = grown-in-body q old w c d b.plain.grown;
        language = language-body w d b.plain.language;
        recorder = b.plain.recorder;
        answer = b.plain.variables.answer.changes;
        part = b.plain.variables.part.changes;
      };
      valueless = b.places.valueless;
    }

    placed : IsPlaced g old told.new told.fresh k (after_objects (in_body c w) objects) (after_objects (in_body d w) (more_objects w objects its))
    placed =
        subst (λ ds. IsPlaced g old told.new told.fresh k (after_objects (in_body c w) ds) (after_objects (in_body d w) (more_objects w objects its))) (list_again objects)
        (objects-told g old told.new told.fresh told.distinct w.span k few (decl_list objects) (in_body c w) (in_body d w) h.owns h.new begins)

    abbrev left : Scope
    left = inner_scope (after_objects (in_body c w) objects)

    abbrev right : Scope
    right = inner_scope (after_objects (in_body d w) (more_objects w objects its))

    own : right.own ≡ map (told_entry q) left.own
    own =
        objects_own (more_objects w objects its) (in_body d w)
        ∙ ap own_entries (b.plain.grown.tasks w.name h.entries h.named h.means)
        ∙ sym (ap (map (told_entry q)) (objects_own objects (in_body c w) ∙ ap own_entries h.means))

    scope : IsToldScope (record { setting = g; task = task_of g.numbers w.name }) old inner left right
    scope =
        told-scope g old inner told.new told.outer (task_of g.numbers w.name) left right (grown-inside q old _ _ placed.plain.grown) (language-inside _ placed.plain.language)
        (unit-step q (after_objects (in_body d w) (more_objects w objects its)) right refl refl (keeps-self _) (keeps-self _) placed.plain.variables) placed.plain.recorder own h.has

    seen : SeesPlaces (told_at x (task_of g.numbers w.name)) k right
    seen =
        places-step (told_at x (task_of g.numbers w.name)) k (after_objects (in_body d w) (more_objects w objects its)) right (λ p i. refl) (λ p i. refl) refl
        record { taken = placed.places.seen.taken; refused = placed.places.seen.refused }

    body-met : (s : Span) → AllMetBut (decl_sites d (abort_decl x q.names (DTaskBody w objects its s)))
    body-met s = (
      gives-met d w (map (told_entry q) h.entries) (b.plain.grown.tasks w.name h.entries h.named h.means),
      all_joined IsMetBut (own_sites (in_body d w) (more_objects w objects its)) (body_sites right (told_body w its))
          (objects-met g old told.new told.fresh told.distinct w.span k few told.begins (decl_list objects) (in_body c w) (in_body d w) h.owns h.inits h.new begins
          (subst (λ ds. AllMetBut (own_sites (in_body c w) ds)) (sym (list_again objects)) h.sites))
          (task-met g (task_of g.numbers w.name) old inner told.outer (caller-apart g old inner told.new told.outer) (told_at x (task_of g.numbers w.name)) k
          (shown-few (task_of g.numbers w.name) k few) refl (tt, left) right 1 w.span its (scope, seen) (omega arith) (omega arith) h.asked),
    )

  -- The places of all bodies, and what is known behind them.
  pub bodies-met : (k : ℕ) → k ≤ most → (xs : List PDecl) (c d : Scope) → AllByRecursion (λ y. places_of y ≤ most) xs → BodiesTold g old inner c xs → IsBehind k c d →
      AllAlong d (map (abort_decl x q.names) xs)
  bodies-met k le [] c d f h b = tt
  bodies-met k le (DTaskBody w objects its s ∷ xs) c d f h b = (
    body-met k c d b w objects its f.0 h.0 s,
    bodies-met k le xs (after_decl c (DTaskBody w objects its s)) (after_decl d (abort_decl x q.names (DTaskBody w objects its s))) f.1 h.1
        (behind-step k le w objects (more_objects w objects its) its (told_body w its) s s c d b),
  )
  bodies-met k le (_ ∷ xs) c d f h b = absurd h

  pub bodies-behind : (k : ℕ) → k ≤ most → (xs : List PDecl) (c d : Scope) → BodiesTold g old inner c xs → IsBehind k c d →
      IsBehind k (after_decls c (decls_of xs)) (after_decls d (decls_of (map (abort_decl x q.names) xs)))
  bodies-behind k le [] c d h b = b
  bodies-behind k le (DTaskBody w objects its s ∷ xs) c d h b =
      bodies-behind k le xs (after_decl c (DTaskBody w objects its s)) (after_decl d (abort_decl x q.names (DTaskBody w objects its s))) h.1
      (behind-step k le w objects (more_objects w objects its) its (told_body w its) s s c d b)
  bodies-behind k le (_ ∷ xs) c d h b = absurd h
