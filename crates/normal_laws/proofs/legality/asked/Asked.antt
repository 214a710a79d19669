-- What is asked of a body, where each of its places is known: its callees stand for tasks beside main, and its accepts are of own entries.
use Rattle.std.proofs.Common.{◌≡◌, ℕ, Bool, true, not, ◌||◌, if◌then◌else◌, List, [], ◌∷◌, Option, Some, None, is_some, sym, ap, ◌∙◌}
use Rattle.std.specs.List.{AllByRecursion}
use Rattle.common_lemmas.proofs.Lists.{all_weaker, all_back}
use Rattle.ada_tree.specs.NameList.{AreNames}
use Rattle.ada_tree.specs.declared.naming.Word.{Word}
use Rattle.ada_tree.specs.TypeTable.{TypeTable}
use Rattle.ada_tree.specs.PlainStmt.{PCallee, PHead, PBody}
use Rattle.ada_tree.specs.PlainDecl.{PTask}
use Rattle.ada_tree.specs.PlainProgram.{PProgram}
use Rattle.ada_static_rules.specs.Refusals.{types_in}
use Rattle.ada_tree.specs.Every.{EveryBody}
use Rattle.ada_tree.specs.WellPlaced.{well_placed, IsWellPlaced}
use Rattle.ada_static_rules.specs.Demand.{labels, Site}
use Rattle.ada_static_rules.specs.Scope.{Scope, EntryPart, entry_named}
use Rattle.ada_static_rules.specs.Sites.{site, if_there, scheme_sites, callee_sites, body_sites}
use Rattle.syn_event.specs.declared.numbering.Mode.TheVariants.{Original}
use Rattle.syn_event.specs.Legal.{Legal}
use Rattle.syn_event.specs.Numbering.{Numbering}
use Rattle.syn_event.specs.CheckScope.{CheckScope, CheckSite, accepts}
use Rattle.syn_event.specs.CheckSites as check
use Rattle.syn_event.specs.RuleAcceptPlace.{is_own_entry, is_among, accept_place}
use Rattle.task_model.specs.Setting.{Setting}
use Rattle.task_laws.specs.legal.sites.Met.{IsMet, IsCheckMet}
use Rattle.task_laws.specs.legal.types.Typed.{IsSmall}
use Rattle.task_laws.proofs.legal.types.MainScopes.{StandsWhole}
use Rattle.task_laws.specs.legal.asked.Asked.{Asks, AskedBody}
use Rattle.task_laws.specs.legal.asked.Kinds.{place_asks, type_asks, check_asks, both}
use Rattle.task_laws.proofs.legal.asked.Placed.{placed_asked}
use Rattle.task_laws.proofs.legal.asked.Typed.{typed_asked}
use Rattle.task_laws.proofs.legal.asked.Checked.{checked_asked}
use Rattle.task_laws.proofs.legal.asked.Together.{both_asked}
use Rattle.task_laws.specs.translation.Translations.{Programs}
use Rattle.normal_laws.specs.runs.runs.Premises.{programs_of}
use Rattle.normal_laws.specs.runs.forms.Normalisable.{setting_for, normal_rewrite}
use Rattle.normal_laws.proofs.existence.seen_tasks.Bodies.{PlaceSeen, accept-seen, handling-seen, loop-seen}
use Rattle.normal_laws.proofs.existence.statement_forms.Text.{IsKnownPlace}
use Rattle.normal_laws.specs.structure.checked.Around.{own_rules}
use Rattle.normal_laws.specs.structure.typed.ScopeOf.{IsPlaceOf, AreTasksOf, task_asks}
use Rattle.normal_laws.proofs.structure.typed.Scopes.{accept-own as formals-own, loop-own}
use Rattle.normal_laws.proofs.legality.asked.Steps.{Steps, steps_asked}
use Rattle.normal_laws.proofs.legality.asked.Tasks.{text, callee-tasks, accept-own}

module _ (p : PProgram) (types : TypeTable) (its_numbers : Numbering) (legal : Legal p types its_numbers Original) (placed : IsWellPlaced p) (names : AreNames p.names) (small : IsSmall (types_in p)) where
  abbrev T : TypeTable
  T = types_in p

  abbrev g : Setting
  g = setting_for p

  abbrev programs : Programs
  programs = programs_of (normal_rewrite p [])

  -- what is known of each place
  abbrev pub Place : Site → Type 0
  Place = IsKnownPlace T programs.is_fixed

  abbrev pub Checked : CheckSite → Type 0
  Checked = IsCheckMet Original p.names

  abbrev C : Type 0
  C = (Prim.Unit {0} × Scope) × CheckScope

  abbrev known : Asks C
  known = both (both (place_asks (well_placed p.names)) (type_asks Place)) (check_asks Checked)

  met : (xs : List Site) → AllByRecursion Place xs → AllByRecursion IsMet xs
  met xs h = all_weaker Place IsMet xs (λ x m. m.0) h

  -- a body in which each place is seen, of a unit with these entries
  module _ (who : Option PTask) (entries : List EntryPart) where
    abbrev R : C → Prim.Unit {0} → Type 0
    R c d = PlaceSeen p T who c.0.1 c.1 × StandsWhole T c.0.1 × (c.0.1.own ≡ entries)

    module _ (heads : (s : Scope) (c : CheckScope) (h : PHead) → PlaceSeen p T who s c → accept_place c (accepts h) ≡ [] → is_some (entry_named s.own h.entry.name) ≡ true) where
      tasks-of : (c : C) (d : Prim.Unit {0}) (k : ℕ) (x : PCallee) → R c d → known.callee c k x → AreTasksOf g x
      tasks-of c d k x rel h = callee-tasks p types its_numbers legal placed names small who c.0.1 c.1 k x rel.0 rel.1 h.0.0 (met (callee_sites c.0.1 x) h.0.1) h.1

      all-tasks : (c : C) (d : Prim.Unit {0}) (k : ℕ) (xs : List PCallee) → R c d → AllByRecursion (known.callee c k) xs → AllByRecursion (AreTasksOf g) xs
      all-tasks c d k [] rel h = tt
      all-tasks c d k (x ∷ xs) rel h = (tasks-of c d k x rel h.0, all-tasks c d k xs rel h.1)

      steps : Steps known (task_asks g entries) R
      steps = record {
        outer = λ c d k s rel h. tt;
        many = λ n h. tt;
        duration = λ n h. tt;
        plain = λ c d k x rel h. tt;
        callee = tasks-of;
        call = λ c d k x rel h i. tt;
        aborts = λ c d k xs rel h i. tt;
        aborted = λ c d k xs rel h i. all-tasks c d k xs rel i;
        condition = λ c d k e rel h. tt;
        selector = λ c d k e xs others s rel h. tt;
        choices = λ c d k e xs rel h. tt;
        loop = λ c d k w x rel h. tt;
        looping = λ c d k w x rel h. (
          loop-seen p T who c.0.1 c.1 w x rel.0,
          (text p types its_numbers legal placed names small).typed.loop c.0.1 x rel.1 (all_back Place (if_there (λ (y : Word). site c.0.1 (labels y) ∷ []) w) (if_there (scheme_sites c.0.1) x) h.0.1),
          loop-own (record { setting = g; task = 0 }) programs.is_old [] c.0.1 x ∙ rel.2,
        );
        head = λ c d k h rel i. ap (λ l. is_some (entry_named l h.entry.name)) (sym rel.2) ∙ heads c.0.1 c.1 h rel.0 i.1.1.0.accepts;
        accepting = λ c d k h rel i. (
          accept-seen p T who c.0.1 c.1 h rel.0,
          (text p types its_numbers legal placed names small).typed.accept c.0.1 h rel.1 i.0.1,
          formals-own (record { setting = g; task = 0 }) programs.is_old [] c.0.1 h.formals ∙ rel.2,
        );
        wait = λ c d k x others s rel h. tt;
        delay = λ c d k e s rel h. tt;
        handlers = λ hs h. tt;
        handler = λ c d k ids ws rel h. tt;
        handling = λ c d rel. (handling-seen p T who c.0.1 c.1 rel.0, rel.1, rel.2);
      }

      tasks-asked : (s : Scope) (c : CheckScope) (x : PBody) → PlaceSeen p T who s c → StandsWhole T s → s.own ≡ entries → EveryBody (well_placed p.names) 1 x → AllByRecursion Place (body_sites s x) → AllByRecursion Checked (check.body_sites c 1 x) →
          AskedBody (task_asks g entries) tt 1 x
      tasks-asked s c x seen typed own every at checked =
          steps_asked known (task_asks g entries) R steps ((tt, s), c) tt 1 x (seen, typed, own)
          (both_asked (both (place_asks (well_placed p.names)) (type_asks Place)) (check_asks Checked) (tt, s) c 1 x
          (both_asked (place_asks (well_placed p.names)) (type_asks Place) tt s 1 x (placed_asked (well_placed p.names) 1 x every) (typed_asked Place s 1 x at)) (checked_asked Checked c 1 x checked))

      -- So it is as asked of bodies of the program.
      pub body-asked : (own : ℕ → Bool) (s : Scope) (c : CheckScope) (x : PBody) → PlaceSeen p T who s c → StandsWhole T s → s.own ≡ entries → EveryBody (well_placed p.names) 1 x → EveryBody (own_rules own) 1 x →
          AllByRecursion Place (body_sites s x) → AllByRecursion (IsPlaceOf g) (body_sites s x) → AllByRecursion Checked (check.body_sites c 1 x) →
          AskedBody (both (place_asks (own_rules own)) (both (type_asks (IsPlaceOf g)) (task_asks g entries))) (tt, (s, tt)) 1 x
      body-asked own s c x seen typed owned every mine at places checked =
          both_asked (place_asks (own_rules own)) (both (type_asks (IsPlaceOf g)) (task_asks g entries)) tt (s, tt) 1 x (placed_asked (own_rules own) 1 x mine)
          (both_asked (type_asks (IsPlaceOf g)) (task_asks g entries) s tt 1 x (typed_asked (IsPlaceOf g) s 1 x places) (tasks-asked s c x seen typed owned every at checked))

  -- ---- accepts

  -- an accept stands in no body of main
  pub main-heads : (s : Scope) (c : CheckScope) (h : PHead) → PlaceSeen p T None s c → accept_place c (accepts h) ≡ [] → is_some (entry_named s.own h.entry.name) ≡ true
  main-heads s c h seen e = absurd (filled (ap (λ o. if not (is_own_entry o h.entry.name) || is_among c.accepting h.entry.name then h.span ∷ [] else []) (sym seen.own) ∙ e))
    where
      filled : h.span ∷ [] ≡ [] → ⊥
      filled q = cc

  pub task-heads : (t : PTask) (s : Scope) (c : CheckScope) (h : PHead) → PlaceSeen p T (Some t) s c → accept_place c (accepts h) ≡ [] → is_some (entry_named s.own h.entry.name) ≡ true
  task-heads t s c h seen e = accept-own p types its_numbers legal placed names small t s c h seen e
