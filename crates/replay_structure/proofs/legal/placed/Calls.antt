-- Each entry that is called in a legal program is declared, so its double has a name; and accepts stand in no body of main.
use Rattle.std.proofs.Common.{◌≡◌, ℕ, ◌==◌, Bool, true, List, [], ◌∷◌, Option, Some, None, option_map, refl, sym, subst, ◌∙◌, eqb-true}
use Rattle.std.specs.List.{AllByRecursion}
use Rattle.common_lemmas.proofs.Lists.{all_weaker, all_back, found_passes}
use Rattle.ada_tree.specs.NameList.{AreNames}
use Rattle.ada_tree.specs.declared.naming.NameId.{NameId}
use Rattle.ada_tree.specs.declared.naming.Word.{Word}
use Rattle.ada_tree.specs.Lexical.{IsIdentifier}
use Rattle.ada_tree.specs.TypeTable.{TypeTable}
use Rattle.ada_tree.specs.PlainStmt.{PCallee, PCall, PHead, PBody}
use Rattle.ada_tree.specs.PlainDecl.{PEntry, PTask, PDecl, DNumber, DObject, DEnumeration, DArray, DSubtype, DException, DIntIo, DPragma, DTask, DTaskBody}
use Rattle.ada_tree.specs.PlainProgram.{PProgram}
use Rattle.ada_static_rules.specs.Refusals.{types_in}
use Rattle.ada_tree.specs.Every.{EveryBody}
use Rattle.ada_tree.specs.WellPlaced.{well_placed, IsWellPlaced}
use Rattle.ada_static_rules.specs.Demand.{labels, calls, Site}
use Rattle.ada_static_rules.specs.RuleUnknown.{missing}
use Rattle.ada_static_rules.specs.Scope.{Scope, EntryPart, entry_named}
use Rattle.ada_static_rules.specs.Declaring.{entry_part}
use Rattle.ada_static_rules.specs.Sites.{site, if_there, scheme_sites, callee_sites, body_sites}
use Rattle.syn_event.specs.declared.numbering.Mode.TheVariants.{Original}
use Rattle.syn_event.specs.Legal.{Legal}
use Rattle.syn_event.specs.Numbering.{Numbering}
use Rattle.syn_event.specs.CheckScope.{CheckScope, CheckSite}
use Rattle.syn_event.specs.CheckSites as check
use Rattle.syn_event.specs.DeclaredTasks.{text_of, tasks_in, tasks_of}
use Rattle.task_laws.specs.legal.sites.Met.{IsMet}
use Rattle.task_laws.specs.legal.types.Typed.{IsSmall}
use Rattle.task_laws.proofs.legal.types.MainScopes.{StandsWhole}
use Rattle.task_laws.proofs.legal.rewritten_types.Lookups.{find-all}
use Rattle.task_laws.specs.legal.asked.Asked.{Asks, AskedBody}
use Rattle.task_laws.specs.legal.asked.Kinds.{place_asks, type_asks, check_asks, both}
use Rattle.task_laws.proofs.legal.asked.Placed.{placed_asked}
use Rattle.task_laws.proofs.legal.asked.Typed.{typed_asked}
use Rattle.task_laws.proofs.legal.asked.Checked.{checked_asked}
use Rattle.task_laws.proofs.legal.asked.Together.{both_asked}
use Rattle.normal_model.specs.RewrittenUnit.{RewrittenUnit}
use Rattle.normal_laws.proofs.structure.entries.Entries.{entry_in}
use Rattle.normal_laws.proofs.existence.seen_tasks.Bodies.{PlaceSeen, accept-seen, handling-seen, loop-seen}
use Rattle.normal_laws.proofs.existence.statement_forms.OwnEntries.{entry-said}
use Rattle.normal_laws.proofs.existence.statement_forms.Callees.{CalleeKnown, callee-known, some-not}
use Rattle.normal_laws.proofs.structure.typed.Scopes.{accept-own, loop-own}
use Rattle.normal_laws.proofs.legality.asked.Steps.{Steps, steps_asked}
use Rattle.normal_laws.proofs.legality.asked.Tasks.{text}
use Rattle.normal_laws.proofs.legality.asked.Asked.{Place, Checked}
use Rattle.replay_model.specs.Names.{double_text}
use Rattle.replay_structure.specs.placed.Placeable.{HasDouble}
use Rattle.replay_structure.specs.legal.fits.Ready.{ready_asks}
use Rattle.replay_structure.proofs.legal.fits.Doubles.{HasDoubles}

-- ---- declared entries

-- the entries of a task have doubles
abbrev pub EntriesDoubled : List (List ℕ) → PTask → Type 0
EntriesDoubled names t = AllByRecursion (HasDouble names) t.entries

pub tasks-doubled : (names : List (List ℕ)) (ds : List PDecl) → AllByRecursion (HasDoubles names) ds → AllByRecursion (EntriesDoubled names) (tasks_in ds)
tasks-doubled names [] h = tt
tasks-doubled names (DTask t s ∷ ds) h = (h.0, tasks-doubled names ds h.1)
tasks-doubled names (DTaskBody w objects its s ∷ ds) h = tasks-doubled names ds h.1
tasks-doubled names (DNumber w e s ∷ ds) h = tasks-doubled names ds h.1
tasks-doubled names (DObject ws o x q s ∷ ds) h = tasks-doubled names ds h.1
tasks-doubled names (DEnumeration w ws s ∷ ds) h = tasks-doubled names ds h.1
tasks-doubled names (DArray w q x s ∷ ds) h = tasks-doubled names ds h.1
tasks-doubled names (DSubtype w x s ∷ ds) h = tasks-doubled names ds h.1
tasks-doubled names (DException ws s ∷ ds) h = tasks-doubled names ds h.1
tasks-doubled names (DIntIo w s ∷ ds) h = tasks-doubled names ds h.1
tasks-doubled names (DPragma e s ∷ ds) h = tasks-doubled names ds h.1

-- the entry of a name among such ones
entry-doubled : (names : List (List ℕ)) (t : PTask) (id : NameId) (e : PEntry) → EntriesDoubled names t → entry_in t id ≡ Some e → IsIdentifier (double_text (text_of names id))
entry-doubled names t id e h f =
    let one : HasDouble names e = find-all (HasDouble names) (λ (y : PEntry). y.name.name.0 == id.0) t.entries e h f in
    let same : e.name.name.0 ≡ id.0 = eqb-true e.name.name.0 id.0 (found_passes (λ (y : PEntry). y.name.name.0 == id.0) t.entries e f) in
    subst (λ (n : ℕ). IsIdentifier (double_text (text_of names (record { 0 = n })))) same one

module _ (p : PProgram) (types : TypeTable) (its_numbers : Numbering) (legal : Legal p types its_numbers Original) (placed : IsWellPlaced p) (names : AreNames p.names) (small : IsSmall (types_in p)) (v : RewrittenUnit)
    (doubled : AllByRecursion (EntriesDoubled v.setting.program.names) (tasks_of p)) where
  abbrev T : TypeTable
  T = types_in p

  abbrev Known : Site → Type 0
  Known = Place p types its_numbers legal placed names small

  abbrev Check : CheckSite → Type 0
  Check = Checked p types its_numbers legal placed names small

  abbrev K : Type 0
  K = Scope × CheckScope

  abbrev known : Asks K
  known = both (type_asks Known) (check_asks Check)

  met : (xs : List Site) → AllByRecursion Known xs → AllByRecursion IsMet xs
  met xs h = all_weaker Known IsMet xs (λ x m. m.0) h

  -- ---- calls

  there : (o : Option EntryPart) (w : Word) → missing o w ≡ [] → (e : EntryPart) × (o ≡ Some e)
  there (Some e) w h = (e, refl)
  there None w h = absurd (some-not _ _ h)

  declared : (o : Option PEntry) (around : Scope) (x : EntryPart) → option_map (entry_part around) o ≡ Some x → (e : PEntry) × (o ≡ Some e)
  declared (Some e) around x h = (e, refl)
  declared None around x h = cc

  call-doubled : (s : Scope) (x : PCall) → CalleeKnown p T s x.task → IsMet (site s (calls x)) → IsIdentifier (double_text (text_of v.setting.program.names x.entry.name))
  call-doubled s x k m =
      let own = k.stands.own in
      let part = there (entry_named k.entries x.entry.name) x.entry (sym (k.unknown x.entry) ∙ m.known) in
      let said = entry-said p T (StandsWhole T) (text p types its_numbers legal placed names small).typed.typing own.around k.stands.part.unit k.entries x.entry.name own.entries in
      let e = declared (entry_in k.stands.part.unit x.entry.name) own.around part.0 (sym said ∙ part.1) in
      entry-doubled v.setting.program.names k.stands.part.unit x.entry.name e.0
      (find-all (EntriesDoubled v.setting.program.names) (λ (t : PTask). t.name.name.0 == k.stands.part.unit.name.name.0) (tasks_of p) k.stands.part.unit doubled own.unit) e.1

  -- ---- bodies

  -- a body of a unit with these entries
  module _ (who : Option PTask) (es : List EntryPart) where
    abbrev C : Type 0
    C = K × Prim.Unit {0}

    abbrev R : C → Prim.Unit {0} → Type 0
    R c d = PlaceSeen p T who c.0.0 c.0.1 × StandsWhole T c.0.0 × (c.0.0.own ≡ es)

    abbrev placed_too : Asks C
    placed_too = both known (place_asks (well_placed p.names))

    module _ (heads : (c : C) (k : ℕ) (h : PHead) → R c tt → placed_too.head c k h → (ready_asks v).head tt k h) where
      steps : Steps placed_too (ready_asks v) R
      steps = record {
        outer = λ c d k s rel h. tt;
        many = λ n h. tt;
        duration = λ n h. tt;
        plain = λ c d k y rel h. tt;
        callee = λ c d k y rel h. tt;
        call = λ c d k y rel h i.
            call-doubled c.0.0 y
            (callee-known p T (StandsWhole T) (text p types its_numbers legal placed names small).typed.typing who c.0.0 c.0.1 k y.task rel.1 rel.0 (met (callee_sites c.0.0 y.task) h.0.0) h.0.1)
            i.0.0.0.0;
        aborts = λ c d k xs rel h i. tt;
        aborted = λ c d k xs rel h i. nothing xs;
        condition = λ c d k e rel h. tt;
        selector = λ c d k e xs others s rel h. tt;
        choices = λ c d k e xs rel h. tt;
        loop = λ c d k w y rel h. tt;
        looping = λ c d k w y rel h. (
          loop-seen p T who c.0.0 c.0.1 w y rel.0,
          (text p types its_numbers legal placed names small).typed.loop c.0.0 y rel.1 (all_back Known (if_there (λ (z : Word). site c.0.0 (labels z) ∷ []) w) (if_there (scheme_sites c.0.0) y) h.0.0),
          loop-own v old [] c.0.0 y ∙ rel.2,
        );
        head = λ c d k h rel i. heads c k h rel i;
        accepting = λ c d k h rel i. (
          accept-seen p T who c.0.0 c.0.1 h rel.0,
          (text p types its_numbers legal placed names small).typed.accept c.0.0 h rel.1 i.0.0,
          accept-own v old [] c.0.0 h.formals ∙ rel.2,
        );
        wait = λ c d k y others s rel h. tt;
        delay = λ c d k e s rel h. tt;
        handlers = λ hs h. tt;
        handler = λ c d k ids ws rel h. tt;
        handling = λ c d rel. (handling-seen p T who c.0.0 c.0.1 rel.0, rel.1, rel.2);
      }
        where
          nothing : (xs : List PCallee) → AllByRecursion (λ (y : PCallee). Prim.Unit {0}) xs
          nothing [] = tt
          nothing (y ∷ ys) = (tt, nothing ys)

          -- by whatever test names are old
          old : ℕ → Bool
          old n = true

      pub ready-asked : (s : Scope) (c : CheckScope) (b : PBody) → PlaceSeen p T who s c → StandsWhole T s → s.own ≡ es → AllByRecursion Known (body_sites s b) → AllByRecursion Check (check.body_sites c 1 b) → EveryBody (well_placed p.names) 1 b → AskedBody (ready_asks v) tt 1 b
      ready-asked s c b seen typed own at checked every =
          steps_asked placed_too (ready_asks v) R steps ((s, c), tt) tt 1 b (seen, typed, own)
          (both_asked known (place_asks (well_placed p.names)) (s, c) tt 1 b (both_asked (type_asks Known) (check_asks Check) s c 1 b (typed_asked Known s 1 b at) (checked_asked Check c 1 b checked))
          (placed_asked (well_placed p.names) 1 b every))
