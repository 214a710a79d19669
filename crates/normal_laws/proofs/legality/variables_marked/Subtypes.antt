-- The subtype of each variable of the normal form of a legal program is known behind all declarations, by names that no inner scope hides.
use Rattle.std.proofs.Common.{ℕ, Bool, List, [], ◌∷◌, map, is_some, refl, ap, ◌∙◌}
use Rattle.std.specs.List.{AllByRecursion}
use Rattle.common_lemmas.proofs.Lists.{all_joined}
use Rattle.ada_tree.specs.declared.naming.Word.{Word}
use Rattle.ada_tree.specs.TypeTable.{TypeTable}
use Rattle.ada_tree.specs.PlainExpr.{PSubind, RMarked}
use Rattle.ada_tree.specs.PlainStmt.{PBody, PFormal}
use Rattle.ada_tree.specs.PlainProgram.{PProgram}
use Rattle.ada_tree.specs.Every.{EverySubind}
use Rattle.ada_tree.specs.WellPlaced.{well_placed}
use Rattle.ada_static_rules.specs.Refusals.{types_in}
use Rattle.ada_static_rules.specs.Scope.{Scope}
use Rattle.syn_event.specs.Numbering.{entry_at}
use Rattle.task_model.specs.Setting.{Setting, formals_of_info}
use Rattle.normal_model.specs.Ranges.{marked}
use Rattle.normal_model.specs.Calls.{Slot, slots_of}
use Rattle.normal_model.specs.NormalStmts.{unit_variables}
use Rattle.normal_laws.proofs.structure.placed.Added.{AreSubtypes, AreVariablesFrom, unit-from}
use Rattle.normal_laws.proofs.structure.placed.Names.{first-named}
use Rattle.normal_laws.proofs.structure.placed.Tables.{table-named}
use Rattle.normal_laws.proofs.structure.placed.Subtypes.{subtypes-placed}
use Rattle.task_laws.proofs.legal.types.StaticParts.{HasSubtype}
use Rattle.task_laws.proofs.legal.types.MainScopes.{StandsWhole, last-stands}
use Rattle.task_laws.proofs.legal.types.TaskTypes.{limits-here}
use Rattle.normal_laws.specs.existence.Laws.{IsLegalOriginal}
use Rattle.normal_laws.specs.legality.scopes.Plain.{plain_name}
use Rattle.normal_laws.proofs.legality.scopes.Main.{g, last, rules}
use Rattle.normal_laws.proofs.legality.scopes.Subtypes.{HasMark, range-known}
use Rattle.normal_laws.proofs.legality.typed_declarations.Subtypes as declared
use Rattle.normal_laws.proofs.legality.typed_declarations.Variables.{IsGoodSubtype, subtypes-good}
use Rattle.normal_laws.proofs.legality.typed_declarations.Joined.{program-rules}
use Rattle.normal_laws.proofs.legality.variables_marked.Static.{fixed_name, subind-fixed}

-- what holds of each formal holds of each of its names
slots-all : (P : PSubind → Type 0) (fs : List PFormal) → AllByRecursion (λ (f : PFormal). P (marked f.mark)) fs → AllByRecursion (λ (x : Slot). P (marked x.mark)) (slots_of fs)
slots-all P [] h = tt
slots-all P (f ∷ fs) h = all_joined (λ (x : Slot). P (marked x.mark)) (map (λ w. record { mode = f.mode; mark = f.mark }) f.names) (slots_of fs) (each f.names) (slots-all P fs h.1)
  where
    each : (ws : List Word) → AllByRecursion (λ (x : Slot). P (marked x.mark)) (map (λ w. record { mode = f.mode; mark = f.mark }) ws)
    each [] = tt
    each (w ∷ ws) = (h.0, each ws)

module _ (G : Setting) (P Q R : PSubind → Type 0) (join : (x : PSubind) → P x → Q x → R x) where
  lists-both : (xs : List Slot) → AllByRecursion (λ (x : Slot). P (marked x.mark)) xs → AllByRecursion (λ (x : Slot). Q (marked x.mark)) xs → AllByRecursion (λ (x : Slot). R (marked x.mark)) xs
  lists-both [] h k = tt
  lists-both (x ∷ xs) h k = (join (marked x.mark) h.0 k.0, lists-both xs h.1 k.1)

  both : declared.AreSubtypes G P → AreSubtypes G Q → AreSubtypes G R
  both h k = record {
    integers = λ s. join _ (h.integer s) (k.integers s);
    truths = λ s. join _ (h.truth s) (k.truths s);
    arrays = λ s id. join _ (h.array s id) (k.arrays s id);
    families = λ s e. join _ (h.family s e) (k.families s e);
    formals = λ e. lists-both (slots_of (formals_of_info G (entry_at G.numbers e))) (slots-all P (formals_of_info G (entry_at G.numbers e)) (h.formals e)) (k.formals e);
  }

module _ (p : PProgram) (legal : IsLegalOriginal p) where
  abbrev T : TypeTable
  T = types_in p

  abbrev L : Scope
  L = last p legal

  -- the names that no inner scope hides
  abbrev pub fixed : ℕ → Bool
  fixed = fixed_name T (plain_name p)

  -- The subtype is known by such names.
  abbrev pub IsKnown : PSubind → Type 0
  IsKnown x = HasMark p legal fixed x

  stands : StandsWhole T L
  stands = last-stands p (rules p legal) legal.placed legal.small

  good-known : (x : PSubind) → IsGoodSubtype p legal (program-rules p legal).2 x → EverySubind (well_placed p.names) 2 x → IsKnown x
  good-known x good every =
      range-known p legal fixed x
      (subind-fixed T (plain_name p) L refl good.0.mark.leads.mark.kind x good.1 (ap is_some (stands.stands.over.marks x.mark.name good.0.mark.place good.0.mark.means ∙ good.0.mark.leads.there)) good.0.bounds)
      (limits-here T L stands.stands p.names (RMarked x) every good.0)

  -- It is static there, by such names, and well placed.
  pub record IsStatic (x : PSubind) : Type 0 where
    pub known : IsKnown x
    pub static : HasSubtype L x
    pub every : EverySubind (well_placed p.names) 2 x

  good-static : (x : PSubind) → IsGoodSubtype p legal (program-rules p legal).2 x → EverySubind (well_placed p.names) 2 x → IsStatic x
  good-static x good every = record { known = good-known x good every; static = good.0; every = every }

  placed : AreSubtypes (g p legal) (EverySubind (well_placed p.names) 2)
  placed = subtypes-placed (g p legal) p.names (table-named p.names p legal.placed.2 (first-named p.names legal.names)).1 (first-named p.names legal.names) legal.placed.2

  -- So is that of each variable of a unit.
  pub variables-known : (task : ℕ) (b : PBody) → AreVariablesFrom (g p legal) IsKnown 0 (unit_variables (record { setting = g p legal; task = task }) b)
  variables-known task b =
      unit-from (g p legal) IsKnown (both (g p legal) (IsGoodSubtype p legal (program-rules p legal).2) (EverySubind (well_placed p.names) 2) IsKnown good-known (subtypes-good p legal (program-rules p legal).2) placed) task b

  pub variables-static : (task : ℕ) (b : PBody) → AreVariablesFrom (g p legal) IsStatic 0 (unit_variables (record { setting = g p legal; task = task }) b)
  variables-static task b =
      unit-from (g p legal) IsStatic (both (g p legal) (IsGoodSubtype p legal (program-rules p legal).2) (EverySubind (well_placed p.names) 2) IsStatic good-static (subtypes-good p legal (program-rules p legal).2) placed) task b
