-- All names in the normal form of a legal program are old, and its lists have as many parts as the grammar asks.
use Rattle.std.proofs.Common.{◌≡◌, ℕ, Bool, true}
use Rattle.std.specs.List.{AllByRecursion}
use Rattle.ada_tree.specs.PlainDecl.{PDecls, no_decl, decl_then}
use Rattle.ada_tree.specs.PlainProgram.{PProgram}
use Rattle.ada_tree.specs.Every.{Rules, EveryDecl, EveryDecls, EveryProgram}
use Rattle.ada_static_rules.specs.Refusals.{types_in}
use Rattle.syn_event.specs.DeclaredTasks.{decl_list}
use Rattle.normal_laws.specs.structure.types.Own.{own_name}
use Rattle.normal_laws.specs.structure.checked.Around.{own_rules}
use Rattle.normal_laws.proofs.structure.checked.Owned.{own-together}
use Rattle.normal_laws.specs.runs.forms.Normalisable.{numbers_of, made_for}
use Rattle.normal_laws.specs.existence.Laws.{IsLegalOriginal}
use Rattle.normal_laws.proofs.legality.checks.Facts as facts
use Rattle.replay_structure.proofs.checkable.Kept.{rules_of}
use Rattle.replay_structure.proofs.legal.Keeping.{IsKeeping}
use Rattle.replay_structure.proofs.legal.Kept.{keeping, main-kept}
use Rattle.replay_structure.proofs.legal.Declared.{declarations-kept}
use Rattle.replay_structure.specs.scopes.Names.{old_name}
use Rattle.replay_structure.proofs.legal.names.form_names.Olds.{new-old, own-old}

pub every-unlisted : (rules : Rules) (ds : PDecls) → AllByRecursion (EveryDecl rules) (decl_list ds) → EveryDecls rules ds
every-unlisted rules no_decl h = tt
every-unlisted rules (decl_then d ds) h = (h.0, every-unlisted rules ds h.1)

module _ (p : PProgram) (h : IsLegalOriginal p) where
  abbrev q : PProgram
  q = made_for p

  abbrev old : ℕ → Bool
  old = old_name q

  olds : (k : ℕ) → own_name p k ≡ true → old k ≡ true
  olds = own-old p (types_in p) (numbers_of p)

  kept : IsKeeping p old
  kept = keeping p old olds (new-old q)

  named : EveryProgram (rules_of old) q
  named = (
    olds p.name.name.0 (facts.olds p h).0,
    tt,
    every-unlisted (rules_of old) q.decls (declarations-kept p h old kept),
    main-kept p h old kept,
  )

  -- All names are old.
  pub names-old : EveryProgram (own_rules old) q
  names-old = own-together old (rules_of old) (λ id a. a) q.names q named (facts.placed p h)
