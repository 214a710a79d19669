-- All names in the normal form of a legal program are kept in its collecting text, and its lists have as many parts as the grammar asks.
use Rattle.std.proofs.Common.{ℕ, Bool}
use Rattle.ada_tree.specs.PlainProgram.{PProgram}
use Rattle.ada_tree.specs.Every.{EveryProgram}
use Rattle.normal_laws.specs.structure.checked.Around.{own_rules}
use Rattle.normal_laws.proofs.structure.checked.Owned.{own-together}
use Rattle.normal_laws.specs.runs.forms.Normalisable.{made_for}
use Rattle.normal_laws.specs.existence.Laws.{IsLegalOriginal}
use Rattle.normal_laws.proofs.legality.checks.Facts as facts
use Rattle.replay_structure.proofs.checkable.Kept.{rules_of}
use Rattle.collect_structure.specs.Names.{kept_name}
use Rattle.collect_structure.proofs.kept.Names.{own-kept, kept-keeping}
use Rattle.replay_structure.proofs.legal.Kept.{main-kept}
use Rattle.replay_structure.proofs.legal.Declared.{declarations-kept}
use Rattle.replay_structure.proofs.legal.names.form_names.Owned.{every-unlisted}

module _ (p : PProgram) (h : IsLegalOriginal p) where
  abbrev q : PProgram
  q = made_for p

  abbrev kept : ℕ → Bool
  kept = kept_name q

  named : EveryProgram (rules_of kept) q
  named = (
    own-kept p p.name.name.0 (facts.olds p h).0,
    tt,
    every-unlisted (rules_of kept) q.decls (declarations-kept p h kept (kept-keeping p)),
    main-kept p h kept (kept-keeping p),
  )

  -- All names are kept.
  pub names-kept : EveryProgram (own_rules kept) q
  names-kept = own-together kept (rules_of kept) (λ id a. a) q.names q named (facts.placed p h)
