-- The collecting text of each legal program, with abort statements, declares each name of main once.
use Rattle.ada_tree.specs.PlainProgram.{PProgram}
use Rattle.task_laws.specs.legal.rewritten_types.Rewriting.{NamesOnce}
use Rattle.normal_laws.specs.existence.Laws.{IsLegalOriginal}
use Rattle.collect_runs.proofs.starts.Once.{places-once}
use Rattle.collect_structure.proofs.aborts.declares_once.Legal.{legal_abort_declares_once}
use Rattle.collect_runs.specs.aborts.starts.Texts.{abort_text}

pub legal-names-once : (p : PProgram) → IsLegalOriginal p → NamesOnce p.name (abort_text p).decls
legal-names-once p h = places-once (abort_text p) (legal_abort_declares_once p h)
