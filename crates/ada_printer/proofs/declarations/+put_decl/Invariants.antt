use Rattle.std.proofs.Common.{take, map}
use Rattle.ded_io.specs.Written.{each_text}
use Rattle.ada_tree.specs.PlainDecl.{plain_decl}
use Rattle.ada_printer.specs.DeclText.{decl_text}
use Rattle.ded_io.specs.pages.Pages.{Drew, over}
use Rattle.ada_printer.proofs.declarations.+put_decl.Given as goal

abbrev pub invariant-put_decls-loop-decl : goal.invariant-put_decls-loop-decl
invariant-put_decls-loop-decl g l =
    Drew (over l.initial.page (g.K.Sink.told l.initial.out) (g.K.Sink.faults l.initial.out)) (over l.page (g.K.Sink.told l.out) (g.K.Sink.faults l.out))
    (each_text (decl_text l.names l.level) (map plain_decl (take l.decl-index l.decls)))
