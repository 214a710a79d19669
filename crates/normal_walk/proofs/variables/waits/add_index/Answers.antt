use Rattle.std.proofs.Common.{sym, ◌∙◌, option_map}
use Rattle.ada_tree.specs.PlainExpr.{plain_expr}
use Rattle.normal_model.specs.Making.{moving}
use Rattle.normal_model.specs.Ranges.{family_range}
use Rattle.normal_walk.proofs.variables.Behind.{index_added}
use Rattle.common_lemmas.proofs.Results.{on_ok}
use Rattle.normal_walk.proofs.variables.waits.add_index.Goals as goal

pub returns-then-moves : goal.returns-then-moves
returns-then-moves c =
    let g = c.args.lookups.now in
    on_ok c.add_range.result
    (index_added g c.args.span (moving g.types (option_map plain_expr c.args.index.now)) _ (family_range g c.args.entry) c.args.track.now c.add_range.new.track (sym c.moves.ensures ∙ c.if-moves.true) c.family_range-drange.ensures)
    c.add_range.ensures
