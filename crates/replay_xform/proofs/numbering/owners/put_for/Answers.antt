use Rattle.std.proofs.Common.{◌≡◌, ◌-◌, length, map, inl, inr, sym, arith}
use Rattle.std.proofs.lemmas.List.{length-map}
use Rattle.replay_xform.proofs.numbering.Owned.{none-for, put-there}
use Rattle.replay_xform.proofs.numbering.owners.put_for.Goals as goal
use Rattle.replay_xform.proofs.numbering.owners.put_for.Goals.{then-owner-eq0-via-then-owner-eq0, then-owner-eq0-via-else-owner-eq0+then-owner-len}

pub returns-then-owner-eq0 : goal.returns-then-owner-eq0
returns-then-owner-eq0 c =
    let count : length (map (λ l. l.items) c.args.lists.now.items) ≡ length c.args.lists.now.items = length-map c.args.lists.now.items (λ l. l.items) in
    elim c.then-owner-eq0.branch [
      | then-owner-eq0-via-then-owner-eq0 w ↦ sym (none-for c.args.info (map (λ l. l.items) c.args.lists.now.items) 1 (inl (omega (arith, w.if-owner-eq0.true))))
      | then-owner-eq0-via-else-owner-eq0+then-owner-len w ↦ sym (none-for c.args.info (map (λ l. l.items) c.args.lists.now.items) 1 (inr (omega (arith, count, w.len.ensures, w.if-owner-len.true))))
    ]

pub returns : goal.returns
returns c =
    let count : length (map (λ l. l.items) c.args.lists.now.items) ≡ length c.args.lists.now.items = length-map c.args.lists.now.items (λ l. l.items) in
    put-there c.args.info (map (λ l. l.items) c.args.lists.now.items) (map (λ l. l.items) c.push_at.new.lists.items) (c.args.info.owner - 1) c.push_at.result (omega (arith, c.if-owner-eq0.false)) (omega (arith, count, c.len.ensures, c.if-owner-eq0.false, c.if-owner-len.false)) c.push_at.ensures
