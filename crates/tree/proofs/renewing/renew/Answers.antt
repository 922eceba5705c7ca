use Rattle.std.proofs.Common.{◌+◌, ◌<◌, length, sym, ap, ◌∙◌, arith, length-set}
use Rattle.std.proofs.lemmas.List.{get_or_read}
use Rattle.tree.specs.Tree.{leaf_bytes}
use Rattle.tree.proofs.Renewals.{renewing, renewed_by, stays}
use Rattle.tree.proofs.Sizing.{fitting}
use Rattle.tree.proofs.renewing.renew.Goals as goal

pub returns-then-not-tables_fit-clause-rule : goal.returns-then-not-tables_fit-clause-rule
returns-then-not-tables_fit-clause-rule g c = renewing g.E.Element.model _

pub returns-then-not-tables_fit-clause-stays : goal.returns-then-not-tables_fit-clause-stays
returns-then-not-tables_fit-clause-stays g c = stays g.E.Element.model _

pub returns-then-key-n-clause-rule : goal.returns-then-key-n-clause-rule
returns-then-key-n-clause-rule g c = renewing g.E.Element.model _

pub returns-then-key-n-clause-stays : goal.returns-then-key-n-clause-stays
returns-then-key-n-clause-stays g c = stays g.E.Element.model _

pub climb-requires : goal.climb-requires
climb-requires g c =
    let n = length c.args.elements.now in
    let p = fitting n (length c.args.digests.now) (sym c.if-not-tables_fit.ensures) in
    let l = length-set c.args.digests.now (n + c.args.key) c.leaf.result in
    (omega arith, omega arith)

pub returns-clause-after : goal.returns-clause-after
returns-clause-after g c =
    let m = g.E.Element.model in
    let h = g.D.Digest.function c.args.digest.now in
    let es = c.args.elements.now in
    let k = c.args.key in
    let inside : k < length es = omega arith in
    let x = get_or_read es k c.index-elements-key.result inside c.index-elements-key.is m.bottom in
    c.climb.ensures ∙ renewed_by m h es k c.args.digests.now c.leaf.result (sym c.if-not-tables_fit.ensures) inside (c.leaf.ensures ∙ ap (λ y. h (leaf_bytes m y)) x)

pub returns-clause-rule : goal.returns-clause-rule
returns-clause-rule g c = renewing g.E.Element.model _

pub returns-clause-stays : goal.returns-clause-stays
returns-clause-stays g c = stays g.E.Element.model _
