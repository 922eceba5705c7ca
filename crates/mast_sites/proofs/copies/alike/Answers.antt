use Rattle.std.proofs.Common.{rules, tests}
use Rattle.std.specs.List.{zip}
use Rattle.std.proofs.lemmas.Bool.{MatchBool-at_true}
use Rattle.std.proofs.lemmas.Iterator.{cases_from_all, YieldsList-from_slice, YieldsList-from_zip}
use Rattle.std.proofs.lemmas.Iterator.Search.{true_from_All}
use Rattle.std.proofs.lemmas.List.Elements.{All-from_all_within, length_all_zip}
use Rattle.element.specs.Order.{Same}
use Rattle.mast_sites.proofs.Zips.{AllZip-from_All, All-from_AllZip}
use Rattle.mast_sites.proofs.copies.alike.Goals as goal

pub returns-then-a-b : goal.returns-then-a-b
returns-then-a-b g c =
    let S = Same g.E.Element.model in
    let Yes : g.row.E.Denot × g.row.E.Denot → Type 0 = λ p. S p.0 p.1 in
    let No : g.row.E.Denot × g.row.E.Denot → Type 0 = λ p. Yes p → ⊥ in
    let xs = c.args.a.now in
    let ys = c.args.b.now in
    let r = cases_from_all c.all.new.self _ _ Yes No c.all.ensures.ran (YieldsList-from_zip (YieldsList-from_slice xs (cc)) (YieldsList-from_slice ys (cc))) (λ x q k. search (rules, tests)) (λ x q k. search (rules, tests)) in (
      λ t. AllZip-from_All S xs ys c.if-a-b.true (All-from_all_within Yes (zip xs ys) (MatchBool-at_true _ _ t r)),
      λ h. true_from_All Yes No _ _ (λ p y n. n y) r (All-from_AllZip S xs ys h),
    )

pub returns-else-a-b : goal.returns-else-a-b
returns-else-a-b g c =
    let no = c.if-a-b.false in (
      λ t. search (rules, tests),
      λ h. absurd (no (length_all_zip (Same g.E.Element.model) c.args.a.now c.args.b.now h)),
    )
