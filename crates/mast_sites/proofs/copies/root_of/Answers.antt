use Rattle.std.proofs.Common.{ap, ◌∙◌, arith, rules, length, slice_index_or}
use Rattle.std.proofs.lemmas.Bool.{cond-true}
use Rattle.digest.specs.Folds.{fnv}
use Rattle.mast_sites.proofs.Trees.{fit_four, tree-root}
use Rattle.mast_sites.proofs.copies.root_of.Goals as goal

-- the tables fit, so the build is not declined
pub unwrap-requires : goal.unwrap-requires
unwrap-requires g c =
    let built = c.build.ensures.answer ∙ cond-true _ _ _ (fit_four (length c.args.elements.now) (omega arith)) in
    search rules

pub returns : goal.returns
returns g c =
    let es = c.args.elements.now in
    let after = c.build.ensures.after ∙ cond-true _ _ _ (fit_four (length es) (omega arith)) in
    ap (λ ds. slice_index_or ds 1 0) after ∙ tree-root g.E.Element.model fnv es (omega arith)
