use Rattle.std.proofs.Common.{sym, ◌∙◌, arith, rules}
use Rattle.tree.proofs.Following.{after_all_ones, left_fits, after_end, after_left}
use Rattle.tree.proofs.walk.next_range.Goals as goal

pub returns-in_err-halved-clause-value : goal.returns-in_err-halved-clause-value
returns-in_err-halved-clause-value c =
    let t = c.trailing_ones.ensures in
    c.from_residual.ensures ∙ sym (after_all_ones c.args.range (omega arith) (λ h. c.in_err-halved.ensures (omega arith)))

pub overflow_add-result : goal.overflow_add-result
overflow_add-result c =
    let h = c.in_ok-halved in
    let f = left_fits c.args.range _ _ (omega arith) (search rules) h.ensures.0 h.ensures.1 in
    omega arith

pub returns-then-range-gt0-clause-value : goal.returns-then-range-gt0-clause-value
returns-then-range-gt0-clause-value c =
    let h = c.in_ok-halved in
    let v = after_end c.args.range _ _ (omega arith) (search rules) h.ensures.0 h.ensures.1 c.if-range-gt0.true c.if-halved-eq0.true in
    sym v

pub returns-else-halved-eq0-clause-value : goal.returns-else-halved-eq0-clause-value
returns-else-halved-eq0-clause-value c =
    let h = c.in_ok-halved in
    let v = after_left c.args.range _ _ (omega arith) (search rules) h.ensures.0 h.ensures.1 c.else-halved-eq0.either in
    sym v
