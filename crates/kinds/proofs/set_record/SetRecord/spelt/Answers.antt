use Rattle.std.proofs.Common.{◌≡◌, ◌+◌, length, drop, None, Some, sym, ap, ap₂, ◌∙◌, arith, length-take}
use Rattle.std.proofs.lemmas.Bool.{cond-true, eq-eqb}
use Rattle.std.proofs.lemmas.List.{take_all}
use Rattle.element.specs.Bytes.{number}
use Rattle.element.specs.Numbers.{spelt_by_eight}
use Rattle.kinds.specs.Sets.{set_of}
use Rattle.kinds.proofs.set_record.SetRecord.spelt.Goals as goal

pub returns : goal.returns
returns c =
    let bs = c.args.bytes.now in
    let front = c.in_ok-added.ensures.cases in
    let back = c.in_ok-removed.ensures.cases in
    let lr : length c.in_ok-added.rest.now ≡ 8 = back.long in
    let lb : length c.in_ok-added.rest.now + 8 ≡ length bs = front.2 in
    let a = c.from_be_bytes.ensures ∙ spelt_by_eight c.in_ok-added.added.now (ap length front.0 ∙ length-take 8 bs ∙ omega arith) ∙ ap number front.0 in
    let r = c.from_be_bytes-2.ensures ∙ spelt_by_eight c.in_ok-removed.removed.now (ap length back.same ∙ lr) ∙ ap number (back.same ∙ front.1 ∙ sym (take_all 8 (drop 8 bs) (omega (arith, ap length front.1)))) in
    ap Some (ap₂ set_of a r) ∙ sym (cond-true _ _ None (eq-eqb _ _ (omega arith)))
