use Rattle.std.proofs.Common.{◌&&◌, leb, Bool, ap, ◌∙◌}
use Rattle.std.proofs.lemmas.Bool.Decides.{Decides-at}
use Rattle.tree.proofs.Sizing.{test_sized, sized_decides}
use Rattle.tree.proofs.size.is_size.Goals as goal

pub returns-then-is_power_of_two : goal.returns-then-is_power_of_two
returns-then-is_power_of_two c =
    let n = c.args.n in
    let v = ap (λ (b : Bool). b && leb n 4096) c.if-is_power_of_two.ensures ∙ test_sized n in
    record { value = v; power = Decides-at _ _ v (sized_decides n) }

pub returns-else-is_power_of_two : goal.returns-else-is_power_of_two
returns-else-is_power_of_two c =
    let n = c.args.n in
    let v = c.if-is_power_of_two.false ∙ ap (λ (b : Bool). b && leb n 4096) c.if-is_power_of_two.ensures ∙ test_sized n in
    record { value = v; power = Decides-at _ _ v (sized_decides n) }
