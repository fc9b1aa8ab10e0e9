-- `names::in_order` goes by the first byte that is not shared.
-- Assumes nothing.
use mathlib.Core.Path.{sym, ◌∙◌}
use native.Mathlib.Omega.{arith}
use Rattle.base.proofs.Begins.{shared_le, shared_le_other}
use Rattle.rules.proofs.Orders.{order_whole, order_longer, order_byte}
use Rattle.table.proofs.names.in_order.Goals as goal

pub bounds-a-at : goal.bounds-a-at
bounds-a-at c =
    let n = c.args in
    omega (arith, shared_le n.a.now n.b.now)

pub bounds-b-at : goal.bounds-b-at
bounds-b-at c =
    let n = c.args in
    omega (arith, shared_le_other n.a.now n.b.now)

pub returns-then-at-a : goal.returns-then-at-a
returns-then-at-a c =
    let n = c.args in
    sym (order_whole n.a.now n.b.now (sym c.shared-at.ensures ∙ c.if-at-a.true))

pub returns-then-at-b : goal.returns-then-at-b
returns-then-at-b c =
    let n = c.args in
    let e = c.shared-at.ensures in
    sym (order_longer n.a.now n.b.now (λ z. c.if-at-a.false (e ∙ z)) (sym e ∙ c.if-at-b.true))

pub returns-else-at-b : goal.returns-else-at-b
returns-else-at-b c =
    let n = c.args in
    let e = c.shared-at.ensures in
    rw e (sym (order_byte n.a.now n.b.now (λ z. c.if-at-a.false (e ∙ z)) (λ z. c.if-at-b.false (e ∙ z))))
