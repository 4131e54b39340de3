-- `format_tree::order::cases_follow` meets its contract: the first case, and of each later one what `case_follows` says, the child before it at hand.
use Rattle.std.proofs.Common.{◌≡◌, ◌+◌, ◌-◌, arith, ap, sym, ◌∙◌, ne_eqb, eq-eqb}
use Rattle.spec_rules.specs.TreeReader.{case_child}
use Rattle.spec_rules.specs.SearchingLaws.{every_on, every_stop, every_end}
use Rattle.format_tree.specs.PreOrder.{case_follows, end_of}
use Rattle.format_tree.specs.OrderLaws.{chain_is, case_child_in}
use Rattle.format_tree.proofs.order.cases_follow.Goals as goal

pub returns-then-before-k : goal.returns-then-before-k
returns-then-before-k c =
    let a = c.args in
    sym (chain_is a.tree.now (a.k + 1) a.i a.n c.requires.2 ∙ rw (ne_eqb (case_child a.tree.now a.i) (a.k + 1) (λ e. c.if-before-k.true (c.case_child-before.ensures ∙ e))))

pub loop-j-init : goal.loop-j-init
loop-j-init c =
    let a = c.args in
    let x = c.case_child-before.ensures in
    let d : a.i + 1 - 1 ≡ a.i = omega arith in
    let m : a.i + a.n - (a.i + 1) ≡ a.n - 1 = omega arith in (
      rw d x,
      omega (arith, case_child_in c.requires.0 a.i (omega (arith, c.requires.2, c.requires.3))),
      rw m (sym (chain_is a.tree.now (a.k + 1) a.i a.n c.requires.2 ∙ rw (eq-eqb (case_child a.tree.now a.i) (a.k + 1) (sym x ∙ c.if-before-k.false)))),
    )

pub end_of-requires : goal.end_of-requires
end_of-requires c = (c.requires.0, omega (arith, c.loop-j.invariant.1, c.requires.1))

pub returns-then-child-end_of : goal.returns-then-child-end_of
unfolding case_follows
returns-then-child-end_of c =
    let a = c.args in
    let l = c.loop-j in
    let e = c.end_of.ensures ∙ ap (end_of a.tree.now) l.invariant.0 in
    sym (every_stop (case_follows a.tree.now) l.j (a.i + a.n) c.loop-j-test.true
    (ne_eqb (case_child a.tree.now l.j) (end_of a.tree.now (case_child a.tree.now (l.j - 1))) (λ q. c.if-child-end_of.true (c.case_child-child.ensures ∙ q ∙ sym e))))
    ∙ l.invariant.2

pub loop-j-preserved : goal.loop-j-preserved
unfolding case_follows
loop-j-preserved c =
    let a = c.args in
    let l = c.loop-j in
    let x = c.case_child-child.ensures in
    let e = c.end_of.ensures ∙ ap (end_of a.tree.now) l.invariant.0 in
    let d : l.j + 1 - 1 ≡ l.j = omega arith in (
      rw d x,
      omega (arith, case_child_in c.requires.0 l.j (omega (arith, c.loop-j-test.true, c.requires.3))),
      every_on (case_follows a.tree.now) l.j (a.i + a.n) c.loop-j-test.true
          (eq-eqb (case_child a.tree.now l.j) (end_of a.tree.now (case_child a.tree.now (l.j - 1))) (sym x ∙ c.if-child-end_of.false ∙ e))
          ∙ l.invariant.2,
    )

pub returns : goal.returns
returns c =
    let a = c.args in
    sym (every_end (case_follows a.tree.now) c.loop-j.j (a.i + a.n) (omega (arith, c.loop-j-test.false))) ∙ c.loop-j.invariant.2
