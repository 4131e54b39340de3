-- `format_tree::records::cases_of_kind` meets its contract: the first of another kind, one more, and the end.
use Rattle.std.proofs.Common.{◌≡◌, ◌+◌, ◌-◌, arith, ap, sym, ◌∙◌, ne_eqb, eq-eqb}
use Rattle.spec_rules.specs.Searching.{every}
use Rattle.spec_rules.specs.SearchingLaws.{every_on, every_stop, every_end}
use Rattle.spec_rules.specs.TreeReader.{case_kind, is_kind}
use Rattle.format_tree.proofs.records.cases_of_kind.Goals as goal

pub loop-j-init : goal.loop-j-init
loop-j-init c =
    let a = c.args in
    let e : a.i + a.n - a.i ≡ a.n = omega arith in
    ap (every (is_kind a.tree.now a.kind) a.i) e

pub returns-then-case_kind-kind : goal.returns-then-case_kind-kind
unfolding is_kind
returns-then-case_kind-kind c =
    let a = c.args in
    sym (every_stop (is_kind a.tree.now a.kind) c.loop-j.j (a.i + a.n) c.loop-j-test.true
    (ne_eqb (case_kind a.tree.now c.loop-j.j) a.kind (λ e. c.if-case_kind-kind.true (c.case_kind.ensures ∙ e))))
    ∙ c.loop-j.invariant

pub loop-j-preserved : goal.loop-j-preserved
unfolding is_kind
loop-j-preserved c =
    let a = c.args in
    every_on (is_kind a.tree.now a.kind) c.loop-j.j (a.i + a.n) c.loop-j-test.true
    (eq-eqb (case_kind a.tree.now c.loop-j.j) a.kind (sym c.case_kind.ensures ∙ c.if-case_kind-kind.false))
    ∙ c.loop-j.invariant

pub returns : goal.returns
returns c = let a = c.args in sym (every_end (is_kind a.tree.now a.kind) c.loop-j.j (a.i + a.n) c.loop-j-test.false) ∙ c.loop-j.invariant
