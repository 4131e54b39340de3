-- `build_file_nodes::shift::count_hoists` meets its contract. The loop's invariant: the hoists of the clauses passed are counted.
use Rattle.std.proofs.Common.{◌≡◌, get_or, arith}
use Rattle.std.proofs.lemmas.Grind.{common_steps}
use Rattle.build_file_nodes.specs.Model.{node_in}
use Rattle.build_file_nodes.specs.ShiftLaws.{count_start, count_small, count_next}
use Rattle.build_file_nodes.proofs.shift.count_hoists.Goals as goal

pub loop-k-init : goal.loop-k-init
loop-k-init c = count_start (node_in c.args.node.now) c.requires

pub overflow_add-shift : goal.overflow_add-shift
overflow_add-shift c =
    let l = c.loop-k in
    let here : c.from.result ≡ get_or c.args.node.now l.k-index 0 = grind (arith, common_steps) in
    let most = c.requires.scopes l.k-index (omega arith) in
    omega (arith, count_small (node_in c.args.node.now) l.invariant c.from.result (omega arith), c.requires.few)

pub loop-k-preserved : goal.loop-k-preserved
loop-k-preserved c =
    let l = c.loop-k in
    let here : c.from.result ≡ get_or c.args.node.now l.k-index 0 = grind (arith, common_steps) in
    let most = c.requires.scopes l.k-index (omega arith) in
    count_next (node_in c.args.node.now) l.invariant c.from.result here (omega arith)
