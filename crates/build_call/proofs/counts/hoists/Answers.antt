-- `build_call::counts::hoists` meets its contract: the marks of the first clauses are counted.
use Rattle.std.proofs.Common.{rules, ◌≡◌, ◌∙◌, arith, take, count_by}
use Rattle.build_call.specs.Counts.{is_marked}
use Rattle.build_call.specs.CountsLaws.{count_times}
use Rattle.build_call.proofs.counts.hoists.Goals as goal

pub returns : goal.returns
returns c =
    let a = c.args in
    let told : c.count.result ≡ count_by is_marked (take a.clauses a.leaves) = search rules in
    told ∙ count_times is_marked a.leaves a.clauses (omega arith)
