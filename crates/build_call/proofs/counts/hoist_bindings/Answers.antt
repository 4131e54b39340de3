-- `build_call::counts::hoist_bindings` meets its contract: each of the first clauses adds a word.
use Rattle.std.proofs.Common.{rules, ◌≡◌, ◌∙◌, ◌<◌, ◌^◌, arith, take, get_or, sum_by}
use Rattle.base_words.specs.WordsLaws.{bytes_of_fits}
use Rattle.build_call.specs.Counts.{leaf_bindings}
use Rattle.build_call.specs.CountsLaws.{sum_list, sum_most, leaf_most}
use Rattle.build_call.proofs.counts.hoist_bindings.Goals as goal

pub sum-requires-clause-fits : goal.sum-requires-clause-fits
sum-requires-clause-fits c =
    let a = c.args in
    let few : sum_by (leaf_bindings a.work.now) (take a.clauses a.scopes.leaf) < 2 ^ 64 =
    omega (
      arith,
      c.requires.1,
      sum_list (leaf_bindings a.work.now) a.scopes.leaf a.clauses (omega arith),
      sum_most (λ k. leaf_bindings a.work.now (get_or a.scopes.leaf k 0)) 65535 0 a.clauses (λ k. leaf_most a.work.now (get_or a.scopes.leaf k 0) (bytes_of_fits a.work.now c.type_inv.work)),
    ) in
    search rules

pub returns : goal.returns
returns c =
    let a = c.args in
    let told : c.sum.result ≡ sum_by (leaf_bindings a.work.now) (take a.clauses a.scopes.leaf) = search rules in
    told ∙ sum_list (leaf_bindings a.work.now) a.scopes.leaf a.clauses (omega arith)
