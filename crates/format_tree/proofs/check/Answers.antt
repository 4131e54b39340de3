-- `format_tree::check` meets its contract: each stage answers for its part of the one test, and gives the next what that asks.
-- Rests on the facts of a file that is laid out and of records that keep the rules.
use Rattle.std.proofs.Common.{rules}
use Rattle.base_words.specs.WordsLaws.{bytes_of_fits}
use Rattle.spec_accepted.specs.TreeFacts.{tree_laid}
use Rattle.format_parts.specs.RefusalsLaws.{passes, stops}
use Rattle.format_tree.specs.CheckLaws.{verdict_by_stages, long_enough, map_read, rules_read}
use Rattle.format_tree.proofs.check.Goals as goal

pub returns-in_err-require-clause-verdict : goal.returns-in_err-require-clause-verdict
returns-in_err-require-clause-verdict c = rw verdict_by_stages (search (rules, stops, passes))

pub starts_rise-requires : goal.starts_rise-requires
starts_rise-requires c = search (rules, long_enough, passes)

pub returns-in_err-require-2-clause-verdict : goal.returns-in_err-require-2-clause-verdict
returns-in_err-require-2-clause-verdict c = rw verdict_by_stages (search (rules, stops, passes))

pub sections-map-requires : goal.sections-map-requires
sections-map-requires c = search (rules, tree_laid, passes)

pub records_keep_rules-requires : goal.records_keep_rules-requires
records_keep_rules-requires c = search (rules, map_read, bytes_of_fits, passes)

pub returns-in_err-require-3-clause-verdict : goal.returns-in_err-require-3-clause-verdict
returns-in_err-require-3-clause-verdict c = rw verdict_by_stages (search (rules, stops, passes))

pub nodes_in_pre_order-requires : goal.nodes_in_pre_order-requires
nodes_in_pre_order-requires c = search (rules, rules_read, bytes_of_fits, passes)

pub returns-in_err-require-4-clause-verdict : goal.returns-in_err-require-4-clause-verdict
returns-in_err-require-4-clause-verdict c = rw verdict_by_stages (search (rules, stops, passes))

pub returns-clause-verdict : goal.returns-clause-verdict
returns-clause-verdict c = rw verdict_by_stages (search (rules, passes))
