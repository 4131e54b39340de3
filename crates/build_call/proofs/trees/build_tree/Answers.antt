-- `build_call::trees::build_tree` meets its contract: more than 1,024 nodes before it is hoisted are 12, else the tree is finished.
use Rattle.build_call.specs.AnswersLaws.{gives_refusal}
use Rattle.build_call.specs.RawLaws.{end_12_raw}
use Rattle.build_call.proofs.trees.build_tree.Goals as goal

pub returns-in_default : goal.returns-in_default
returns-in_default c = gives_refusal c.args.sheet.now _ _ _ (end_12_raw c.args.sheet.now c.in_default.ensures) c.requires.3
