-- `walk::follow::path_length` meets its contract: a path's record says how many steps it has.
use Rattle.walk.specs.FollowLaws.{path_long}
use Rattle.walk.proofs.follow.path_length.Goals as goal

pub returns : goal.returns
returns c = path_long c.args.tree.now c.args.p c.path_at.result c.path_at.ensures
