use Rattle.app_io.specs.ShownLaws.{tree_shows}
use Rattle.app_io.proofs.list_tree.Goals as goal

pub returns : goal.returns
returns c = rw c.unwrap_or.ensures (tree_shows _ _ _ _ c.listing.ensures)
