use Rattle.app_listing.specs.WritingLaws.{writes_then, writes_as}
use Rattle.app_listing.specs.RecordsLaws.{node_inside, node_line_lem}
use Rattle.app_listing.proofs.lines.put_line.Goals as goal

pub put_node-end-requires : goal.put_node-end-requires
put_node-end-requires c =
    (c.requires.0, node_inside c.requires.0 c.args.k c.requires.1 _ c.node_at-node.ensures)

pub returns : goal.returns
returns c =
    writes_as (writes_then c.put_decimal-number.ensures (writes_then c.put-space.ensures (writes_then c.put_node-end.ensures c.put.ensures)))
    (node_line_lem c.requires.0 c.args.k c.requires.1 _ c.node_at-node.ensures)
