use Rattle.app_listing.specs.WritingLaws.{writes_then, writes_as}
use Rattle.app_listing.specs.RecordsLaws.{binding_line_lem, binding_inside}
use Rattle.app_listing.proofs.parts.put_binding.Goals as goal

pub put_path-requires : goal.put_path-requires
put_path-requires c = (c.requires.0, binding_inside _ _ _ c.binding_at-binding.ensures c.requires.0 c.requires.1)

pub returns : goal.returns
returns c = writes_as (writes_then c.put_numbered-name.ensures (writes_then c.put-equals.ensures c.put_path.ensures))
    (binding_line_lem _ _ _ c.binding_at-binding.ensures)
