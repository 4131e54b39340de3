-- `columns::open`: a text has no children, any other test opens to what its children give.
use Rattle.build_matrix.specs.PuttingLaws.{open_none, open_children, open_room, open_is}
use Rattle.build_matrix.proofs.columns.open.Goals as goal

pub returns-then-r-lt-LIST : goal.returns-then-r-lt-LIST
returns-then-r-lt-LIST c =
    let a = c.args in
    let r = c.pattern_at-r in
    open_none c.requires.0 c.requires.1 a.p c.requires.2 c.requires.3 r.result r.ensures c.if-r-lt-LIST.true

pub map_patterns_to_row-requires : goal.map_patterns_to_row-requires
map_patterns_to_row-requires c =
    let a = c.args in
    let r = c.pattern_at-r in
    (c.requires.0, c.requires.1, open_children c.requires.0 c.requires.1 a.p c.requires.2 c.requires.3 r.result r.ensures c.if-r-lt-LIST.false, open_room c.requires.0 c.requires.1 a.p c.requires.2 c.requires.3 r.result r.ensures c.if-r-lt-LIST.false)

pub returns : goal.returns
returns c =
    let a = c.args in
    let r = c.pattern_at-r in
    open_is c.requires.0 c.requires.1 a.p c.requires.2 c.requires.3 r.result r.ensures c.if-r-lt-LIST.false c.map_patterns_to_row.ensures
