-- `columns::map_pattern_to_row` and `columns::map_patterns_to_row`: one law for each way out; 192 less the pattern number falls, and
-- among the children of one pattern their number.
use borrow.Author.Rules.{rules}
use native.Mathlib.Omega.{arith}
use Rattle.build_matrix.specs.PuttingLaws.{nothing_is, itself_puts, itself_is, none_is, child_known, child_higher, next_children, next_room, rest_listed, rest_room, each_is}
use Rattle.build_matrix.proofs.columns.+map_pattern_to_row_map_patterns_to_row.Goals as goal

pub map_pattern_to_row-put-requires : goal.map_pattern_to_row-put-requires
map_pattern_to_row-put-requires t c =
    let a = c.args in
    let asked = c.requires in
    itself_puts asked.0 asked.1 a.p asked.2 asked.3 {g = c.gives-given.result} {class = c.in-Itself.class} c.gives-given.ensures (search rules)

pub map_pattern_to_row-returns-in-Nothing : goal.map_pattern_to_row-returns-in-Nothing
map_pattern_to_row-returns-in-Nothing t c =
    let a = c.args in
    let asked = c.requires in
    nothing_is asked.0 asked.1 a.p asked.2 asked.3 {g = c.gives-given.result} c.gives-given.ensures (search rules)

pub map_pattern_to_row-returns-in-Itself : goal.map_pattern_to_row-returns-in-Itself
map_pattern_to_row-returns-in-Itself t c =
    let a = c.args in
    let asked = c.requires in
    itself_is asked.0 asked.1 a.p asked.2 asked.3 {g = c.gives-given.result} {class = c.in-Itself.class} c.gives-given.ensures (search rules) c.put.ensures

pub map_patterns_to_row-returns-then-n-eq0 : goal.map_patterns_to_row-returns-then-n-eq0
map_patterns_to_row-returns-then-n-eq0 t c =
    let a = c.args in
    let asked = c.requires in
    none_is asked.0 asked.1 a.parent a.j a.n asked.2 asked.3 c.if-n-eq0.true

pub map_patterns_to_row-map_patterns_to_row-rest-requires : goal.map_patterns_to_row-map_patterns_to_row-rest-requires
map_patterns_to_row-map_patterns_to_row-rest-requires t c =
    let a = c.args in
    let asked = c.requires in
    (omega (arith, c.decreases, c.if-n-eq0.false), (asked.0, asked.1, next_children asked.0 asked.1 a.parent a.j a.n asked.2 asked.3 c.if-n-eq0.false, next_room asked.0 asked.1 a.parent a.j a.n asked.2 asked.3 c.if-n-eq0.false))

pub map_patterns_to_row-map_pattern_to_row-requires : goal.map_patterns_to_row-map_pattern_to_row-requires
map_patterns_to_row-map_pattern_to_row-requires t c =
    let a = c.args in
    let asked = c.requires in
    let left = c.if-n-eq0.false in
    let known = child_known asked.0 asked.1 a.parent a.j a.n asked.2 asked.3 left in
    let higher = child_higher asked.0 asked.1 a.parent a.j a.n asked.2 asked.3 left in
    let q = c.child_at in
    let rest = c.map_patterns_to_row-rest.ensures in (
      omega (arith, c.decreases, known, higher, q.ensures, asked.0.checked.ok.is_counted.patterns_most_holds),
      (asked.0, rest_listed asked.0 asked.1 a.parent a.j a.n asked.2 asked.3 left rest q.result q.ensures, omega (arith, known, q.ensures), rest_room asked.0 asked.1 a.parent a.j a.n asked.2 asked.3 left rest q.result q.ensures),
    )

pub map_patterns_to_row-returns : goal.map_patterns_to_row-returns
map_patterns_to_row-returns t c =
    let a = c.args in
    let asked = c.requires in
    let q = c.child_at in
    each_is asked.0 asked.1 a.parent a.j a.n asked.2 asked.3 c.if-n-eq0.false c.map_patterns_to_row-rest.ensures q.result q.ensures c.map_pattern_to_row.ensures
