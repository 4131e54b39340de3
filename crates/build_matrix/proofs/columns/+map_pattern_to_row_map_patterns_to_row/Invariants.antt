-- `columns::map_pattern_to_row` and `columns::map_patterns_to_row`: one law for each way out; 192 less the pattern number falls, and
-- among the children of one pattern their number.
use Prim.Native.Nat.{◌+◌, ◌-◌, ◌*◌}
use Rattle.build_matrix.proofs.columns.+map_pattern_to_row_map_patterns_to_row.Given as goal

abbrev pub decreases-map_pattern_to_row : goal.decreases-map_pattern_to_row
decreases-map_pattern_to_row l = (192 - l.p) * 8192

abbrev pub decreases-map_patterns_to_row : goal.decreases-map_patterns_to_row
decreases-map_patterns_to_row l = (191 - l.parent) * 8192 + (l.n + 1)
