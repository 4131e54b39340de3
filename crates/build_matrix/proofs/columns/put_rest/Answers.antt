-- `columns::put_rest`: all before the class's place and all behind it are the list without the class.
use native.Mathlib.Omega.{arith}
use Rattle.build_matrix.specs.Lists.{as_classes}
use Rattle.build_matrix.specs.ListsLaws.{rest_place, rest_count, rest_are}
use Rattle.build_matrix.proofs.columns.put_rest.Goals as goal

pub put_part-front-requires-clause-from_le_to : goal.put_part-front-requires-clause-from_le_to
put_part-front-requires-clause-from_le_to c =
    let a = c.args in
    let found = c.place_of-place in
    let h = rest_place (as_classes a.list.now a.count) (as_classes a.cs.now a.n) (as_classes a.list.now a.count) (as_classes a.list.now a.count) a.class found.result c.requires.0 c.requires.1 c.requires.2 found.ensures in
    (omega arith, omega (arith, h, c.requires), omega (arith, h, c.requires))

pub overflow_add-place : goal.overflow_add-place
overflow_add-place c =
    let a = c.args in
    let found = c.place_of-place in
    let h = rest_place (as_classes a.list.now a.count) (as_classes a.cs.now a.n) (as_classes a.list.now a.count) (as_classes a.list.now a.count) a.class found.result c.requires.0 c.requires.1 c.requires.2 found.ensures in
    omega (arith, h, c.requires)

pub put_part-requires-clause-from_le_to : goal.put_part-requires-clause-from_le_to
put_part-requires-clause-from_le_to c =
    let a = c.args in
    let found = c.place_of-place in
    let h = rest_place (as_classes a.list.now a.count) (as_classes a.cs.now a.n) (as_classes a.list.now a.count) (as_classes a.list.now a.count) a.class found.result c.requires.0 c.requires.1 c.requires.2 found.ensures in
    let front = c.put_part-front in
    let front_list = as_classes front.new.list front.result in
    let n = rest_count (as_classes a.list.now a.count) (as_classes a.cs.now a.n) front_list (as_classes a.list.now a.count) a.class found.result c.requires.0 c.requires.1 c.requires.2 found.ensures front.ensures in
    (omega (arith, h), omega (arith, c.requires.1.most), omega (arith, h, n, c.requires))

pub returns : goal.returns
returns c =
    let a = c.args in
    let found = c.place_of-place in
    let front = c.put_part-front in
    let front_list = as_classes front.new.list front.result in
    let out = c.put_part in
    rest_are (as_classes a.list.now a.count) (as_classes a.cs.now a.n) front_list (as_classes out.new.list out.result) a.class found.result
    c.requires.0 c.requires.1 c.requires.2 found.ensures front.ensures out.ensures
