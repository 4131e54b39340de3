-- `build_file_nodes::bindings::put_bindings` meets its contract. The loop's invariant: with the bindings from first + i on the whole is stored.
use Rattle.build_file_nodes.specs.ModelLaws.{bindings_next, bindings_end}
use Rattle.build_file_nodes.proofs.bindings.put_bindings.Goals as goal

pub loop-i-preserved : goal.loop-i-preserved
loop-i-preserved c = bindings_next c.loop-i.invariant c.loop-i-test.true c.requires.0 c.put_binding-known.ensures

pub returns : goal.returns
returns c = bindings_end c.loop-i.invariant c.loop-i-test.false
