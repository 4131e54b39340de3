-- `build_file_nodes::bindings::put_binding` meets its contract: the path's number is read after its class is used, so it has one.
use Rattle.std.proofs.Common.{ap, arith}
use Rattle.build_file_nodes.specs.ModelLaws.{used_some}
use Rattle.build_file_nodes.proofs.bindings.put_binding.Goals as goal

pub overflow_sub-own : goal.overflow_sub-own
overflow_sub-own c =
    omega (arith, c.from-own.ensures, used_some _ _ _ c.used-count.ensures c.requires.2 (omega (arith, c.requires.0.class, ap (λ z. z.path) c.binding_at-binding.ensures)))
