-- `walk::bind::bind` meets its contract: the loop's invariant is that the bindings left, written after those before, give the words that all of them give.
-- Records and dropped elements of a panel fit a word.
use Rattle.walk.specs.BindingsLaws.{remaining, left}
use Rattle.walk.specs.Bindings.{given_by, words_after}
use Rattle.spec_rules.specs.Walking.{bound as bound_all}
use Rattle.spec_rules.specs.TreeReader.{bindings_from}
use lib.ListN.{length as length_of}
use Prim.Native.Nat.{◌*◌}
use mathlib.Core.Path.{◌≡◌}
use Rattle.walk.proofs.bind.bind.Given as goal

abbrev pub invariant-loop-i : goal.invariant-loop-i
invariant-loop-i l = (length_of l.bound ≡ length_of l.initial.bound) × (given_by l.panel (remaining l.tree l.panel l.first l.count l.i) ≡ given_by l.panel (bindings_from l.tree l.first l.count))
    × (words_after l.bound (3 * l.i) (left l.tree l.panel l.first l.count l.i) ≡ words_after l.initial.bound 0 (bound_all l.panel (bindings_from l.tree l.first l.count)))
