use mathlib.Core.Path.{ap, subst}
use mathlib.Core.List.{List}
use Prim.Native.Nat.{ℕ}
use native.Mathlib.Omega.{arith}
use lib.ListN.{length}
use Rattle.base_words.specs.WordsLaws.{bytes_of_fits}
use Rattle.format_sheet.specs.Names.{in_buffer, Adds}
use Rattle.format_sheet.specs.NamesLaws.{name_small, variable_name, assign_name, no_name, adds_none}
use Rattle.format_sheet.proofs.names.add_own.Goals as goal

pub overflow_cast-r : goal.overflow_cast-r
overflow_cast-r c = omega (arith, name_small c.args.sheet.now c.args.p c.pattern_in-r.result c.pattern_in-r.ensures (bytes_of_fits c.args.sheet.now c.shared_slice_known-1.given))

pub add-requires : goal.add-requires
add-requires c = (c.requires.found_len.0, omega (arith, c.requires.found_len.1, ap length (variable_name c.args.sheet.now c.args.p c.pattern_in-r.result c.pattern_in-r.ensures c.in-1.is)))

pub overflow_cast-r-in-2 : goal.overflow_cast-r-in-2
overflow_cast-r-in-2 c = omega (arith, name_small c.args.sheet.now c.args.p c.pattern_in-r.result c.pattern_in-r.ensures (bytes_of_fits c.args.sheet.now c.shared_slice_known-1.given))

pub add-requires-in-2 : goal.add-requires-in-2
add-requires-in-2 c = (c.requires.found_len.0, omega (arith, c.requires.found_len.1, ap length (assign_name c.args.sheet.now c.args.p c.pattern_in-r.result c.pattern_in-r.ensures c.in-2.is)))

pub returns-in-1 : goal.returns-in-1
returns-in-1 c =
    subst (λ (xs : List ℕ). Adds (in_buffer c.args.found.now c.args.count) xs (in_buffer c.add.new.found c.add.result))
    (variable_name c.args.sheet.now c.args.p c.pattern_in-r.result c.pattern_in-r.ensures c.in-1.is) c.add.ensures

pub returns-in-2 : goal.returns-in-2
returns-in-2 c =
    subst (λ (xs : List ℕ). Adds (in_buffer c.args.found.now c.args.count) xs (in_buffer c.add-in-2.new.found c.add-in-2.result))
    (assign_name c.args.sheet.now c.args.p c.pattern_in-r.result c.pattern_in-r.ensures c.in-2.is) c.add-in-2.ensures

pub returns-in_default : goal.returns-in_default
returns-in_default c =
    let names = in_buffer c.args.found.now c.args.count in
    subst (λ (xs : List ℕ). Adds names xs names) (no_name c.args.sheet.now c.args.p c.pattern_in-r.result c.pattern_in-r.ensures c.in_default.in_default-own.rest.0.1 c.in_default.in_default-own.rest.1) (adds_none names)
