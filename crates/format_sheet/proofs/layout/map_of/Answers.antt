-- `format_sheet::layout::map_of` meets its contract: each section reaches from its start to the next, and a laid sheet has none that ends before it starts.
-- Rests on the law that makes the map of such sections.
use native.Mathlib.Omega.{arith}
use Rattle.spec_rules.specs.SheetFile.{types_at, constructors_at, entries_at, patterns_at, children_at, clauses_at, pool_at, pool_end}
use Rattle.format_sheet.specs.SectionsLaws.{map_read}
use Rattle.format_sheet.proofs.layout.map_of.Goals as goal

pub section_of-types-requires : goal.section_of-types-requires
unfolding types_at constructors_at
section_of-types-requires c = (omega (arith, c.requires.types_end), omega arith)

pub section_of-constructors-requires : goal.section_of-constructors-requires
unfolding constructors_at entries_at
section_of-constructors-requires c = (omega (arith, c.requires.constructors_end), omega arith)

pub section_of-entries-requires : goal.section_of-entries-requires
unfolding entries_at patterns_at
section_of-entries-requires c = (omega (arith, c.requires.entries_end), omega arith)

pub section_of-patterns-requires : goal.section_of-patterns-requires
unfolding patterns_at children_at
section_of-patterns-requires c = (omega (arith, c.requires.patterns_end), omega arith)

pub section_of-children-requires : goal.section_of-children-requires
unfolding children_at clauses_at
section_of-children-requires c = (omega (arith, c.requires.children_end), omega arith)

pub section_of-clauses-requires : goal.section_of-clauses-requires
unfolding clauses_at pool_at
section_of-clauses-requires c = (omega (arith, c.requires.clauses_end), omega arith)

pub section_of-pool-requires : goal.section_of-pool-requires
unfolding pool_at pool_end
section_of-pool-requires c = (omega (arith, c.requires.pool_end_holds), omega arith)

pub returns : goal.returns
returns c =
    map_read c.args.sheet.now c.start-types_at.result c.start-constructors_at.result c.start-entries_at.result c.start-patterns_at.result c.start-children_at.result c.start-clauses_at.result c.start-pool_at.result
    c.start-types_at.ensures c.start-constructors_at.ensures c.start-entries_at.ensures c.start-patterns_at.ensures c.start-children_at.ensures c.start-clauses_at.ensures c.start-pool_at.ensures
    c.section_of-types.result c.section_of-constructors.result c.section_of-entries.result c.section_of-patterns.result c.section_of-children.result c.section_of-clauses.result c.section_of-pool.result c.subject_of-subject.result
    c.section_of-types.ensures c.section_of-constructors.ensures c.section_of-entries.ensures c.section_of-patterns.ensures c.section_of-children.ensures c.section_of-clauses.ensures c.section_of-pool.ensures c.subject_of-subject.ensures
