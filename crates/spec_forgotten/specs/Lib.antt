-- Which panels a sheet forgets, over the definitions of spec_rules alone.
-- Definitions:
--   Values, PanelValues: panels of any size as values, the walk of a tree on one, and the value that a panel file holds.
--   Forgetting: what is reported, and 15. ForgettingSaid: what holds of it, as statements; ForgettingTheorems and OneAnswerLaws prove them.
--   Choosing, Shapes, Search: the search for the lowest forgotten switch, node by node. Marking: the marking for 15. FileWays: the report
--   as a way in the tree file.
--   ForgettingExamples, SearchExamples: the definitions at work.
-- Laws:
--   PuttingLaws, TypedPartsLaws: a value with the part at a path exchanged. ReachingLaws, FallingLaws: in a tested tree some value falls out
--   of a switch exactly if each branch on the way there, asked alone, is one that some part takes.
--   OpenedParts, KnownTypes, NodesFit, MatrixLaws, SomewhereLaws, CasesFound, BuiltTested, SheetTested: the tree of an accepted sheet is tested.
--   ShapesLaws, ChildrenLaws, SearchLaws, ReachLaws, NeverStuckLaws, FewTestsLaws, FileWaysLaws, FoundLaws: what the search answers; no walk is stuck; few tests.
--   FillingLaws, MarkingLaws: which types have a value. PanelFitsLaws, PanelWalksLaws: panel files and their values.
-- What is not listed below is in proofs/.
pub mod Values
pub mod PanelValues
pub mod Forgetting
pub mod FileWays
pub mod ForgettingSaid
pub mod Choosing
pub mod Shapes
pub mod Search
pub mod Marking
pub mod ForgettingExamples
pub mod SearchExamples
pub mod PuttingLaws
pub mod TypedPartsLaws
pub mod ReachingLaws
pub mod OpenedParts
pub mod KnownTypes
pub mod NodesFit
pub mod FallingLaws
pub mod MatrixLaws
pub mod CasesFound
pub mod SheetTested
pub mod ShapesLaws
pub mod ChildrenLaws
pub mod NeverStuckLaws
pub mod FewTestsLaws
pub mod FileWaysLaws
pub mod PanelFitsLaws
pub mod PanelWalksLaws
