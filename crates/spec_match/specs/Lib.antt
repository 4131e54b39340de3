-- What a built tree means, over the definitions of spec_rules alone.
--   Depth: a tree does not depend on how deep it may go; its equations by the filters of rule 4, and induction over its matrices.
--   FirstMatch: where the clauses suit the panel, the walk answers the first that matches. Typing: for accepted sheets and fitting panels.
--   Leaves: every leaf is a clause's and binds what its pattern binds.
--   SheetColumns: the order of columns is total in the matrices of an accepted sheet.
-- The others are what these rest on.
pub mod Lists
pub mod Paths
pub mod Tests
pub mod Depth
pub mod Apart
pub mod Bindings
pub mod Leaves
pub mod Suits
pub mod Answers
pub mod Switches
pub mod FirstMatch
pub mod Typing
pub mod Order
pub mod ColumnTypes
pub mod SheetColumns
