-- The theorems over the definitions of spec_rules. Theorems is the file to open first, with Said beside it; the others prove it.
--   Stands, EachPattern, SheetPatterns: where each pattern of a sheet stands, and what holds of it.
--   CaseStarts, Formed, SheetLeaves, BuiltTree: the tree of an accepted sheet can be written. SheetFileLaws: what its file says.
--   FirstMatches: the meaning clause by clause. Positions: a walk's positions. WalkPlaces: where it ends.
--   Stages, Refusals, CallsLaws: what is refused, and when.
-- BuiltTree and SheetFileLaws are in proofs/, and so is what rests on them.
pub mod Said
pub mod Theorems
pub mod Stands
pub mod EachPattern
pub mod SheetPatterns
pub mod Counting
pub mod CaseStarts
pub mod Formed
pub mod SheetLeaves
pub mod FirstMatches
pub mod Positions
pub mod WalkPlaces
pub mod Stages
pub mod Refusals
pub mod CallsLaws
