-- The first three sections of the tree file, node by node of the tree before it is hoisted.
pub mod Pieces
pub mod PiecesLaws
pub mod Uses
pub mod UsesLaws
pub mod Model
pub mod ShiftLaws
pub mod ModelLaws
pub mod Written
pub mod RunLaws
pub mod WrittenLaws
pub mod Examples
