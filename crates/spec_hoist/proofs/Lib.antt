-- Theorems that rest on others of this crate. Where a definition is changed so that one of those is false, these are no longer checked.
pub mod ScopesLaws
pub mod IdleLaws
pub mod OnceLaws
pub mod AboveLaws
pub mod BindingsLaws
pub mod DescentLaws
pub mod WholeTreeLaws
