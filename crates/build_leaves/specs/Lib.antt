pub mod Bindings
pub mod Promises
pub mod BindingsLaws
pub mod PuttingLaws
pub mod StandsLaws
