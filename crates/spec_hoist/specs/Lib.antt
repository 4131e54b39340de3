-- What hoisting keeps, where it puts each clause's hoist, and how many nodes and bindings it adds: rules 5 to 7 of 01 as theorems, here and in
-- proofs/.
pub mod Trees
pub mod Scopes
pub mod Descent
pub mod UnhoistedLaws
pub mod ScopesLaws
pub mod IdleLaws
pub mod BindingsLaws
pub mod BuiltLaws
pub mod WholeTreeLaws
pub mod Examples
