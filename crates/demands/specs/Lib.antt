-- Open Demand1, Demand2 and Demand3: each is a page that says what is promised. The promises of the calls are in crate dewmycel, Promises.
pub mod OneAnswer
pub mod Reasons
pub mod ReasonsLaws
pub mod Demand1
pub mod FaceWalk
pub mod Demand2
pub mod Demand3
pub mod ShutOut
