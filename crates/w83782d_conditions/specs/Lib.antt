pub mod Conditions
pub mod ConditionParts
