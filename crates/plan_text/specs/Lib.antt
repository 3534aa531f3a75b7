pub mod ListText
pub mod ExprText
pub mod NodeText
pub mod PlanText
