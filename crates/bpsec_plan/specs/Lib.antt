pub mod Items
pub mod PlanText
