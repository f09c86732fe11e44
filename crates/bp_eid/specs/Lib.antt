pub mod DtnText
pub mod EndpointId
pub mod TextAnswer
pub mod Reading
pub mod Step
