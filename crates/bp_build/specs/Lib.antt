pub mod BuildText
