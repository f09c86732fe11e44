pub mod KeyLemmas
pub mod BodyLemmas
pub mod ValueLemmas
pub mod FirstLemmas
pub mod RightLemmas
pub mod RecordLemmas
