-- where reading a bundle stops, what stands before begins a spelling
mod FreshNumber
pub mod StopsBehindPrefix
pub mod ListStopsBehindPrefix
pub mod IdStopsBehindPrefix
mod HeaderStopsBehindPrefix
mod BlocksStopBehindPrefix
mod PartsStopBehindPrefix
mod PrimaryStopsBehindPrefix
mod BundleStopsBehindPrefix
-- with the token there no spelling begins
mod FaultyToken
mod FaultyHead
mod FaultyId
mod FaultyParts
mod FaultyBundle
-- ids and security blocks
mod Ids
mod Stopped
mod Heads
mod Values
mod Arrays
mod FreshTarget
mod Fields
mod Blocks
