mod Parted
mod Ids
mod Cursors
mod Fields
mod Blocks
mod Bundles
mod Apart
