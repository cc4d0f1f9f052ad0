mod FirstBlock
mod Members
