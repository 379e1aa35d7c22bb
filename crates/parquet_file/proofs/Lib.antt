pub mod GroupsRead
pub mod ChunksWritten
pub mod LeavesWritten
pub mod FilesBack
pub mod FilesWritten
pub mod SoundGroups
pub mod RowsHeld
pub mod ValuesRanged
