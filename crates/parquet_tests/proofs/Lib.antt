pub mod FilesGrow
