pub mod CopiedBytes
