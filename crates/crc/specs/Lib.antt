-- private: the promise of `crc32` cites the definition of `checksum` alone
pub mod Folds
