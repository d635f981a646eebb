-- Laws of a decoding: its cases, and the plain bytes.
pub mod EntryCases
