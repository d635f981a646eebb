-- What the contracts of `reply` cite: the report on a page, and the reply to a line.
pub mod Report
pub mod Reply
