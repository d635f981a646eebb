-- Laws of reports and replies.
pub mod Reports
pub mod Replies
