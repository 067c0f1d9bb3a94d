-- What follows from a reply.
pub mod StrReplies
