pub mod Frame
pub mod Hello
pub mod Unread
