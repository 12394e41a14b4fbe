pub mod Connection
pub mod Reply
pub mod Server
pub mod Client
pub mod Steps
pub mod Agreement
pub mod Exchanges
pub mod Order2
