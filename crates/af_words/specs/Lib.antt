pub mod Dash
pub mod Requests
pub mod Asking
pub mod Words
