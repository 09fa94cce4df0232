pub mod PushedText
