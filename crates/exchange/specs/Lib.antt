pub mod States
pub mod ExchangeLaws
