mod Maps
mod Sent
mod Leave
mod Settle
mod Home
mod Together
