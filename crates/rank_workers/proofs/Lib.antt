mod Places
mod Dealing
mod Gathered
mod Driven
