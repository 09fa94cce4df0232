mod Numbers
mod InSomeOrder
mod Views
mod Keeps
