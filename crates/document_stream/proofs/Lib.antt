mod Enough
mod Converted
mod Turns
mod Shallow
mod Listed
mod Refusals
mod Texts
