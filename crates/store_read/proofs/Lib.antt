mod Texts
mod Asked
mod Refused
