mod Asked
mod Counted
mod Told
mod Headed
mod Parts
mod Rows
