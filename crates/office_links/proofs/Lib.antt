mod First
mod Made
