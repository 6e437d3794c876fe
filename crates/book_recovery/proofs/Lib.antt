mod Left
mod Books
mod Found
