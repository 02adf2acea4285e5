mod DefRows
mod ListRows
