mod Numbers
mod Steps
mod Reading
mod RowTokens
mod DocumentTokens
mod Printed
mod Depths
pub mod Floats
mod ReadBack
mod BytesBack
mod WordsBack
mod PublicsBack
mod OneBack
mod WishesBack
mod FieldsBack
mod PcrsBack
mod RowsBack
mod ElementsBack
mod DocumentsBack
pub mod CanonErased
mod Stands
