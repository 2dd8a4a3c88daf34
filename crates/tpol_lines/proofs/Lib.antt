pub mod CommandLines
pub mod LabelLaws
pub mod Loads
pub mod Numbers
pub mod PlainNames
pub mod TextLaws
pub mod WholeLines
