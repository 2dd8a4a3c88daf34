pub mod EachElement
